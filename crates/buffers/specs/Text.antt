-- Text as bytes. To be believed: a character of ASCII is one byte, its code.
use Rattle.std.specs.Prelude.{List, [], ◌∷◌, ℕ}
use Prim.Native.Char.{code}
use Prim.Native.String.{String, [] as none, ◌∷◌ as ◌then◌}

abbrev pub ascii : String → List ℕ
ascii none = []
ascii (c then s) = code c ∷ ascii s
