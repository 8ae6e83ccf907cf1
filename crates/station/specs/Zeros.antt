-- A buffer before anything is written to it. Assumes nothing.
use Rattle.std.specs.Prelude.{ℕ, List, replicate}

unfoldable pub zeros_of : ℕ → List ℕ
zeros_of n = replicate n 0
