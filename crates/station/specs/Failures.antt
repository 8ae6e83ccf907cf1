-- What a failure is said to be: the system's words, without the number that std puts after them. Assumes nothing.
use Rattle.std.specs.Prelude.{ℕ, Bool, true, false, ◌&&◌, List, [], ◌∷◌, ◌++◌, if◌then◌else◌}
use Rattle.std.specs.Io.KnownBytes.{Appends}
use Rattle.std.specs.declared.option.Option.{Option}
use Rattle.bits.specs.Bits.{◌is◌}
use Rattle.buffers.specs.Text.{ascii}

-- whether a text begins with these bytes
abbrev pub begins : List ℕ → List ℕ → Bool
begins [] text = true
begins (b ∷ bs) [] = false
begins (b ∷ bs) (c ∷ cs) = b is c && begins bs cs

-- what stands before the first of these bytes, or the whole text where they do not stand
abbrev pub before : List ℕ → List ℕ → List ℕ
before bytes [] = []
before bytes (c ∷ cs) = if begins bytes (c ∷ cs) then [] else c ∷ before bytes cs

unfoldable pub why_of : List ℕ → List ℕ
why_of words = before (ascii " (os error ") words

-- what failed and the system's words for some error were added to a writer, in a line
abbrev pub Said : Option (List ℕ) → Option (List ℕ) → List ℕ → Type 0
Said before after what = (words : List ℕ) × Appends before after (what ++ ascii ": " ++ why_of words ++ ascii "\n")
