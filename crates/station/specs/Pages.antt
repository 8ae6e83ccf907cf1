-- What a program writes of the bytes that come, whatever pieces they come in.
-- Assumes nothing.
use Rattle.std.specs.Prelude.{◌≡◌, ℕ, ◌%◌, List, ◌++◌, length}
use Rattle.std.specs.Io.KnownBytes.{Consumes, Appends}
use Rattle.std.specs.declared.option.Option.{Option}

-- after a piece of whole records the text goes on: before the piece the text of some bytes was `text`, after it it is `next`
abbrev pub GoesOn : (List ℕ → List ℕ) → (List ℕ → List ℕ) → List ℕ → Type 0
GoesOn text next piece = length piece % 4 ≡ 0 → (more : List ℕ) → text (piece ++ more) ≡ text piece ++ next more

-- what was read is shown: of a reader's known bytes some were taken, and the text of these was added to a writer's
abbrev pub Shown : (List ℕ → List ℕ) → Option (List ℕ) → Option (List ℕ) → Option (List ℕ) → Option (List ℕ) → Type 0
Shown text unread left before after = (bytes : List ℕ) × Consumes unread left bytes × Appends before after (text bytes)
