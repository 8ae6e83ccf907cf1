-- What the promise of the writers fixes: document 01, "prove that two results meeting it are equal".
-- Assumes nothing.
use Rattle.std.specs.Prelude.{◌≡◌, List, ℕ}
use Rattle.buffers.specs.Splice.{Wrote}

-- two writers that keep the promise for one block leave the same buffer and answer the same index
abbrev pub OneWriting : Type 0
OneWriting = (old new other block : List ℕ) (at next index : ℕ) → Wrote old at block new next → Wrote old at block other index
    → (new ≡ other) × (next ≡ index)
