-- What a lent buffer holds at exit. To be believed: `splice` is the buffer with a block in the place of as many of its bytes, `if_room` is
-- the block where there is room for it and otherwise nothing, and `Wrote` is a writer's whole promise.
use Rattle.std.specs.Prelude.{◌≡◌, Bool, List, [], ◌++◌, ℕ, ◌+◌, leb, length, take, drop, if◌then◌else◌}

-- `old`, with `block` in the place of as many bytes from index `at` on
unfoldable pub splice : List ℕ → ℕ → List ℕ → List ℕ
splice old at block = take at old ++ block ++ drop (at + length block) old

-- are there `need` bytes in `old` from index `at` on?
abbrev pub has_room : List ℕ → ℕ → ℕ → Bool
has_room old at need = leb (at + need) (length old)

-- what is written of `block` by a writer that asks for `need` bytes from index `at` on: all of it, or nothing
unfoldable pub if_room : List ℕ → ℕ → ℕ → List ℕ → List ℕ
if_room old at need block = if has_room old at need then block else []

-- the promise of a writer: `new` is `old` with `block` at index `at`, and `next` is the index behind the block
pub record Wrote (old : List ℕ) (at : ℕ) (block new : List ℕ) (next : ℕ) : Type 0 where
  pub bytes : new ≡ splice old at block
  pub ends : next ≡ at + length block
