-- What each way out of the first half gives, of any values.
-- Assumes nothing.
use Rattle.std.specs.Prelude.{Option, Some, None, Ok, Err}
use mathlib.Core.Path.{◌≡◌}
use mathlib.Core.Bool.{Bool, true, false, ◌&&◌, ◌||◌, not}
use mathlib.Core.List.{List, [], ◌∷◌}
use Prim.Native.Nat.{ℕ, zero, suc, ◌+◌, ◌*◌, ◌/◌, ◌%◌, ◌-◌, ◌≤◌, ◌<◌}
use native.Mathlib.Omega.{arith}
use lib.Dec.{ltb}
use lib.ListN.{length}
use borrow.Author.Tests.{ne_eqb, lt-ltb, le-ltb, ltb-true, ltb-false}
use Rattle.bits.specs.Bits.{◌is◌}
use Rattle.bits.proofs.Logic.{by_cases}
use Rattle.refusals.specs.declared.Refusal.TheVariants.{Kind, Place, Value}
use Rattle.events.specs.declared.Event.{Event}
use Rattle.events.specs.Act.{event_of}
use Rattle.chain.specs.declared.Decoder.{Decoder}
use Rattle.chain.specs.Decode.{reti_of}
use Rattle.chain.specs.Marks.{Marks, up, holder_of}
use Rattle.board.specs.declared.Doing.TheVariants.{Reset, Fetch, Acknowledge, At}
use Rattle.board.specs.Step.{kind_of, place_of, value_of, last_of, place_bad, value_bad, doing_of}
use Rattle.board.specs.Halves.{read_of, freed_of}

-- ---- the refusals that need no look at a port
-- `place / 2 < size` never forms the number of places
half_below : (place size : ℕ) → ltb (place / 2) size ≡ ltb place (size * 2)
half_below place size =
    by_cases (ltb place (size * 2))
    (λ e. rw e (lt-ltb (place / 2) size (omega (arith, ltb-true place (size * 2) e))))
    (λ e. rw e (le-ltb (place / 2) size (omega (arith, ltb-false place (size * 2) e))))

abbrev place_test : ℕ → ℕ → ℕ → Bool
place_test size kind place = not (ltb (place / 2) size) || (ltb kind 3 && not (place is 0))

place_test_lem : (size kind place : ℕ) (t : Bool) → place_test size kind place ≡ t → place_bad size kind place ≡ t
place_test_lem size kind place t e = rw (← half_below place size) e

module _ (size : ℕ) (e : List ℕ) where
  pub kind_refused : 7 < kind_of e → Err Kind ≡ read_of size e
  unfolding read_of
  kind_refused h = rw (lt-ltb 7 (kind_of e) h)

  pub place_refused : kind_of e ≤ 7 → place_test size (kind_of e) (place_of e) ≡ true → Err Place ≡ read_of size e
  unfolding read_of
  place_refused h p = rw (le-ltb 7 (kind_of e) h, place_test_lem size (kind_of e) (place_of e) true p)

  module _ (h : kind_of e ≤ 7) (p : place_test size (kind_of e) (place_of e) ≡ false) where
    pub value_refused : value_bad (kind_of e) (value_of e) (last_of e) ≡ true → Err Value ≡ read_of size e
    unfolding read_of
    value_refused v = rw (le-ltb 7 (kind_of e) h, place_test_lem size (kind_of e) (place_of e) false p, v)

    module _ (v : value_bad (kind_of e) (value_of e) (last_of e) ≡ false) where
      reads : Ok (doing_of e) ≡ read_of size e
      unfolding read_of
      reads = rw (le-ltb 7 (kind_of e) h, place_test_lem size (kind_of e) (place_of e) false p, v)

      pub reads_reset : kind_of e ≡ 0 → Ok Reset ≡ read_of size e
      unfolding doing_of
      reads_reset i = let d : Reset ≡ doing_of e = rw i in rw (← reads, ← d)

      pub reads_fetch : kind_of e ≡ 1 → Ok (Fetch (value_of e)) ≡ read_of size e
      unfolding doing_of
      reads_fetch i = let d : Fetch (value_of e) ≡ doing_of e = rw i in rw (← reads, ← d)

      pub reads_acknowledge : kind_of e ≡ 2 → Ok Acknowledge ≡ read_of size e
      unfolding doing_of
      reads_acknowledge i = let d : Acknowledge ≡ doing_of e = rw i in rw (← reads, ← d)

      pub reads_place : (x : Event) → (kind_of e ≡ 0 → ⊥) → (kind_of e ≡ 1 → ⊥) → (kind_of e ≡ 2 → ⊥) → x ≡ event_of (kind_of e) (value_of e) → Ok (At (place_of e) x) ≡ read_of size e
      unfolding doing_of
      reads_place x i j k q =
          let d : At (place_of e) x ≡ doing_of e = rw (ne_eqb (kind_of e) 0 i, ne_eqb (kind_of e) 1 j, ne_eqb (kind_of e) 2 k, q) in
          rw (← reads, ← d)

-- ---- the place that a RETI releases
-- marks of so many chips name a place of one of them
pub holder_small : (ms : Marks) → holder_of ms ≤ 2 * length ms + 1
unfolding holder_of
holder_small [] = omega arith
holder_small (m ∷ ms) = by_cases (m / 4 % 4 is 0) (λ t. rw t (omega (arith, holder_small ms, up_small (holder_of ms)))) (λ t. rw t (omega arith))
  where
    up_small : (n : ℕ) → up n ≤ n + 2
    up_small zero = omega arith
    up_small (suc n) = omega arith

module _ (d : Decoder) (marks : Marks) (byte : ℕ) (t : Bool) (e : t ≡ reti_of d byte) where
  pub frees_nobody : t ≡ false → None ≡ freed_of d marks byte
  unfolding freed_of
  frees_nobody f = rw (← e, f)

  pub frees_none : (r : Option ℕ) → t ≡ true → 0 ≡ holder_of marks → r ≡ None → r ≡ freed_of d marks byte
  unfolding freed_of
  frees_none r f k i = rw (← e, f, ← k) i

  pub frees_held : (place : ℕ) → t ≡ true → place + 1 ≡ holder_of marks → Some place ≡ freed_of d marks byte
  unfolding freed_of
  frees_held place f k =
      let s : place + 1 - 1 ≡ place = omega arith in
      rw (← e, f, ← k, ne_eqb (place + 1) 0 (λ z. omega (arith, z)), s)
