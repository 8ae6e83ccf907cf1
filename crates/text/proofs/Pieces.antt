-- A text that is made record by record can be made piece by piece: where a piece ends with a record, the text of what comes behind it,
-- from the state that the piece leaves and the number behind its last line on, stands behind the text of the piece. Over any state.
-- Assumes nothing.
use Rattle.std.proofs.Common.{◌≡◌, ℕ, suc, ◌+◌, ◌/◌, ◌%◌, ◌^◌, ◌<◌, List, [], ◌∷◌, ◌++◌, length, append_assoc, arith}
use Rattle.text.specs.Listing.{after, tail_of}

-- a record more or less leaves the tail as it is
pub tail_same : (n : ℕ) → tail_of (suc (suc (suc (suc n)))) ≡ tail_of n
unfolding tail_of
tail_same n = let e : suc (suc (suc (suc n))) % 4 ≡ n % 4 = omega arith in rw e

module _ {S : Type 0} (step : S → List ℕ → S) (page : ℕ → S → List ℕ → List ℕ) where
  -- the text of some bytes, and the state behind them: of none there is no text, and a record's page comes before the text of the rest
  pub record Paged (text : S → ℕ → List ℕ → List ℕ) (behind : S → List ℕ → S) : Type 0 where
    pub no_text : (s : S) (n : ℕ) → text s n [] ≡ []
    pub stays : (s : S) → behind s [] ≡ s
    pub first : (s : S) (n k p v z : ℕ) (rest : List ℕ)
        → text s n (k ∷ p ∷ v ∷ z ∷ rest) ≡ page n s (k ∷ p ∷ v ∷ z ∷ []) ++ text (step s (k ∷ p ∷ v ∷ z ∷ [])) (after n) rest
    pub goes : (s : S) (k p v z : ℕ) (rest : List ℕ) → behind s (k ∷ p ∷ v ∷ z ∷ rest) ≡ behind (step s (k ∷ p ∷ v ∷ z ∷ [])) rest

  pub pieces : {text : S → ℕ → List ℕ → List ℕ} {behind : S → List ℕ → S} → Paged text behind → (s : S) (n : ℕ) (piece more : List ℕ) → n < 2 ^ 64
      → length piece % 4 ≡ 0 → text s n (piece ++ more) ≡ text s n piece ++ text (behind s piece) ((n + length piece / 4) % 2 ^ 64) more
  pieces r s n [] more small h = let e : (n + 0) % 2 ^ 64 ≡ n = omega arith in rw (r.no_text s n, r.stays s, e)
  pieces r s n (k ∷ []) more small h = absurd (omega arith)
  pieces r s n (k ∷ p ∷ []) more small h = absurd (omega arith)
  pieces r s n (k ∷ p ∷ v ∷ []) more small h = absurd (omega arith)
  pieces r s n (k ∷ p ∷ v ∷ z ∷ rest) more small h =
      let e : (n + suc (suc (suc (suc (length rest)))) / 4) % 2 ^ 64 ≡ (after n + length rest / 4) % 2 ^ 64 = omega arith in
      let next = step s (k ∷ p ∷ v ∷ z ∷ []) in
      rw (
        r.first s n k p v z (rest ++ more),
        r.first s n k p v z rest,
        r.goes s k p v z rest,
        e,
        pieces r next (after n) rest more (omega arith) (omega arith),
      )
      (simp append_assoc)
