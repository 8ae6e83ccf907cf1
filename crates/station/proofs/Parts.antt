-- Bytes that are read in two parts. Assumes nothing.
use Rattle.std.proofs.Common.{◌≡◌, ℕ, ◌+◌, ◌≤◌, List, ◌++◌, length, take, drop, ap, ◌∙◌, length-take-le}
use Rattle.std.proofs.lemmas.List.{take-append-le}
use Rattle.std.proofs.Math.Seq.{take-append-add}
use borrow.Rule.Slice.PartMut.{put_mid}

-- a buffer's first n bytes, and m bytes that were read to index n on
pub both_there : (n m k : ℕ) (buffer part : List ℕ) → n ≤ length buffer → m ≤ length part
    → take (n + m) (put_mid n k buffer part) ≡ take n buffer ++ take m part
both_there n m k buffer part few less =
    let long = length-take-le n buffer few in
    let all = take-append-add (take n buffer) (part ++ drop k (drop n buffer)) m in
    (rw long at all) ∙ ap (λ l. take n buffer ++ l) (take-append-le m part (drop k (drop n buffer)) less)
