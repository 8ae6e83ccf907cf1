-- The definitions of the text at work. Assumes nothing.
use Rattle.std.proofs.Common.{◌≡◌, ℕ, [], ◌∷◌, length, refl}
use Rattle.port.specs.declared.Port.{Port}
use Rattle.buffers.specs.Text.{ascii}
use Rattle.buffers.specs.Digits.{digits_up, digits_of}
use Rattle.buffers.specs.Rows.{row_of}
use Rattle.text.specs.Listing.{listing_of, tail_of}
use Rattle.text.specs.Panel.{row_of_place, size_from, refused_of}

-- document 01's whole listing, from its eleven answers
listing : listing_of 1
    (0 ∷ 0 ∷ 32 ∷ 0
    ∷ 0 ∷ 0 ∷ 15 ∷ 0
    ∷ 0 ∷ 0 ∷ 131 ∷ 0
    ∷ 0 ∷ 0 ∷ 0 ∷ 0
    ∷ 0 ∷ 0 ∷ 65 ∷ 0
    ∷ 0 ∷ 0 ∷ 0 ∷ 0
    ∷ 0 ∷ 0 ∷ 1 ∷ 1
    ∷ 2 ∷ 0 ∷ 32 ∷ 0
    ∷ 0 ∷ 0 ∷ 237 ∷ 0
    ∷ 0 ∷ 0 ∷ 77 ∷ 0
    ∷ 3 ∷ 0 ∷ 255 ∷ 0
    ∷ [])
    ≡ ascii "1 0 0 32 0\n2 0 0 15 0\n3 0 0 131 0\n4 0 0 0 0\n5 0 0 65 0\n6 0 0 0 0\n7 0 0 1 1\n8 2 0 32 0\n9 0 0 237 0\n10 0 0 77 0\n11 3 0 255 0\n"
unfolding listing_of row_of digits_of digits_up
listing = refl

-- eleven records and three bytes
tail : tail_of 47 ≡ ascii "tail 3\n"
unfolding tail_of row_of digits_of digits_up
tail = refl

-- a row of the panel has as many numbers as the line of columns has names
twenty : (place levels driven : ℕ) (p : Port) → length (row_of_place place p levels driven) ≡ 20
twenty place levels driven p = refl

-- arguments: sizes, and no sizes
four : size_from (ascii "4") ≡ 4
unfolding size_from
four = refl

no_size : size_from (ascii "257") ≡ 0
unfolding size_from
no_size = refl

no_number : size_from (ascii "2x") ≡ 0
unfolding size_from
no_number = refl

refused : refused_of 33 ≡ ascii "refused 33\n"
unfolding row_of digits_of digits_up
refused = refl
