-- Document 02, Ask 1: the times of a recording. "The station writes beside the events a file of 2-byte stamps, low byte first, one per
-- event. The microsecond counter rolls over from 65,535 to 0, and two neighbouring stamps are always less than 65,536 apart."
-- Assumes nothing.
use Rattle.std.specs.Prelude.{ℕ, ◌+◌, ◌-◌, ◌*◌, ◌%◌, List, [], ◌∷◌, drop, slice_index}

-- the stamps in a file's bytes; a byte over is none
unfoldable pub stamps_of : List ℕ → List ℕ
stamps_of [] = []
stamps_of (low ∷ []) = []
stamps_of (low ∷ high ∷ rest) = (low + 256 * high) ∷ stamps_of rest

-- the wrapping difference of a stamp and the next
abbrev pub gap_of : ℕ → ℕ → ℕ
gap_of stamp next = (next + 65536 - stamp) % 65536

-- "Time is 0 at the first record and grows by the wrapping difference": the times of the records with these stamps, the first at `time`
unfoldable pub times_of : ℕ → List ℕ → List ℕ
times_of time [] = []
times_of time (s ∷ []) = time ∷ []
times_of time (s ∷ t ∷ ss) = time ∷ times_of (time + gap_of s t) (t ∷ ss)

-- ---- how the code asks for a stamp and for the time to the next; nothing here need be believed
-- stamp i
abbrev pub stamp_at : List ℕ → ℕ → ℕ
stamp_at bytes i = slice_index bytes (2 * i) + 256 * slice_index bytes (2 * i + 1)

-- from the first of these stamps to the next; where there is no next, 65,536, which no difference is
unfoldable pub gap_in : List ℕ → ℕ
gap_in [] = 65536
gap_in (s ∷ []) = 65536
gap_in (s ∷ t ∷ ss) = gap_of s t

-- from record i to the next
abbrev pub gap_from : List ℕ → ℕ → ℕ
gap_from bytes i = gap_in (stamps_of (drop (2 * i) bytes))
