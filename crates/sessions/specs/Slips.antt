-- Rows with one slip each. All of them must be missed: so a row is held to its answers, its fields, its places and its fresh call.
-- Assumes nothing.
use Rattle.std.specs.Prelude.{◌≡◌, List, [], ◌∷◌, map}
use Rattle.board.specs.Step.{answer}
use Rattle.sessions.specs.Rows.{bytes, control, fetch, strobe_to, ◌gives◌, ◌≔◌, some, every, Row, session, refused, mode, vector, waiting, name_of, missed}

-- what comes out is vector 32 at place 0, answered 0 0 32 0
abbrev pub slips : List Row
slips =
    session "the code of an answer" 1 (control 0 32 gives answer 1 0 32 0 ∷ []) []
    ∷ session "the place of an answer" 1 (control 0 32 gives answer 0 1 32 0 ∷ []) []
    ∷ session "the value of an answer" 1 (control 0 32 gives answer 0 0 33 0 ∷ []) []
    ∷ session "the request of an answer" 1 (control 0 32 gives answer 0 0 32 1 ∷ []) []
    ∷ session "an answer before the last" 1 (control 0 32 gives answer 0 0 33 0 ∷ fetch 0 gives answer 0 0 0 0 ∷ []) []
    ∷ session "an answer after the first" 1 (control 0 32 gives answer 0 0 32 0 ∷ fetch 0 gives answer 0 0 1 0 ∷ []) []
    ∷ session "the length of an event" 1 (bytes (3 ∷ 0 ∷ 32 ∷ []) gives answer 0 0 32 0 ∷ []) []
    ∷ session "a field" 1 (control 0 32 ∷ []) (some 0 (vector ≔ 34 ∷ []) ∷ [])
    ∷ session "a second field" 1 (control 0 32 ∷ []) (some 0 (vector ≔ 32 ∷ mode ≔ 0 ∷ []) ∷ [])
    ∷ session "the place of a field" 1 (control 0 32 ∷ []) (some 1 (vector ≔ 32 ∷ []) ∷ [])
    ∷ session "a second place" 1 (control 0 32 ∷ []) (some 0 (vector ≔ 32 ∷ []) ∷ some 1 (vector ≔ 32 ∷ []) ∷ [])
    ∷ session "a field not named" 1 (control 0 32 ∷ []) (every 0 [] ∷ [])
    ∷ session "a flag not named" 1 (strobe_to 0 0 ∷ strobe_to 0 1 ∷ []) (every 0 [] ∷ [])
    ∷ session "a field that is fresh" 1 (control 0 32 ∷ []) (every 0 (vector ≔ 32 ∷ waiting ≔ 1 ∷ []) ∷ [])
    ∷ session "the question for driven lines" 1 (control 0 32 ∷ []) (every 2 [] ∷ [])
    ∷ session "a size that is refused" 5 [] []
    ∷ refused "a size that is not refused" 1 [] []
    ∷ []

abbrev pub SlipsMissed : Type 0
SlipsMissed = missed slips ≡ map name_of slips
