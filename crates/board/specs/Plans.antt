-- What holds of every plan on a sound board, whatever the event: the place that it names is on the board, and an answer that it knows has the
-- board's request. So has the answer of a refused event.
-- Assumes nothing.
use Rattle.std.specs.Prelude.{◌≡◌, ◌<◌, Bool, true, List, ℕ, length, Some, None, Ok, Err}
use Rattle.refusals.specs.declared.Refusal.{Refusal}
use Rattle.chain.specs.Chain.{most}
use Rattle.chain.specs.Marks.{marks_of, caller_of}
use Rattle.board.specs.declared.Board.{Board}
use Rattle.board.specs.declared.Doing.{Doing}
use Rattle.board.specs.declared.Look.{Look}
use Rattle.board.specs.declared.Plan.{Plan}
use Rattle.board.specs.declared.Plan.TheVariants.{Nothing, One, Each}
use Rattle.board.specs.Board.{sound_board}
use Rattle.board.specs.Halves.{index_of, read_of, plan_of, advanced_of}

-- the place of a plan for one chip, and the place that a RETI releases where every chip is swept, on a board of n chips
abbrev pub Within : ℕ → Plan → Type 0
Within n (Nothing a) = n ≡ n
Within n (One place touch) = index_of place < n
Within n (Each None sweep) = n ≡ n
Within n (Each (Some place) sweep) = index_of place < n

-- the request of an answer that a plan knows
abbrev pub Asking : ℕ → Plan → Type 0
Asking r (Nothing a) = a.request ≡ r
Asking r (One place touch) = r ≡ r
Asking r (Each freed sweep) = r ≡ r

pub record Plans (b : Board) (p : Plan) : Type 0 where
  pub there : Within b.size p
  pub asked : Asking (caller_of (marks_of b.size b.chips)) p

-- what a look at the board tells, but that a fetch is or is not due
abbrev pub look_at : Board → Bool → Look
look_at b due = record { marks = marks_of b.size b.chips; due = due; request = caller_of (marks_of b.size b.chips) }

pub record Planned (b : Board) (due : Bool) (e : List ℕ) : Type 0 where
  pub planned : (g : Doing) → read_of b.size e ≡ Ok g → Plans b (plan_of b.decoder (look_at b due) g)
  pub refused : (r : Refusal) → read_of b.size e ≡ Err r → (advanced_of b (look_at b due) e).answer.request ≡ caller_of (marks_of b.size b.chips)

abbrev pub EveryPlan : Type 0
EveryPlan = (b : Board) → sound_board b ≡ true → length b.chips ≡ most → (due : Bool) (e : List ℕ) → Planned b due e
