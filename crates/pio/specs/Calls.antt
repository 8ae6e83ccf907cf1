-- What a call of each exported function promises, one record a function: the code that it returns, the board and every byte of the
-- buffers that it was lent, as they are after the call, for all arguments.
-- Assumes nothing.
use Rattle.std.specs.Prelude.{◌≡◌, List, ℕ, length}
use Rattle.board.specs.declared.Board.{Board}
use Rattle.board.specs.Board.{fresh_of}
use Rattle.board.specs.Step.{bytes_of}
use Rattle.run.specs.Run.{ran_of, buffer_of}
use Rattle.recording.specs.Wave.{exported_of, page_of}
use Rattle.pio.specs.Lent.{lent_of, lent_lines, lines_bytes, written}

-- pio_fresh
pub record FreshCall (size : ℕ) (r : ℕ) (after : Board) : Type 0 where
  pub code : r ≡ (fresh_of size).code
  pub board : after ≡ (fresh_of size).board

-- pio_step; `old` and `answer`: the answer buffer before and after
pub record StepCall (b : Board) (event old : List ℕ) (r : ℕ) (after : Board) (answer : List ℕ) : Type 0 where
  pub code : r ≡ (lent_of b event (length old)).answer.code
  pub board : after ≡ (lent_of b event (length old)).board
  pub buffer : answer ≡ written old (bytes_of (lent_of b event (length old)).answer)

-- pio_run; `old` and `answers`: the answer buffer before and after
pub record RunCall (b : Board) (events old : List ℕ) (start : ℕ) (r : ℕ) (after : Board) (answers : List ℕ) (records : ℕ) : Type 0 where
  pub code : r ≡ (ran_of b events old start).code
  pub board : after ≡ (ran_of b events old start).board
  pub buffer : answers ≡ buffer_of b events old start
  pub count : records ≡ (ran_of b events old start).records

-- pio_wave; `old` and `text`: the buffer for the text before and after
pub record WaveCall (b : Board) (events stamps old : List ℕ) (r : ℕ) (after : Board) (text : List ℕ) (written : ℕ) : Type 0 where
  pub code : r ≡ (exported_of b events stamps (length old)).code
  pub board : after ≡ (exported_of b events stamps (length old)).board
  pub buffer : text ≡ page_of b events stamps old
  pub count : written ≡ (exported_of b events stamps (length old)).length

-- pio_lines, which is lent a board to read alone; `old` and `lines`: the buffer before and after
pub record LinesCall (b : Board) (place : ℕ) (old : List ℕ) (r : ℕ) (lines : List ℕ) : Type 0 where
  pub code : r ≡ (lent_lines b place (length old)).code
  pub buffer : lines ≡ written old (lines_bytes (lent_lines b place (length old)))
