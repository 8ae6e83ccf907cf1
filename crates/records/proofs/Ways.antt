-- What a record comes to through the loop: in any case it is a step on a sound board, and keeps what is known of the board.
-- Assumes nothing.
use Rattle.std.specs.Prelude.{Ok}
use Rattle.std.specs.Simd.{first_chunks}
use mathlib.Core.Path.{◌≡◌, refl, sym, ap, ◌∙◌}
use mathlib.Core.Bool.{Bool, true, false, ◌&&◌, not}
use mathlib.Core.List.{List, [], ◌∷◌}
use Prim.Native.Nat.{ℕ, zero, suc, ◌+◌, ◌*◌, ◌/◌, ◌≤◌, ◌<◌}
use native.Mathlib.Nat.{not-suc-le-zero, le_of_suc-le-suc}
use native.Mathlib.Omega.{arith}
use lib.Dec.{ltb, leb}
use lib.ListN.{length, take, drop, get_or, set, length-take, length-drop}
use lib.Seq.{length-take-le, get_or-take, get_or-drop, get_or-set_same}
use borrow.Author.Tests.{lt-ltb, leb-true, eqb-true}
use Rattle.bits.specs.Bits.{◌is◌}
use Rattle.bits.proofs.Logic.{both}
use Rattle.buffers.specs.Splice.{splice}
use Rattle.buffers.proofs.Splices.{four}
use Rattle.buffers.proofs.Chunks.{chunk_at}
use Rattle.chip.specs.declared.Chip.{Chip}
use Rattle.chip.specs.Sound.{sound_chip}
use Rattle.events.specs.declared.Event.{Event}
use Rattle.events.specs.Act.{Acting, act_of}
use Rattle.events.proofs.Outcomes.{acting_is}
use Rattle.chain.specs.declared.Decoder.{Decoder}
use Rattle.chain.specs.Chain.{most, side_of}
use Rattle.chain.specs.Decode.{next_of, reti_of}
use Rattle.board.specs.declared.Board.{Board}
use Rattle.board.specs.declared.Answer.{Answer}
use Rattle.board.specs.declared.Doing.TheVariants.{At}
use Rattle.board.specs.declared.Look.{Look}
use Rattle.board.specs.declared.Touched.{Touched}
use Rattle.board.specs.Board.{there, sound_all, sound_board}
use Rattle.board.specs.Step.{kind_of, place_of, value_of, last_of, doing_of, answer, bytes_of, step_of}
use Rattle.board.specs.Halves.{noted_of, read_of, freed_of, fetch_plan, blank, index_of, chip_at, touched_by, acted_of, touched_of, Advanced, advanced, changed_of, carried, advanced_of, stepped}
use Rattle.board.proofs.Ways.{off}
use Rattle.board.proofs.Quick.{parts}
use Rattle.board.proofs.Halves.{size_fits}
use Rattle.board.proofs.Kept.{Kept, planned_within, advances, keeps}
use Rattle.records.specs.Fast.{idles_of}
use Rattle.records.proofs.Turns.{Running, turn}

pub bytes_four : (a : Answer) (xs : List ℕ) → xs ≡ bytes_of a → length xs ≤ 4
unfolding bytes_of
bytes_four a xs e = rw e (omega arith)

-- ---- before record i: it is there, its bytes are `event`, and there is room for its answer
pub record Going (es old : List ℕ) (start : ℕ) (b₀ : Board) (out : List ℕ) (b : Board) (l : Look) (i : ℕ) (event : List ℕ) : Type 0 where
  pub running : Running es old start b₀ (length es / 4) out b i
  pub kept : Kept b l
  pub more : i < length es / 4
  pub room : start + length es / 4 ≤ length old / 4
  pub cut : event ≡ take 4 (drop (4 * i) es)
  pub byte : get_or es (4 * i + 2) 0 < 256

-- a chunk of the events is a record
pub going : (es old : List ℕ) (start : ℕ) (b₀ : Board) (out : List ℕ) (b : Board) (l : Look) (i : ℕ) (chunks : List (List ℕ)) → Running es old start b₀ (length es / 4) out b i
    → Kept b l → i < length es / 4 → start + length es / 4 ≤ length old / 4 → chunks ≡ first_chunks 4 (length es / 4) es → get_or es (4 * i + 2) 0 < 256
    → Going es old start b₀ out b l i (get_or chunks i [])
going es old start b₀ out b l i chunks w k m r c v =
    record { running = w; kept = k; more = m; room = r; cut = rw c (chunk_at 4 (length es / 4) i es m); byte = v }

module _ {es old : List ℕ} {start : ℕ} {b₀ : Board} {out : List ℕ} {b : Board} {l : Look} {i : ℕ} {event : List ℕ} (g : Going es old start b₀ out b l i event) where
  pub room_here : 4 * (start + i) + 4 ≤ length out
  room_here = omega (arith, g.room, g.more, g.running.long)

  long : length event ≡ 4
  long = ap length g.cut ∙ length-take-le 4 (drop (4 * i) es) (omega (arith, g.more, length-drop (4 * i) es))

  small : ltb (value_of event) 256 ≡ true
  small = rw (g.cut, get_or-take 4 (drop (4 * i) es) 2 0 (omega arith), get_or-drop (4 * i) es 2 0) (lt-ltb (get_or es (4 * i + 2) 0) 256 g.byte)

  -- any record
  pub advance_turn : (a : Advanced) (out' : List ℕ) → a ≡ advanced_of b l event → out' ≡ splice out (4 * (start + i)) (bytes_of a.answer)
      → Running es old start b₀ (length es / 4) out' a.board (i + 1) × Kept a.board a.look
  advance_turn a out' e o = (
    turn es old start b₀ (length es / 4) (stepped a) out' g.running g.more (omega arith) (omega (arith, g.room))
        (ap stepped e ∙ advances b l g.kept event long ∙ ap (step_of b) g.cut) o,
    rw e (keeps b l g.kept event long small),
  )

-- ---- a fetch that changes the decoder alone
record Idles (d : Decoder) (due : Bool) (event : List ℕ) : Type 0 where
  kind : kind_of event ≡ 1
  place : place_of event ≡ 0
  last : last_of event ≡ 0
  quiet : due ≡ false
  plain : reti_of d (value_of event) ≡ false

idles_tell : (d : Decoder) (due : Bool) (event : List ℕ) → idles_of d due event ≡ true → Idles d due event
unfolding idles_of
idles_tell d due event h =
    let b = kind_of event is 1 in
    let c = place_of event is 0 in
    let e = last_of event is 0 in
    let x₁ = both (b && c && e && not due) (not (reti_of d (value_of event))) h in
    let x₂ = both (b && c && e) (not due) x₁.0 in
    let x₃ = both (b && c) e x₂.0 in
    let x₄ = both b c x₃.0 in
    record {
      kind = eqb-true (kind_of event) 1 x₄.0;
      place = eqb-true (place_of event) 0 x₄.1;
      last = eqb-true (last_of event) 0 x₃.1;
      quiet = off due x₂.1;
      plain = off (reti_of d (value_of event)) x₁.1;
    }

-- such an event, byte by byte
passed : {d : Decoder} {due : Bool} (event : List ℕ) → length event ≡ 4 → Idles d due event → 1 ∷ 0 ∷ value_of event ∷ 0 ∷ [] ≡ event
passed event h k =
    ap (λ (x : ℕ). x ∷ 0 ∷ value_of event ∷ 0 ∷ []) (sym k.kind)
    ∙ ap (λ (x : ℕ). kind_of event ∷ x ∷ value_of event ∷ 0 ∷ []) (sym k.place)
    ∙ ap (λ (x : ℕ). kind_of event ∷ place_of event ∷ value_of event ∷ x ∷ []) (sym k.last)
    ∙ four event h

-- a sound board has a chip
size_some : (b : Board) → sound_board b ≡ true → 1 ≤ b.size
size_some b s = leb-true 1 b.size (both (leb 1 b.size) (leb b.size most) (parts b s).0).0

abbrev pub with_decoder : Board → Decoder → Board
with_decoder b d = record { size = b.size; chips = b.chips; decoder = d }

passes : (b : Board) (l : Look) (v : ℕ) → 1 ≤ b.size → l.due ≡ false → reti_of b.decoder v ≡ false
    → advanced (with_decoder b (next_of b.decoder v)) l (answer 0 0 v l.request) ≡ advanced_of b l (1 ∷ 0 ∷ v ∷ 0 ∷ [])
unfolding advanced_of read_of doing_of fetch_plan freed_of carried
passes b l v s d r = rw (lt-ltb 0 (b.size * 2) (omega (arith, s)), d, r)

-- ---- the chip at an index of a sound board
sound_at : (cs : List Chip) (k : ℕ) → sound_all cs ≡ true → k < length cs → sound_chip (get_or cs k blank) ≡ true
sound_at [] k h n = absurd (not-suc-le-zero n)
sound_at (c ∷ cs) zero h n = (both (sound_chip c) (sound_all cs) h).0
sound_at (c ∷ cs) (suc k) h n = sound_at cs k (both (sound_chip c) (sound_all cs) h).1 (le_of_suc-le-suc n)

chip_sound : (b : Board) (k : ℕ) → sound_board b ≡ true → length b.chips ≡ most → k < b.size → sound_chip (get_or b.chips k blank) ≡ true
chip_sound b k s row h =
    rw (← get_or-take b.size b.chips k blank h)
    (sound_at (there b) k (parts b s).1 (omega (arith, h, length-take b.size b.chips, row, size_fits b s row)))

module _ {es old : List ℕ} {start : ℕ} {b₀ : Board} {out : List ℕ} {b : Board} {l : Look} {i : ℕ} {event : List ℕ} (g : Going es old start b₀ out b l i event) where
  pub passing_turn : (d : Decoder) (out' : List ℕ) → idles_of b.decoder l.due event ≡ true → d ≡ next_of b.decoder (value_of event)
      → out' ≡ splice out (4 * (start + i)) (0 ∷ 0 ∷ value_of event ∷ l.request ∷ [])
      → Running es old start b₀ (length es / 4) out' (with_decoder b d) (i + 1) × Kept (with_decoder b d) l
  unfolding bytes_of
  passing_turn d out' t e o =
      let k = idles_tell b.decoder l.due event t in
      let v = value_of event in
      let whole = passed event (long g) k in
      advance_turn g (advanced (with_decoder b d) l (answer 0 0 v l.request)) out'
      (rw e (passes b l v (size_some b g.kept.sound) k.quiet k.plain ∙ ap (advanced_of b l) whole)) o

  -- ---- an event of kinds 3 to 7
  acts : (place : ℕ) (e : Event) (v : ℕ) → read_of b.size (event) ≡ Ok (At place e) → v ≡ value_of event
      → changed_of b l place (touched_by place (act_of (side_of place) e v (chip_at b place))) ≡ advanced_of b l (event)
  unfolding advanced_of carried touched_of acted_of
  acts place e v r q = rw (r, ← q) (ap (λ (t : Touched). changed_of b l place t) (ap (touched_by place) (sym (acting_is (side_of place) e v (chip_at b place)))))

  pub act_turn : (place : ℕ) (e : Event) (c : Chip) (code shown : ℕ) (m : Look) (out' : List ℕ) → read_of b.size (event) ≡ Ok (At place e)
      → (sound_chip (chip_at b place) ≡ true → record { chip = c; code = code; value = shown } ≡ act_of (side_of place) e (value_of event) (chip_at b place))
      → m ≡ noted_of l (index_of place) (get_or (set b.chips (index_of place) c) (index_of place) blank) → out' ≡ splice out (4 * (start + i)) (code ∷ place ∷ shown ∷ m.request ∷ [])
      → Running es old start b₀ (length es / 4) out' (record { size = b.size; chips = set b.chips (index_of place) c; decoder = b.decoder }) (i + 1)
      × Kept (record { size = b.size; chips = set b.chips (index_of place) c; decoder = b.decoder }) m
  unfolding changed_of bytes_of
  act_turn place e c code shown m out' r f n o =
      let h = planned_within b l g.kept (event) (At place e) r in
      let x = f (chip_sound b (index_of place) g.kept.sound g.kept.known.row h) in
      let k : index_of place < length b.chips = omega (arith, h, g.kept.known.row, size_fits b g.kept.sound g.kept.known.row) in
      let s = get_or-set_same b.chips (index_of place) c blank k in
      advance_turn g (advanced (record { size = b.size; chips = set b.chips (index_of place) c; decoder = b.decoder }) m (answer code place shown m.request)) out'
      (rw (n, s) (ap (λ (a : Acting). changed_of b l place (touched_by place a)) x) ∙ acts place e (value_of event) r refl) o
