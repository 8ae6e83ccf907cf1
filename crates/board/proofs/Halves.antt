-- The two halves of the code are the step: on a sound board, what the first half reads and the second half changes is `step_of`.
-- Assumes nothing.
use Rattle.std.specs.Prelude.{Option, Some, None, Result, Ok, Err, if◌then◌else◌}
use mathlib.Core.Path.{◌≡◌, refl, sym, ap, ap₂, ◌∙◌}
use mathlib.Core.Bool.{Bool, true, false, false≢true}
use mathlib.Core.List.{List, [], ◌∷◌, ◌++◌, map}
use Prim.Native.Nat.{ℕ, ◌+◌, ◌*◌, ◌/◌, ◌%◌, ◌-◌, ◌≤◌, ◌<◌}
use native.Mathlib.Omega.{arith}
use lib.Dec.{ltb, leb}
use lib.ListN.{length, length-take, get_or, set, drop, take-append-drop}
use lib.Seq.{set-get_or, get_or-take}
use borrow.Author.Tests.{eq-eqb, ne_eqb, eqb-true, ltb-true, leb-true}
use Rattle.bits.specs.Bits.{◌is◌}
use Rattle.bits.proofs.Logic.{by_cases, both}
use Rattle.bits.proofs.Tests.{if_on, if_off}
use Rattle.port.specs.Rules.{served, released}
use Rattle.refusals.specs.declared.Refusal.{Refusal}
use Rattle.refusals.specs.declared.Refusal.TheVariants.{NoForm, NotOnB}
use Rattle.refusals.specs.Numbers.{number_of, code_of}
use Rattle.words.specs.declared.Word.{Word}
use Rattle.chip.specs.declared.Chip.{Chip}
use Rattle.chip.specs.Chip.{is_b, port, on}
use Rattle.chip.specs.Chip as chip
use Rattle.events.specs.declared.Event.{Event}
use Rattle.events.specs.declared.Event.TheVariants.{Control, Write, Read, Strobe, Outside}
use Rattle.events.specs.Events.{heard}
use Rattle.events.specs.Act.{event_of, step_word, step, code_at, value_at, act_of}
use Rattle.events.proofs.Outcomes.{acting_is}
use Rattle.chain.specs.declared.Decoder.{Decoder}
use Rattle.chain.specs.Places.{adjust}
use Rattle.chain.specs.Chain.{most, asker, asks, holder, side_of, acknowledged, retired}
use Rattle.chain.specs.Decode.{reti_of}
use Rattle.chain.specs.Marks.{Marks, marked_of, marks_of, caller_of}
use Rattle.chain.proofs.Places.{adjust_length}
use Rattle.chain.proofs.Flat.{flat_length}
use Rattle.chain.proofs.Marks.{caller_is, holder_is, marks_set, renewed_is}
use Rattle.board.specs.declared.Board.{Board}
use Rattle.board.specs.declared.Answer.{Answer}
use Rattle.board.specs.declared.Doing.{Doing}
use Rattle.board.specs.declared.Doing.TheVariants.{Reset, Fetch, Acknowledge, At}
use Rattle.board.specs.declared.Touch.TheVariants.{Serve, Act}
use Rattle.board.specs.declared.Sweep.TheVariants.{Clear, Wake}
use Rattle.board.specs.declared.Plan.{Plan}
use Rattle.board.specs.declared.Plan.TheVariants.{Nothing, One, Each}
use Rattle.board.specs.declared.Touched.{Touched}
use Rattle.board.specs.Board.{there, ports, port_at, within, sound_board, request_of}
use Rattle.board.specs.Step.{kind_of, place_of, value_of, last_of, line, verdict, word_code, refusal, doing_of, decoder_after, taken, answer, answered, Stepped, accepted, refused, step_of}
use Rattle.board.specs.Halves.{noted_of, early_at, read_of, named_by, freed_of, release_plan, fetch_plan, acknowledge_plan, plan_of, blank, index_of, touched, touched_by, acted_of, touched_of, changed_of, carried, listened, advanced_of, stepped, unread, halves_of}
use Rattle.board.specs.Plans.{look_at}
use Rattle.board.proofs.Tables.{word_lines, refusal_is, place_there, read_is, by_read, by_heard, plain, event_plain, event_control}
use Rattle.board.proofs.Ports.{port_at_lem, none_released, none_answers, Still, fetch_free}
use Rattle.board.proofs.There.{take_within, drop_within, within_set}
use Rattle.board.proofs.Quick.{parts, quick, cleaned, after_quick}

-- ---- the request is the caller by the marks
pub request_is : (n : ℕ) (cs : List Chip) (d : Decoder) → caller_of (marks_of n cs) ≡ request_of (record { size = n; chips = cs; decoder = d })
unfolding request_of
request_is n cs d = caller_is n cs

-- ---- what an accepted event comes to
abbrev result : Board → Doing → ℕ → Stepped
result b g v = record { board = taken b g; answer = answered b g v (request_of (taken b g)) }

abbrev held : Board → List Chip → Decoder → Answer → Stepped
held b cs d a = record { board = record { size = b.size; chips = cs; decoder = d }; answer = a }

step_accepts : (b : Board) (e : List ℕ) → (length e is 4) ≡ true → refusal b e ≡ 0 → step_of b e ≡ result b (doing_of e) (value_of e)
unfolding step_of accepted
step_accepts b e l r = rw (l, r)

step_refuses : (b : Board) (e : List ℕ) (code : ℕ) → (length e is 4) ≡ true → refusal b e ≡ code → (code is 0) ≡ false → sound_board b ≡ true
    → step_of b e ≡ record { board = b; answer = answer code (place_of e) (value_of e) (request_of b) }
unfolding step_of refused
step_refuses b e code l r z s = rw (l, r, z, s)

module _ (b : Board) (s : sound_board b ≡ true) (len : length b.chips ≡ most) where
  pub size_fits : b.size ≤ most
  size_fits = leb-true b.size most (both (leb 1 b.size) (leb b.size most) (parts b s).0).1

  there_length : length (there b) ≡ b.size
  there_length = omega (arith, length-take b.size b.chips, len, size_fits)

  pub places : length (ports b) ≡ b.size * 2
  places = omega (arith, flat_length (there b), there_length)

  pub port_there : (place : ℕ) → place < b.size * 2 → port_at b place ≡ port (side_of place) (get_or b.chips (place / 2) blank)
  port_there place h = port_at_lem (there b) place _ (rw places h) ∙ ap (port (side_of place)) (get_or-take b.size b.chips (place / 2) blank (omega arith))

  pub index : (place : ℕ) → place < b.size * 2 → place / 2 % most ≡ place / 2
  index place h = omega (arith, size_fits)

  chips_are : (g : Doing) → quick b.decoder g (there b) ++ drop b.size b.chips ≡ (taken b g).chips
  unfolding taken
  chips_are g = ap (λ (l : List Chip). l ++ drop b.size b.chips) (sym (after_quick b.decoder g (there b) (parts b s).1))

  -- the chips x, an answer that only waits for its request: the event g
  settles : (g : Doing) (v : ℕ) (x : List Chip) (f : ℕ → Answer) → ((r : ℕ) → f r ≡ answered b g v r) → x ≡ quick b.decoder g (there b) ++ drop b.size b.chips
      → held b x (taken b g).decoder (f (caller_of (marks_of b.size x))) ≡ result b g v
  unfolding taken
  settles g v x f h e =
      ap (λ (y : List Chip). held b y (taken b g).decoder (f (caller_of (marks_of b.size y)))) (e ∙ chips_are g)
      ∙ ap (λ (a : Answer). record { board = taken b g; answer = a }) (ap f (request_is b.size (taken b g).chips (taken b g).decoder) ∙ h (request_of (taken b g)))

  -- one chip stored, and its mark
  settles_one : (g : Doing) (v i : ℕ) (c : Chip) (f : ℕ → Answer) → i < b.size → ((r : ℕ) → f r ≡ answered b g v r)
      → set b.chips i c ≡ quick b.decoder g (there b) ++ drop b.size b.chips
      → held b (set b.chips i c) (taken b g).decoder (f (caller_of (marked_of (marks_of b.size b.chips) i c))) ≡ result b g v
  settles_one g v i c f h p e =
      ap (λ (ms : Marks). held b (set b.chips i c) (taken b g).decoder (f (caller_of ms))) (sym (marks_set b.size b.chips i c h))
      ∙ settles g v (set b.chips i c) f p e

  stays : (x : List Chip) → x ≡ there b → b.chips ≡ x ++ drop b.size b.chips
  stays x e = sym (ap (λ (l : List Chip). l ++ drop b.size b.chips) e ∙ take-append-drop b.size b.chips)

  -- the chip of one place changed
  one : (g : Doing) (due : Bool) (place : ℕ) (x : Touched) → stepped (changed_of (listened b g) (look_at b due) place x)
      ≡ held b (set b.chips (index_of place) x.chip) (decoder_after b.decoder g) (answer x.code x.place x.value (caller_of (marked_of (marks_of b.size b.chips) (index_of place) x.chip)))
  unfolding changed_of noted_of
  one g due place x =
      ap (λ (r : ℕ). held b (set b.chips (index_of place) x.chip) (decoder_after b.decoder g) (answer x.code x.place x.value r))
      (renewed_is (marks_of b.size b.chips) (index_of place) x.chip (caller_of (marks_of b.size b.chips)) refl)

  -- ---- a reset
  does_reset : (due : Bool) (v : ℕ) → stepped (carried (listened b Reset) (look_at b due) (Each None Clear) v) ≡ result b Reset v
  unfolding carried taken
  does_reset due v = settles Reset v (within b.size (map cleaned) b.chips) (answer 0 0 v) (λ q. refl) refl

  -- ---- a fetch that releases nobody
  abbrev fetch_at : Bool → ℕ → Option ℕ → Plan
  fetch_at due v freed = if due then Each freed Wake else release_plan v (caller_of (marks_of b.size b.chips)) freed

  fetch_still : (v : ℕ) → reti_of b.decoder v ≡ false → quick b.decoder (Fetch v) (there b) ≡ map chip.fetch (there b)
  fetch_still v e = rw e

  fetch_nobody : (v : ℕ) → ltb (holder (ports b)) (length (ports b)) ≡ false → quick b.decoder (Fetch v) (there b) ≡ map chip.fetch (there b)
  fetch_nobody v e = by_cases (reti_of b.decoder v) (λ t. rw t (ap (map chip.fetch) (none_released (there b) e))) (λ t. rw t)

  does_fetch : (due : Bool) (v : ℕ) → (due ≡ false → Still (there b)) → quick b.decoder (Fetch v) (there b) ≡ map chip.fetch (there b)
      → stepped (carried (listened b (Fetch v)) (look_at b due) (fetch_at due v None) v) ≡ result b (Fetch v) v
  unfolding carried taken
  does_fetch true v right e = settles (Fetch v) v (within b.size (map chip.fetch) b.chips) (answer 0 0 v) (λ q. refl) (ap (λ (l : List Chip). l ++ drop b.size b.chips) (sym e))
  does_fetch false v right e = settles (Fetch v) v b.chips (answer 0 0 v) (λ q. refl) (stays (quick b.decoder (Fetch v) (there b)) (e ∙ right refl))

  -- ---- a fetch that ends a RETI: the port at the place k is released
  releasing : (k : ℕ) → k ≡ holder (ports b) → retired (there b) ≡ adjust (on (side_of k) released) (k / 2) (there b)
  unfolding retired
  releasing k e = rw e

  fetch_frees : (v k : ℕ) → reti_of b.decoder v ≡ true → k ≡ holder (ports b) → quick b.decoder (Fetch v) (there b) ≡ map chip.fetch (adjust (on (side_of k) released) (k / 2) (there b))
  fetch_frees v k t e = rw t (ap (map chip.fetch) (releasing k e))

  freed_row : (k : ℕ) → k < b.size * 2 → set b.chips (k / 2) (on (side_of k) released (get_or b.chips (k / 2) blank)) ≡ adjust (on (side_of k) released) (k / 2) (there b) ++ drop b.size b.chips
  freed_row k h = within_set (on (side_of k) released) blank b.size (k / 2) b.chips (omega arith)

  swept_freed : (k : ℕ) → k < b.size * 2
      → within b.size (map chip.fetch) (set b.chips (k / 2) (on (side_of k) released (get_or b.chips (k / 2) blank)))
      ≡ map chip.fetch (adjust (on (side_of k) released) (k / 2) (there b)) ++ drop b.size b.chips
  swept_freed k h =
      let x = adjust (on (side_of k) released) (k / 2) (there b) in
      let l : length x ≡ length (there b) = adjust_length (on (side_of k) released) (k / 2) (there b) in
      ap (within b.size (map chip.fetch)) (freed_row k h)
      ∙ ap₂ (λ (y z : List Chip). map chip.fetch y ++ z) (take_within b.size x b.chips l) (drop_within b.size x b.chips l)

  does_free : (due : Bool) (v k : ℕ) → (due ≡ false → Still (there b)) → reti_of b.decoder v ≡ true → k ≡ holder (ports b) → k < b.size * 2
      → stepped (carried (listened b (Fetch v)) (look_at b due) (fetch_at due v (Some k)) v) ≡ result b (Fetch v) v
  unfolding carried touched_of taken
  does_free true v k right t e h =
      rw (index k h)
      (settles (Fetch v) v (within b.size (map chip.fetch) (set b.chips (k / 2) (on (side_of k) released (get_or b.chips (k / 2) blank)))) (answer 0 0 v) (λ q. refl)
      (swept_freed k h ∙ ap (λ (l : List Chip). l ++ drop b.size b.chips) (sym (fetch_frees v k t e))))
  does_free false v k right t e h =
      one (Fetch v) false k (touched (on (side_of k) released (get_or b.chips (index_of k) blank)) 0 0 v)
      ∙ rw (index k h)
      (settles_one (Fetch v) v (k / 2) (on (side_of k) released (get_or b.chips (k / 2) blank)) (answer 0 0 v) (omega arith) (λ q. refl)
      (freed_row k h ∙ ap (λ (l : List Chip). l ++ drop b.size b.chips)
      (sym (fetch_frees v k t e ∙ fetch_free (side_of k) (k / 2) (there b) ∙ ap (adjust (on (side_of k) released) (k / 2)) (right refl)))))

  -- ---- an acknowledge
  does_nobody : (due : Bool) (v : ℕ) → asks (ports b) ≡ false
      → stepped (carried (listened b Acknowledge) (look_at b due) (Nothing (answer 3 0 255 (caller_of (marks_of b.size b.chips)))) v) ≡ result b Acknowledge v
  unfolding carried taken
  does_nobody due v e = settles Acknowledge v b.chips (answer 3 0 255) (λ q. rw e) (stays (acknowledged (there b)) (none_answers (there b) e))

  serving : (k : ℕ) → k ≡ asker (ports b) → acknowledged (there b) ≡ adjust (on (side_of k) served) (k / 2) (there b)
  unfolding acknowledged
  serving k e = rw e

  does_answer : (due : Bool) (v k : ℕ) → asks (ports b) ≡ true → k ≡ asker (ports b) → k < b.size * 2
      → stepped (carried (listened b Acknowledge) (look_at b due) (One k Serve) v) ≡ result b Acknowledge v
  unfolding carried touched_of taken
  does_answer due v k t e h =
      let c = get_or b.chips (index_of k) blank in
      one Acknowledge due k (touched (on (side_of k) served c) 2 k (port (side_of k) c).vector)
      ∙ rw (index k h)
      (settles_one Acknowledge v (k / 2) (on (side_of k) served (get_or b.chips (k / 2) blank)) (answer 2 k (port (side_of k) (get_or b.chips (k / 2) blank)).vector) (omega arith)
      (λ q. rw (t, ← e, port_there k h))
      (within_set (on (side_of k) served) blank b.size (k / 2) b.chips (omega arith) ∙ ap (λ (l : List Chip). l ++ drop b.size b.chips) (sym (serving k e))))

  -- ---- an event at a place
  abbrev chip_of : ℕ → Chip
  chip_of place = get_or b.chips (place / 2) blank

  answer_plain : (place v : ℕ) (e : Event) → place < b.size * 2 → plain e ≡ true → (q : ℕ)
      → answer (code_at (side_of place) e (chip_of place)) place (value_at (side_of place) e v (chip_of place)) q ≡ answered b (At place e) v q
  answer_plain place v (Control w) h p q = absurd (false≢true p)
  answer_plain place v (Write w) h p q = refl
  answer_plain place v Read h p q = rw (port_there place h)
  answer_plain place v (Strobe level) h p q = refl
  answer_plain place v (Outside w) h p q = refl

  -- what the table says of it
  abbrev acting : ℕ → Event → ℕ → Touched
  acting place e v =
      touched (step (side_of place) e (chip_of place)) (code_at (side_of place) e (chip_of place)) place (value_at (side_of place) e v (chip_of place))

  acts : (place v : ℕ) (e : Event) (c : Chip) → c ≡ chip_of place → touched_of c place (Act e) v ≡ acting place e v
  unfolding touched_of acted_of act_of
  acts place v e c i = rw i (ap (touched_by place) (acting_is (side_of place) e v (chip_of place)))

  placed : (due : Bool) (place v : ℕ) (e : Event) → place < b.size * 2
      → stepped (carried (listened b (At place e)) (look_at b due) (One place (Act e)) v)
      ≡ held b (set b.chips (place / 2) (acting place e v).chip) b.decoder
      (answer (acting place e v).code place (acting place e v).value (caller_of (marked_of (marks_of b.size b.chips) (place / 2) (acting place e v).chip)))
  unfolding carried
  placed due place v e h =
      ap (λ (x : Touched). stepped (changed_of (listened b (At place e)) (look_at b due) place x))
      (acts place v e (get_or b.chips (index_of place) blank) (ap (λ (k : ℕ). get_or b.chips k blank) (index place h)))
      ∙ one (At place e) due place (acting place e v)
      ∙ rw (index place h)

  does_at : (due : Bool) (place v : ℕ) (e : Event) → place < b.size * 2
      → ((q : ℕ) → answer (code_at (side_of place) e (chip_of place)) place (value_at (side_of place) e v (chip_of place)) q ≡ answered b (At place e) v q)
      → stepped (carried (listened b (At place e)) (look_at b due) (One place (Act e)) v) ≡ result b (At place e) v
  unfolding taken
  does_at due place v e h p =
      placed due place v e h
      ∙ settles_one (At place e) v (place / 2) (step (side_of place) e (chip_of place)) (answer (code_at (side_of place) e (chip_of place)) place (value_at (side_of place) e v (chip_of place)))
      (omega arith) p (within_set (step (side_of place) e) blank b.size (place / 2) b.chips (omega arith))

  -- a control byte that is refused
  does_nothing : (due : Bool) (place v w code : ℕ) → place < b.size * 2
      → code_of (heard (side_of place) w (chip_of place)) ≡ code → step_word (side_of place) (heard (side_of place) w (chip_of place)) (chip_of place) ≡ chip_of place
      → stepped (carried (listened b (At place (Control w))) (look_at b due) (One place (Act (Control w))) v) ≡ record { board = b; answer = answer code place v (request_of b) }
  unfolding step
  does_nothing due place v w code h c i =
      placed due place v (Control w) h
      ∙ rw (i, c)
      (ap (λ (ms : Marks). held b (set b.chips (place / 2) (chip_of place)) b.decoder (answer code place v (caller_of ms))) (sym (marks_set b.size b.chips (place / 2) (chip_of place) (omega arith)))
      ∙ ap (λ (x : List Chip). held b x b.decoder (answer code place v (caller_of (marks_of b.size x)))) (set-get_or b.chips (place / 2) blank)
      ∙ ap (λ (r : ℕ). record { board = b; answer = answer code place v r }) (request_is b.size b.chips b.decoder))

  -- ---- the event's four bytes
  pub named_is : (x : Bool) (k : ℕ) → named_by (if x then k + 1 else 0) ≡ (if x then Some k else None)
  named_is true k = let e : k + 1 - 1 ≡ k = omega arith in rw (ne_eqb (k + 1) 0 (λ n. omega (arith, n)), e)
  named_is false k = refl

  -- an event that isn't of four bytes
  short : (e : List ℕ) → (length e is 4) ≡ false → unread b ≡ step_of b e
  unfolding step_of
  short e n = rw n

  module _ (due : Bool) (right : due ≡ false → Still (there b)) (e : List ℕ) (l : (length e is 4) ≡ true) where
    abbrev ends : Doing → Stepped
    ends g = stepped (carried (listened b g) (look_at b due) (plan_of b.decoder (look_at b due) g) (value_of e))

    refuses : (r : Refusal) → read_of b.size e ≡ Err r → (number_of r is 0) ≡ false → record { board = b; answer = answer (number_of r) (place_of e) (value_of e) (caller_of (marks_of b.size b.chips)) } ≡ step_of b e
    refuses r h z =
        let i : early_at b.size e ≡ number_of r = sym (read_is b.size e) ∙ ap code_of h in
        ap (λ (q : ℕ). record { board = b; answer = answer (number_of r) (place_of e) (value_of e) q }) (request_is b.size b.chips b.decoder)
        ∙ sym (step_refuses b e (number_of r) l (refusal_is b e s ∙ if_off (early_at b.size e is 0) _ _ (rw i z) ∙ i) z s)

    module _ (a : read_of b.size e ≡ Ok (doing_of e)) where
      none_early : (early_at b.size e is 0) ≡ true
      none_early = eq-eqb (early_at b.size e) 0 (sym (read_is b.size e) ∙ ap code_of a)

      on_board : place_of e < b.size * 2
      on_board = place_there b.size (kind_of e) (place_of e) (value_of e) (last_of e) none_early

      words_left : refusal b e ≡ verdict (word_lines b e)
      words_left = refusal_is b e s ∙ if_on (early_at b.size e is 0) _ _ none_early

      takes : (g : Doing) → doing_of e ≡ g → (kind_of e is 3) ≡ false → ends g ≡ result b g (value_of e) → ends (doing_of e) ≡ step_of b e
      takes g i k h = ap ends i ∙ h ∙ sym (step_accepts b e l (words_left ∙ rw k) ∙ ap (λ (d : Doing). result b d (value_of e)) i)

      not_three : (m : ℕ) → (m is 3) ≡ false → (kind_of e is m) ≡ true → (kind_of e is 3) ≡ false
      not_three m n k = rw (eqb-true (kind_of e) m k) n

      fetches : (v : ℕ) → stepped (carried (listened b (Fetch v)) (look_at b due) (fetch_plan b.decoder (look_at b due) v) v) ≡ result b (Fetch v) v
      unfolding fetch_plan freed_of
      fetches v =
          by_cases (reti_of b.decoder v)
          (λ t. rw (t, holder_is b.size b.chips, named_is (ltb (holder (ports b)) (length (ports b))) (holder (ports b)))
          (by_cases (ltb (holder (ports b)) (length (ports b)))
          (λ u. rw u (does_free due v (holder (ports b)) right t refl (omega (arith, ltb-true (holder (ports b)) (length (ports b)) u, places))))
          (λ u. rw u (does_fetch due v right (fetch_nobody v u)))))
          (λ t. rw t (does_fetch due v right (fetch_still v t)))

      by_fetch : (kind_of e is 1) ≡ true → ends (doing_of e) ≡ step_of b e
      unfolding doing_of
      by_fetch k = takes (Fetch (value_of e)) (rw (eqb-true (kind_of e) 1 k)) (not_three 1 refl k) (fetches (value_of e))

      by_reset : (kind_of e is 0) ≡ true → ends (doing_of e) ≡ step_of b e
      unfolding doing_of
      by_reset k = takes Reset (rw k) (not_three 0 refl k) (does_reset due (value_of e))

      acknowledges : (v : ℕ) → stepped (carried (listened b Acknowledge) (look_at b due) (acknowledge_plan (caller_of (marks_of b.size b.chips))) v) ≡ result b Acknowledge v
      unfolding acknowledge_plan
      acknowledges v =
          by_cases (asks (ports b))
          (λ t. ap (λ (p : Plan). stepped (carried (listened b Acknowledge) (look_at b due) p v)) (rw (caller_is b.size b.chips, named_is (asks (ports b)) (asker (ports b)), t))
          ∙ does_answer due v (asker (ports b)) t refl (omega (arith, ltb-true (asker (ports b)) (length (ports b)) t, places)))
          (λ t. ap (λ (p : Plan). stepped (carried (listened b Acknowledge) (look_at b due) p v)) (rw (caller_is b.size b.chips, named_is (asks (ports b)) (asker (ports b)), t))
          ∙ does_nobody due v t)

      by_acknowledge : (kind_of e is 2) ≡ true → ends (doing_of e) ≡ step_of b e
      unfolding doing_of
      by_acknowledge k = takes Acknowledge (rw (eqb-true (kind_of e) 2 k)) (not_three 2 refl k) (acknowledges (value_of e))

      doing_at : (kind_of e is 0) ≡ false → (kind_of e is 1) ≡ false → (kind_of e is 2) ≡ false → doing_of e ≡ At (place_of e) (event_of (kind_of e) (value_of e))
      unfolding doing_of
      doing_at i j k = rw (i, j, k)

      -- the word that the table speaks of is the one that the chip hears
      word_is : word_code b (place_of e) (value_of e) ≡ code_of (heard (side_of (place_of e)) (value_of e) (chip_of (place_of e)))
      word_is = rw (port_there (place_of e) on_board)

      control_at : (kind_of e is 0) ≡ false → (kind_of e is 1) ≡ false → (kind_of e is 2) ≡ false → (kind_of e is 3) ≡ true → doing_of e ≡ At (place_of e) (Control (value_of e))
      control_at i j k t = doing_at i j k ∙ ap (At (place_of e)) (event_control (kind_of e) (value_of e) t)

      refuses_word : (r : Refusal) → heard (side_of (place_of e)) (value_of e) (chip_of (place_of e)) ≡ Err r → doing_of e ≡ At (place_of e) (Control (value_of e)) → (kind_of e is 3) ≡ true
          → verdict (line (number_of r is 19) 19 ∷ line (number_of r is 20) 20 ∷ []) ≡ number_of r → (number_of r is 0) ≡ false → ends (doing_of e) ≡ step_of b e
      refuses_word r h i t v z =
          ap ends i
          ∙ does_nothing due (place_of e) (value_of e) (value_of e) (number_of r) on_board (ap code_of h) (ap (λ (x : Result Word Refusal). step_word (side_of (place_of e)) x (chip_of (place_of e))) h)
          ∙ sym (step_refuses b e (number_of r) l (words_left ∙ rw (t, word_is, h) v) z s)

      by_control : (kind_of e is 0) ≡ false → (kind_of e is 1) ≡ false → (kind_of e is 2) ≡ false → (kind_of e is 3) ≡ true → ends (doing_of e) ≡ step_of b e
      by_control i j k t =
          let d = control_at i j k t in
          by_heard (port (side_of (place_of e)) (chip_of (place_of e))).awaiting (is_b (side_of (place_of e))) (value_of e)
          (λ w h.
          ap ends d ∙ does_at due (place_of e) (value_of e) (Control (value_of e)) on_board (λ q. rw h)
          ∙ sym (step_accepts b e l (words_left ∙ rw (t, word_is, h)) ∙ ap (λ (g : Doing). result b g (value_of e)) d))
          (λ h. refuses_word NoForm h d t refl refl)
          (λ h. refuses_word NotOnB h d t refl refl)

      by_place : (kind_of e is 0) ≡ false → (kind_of e is 1) ≡ false → (kind_of e is 2) ≡ false → ends (doing_of e) ≡ step_of b e
      by_place i j k =
          by_cases (kind_of e is 3) (by_control i j k)
          (λ t. takes (At (place_of e) (event_of (kind_of e) (value_of e))) (doing_at i j k) t
          (does_at due (place_of e) (value_of e) (event_of (kind_of e) (value_of e)) on_board
          (answer_plain (place_of e) (value_of e) (event_of (kind_of e) (value_of e)) on_board (event_plain (kind_of e) (value_of e) t))))

      goes_on : ends (doing_of e) ≡ step_of b e
      goes_on =
          by_cases (kind_of e is 1) by_fetch (λ j.
          by_cases (kind_of e is 0) by_reset (λ i.
          by_cases (kind_of e is 2) by_acknowledge (by_place i j)))

    four : stepped (advanced_of b (look_at b due) e) ≡ step_of b e
    unfolding advanced_of
    four = by_read b.size e (λ r h z. rw h (refuses r h z)) (λ a. rw a (goes_on a))

  -- THE HALVES ARE THE STEP
  pub halves : (due : Bool) → (due ≡ false → Still (there b)) → (e : List ℕ) → halves_of b (look_at b due) e ≡ step_of b e
  halves due right e = by_cases (length e is 4) (λ n. rw n (four due right e n)) (λ n. rw n (short e n))
