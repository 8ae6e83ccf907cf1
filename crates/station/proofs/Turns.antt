-- The text of what comes, written piece by piece. Assumes nothing.
use Rattle.std.proofs.Common.{◌≡◌, ℕ, ◌+◌, ◌%◌, List, [], ◌++◌, length, take, drop, refl, arith, take_at, append_assoc}
use Rattle.std.proofs.KnownBytes.{Consumes-nil, Consumes-trans, Appends-nil, Appends-trans}
use Rattle.std.specs.declared.option.Option.{Option}
use Rattle.std.specs.Io.KnownBytes.{Consumes, Appends}
use Rattle.buffers.specs.Splice.{splice, Wrote}
use Rattle.station.specs.Pages.{GoesOn, Shown}

-- what stands at the start of a buffer
pub written : {old new block : List ℕ} {n : ℕ} → Wrote old 0 block new n → take n new ≡ block
unfolding splice
written {old} {new} {block} {n} w = rw w.bytes (take_at block (drop (0 + length block) old) n (omega (arith, w.ends)))

-- between two pieces: these bytes were read, and their text is written
pub record Turn (text next : List ℕ → List ℕ) (unread left before after : Option (List ℕ)) : Type 0 where
  pub bytes : List ℕ
  pub shown : List ℕ
  pub read : Consumes unread left bytes
  pub taken : Appends before after shown
  pub goes : (more : List ℕ) → text (bytes ++ more) ≡ shown ++ next more

pub begin : (text : List ℕ → List ℕ) (unread before : Option (List ℕ)) → Turn text text unread unread before before
begin text unread before =
    record { bytes = []; shown = []; read = Consumes-nil unread; taken = Appends-nil before; goes = λ more. refl }

-- one more piece is read, and its text is written
module _ {text next : List ℕ → List ℕ} {unread left before after : Option (List ℕ)} (left' after' : Option (List ℕ)) (piece : List ℕ)
    (t : Turn text next unread left before after) (read : Consumes left left' piece) (taken : Appends after after' (next piece)) where
  pub turn : {next' : List ℕ → List ℕ} → GoesOn next next' piece → length piece % 4 ≡ 0 → Turn text next' unread left' before after'
  turn {next'} goes whole =
      record {
        bytes = t.bytes ++ piece;
        shown = t.shown ++ next piece;
        read = Consumes-trans _ _ _ _ _ t.read read;
        taken = Appends-trans _ _ _ _ _ t.taken taken;
        goes = λ more. rw (append_assoc t.bytes piece more, t.goes (piece ++ more), goes whole more) (simp append_assoc);
      }

  pub done : Shown text unread left' before after'
  done = (t.bytes ++ piece, Consumes-trans _ _ _ _ _ t.read read, rw (t.goes piece) (Appends-trans _ _ _ _ _ t.taken taken))
