use Rattle.std.proofs.Common.{◌≡◌, ℕ, List, ◌∷◌, refl}
use Rattle.fwd_outside.specs.declared.happening.Happening.{Happening}
use Rattle.fwd_outside.specs.declared.happening.Happening.TheVariants as happening
use Rattle.fwd_model.specs.Fact.{Happened}
use Rattle.fwd_model.specs.FlushActions.{at_room, at_reply, at_break}
use Rattle.fwd_model.specs.StepActions.{step}
use Rattle.fwd_model.specs.CallLogs.{CallLogs}
use Rattle.fwd_model.proofs.Refinement.{refines_note_then, refines_at, completes_note}
use Rattle.fwd_engine.proofs.EventFacts.{represents_after_event}
use Rattle.fwd_engine.proofs.dispatch.step.Goals as goal

pub returns-in-Piece-clause-acts : goal.returns-in-Piece-clause-acts
returns-in-Piece-clause-acts g c others h shows =
    let s = c.args.run.now in
    let v = λ (files : _). record others { files = files } in
    rw c.in-Piece.is (refines_at _ _ _ (λ (bs : List ℕ). step s (happening.Piece c.in-Piece.input c.in-Piece.conn bs) h) _ _ _ c.as_slice-bytes.ensures (c.receive_bytes.ensures.acts (v _) h shows))

pub returns-in-Room-clause-acts : goal.returns-in-Room-clause-acts
unfolding step
returns-in-Room-clause-acts g c others h shows =
    let s = c.args.run.now in
    let v = λ (files : _). record others { files = files } in
    let brought : Happening = happening.Room c.in-Room.link in
    rw c.in-Room.is (refines_note_then _ _ _ (Happened brought) h (at_room s c.in-Room.link.0) _ (c.room.ensures.acts (v _) (Happened brought ∷ h) (represents_after_event s _ h brought refl refl shows)))

pub returns-in-Back-clause-acts : goal.returns-in-Back-clause-acts
unfolding step
returns-in-Back-clause-acts g c others h shows =
    let s = c.args.run.now in
    let v = λ (files : _). record others { files = files } in
    let brought : Happening = happening.Back c.in-Back.link c.in-Back.bytes in
    rw c.in-Back.is (refines_note_then _ _ _ (Happened brought) h (at_reply s c.in-Back.link.0 c.in-Back.bytes) _
    (refines_at _ _ _ (λ (bs : List ℕ). at_reply s c.in-Back.link.0 bs (Happened brought ∷ h)) _ _ _ c.as_slice.ensures
    (c.back.ensures.acts (v _) (Happened brought ∷ h) (represents_after_event s _ h brought refl refl shows))))

pub returns-in-Broken-clause-acts : goal.returns-in-Broken-clause-acts
unfolding step
returns-in-Broken-clause-acts g c others h shows =
    let s = c.args.run.now in
    let v = λ (files : _). record others { files = files } in
    let brought : Happening = happening.Broken c.in-Broken.link in
    rw c.in-Broken.is (refines_note_then _ _ _ (Happened brought) h (at_break s c.in-Broken.link.0) _ (c.broken.ensures.acts (v _) (Happened brought ∷ h) (represents_after_event s _ h brought refl refl shows)))

pub returns-in-InputEnd-clause-acts : goal.returns-in-InputEnd-clause-acts
returns-in-InputEnd-clause-acts g c others h shows =
    let v = λ (files : _). record others { files = files } in
    rw c.in-InputEnd.is (c.finish.ensures.acts (v _) h shows)

pub returns-in-Stop-clause-acts : goal.returns-in-Stop-clause-acts
returns-in-Stop-clause-acts g c others h shows =
    let v = λ (files : _). record others { files = files } in
    rw c.in-Stop.is (c.stop.ensures.acts (v _) h shows)

pub returns-in-End-clause-acts : goal.returns-in-End-clause-acts
unfolding step
returns-in-End-clause-acts g c others h shows =
    let s = c.args.run.now in
    rw c.in-End.is (completes_note _ _ (Happened happening.End) h (represents_after_event s _ h happening.End refl refl shows))

pub returns-in-Failed-clause-acts : goal.returns-in-Failed-clause-acts
unfolding step
returns-in-Failed-clause-acts g c others h shows =
    let s = c.args.run.now in
    rw c.in-Failed.is (completes_note _ _ (Happened happening.Failed) h (represents_after_event s _ h happening.Failed refl refl shows))
