-- The result of a poll of a flush attempt.
use Rattle.std.proofs.Common.{◌≡◌, true, ◌∷◌, Some, None, refl, ap}
use Rattle.fwd_table.specs.declared.outcome.Answer.{Answer}
use Rattle.fwd_flush.specs.declared.stage.Stage.{Stage}
use Rattle.fwd_flush.specs.declared.stage.Stage.TheVariants.{Opening, Writing, AwaitingAck, Ended}
use Rattle.fwd_flush.specs.declared.poll.Poll.TheVariants as poll
use Rattle.fwd_flush.specs.FlushProgram.{Progress, poll_in}
use Rattle.fwd_settings.specs.declared.settings_types.AllSettings.{AllSettings}
use Rattle.fwd_model.specs.Fact.{History, Route, OnRoute, InFlight}
use Rattle.fwd_model.specs.Chunks.{is_closed}
use Rattle.fwd_model.specs.Notes.{note}
use Rattle.fwd_model.specs.FlushActions.{applies_answer, stands, notes_stage}
use Rattle.fwd_engine_state.specs.StateRepresents.{StateRepresents}
use Rattle.fwd_engine_state.proofs.StreamSteps as input_streams
use Rattle.fwd_engine_state.proofs.FileSteps as followed_files
use Rattle.fwd_engine_state.proofs.OtherStoreFacts.{store_after_other_fact}
use Rattle.fwd_engine_state.specs.PartsRepresent.{PartsRepresent}
use Rattle.fwd_engine_state.specs.declared.parts.Parts.{Parts}
use Rattle.fwd_engine_state.proofs.InvariantSteps.{sound_flies}

waits_in : (s : AllSettings) (r : Route) (p : Progress) (h : History) (stage : Stage) → poll.Waiting ≡ poll_in stage → notes_stage s r p stage h ≡ note (OnRoute r (InFlight p)) h
waits_in s r p h Opening is = refl
waits_in s r p h (Writing link) is = refl
waits_in s r p h (AwaitingAck link) is = refl
waits_in s r p h (Ended answer) is = absurd (cc is)

pub poll_waiting : (s : AllSettings) (r : Route) (p : Progress) (h : History) → poll.Waiting ≡ poll_in p.stage → stands s r p h ≡ note (OnRoute r (InFlight p)) h
unfolding stands
poll_waiting s r p h is = waits_in s r p h p.stage is

ends_in : (s : AllSettings) (r : Route) (p : Progress) (h : History) (a : Answer) (stage : Stage) → poll.Ended a ≡ poll_in stage → notes_stage s r p stage h ≡ applies_answer s r a h
ends_in s r p h a Opening is = absurd (cc is)
ends_in s r p h a (Writing link) is = absurd (cc is)
ends_in s r p h a (AwaitingAck link) is = absurd (cc is)
ends_in s r p h a (Ended answer) is = let same : answer ≡ a = cc is in ap (λ (x : Answer). applies_answer s r x h) same

pub poll_ended : (s : AllSettings) (r : Route) (p : Progress) (h : History) (a : Answer) → poll.Ended a ≡ poll_in p.stage → stands s r p h ≡ applies_answer s r a h
unfolding stands
poll_ended s r p h a is = ends_in s r p h a p.stage is

-- the attempt of a closed chunk is in flight
pub represents_in_flight : (s : AllSettings) (old new : Parts) (h : History) (r : Route) (p : Progress)
    → new.input_streams ≡ old.input_streams → new.followed_files ≡ old.followed_files → new.store ≡ old.store → is_closed h r.chunk ≡ true
    → StateRepresents s new.state (OnRoute r (InFlight p) ∷ h) None → PartsRepresent s old h (Some r) None → PartsRepresent s new (OnRoute r (InFlight p) ∷ h) None None
represents_in_flight s old new h r p hears follows holds closed state shown = record {
  state = state;
  input_streams = rw hears (input_streams.streams_after_other_fact s old.input_streams h (OnRoute r (InFlight p)) refl shown.input_streams);
  followed_files = rw follows (followed_files.files_after_other_fact s old.followed_files h (OnRoute r (InFlight p)) refl shown.followed_files);
  store = rw holds (store_after_other_fact s old.store h (OnRoute r (InFlight p)) refl shown.store);
  sound = sound_flies s h None r (InFlight p) closed shown.sound;
}
