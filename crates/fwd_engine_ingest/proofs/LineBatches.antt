-- Batches of lines, accepted without an acknowledgement.
use Rattle.std.proofs.Common.{◌≡◌, ℕ, Bool, true, List, [], ◌∷◌, Option, Some, None, IfOk, Result, Ok, Err, refl, sym, ◌∙◌, ap, subst}
use Rattle.fwd_event.specs.declared.event.Event.{Event}
use Rattle.fwd_frames.specs.declared.line.Line.{Line}
use Rattle.fwd_filters.specs.declared.filter_step.FilterStep.{FilterStep}
use Rattle.fwd_filters.specs.FilterRelation.{AreMatching, IsFiltered}
use Rattle.fwd_filters.specs.FilterFunction.{matching, filtered}
use Rattle.fwd_filters.proofs.FilterFunction.{filtered_are}
use Rattle.fwd_filters.proofs.Matches.{filtered-none}
use Rattle.fwd_settings.specs.declared.settings_types.AllSettings.{AllSettings}
use Rattle.fwd_settings.specs.declared.settings_types.InputSet.{InputSet}
use Rattle.fwd_theorem_depth.specs.Shallow.{are_shallow}
use Rattle.fwd_theorem_depth.proofs.Shallow.{AllShallow, all_pass, all_tell}
use Rattle.fwd_theorem_depth.proofs.LineDepth.{parsed_shallow}
use Rattle.fwd_theorem_depth.proofs.FilterDepth.{filtered_shallow}
use Rattle.fwd_outside.specs.Program.{Return}
use Rattle.fwd_model.specs.Fact.{History, Batch}
use Rattle.fwd_model.specs.CallLogs.{CallLogs, IsBegun}
use Rattle.fwd_model.specs.Refines.{CompletedWith}
use Rattle.fwd_model.specs.Settings.{input_at, tag_at}
use Rattle.fwd_model.specs.Clock.{clock}
use Rattle.fwd_model.specs.Batches.{events_of, batch_of}
use Rattle.fwd_model.specs.Acceptance.{Acceptance, accepts, ingests}
use Rattle.fwd_model.proofs.Actions.{begun_bind}
use Rattle.fwd_model.proofs.Refinement.{completes_bind, completes_idle}
use Rattle.fwd_engine_state.specs.PartsRepresent.{PartsRepresentIdle}
use Rattle.fwd_engine_state.specs.declared.parts.Parts.{Parts}
use Rattle.fwd_engine_chunks.specs.BatchOutcome.{HoldsEvents}
use Rattle.fwd_engine_chunks.specs.declared.encoding.EncodedBatch.{EncodedBatch}

-- ---- events

-- the events that filters leave
pub filter_is : {E : Type 0} (steps : List FilterStep) (tag : List ℕ) (events want : List Event) (r : Result (List Event) E)
    → IfOk r (IsFiltered steps tag events) → filtered steps tag events ≡ want → IfOk r (λ left. left ≡ want)
filter_is steps tag events want (Ok left) are same = (filtered_are steps tag events left).0 are ∙ same
filter_is steps tag events want (Err e) are same = tt

pub shallow_left : (steps : List FilterStep) (tag : List ℕ) (events : List Event) → are_shallow events ≡ true → are_shallow (filtered steps tag events) ≡ true
shallow_left steps tag events are = all_pass (filtered steps tag events) (filtered_shallow (matching tag steps) events (all_tell events are))

parsed_all : (set : InputSet) (now : ℕ) (lines : List Line) → AllShallow (events_of (Some set) now lines)
parsed_all set now [] = tt
parsed_all set now (line ∷ lines) = (parsed_shallow set.parser line.bytes now, parsed_all set now lines)

read_shallow : (input : Option InputSet) (now : ℕ) (lines : List Line) → are_shallow (events_of input now lines) ≡ true
read_shallow None now lines = refl
read_shallow (Some set) now lines = all_pass (events_of (Some set) now lines) (parsed_all set now lines)

-- the events of lines
pub batch_shallow : {E : Type 0} (steps : List FilterStep) (tag : List ℕ) (input : Option InputSet) (now : ℕ) (lines : List Line) (r : Result (List Event) E)
    → IfOk r (λ left. left ≡ filtered steps tag (events_of input now lines)) → IfOk r (λ left. are_shallow left ≡ true)
batch_shallow steps tag input now lines (Ok left) is = ap are_shallow is ∙ shallow_left steps tag (events_of input now lines) (read_shallow input now lines)
batch_shallow steps tag input now lines (Err e) is = tt

-- the events of a batch that is encoded
pub held_is : {E : Type 0} (events want : List Event) (r : Result EncodedBatch E) → IfOk r (HoldsEvents events) → events ≡ want → IfOk r (HoldsEvents want)
held_is events want r holds same = subst (λ (es : List Event). IfOk r (HoldsEvents es)) same holds

-- no lines have no events
pub no_events : (steps : List FilterStep) (tag : List ℕ) (input : Option InputSet) (now : ℕ) → [] ≡ filtered steps tag (events_of input now [])
no_events steps tag None now = refl
no_events steps tag (Some set) now = refl

-- no filter's glob matches the tag
pub unfiltered : (steps : List FilterStep) (tag : List ℕ) (events : List Event) → AreMatching tag steps [] → events ≡ filtered steps tag events
unfiltered steps tag events none = (filtered_are steps tag events events).0 ([], none, sym (filtered-none events))

-- ---- batches

abbrev pub batch_with : ℕ → List ℕ → List Event → Batch
batch_with input tag events = record { input = input; tag = tag; events = events }

pub batch_is : (s : AllSettings) (h : History) (input now : ℕ) (lines : List Line) (tag : List ℕ) (events : List Event)
    → now ≡ clock h → tag ≡ tag_at s input → events ≡ filtered s.filters (tag_at s input) (events_of (input_at s input) now lines)
    → batch_with input tag events ≡ batch_of s h input lines
batch_is s h input now lines tag events at of are =
    let also : events ≡ filtered s.filters (tag_at s input) (events_of (input_at s input) (clock h) lines) =
    are ∙ ap (λ (n : ℕ). filtered s.filters (tag_at s input) (events_of (input_at s input) n lines)) at in
    λ i. batch_with input (of i) (also i)

pub takes_did : (s : AllSettings) {a c : CallLogs} (first b : Batch) (h : History) (after : Parts) (taken : Bool) → first ≡ b
    → CompletedWith (λ (x : Acceptance). (x.taken ≡ taken) × PartsRepresentIdle s after x.history) a c (accepts s first h) → CompletedWith (λ (now : History). PartsRepresentIdle s after now) a c (ingests s b h)
unfolding ingests
takes_did s {a = a} {c = c} first b h after taken same acted =
    completes_bind (λ (x : Acceptance). (x.taken ≡ taken) × PartsRepresentIdle s after x.history) (λ (now : History). PartsRepresentIdle s after now) c (accepts s b h) (λ (x : Acceptance). Return x.history)
    (subst (λ (y : Batch). CompletedWith (λ (x : Acceptance). (x.taken ≡ taken) × PartsRepresentIdle s after x.history) a c (accepts s y h)) same acted)
    (λ x shown. completes_idle (λ (now : History). PartsRepresentIdle s after now) c x.history shown.1)

pub takes_began : (s : AllSettings) {a c : CallLogs} (first b : Batch) (h : History) → first ≡ b → IsBegun a c (accepts s first h) → IsBegun a c (ingests s b h)
unfolding ingests
takes_began s {a = a} {c = c} first b h same began = begun_bind (λ (x : Acceptance). Return x.history) (subst (λ (y : Batch). IsBegun a c (accepts s y h)) same began)
