-- Messages, one by one.
use Rattle.std.proofs.Common.{◌≡◌, ℕ, Bool, true, false, List, [], ◌∷◌, length, Option, Result, Ok, sym, subst, arith}
use Rattle.fwd_outside.specs.Program.{bind}
use Rattle.std.specs.Prelude.{unwrap_or}
use Rattle.fwd_value.specs.Val.{Val}
use Rattle.fwd_event.specs.declared.event.Event.{Event}
use Rattle.fwd_filters.specs.FilterFunction.{filtered}
use Rattle.fwd_wire.specs.Message.{MessageContent, batch}
use Rattle.fwd_in_forward.specs.Received.{all_received, received_content}
use Rattle.fwd_in_forward.specs.declared.received.Received.{Received}
use Rattle.fwd_settings.specs.declared.settings_types.AllSettings.{AllSettings}
use Rattle.fwd_model.specs.Fact.{History, Batch as Taken}
use Rattle.fwd_model.specs.Settings.{own_tag}
use Rattle.fwd_model.specs.Trace.{Action}
use Rattle.fwd_model.specs.CallLogs.{CallLogs, Leads, IsBegun}
use Rattle.fwd_model.specs.Refines.{CompletedWith}
use Rattle.fwd_model.specs.Messages.{message_batch, reply_of}
use Rattle.fwd_model.specs.Acceptance.{Acceptance, accepts}
use Rattle.fwd_model.specs.InputActions.{acknowledges, accepts_messages}
use Rattle.fwd_model.proofs.Actions.{leads_inside, begun_bind}
use Rattle.fwd_engine_state.specs.PartsRepresent.{PartsRepresentIdle}
use Rattle.fwd_engine_state.specs.declared.parts.Parts.{Parts}
use Rattle.fwd_engine_ingest.specs.Continuation.{ContinuedWith}
use Rattle.fwd_engine_ingest.proofs.Replies.{went_after}
use Rattle.fwd_engine_ingest.proofs.LineBatches.{batch_with}

-- ---- whether the messages after it are handled

pub went_ended : (E : Type 0) (s : AllSettings) {a b : CallLogs} (after : Parts) (p : Action History) (next : History → Action History) (goes : Bool) → goes ≡ false
    → ContinuedWith {E = E} s a b after p next (Ok goes) → CompletedWith (λ (now : History). PartsRepresentIdle s after now) a b p
went_ended E s after p next true is went = absurd (cc is)
went_ended E s after p next false is went = went

pub went_next : (E : Type 0) (s : AllSettings) {a b : CallLogs} (after : Parts) (p : Action History) (next : History → Action History) (goes : Bool) → goes ≡ true
    → ContinuedWith {E = E} s a b after p next (Ok goes) → (now : History) × PartsRepresentIdle s after now × Leads a b p (next now)
went_next E s after p next true is went = went
went_next E s after p next false is went = absurd (cc is)

-- ---- a batch, and the acknowledgement

pub accepted_began : (s : AllSettings) {a b : CallLogs} (first second : Taken) (h : History) (next : Acceptance → Action History) → first ≡ second → IsBegun a b (accepts s first h) → IsBegun a b (bind (accepts s second h) next)
accepted_began s {a = a} {b = b} first second h next same began = begun_bind next (subst (λ (y : Taken). IsBegun a b (accepts s y h)) same began)

pub accepted_on : {E : Type 0} (s : AllSettings) {a b : CallLogs} (c : CallLogs) (first second : Taken) (h : History) (middle after : Parts) (taken : Bool) (conn : ℕ) (asked : Option (List ℕ)) (next : History → Action History) (r : Result Bool E)
    → first ≡ second → CompletedWith (λ (x : Acceptance). (x.taken ≡ taken) × PartsRepresentIdle s middle x.history) a b (accepts s first h)
    → ((now : History) → PartsRepresentIdle s middle now → ContinuedWith s b c after (acknowledges conn asked next (record { history = now; taken = taken })) next r)
    → ContinuedWith s a c after (bind (accepts s second h) (acknowledges conn asked next)) next r
accepted_on s {a = a} {b = b} c first second h middle after taken conn asked next r same acted more = by (subst (λ (y : Taken). CompletedWith (λ (x : Acceptance). (x.taken ≡ taken) × PartsRepresentIdle s middle x.history) a b (accepts s y h)) same acted)
  where
    by : CompletedWith (λ (x : Acceptance). (x.taken ≡ taken) × PartsRepresentIdle s middle x.history) a b (accepts s second h) → ContinuedWith s a c after (bind (accepts s second h) (acknowledges conn asked next)) next r
    by did =
        went_after s c after (bind (accepts s second h) (acknowledges conn asked next)) (acknowledges conn asked next did.result) next r (leads_inside (acknowledges conn asked next) did.did)
        (subst (λ (t : Bool). ContinuedWith s b c after (acknowledges conn asked next (record { history = did.result.history; taken = t })) next r) (sym did.shows.0) (more did.result.history did.shows.1))

-- what another content says that is the same
pub same_content : {E : Type 0} (s : AllSettings) (a b : CallLogs) (after : Parts) (k conn : ℕ) (h : History) (next : History → Action History) (r : Result Bool E) (first second : MessageContent) → first ≡ second
    → ContinuedWith s a b after (bind (accepts s (message_batch s k first) h) (acknowledges conn (reply_of first) next)) next r
    → ContinuedWith s a b after (bind (accepts s (message_batch s k second) h) (acknowledges conn (reply_of second) next)) next r
same_content s a b after k conn h next r first second same went =
    subst (λ (m : MessageContent). ContinuedWith s a b after (bind (accepts s (message_batch s k m) h) (acknowledges conn (reply_of m) next)) next r) same went

-- ---- the messages of one read

pub next_message : (s : AllSettings) {a b : CallLogs} (k conn : ℕ) (breaks : Bool) (items rest : List Received) (m : Received) (from : Action History) (now : History) → items ≡ m ∷ rest
    → Leads a b from (accepts_messages s k conn breaks (all_received items) now)
    → Leads a b from (bind (accepts s (message_batch s k (received_content m)) now) (acknowledges conn (reply_of (received_content m)) (accepts_messages s k conn breaks (all_received rest))))
next_message s {a = a} {b = b} k conn breaks items rest m from now is leads = subst (λ (ms : List Received). Leads a b from (accepts_messages s k conn breaks (all_received ms) now)) is leads

none_left : (items : List Received) → length items ≡ 0 → items ≡ []
none_left [] none = λ i. []
none_left (m ∷ ms) none = absurd (omega (arith, none))

pub no_more : (s : AllSettings) {a b : CallLogs} (k conn : ℕ) (breaks now_breaks : Bool) (items : List Received) (from : Action History) (now : History) → length items ≡ 0 → breaks ≡ now_breaks
    → Leads a b from (accepts_messages s k conn breaks (all_received items) now) → Leads a b from (accepts_messages s k conn now_breaks [] now)
no_more s {a = a} {b = b} k conn breaks now_breaks items from now none same leads =
    subst (λ (x : Bool). Leads a b from (accepts_messages s k conn x [] now)) same (subst (λ (ms : List Received). Leads a b from (accepts_messages s k conn breaks (all_received ms) now)) (none_left items none) leads)

-- the calls for the batch of a message are those for the message
pub batch_heard : {E : Type 0} (s : AllSettings) (a b : CallLogs) (after : Parts) (k conn : ℕ) (h : History) (next : History → Action History) (r : Result Bool E)
    (tag own : List ℕ) (events : List Event) (chunk : Option Val) (asked : Option (List ℕ))
    → own ≡ unwrap_or (own_tag s k) tag → asked ≡ reply_of (batch tag events chunk)
    → ContinuedWith s a b after (bind (accepts s (batch_with k own (filtered s.filters own events)) h) (acknowledges conn asked next)) next r
    → ContinuedWith s a b after (bind (accepts s (message_batch s k (batch tag events chunk)) h) (acknowledges conn (reply_of (batch tag events chunk)) next)) next r
batch_heard s a b after k conn h next r tag own events chunk asked of replies went =
    subst (λ (t : List ℕ). ContinuedWith s a b after (bind (accepts s (batch_with k t (filtered s.filters t events)) h) (acknowledges conn (reply_of (batch tag events chunk)) next)) next r) of
    (subst (λ (x : Option (List ℕ)). ContinuedWith s a b after (bind (accepts s (batch_with k own (filtered s.filters own events)) h) (acknowledges conn x next)) next r) replies went)
