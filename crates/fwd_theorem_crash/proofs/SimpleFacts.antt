-- Facts that keep the order invariant, except the beginning of a flush.
use Rattle.std.proofs.Common.{[], ◌∷◌}
use Rattle.fwd_settings.specs.declared.settings_types.AllSettings.{AllSettings}
use Rattle.fwd_model.specs.Fact.{Fact, History, Outcome, FlushStarted, InFlight, Retries, Delivered, Failed, Exhausted, Evicted, Happened, Resumed, Saved, Polled, Disconnected, Malformed, Found, Offered, Accepted, Refused, ChunkClosed, Sent, OnRoute, MarkStarted, Marked, Removed, FileLeft, IoFailed}
use Rattle.fwd_theorem_trace.specs.Allowed.{IsLoading}
use Rattle.fwd_theorem_crash.specs.FlushEvents.{FlushesSendTheirChunks}
use Rattle.fwd_theorem_crash.specs.StepBoundaries.{IsOffsetFact}
use Rattle.fwd_theorem_crash.proofs.PlainFacts.{IsPlain}

abbrev pub IsSimple : Fact → Type 0
IsSimple (OnRoute r (FlushStarted events)) = ⊥
IsSimple fact = IsPlain fact

outcome_plain : (r : _) (outcome : Outcome) → IsPlain (OnRoute r outcome)
outcome_plain r outcome = tt

pub plain_of : (fact : Fact) → IsSimple fact → IsPlain fact
plain_of (OnRoute r outcome) simple = outcome_plain r outcome
plain_of (Happened brought) simple = simple
plain_of (Resumed input index place) simple = simple
plain_of (Saved input index place) simple = simple
plain_of (Polled input index length bytes) simple = simple
plain_of (Disconnected conn) simple = simple
plain_of (Malformed input) simple = simple
plain_of (Found number stream name bytes) simple = simple
plain_of (Offered chunk b) simple = simple
plain_of (Accepted b place) simple = simple
plain_of (Refused b why) simple = simple
plain_of (ChunkClosed chunk) simple = simple
plain_of (Sent output bytes) simple = simple
plain_of (MarkStarted r) simple = simple
plain_of (Marked r) simple = simple
plain_of (Removed chunk) simple = simple
plain_of (FileLeft chunk) simple = simple
plain_of IoFailed simple = simple

pub offset_simple : (fact : Fact) → IsOffsetFact fact → IsSimple fact
offset_simple (Resumed input index place) of = tt
offset_simple (Saved input index place) of = tt
offset_simple fact of = absurd of

-- no flush begins
pub hands_on : (s : AllSettings) (fact : Fact) (h : History) → IsSimple fact → FlushesSendTheirChunks s h → FlushesSendTheirChunks s (fact ∷ h)
hands_on s (OnRoute r (FlushStarted events)) h simple hands = absurd simple
hands_on s (OnRoute r (InFlight progress)) h simple hands = hands
hands_on s (OnRoute r (Retries word)) h simple hands = hands
hands_on s (OnRoute r Delivered) h simple hands = hands
hands_on s (OnRoute r Failed) h simple hands = hands
hands_on s (OnRoute r Exhausted) h simple hands = hands
hands_on s (OnRoute r Evicted) h simple hands = hands
hands_on s (Happened brought) h simple hands = hands
hands_on s (Resumed input index place) h simple hands = hands
hands_on s (Saved input index place) h simple hands = hands
hands_on s (Polled input index length bytes) h simple hands = hands
hands_on s (Disconnected conn) h simple hands = hands
hands_on s (Malformed input) h simple hands = hands
hands_on s (Found number stream name bytes) h simple hands = hands
hands_on s (Offered chunk b) h simple hands = hands
hands_on s (Accepted b place) h simple hands = hands
hands_on s (Refused b why) h simple hands = hands
hands_on s (ChunkClosed chunk) h simple hands = hands
hands_on s (Sent output bytes) h simple hands = hands
hands_on s (MarkStarted r) h simple hands = hands
hands_on s (Marked r) h simple hands = hands
hands_on s (Removed chunk) h simple hands = hands
hands_on s (FileLeft chunk) h simple hands = hands
hands_on s IoFailed h simple hands = hands

-- nothing began while the files on the disk were loaded
pub hands_at_first : (s : AllSettings) (h : History) → IsLoading h → FlushesSendTheirChunks s h
hands_at_first s [] loading = tt
hands_at_first s (Found number stream name bytes ∷ h) loading = hands_at_first s h loading.1
hands_at_first s (fact ∷ h) loading = absurd loading
