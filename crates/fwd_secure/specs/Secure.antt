-- What contracts see of a keyed loop.
use Rattle.std.specs.Prelude.{◌≡◌, ◌⊎◌, ℕ, ◌+◌, ◌-◌, ◌*◌, ◌^◌, ◌≤◌, Bool, true, false, List, length, if◌then◌else◌, Some, None}
use Rattle.std.specs.List.{list_any}
use Rattle.fwd_outside.specs.Cause.{HasCause}
use Rattle.fwd_outside.specs.Log.{LogGrew}
use Rattle.fwd_outside.specs.Loop.{LoopCall, LoopAnswer, LoopEntry, LoopLog, LoopCounts, Start, Wait}
use Rattle.fwd_outside.specs.declared.happening.Happening.TheVariants as happening
use Rattle.fwd_outside.specs.NewLinks.{AreNewLinks, greatest_after}
use Rattle.fwd_outside.specs.LoopAnswers.{WaitsBringBytes}
use Rattle.fwd_secure.specs.declared.keys.Keys.{Keys}
use Rattle.fwd_secure.specs.Keys.{AreShort, has_keys}
use Rattle.fwd_secure.specs.Handshakes.{Handshakes}
use Rattle.fwd_secure.specs.LoopBelow.{LoopBelow}
use Rattle.fwd_secure.specs.LoopCode.{given_to}
use Rattle.fwd_secure.specs.Carried.{IsCarried}

pub record Secure : Type 0 where
  pub keys : Keys
  pub keyed : Bool
  pub state : Handshakes
  pub out_of_memory : Bool
  -- the loop below: the name of the reference to it, and what it was at the start and is now
  pub name : ℕ
  pub start : LoopBelow
  pub below : LoopBelow
  -- the call log of the loop below at the last mark, or at the start
  pub marked : LoopLog
  -- the calls on this loop, and what it counts
  pub above : List LoopEntry
  pub happenings : ℕ
  pub greatest : ℕ

-- The call log. No call changes its first part: which loop this one wraps, its keys, what that loop was, and the
-- last mark.
abbrev pub log_of : Secure → LoopLog
log_of s = Some (given_to s.name s.keys s.start s.marked, s.above)

abbrev pub counts_of : Secure → LoopCounts
counts_of s =
    record { happenings = s.happenings; greatest = s.greatest; endless = s.below.counts.endless }

-- failures of the loop below, and wrong messages of servers
abbrev pub faults_of : Secure → ℕ
faults_of s = s.below.faults + s.state.wrongs

-- bytes that later waits give, while there are any
abbrev pub pending : Secure → ℕ
pending s = if s.out_of_memory then 0 else length s.state.kept

-- an event of the loop below becomes at most two, and one without keys
abbrev pub most_of : Bool → ℕ
most_of true = 2
most_of false = 1

-- The events of this loop since the start come from those of the loop below, unless that has stopped counting.
abbrev pub HasHeard : Secure → Type 0
HasHeard s =
    (2 ^ 64 - 1 ≤ s.below.counts.happenings)
    ⊎ (s.happenings + pending s + most_of s.keyed * s.start.counts.happenings
    ≤ most_of s.keyed * s.below.counts.happenings)

-- a start that failed, or a wait that brought a failure
abbrev pub is_failure : (call : LoopCall) → LoopAnswer call → Bool
is_failure (Start ends) None = true
is_failure (Wait until paused) happening.Failed = true
is_failure call answer = false

abbrev pub has_failed : List LoopEntry → Bool
has_failed entries = list_any (λ e. is_failure e.call e.answer) entries

-- the log grew by some calls
abbrev pub HasGrown : LoopLog → LoopLog → Type 0
HasGrown old new = (calls : List LoopEntry) × LogGrew old new calls

-- what holds of each keyed loop
pub record IsSecure (s : Secure) : Type 0 where
  pub carried : IsCarried s.keys s.out_of_memory s.start.call_log s.below.call_log s.above s.state
  pub since : HasGrown s.marked s.below.call_log
  pub keyed : s.keyed ≡ has_keys s.keys
  pub short : AreShort s.keys
  pub endless : s.below.counts.endless ≡ s.start.counts.endless
  pub heard : HasHeard s
  pub cause : HasCause s.start.faults s.below.faults (has_failed s.above ≡ true)
  pub rose : s.start.counts.greatest ≤ s.below.counts.greatest
  pub greatest : s.greatest ≤ s.below.counts.greatest
  pub new_links : AreNewLinks 0 s.above
  pub newest : greatest_after 0 s.above ≡ s.greatest
  pub bytes : WaitsBringBytes s.above
