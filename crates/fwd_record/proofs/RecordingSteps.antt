-- What holds of a recorder after one more call.
use Rattle.std.proofs.Common.{◌≡◌, ◌⊎◌, inl, inr, ℕ, ◌+◌, ◌-◌, ◌^◌, ◌<◌, ◌≤◌, min, Bool, true, false, List, [], ◌∷◌, ◌++◌, map, Some, sym, ◌∙◌, ap, subst, arith}
use Rattle.std.proofs.lemmas.Bool.{cases_lt}
use Rattle.std.proofs.lemmas.List.{map-append}
use Rattle.fwd_outside.specs.Program.{entry}
use Rattle.fwd_outside.specs.Log.{LogGrew}
use Rattle.fwd_outside.specs.declared.happening.Happening.{Happening}
use Rattle.fwd_outside.specs.Loop.{LoopCall, LoopAnswer, LoopEntry, LoopCounts, Wait, Dial, MayOccur}
use Rattle.fwd_outside.specs.NewLinks.{AreNewLinks, IsNewLink, greatest_by, greatest_after}
use Rattle.fwd_outside.proofs.LogGrowth.{grew_trans}
use Rattle.fwd_outside.proofs.RisingLinks.{new_append, greatest_append}
use Rattle.fwd_script.specs.declared.schedule.Given.{Given}
use Rattle.fwd_record.specs.Seen.{Seen, Answered, calls_of}
use Rattle.fwd_record.specs.Allowed.{IsAllowed, AreAllowed}
use Rattle.fwd_record.specs.LoopBelow.{LoopBelow}
use Rattle.fwd_record.specs.Links.{Links}
use Rattle.fwd_record.specs.Notes.{AreNotes}
use Rattle.fwd_record.specs.Recording.{Recording, IsRecording, Passed, HasHeard}
use Rattle.fwd_record.proofs.NotedCalls.{calls_more}

abbrev pub recording : ℕ → LoopBelow → LoopBelow → List Seen → Bool → Bool → ℕ → Recording
recording name start below seen stopped out happenings = record {
  name = name;
  start = start;
  below = below;
  seen = seen;
  stopped = stopped;
  out_of_memory = out;
  happenings = happenings;
}

allowed_append : (endless : Bool) (xs ys : List LoopEntry) → AreAllowed endless xs → AreAllowed endless ys → AreAllowed endless (xs ++ ys)
allowed_append endless [] ys first second = second
allowed_append endless (e ∷ xs) ys first second = (first.0, allowed_append endless xs ys first.1 second)

-- each is a call, after one more call
all_answered : {seen more : List Seen} (call : LoopCall) (answer : LoopAnswer call) → more ≡ seen ++ Answered (entry call answer) ∷ [] → seen ≡ map Answered (calls_of seen) → more ≡ map Answered (calls_of more)
all_answered {seen} {more} call answer now same =
    now
    ∙ ap (λ (l : List Seen). l ++ Answered (entry call answer) ∷ []) same
    ∙ sym (map-append Answered (calls_of seen) (entry call answer ∷ []))
    ∙ ap (λ (l : List LoopEntry). map Answered l) (sym (ap (λ (l : List Seen). calls_of l) now ∙ calls_more seen (Answered (entry call answer))))

-- an event more, below and here
pub heard_event : (happenings start below : ℕ) → HasHeard happenings start below → HasHeard (min (happenings + 1) (2 ^ 64 - 1)) start (min (below + 1) (2 ^ 64 - 1))
heard_event happenings start below (inl full) = inl (omega (arith, full))
heard_event happenings start below (inr heard) = by (cases_lt below (2 ^ 64 - 1))
  where
    by : (below < 2 ^ 64 - 1) ⊎ (2 ^ 64 - 1 ≤ below) → HasHeard (min (happenings + 1) (2 ^ 64 - 1)) start (min (below + 1) (2 ^ 64 - 1))
    by (inl room) = inr (omega (arith, heard, room))
    by (inr full) = inl (omega (arith, full))

-- an event more below alone
pub heard_below : (happenings start below : ℕ) → HasHeard happenings start below → HasHeard happenings start (min (below + 1) (2 ^ 64 - 1))
heard_below happenings start below (inl full) = inl (omega (arith, full))
heard_below happenings start below (inr heard) = by (cases_lt below (2 ^ 64 - 1))
  where
    by : (below < 2 ^ 64 - 1) ⊎ (2 ^ 64 - 1 ≤ below) → HasHeard happenings start (min (below + 1) (2 ^ 64 - 1))
    by (inl room) = inr (omega (arith, heard, room))
    by (inr full) = inl (omega (arith, full))

-- the greatest link, where a call may give one
abbrev pub LinksGrow : LoopBelow → LoopBelow → (call : LoopCall) → LoopAnswer call → Type 0
LinksGrow old new call answer =
    (g : ℕ) → g ≤ old.counts.greatest → IsNewLink g call answer × (greatest_by g call answer ≤ new.counts.greatest)

module _ {name : ℕ} {start old : LoopBelow} {seen : List Seen} {stopped out : Bool} {happenings : ℕ} (here : out ≡ false)
    (is : IsRecording (recording name start old seen stopped out happenings)) where
  passed : LogGrew start.call_log old.call_log (calls_of seen)
  passed = subst (λ (b : Bool). Passed b start.call_log old.call_log (calls_of seen)) here is.passed

  -- a call was answered
  pub recorded_call : (call : LoopCall) (answer : LoopAnswer call) (new : LoopBelow) (later : ℕ) {more : List Seen}
      → more ≡ seen ++ Answered (entry call answer) ∷ []
      → LogGrew old.call_log new.call_log (entry call answer ∷ []) → new.counts.endless ≡ old.counts.endless
      → IsAllowed old.counts.endless call answer → LinksGrow old new call answer
      → HasHeard later start.counts.happenings new.counts.happenings
      → IsRecording (recording name start new more stopped out later)
  recorded_call call answer new later {more} now grew endless allowed links heard = record {
    passed = subst (λ (b : Bool). Passed b start.call_log new.call_log (calls_of more)) (sym here)
        (subst (λ (l : List LoopEntry). LogGrew start.call_log new.call_log l) (sym calls) (grew_trans start.call_log old.call_log new.call_log (calls_of seen) (entry call answer ∷ []) passed grew));
    unstopped = λ none. all_answered call answer now (is.unstopped none);
    endless = endless ∙ is.endless;
    allowed = subst (λ (l : List LoopEntry). AreAllowed start.counts.endless l) (sym calls)
        (allowed_append start.counts.endless (calls_of seen) (entry call answer ∷ []) is.allowed (subst (λ (b : Bool). IsAllowed b call answer) is.endless allowed, tt));
    new_links = subst (λ (l : List LoopEntry). AreNewLinks 0 l) (sym calls)
        (new_append 0 (calls_of seen) (entry call answer ∷ []) is.new_links ((links (greatest_after 0 (calls_of seen)) is.newest).0, tt));
    newest = subst (λ (l : List LoopEntry). greatest_after 0 l ≤ new.counts.greatest) (sym calls)
        (subst (λ (n : ℕ). n ≤ new.counts.greatest) (sym (greatest_append 0 (calls_of seen) (entry call answer ∷ []))) (links (greatest_after 0 (calls_of seen)) is.newest).1);
    heard = heard;
  }
    where
      calls : calls_of more ≡ calls_of seen ++ entry call answer ∷ []
      calls = ap (λ (l : List Seen). calls_of l) now ∙ calls_more seen (Answered (entry call answer))

  -- a call was answered that gives no link and brings no event
  pub recorded_other : (call : LoopCall) (answer : LoopAnswer call) (new : LoopBelow) {more : List Seen}
      → more ≡ seen ++ Answered (entry call answer) ∷ []
      → LogGrew old.call_log new.call_log (entry call answer ∷ []) → new.counts ≡ old.counts
      → IsAllowed old.counts.endless call answer → ((g : ℕ) → IsNewLink g call answer) → ((g : ℕ) → greatest_by g call answer ≡ g)
      → IsRecording (recording name start new more stopped out happenings)
  recorded_other call answer new now grew same allowed none unchanged =
      recorded_call call answer new happenings now grew (ap (λ (c : LoopCounts). c.endless) same) allowed
      (λ g below. (none g, subst (λ (n : ℕ). n ≤ new.counts.greatest) (sym (unchanged g)) (subst (λ (c : LoopCounts). g ≤ c.greatest) (sym same) below)))
      (subst (λ (c : LoopCounts). HasHeard happenings start.counts.happenings c.happenings) (sym same) is.heard)

  -- an event came, and memory was out for it
  pub event_lost : (until paused : ℕ) (brought : Happening) (new : LoopBelow) → LogGrew old.call_log new.call_log (entry (Wait until paused) brought ∷ [])
      → new.counts ≡ record old.counts { happenings = min (old.counts.happenings + 1) (2 ^ 64 - 1) }
      → IsRecording (recording name start new seen stopped true happenings)
  event_lost until paused brought new grew one = record {
    passed = (until, paused, brought, grew_trans start.call_log old.call_log new.call_log (calls_of seen) (entry (Wait until paused) brought ∷ []) passed grew);
    unstopped = is.unstopped;
    endless = ap (λ (c : LoopCounts). c.endless) one ∙ is.endless;
    allowed = is.allowed;
    new_links = is.new_links;
    newest = subst (λ (c : LoopCounts). greatest_after 0 (calls_of seen) ≤ c.greatest) (sym one) is.newest;
    heard = subst (λ (c : LoopCounts). HasHeard happenings start.counts.happenings c.happenings) (sym one) (heard_below happenings start.counts.happenings old.counts.happenings is.heard);
  }

  -- an event came
  pub event_recorded : (until paused : ℕ) (brought : Happening) (new : LoopBelow) {later : ℕ} {more : List Seen}
      → more ≡ seen ++ Answered (entry (Wait until paused) brought) ∷ []
      → LogGrew old.call_log new.call_log (entry (Wait until paused) brought ∷ [])
      → new.counts ≡ record old.counts { happenings = min (old.counts.happenings + 1) (2 ^ 64 - 1) }
      → MayOccur old.counts.endless paused brought → later ≡ min (happenings + 1) (2 ^ 64 - 1)
      → IsRecording (recording name start new more stopped out later)
  event_recorded until paused brought new {later} now grew one may counted =
      recorded_call (Wait until paused) brought new later now grew (ap (λ (c : LoopCounts). c.endless) one) may
      (λ g below. (tt, subst (λ (c : LoopCounts). g ≤ c.greatest) (sym one) below))
      (subst (λ (n : ℕ). HasHeard n start.counts.happenings new.counts.happenings) (sym counted)
      (subst (λ (c : LoopCounts). HasHeard (min (happenings + 1) (2 ^ 64 - 1)) start.counts.happenings c.happenings) (sym one) (heard_event happenings start.counts.happenings old.counts.happenings is.heard)))

  -- a dial gave a link
  pub link_recorded : (output : ℕ) (tag : List ℕ) (link : ℕ) (new : LoopBelow) {more : List Seen}
      → more ≡ seen ++ Answered (entry (Dial output tag) (Some link)) ∷ []
      → LogGrew old.call_log new.call_log (entry (Dial output tag) (Some link) ∷ [])
      → new.counts ≡ record old.counts { greatest = link } → old.counts.greatest + 1 ≤ link
      → IsRecording (recording name start new more stopped out happenings)
  link_recorded output tag link new now grew one above =
      recorded_call (Dial output tag) (Some link) new happenings now grew (ap (λ (c : LoopCounts). c.endless) one) tt
      (λ g below. (omega (arith, below, above), subst (λ (c : LoopCounts). link ≤ c.greatest) (sym one) (omega arith)))
      (subst (λ (c : LoopCounts). HasHeard happenings start.counts.happenings c.happenings) (sym one) is.heard)

-- what was noted is what was seen
pub noted_as : {events : List Happening} {given : List Given} {links : Links} {seen more : List Seen} → more ≡ seen
    → AreNotes events given links seen → AreNotes events given links more
noted_as {events} {given} {links} is noted = subst (λ (l : List Seen). AreNotes events given links l) (sym is) noted
