-- The invariant of a keyed loop after one call more.
use Rattle.std.proofs.Common.{◌≡◌, ◌≢◌, ◌⊎◌, inl, inr, ℕ, ◌+◌, ◌-◌, ◌*◌, ◌^◌, ◌<◌, ◌≤◌, min, Bool, true, false, ◌||◌, ◌&&◌, List, [], ◌∷◌, ◌++◌, length, Option, Some, None, Ok, Err, refl, sym, ◌∙◌, ap, subst, arith}
use Rattle.std.proofs.lemmas.Bool.{cases_lt}
use Rattle.fwd_outside.specs.Program.{entry}
use Rattle.fwd_outside.specs.Log.{LogGrew, RunsProgram, log_of_call}
use Rattle.fwd_outside.specs.Cause.{HasIncreased, HasCause}
use Rattle.fwd_outside.specs.Loop.{LoopCall, LoopAnswer, LoopEntry, LoopLog, LoopCounts, Start, Wait, Dial, Push, Close, Reply, DropConn, Word, Took, Again, Broke, start_outcome, push_outcome, reply_outcome}
use Rattle.fwd_outside.specs.declared.ends.Ends.{Ends}
use Rattle.fwd_outside.specs.declared.happening.Happening.{Happening}
use Rattle.fwd_outside.specs.declared.happening.Happening.TheVariants as happening
use Rattle.fwd_outside.specs.declared.answers.Begun.{Begun}
use Rattle.fwd_outside.specs.declared.answers.Begun.TheVariants as begun
use Rattle.fwd_outside.specs.declared.answers.Pushed.{Pushed}
use Rattle.fwd_outside.specs.declared.answers.Pushed.TheVariants as pushed
use Rattle.fwd_outside.specs.declared.answers.Replied.{Replied}
use Rattle.fwd_outside.specs.declared.answers.Replied.TheVariants as replied
use Rattle.fwd_outside.specs.NewLinks.{greatest_by, IsNewLink}
use Rattle.fwd_outside.specs.LoopAnswers.{IsOfBytes, BringsBytes}
use Rattle.fwd_outside.proofs.LogGrowth.{grew_trans}
use Rattle.fwd_outside.proofs.RisingLinks.{new_append, greatest_append}
use Rattle.fwd_outside.proofs.LoopAnswers.{bytes_append}
use Rattle.fwd_secure.specs.declared.keys.Keys.{Keys}
use Rattle.fwd_secure.specs.Keys.{has_keys}
use Rattle.fwd_secure.specs.Kept.{holds}
use Rattle.fwd_secure.specs.Handshakes.{Handshakes}
use Rattle.fwd_secure.specs.LoopBelow.{LoopBelow}
use Rattle.fwd_secure.specs.Outcome.{with_state}
use Rattle.fwd_secure.specs.Rules.{answers, answers_by}
use Rattle.fwd_secure.specs.Counts.{CountsRise, WaitCounts}
use Rattle.fwd_secure.specs.Allowed.{RunsAllowed}
use Rattle.fwd_secure.specs.Secure.{Secure, most_of, HasHeard, is_failure, has_failed, IsSecure}
use Rattle.fwd_secure.proofs.LogEntries.{begun_answer, pushed_answer, replied_answer}
use Rattle.fwd_secure.proofs.Carrying.{answered, unanswered}
use Rattle.fwd_secure.proofs.Given.{le_same}
use Rattle.fwd_secure.proofs.PassedOn.{reply_passes}
use Rattle.fwd_secure.proofs.KeptCounts.{NotWait, KeptAfter, kept_of_call, kept_of_wait}
use Rattle.fwd_secure.proofs.AllowedCalls.{by_keyed, call_allowed}

abbrev pub secure : Keys → Bool → Handshakes → Bool → ℕ → LoopBelow → LoopLog → LoopBelow → List LoopEntry → ℕ → ℕ → Secure
secure keys keyed k out name start marked below above happenings greatest = record {
  keys = keys;
  keyed = keyed;
  state = k;
  out_of_memory = out;
  name = name;
  start = start;
  below = below;
  marked = marked;
  above = above;
  happenings = happenings;
  greatest = greatest;
}

-- ---- failures

failed_more : (above : List LoopEntry) (e : LoopEntry) → has_failed (above ++ e ∷ []) ≡ true → (has_failed above ≡ true) ⊎ (is_failure e.call e.answer ≡ true)
failed_more [] e is = by (is_failure e.call e.answer) is
  where
    by : (b : Bool) → (b || false) ≡ true → (false ≡ true) ⊎ (b ≡ true)
    by true i = inr refl
    by false i = inl i
failed_more (x ∷ above) e is = by (is_failure x.call x.answer) (failed_more above e) is
  where
    by : (b : Bool) → (has_failed (above ++ e ∷ []) ≡ true → (has_failed above ≡ true) ⊎ (is_failure e.call e.answer ≡ true))
        → (b || has_failed (above ++ e ∷ [])) ≡ true → ((b || has_failed above) ≡ true) ⊎ (is_failure e.call e.answer ≡ true)
    by true rest i = inl refl
    by false rest i = rest i

cause_more : (start old new : ℕ) (above : List LoopEntry) (e : LoopEntry) → HasCause start old (has_failed above ≡ true) → HasCause old new (is_failure e.call e.answer ≡ true)
    → HasCause start new (has_failed (above ++ e ∷ []) ≡ true)
cause_more start old new above e was is = record { later = omega (arith, was.later, is.later); cause = λ failed. by (failed_more above e failed) }
  where
    by : (has_failed above ≡ true) ⊎ (is_failure e.call e.answer ≡ true) → HasIncreased start new
    by (inl before) = let rose : HasIncreased start old = was.cause before in omega (arith, rose, is.later)
    by (inr now) = let rose : HasIncreased old new = is.cause now in omega (arith, rose, was.later)

-- ---- events

module _ (start happenings : ℕ) where
  abbrev Heard : Bool → ℕ → ℕ → ℕ → Type 0
  Heard keyed heard waiting below = (2 ^ 64 - 1 ≤ below) ⊎ (heard + waiting + most_of keyed * start ≤ most_of keyed * below)

  -- the loop below counted no event
  heard_as_before : (keyed : Bool) (waiting later below : ℕ) → later ≤ waiting → Heard keyed happenings waiting below → Heard keyed happenings later below
  heard_as_before true waiting later below less (inl full) = inl full
  heard_as_before false waiting later below less (inl full) = inl full
  heard_as_before true waiting later below less (inr heard) = inr (omega (arith, less, heard))
  heard_as_before false waiting later below less (inr heard) = inr (omega (arith, less, heard))

  -- memory was out
  heard_out : (keyed : Bool) (waiting old new : ℕ) → min old (2 ^ 64 - 1) ≤ new → Heard keyed happenings waiting old → Heard keyed happenings 0 new
  heard_out keyed waiting old new rise (inl full) = inl (omega (arith, full, rise))
  heard_out true waiting old new rise (inr heard) = by (cases_lt old (2 ^ 64 - 1))
    where
      by : (old < 2 ^ 64 - 1) ⊎ (2 ^ 64 - 1 ≤ old) → Heard true happenings 0 new
      by (inl room) = inr (omega (arith, heard, rise, room))
      by (inr full) = inl (omega (arith, full, rise))
  heard_out false waiting old new rise (inr heard) = by (cases_lt old (2 ^ 64 - 1))
    where
      by : (old < 2 ^ 64 - 1) ⊎ (2 ^ 64 - 1 ≤ old) → Heard false happenings 0 new
      by (inl room) = inr (omega (arith, heard, rise, room))
      by (inr full) = inl (omega (arith, full, rise))

  -- kept bytes were given
  heard_kept : (keyed : Bool) (waiting later below : ℕ) → later + 1 ≤ waiting → Heard keyed happenings waiting below → Heard keyed (min (happenings + 1) (2 ^ 64 - 1)) later below
  heard_kept true waiting later below less (inl full) = inl full
  heard_kept false waiting later below less (inl full) = inl full
  heard_kept true waiting later below less (inr heard) = inr (omega (arith, less, heard))
  heard_kept false waiting later below less (inr heard) = inr (omega (arith, less, heard))

  -- an event of the loop below came
  heard_event : (keyed : Bool) (waiting later old : ℕ) → later ≤ waiting + (most_of keyed - 1) → Heard keyed happenings waiting old
      → Heard keyed (min (happenings + 1) (2 ^ 64 - 1)) later (min (old + 1) (2 ^ 64 - 1))
  heard_event true waiting later old more (inl full) = inl (omega (arith, full))
  heard_event false waiting later old more (inl full) = inl (omega (arith, full))
  heard_event true waiting later old more (inr heard) = by (cases_lt old (2 ^ 64 - 1))
    where
      by : (old < 2 ^ 64 - 1) ⊎ (2 ^ 64 - 1 ≤ old) → Heard true (min (happenings + 1) (2 ^ 64 - 1)) later (min (old + 1) (2 ^ 64 - 1))
      by (inl room) = inr (omega (arith, heard, more, room))
      by (inr full) = inl (omega (arith, full))
  heard_event false waiting later old more (inr heard) = by (cases_lt old (2 ^ 64 - 1))
    where
      by : (old < 2 ^ 64 - 1) ⊎ (2 ^ 64 - 1 ≤ old) → Heard false (min (happenings + 1) (2 ^ 64 - 1)) later (min (old + 1) (2 ^ 64 - 1))
      by (inl room) = inr (omega (arith, heard, more, room))
      by (inr full) = inl (omega (arith, full))

-- the greatest number of a link stays
as_great : (old new : LoopCounts) → new.greatest ≡ old.greatest → old.greatest ≤ new.greatest
as_great old new same = omega (arith, same)

-- ---- the invariant

-- the calls on the loop below, by the rule of the keys
by_rule : (keys : Keys) (keyed : Bool) (k : Handshakes) (call : LoopCall) (old new : LoopLog) (r : Option (LoopAnswer call × Handshakes))
    → keyed ≡ has_keys keys → RunsAllowed old new (answers_by keyed keys k call) r → RunsAllowed old new (answers keys k call) r
by_rule keys keyed k call old new r is runs = by_keyed keys k call (has_keys keys) keyed old new r (sym is) runs

-- a call that isn't a wait brings nothing
no_bytes : (call : LoopCall) (answer : LoopAnswer call) → NotWait call → BringsBytes call answer
no_bytes (Start ends) answer other = tt
no_bytes (Wait until paused) answer other = absurd other
no_bytes (Dial output tag) answer other = tt
no_bytes (Push link bytes) answer other = tt
no_bytes (Close link) answer other = tt
no_bytes (Reply conn bytes) answer other = tt
no_bytes (DropConn conn) answer other = tt
no_bytes Word answer other = tt

module _ {keys : Keys} {keyed : Bool} {k : Handshakes} {name : ℕ} {start old : LoopBelow} {marked : LoopLog} {above : List LoopEntry} {happenings greatest : ℕ}
    (is : IsSecure (secure keys keyed k false name start marked old above happenings greatest)) where
  -- a call was answered
  secure_more : (call : LoopCall) (answer : LoopAnswer call) (u : Handshakes) (new : LoopBelow) (heard newest : ℕ)
      → RunsAllowed old.call_log new.call_log (answers_by keyed keys k call) (Some (answer, u))
      → new.counts.endless ≡ start.counts.endless → HasHeard (secure keys keyed u false name start marked new (above ++ entry call answer ∷ []) heard newest)
      → HasCause old.faults new.faults (is_failure call answer ≡ true) → old.counts.greatest ≤ new.counts.greatest → newest ≤ new.counts.greatest
      → IsNewLink greatest call answer → greatest_by greatest call answer ≡ newest → BringsBytes call answer
      → IsSecure (secure keys keyed u false name start marked new (above ++ entry call answer ∷ []) heard newest)
  secure_more call answer u new heard newest runs on hears cause rises below link same read = record {
    carried = answered keys start.call_log old.call_log new.call_log above k call is.carried answer u (by_rule keys keyed k call old.call_log new.call_log (Some (answer, u)) is.keyed runs);
    since = (is.since.0 ++ runs.made.entries, grew_trans marked old.call_log new.call_log is.since.0 runs.made.entries is.since.1 runs.made.grew);
    keyed = is.keyed;
    short = is.short;
    endless = on;
    heard = hears;
    cause = cause_more start.faults old.faults new.faults above (entry call answer) is.cause cause;
    rose = omega (arith, is.rose, rises);
    greatest = below;
    new_links = new_append 0 above (entry call answer ∷ []) is.new_links (subst (λ (g : ℕ). IsNewLink g call answer) (sym is.newest) link, tt);
    newest = greatest_append 0 above (entry call answer ∷ []) ∙ ap (λ (g : ℕ). greatest_by g call answer) is.newest ∙ same;
    bytes = bytes_append above (entry call answer ∷ []) is.bytes (read, tt);
  }

  -- memory was out
  secure_less : (call : LoopCall) (u : Handshakes) (new : LoopBelow)
      → RunsAllowed old.call_log new.call_log (answers_by keyed keys k call) None → CountsRise old.counts new.counts → old.faults ≤ new.faults
      → IsSecure (secure keys keyed u true name start marked new above happenings greatest)
  secure_less call u new runs rise later = record {
    carried = unanswered keys start.call_log old.call_log new.call_log above k call is.carried u (by_rule keys keyed k call old.call_log new.call_log None is.keyed runs);
    since = (is.since.0 ++ runs.made.1.entries, grew_trans marked old.call_log new.call_log is.since.0 runs.made.1.entries is.since.1 runs.made.1.grew);
    keyed = is.keyed;
    short = is.short;
    endless = rise.endless ∙ is.endless;
    heard = heard_out start.counts.happenings happenings keyed (length k.kept) old.counts.happenings new.counts.happenings rise.happenings is.heard;
    cause = record { later = omega (arith, is.cause.later, later); cause = λ failed. let rose : HasIncreased start.faults old.faults = is.cause.cause failed in omega (arith, rose, later) };
    rose = omega (arith, is.rose, rise.greatest);
    greatest = omega (arith, is.greatest, rise.greatest);
    new_links = is.new_links;
    newest = is.newest;
    bytes = is.bytes;
  }

  -- a call but `wait` was answered, and the counts of events below are the same
  secure_call : (call : LoopCall) (answer : LoopAnswer call) (u : Handshakes) (new : LoopBelow) (newest : ℕ) → NotWait call
      → RunsProgram old.call_log new.call_log (answers_by keyed keys k call) (Some (answer, u))
      → new.counts.happenings ≡ old.counts.happenings → new.counts.endless ≡ old.counts.endless
      → HasCause old.faults new.faults (is_failure call answer ≡ true) → old.counts.greatest ≤ new.counts.greatest → newest ≤ new.counts.greatest
      → IsNewLink greatest call answer → greatest_by greatest call answer ≡ newest
      → IsSecure (secure keys keyed u false name start marked new (above ++ entry call answer ∷ []) happenings newest)
  secure_call call answer u new newest other made same endless cause rises below link last =
      secure_more call answer u new happenings newest (call_allowed keys k keyed call other old.call_log new.call_log (Some (answer, u)) made)
      (endless ∙ is.endless)
      (heard_as_before start.counts.happenings happenings keyed (length k.kept) (length u.kept) new.counts.happenings
      (kept_of_call keyed keys k call other made.entries answer u made.way)
      (subst (λ (n : ℕ). Heard start.counts.happenings happenings keyed happenings (length k.kept) n) (sym same) is.heard))
      cause rises below link last (no_bytes call answer other)

  -- a wait was answered
  secure_wait : (E : Type 0) (until paused : ℕ) (brought : Happening) (u : Handshakes) (new : LoopBelow)
      → RunsAllowed old.call_log new.call_log (answers_by keyed keys k (Wait until paused)) (Some (brought, u))
      → WaitCounts {T = Happening} {E = E} (keyed && holds paused k.kept) old.counts new.counts (Ok brought)
      → HasCause old.faults new.faults (is_failure (Wait until paused) brought ≡ true) → IsOfBytes brought
      → IsSecure (secure keys keyed u false name start marked new (above ++ entry (Wait until paused) brought ∷ []) (min (happenings + 1) (2 ^ 64 - 1)) greatest)
  secure_wait E until paused brought u new runs counts cause read =
      by (keyed && holds paused k.kept) counts (kept_of_wait keyed keys k until paused runs.made.entries brought u runs.made.way)
    where
      by : (given : Bool) → WaitCounts {T = Happening} {E = E} given old.counts new.counts (Ok brought) → KeptAfter given keyed k u
          → IsSecure (secure keys keyed u false name start marked new (above ++ entry (Wait until paused) brought ∷ []) (min (happenings + 1) (2 ^ 64 - 1)) greatest)
      by true same kept =
          secure_more (Wait until paused) brought u new (min (happenings + 1) (2 ^ 64 - 1)) greatest runs
          (ap (λ (c : LoopCounts). c.endless) same ∙ is.endless)
          (subst (λ (c : LoopCounts). Heard start.counts.happenings happenings keyed (min (happenings + 1) (2 ^ 64 - 1)) (length u.kept) c.happenings) (sym same)
          (heard_kept start.counts.happenings happenings keyed (length k.kept) (length u.kept) old.counts.happenings kept is.heard))
          cause (as_great old.counts new.counts (ap (λ (c : LoopCounts). c.greatest) same)) (subst (λ (c : LoopCounts). greatest ≤ c.greatest) (sym same) is.greatest) tt refl read
      by false one kept =
          secure_more (Wait until paused) brought u new (min (happenings + 1) (2 ^ 64 - 1)) greatest runs
          (ap (λ (c : LoopCounts). c.endless) one ∙ is.endless)
          (subst (λ (c : LoopCounts). Heard start.counts.happenings happenings keyed (min (happenings + 1) (2 ^ 64 - 1)) (length u.kept) c.happenings) (sym one)
          (heard_event start.counts.happenings happenings keyed (length k.kept) (length u.kept) old.counts.happenings kept is.heard))
          cause (as_great old.counts new.counts (ap (λ (c : LoopCounts). c.greatest) one)) (subst (λ (c : LoopCounts). greatest ≤ c.greatest) (sym one) is.greatest) tt refl read

-- a call that can't fail
pub no_failure : (old new : ℕ) (call : LoopCall) (answer : LoopAnswer call) → is_failure call answer ≡ false → old ≤ new → HasCause old new (is_failure call answer ≡ true)
no_failure old new call answer none later = record { later = later; cause = λ failed. absurd (cc (none, failed)) }

-- ---- as the methods close a keyed loop; memory wasn't out before

module _ {keys : Keys} {keyed out : Bool} {k : Handshakes} {name : ℕ} {start old : LoopBelow} {marked : LoopLog} {above : List LoopEntry} {happenings greatest : ℕ}
    (is : IsSecure (secure keys keyed k out name start marked old above happenings greatest)) (going : out ≡ false) where
  before : IsSecure (secure keys keyed k false name start marked old above happenings greatest)
  before = subst (λ (w : Bool). IsSecure (secure keys keyed k w name start marked old above happenings greatest)) going is

  -- as the method has it
  as_closed : (u : Handshakes) (new : LoopBelow) (later entries : List LoopEntry) (heard newest : ℕ) → later ≡ entries
      → IsSecure (secure keys keyed u false name start marked new entries heard newest) → IsSecure (secure keys keyed u out name start marked new later heard newest)
  as_closed u new later entries heard newest same closed =
      subst (λ (w : Bool). IsSecure (secure keys keyed u w name start marked new later heard newest)) (sym going)
      (subst (λ (l : List LoopEntry). IsSecure (secure keys keyed u false name start marked new l heard newest)) (sym same) closed)

  -- a call that is neither `wait` nor `dial`
  pub call_closes : (call : LoopCall) (answer : LoopAnswer call) (u : Handshakes) (new : LoopBelow) (later : List LoopEntry) → NotWait call
      → RunsProgram old.call_log new.call_log (answers_by keyed keys k call) (Some (answer, u)) → new.counts ≡ old.counts
      → HasCause old.faults new.faults (is_failure call answer ≡ true) → IsNewLink greatest call answer → greatest_by greatest call answer ≡ greatest
      → later ≡ above ++ entry call answer ∷ [] → IsSecure (secure keys keyed u out name start marked new later happenings greatest)
  call_closes call answer u new later other made same cause link newest log =
      as_closed u new later (above ++ entry call answer ∷ []) happenings greatest log
      (secure_call before call answer u new greatest other made (ap (λ (c : LoopCounts). c.happenings) same) (ap (λ (c : LoopCounts). c.endless) same) cause
      (as_great old.counts new.counts (ap (λ (c : LoopCounts). c.greatest) same)) (subst (λ (c : LoopCounts). greatest ≤ c.greatest) (sym same) before.greatest) link newest)

  pub dial_closes : (output : ℕ) (tag : List ℕ) (link : ℕ) (u : Handshakes) (new : LoopBelow) (later : List LoopEntry)
      → RunsProgram old.call_log new.call_log (answers_by keyed keys k (Dial output tag)) (Some (Some link, u)) → new.counts ≡ record old.counts { greatest = link }
      → old.counts.greatest + 1 ≤ link → old.faults ≤ new.faults
      → later ≡ above ++ entry (Dial output tag) (Some link) ∷ [] → IsSecure (secure keys keyed u out name start marked new later happenings link)
  dial_closes output tag link u new later made counts rises faults log =
      as_closed u new later (above ++ entry (Dial output tag) (Some link) ∷ []) happenings link log
      (secure_call before (Dial output tag) (Some link) u new link tt made (ap (λ (c : LoopCounts). c.happenings) counts) (ap (λ (c : LoopCounts). c.endless) counts)
      (record { later = faults; cause = λ failed. absurd (cc failed) }) (subst (λ (c : LoopCounts). old.counts.greatest ≤ c.greatest) (sym counts) (omega (arith, rises)))
      (subst (λ (c : LoopCounts). link ≤ c.greatest) (sym counts) (le_same link)) (omega (arith, before.greatest, rises)) refl)

  pub wait_closes : (E : Type 0) (until paused : ℕ) (brought : Happening) (u : Handshakes) (new : LoopBelow) (later : List LoopEntry) (heard : ℕ)
      → RunsAllowed old.call_log new.call_log (answers_by keyed keys k (Wait until paused)) (Some (brought, u))
      → WaitCounts {T = Happening} {E = E} (keyed && holds paused k.kept) old.counts new.counts (Ok brought)
      → HasCause old.faults new.faults (is_failure (Wait until paused) brought ≡ true) → IsOfBytes brought → heard ≡ min (happenings + 1) (2 ^ 64 - 1)
      → later ≡ above ++ entry (Wait until paused) brought ∷ [] → IsSecure (secure keys keyed u out name start marked new later heard greatest)
  wait_closes E until paused brought u new later heard runs counts cause read one log =
      as_closed u new later (above ++ entry (Wait until paused) brought ∷ []) heard greatest log
      (subst (λ (n : ℕ). IsSecure (secure keys keyed u false name start marked new (above ++ entry (Wait until paused) brought ∷ []) n greatest)) (sym one)
      (secure_wait before E until paused brought u new runs counts cause read))

  -- a start, a push and a reply, by what they return
  pub start_closes : (ends : Ends) (b : Begun) (u : Handshakes) (new : LoopBelow) (later : List LoopEntry) → b ≢ begun.Memory
      → RunsProgram old.call_log new.call_log (answers_by keyed keys k (Start ends)) (with_state (start_outcome b) u) → new.counts ≡ old.counts
      → HasCause old.faults new.faults (b ≡ begun.Failed) → later ≡ above ++ entry (Start ends) (begun_answer b) ∷ []
      → IsSecure (secure keys keyed u out name start marked new later happenings greatest)
  start_closes ends begun.Ready u new later other made same cause log =
      call_closes (Start ends) (Some tt) u new later tt made same (record { later = cause.later; cause = λ failed. absurd (cc failed) }) tt refl log
  start_closes ends begun.Failed u new later other made same cause log =
      call_closes (Start ends) None u new later tt made same (record { later = cause.later; cause = λ failed. cause.cause refl }) tt refl log
  start_closes ends begun.Memory u new later other made same cause log = absurd (other refl)

  pub push_closes : (link : ℕ) (bytes : List ℕ) (p : Pushed) (new : LoopBelow) (later : List LoopEntry) → p ≢ pushed.Memory
      → RunsProgram old.call_log new.call_log (answers_by keyed keys k (Push link bytes)) (with_state (push_outcome p) k) → new.counts ≡ old.counts
      → old.faults ≤ new.faults → later ≡ above ++ entry (Push link bytes) (pushed_answer p) ∷ []
      → IsSecure (secure keys keyed k out name start marked new later happenings greatest)
  push_closes link bytes (pushed.Took n) new later other made same faults log =
      call_closes (Push link bytes) (Took n) k new later tt made same (no_failure old.faults new.faults (Push link bytes) (Took n) refl faults) tt refl log
  push_closes link bytes pushed.Again new later other made same faults log =
      call_closes (Push link bytes) Again k new later tt made same (no_failure old.faults new.faults (Push link bytes) Again refl faults) tt refl log
  push_closes link bytes pushed.Broken new later other made same faults log =
      call_closes (Push link bytes) Broke k new later tt made same (no_failure old.faults new.faults (Push link bytes) Broke refl faults) tt refl log
  push_closes link bytes pushed.Memory new later other made same faults log = absurd (other refl)

  pub reply_closes : (conn : ℕ) (bytes : List ℕ) (r : Replied) (new : LoopBelow) (later : List LoopEntry) → r ≢ replied.Memory
      → LogGrew old.call_log new.call_log (log_of_call (Reply conn bytes) (reply_outcome r)) → new.counts ≡ old.counts
      → old.faults ≤ new.faults → later ≡ above ++ entry (Reply conn bytes) (replied_answer r) ∷ []
      → IsSecure (secure keys keyed k out name start marked new later happenings greatest)
  reply_closes conn bytes replied.Taken new later other grew same faults log =
      call_closes (Reply conn bytes) (Some tt) k new later tt (reply_passes keyed keys k old.call_log new.call_log conn bytes (Some (Some tt)) grew) same
      (no_failure old.faults new.faults (Reply conn bytes) (Some tt) refl faults) tt refl log
  reply_closes conn bytes replied.Broken new later other grew same faults log =
      call_closes (Reply conn bytes) None k new later tt (reply_passes keyed keys k old.call_log new.call_log conn bytes (Some None) grew) same
      (no_failure old.faults new.faults (Reply conn bytes) None refl faults) tt refl log
  reply_closes conn bytes replied.Memory new later other grew same faults log = absurd (other refl)

  -- memory was out
  pub wait_stops : (until paused : ℕ) (u : Handshakes) (new : LoopBelow) → RunsAllowed old.call_log new.call_log (answers_by keyed keys k (Wait until paused)) None
      → CountsRise old.counts new.counts → old.faults ≤ new.faults → IsSecure (secure keys keyed u true name start marked new above happenings greatest)
  wait_stops until paused u new runs rise later = secure_less before (Wait until paused) u new runs rise later

  pub nothing_closes : (call : LoopCall) (u : Handshakes) (new : LoopBelow) → NotWait call → RunsProgram old.call_log new.call_log (answers_by keyed keys k call) None
      → CountsRise old.counts new.counts → old.faults ≤ new.faults → IsSecure (secure keys keyed u true name start marked new above happenings greatest)
  nothing_closes call u new other made rise later = secure_less before call u new (call_allowed keys k keyed call other old.call_log new.call_log None made) rise later

pub same_counts : (old new : LoopCounts) → new ≡ old → CountsRise old new
same_counts old new same = subst (λ (c : LoopCounts). CountsRise old c) (sym same) (record { happenings = omega arith; greatest = le_same old.greatest; endless = refl })

-- the failure of a wait
pub wait_failed : (old new until paused : ℕ) (x : Happening) → HasCause old new (x ≡ happening.Failed) → HasCause old new (is_failure (Wait until paused) x ≡ true)
wait_failed old new until paused (happening.Tick now) cause = record { later = cause.later; cause = λ failed. absurd (cc failed) }
wait_failed old new until paused (happening.Joined input conn) cause = record { later = cause.later; cause = λ failed. absurd (cc failed) }
wait_failed old new until paused (happening.Piece input conn bytes) cause = record { later = cause.later; cause = λ failed. absurd (cc failed) }
wait_failed old new until paused (happening.Gone input conn) cause = record { later = cause.later; cause = λ failed. absurd (cc failed) }
wait_failed old new until paused (happening.Room link) cause = record { later = cause.later; cause = λ failed. absurd (cc failed) }
wait_failed old new until paused (happening.Back link bytes) cause = record { later = cause.later; cause = λ failed. absurd (cc failed) }
wait_failed old new until paused (happening.Broken link) cause = record { later = cause.later; cause = λ failed. absurd (cc failed) }
wait_failed old new until paused (happening.InputEnd input) cause = record { later = cause.later; cause = λ failed. absurd (cc failed) }
wait_failed old new until paused happening.Stop cause = record { later = cause.later; cause = λ failed. absurd (cc failed) }
wait_failed old new until paused happening.End cause = record { later = cause.later; cause = λ failed. absurd (cc failed) }
wait_failed old new until paused happening.Failed cause = record { later = cause.later; cause = λ failed. cause.cause refl }

-- out of memory, no count of a wait falls
pub wait_counts_rise : {E : Type 0} (given : Bool) (old new : LoopCounts) (e : E) → WaitCounts {T = Happening} {E = E} given old new (Err e) → CountsRise old new
wait_counts_rise true old new e same = same_counts old new same
wait_counts_rise false old new e rise = rise
