-- A run that its last tick stopped, in two parts: the calls below the keyed loop fall into two parts, too.
use Rattle.std.proofs.Common.{◌≡◌, ◌⊎◌, inl, inr, ℕ, Bool, true, false, List, [], ◌∷◌, ◌++◌, map, length, Option, Some, None, refl, sym, ◌∙◌, ap, subst, append_assoc}
use Rattle.std.proofs.lemmas.List.{append-nil, map-append}
use Rattle.fwd_outside.specs.Program.{entry, Return, Ask, Execution}
use Rattle.fwd_outside.specs.Log.{LogGrew}
use Rattle.fwd_outside.specs.Loop.{LoopCall, LoopAnswer, LoopEntry, LoopGiven, LoopLog, LoopProgram, Start, Wait, Dial, Push, Close, Reply, DropConn, Word, PushAnswer}
use Rattle.fwd_outside.specs.declared.happening.Happening.{Happening}
use Rattle.fwd_settings.specs.declared.settings_types.AllSettings.{AllSettings}
use Rattle.fwd_model.specs.Trace.{Call, Answer, TraceEntry, OnLoop, OnDisk, OnFiles, OnKeeper, Note, loop_part}
use Rattle.fwd_model.proofs.CallLogs.{loop_append}
use Rattle.fwd_secure.specs.declared.keys.Keys.{Keys}
use Rattle.fwd_secure.specs.Handshakes.{Handshakes, no_handshakes}
use Rattle.fwd_secure.specs.Rules.{answers}
use Rattle.fwd_secure.specs.Carried.{Carries, Ends, IsCarried}
use Rattle.fwd_secure.specs.LoopBelow.{LoopBelow}
use Rattle.fwd_secure.specs.Secure.{Secure, HasGrown, IsSecure}
use Rattle.fwd_secure_settings.specs.Keys.{keys_of}
use Rattle.fwd_secure_trace.specs.Secured.{CallIsSecured, IsSecured}
use Rattle.fwd_secure_trace.proofs.Secured.{carries_splits, joined, secured_append}
use Rattle.fwd_replay.specs.RecordedParts.{HasAnswered}
use Rattle.fwd_replay.proofs.KeyedTurns.{CallsBelow, calls_below}

-- ---- calls that come first in one list of calls

-- a list that is another with something before it
behind : {X : Type 0} (x : X) (xs ys : List X) → ◌≡◌ {A = List X} (x ∷ xs) (x ∷ ys) → xs ≡ ys
behind x xs ys is = cc is

first_of : {X : Type 0} (x y : X) (xs ys : List X) → ◌≡◌ {A = List X} (x ∷ xs) (y ∷ ys) → x ≡ y
first_of x y xs ys is = cc is

-- what follows a list, in two lists that begin with it
pub behind_same : {X : Type 0} (xs ys zs : List X) → xs ++ ys ≡ xs ++ zs → ys ≡ zs
behind_same [] ys zs is = is
behind_same (x ∷ xs) ys zs is = behind_same xs ys zs (behind x (xs ++ ys) (xs ++ zs) is)

some_same : {T : Type 0} (a b : T) → ◌≡◌ {A = Option T} (Some a) (Some b) → a ≡ b
some_same a b is = cc is

-- the answers of one call, in two entries that are the same
abbrev started : (call : LoopCall) → LoopAnswer call → Option (Option (Unit {0}))
started (Start ends) answer = Some answer
started call answer = None

abbrev waited : (call : LoopCall) → LoopAnswer call → Option Happening
waited (Wait until paused) answer = Some answer
waited call answer = None

abbrev dialed : (call : LoopCall) → LoopAnswer call → Option (Option ℕ)
dialed (Dial output tag) answer = Some answer
dialed call answer = None

abbrev pushed : (call : LoopCall) → LoopAnswer call → Option PushAnswer
pushed (Push link bytes) answer = Some answer
pushed call answer = None

abbrev replied : (call : LoopCall) → LoopAnswer call → Option (Option (Unit {0}))
replied (Reply conn bytes) answer = Some answer
replied call answer = None

abbrev drawn : (call : LoopCall) → LoopAnswer call → Option ℕ
drawn Word answer = Some answer
drawn call answer = None

same_answer : (call : LoopCall) (a b : LoopAnswer call) → ◌≡◌ {A = LoopEntry} (entry call a) (entry call b) → a ≡ b
same_answer (Start ends) a b is = some_same a b (ap (λ (e : LoopEntry). started e.call e.answer) is)
same_answer (Wait until paused) a b is = some_same a b (ap (λ (e : LoopEntry). waited e.call e.answer) is)
same_answer (Dial output tag) a b is = some_same a b (ap (λ (e : LoopEntry). dialed e.call e.answer) is)
same_answer (Push link bytes) a b is = some_same a b (ap (λ (e : LoopEntry). pushed e.call e.answer) is)
same_answer (Close link) a b is = refl
same_answer (Reply conn bytes) a b is = some_same a b (ap (λ (e : LoopEntry). replied e.call e.answer) is)
same_answer (DropConn conn) a b is = refl
same_answer Word a b is = some_same a b (ap (λ (e : LoopEntry). drawn e.call e.answer) is)

module _ {R : Type 0} where
  same_return : (x y : R) → ◌≡◌ {A = LoopProgram R} (Return x) (Return y) → x ≡ y
  same_return x y is = cc is

  -- a program that came to its end made the same calls in both
  pub one_end : (p : LoopProgram R) (own own2 rest rest2 : List LoopEntry) (x y : R) → Execution p own (Return x) → Execution p own2 (Return y) → own ++ rest ≡ own2 ++ rest2 → (own2 ≡ own) × (y ≡ x)
  one_end (Return z) [] [] rest rest2 x y one other same = (refl, same_return y z other ∙ sym (same_return x z one))
  one_end (Return z) [] (e ∷ es) rest rest2 x y one other same = absurd other
  one_end (Return z) (e ∷ es) own2 rest rest2 x y one other same = absurd one
  one_end (Ask call go) [] own2 rest rest2 x y one other same = absurd (cc one)
  one_end (Ask call go) (e ∷ es) [] rest rest2 x y one other same = absurd (cc other)
  one_end (Ask call go) (e ∷ es) (f ∷ fs) rest rest2 x y one other same =
      let heads : f ≡ e = sym (first_of e f (es ++ rest) (fs ++ rest2) same) in
      let is : other.0 ≡ one.0 = same_answer call other.0 one.0 (sym other.1 ∙ heads ∙ one.1) in
      let tails : es ++ rest ≡ fs ++ rest2 = behind e (es ++ rest) (fs ++ rest2) (same ∙ ap (λ (z : LoopEntry). z ∷ (fs ++ rest2)) heads) in
      let more = one_end (go one.0) es fs rest rest2 x y one.2 (subst (λ (a : LoopAnswer call). Execution (go a) fs (Return y)) is other.2) tails in
      (ap (λ (z : LoopEntry). z ∷ fs) heads ∙ ap (λ (l : List LoopEntry). e ∷ l) more.0, more.1)

module _ (keys : Keys) where
  -- the same calls above came of the same calls below
  pub carries_one : (k t t2 : Handshakes) (above calls calls2 rest rest2 : List LoopEntry) → Carries keys k calls above t → Carries keys k calls2 above t2 → calls ++ rest ≡ calls2 ++ rest2 → (calls2 ≡ calls) × (t2 ≡ t)
  carries_one k t t2 [] calls calls2 rest rest2 one other same = (other.0 ∙ sym one.0, other.1 ∙ sym one.1)
  carries_one k t t2 (e ∷ es) calls calls2 rest rest2 one other same =
      let whole : one.0 ++ (one.1 ++ rest) ≡ other.0 ++ (other.1 ++ rest2) =
      sym (append_assoc one.0 one.1 rest) ∙ ap (λ (l : List LoopEntry). l ++ rest) (sym one.3) ∙ same ∙ ap (λ (l : List LoopEntry). l ++ rest2) other.3 ∙ append_assoc other.0 other.1 rest2
      in
      let head = one_end (answers keys k e.call) one.0 other.0 (one.1 ++ rest) (other.1 ++ rest2) (e.answer, one.2) (e.answer, other.2) one.4 other.4 whole in
      let state : other.2 ≡ one.2 = ap (λ (p : LoopAnswer e.call × Handshakes). p.1) head.1 in
      let tail : one.1 ++ rest ≡ other.1 ++ rest2 = behind_same one.0 (one.1 ++ rest) (other.1 ++ rest2) (whole ∙ ap (λ (l : List LoopEntry). l ++ (other.1 ++ rest2)) head.0) in
      let more = carries_one one.2 t t2 es one.1 other.1 rest rest2 one.5 (subst (λ (u : Handshakes). Carries keys u other.1 es t2) state other.5) tail in
      (other.3 ∙ ap (λ (l : List LoopEntry). l ++ other.1) head.0 ∙ ap (λ (l : List LoopEntry). one.0 ++ l) more.0 ∙ sym one.3, more.1)

  -- a trace without calls on the loop is the same below
  pub untouched : (k : Handshakes) (es : List TraceEntry) → loop_part es ≡ [] → IsSecured keys k es es k
  untouched k [] none = (refl, refl)
  untouched k (e ∷ es) none = by e.call e.answer none (λ rest. untouched k es rest)
    where
      by : (call : Call) (answer : Answer call) → loop_part (entry call answer ∷ es) ≡ [] → (loop_part es ≡ [] → IsSecured keys k es es k) → IsSecured keys k (entry call answer ∷ es) (entry call answer ∷ es) k
      by (OnLoop call) answer some more = absurd (cc some)
      by (OnDisk call) answer rest more = (entry (OnDisk call) answer ∷ [], es, k, refl, (refl, refl), more rest)
      by (OnFiles call) answer rest more = (entry (OnFiles call) answer ∷ [], es, k, refl, (refl, refl), more rest)
      by (OnKeeper call) answer rest more = (entry (OnKeeper call) answer ∷ [], es, k, refl, (refl, refl), more rest)
      by (Note fact) answer rest more = (entry (Note fact) answer ∷ [], es, k, refl, (refl, refl), more rest)

-- ---- the calls below the keyed loop

-- what is in a log that is there
pub logged_given : {G X : Type 0} (a b : G × List X) → ◌≡◌ {A = Option (G × List X)} (Some a) (Some b) → a.0 ≡ b.0
logged_given {G} {X} a b is = ap (λ (p : G × List X). p.0) (some_same a b is)

pub logged_calls : {G X : Type 0} (a b : G × List X) → ◌≡◌ {A = Option (G × List X)} (Some a) (Some b) → a.1 ≡ b.1
logged_calls {G} {X} a b is = ap (λ (p : G × List X). p.1) (some_same a b is)

-- a log that grew by some calls from one that is there
grown_calls : (given : LoopGiven) (old new : LoopLog) (calls later : List LoopEntry) → old ≡ Some (given, calls) → new ≡ Some (given, later) → HasGrown old new → (more : List LoopEntry) × (later ≡ calls ++ more)
grown_calls given old new calls later first last grown =
    (grown.0, (subst (λ (l : LoopLog). LogGrew (Some (given, calls)) l grown.0) last (subst (λ (l : LoopLog). LogGrew l new grown.0) first grown.1)).1)

-- the calls of a keyed loop that was made for a run over a loop with this log
pub record MadeFor (s : AllSettings) (given : LoopGiven) (before : Secure) : Type 0 where
  pub keys : before.keys ≡ keys_of s
  pub start : before.start.call_log ≡ Some (given, [])
  pub above : before.above ≡ []

module _ (s : AllSettings) (given : LoopGiven) (before after : Secure) (made : MadeFor s given before) where
  answered_calls : (calls : List LoopEntry) → HasAnswered before after calls → after.above ≡ calls
  answered_calls calls answered = answered.above ∙ ap (λ (l : List LoopEntry). l ++ calls) made.above

  below_of : (calls : List LoopEntry) → HasAnswered before after calls → IsSecure after → after.out_of_memory ≡ false → CallsBelow (keys_of s) given after
  below_of calls answered is going =
      calls_below (keys_of s) given after (answered.keys ∙ made.keys) going (ap (λ (b : LoopBelow). b.call_log) answered.start ∙ made.start) is

-- the parts of a run that was stopped
pub record PartsBelow (s : AllSettings) (given : LoopGiven) (here after : Secure) (first second : List TraceEntry) : Type 0 where
  pub first_below : List TraceEntry
  pub second_below : List TraceEntry
  pub first_secured : IsSecured (keys_of s) no_handshakes first first_below here.state
  pub second_secured : IsSecured (keys_of s) here.state second second_below after.state
  pub first_log : here.below.call_log ≡ Some (given, loop_part first_below)
  pub log : after.below.call_log ≡ Some (given, loop_part (first_below ++ second_below))

module _ (s : AllSettings) (given : LoopGiven) (before here after : Secure) (made : MadeFor s given before) (first second : List TraceEntry) where
  pub parts_below : HasAnswered before here (loop_part first) → IsSecure here → here.out_of_memory ≡ false → after.marked ≡ here.below.call_log
      → HasAnswered before after (loop_part (first ++ second)) → IsSecure after → after.out_of_memory ≡ false → PartsBelow s given here after first second
  parts_below answered_here is_here going_here marked answered is going =
      let keys = keys_of s in
      let one = below_of s given before here made (loop_part first) answered_here is_here going_here in
      let all = below_of s given before after made (loop_part (first ++ second)) answered is going in
      let above : after.above ≡ loop_part first ++ loop_part second = answered_calls s given before after made (loop_part (first ++ second)) answered ∙ loop_append first second in
      let split = carries_splits keys no_handshakes after.state (loop_part first) (loop_part second) all.calls (subst (λ (l : List LoopEntry). Carries keys no_handshakes all.calls l after.state) above all.carries) in
      let grown = grown_calls given after.marked after.below.call_log one.calls all.calls (marked ∙ one.log) all.log is.since in
      let first_carries : Carries keys no_handshakes one.calls (loop_part first) here.state = subst (λ (l : List LoopEntry). Carries keys no_handshakes one.calls l here.state) (answered_calls s given before here made (loop_part first) answered_here) one.carries in
      let same = carries_one keys no_handshakes here.state split.at (loop_part first) one.calls split.first grown.0 split.second first_carries split.before (sym grown.1 ∙ split.is) in
      let so = joined keys no_handshakes here.state one.calls first first_carries in
      let more = joined keys here.state after.state split.second second (subst (λ (k : Handshakes). Carries keys k split.second (loop_part second) after.state) same.1 split.after) in
      let whole : all.calls ≡ loop_part (so.below ++ more.below) =
      split.is
      ∙ ap (λ (l : List LoopEntry). l ++ split.second) (same.0 ∙ sym so.is)
      ∙ ap (λ (l : List LoopEntry). loop_part so.below ++ l) (sym more.is)
      ∙ sym (loop_append so.below more.below)
      in
      record {
        first_below = so.below;
        second_below = more.below;
        first_secured = so.so;
        second_secured = more.so;
        first_log = one.log ∙ ap (λ (l : List LoopEntry). Some (given, l)) (sym so.is);
        log = all.log ∙ ap (λ (l : List LoopEntry). Some (given, l)) whole;
      }
