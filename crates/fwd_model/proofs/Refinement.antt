-- Refinement composes.
use Rattle.std.proofs.Common.{◌≡◌, ◌∷◌, [], Result, Ok, Err, subst, refl}
use Rattle.std.specs.Result.{IsErr}
use Rattle.std.proofs.lemmas.Result.{MatchResult-from_err}
use Rattle.fwd_outside.specs.Program.{entry, Return, Ask, bind}
use Rattle.fwd_outside.specs.Log.{LogGrew, IsBegun as BeganOne}
use Rattle.fwd_outside.proofs.LogGrowth.{grew_none}
use Rattle.fwd_outside.specs.Loop.{LoopLog, LoopCall, LoopAnswer, LoopProgram}
use Rattle.fwd_model.specs.Fact.{Fact, History}
use Rattle.fwd_model.specs.Trace.{Action, OnLoop}
use Rattle.fwd_model.specs.CallLogs.{CallLogs, Leads, IsBegun}
use Rattle.fwd_model.specs.DeviceActions.{on_loop}
use Rattle.fwd_model.specs.Notes.{note_then, note}
use Rattle.fwd_model.specs.Refines.{CompletedWith, Refines}
use Rattle.fwd_model.proofs.Actions.{stays, fact_noted, goes_on, leads_inside, begun_trans}
use Rattle.fwd_model.proofs.DeviceActions.{loop_leads}

-- calls, and then an action that goes on with their results
pub completes_after : {R : Type 0} (Represents : R → Type 0) {a b : CallLogs} (c : CallLogs) (p q : Action R) → Leads a b p q → CompletedWith Represents b c q → CompletedWith Represents a c p
completes_after Represents c p q f g = record { result = g.result; did = goes_on f g.did; shows = g.shows }

pub refines_after : {R T E : Type 0} (Represents : T → R → Type 0) {a b : CallLogs} (c : CallLogs) (p q : Action R) (r : Result T E) → Leads a b p q → Refines Represents b c q r → Refines Represents a c p r
refines_after Represents c p q (Ok x) f g = completes_after (Represents x) c p q f g
refines_after Represents c p q (Err e) f g = begun_trans f g

-- the exit of a `?`
pub refines_err : {R T E : Type 0} (Represents : T → R → Type 0) {a b : CallLogs} (p : Action R) (r : Result T E) → IsErr r → IsBegun a b p → Refines Represents a b p r
refines_err Represents p r is began = MatchResult-from_err r _ _ is (λ _. began)

-- the empty action
pub completes_idle : {R : Type 0} (Represents : R → Type 0) (w : CallLogs) (x : R) → Represents x → CompletedWith Represents w w (Return x)
completes_idle Represents w x shows = record { result = x; did = stays w (Return x); shows = shows }

-- one logged fact
pub completes_note : (Represents : History → Type 0) (w : CallLogs) (fact : Fact) (h : History) → Represents (fact ∷ h) → CompletedWith Represents w w (note fact h)
completes_note Represents w fact h shows = record { result = fact ∷ h; did = fact_noted w fact _; shows = shows }

-- a logged fact, and what follows it
pub completes_note_then : {R : Type 0} (Represents : R → Type 0) (a c : CallLogs) (fact : Fact) (h : History) (next : History → Action R) → CompletedWith Represents a c (next (fact ∷ h)) → CompletedWith Represents a c (note_then fact h next)
completes_note_then Represents a c fact h next acted = completes_after Represents c (note_then fact h next) (next (fact ∷ h)) (fact_noted a fact _) acted

pub refines_note_then : {R T E : Type 0} (Represents : T → R → Type 0) (a c : CallLogs) (fact : Fact) (h : History) (next : History → Action R) (r : Result T E)
    → Refines Represents a c (next (fact ∷ h)) r → Refines Represents a c (note_then fact h next) r
refines_note_then Represents a c fact h next r met = refines_after Represents c (note_then fact h next) (next (fact ∷ h)) r (fact_noted a fact _) met

-- one action, and then another
pub refines_bind : {Q R T E : Type 0} (First : Q → Type 0) (Represents : T → R → Type 0) {a b : CallLogs} (c : CallLogs) (p : Action Q) (next : Q → Action R) (r : Result T E)
    → CompletedWith First a b p → ((x : Q) → First x → Refines Represents b c (next x) r) → Refines Represents a c (bind p next) r
refines_bind First Represents c p next r first second = refines_after Represents c (bind p next) (next first.result) r (leads_inside next first.did) (second first.result first.shows)

pub completes_bind : {Q R : Type 0} (First : Q → Type 0) (Represents : R → Type 0) {a b : CallLogs} (c : CallLogs) (p : Action Q) (next : Q → Action R)
    → CompletedWith First a b p → ((x : Q) → First x → CompletedWith Represents b c (next x)) → CompletedWith Represents a c (bind p next)
completes_bind First Represents c p next first second = completes_after Represents c (bind p next) (next first.result) (leads_inside next first.did) (second first.result first.shows)

-- the same action at an equal argument
pub refines_at : {A R T E : Type 0} (Represents : T → R → Type 0) (a b : CallLogs) (act : A → Action R) (r : Result T E) (x y : A) → x ≡ y → Refines Represents a b (act x) r → Refines Represents a b (act y) r
refines_at Represents a b act r x y same met = subst (λ z. Refines Represents a b (act z) r) same met

pub completes_at : {A R : Type 0} (Represents : R → Type 0) (a b : CallLogs) (act : A → Action R) (x y : A) → x ≡ y → CompletedWith Represents a b (act x) → CompletedWith Represents a b (act y)
completes_at Represents a b act x y same acted = subst (λ z. CompletedWith Represents a b (act z)) same acted

-- ---- the calls of a loop, whatever the other devices log

-- one call was made, with this answer
pub loop_called : {R : Type 0} (w : CallLogs) (new : LoopLog) (call : LoopCall) (answer : LoopAnswer call) (go : LoopAnswer call → Action R)
    → LogGrew w.loop new (entry call answer ∷ []) → Leads w (record w { loop = new }) (Ask (OnLoop call) go) (go answer)
loop_called w new call answer go grew = record {
  entries = entry (OnLoop call) answer ∷ [];
  asked = record { loop = grew; disk = grew_none w.disk; files = grew_none w.files; keeper = grew_none w.keeper };
  way = (answer, refl, refl);
}

-- no call was made
pub loop_uncalled : {R : Type 0} (w : CallLogs) (new : LoopLog) (p : Action R) → LogGrew w.loop new [] → Leads w (record w { loop = new }) p p
loop_uncalled w new p grew = record {
  entries = [];
  asked = record { loop = grew; disk = grew_none w.disk; files = grew_none w.files; keeper = grew_none w.keeper };
  way = refl;
}

pub loop_begun : {R : Type 0} (w : CallLogs) (new : LoopLog) (p : LoopProgram R) → BeganOne w.loop new p → IsBegun w (record w { loop = new }) (on_loop p)
loop_begun w new p began = (on_loop began.0, loop_leads w new p began.0 began.1)
