-- Steps of an action compose.
use Rattle.std.proofs.Common.{[], ◌∷◌, ◌++◌, Option, Some, None, refl}
use Rattle.fwd_outside.specs.Program.{entry, Return, Ask, bind}
use Rattle.fwd_outside.proofs.Executions.{way_trans, way_bind}
use Rattle.fwd_model.specs.Fact.{Fact}
use Rattle.fwd_model.specs.Trace.{Action, Note}
use Rattle.fwd_model.specs.CallLogs.{CallLogs, Leads, Completes, IsBegun, RunsAction}
use Rattle.fwd_model.proofs.CallLogs.{logs_grew_none, logs_grew_both}

-- no call was made
pub stays : {R : Type 0} (w : CallLogs) (p : Action R) → Leads w w p p
stays w p = record { entries = []; asked = logs_grew_none w; way = refl }

pub completes_return : {R : Type 0} (w : CallLogs) (x : R) → Completes w w (Return x) x
completes_return w x = stays w (Return x)

-- a fact was logged
pub fact_noted : {R : Type 0} (w : CallLogs) (fact : Fact) (go : Unit {0} → Action R) → Leads w w (Ask (Note fact) go) (go tt)
fact_noted w fact go = record { entries = entry (Note fact) tt ∷ []; asked = let none = logs_grew_none w in record { loop = none.loop; disk = none.disk; files = none.files; keeper = none.keeper }; way = (tt, refl, refl) }

pub goes_on : {R : Type 0} {a b c : CallLogs} {p q r : Action R} → Leads a b p q → Leads b c q r → Leads a c p r
goes_on {a = a} {b = b} {c = c} {p = p} {q = q} {r = r} f g = record {
  entries = f.entries ++ g.entries;
  asked = logs_grew_both a b c f.entries g.entries f.asked g.asked;
  way = way_trans p q r f.entries g.entries f.way g.way;
}

pub leads_inside : {R S : Type 0} {a b : CallLogs} {p q : Action R} (next : R → Action S) → Leads a b p q → Leads a b (bind p next) (bind q next)
leads_inside {p = p} {q = q} next f = record { entries = f.entries; asked = f.asked; way = way_bind p q f.entries next f.way }

-- a whole action, and then what follows it
pub leads_bind : {R S : Type 0} {a b c : CallLogs} {p : Action R} {x : R} (next : R → Action S) {r : Action S} → Completes a b p x → Leads b c (next x) r → Leads a c (bind p next) r
leads_bind next f g = goes_on (leads_inside next f) g

-- a prefix of the action, or of what follows it
pub begun_bind : {R S : Type 0} {a b : CallLogs} {p : Action R} (next : R → Action S) → IsBegun a b p → IsBegun a b (bind p next)
begun_bind next f = (bind f.0 next, leads_inside next f.1)

pub begun_trans : {R : Type 0} {a b c : CallLogs} {p q : Action R} → Leads a b p q → IsBegun b c q → IsBegun a c p
begun_trans f g = (g.0, goes_on f g.1)

-- what is performed of the rest of an action is performed of the action
pub runs_trans : {R : Type 0} (a b c : CallLogs) (p q : Action R) (result : Option R) → Leads a b p q → RunsAction b c q result → RunsAction a c p result
runs_trans a b c p q (Some x) f g = goes_on f g
runs_trans a b c p q None f g = begun_trans f g

-- a whole action, and then what is performed of the next one
pub runs_bind : {R S : Type 0} (a b c : CallLogs) (p : Action R) (x : R) (next : R → Action S) (result : Option S) → Completes a b p x → RunsAction b c (next x) result → RunsAction a c (bind p next) result
runs_bind a b c p x next result f g = runs_trans a b c (bind p next) (next x) result (leads_inside next f) g
