-- Calls that lead from a program to the remaining one.
use Rattle.std.proofs.Common.{List, [], ◌∷◌, ◌++◌, Option, Some, None, refl, ap, subst}
use Rattle.fwd_outside.specs.Program.{Entry, entry, Program, Return, Ask, bind, Execution}
use Rattle.fwd_outside.specs.Log.{CallLog, LogGrew, Leads, Completes, IsBegun, IsBegunUnfailed, RunsProgram, RunsFallible, log_of_call}
use Rattle.fwd_outside.proofs.LogGrowth.{grew_none, grew_trans}

pub way_trans : {C : Type 0} {A : C → Type 0} {R : Type 0} (p q r : Program C A R) (xs ys : List (Entry C A)) → Execution p xs q → Execution q ys r → Execution p (xs ++ ys) r
way_trans {C = C} {A = A} {R = R} p q r [] ys e w = subst (λ (m : Program C A R). Execution m ys r) e w
way_trans (Return x) q r (e ∷ xs) ys w v = absurd w
way_trans (Ask call go) q r (e ∷ xs) ys w v = (w.0, w.1, way_trans (go w.0) q r xs ys w.2 v)

pub way_bind : {C : Type 0} {A : C → Type 0} {R S : Type 0} (p q : Program C A R) (xs : List (Entry C A)) (next : R → Program C A S) → Execution p xs q → Execution (bind p next) xs (bind q next)
way_bind {C = C} {A = A} {R = R} p q [] next e = ap (λ (m : Program C A R). bind m next) e
way_bind (Return x) q (e ∷ xs) next w = absurd w
way_bind (Ask call go) q (e ∷ xs) next w = (w.0, w.1, way_bind (go w.0) q xs next w.2)

-- no call was made
pub no_call_made : {G C : Type 0} {A : C → Type 0} {R : Type 0} (call_log : CallLog G C A) (p : Program C A R) → Leads call_log call_log p p
no_call_made call_log p = record { entries = []; grew = grew_none call_log; way = refl }

pub call_unlogged : {G C : Type 0} {A : C → Type 0} {R : Type 0} {a b : CallLog G C A} (p : Program C A R) → LogGrew a b [] → Leads a b p p
call_unlogged p g = record { entries = []; grew = g; way = refl }

-- one call was made, with this answer
pub call_logged : {G C : Type 0} {A : C → Type 0} {R : Type 0} {a b : CallLog G C A} (call : C) (answer : A call) (go : A call → Program C A R)
    → LogGrew a b (entry call answer ∷ []) → Leads a b (Ask call go) (go answer)
call_logged call answer go g = record { entries = entry call answer ∷ []; grew = g; way = (answer, refl, refl) }

pub leads_trans : {G C : Type 0} {A : C → Type 0} {R : Type 0} {a b c : CallLog G C A} {p q r : Program C A R} → Leads a b p q → Leads b c q r → Leads a c p r
leads_trans {a = a} {b = b} {c = c} {p = p} {q = q} {r = r} f g = record {
  entries = f.entries ++ g.entries;
  grew = grew_trans a b c f.entries g.entries f.grew g.grew;
  way = way_trans p q r f.entries g.entries f.way g.way;
}

pub leads_inside : {G C : Type 0} {A : C → Type 0} {R S : Type 0} {a b : CallLog G C A} {p q : Program C A R} (next : R → Program C A S) → Leads a b p q → Leads a b (bind p next) (bind q next)
leads_inside {p = p} {q = q} next f = record { entries = f.entries; grew = f.grew; way = way_bind p q f.entries next f.way }

-- a whole program, and then what follows it
pub leads_bind : {G C : Type 0} {A : C → Type 0} {R S : Type 0} {a b c : CallLog G C A} {p : Program C A R} {x : R} (next : R → Program C A S) {r : Program C A S}
    → Completes a b p x → Leads b c (next x) r → Leads a c (bind p next) r
leads_bind next f g = leads_trans (leads_inside next f) g

-- only a part of the program was made, or a part of the one that follows
pub began_inside : {G C : Type 0} {A : C → Type 0} {R S : Type 0} {a b : CallLog G C A} {p : Program C A R} (next : R → Program C A S) → IsBegun a b p → IsBegun a b (bind p next)
began_inside next f = (bind f.0 next, leads_inside next f.1)

pub began_after : {G C : Type 0} {A : C → Type 0} {R : Type 0} {a b c : CallLog G C A} {p q : Program C A R} → Leads a b p q → IsBegun b c q → IsBegun a c p
began_after f g = (g.0, leads_trans f g.1)

-- calls of the remaining program are calls of the program
pub makes_after : {G C : Type 0} {A : C → Type 0} {R : Type 0} (a b c : CallLog G C A) (p q : Program C A R) (result : Option R) → Leads a b p q → RunsProgram b c q result → RunsProgram a c p result
makes_after a b c p q (Some x) f g = leads_trans f g
makes_after a b c p q None f g = began_after f g

-- a whole program, and then calls of the one that follows
pub makes_bind : {G C : Type 0} {A : C → Type 0} {R S : Type 0} (a b c : CallLog G C A) (p : Program C A R) (x : R) (next : R → Program C A S) (result : Option S)
    → Completes a b p x → RunsProgram b c (next x) result → RunsProgram a c (bind p next) result
makes_bind a b c p x next result f g = makes_after a b c (bind p next) (next x) result (leads_inside next f) g

-- a single call
pub call_runs : {G C : Type 0} {A : C → Type 0} (a b : CallLog G C A) (call : C) (result : Option (A call)) → LogGrew a b (log_of_call call result) → RunsProgram a b (Ask call (λ answer. Return answer)) result
call_runs a b call (Some answer) g = call_logged call answer (λ answer. Return answer) g
call_runs a b call None g = (Ask call (λ answer. Return answer), call_unlogged (Ask call (λ answer. Return answer)) g)

-- a program that hasn't failed was begun
pub failed_is_begun : {G C : Type 0} {A : C → Type 0} {R : Type 0} (a b : CallLog G C A) (p : Program C A (Option R)) (result : Option (Option R)) → RunsFallible a b p result → RunsProgram a b p result
failed_is_begun a b p (Some x) f = f
failed_is_begun a b p None f = (f.0, f.1)

pub unfailed_after : {G C : Type 0} {A : C → Type 0} {R : Type 0} {a b c : CallLog G C A} {p q : Program C A (Option R)} → Leads a b p q → IsBegunUnfailed b c q → IsBegunUnfailed a c p
unfailed_after f g = (g.0, leads_trans f g.1, g.2)

pub attempts_after : {G C : Type 0} {A : C → Type 0} {R : Type 0} (a b c : CallLog G C A) (p q : Program C A (Option R)) (result : Option (Option R)) → Leads a b p q → RunsFallible b c q result → RunsFallible a c p result
attempts_after a b c p q (Some x) f g = leads_trans f g
attempts_after a b c p q None f g = unfailed_after f g
