-- The calls of a rule, one after another.
use Rattle.std.proofs.Common.{◌≡◌, [], Option, Some, None, option_map, Result, Ok, Err, IsErr, IfOk, sym, subst}
use Rattle.fwd_outside.specs.Program.{Return, Ask, bind}
use Rattle.fwd_outside.specs.Log.{LogGrew, Completes, RunsProgram, log_of_call}
use Rattle.fwd_outside.specs.Loop.{LoopCall, LoopAnswer, LoopLog, LoopProgram, loop_outcome}
use Rattle.fwd_outside.proofs.LogGrowth.{grew_none}
use Rattle.fwd_outside.proofs.Executions.{no_call_made, call_unlogged, call_logged, makes_after, makes_bind, began_inside}
use Rattle.fwd_secure.specs.Outcome.{with_state}

-- a call whose answer is passed on
pub passed_on : {S : Type 0} (a b : LoopLog) (call : LoopCall) (k : S) (o : Option (LoopAnswer call)) → LogGrew a b (log_of_call call o)
    → RunsProgram a b (Ask call (λ answer. Return (answer, k))) (with_state o k)
passed_on a b call k (Some answer) grew = call_logged call answer (λ answer. Return (answer, k)) grew
passed_on a b call k None grew = (Ask call (λ answer. Return (answer, k)), call_unlogged (Ask call (λ answer. Return (answer, k))) grew)

-- no call was made
pub returned : {R : Type 0} (a : LoopLog) (x : R) → RunsProgram a a (Return x) (Some x)
returned a x = no_call_made a (Return x)

-- memory was out before the next call was answered
pub stopped : {R : Type 0} (a b : LoopLog) (p : LoopProgram R) → LogGrew a b [] → RunsProgram a b p None
stopped a b p grew = (p, call_unlogged p grew)

pub unasked : {R : Type 0} (a : LoopLog) (p : LoopProgram R) → RunsProgram a a p None
unasked a p = stopped a a p (grew_none a)

-- the exit of a `?`
pub cut : {T E S : Type 0} (a b : LoopLog) (p : LoopProgram (T × S)) (r : Result T E) (k : S) → IsErr r → RunsProgram a b p None → RunsProgram a b p (with_state (loop_outcome r) k)
cut a b p (Err e) k is runs = runs
cut a b p (Ok x) k is runs = absurd (cc is)

-- a call that was answered, and then what follows it
pub goes_on : {R : Type 0} (a b c : LoopLog) (call : LoopCall) (answer : LoopAnswer call) (go : LoopAnswer call → LoopProgram R) (r : Option R)
    → LogGrew a b (log_of_call call (Some answer)) → RunsProgram b c (go answer) r → RunsProgram a c (Ask call go) r
goes_on a b c call answer go r grew runs = makes_after a b c (Ask call go) (go answer) r (call_logged call answer go grew) runs

-- a whole program, and then memory was out
pub stopped_after : {R S : Type 0} (a b : LoopLog) (p : LoopProgram R) (x : R) (next : R → LoopProgram S) → Completes a b p x → RunsProgram a b (bind p next) None
stopped_after a b p x next first = makes_bind a b b p x next None first (unasked b (next x))

-- the same program
pub by_program : {R : Type 0} (a b : LoopLog) (p q : LoopProgram R) (r : Option R) → q ≡ p → RunsProgram a b p r → RunsProgram a b q r
by_program a b p q r is runs = subst (λ (x : LoopProgram _). RunsProgram a b x r) (sym is) runs

-- the exit of a `?`, where the result is the program's own
pub cut_plain : {T E : Type 0} (a b : LoopLog) (p : LoopProgram T) (r : Result T E) → IsErr r → RunsProgram a b p None → RunsProgram a b p (loop_outcome r)
cut_plain a b p (Err e) is runs = runs
cut_plain a b p (Ok x) is runs = absurd (cc is)

-- the exit of a `?`, where the program's answer is made of the result's value
pub cut_mapped : {T U E S : Type 0} (a b : LoopLog) (p : LoopProgram (U × S)) (f : T → U) (r : Result T E) (k : S) → IsErr r → RunsProgram a b p None
    → RunsProgram a b p (with_state (option_map f (loop_outcome r)) k)
cut_mapped a b p f (Err e) k is runs = runs
cut_mapped a b p f (Ok x) k is runs = absurd (cc is)

-- memory was out inside the first of two programs
pub stopped_inside : {R S : Type 0} (a b : LoopLog) (p : LoopProgram R) (next : R → LoopProgram S) → RunsProgram a b p None → RunsProgram a b (bind p next) None
stopped_inside a b p next runs = began_inside next runs

-- a whole program, and then what follows it
pub goes_behind : {R S : Type 0} (a b c : LoopLog) (p : LoopProgram R) (x : R) (next : R → LoopProgram S) (r : Option S) → Completes a b p x → RunsProgram b c (next x) r → RunsProgram a c (bind p next) r
goes_behind a b c p x next r first second = makes_bind a b c p x next r first second

-- at another state or another answer that are the same
pub at_state : {T S : Type 0} (a b : LoopLog) (p : LoopProgram (T × S)) (x y : T) (k u : S) → y ≡ x → u ≡ k → RunsProgram a b p (Some (x, k)) → RunsProgram a b p (Some (y, u))
at_state a b p x y k u same_answer same_state runs = rw (same_answer, same_state) runs

-- a program that is a result
pub is_returned : {R : Type 0} (a : LoopLog) (p : LoopProgram R) (x : R) → p ≡ Return x → RunsProgram a a p (Some x)
is_returned a p x is = by_program a a (Return x) p (Some x) is (returned a x)

-- a function without calls
pub pure_call : {T S E : Type 0} (a : LoopLog) (p : LoopProgram (T × S)) (r : Result T E) (u : S) → IfOk r (λ y. p ≡ Return (y, u)) → RunsProgram a a p (with_state (loop_outcome r) u)
pure_call a p (Ok y) u is = is_returned a p (y, u) is
pure_call a p (Err e) u is = unasked a p
