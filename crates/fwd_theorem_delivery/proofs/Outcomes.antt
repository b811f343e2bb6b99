-- The ends of an action, with its calls on the loop and the facts so far.
use Rattle.std.proofs.Common.{◌≡◌, ℕ, Bool, true, false, cond, List, [], ◌∷◌, ◌++◌, append_assoc, refl, sym, ◌∙◌, ap, subst}
use Rattle.std.proofs.lemmas.List.{append-nil}
use Rattle.fwd_outside.specs.Program.{entry, Return, Ask, bind, Execution}
use Rattle.fwd_outside.specs.Loop.{LoopCall, LoopAnswer, LoopEntry, LoopProgram}
use Rattle.fwd_outside.specs.NewLinks.{greatest_by, greatest_after, IsNewLink, AreNewLinks}
use Rattle.fwd_model.specs.Fact.{Fact, History}
use Rattle.fwd_model.specs.Trace.{Call, OnLoop, OnDisk, OnFiles, OnKeeper, Note, Action, Answer, TraceEntry, loop_entry, loop_part, history_after, history_after_call}
use Rattle.fwd_model.specs.DeviceActions.{on_loop}

-- the greatest link number, the calls on the loop, and the facts
pub record Now : Type 0 where
  pub greatest : ℕ
  pub calls : List LoopEntry
  pub history : History

abbrev pub asked : (call : LoopCall) → LoopAnswer call → Now → Now
asked call answer n = record { greatest = greatest_by n.greatest call answer; calls = n.calls ++ entry call answer ∷ []; history = n.history }

abbrev pub noted : Fact → Now → Now
noted fact n = record { greatest = n.greatest; calls = n.calls; history = fact ∷ n.history }

abbrev pub behind_one : (call : Call) → Answer call → Now → Now
behind_one (OnLoop call) answer n = asked call answer n
behind_one (OnDisk call) answer n = n
behind_one (OnFiles call) answer n = n
behind_one (OnKeeper call) answer n = n
behind_one (Note fact) answer n = noted fact n

abbrev pub MayAnswer : (call : Call) → Answer call → Now → Type 0
MayAnswer (OnLoop call) answer n = IsNewLink n.greatest call answer
MayAnswer (OnDisk call) answer n = Unit {0}
MayAnswer (OnFiles call) answer n = Unit {0}
MayAnswer (OnKeeper call) answer n = Unit {0}
MayAnswer (Note fact) answer n = Unit {0}

-- for all answers with new links, Q holds of the result, and of the calls and facts by then
abbrev pub Ends : {R : Type 0} → (R → Now → Type 0) → Now → Action R → Type 0
Ends Q n (Return x) = Q x n
Ends Q n (Ask call go) = (answer : Answer call) → MayAnswer call answer n → Ends Q (behind_one call answer n) (go answer)

-- if it ends, Q holds there
pub record EndsAt {R : Type 0} (Q : R → Now → Type 0) (n : Now) (es : List TraceEntry) (x : R) : Type 0 where
  pub last : Now
  pub holds : Q x last
  pub calls : last.calls ≡ n.calls ++ loop_part es
  pub history : last.history ≡ history_after es n.history

one_new : (call : Call) (answer : Answer call) (n : Now) (es : List LoopEntry) → AreNewLinks n.greatest (loop_entry call answer ++ es) → MayAnswer call answer n × AreNewLinks (behind_one call answer n).greatest es
one_new (OnLoop call) answer n es are = are
one_new (OnDisk call) answer n es are = (tt, are)
one_new (OnFiles call) answer n es are = (tt, are)
one_new (OnKeeper call) answer n es are = (tt, are)
one_new (Note fact) answer n es are = (tt, are)

one_called : (call : Call) (answer : Answer call) (n : Now) (es : List LoopEntry) → (behind_one call answer n).calls ++ es ≡ n.calls ++ (loop_entry call answer ++ es)
one_called (OnLoop call) answer n es = append_assoc n.calls (entry call answer ∷ []) es
one_called (OnDisk call) answer n es = refl
one_called (OnFiles call) answer n es = refl
one_called (OnKeeper call) answer n es = refl
one_called (Note fact) answer n es = refl

one_noted : (call : Call) (answer : Answer call) (n : Now) → (behind_one call answer n).history ≡ history_after_call call n.history
one_noted (OnLoop call) answer n = refl
one_noted (OnDisk call) answer n = refl
one_noted (OnFiles call) answer n = refl
one_noted (OnKeeper call) answer n = refl
one_noted (Note fact) answer n = refl

one_way : {R : Type 0} (Q : R → Now → Type 0) (n : Now) (call : Call) (answer : Answer call) (es : List TraceEntry) (x : R) → EndsAt Q (behind_one call answer n) es x → EndsAt Q n (entry call answer ∷ es) x
one_way Q n call answer es x rest = record {
  last = rest.last;
  holds = rest.holds;
  calls = rest.calls ∙ one_called call answer n (loop_part es);
  history = rest.history ∙ ap (λ (h : History). history_after es h) (one_noted call answer n);
}

pub ends_way : {R : Type 0} (Q : R → Now → Type 0) (n : Now) (p : Action R) → Ends Q n p
    → (es : List TraceEntry) (x : R) → Execution p es (Return x) → AreNewLinks n.greatest (loop_part es) → EndsAt Q n es x
ends_way {R = R} Q n (Return y) ends [] x way are =
    let is : y ≡ x = cc way in
    record { last = n; holds = subst (λ (z : R). Q z n) is ends; calls = sym (append-nil n.calls); history = refl }
ends_way Q n (Ask call go) ends [] x way are = absurd (cc way)
ends_way Q n (Return y) ends (e ∷ es) x way are = absurd way
ends_way {R = R} Q n (Ask call go) ends (e ∷ es) x way are =
    let new = one_new call way.0 n (loop_part es) (subst (λ (y : TraceEntry). AreNewLinks n.greatest (loop_entry y.call y.answer ++ loop_part es)) way.1 are) in
    subst (λ (y : TraceEntry). EndsAt Q n (y ∷ es) x) (sym way.1)
    (one_way Q n call way.0 es x (ends_way Q (behind_one call way.0 n) (go way.0) (ends way.0 new.0) es x way.2 new.1))

pub ends_bind : {R S : Type 0} (M : R → Now → Type 0) (Q : S → Now → Type 0) (n : Now) (p : Action R) (next : R → Action S)
    → Ends M n p → ((x : R) (m : Now) → M x m → Ends Q m (next x)) → Ends Q n (bind p next)
ends_bind M Q n (Return x) next first second = second x n first
ends_bind M Q n (Ask call go) next first second = λ answer may. ends_bind M Q (behind_one call answer n) (go answer) next (first answer may) second

pub ends_if : {R : Type 0} (Q : R → Now → Type 0) (b : Bool) (n : Now) (p q : Action R) → Ends Q n p → Ends Q n q → Ends Q n (cond b p q)
ends_if Q true n p q first second = first
ends_if Q false n p q first second = second

-- if a test decides, each side may use its result
pub ends_test : {R : Type 0} (Q : R → Now → Type 0) (b : Bool) (n : Now) (p q : Action R) → (b ≡ true → Ends Q n p) → (b ≡ false → Ends Q n q) → Ends Q n (cond b p q)
ends_test Q true n p q first second = first refl
ends_test Q false n p q first second = second refl

-- after calls on the loop alone
abbrev pub behind_all : List LoopEntry → Now → Now
behind_all es n = record { greatest = greatest_after n.greatest es; calls = n.calls ++ es; history = n.history }

pub ends_loop : {R : Type 0} (Q : R → Now → Type 0) (n : Now) (program : LoopProgram R)
    → ((es : List LoopEntry) (x : R) → Execution program es (Return x) → AreNewLinks n.greatest es → Q x (behind_all es n)) → Ends Q n (on_loop program)
ends_loop Q n (Return x) law =
    subst (λ (calls : List LoopEntry). Q x (record { greatest = n.greatest; calls = calls; history = n.history })) (append-nil n.calls) (law [] x refl tt)
ends_loop Q n (Ask call go) law = λ answer new.
    ends_loop Q (asked call answer n) (go answer)
    (λ es x way are. subst (λ (calls : List LoopEntry). Q x (record { greatest = greatest_after (greatest_by n.greatest call answer) es; calls = calls; history = n.history }))
    (sym (append_assoc n.calls (entry call answer ∷ []) es)) (law (entry call answer ∷ es) x (answer, refl, way) (new, are)))
