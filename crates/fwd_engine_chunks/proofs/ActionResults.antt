-- Properties of each result that an action can have.
use Rattle.std.proofs.Common.{List, [], ◌∷◌, refl, sym, subst, ◌≡◌}
use Rattle.fwd_outside.specs.Program.{Return, Ask, Execution, bind}
use Rattle.fwd_outside.specs.Disk.{DiskProgram}
use Rattle.fwd_model.specs.Trace.{Action, Answer, TraceEntry}
use Rattle.fwd_model.specs.CallLogs.{CallLogs, Leads, Completes}
use Rattle.fwd_model.specs.DeviceActions.{on_disk}
use Rattle.fwd_model.proofs.Actions.{stays}

abbrev pub Ends : {R : Type 0} → (R → Type 0) → Action R → Type 0
Ends P (Return x) = P x
Ends P (Ask call go) = (answer : Answer call) → Ends P (go answer)

pub ends_bind : {Q R : Type 0} (P : R → Type 0) (p : Action Q) (next : Q → Action R) → Ends (λ x. Ends P (next x)) p → Ends P (bind p next)
ends_bind P (Return x) next ends = ends
ends_bind P (Ask call go) next ends = λ answer. ends_bind P (go answer) next (ends answer)

pub ends_more : {R : Type 0} (P Q : R → Type 0) (p : Action R) → ((x : R) → P x → Q x) → Ends P p → Ends Q p
ends_more P Q (Return x) more ends = more x ends
ends_more P Q (Ask call go) more ends = λ answer. ends_more P Q (go answer) more (ends answer)

-- for each answer of the disk
pub ends_disk : {Q R : Type 0} (P : R → Type 0) (p : DiskProgram Q) (next : Q → Action R) → ((x : Q) → Ends P (next x)) → Ends P (bind (on_disk p) next)
ends_disk P (Return x) next each = each x
ends_disk P (Ask call go) next each = λ answer. ends_disk P (go answer) next each

ends_way : {R : Type 0} (P : R → Type 0) (p : Action R) (es : List TraceEntry) (x : R) → Execution p es (Return x) → Ends P p → P x
ends_way P p [] x way ends = subst (λ q. Ends P q) (sym way) ends
ends_way P (Return y) (e ∷ es) x way ends = absurd way
ends_way P (Ask call go) (e ∷ es) x way ends = ends_way P (go way.0) es x way.2 (ends way.0)

-- for the result that it had
pub ended : {R : Type 0} (P : R → Type 0) {a b : CallLogs} (p : Action R) (x : R) → Completes a b p x → Ends P p → P x
ended P p x did ends = ends_way P p did.entries x did.way ends

pub bind_twice : {Q R S : Type 0} (p : Action Q) (f : Q → Action R) (g : R → Action S) → bind (bind p f) g ≡ bind p (λ x. bind (f x) g)
bind_twice (Return x) f g = refl
bind_twice (Ask call go) f g = λ i. Ask call (λ answer. bind_twice (go answer) f g i)

-- the rest is another action by its definition
pub leads_at : {R : Type 0} {a b : CallLogs} {p q r : Action R} → Leads a b p q → q ≡ r → Leads a b p r
leads_at {a = a} {b = b} {p = p} f same = subst (λ x. Leads a b p x) same f

-- an action that equals another one
pub leads_same : {R : Type 0} (w : CallLogs) (p q : Action R) → p ≡ q → Leads w w p q
leads_same w p q same = leads_at (stays w p) same
