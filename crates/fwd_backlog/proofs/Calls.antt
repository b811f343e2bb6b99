-- The calls of loading as steps of its disk programs.
use Rattle.std.proofs.Common.{◌≡◌, ◌≢◌, ℕ, List, [], Option, Some, None, Result, Ok, Err, IsErrAnd, refl, sym, subst}
use Rattle.fwd_outside.specs.Program.{Program, Return, Ask, with_value, and_then}
use Rattle.fwd_outside.specs.Log.{LogGrew, Leads, Completes, IsBegunUnfailed, RunsProgram, log_of_call}
use Rattle.fwd_outside.proofs.Executions.{leads_trans, leads_inside, call_logged, call_unlogged}
use Rattle.fwd_outside.specs.Disk.{DiskLog, DiskProgram, DiskCall, DiskAnswer, ListNames, Sync, Read, lists, syncs, reads, disk_outcome}
use Rattle.fwd_outside.specs.declared.errors.DiskErr.{DiskErr}
use Rattle.fwd_outside.specs.declared.errors.DiskErr.TheVariants as disk_err
use Rattle.fwd_backlog.specs.declared.error.LoadErr.{LoadErr}
use Rattle.fwd_backlog.specs.declared.error.LoadErr.TheVariants.{DiskFailed, Memory}
use Rattle.fwd_backlog.specs.LoadResult.{load_error_of, StopsWith, LoadReturns, Loads}

-- ---- programs that haven't failed

abbrev Asks : {C : Type 0} {A : C → Type 0} {R : Type 0} → Program C A R → Type 0
Asks (Return x) = ⊥
Asks (Ask call go) = Unit {0}

-- one that makes a call
pub asks_unfailed : {C : Type 0} {A : C → Type 0} {R : Type 0} (call : C) (go : A call → Program C A (Option R)) → Ask call go ≢ Return None
asks_unfailed {C = C} {A = A} {R = R} call go same = subst (λ (p : Program C A (Option R)). Asks p) same tt

-- one of two parts, whose second part doesn't begin with a failure
then_unfailed : {R T : Type 0} (next : R → DiskProgram (Option T)) → ((x : R) → next x ≢ Return None) → (p : DiskProgram (Option R)) → p ≢ Return None → and_then p next ≢ Return None
then_unfailed next begins (Return (Some x)) unfailed = begins x
then_unfailed next begins (Return None) unfailed = absurd (unfailed refl)
then_unfailed next begins (Ask call go) unfailed = asks_unfailed call (λ answer. and_then (go answer) next)

-- ---- one call

-- it was refused because memory ran out
refused : {R : Type 0} (a b : DiskLog) (call : DiskCall) (go : DiskAnswer call → DiskProgram (Option R)) → LogGrew a b [] → IsBegunUnfailed a b (Ask call go)
refused a b call go grew = (Ask call go, call_unlogged (Ask call go) grew, asks_unfailed call go)

module _ (a b : DiskLog) where
  pub list_error : (folder : List ℕ) (e : DiskErr) → LogGrew a b (log_of_call (ListNames folder) (disk_outcome {T = List (List ℕ)} (Err e))) → StopsWith a b (lists folder) (load_error_of e)
  list_error folder disk_err.Failed grew = call_logged (ListNames folder) None (λ answer. Return answer) grew
  list_error folder disk_err.Memory grew = refused a b (ListNames folder) (λ answer. Return answer) grew

  pub sync_error : (path : List ℕ) (e : DiskErr) → LogGrew a b (log_of_call (Sync path) (disk_outcome {T = Unit {0}} (Err e))) → StopsWith a b (syncs path) (load_error_of e)
  sync_error path disk_err.Failed grew = call_logged (Sync path) None (λ answer. Return answer) grew
  sync_error path disk_err.Memory grew = refused a b (Sync path) (λ answer. Return answer) grew

  pub read_error : (path : List ℕ) (at len : ℕ) (e : DiskErr) → LogGrew a b (log_of_call (Read path at len) (disk_outcome {T = List ℕ} (Err e))) → StopsWith a b (reads path at len) (load_error_of e)
  read_error path at len disk_err.Failed grew = call_logged (Read path at len) None (λ answer. Return answer) grew
  read_error path at len disk_err.Memory grew = refused a b (Read path at len) (λ answer. Return answer) grew

-- ---- by the answer

module _ {R : Type 0} (a b : DiskLog) (p : DiskProgram (Option R)) where
  -- the answer is this error
  pub given_err : (e : LoadErr) (r : Result R LoadErr) → IsErrAnd r (λ x. x ≡ e) → StopsWith a b p e → LoadReturns a b p r
  given_err e (Ok x) is stops = absurd is
  given_err e (Err x) is stops = subst (λ (y : LoadErr). StopsWith a b p y) (sym is) stops

  pub loaded_err : {T : Type 0} (Shows : R → T → Type 0) (e : LoadErr) (r : Result T LoadErr) → IsErrAnd r (λ x. x ≡ e) → StopsWith a b p e → Loads a b p Shows r
  loaded_err Shows e (Ok x) is stops = absurd is
  loaded_err Shows e (Err x) is stops = subst (λ (y : LoadErr). StopsWith a b p y) (sym is) stops

  -- the calls are those of the program, to its end or not
  pub made_of : {T : Type 0} (Shows : R → T → Type 0) (r : Result T LoadErr) → Loads a b p Shows r → (o : Option (Option R)) × RunsProgram a b p o
  made_of Shows (Ok value) loads = (Some (Some loads.0), loads.1)
  made_of Shows (Err DiskFailed) loads = (Some None, loads)
  made_of Shows (Err Memory) loads = (None, (loads.0, loads.1))

-- ---- a part of a program

-- what stops the rest of a program stops the program
pub stops_after : {R : Type 0} (a b c : DiskLog) (p q : DiskProgram (Option R)) → Leads a b p q → (e : LoadErr) → StopsWith b c q e → StopsWith a c p e
stops_after a b c p q before DiskFailed did = leads_trans before did
stops_after a b c p q before Memory began = (began.0, leads_trans before began.1, began.2)

-- the calls before lead to it
module _ {R T : Type 0} (a b c : DiskLog) (whole : DiskProgram (Option T)) (p : DiskProgram (Option R)) (next : R → DiskProgram (Option T)) (before : Leads a b whole (and_then p next)) where
  pub goes : (x : R) → Completes b c p (Some x) → Leads a c whole (next x)
  goes x did = leads_trans before (leads_inside (with_value next) did)

  pub stops : ((x : R) → next x ≢ Return None) → (e : LoadErr) → StopsWith b c p e → StopsWith a c whole e
  stops begins DiskFailed did = leads_trans before (leads_inside (with_value next) did)
  stops begins Memory began = (and_then began.0 next, leads_trans before (leads_inside (with_value next) began.1), then_unfailed next begins began.0 began.2)

-- out of memory leaves the program where it is
pub rests : {T : Type 0} (a b : DiskLog) (whole q : DiskProgram (Option T)) → Leads a b whole q → q ≢ Return None → StopsWith a b whole Memory
rests a b whole q before unfailed = (q, before, unfailed)
