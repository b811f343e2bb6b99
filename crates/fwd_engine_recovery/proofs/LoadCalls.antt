-- The calls of loading, and the facts after them.
use Rattle.std.proofs.Common.{◌≡◌, ◌≢◌, ℕ, ◌+◌, List, [], ◌∷◌, Option, Some, None, Result, Ok, Err, refl, sym, subst}
use Rattle.std.specs.Result.{IsErrAnd}
use Rattle.fwd_outside.specs.Program.{Return, Ask, bind}
use Rattle.fwd_outside.specs.Log.{Completes as DidOne, IsBegunUnfailed as UnfailedOne}
use Rattle.fwd_outside.specs.Disk.{DiskLog, DiskProgram, ListNames}
use Rattle.fwd_backlog.specs.declared.file_read.FileRead.{FileRead}
use Rattle.fwd_backlog.specs.LoadResult.{StopsWith}
use Rattle.fwd_backlog.specs.declared.error.LoadErr.{LoadErr}
use Rattle.fwd_backlog.specs.declared.error.LoadErr.TheVariants.{DiskFailed, Memory}
use Rattle.fwd_backlog.specs.LoadProgram.{load_program}
use Rattle.fwd_backlog.proofs.Calls.{asks_unfailed}
use Rattle.fwd_settings.specs.declared.settings_types.AllSettings.{AllSettings}
use Rattle.fwd_model.specs.Fact.{History, Found}
use Rattle.fwd_model.specs.Trace.{Action, OnDisk, Note}
use Rattle.fwd_model.specs.CallLogs.{CallLogs, Leads, Completes}
use Rattle.fwd_model.specs.DeviceActions.{on_disk}
use Rattle.fwd_model.specs.RecoveryActions.{notes_files, loaded, loads_from, recovers}
use Rattle.fwd_model.proofs.Actions.{stays, fact_noted, goes_on, leads_inside}
use Rattle.fwd_model.proofs.DeviceActions.{disk_leads}
use Rattle.fwd_engine_state.specs.RefinesAction.{with_disk}
use Rattle.fwd_engine_state.specs.declared.parts.Parts.{Parts}
use Rattle.fwd_engine_recovery.specs.LoadedAs.{Unfailed, LoadOutcome}
use Rattle.fwd_engine_recovery.specs.Adoption.{recovered_history}

-- a disk program was completed, and the action continues with its result
disk_completed : {R S : Type 0} (others : CallLogs) (old new : DiskLog) (p : DiskProgram R) (x : R) (next : R → Action S) → DidOne old new p x
    → Leads (with_disk old others) (with_disk new others) (bind (on_disk p) next) (next x)
disk_completed others old new p x next did = leads_inside next (disk_leads (with_disk old others) new p (Return x) did)

-- ---- actions that haven't failed

finds_unfailed : (n : ℕ) (reads : List FileRead) (h : History) → notes_files n reads h ≢ Return None
finds_unfailed n [] h = λ same. cc same
finds_unfailed n (read ∷ reads) h = asks_unfailed (Note (Found n read.file.stream read.file.name read.bytes)) _

-- reading that hasn't failed, and the facts about it
loaded_unfailed : (left : DiskProgram (Option (List FileRead))) → left ≢ Return None → bind (on_disk left) loaded ≢ Return None
loaded_unfailed (Return (Some reads)) unfailed = finds_unfailed 1 reads []
loaded_unfailed (Return None) unfailed = absurd (unfailed refl)
loaded_unfailed (Ask call go) unfailed = asks_unfailed (OnDisk call) (λ answer. bind (on_disk (go answer)) loaded)

loads_from_unfailed : (path : Option (List ℕ)) → loads_from path ≢ Return None
loads_from_unfailed None = λ same. cc same
loads_from_unfailed (Some root) = asks_unfailed (OnDisk (ListNames root)) _

-- ---- loading

finds_all : (w : CallLogs) (n : ℕ) (reads : List FileRead) (h : History) → Completes w w (notes_files n reads h) (Some (recovered_history n reads h))
finds_all w n [] h = stays w _
finds_all w n (read ∷ reads) h =
    let fact = Found n read.file.stream read.file.name read.bytes in
    goes_on (fact_noted w fact _) (finds_all w (n + 1) reads (fact ∷ h))

pub loaded_all : (others : CallLogs) (old new : DiskLog) (s : AllSettings) (root : List ℕ) (reads : List FileRead) → s.service.path ≡ Some root → DidOne old new (load_program root) (Some reads)
    → Completes (with_disk old others) (with_disk new others) (recovers s) (Some (recovered_history 1 reads []))
unfolding recovers
loaded_all others old new s root reads path did = rw path (goes_on (disk_completed others old new (load_program root) (Some reads) loaded did) (finds_all (with_disk new others) 1 reads []))

-- all was read, and there are no facts yet
pub loaded_some : (others : CallLogs) (old new : DiskLog) (s : AllSettings) (root : List ℕ) (reads : List FileRead) → s.service.path ≡ Some root → DidOne old new (load_program root) (Some reads)
    → Unfailed (with_disk old others) (with_disk new others) (recovers s)
unfolding recovers
loaded_some others old new s root reads path did = rw path (notes_files 1 reads [], disk_completed others old new (load_program root) (Some reads) loaded did, finds_unfailed 1 reads [])

pub loaded_none : (others : CallLogs) (old new : DiskLog) (s : AllSettings) (root : List ℕ) → s.service.path ≡ Some root → DidOne old new (load_program root) None
    → Completes (with_disk old others) (with_disk new others) (recovers s) None
unfolding recovers
loaded_none others old new s root path did = rw path (goes_on (disk_completed others old new (load_program root) None loaded did) (stays (with_disk new others) _))

pub loading_began : (others : CallLogs) (old new : DiskLog) (s : AllSettings) (root : List ℕ) → s.service.path ≡ Some root → UnfailedOne old new (load_program root)
    → Unfailed (with_disk old others) (with_disk new others) (recovers s)
unfolding recovers
loading_began others old new s root path began =
    rw path (bind (on_disk began.0) loaded, leads_inside loaded (disk_leads (with_disk old others) new (load_program root) began.0 began.1), loaded_unfailed began.0 began.2)

-- without a folder no call is made
pub loaded_without : (w : CallLogs) (s : AllSettings) → s.service.path ≡ None → Completes w w (recovers s) (Some [])
unfolding recovers
loaded_without w s path = rw path (stays w _)

-- nothing was called yet
pub not_begun : (w : CallLogs) (s : AllSettings) → Unfailed w w (recovers s)
unfolding recovers
not_begun w s = (loads_from s.service.path, stays w (loads_from s.service.path), loads_from_unfailed s.service.path)

-- ---- by the result

pub answered : (s : AllSettings) (a b : CallLogs) (r : Result Parts LoadErr) (e : LoadErr) → IsErrAnd r (λ y. y ≡ e) → LoadOutcome s a b (Err e) → LoadOutcome s a b r
answered s a b (Ok parts) e is so = absurd is
answered s a b (Err y) e is so = subst (λ (z : LoadErr). LoadOutcome s a b (Err z)) (sym is) so

pub not_loaded : (others : CallLogs) (old new : DiskLog) (s : AllSettings) (root : List ℕ) (e : LoadErr) → s.service.path ≡ Some root → StopsWith old new (load_program root) e
    → LoadOutcome s (with_disk old others) (with_disk new others) (Err e)
not_loaded others old new s root DiskFailed path made = loaded_none others old new s root path made
not_loaded others old new s root Memory path began = loading_began others old new s root path began
