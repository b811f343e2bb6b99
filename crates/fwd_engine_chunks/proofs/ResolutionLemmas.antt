-- What the parts represent after a chunk was dropped or an outcome was recorded.
use Rattle.std.proofs.Common.{◌≡◌, ℕ, Bool, true, false, cond, nat_eq, List, [], ◌∷◌, Option, Some, None, refl, sym, ◌∙◌, ap}
use Rattle.std.specs.Prelude.{is_some}
use Rattle.fwd_outside.specs.Program.{Return, Execution, bind}
use Rattle.fwd_outside.specs.Log.{LogGrew, Leads as LeadsOne, Completes as DidOne, IsBegun as BeganOne}
use Rattle.fwd_outside.specs.Disk.{DiskLog, DiskEntry, DiskProgram}
use Rattle.fwd_settings.specs.declared.settings_types.AllSettings.{AllSettings}
use Rattle.fwd_store.specs.StoreState.{Stored}
use Rattle.fwd_engine_state.specs.StoreRepresents.{StoreRepresents}
use Rattle.fwd_engine_state.proofs.ChunkMap.{same_number}
use Rattle.fwd_chunk.specs.declared.kept.Kept.{Kept}
use Rattle.fwd_chunk.specs.declared.kept.Kept.TheVariants.{InFile, Adopted, InMemory}
use Rattle.fwd_store.specs.Store.{settle_for_program}
use Rattle.fwd_model.specs.Settings.{output_name}
use Rattle.fwd_model.specs.Refines.{CompletedWith}
use Rattle.fwd_model.specs.ResolveActions.{after_mark, records, marks_at}
use Rattle.fwd_model.specs.ChunkStorage.{kept_of, mark_position}
use Rattle.fwd_model.specs.Fact.{History, Route, MarkStarted, Marked, Removed, IoFailed}
use Rattle.fwd_model.specs.Trace.{Action}
use Rattle.fwd_model.specs.CallLogs.{CallLogs, Leads, IsBegun}
use Rattle.fwd_model.specs.DeviceActions.{on_disk}
use Rattle.fwd_outside.proofs.LogGrowth.{grew_none}
use Rattle.fwd_model.proofs.Actions.{fact_noted, leads_inside, begun_trans}
use Rattle.fwd_model.proofs.Refinement.{completes_after, completes_idle, completes_note, completes_note_then}
use Rattle.fwd_model.proofs.DeviceActions.{disk_leads}
use Rattle.fwd_engine_state.specs.RefinesAction.{with_disk}

pub not_some : {T : Type 0} (o : Option T) → is_some o ≡ false → o ≡ None
not_some None is = refl
not_some (Some x) is = absurd (cc is)

-- a disk program was completed, and the action continues with its result
pub disk_completed : {R S : Type 0} (others : CallLogs) (old new : DiskLog) (p : DiskProgram R) (x : R) (next : R → Action S) → DidOne old new p x
    → Leads (with_disk old others) (with_disk new others) (bind (on_disk p) next) (next x)
disk_completed others old new p x next did = leads_inside next (disk_leads (with_disk old others) new p (Return x) did)

-- or it was begun
pub disk_begun : {R S : Type 0} (others : CallLogs) (old new : DiskLog) (p : DiskProgram R) (next : R → Action S) → BeganOne old new p
    → IsBegun (with_disk old others) (with_disk new others) (bind (on_disk p) next)
disk_begun others old new p next began = (bind (on_disk began.0) next, leads_inside next (disk_leads (with_disk old others) new p began.0 began.1))

-- a chunk that isn't held stays so
pub holds_without : (s : AllSettings) (store : Stored) (h : History) (n : ℕ) → kept_of s h n ≡ None → StoreRepresents s store h → StoreRepresents s store (Removed n ∷ h)
holds_without s store h n none held = record {
  root = held.root;
  full = held.full;
  next = held.next;
  opened = held.opened;
  chunks = λ q. held.chunks q ∙ unheld q (nat_eq n q) refl;
}
  where
    unheld : (q : ℕ) (same : Bool) → nat_eq n q ≡ same → kept_of s h q ≡ cond same None (kept_of s h q)
    unheld q true is = ap (kept_of s h) (sym (same_number n q is)) ∙ none
    unheld q false is = refl

-- ---- records

-- a completed program makes no further call
no_more : (old new : DiskLog) (left : DiskProgram (Option Bool)) (y : Option Bool) → LeadsOne old new (Return y) left → LogGrew old new []
no_more old new left y leads = ended leads.entries leads.grew leads.way
  where
    ended : (es : List DiskEntry) → LogGrew old new es → Execution (Return y) es left → LogGrew old new []
    ended [] grew way = grew
    ended (e ∷ es) grew way = absurd way

no_calls : (old new : DiskLog) (x y : Option Bool) → LeadsOne old new (Return y) (Return x) → LogGrew old new []
no_calls old new x y leads = no_more old new (Return x) y leads

-- the calls of a record have a slot for it, or there are none
settled_without : (o : Option Kept) (name : List ℕ) (full : Bool) → mark_position name o ≡ None → settle_for_program o name full ≡ Return (Some false)
settled_without None name full none = refl
settled_without (Some (InFile head)) name full none = rw none refl
settled_without (Some (Adopted head)) name full none = rw none refl
settled_without (Some (InMemory content)) name full none = refl

-- the calls, and the fact after them
pub records_is : (s : AllSettings) (r : Route) (h : History) (place : Option ℕ) → mark_position (output_name s r.output) (kept_of s h r.chunk) ≡ place → records s r h ≡ marks_at s r (kept_of s h r.chunk) place h
unfolding records
records_is s r h place is = rw is refl

pub only_false : (old new : DiskLog) (o : Option Kept) (name : List ℕ) (full : Bool) (x : Option Bool) → mark_position name o ≡ None → DidOne old new (settle_for_program o name full) x → LogGrew old new []
only_false old new o name full x none did = no_calls old new x (Some false) (rw (settled_without o name full none) at did)

pub none_began : (old new : DiskLog) (o : Option Kept) (name : List ℕ) (full : Bool) → mark_position name o ≡ None → BeganOne old new (settle_for_program o name full) → LogGrew old new []
none_began old new o name full none began = no_more old new began.0 (Some false) (rw (settled_without o name full none) at began.1)

-- no disk call was made
no_disk_call : {R : Type 0} (others : CallLogs) (old new : DiskLog) (p : Action R) → LogGrew old new [] → Leads (with_disk old others) (with_disk new others) p p
no_disk_call others old new p grew = record {
  entries = [];
  asked = record { loop = grew_none others.loop; disk = grew; files = grew_none others.files; keeper = grew_none others.keeper };
  way = refl;
}

ended_so : (old new : DiskLog) (x y : Option Bool) → LeadsOne old new (Return y) (Return x) → x ≡ y
ended_so old new x y leads = so leads.entries leads.way
  where
    so : (es : List DiskEntry) → Execution (Return y) es (Return x) → x ≡ y
    so [] way = cc way
    so (e ∷ es) way = absurd way

false_alone : (old new : DiskLog) (o : Option Kept) (name : List ℕ) (full : Bool) (x : Option Bool) → mark_position name o ≡ None → DidOne old new (settle_for_program o name full) x → x ≡ Some false
false_alone old new o name full x none did = ended_so old new x (Some false) (rw (settled_without o name full none) at did)

-- the calls of a record were completed
pub record_acted : (others : CallLogs) (old new : DiskLog) (s : AllSettings) (r : Route) (h : History) (Shows : History → Type 0) (x : Option Bool)
    → DidOne old new (settle_for_program (kept_of s h r.chunk) (output_name s r.output) s.service.full) x
    → ((b : Bool) → x ≡ Some b → Shows h) → ((b : Bool) → x ≡ Some b → Shows (Marked r ∷ MarkStarted r ∷ h)) → (x ≡ None → Shows (IoFailed ∷ MarkStarted r ∷ h))
    → CompletedWith Shows (with_disk old others) (with_disk new others) (records s r h)
record_acted others old new s r h Shows x did same done failed = by (mark_position (output_name s r.output) (kept_of s h r.chunk)) refl
  where
    calls : DiskProgram (Option Bool)
    calls = settle_for_program (kept_of s h r.chunk) (output_name s r.output) s.service.full

    noted_by : (y : Option Bool) → x ≡ y → CompletedWith Shows (with_disk new others) (with_disk new others) (after_mark r (MarkStarted r ∷ h) y)
    noted_by None is = completes_note Shows (with_disk new others) IoFailed (MarkStarted r ∷ h) (failed is)
    noted_by (Some b) is = completes_note Shows (with_disk new others) (Marked r) (MarkStarted r ∷ h) (done b is)

    by : (place : Option ℕ) → mark_position (output_name s r.output) (kept_of s h r.chunk) ≡ place → CompletedWith Shows (with_disk old others) (with_disk new others) (records s r h)
    by None none =
        let grew = only_false old new (kept_of s h r.chunk) (output_name s r.output) s.service.full x none did in
        let is = false_alone old new (kept_of s h r.chunk) (output_name s r.output) s.service.full x none did in
        rw (records_is s r h None none)
        (completes_after Shows (with_disk new others) (Return h) (Return h) (no_disk_call others old new (Return h) grew) (completes_idle Shows (with_disk new others) h (same false is)))
    by (Some place) is =
        rw (records_is s r h (Some place) is)
        (completes_note_then Shows (with_disk old others) (with_disk new others) (MarkStarted r) h (λ at. bind (on_disk calls) (after_mark r at))
        (completes_after Shows (with_disk new others) (bind (on_disk calls) (after_mark r (MarkStarted r ∷ h))) (after_mark r (MarkStarted r ∷ h) x)
        (disk_completed others old new calls x (after_mark r (MarkStarted r ∷ h)) did) (noted_by x refl)))

-- or they were begun
pub record_began : (others : CallLogs) (old new : DiskLog) (s : AllSettings) (r : Route) (h : History)
    → BeganOne old new (settle_for_program (kept_of s h r.chunk) (output_name s r.output) s.service.full) → IsBegun (with_disk old others) (with_disk new others) (records s r h)
record_began others old new s r h began = by (mark_position (output_name s r.output) (kept_of s h r.chunk)) refl
  where
    calls : DiskProgram (Option Bool)
    calls = settle_for_program (kept_of s h r.chunk) (output_name s r.output) s.service.full

    by : (place : Option ℕ) → mark_position (output_name s r.output) (kept_of s h r.chunk) ≡ place → IsBegun (with_disk old others) (with_disk new others) (records s r h)
    by None none = (records s r h, no_disk_call others old new (records s r h) (none_began old new (kept_of s h r.chunk) (output_name s r.output) s.service.full none began))
    by (Some place) is =
        rw (records_is s r h (Some place) is)
        (begun_trans (fact_noted (with_disk old others) (MarkStarted r) (λ _. bind (on_disk calls) (after_mark r (MarkStarted r ∷ h)))) (disk_begun others old new calls (after_mark r (MarkStarted r ∷ h)) began))
