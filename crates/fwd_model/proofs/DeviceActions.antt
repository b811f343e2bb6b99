-- The calls of one device as calls of all devices.
use Rattle.std.proofs.Common.{◌≡◌, List, [], ◌∷◌, Option, Some, None, refl, sym, ap, subst}
use Rattle.fwd_outside.specs.Program.{entry, Return, Ask, Execution}
use Rattle.fwd_outside.specs.Log.{LogGrew, Leads as LeadsOne, RunsProgram}
use Rattle.fwd_outside.proofs.LogGrowth.{grew_none}
use Rattle.fwd_outside.specs.Loop.{LoopLog, LoopProgram, LoopEntry}
use Rattle.fwd_outside.specs.Disk.{DiskLog, DiskProgram, DiskEntry}
use Rattle.fwd_outside.specs.Files.{FilesLog, FilesProgram, FilesEntry}
use Rattle.fwd_model.specs.Trace.{TraceEntry, OnLoop, OnDisk, OnFiles, loop_part, disk_part, files_part, keeper_part}
use Rattle.fwd_model.specs.CallLogs.{CallLogs, Leads, RunsAction}
use Rattle.fwd_model.specs.DeviceActions.{on_loop, on_disk, on_files}

-- the entries of one device
abbrev loop_entries : List LoopEntry → List TraceEntry
loop_entries [] = []
loop_entries (e ∷ es) = entry (OnLoop e.call) e.answer ∷ loop_entries es

abbrev disk_entries : List DiskEntry → List TraceEntry
disk_entries [] = []
disk_entries (e ∷ es) = entry (OnDisk e.call) e.answer ∷ disk_entries es

abbrev files_entries : List FilesEntry → List TraceEntry
files_entries [] = []
files_entries (e ∷ es) = entry (OnFiles e.call) e.answer ∷ files_entries es

loop_alone : (es : List LoopEntry) → (loop_part (loop_entries es) ≡ es) × (disk_part (loop_entries es) ≡ []) × (files_part (loop_entries es) ≡ []) × (keeper_part (loop_entries es) ≡ [])
loop_alone [] = (refl, refl, refl, refl)
loop_alone (e ∷ es) = let more = loop_alone es in (ap (λ (l : List LoopEntry). e ∷ l) more.0, more.1, more.2, more.3)

disk_alone : (es : List DiskEntry) → (loop_part (disk_entries es) ≡ []) × (disk_part (disk_entries es) ≡ es) × (files_part (disk_entries es) ≡ []) × (keeper_part (disk_entries es) ≡ [])
disk_alone [] = (refl, refl, refl, refl)
disk_alone (e ∷ es) = let more = disk_alone es in (more.0, ap (λ (l : List DiskEntry). e ∷ l) more.1, more.2, more.3)

files_alone : (es : List FilesEntry) → (loop_part (files_entries es) ≡ []) × (disk_part (files_entries es) ≡ []) × (files_part (files_entries es) ≡ es) × (keeper_part (files_entries es) ≡ [])
files_alone [] = (refl, refl, refl, refl)
files_alone (e ∷ es) = let more = files_alone es in (more.0, more.1, ap (λ (l : List FilesEntry). e ∷ l) more.2, more.3)

loop_way : {R : Type 0} (p q : LoopProgram R) (es : List LoopEntry) → Execution p es q → Execution (on_loop p) (loop_entries es) (on_loop q)
loop_way p q [] is = ap on_loop is
loop_way (Return x) q (e ∷ es) way = absurd way
loop_way {R = R} (Ask call go) q (e ∷ es) way =
    subst (λ (x : LoopEntry). Execution (on_loop (Ask call go)) (loop_entries (x ∷ es)) (on_loop q)) (sym way.1) (way.0, refl, loop_way (go way.0) q es way.2)

disk_way : {R : Type 0} (p q : DiskProgram R) (es : List DiskEntry) → Execution p es q → Execution (on_disk p) (disk_entries es) (on_disk q)
disk_way p q [] is = ap on_disk is
disk_way (Return x) q (e ∷ es) way = absurd way
disk_way {R = R} (Ask call go) q (e ∷ es) way =
    subst (λ (x : DiskEntry). Execution (on_disk (Ask call go)) (disk_entries (x ∷ es)) (on_disk q)) (sym way.1) (way.0, refl, disk_way (go way.0) q es way.2)

files_way : {R : Type 0} (p q : FilesProgram R) (es : List FilesEntry) → Execution p es q → Execution (on_files p) (files_entries es) (on_files q)
files_way p q [] is = ap on_files is
files_way (Return x) q (e ∷ es) way = absurd way
files_way {R = R} (Ask call go) q (e ∷ es) way =
    subst (λ (x : FilesEntry). Execution (on_files (Ask call go)) (files_entries (x ∷ es)) (on_files q)) (sym way.1) (way.0, refl, files_way (go way.0) q es way.2)

-- the calls of a loop, whatever the other devices log
pub loop_leads : {R : Type 0} (w : CallLogs) (new : LoopLog) (p q : LoopProgram R) → LeadsOne w.loop new p q → Leads w (record w { loop = new }) (on_loop p) (on_loop q)
loop_leads w new p q f =
    let alone = loop_alone f.entries in
    record {
      entries = loop_entries f.entries;
      asked = record {
        loop = subst (λ l. LogGrew w.loop new l) (sym alone.0) f.grew;
        disk = subst (λ l. LogGrew w.disk w.disk l) (sym alone.1) (grew_none w.disk);
        files = subst (λ l. LogGrew w.files w.files l) (sym alone.2) (grew_none w.files);
        keeper = subst (λ l. LogGrew w.keeper w.keeper l) (sym alone.3) (grew_none w.keeper);
      };
      way = loop_way p q f.entries f.way;
    }

pub loop_does : {R : Type 0} (w : CallLogs) (new : LoopLog) (p : LoopProgram R) (result : Option R) → RunsProgram w.loop new p result → RunsAction w (record w { loop = new }) (on_loop p) result
loop_does w new p (Some x) makes = loop_leads w new p (Return x) makes
loop_does w new p None makes = (on_loop makes.0, loop_leads w new p makes.0 makes.1)

pub disk_leads : {R : Type 0} (w : CallLogs) (new : DiskLog) (p q : DiskProgram R) → LeadsOne w.disk new p q → Leads w (record w { disk = new }) (on_disk p) (on_disk q)
disk_leads w new p q f =
    let alone = disk_alone f.entries in
    record {
      entries = disk_entries f.entries;
      asked = record {
        loop = subst (λ l. LogGrew w.loop w.loop l) (sym alone.0) (grew_none w.loop);
        disk = subst (λ l. LogGrew w.disk new l) (sym alone.1) f.grew;
        files = subst (λ l. LogGrew w.files w.files l) (sym alone.2) (grew_none w.files);
        keeper = subst (λ l. LogGrew w.keeper w.keeper l) (sym alone.3) (grew_none w.keeper);
      };
      way = disk_way p q f.entries f.way;
    }

pub disk_does : {R : Type 0} (w : CallLogs) (new : DiskLog) (p : DiskProgram R) (result : Option R) → RunsProgram w.disk new p result → RunsAction w (record w { disk = new }) (on_disk p) result
disk_does w new p (Some x) makes = disk_leads w new p (Return x) makes
disk_does w new p None makes = (on_disk makes.0, disk_leads w new p makes.0 makes.1)

pub files_leads : {R : Type 0} (w : CallLogs) (new : FilesLog) (p q : FilesProgram R) → LeadsOne w.files new p q → Leads w (record w { files = new }) (on_files p) (on_files q)
files_leads w new p q f =
    let alone = files_alone f.entries in
    record {
      entries = files_entries f.entries;
      asked = record {
        loop = subst (λ l. LogGrew w.loop w.loop l) (sym alone.0) (grew_none w.loop);
        disk = subst (λ l. LogGrew w.disk w.disk l) (sym alone.1) (grew_none w.disk);
        files = subst (λ l. LogGrew w.files new l) (sym alone.2) f.grew;
        keeper = subst (λ l. LogGrew w.keeper w.keeper l) (sym alone.3) (grew_none w.keeper);
      };
      way = files_way p q f.entries f.way;
    }

pub files_does : {R : Type 0} (w : CallLogs) (new : FilesLog) (p : FilesProgram R) (result : Option R) → RunsProgram w.files new p result → RunsAction w (record w { files = new }) (on_files p) result
files_does w new p (Some x) makes = files_leads w new p (Return x) makes
files_does w new p None makes = (on_files makes.0, files_leads w new p makes.0 makes.1)
