-- The runs of a schedule determine one text.
use Rattle.std.proofs.Common.{◌≡◌, ◌≢◌, inl, inr, ℕ, ◌-◌, ◌%◌, List, [], ◌∷◌, ◌++◌, map, Some, None, refl, sym, ◌∙◌, ap, subst}
use Rattle.std.proofs.lemmas.List.{append_cancel_left}
use Rattle.fwd_outside.specs.Program.{Return, Execution}
use Rattle.fwd_outside.specs.File.{content}
use Rattle.fwd_disk_mem.specs.declared.entry.MemEntry.{MemEntry}
use Rattle.fwd_disk_mem.specs.declared.entry.MemEntry.TheVariants.{Preset, FailAt}
use Rattle.fwd_disk_mem.specs.Entry.{files_of}
use Rattle.fwd_disk_mem.specs.Images.{CrashFile, picked, file_settings}
use Rattle.fwd_keeper.specs.Keeper.{found}
use Rattle.fwd_keeper_mem.specs.KeeperAnswers.{offsets_after_all}
use Rattle.fwd_keeper_mem.specs.Offsets.{SameOffsets}
use Rattle.fwd_settings.specs.Endpoints.{ends_of}
use Rattle.fwd_settings.specs.declared.settings_types.AllSettings.{AllSettings}
use Rattle.fwd_script.specs.declared.schedule.Cut.{Cut}
use Rattle.fwd_files_mem.specs.declared.change.FileChange.{FileChange}
use Rattle.fwd_script.specs.declared.schedule.Life.{Life}
use Rattle.fwd_script.specs.declared.schedule.Stored.{Stored}
use Rattle.fwd_script_loop.specs.Lines.{given_of}
use Rattle.fwd_script_loop.specs.Place.{beginning}
use Rattle.fwd_model.specs.Fact.{History}
use Rattle.fwd_model.specs.Trace.{Action, TraceEntry, disk_part, keeper_part}
use Rattle.fwd_model.specs.Run.{Over, RunResult, lived, life}
use Rattle.fwd_theorem_trace.specs.Waits.{waits_in}
use Rattle.fwd_replay.specs.FileChanges.{Course, course_after, has_last}
use Rattle.fwd_replay.specs.Runs.{Start, first, disk_of, course_of, EndsIn, CutRun, IsCut, first_calls, IsReplayed, IsRunReplayed, Ended, WasCut, OutOfMemory}
use Rattle.fwd_replay.specs.Text.{life_text, reported_by, joined}
use Rattle.fwd_replay.specs.declared.report.Reported.{Reported}
use Rattle.fwd_replay.specs.declared.report.Ending.TheVariants as ending
use Rattle.fwd_replay.specs.declared.report.Shown.{Shown}
use Rattle.fwd_theorem_replay.proofs.AlikeDisks.{Alike, alike_itself, alike_back, alike_append, alike_presets, same_calls}
use Rattle.fwd_theorem_replay.proofs.AlikeKeepers.{same_itself, same_back, same_after}
use Rattle.fwd_theorem_replay.proofs.CommonPrefix.{Answers, passes, ends_same}
use Rattle.fwd_theorem_replay.proofs.DeviceRuns.{Outcome, device_way, on_devices, outcome}
use Rattle.fwd_theorem_replay.proofs.CutPoint.{CutIn, Cutting, IsSameCut, all_answers, cutting_of, goes_past, never, not_last, same_cut}

-- the state of the platform determines the answers of a run
pub record Similar (start start2 : Start) : Type 0 where
  pub disk : Alike start.disk start2.disk
  pub changes : start2.changes ≡ start.changes
  pub offsets : SameOffsets start.offsets start2.offsets

similar_back : (start start2 : Start) → Similar start start2 → Similar start2 start
similar_back start start2 similar = record { disk = alike_back start.disk start2.disk similar.disk; changes = sym similar.changes; offsets = same_back start.offsets start2.offsets similar.offsets }

same_course : (start start2 : Start) (planned : Life) → Similar start start2 → course_of start2 planned ≡ course_of start planned
same_course start start2 planned similar = ap (λ (changes : List FileChange). course_of (record { disk = []; changes = changes; offsets = [] }) planned) similar.changes

pub alike_disks : (start start2 : Start) (planned : Life) → Similar start start2 → Alike (disk_of start planned) (disk_of start2 planned)
alike_disks start start2 planned similar =
    let set = map (λ (file : Stored). Preset file.name file.bytes) planned.store in
    alike_append (start.disk ++ set) (start2.disk ++ set) (map (λ (number : ℕ). FailAt number) planned.disk_fails) (alike_append start.disk start2.disk set similar.disk)

module _ (shown : Shown) (s : AllSettings) (turns : ℕ) (start start2 : Start) (planned : Life) (similar : Similar start start2) where
  -- ---- a run that ends

  ended : (replayed : Reported) → (e : EndsIn shown s turns start planned replayed) → Answers (beginning (given_of planned)) (disk_of start planned) (course_of start planned) start.offsets [] e.is.below e.is.asked
  ended replayed e = all_answers start planned (course_of start planned) refl e.is.below e.is.asked e.is.answered

  ended2 : (replayed : Reported) → (e : EndsIn shown s turns start2 planned replayed) → Answers (beginning (given_of planned)) (disk_of start2 planned) (course_of start planned) start2.offsets [] e.is.below e.is.asked
  ended2 replayed e = all_answers start2 planned (course_of start planned) (same_course start start2 planned similar) e.is.below e.is.asked e.is.answered

  abbrev whole : Action RunResult
  whole = life s (ends_of s) None turns

  -- its calls on the devices
  way_of : (at : Start) (replayed : Reported) (e : EndsIn shown s turns at planned replayed) → Execution (on_devices s whole) e.is.below (Return (outcome e.comes e.trace e.is.handshakes))
  way_of at replayed e = device_way s whole (Return e.comes) e.trace e.is.below e.is.handshakes e.is.way e.is.secured

  same_end : (one other : Reported) → EndsIn shown s turns start planned one → EndsIn shown s turns start2 planned other → other ≡ one
  same_end one other e f =
      let done = outcome e.comes e.trace e.is.handshakes in
      let done2 = outcome f.comes f.trace f.is.handshakes in
      let same = ends_same done done2 e.is.below f.is.below
      (passes (on_devices s whole) (beginning (given_of planned)) (disk_of start planned) (disk_of start2 planned) (course_of start planned) start.offsets start2.offsets [] e.is.below f.is.below e.is.asked f.is.asked (Return done) done2
      (alike_disks start start2 planned similar) similar.offsets (way_of start one e) (way_of start2 other f) (ended one e) (ended2 other f))
      in
      f.reports
      ∙ ap (λ (l : List TraceEntry). reported_by (life_text shown s l f.comes.history) f.comes.end) same.0
      ∙ ap (λ (o : Outcome RunResult). reported_by (life_text shown s e.is.below ((o.0).0).history) ((o.0).0).end) same.1
      ∙ sym e.reports

  -- one that ends isn't cut
  no_cut : {X : Type 0} (replayed : Reported) (c : CutRun) → EndsIn shown s turns start planned replayed → IsCut s turns start2 planned c → X
  no_cut {X = X} replayed c e cut = by cutting.cut_in
    where
      cutting : Cutting s turns (beginning (given_of planned)) (disk_of start2 planned) (course_of start planned) start2.offsets c
      cutting = cutting_of s turns start2 planned c (course_of start planned) (same_course start start2 planned similar) cut

      alike : Alike (disk_of start planned) (disk_of start2 planned)
      alike = alike_disks start start2 planned similar

      by : CutIn s turns c (course_after (course_of start planned) c.below) → X
      by (inl on) =
          never (has_last (course_of start planned) e.is.below)
          (goes_past s (beginning (given_of planned)) (disk_of start2 planned) (disk_of start planned) (course_of start planned) start2.offsets start.offsets (alike_back (disk_of start planned) (disk_of start2 planned) alike) (same_back start.offsets start2.offsets similar.offsets) (waits_in c.before) turns c.history c.handshakes
          (outcome e.comes e.trace e.is.handshakes) c.before c.below e.is.below c.asked e.is.asked on.fewer on.way cutting.devices (way_of start replayed e) cutting.before (ended replayed e) on.asks on.takes)
          (not_last planned.cut c.cut (has_last (course_of start planned) e.is.below) cut.is e.is.uncut)
      by (inr over) =
          let done = outcome e.comes e.trace e.is.handshakes in
          let done2 = outcome (lived c.history Over) c.before c.handshakes in
          let same = ends_same done done2 e.is.below c.below
          (passes (on_devices s whole) (beginning (given_of planned)) (disk_of start planned) (disk_of start2 planned) (course_of start planned) start.offsets start2.offsets [] e.is.below c.below e.is.asked c.asked (Return done) done2
          alike similar.offsets (way_of start replayed e) (device_way s whole (Return (lived c.history Over)) c.before c.below c.handshakes over.way cutting.devices) (ended replayed e) cutting.before)
          in
          let none : planned.cut ≡ None = e.last (sym (ap (λ (o : Outcome RunResult). ((o.0).0).end) same.1)) in
          absurd (cc (sym cut.is ∙ none))

  -- ---- a run that is cut

  module _ (c c2 : CutRun) (cut : IsCut s turns start planned c) (cut2 : IsCut s turns start2 planned c2) where
    pub same_place : IsSameCut c c2
    same_place =
        same_cut s turns (beginning (given_of planned)) (disk_of start planned) (disk_of start2 planned) (course_of start planned) start.offsets start2.offsets (alike_disks start start2 planned similar) similar.offsets c c2
        (cutting_of s turns start planned c (course_of start planned) refl cut) (cutting_of s turns start2 planned c2 (course_of start planned) (same_course start start2 planned similar) cut2)

    pub cut_is : c2.cut ≡ c.cut
    cut_is = let both : Some c2.cut ≡ Some c.cut = sym cut2.is ∙ cut.is in cc both

    all_is : c2.below ++ c2.below_in ≡ c.below ++ c.below_in
    all_is = ap (λ (l : List TraceEntry). l ++ c2.below_in) same_place.below ∙ ap (λ (l : List TraceEntry). c.below ++ l) same_place.below_in

    asked_is : c2.asked ≡ c.asked
    asked_is = same_calls c2.asked c.asked (cut2.are ∙ ap disk_part same_place.below ∙ sym cut.are)

    asked_in_is : c2.asked_in ≡ c.asked_in
    asked_in_is =
        let all : c2.asked ++ c2.asked_in ≡ c.asked ++ c.asked_in = same_calls (c2.asked ++ c2.asked_in) (c.asked ++ c.asked_in) (cut2.answered.are ∙ ap disk_part all_is ∙ sym cut.answered.are) in
        append_cancel_left c.asked c2.asked_in c.asked_in (ap (λ (l : List MemEntry). l ++ c2.asked_in) (sym asked_is) ∙ all)

    told2_is : (disk_of start2 planned ++ c2.asked) ++ first_calls c2.cut.calls c2.asked_in ≡ (disk_of start2 planned ++ c.asked) ++ first_calls c.cut.calls c.asked_in
    told2_is =
        ap (λ (l : List MemEntry). (disk_of start2 planned ++ l) ++ first_calls c2.cut.calls c2.asked_in) asked_is
        ∙ ap (λ (k : Cut). (disk_of start2 planned ++ c.asked) ++ first_calls k.calls c2.asked_in) cut_is
        ∙ ap (λ (l : List MemEntry). (disk_of start2 planned ++ c.asked) ++ first_calls c.cut.calls l) asked_in_is

    same_image : (name : List ℕ) → picked (c2.cut.pick % 4) ((disk_of start2 planned ++ c2.asked) ++ first_calls c2.cut.calls c2.asked_in) name ≡ picked (c.cut.pick % 4) ((disk_of start planned ++ c.asked) ++ first_calls c.cut.calls c.asked_in) name
    same_image name =
        let more = first_calls c.cut.calls c.asked_in in
        let disks : Alike ((disk_of start planned ++ c.asked) ++ more) ((disk_of start2 planned ++ c.asked) ++ more) =
        alike_append (disk_of start planned ++ c.asked) (disk_of start2 planned ++ c.asked) more (alike_append (disk_of start planned) (disk_of start2 planned) c.asked (alike_disks start start2 planned similar))
        in
        ap (λ (l : List MemEntry). picked (c2.cut.pick % 4) l name) told2_is
        ∙ ap (λ (k : Cut). picked (k.pick % 4) ((disk_of start2 planned ++ c.asked) ++ more) name) cut_is
        ∙ ap (λ (m : CrashFile). m.image) (disks.images (c.cut.pick % 4) name)

    pub similar_next : Similar c.next c2.next
    similar_next = record {
      disk =
          subst (λ (l : List MemEntry). Alike l c2.next.disk) (sym cut.disk_is)
          (subst (λ (l : List MemEntry). Alike (file_settings cut.files) l) (sym cut2.disk_is)
          (alike_presets cut.files cut2.files
          (λ name.
          ap (λ (l : List MemEntry). content (files_of l name)) (sym cut2.disk_is)
          ∙ cut2.image name
          ∙ same_image name
          ∙ sym (cut.image name)
          ∙ ap (λ (l : List MemEntry). content (files_of l name)) cut.disk_is)));
      changes =
          cut2.changes
          ∙ ap (λ (at : Course). (course_after at (c2.below ++ c2.below_in)).files.changes) (same_course start start2 planned similar)
          ∙ ap (λ (l : List TraceEntry). (course_after (course_of start planned) l).files.changes) all_is
          ∙ sym cut.changes;
      offsets = λ db path.
          sym (cut.offsets db path)
          ∙ same_after start.offsets start2.offsets (keeper_part (c.below ++ c.below_in)) similar.offsets db path
          ∙ ap (λ (l : List TraceEntry). found (offsets_after_all start2.offsets (keeper_part l)) db path) (sym all_is)
          ∙ cut2.offsets db path;
    }

    pub same_joined : (rest rest2 : Reported) → rest2 ≡ rest → joined (life_text shown s c2.below c2.history) c2.cut rest2 ≡ joined (life_text shown s c.below c.history) c.cut rest
    same_joined rest rest2 is =
        ap (λ (l : List TraceEntry). joined (life_text shown s l c2.history) c2.cut rest2) same_place.below
        ∙ ap (λ (h : History). joined (life_text shown s c.below h) c2.cut rest2) same_place.history
        ∙ ap (λ (k : Cut). joined (life_text shown s c.below c.history) k rest2) cut_is
        ∙ ap (λ (r : Reported). joined (life_text shown s c.below c.history) c.cut r) is

    pub turns_is : turns - waits_in (c2.before ++ c2.turn) ≡ turns - waits_in (c.before ++ c.turn)
    turns_is = ap (λ (n : ℕ). turns - n) same_place.waits

-- ---- the runs

module _ (shown : Shown) (s : AllSettings) where
  abbrev HasOneText : List Life → Type 0
  HasOneText lives =
      (turns : ℕ) (start start2 : Start) → Similar start start2 → (one other : Reported) → IsReplayed shown s turns start lives one → IsReplayed shown s turns start2 lives other
      → one.ending ≢ ending.Memory → other.ending ≢ ending.Memory → other ≡ one

  one_text_from : (lives : List Life) → HasOneText lives
  one_text_from [] turns start start2 similar one other is is2 wants wants2 = is2 ∙ sym is
  one_text_from (planned ∷ lives) turns start start2 similar one other is is2 wants wants2 = by (one_text_from lives) is is2
    where
      by : HasOneText lives → IsRunReplayed shown s turns start planned (λ left next rest. IsReplayed shown s left next lives rest) one
          → IsRunReplayed shown s turns start2 planned (λ left next rest. IsReplayed shown s left next lives rest) other → other ≡ one
      by more (OutOfMemory none) b = absurd (wants (ap (λ (r : Reported). r.ending) none))
      by more a (OutOfMemory none) = absurd (wants2 (ap (λ (r : Reported). r.ending) none))
      by more (Ended e) (Ended f) = same_end shown s turns start start2 planned similar one other e f
      by more (Ended e) (WasCut c cut rest next joins) = no_cut shown s turns start start2 planned similar one c e cut
      by more (WasCut c cut rest next joins) (Ended f) = no_cut shown s turns start2 start planned (similar_back start start2 similar) other c f cut
      by more (WasCut c cut rest next joins) (WasCut c2 cut2 rest2 next2 joins2) =
          let so2 = subst (λ (n : ℕ). IsReplayed shown s n c2.next lives rest2) (turns_is shown s turns start start2 planned similar c c2 cut cut2) next2 in
          let same : rest2 ≡ rest =
          more (turns - waits_in (c.before ++ c.turn)) c.next c2.next (similar_next shown s turns start start2 planned similar c c2 cut cut2) rest rest2 next so2
          (λ memory. wants (ap (λ (r : Reported). r.ending) joins ∙ memory)) (λ memory. wants2 (ap (λ (r : Reported). r.ending) joins2 ∙ memory))
          in
          joins2 ∙ same_joined shown s turns start start2 planned similar c c2 cut cut2 rest rest2 same ∙ sym joins

  pub one_text : (turns : ℕ) (lives : List Life) (one other : Reported) → IsReplayed shown s turns first lives one → IsReplayed shown s turns first lives other → one.ending ≢ ending.Memory → other.ending ≢ ending.Memory → other ≡ one
  one_text turns lives one other is is2 = one_text_from lives turns first first (record { disk = alike_itself []; changes = refl; offsets = same_itself [] }) one other is is2
