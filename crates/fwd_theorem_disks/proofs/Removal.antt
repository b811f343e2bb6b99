-- A chunk is removed.
use Rattle.std.proofs.Common.{◌≡◌, ℕ, List, ◌∷◌, Option, Some, None, refl, sym, ◌∙◌, ap}
use Rattle.fwd_outside.specs.Program.{bind}
use Rattle.fwd_outside.proofs.CrashPointLemmas.{holds_bind}
use Rattle.fwd_outside.specs.Disk.{removes}
use Rattle.fwd_outside.specs.DiskStates.{Files}
use Rattle.fwd_outside.specs.PostCrash.{OthersUnchanged}
use Rattle.fwd_chunk.specs.declared.append.ChunkHead.{ChunkHead}
use Rattle.fwd_chunk.specs.declared.kept.Kept.{Kept}
use Rattle.fwd_chunk.specs.declared.kept.Kept.TheVariants.{InFile, Adopted, InMemory}
use Rattle.fwd_chunk.specs.Kept.{file_of_optional}
use Rattle.fwd_store.specs.Store.{drops as removals_for}
use Rattle.fwd_settings.specs.declared.settings_types.AllSettings.{AllSettings}
use Rattle.fwd_model.specs.Fact.{History, Removed, FileLeft, IoFailed}
use Rattle.fwd_model.specs.Trace.{Note}
use Rattle.fwd_model.specs.DeviceActions.{on_disk}
use Rattle.fwd_model.specs.ChunkStorage.{kept_of}
use Rattle.fwd_model.specs.Notes.{note}
use Rattle.fwd_model.specs.ResolveActions.{dropped, drops}
use Rattle.fwd_theorem_trace.specs.Past.{Past, logged}
use Rattle.fwd_theorem_crash.specs.CrashPoint.{CrashPoint, LeadsTo}
use Rattle.fwd_theorem_crash.proofs.OrderInvariant.{head_of}
use Rattle.fwd_theorem_crash.proofs.RunTraversal.{after, ReturnsHistoryBy}
use Rattle.fwd_theorem_content.proofs.FileEffects.{removal_leaves}
use Rattle.fwd_theorem_content.proofs.Removal.{IsGone, gone_removed, gone_left, gone_memory, gone_file}
use Rattle.fwd_theorem_disks.proofs.MemFiles.{mem}
use Rattle.fwd_theorem_disks.proofs.Fits.{Fits, stand_changed, stand_in_memory}
use Rattle.fwd_theorem_disks.proofs.Pairs.{goes_both, Done, removal_goes}
use Rattle.fwd_theorem_disks.proofs.Points.{Shows, Keeps, Told, Came, keeps_noted, shows_noted, runs, notes, notes_last}

module _ (s : AllSettings) (h g : History) (n : ℕ) (gone : IsGone s h g n) where
  no_head : head_of (kept_of s g n) ≡ None
  no_head = ap head_of gone.none

  fits_memory : (live other : Files) → Fits s h live other → Fits s g live other
  fits_memory live other fits = record {
    live_has = gone_memory s h g n gone live fits.live_has;
    mem_has = gone_memory s h g n gone other fits.mem_has;
    stand = stand_in_memory s h g other n gone.kept no_head fits.stand;
  }

  fits_file : (live other now then : Files) (name : List ℕ) → file_of_optional (kept_of s h n) ≡ Some name → OthersUnchanged name live now → OthersUnchanged name other then → Fits s h live other → Fits s g now then
  fits_file live other now then name held one two fits = record {
    live_has = gone_file s h g n gone live now name held one fits.live_has;
    mem_has = gone_file s h g n gone other then name held two fits.mem_has;
    stand = stand_changed s h g other then n name held two gone.kept (λ head is. let no : None ≡ Some head = sym no_head ∙ is in absurd (cc no)) fits.mem_has fits.stand;
  }

module _ (s : AllSettings) (base : Past) (chunk : ℕ) (m : CrashPoint) (keeps : Keeps s base m) where
  abbrev h : History
  h = logged m.past

  abbrev stood : Files
  stood = mem keeps.shows.since

  in_memory : ReturnsHistoryBy (Shows s base) (Keeps s base) m (note (Removed chunk) h)
  in_memory =
      notes_last s base (Removed chunk) h m refl keeps.shows
      (λ answer. keeps_noted s base (Removed chunk) answer m h refl keeps.shows (λ due. fits_memory s h (Removed chunk ∷ h) chunk (gone_removed s h chunk) m.files stood (keeps.fits due)))

  module _ (head : ChunkHead) (held : head_of (kept_of s h chunk) ≡ Some head) (named : file_of_optional (kept_of s h chunk) ≡ Some head.name) where
    abbrev Others : Files → Option (Unit {0}) → Files → Type 0
    Others files answer now = OthersUnchanged head.name files now

    abbrev Gone : Option (Unit {0}) → Files → Files → Type 0
    Gone answer now other = Others m.files answer now × (Others stood answer other × Done answer other)

    behind : (answer : Option (Unit {0})) (end : CrashPoint) → Came s base m Gone answer end → ReturnsHistoryBy (Shows s base) (Keeps s base) end (dropped chunk h answer)
    behind (Some answered) end came =
        notes_last s base (Removed chunk) h end came.same came.shows
        (λ answer.
        keeps_noted s base (Removed chunk) answer end h (sym came.same) came.shows
        (λ due. let is = came.did due in fits_file s h (Removed chunk ∷ h) chunk (gone_removed s h chunk) m.files stood end.files (mem came.shows.since) head.name named is.0 is.1.0 (keeps.fits (came.dues due))))
    behind None end came =
        notes s base (Told s base) IoFailed h end (λ x. note (FileLeft chunk) x) came.same came.shows
        (λ answer.
        let failed : CrashPoint = after end (Note IoFailed) answer in
        let shows : Shows s base failed = shows_noted s base IoFailed answer end came.shows in
        notes_last s base (FileLeft chunk) (IoFailed ∷ logged end.past) failed refl shows
        (λ more.
        keeps_noted s base (FileLeft chunk) more failed (IoFailed ∷ h) (ap (λ (x : History). IoFailed ∷ x) (sym came.same)) shows
        (λ due. let is = came.did due.1 in fits_file s h (FileLeft chunk ∷ IoFailed ∷ h) chunk (gone_left s h chunk) m.files stood end.files (mem came.shows.since) head.name named is.0 is.1.0 (keeps.fits (came.dues due.1)))))

    in_file : ReturnsHistoryBy (Shows s base) (Keeps s base) m (bind (on_disk (removes head.name)) (dropped chunk h))
    in_file =
        holds_bind LeadsTo (Shows s base) (λ answer end. Came s base m Gone answer end) (Told s base) m (on_disk (removes head.name)) (dropped chunk h)
        (runs s base m Gone (removes head.name) keeps.shows
        (λ due.
        goes_both (Others m.files) (Others stood) Done (removes head.name) m.files stood (removal_leaves head.name m.files) (removal_leaves head.name stood)
        (removal_goes head.name stood ((keeps.fits due).stand chunk head held).there))) behind

  drops_by : (held : Option Kept) → kept_of s h chunk ≡ held → ReturnsHistoryBy (Shows s base) (Keeps s base) m (bind (on_disk (removals_for held)) (dropped chunk h))
  drops_by None is = in_memory
  drops_by (Some (InMemory bytes)) is = in_memory
  drops_by (Some (InFile head)) is = in_file head (ap head_of is) (ap file_of_optional is)
  drops_by (Some (Adopted head)) is = in_file head (ap head_of is) (ap file_of_optional is)

  pub drops_well : ReturnsHistoryBy (Shows s base) (Keeps s base) m (drops s chunk h)
  unfolding drops
  drops_well = drops_by (kept_of s h chunk) refl
