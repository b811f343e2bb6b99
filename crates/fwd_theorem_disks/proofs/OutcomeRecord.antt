-- The outcome of a route is recorded in its chunk's file.
use Rattle.std.proofs.Common.{◌≡◌, ℕ, Bool, List, ◌∷◌, Option, Some, None, refl, sym, ap, subst, le_refl}
use Rattle.fwd_outside.specs.Program.{Return, bind}
use Rattle.fwd_outside.proofs.CrashPointLemmas.{holds_bind}
use Rattle.fwd_outside.specs.DiskStates.{Files}
use Rattle.fwd_chunk.specs.declared.append.ChunkHead.{ChunkHead}
use Rattle.fwd_chunk.specs.Outcome.{outcome_place, settle_program}
use Rattle.fwd_chunk.specs.declared.kept.Kept.{Kept}
use Rattle.fwd_chunk.specs.declared.kept.Kept.TheVariants.{InFile, Adopted, InMemory}
use Rattle.fwd_settings.specs.declared.settings_types.AllSettings.{AllSettings}
use Rattle.fwd_model.specs.Fact.{History, Route, MarkStarted, Marked, IoFailed}
use Rattle.fwd_model.specs.Trace.{Note}
use Rattle.fwd_model.specs.DeviceActions.{on_disk}
use Rattle.fwd_model.specs.Settings.{output_name}
use Rattle.fwd_model.specs.Chunks.{next, content}
use Rattle.fwd_model.specs.ChunkStorage.{kept_of, mark_position}
use Rattle.fwd_model.specs.ResolveActions.{after_mark, marks_at, records}
use Rattle.fwd_theorem_trace.specs.Past.{Past, logged}
use Rattle.fwd_theorem_trace.specs.Allowed.{Allowed}
use Rattle.fwd_theorem_crash.specs.CrashPoint.{CrashPoint, LeadsTo}
use Rattle.fwd_theorem_crash.proofs.OrderInvariant.{head_of}
use Rattle.fwd_theorem_crash.proofs.Lookups.{held_of, same_head}
use Rattle.fwd_theorem_crash.proofs.RunTraversal.{after, ReturnsHistoryBy}
use Rattle.fwd_theorem_content.proofs.KeptContent.{KeepsTheSame}
use Rattle.fwd_theorem_content.proofs.Histories.{plain_same}
use Rattle.fwd_theorem_content.proofs.FileEffects.{HasBytes, Leaves, Stands, outcome_leaves}
use Rattle.fwd_theorem_content.proofs.OutcomeRecord.{same_content}
use Rattle.fwd_theorem_disks.proofs.MemFiles.{mem}
use Rattle.fwd_theorem_disks.proofs.Fits.{Fits, end_of, fits_same, stand_changed}
use Rattle.fwd_theorem_disks.proofs.Pairs.{Has, HasBy, goes_both, outcome_goes}
use Rattle.fwd_theorem_disks.proofs.Points.{Shows, Keeps, Told, Came, keeps_noted, plain_kept, runs, notes, notes_last}

marked_same : (s : AllSettings) (r : Route) (h : History) → KeepsTheSame s h (Marked r ∷ h)
marked_same s r h = record { kept = λ n. refl; has = λ n. refl; later = le_refl (next h) }

module _ (s : AllSettings) (base : Past) (r : Route) (m : CrashPoint) (keeps : Keeps s base m) where
  abbrev h : History
  h = logged m.past

  abbrev output : List ℕ
  output = output_name s r.output

  stays : ReturnsHistoryBy (Shows s base) (Keeps s base) m (Return h)
  stays = (keeps.shows, (refl, keeps))

  module _ (head : ChunkHead) (held : head_of (kept_of s h r.chunk) ≡ Some head) (answer : Unit {0}) where
    abbrev at : CrashPoint
    at = after m (Note (MarkStarted r)) answer

    abbrev g : History
    g = MarkStarted r ∷ h

    abbrev at_keeps : Keeps s base at
    at_keeps = plain_kept s base (MarkStarted r) answer m tt keeps

    abbrev stood : Files
    stood = mem keeps.shows.since

    abbrev IsStill : List ℕ → Type 0
    IsStill = Stands head (content h r.chunk)

    abbrev Live : Option Bool → Files → Type 0
    Live reply now = Leaves head.name m.files IsStill IsStill reply now

    abbrev Mem : Option Bool → Files → Type 0
    Mem reply now = Leaves head.name stood IsStill IsStill reply now

    abbrev Long : Option Bool → Files → Type 0
    Long reply now = HasBy head.name (end_of head) (end_of head) reply now

    abbrev Recorded : Option Bool → Files → Files → Type 0
    Recorded reply now other = Live reply now × (Mem reply other × Long reply other)

    left_by : (first : Files) (reply : Option Bool) (now : Files) → Leaves head.name first IsStill IsStill reply now → HasBytes head.name first IsStill now
    left_by first None now left = left
    left_by first (Some done) now left = left

    long_by : (reply : Option Bool) (now : Files) → Long reply now → Has head.name (end_of head) now
    long_by None now has = has
    long_by (Some done) now has = has

    fits_after : (reply : Option Bool) (now other : Files) → Recorded reply now other → Fits s g m.files stood → Fits s g now other
    fits_after reply now other left fits =
        let kept = left_by stood reply other left.1.0 in
        record {
          live_has = same_content s g m.files now r.chunk head held (left_by m.files reply now left.0) fits.live_has;
          mem_has = same_content s g stood other r.chunk head held kept fits.mem_has;
          stand = stand_changed s g g stood other r.chunk head.name (held_of (kept_of s h r.chunk) head held) kept.same (λ n ne. refl)
              (λ one is. subst (λ (x : ChunkHead). Has x.name (end_of x) other) (same_head (kept_of s h r.chunk) head one held is) (long_by reply other left.1.1)) fits.mem_has fits.stand;
        }

    fits_then : (reply : Option Bool) (end : CrashPoint) → (came : Came s base at Recorded reply end) → Allowed s end.past → Fits s g end.files (mem came.shows.since)
    fits_then reply end came due = fits_after reply end.files (mem came.shows.since) (came.did due) (at_keeps.fits (came.dues due))

    behind : (reply : Option Bool) (end : CrashPoint) → Came s base at Recorded reply end → ReturnsHistoryBy (Shows s base) (Keeps s base) end (after_mark r g reply)
    behind (Some said) end came =
        notes_last s base (Marked r) g end came.same came.shows
        (λ last. keeps_noted s base (Marked r) last end g (sym came.same) came.shows (λ due. fits_same s g (Marked r ∷ g) end.files (mem came.shows.since) (marked_same s r g) (fits_then (Some said) end came due)))
    behind None end came =
        notes_last s base IoFailed g end came.same came.shows
        (λ last. keeps_noted s base IoFailed last end g (sym came.same) came.shows (λ due. fits_same s g (IoFailed ∷ g) end.files (mem came.shows.since) (plain_same s IoFailed g tt) (fits_then None end came due)))

    records_it : ReturnsHistoryBy (Shows s base) (Keeps s base) at (bind (on_disk (settle_program head output s.service.full)) (after_mark r g))
    records_it =
        holds_bind LeadsTo (Shows s base) (λ reply end. Came s base at Recorded reply end) (Told s base) at (on_disk (settle_program head output s.service.full)) (after_mark r g)
        (runs s base at Recorded (settle_program head output s.service.full) at_keeps.shows
        (λ due.
        let fits = at_keeps.fits due in
        goes_both Live Mem Long (settle_program head output s.service.full) m.files stood
        (outcome_leaves head output (content h r.chunk) m.files (fits.live_has.has r.chunk head held) s.service.full)
        (outcome_leaves head output (content h r.chunk) stood (fits.mem_has.has r.chunk head held) s.service.full)
        (outcome_goes head output s.service.full stood (fits.stand r.chunk head held)))) behind

  in_file : (head : ChunkHead) → head_of (kept_of s h r.chunk) ≡ Some head → (place : Option ℕ) → ReturnsHistoryBy (Shows s base) (Keeps s base) m (marks_at s r (Some (InFile head)) place h)
  in_file head held None = stays
  in_file head held (Some place) =
      notes s base (Told s base) (MarkStarted r) h m (λ g. bind (on_disk (settle_program head output s.service.full)) (after_mark r g)) refl keeps.shows (λ answer. records_it head held answer)

  by : (held : Option Kept) → kept_of s h r.chunk ≡ held → ReturnsHistoryBy (Shows s base) (Keeps s base) m (marks_at s r held (mark_position output held) h)
  by None is = stays
  by (Some (InMemory bytes)) is = stays
  by (Some (InFile head)) is = in_file head (ap head_of is) (outcome_place head output)
  by (Some (Adopted head)) is = in_file head (ap head_of is) (outcome_place head output)

  pub records_well : ReturnsHistoryBy (Shows s base) (Keeps s base) m (records s r h)
  unfolding records
  records_well = by (kept_of s h r.chunk) refl
