-- The content of a chunk is read.
use Rattle.std.proofs.Common.{◌≡◌, ℕ, ◌+◌, List, ◌∷◌, Option, Some, refl, sym, ◌∙◌, subst}
use Rattle.fwd_event.specs.declared.event.Event.{Event}
use Rattle.fwd_event.specs.EventPrefix.{events_in}
use Rattle.fwd_outside.proofs.CrashPointLemmas.{holds_weaker}
use Rattle.fwd_outside.specs.DiskStates.{Files}
use Rattle.fwd_chunk.specs.declared.append.ChunkHead.{ChunkHead}
use Rattle.fwd_chunk.specs.declared.kept.Kept.{Kept}
use Rattle.fwd_chunk.specs.declared.kept.Kept.TheVariants.{InFile, Adopted}
use Rattle.fwd_chunk.specs.Content.{read_content_program}
use Rattle.fwd_settings.specs.declared.settings_types.AllSettings.{AllSettings}
use Rattle.fwd_model.specs.Fact.{History, Route, OnRoute, FlushStarted}
use Rattle.fwd_model.specs.DeviceActions.{on_disk}
use Rattle.fwd_model.specs.ChunkStorage.{kept_of}
use Rattle.fwd_theorem_trace.specs.Past.{Past, logged}
use Rattle.fwd_theorem_trace.specs.Allowed.{Allowed}
use Rattle.fwd_theorem_crash.specs.CrashPoint.{CrashPoint, LeadsTo}
use Rattle.fwd_theorem_crash.proofs.OrderInvariant.{head_of}
use Rattle.fwd_theorem_crash.proofs.RunTraversal.{MayBeginBy, ReadsBy}
use Rattle.fwd_theorem_content.proofs.Histories.{plain_same}
use Rattle.fwd_theorem_disks.proofs.MemFiles.{mem}
use Rattle.fwd_theorem_disks.proofs.Fits.{Fits, fits_same}
use Rattle.fwd_theorem_disks.proofs.Pairs.{Goes, reads_goes}
use Rattle.fwd_theorem_disks.proofs.Points.{Shows, Keeps, Came, keeps_noted, runs}

module _ (s : AllSettings) (base : Past) (r : Route) where
  -- a flush may begin
  pub begins_at : (events : List Event) (m : CrashPoint) → Keeps s base m → MayBeginBy (Keeps s base) r events m
  begins_at events m keeps answer =
      keeps_noted s base (OnRoute r (FlushStarted events)) answer m (logged m.past) refl keeps.shows
      (λ due. fits_same s (logged m.past) (OnRoute r (FlushStarted events) ∷ logged m.past) m.files (mem keeps.shows.since) (plain_same s (OnRoute r (FlushStarted events)) (logged m.past) tt) (keeps.fits due))

  module _ (m : CrashPoint) (keeps : Keeps s base m) (head : ChunkHead) (held : head_of (kept_of s (logged m.past) r.chunk) ≡ Some head) where
    abbrev stood : Files
    stood = mem keeps.shows.since

    abbrev Unmoved : Option (List ℕ) → Files → Files → Type 0
    Unmoved answer now other = (now ≡ m.files) × (other ≡ stood)

    abbrev MayBegin : Option (List ℕ) → CrashPoint → Type 0
    MayBegin answer end = (logged end.past ≡ logged m.past) × (Keeps s base end × ((bytes : List ℕ) → answer ≡ Some bytes → MayBeginBy (Keeps s base) r (events_in bytes).0 end))

    read_end : (answer : Option (List ℕ)) (end : CrashPoint) → Came s base m Unmoved answer end → MayBegin answer end
    read_end answer end came =
        let now : Keeps s base end = record {
          shows = came.shows;
          fits = λ due.
              let is = came.did due in
              subst (λ (x : History). Fits s x end.files (mem came.shows.since)) (sym came.same)
              (subst (λ (files : Files). Fits s (logged m.past) files (mem came.shows.since)) (sym is.0) (subst (λ (files : Files). Fits s (logged m.past) m.files files) (sym is.1) (keeps.fits (came.dues due))));
        } in
        (came.same, (now, λ bytes given. begins_at (events_in bytes).0 end now))

    reads_by : (kept_as : Kept) → (Allowed s m.past → Goes Unmoved m.files stood (read_content_program kept_as)) → ReadsBy (Shows s base) (Keeps s base) r m kept_as
    reads_by kept_as goes =
        holds_weaker LeadsTo (Shows s base) (Shows s base) (λ answer end. Came s base m Unmoved answer end) MayBegin m (on_disk (read_content_program kept_as)) (λ end shows. shows) read_end
        (runs s base m Unmoved (read_content_program kept_as) keeps.shows goes)

    abbrev GoesIn : Kept → Type 0
    GoesIn kept_as = Goes Unmoved m.files stood (read_content_program kept_as)

    both_have : Allowed s m.past → GoesIn (InFile head) × GoesIn (Adopted head)
    both_have due =
        let fits = keeps.fits due in
        let there = (fits.stand r.chunk head held).there in
        let same = fits.live_has.has r.chunk head held ∙ sym (fits.mem_has.has r.chunk head held) in
        (reads_goes head.name (24 + head.meta) head.size m.files stood there same, reads_goes head.name (24 + head.meta) head.size m.files stood there same)

    pub file_begins : ReadsBy (Shows s base) (Keeps s base) r m (InFile head)
    file_begins = reads_by (InFile head) (λ due. (both_have due).0)

    pub found_begins : ReadsBy (Shows s base) (Keeps s base) r m (Adopted head)
    found_begins = reads_by (Adopted head) (λ due. (both_have due).1)
