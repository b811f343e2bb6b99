-- What is read from a chunk's file before a flush of it begins is the content of the chunk.
use Rattle.std.proofs.Common.{◌≡◌, ℕ, ◌+◌, List, ◌∷◌, Option, Some, refl, sym, ◌∙◌, ap, subst}
use Rattle.fwd_event.specs.declared.event.Event.{Event}
use Rattle.fwd_event.specs.EventPrefix.{events_in}
use Rattle.fwd_outside.specs.AtCrashPoints.{HoldsThroughout}
use Rattle.fwd_outside.proofs.CrashPointLemmas.{holds_weaker}
use Rattle.fwd_outside.specs.DiskStates.{Files, DiskTransition}
use Rattle.fwd_chunk.specs.declared.append.ChunkHead.{ChunkHead}
use Rattle.fwd_chunk.specs.Layout.{part}
use Rattle.fwd_chunk.specs.declared.kept.Kept.{Kept as Held}
use Rattle.fwd_chunk.specs.declared.kept.Kept.TheVariants.{InFile, Adopted, InMemory}
use Rattle.fwd_chunk.specs.Content.{read_content_program}
use Rattle.fwd_chunk.proofs.ContentAnswers.{holds_reads}
use Rattle.fwd_settings.specs.declared.settings_types.AllSettings.{AllSettings}
use Rattle.fwd_model.specs.Fact.{History, Route, OnRoute, FlushStarted}
use Rattle.fwd_model.specs.DeviceActions.{on_disk}
use Rattle.fwd_model.specs.Chunks.{content, records}
use Rattle.fwd_model.specs.ChunkStorage.{kept_of}
use Rattle.fwd_theorem_trace.specs.Past.{logged}
use Rattle.fwd_theorem_trace.specs.Allowed.{Allowed}
use Rattle.fwd_theorem_crash.specs.CrashPoint.{CrashPoint, LeadsTo}
use Rattle.fwd_theorem_crash.specs.FlushEvents.{chunk_events}
use Rattle.fwd_theorem_crash.proofs.OrderInvariant.{head_of}
use Rattle.fwd_theorem_crash.proofs.RunTraversal.{MayBeginBy, ReadsBy}
use Rattle.fwd_theorem_content.proofs.KeptContent.{FilesHaveContents, carried}
use Rattle.fwd_theorem_content.proofs.Histories.{plain_same}
use Rattle.fwd_theorem_content.proofs.FileEffects.{holds_at_end}
use Rattle.fwd_theorem_content.proofs.Points.{InOrder, Hands, Kept, Came, hands_now, runs}

module _ (s : AllSettings) (r : Route) (m : CrashPoint) (kept : Kept s m) where
  abbrev h : History
  h = logged m.past

  -- a flush with the events of the chunk may begin
  begins_there : (events : List Event) (end : CrashPoint) → logged end.past ≡ h → (Allowed s end.past → Allowed s m.past × (end.files ≡ m.files)) → (Allowed s end.past → events ≡ chunk_events (kept_of s h r.chunk) h r)
      → MayBeginBy (Kept s) r events end
  begins_there events end same dues right answer due =
      let is = dues due.1 in
      let was = kept is.0 in
      let begun : History = OnRoute r (FlushStarted events) ∷ h in
      let contents = subst (λ (files : Files). FilesHaveContents s h files) (sym is.1) was.contents in
      subst (λ (x : History). InOrder s (OnRoute r (FlushStarted events) ∷ x) end.files) (sym same)
      (record { contents = carried s h begun end.files (plain_same s (OnRoute r (FlushStarted events)) h tt) contents; hands = (right due.1, was.hands) })

  pub memory_begins : (bytes : List ℕ) → kept_of s h r.chunk ≡ Some (InMemory bytes) → MayBeginBy (Kept s) r (records h r.chunk) m
  memory_begins bytes held = begins_there (records h r.chunk) m refl (λ due. (due, refl)) (λ due. ap (λ (k : Option Held). chunk_events k h r) (sym held))

  module _ (head : ChunkHead) (held : head_of (kept_of s h r.chunk) ≡ Some head) where
    abbrev Same : Files → Type 0
    Same now = now ≡ m.files

    abbrev Gave : Option (List ℕ) → Files → Type 0
    Gave answer last = (bytes : List ℕ) → answer ≡ Some bytes → bytes ≡ part (m.files head.name).bytes (24 + head.meta) head.size

    abbrev Read : Option (List ℕ) → Files → Type 0
    Read answer now = Same now × Gave answer now

    abbrev MayBegin : Option (List ℕ) → CrashPoint → Type 0
    MayBegin answer end = (logged end.past ≡ h) × (Kept s end × ((bytes : List ℕ) → answer ≡ Some bytes → MayBeginBy (Kept s) r (events_in bytes).0 end))

    read_end : (in_file : chunk_events (kept_of s h r.chunk) h r ≡ (events_in (content h r.chunk)).0) (answer : Option (List ℕ)) (end : CrashPoint) → Came s m Read answer end → MayBegin answer end
    read_end in_file answer end came = (
      came.0,
      (
        λ due.
            let is = came.1 due in
            subst (λ (x : History). InOrder s x end.files) (sym came.0) (subst (λ (files : Files). InOrder s h files) (sym is.1.0) (kept is.0)),
        λ bytes given.
            begins_there (events_in bytes).0 end came.0 (λ due. let is = came.1 due in (is.0, is.1.0))
            (λ due.
            let is = came.1 due in
            let there = (kept is.0).contents.has r.chunk head held in
            ap (λ (l : List ℕ). (events_in l).0) (is.1.1 bytes given ∙ there) ∙ sym in_file),
      ),
    )

    reads_by : (kept_as : Held) → kept_of s h r.chunk ≡ Some kept_as → chunk_events (Some kept_as) h r ≡ (events_in (content h r.chunk)).0 → HoldsThroughout DiskTransition Same Gave m.files (read_content_program kept_as)
        → ReadsBy (Hands s) (Kept s) r m kept_as
    reads_by kept_as is in_file calls =
        holds_weaker LeadsTo (Hands s) (Hands s) (λ answer end. Came s m Read answer end) MayBegin m (on_disk (read_content_program kept_as)) (λ end hands. hands)
        (read_end (ap (λ (k : Option Held). chunk_events k h r) is ∙ in_file))
        (runs s m Read (hands_now s m kept) (read_content_program kept_as) (λ due. holds_at_end Same Gave m.files (read_content_program kept_as) calls))

  pub file_begins : (head : ChunkHead) → kept_of s h r.chunk ≡ Some (InFile head) → ReadsBy (Hands s) (Kept s) r m (InFile head)
  file_begins head is = reads_by head (ap head_of is) (InFile head) is refl (holds_reads head.name (24 + head.meta) head.size m.files)

  pub found_begins : (head : ChunkHead) → kept_of s h r.chunk ≡ Some (Adopted head) → ReadsBy (Hands s) (Kept s) r m (Adopted head)
  found_begins head is = reads_by head (ap head_of is) (Adopted head) is refl (holds_reads head.name (24 + head.meta) head.size m.files)
