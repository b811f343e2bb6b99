-- A chunk is removed.
use Rattle.std.proofs.Common.{◌≡◌, ◌≢◌, ℕ, ◌≤◌, cond, List, ◌∷◌, Option, Some, None, refl, sym, ◌∙◌, ap, subst, le_refl}
use Rattle.std.specs.Prelude.{◌==◌}
use Rattle.std.proofs.lemmas.Bool.{cond-true, cond-false, eq-eqb, ne_eqb}
use Rattle.fwd_outside.specs.Program.{bind}
use Rattle.fwd_outside.proofs.CrashPointLemmas.{holds_bind}
use Rattle.fwd_outside.specs.Disk.{removes}
use Rattle.fwd_outside.specs.DiskStates.{Files}
use Rattle.fwd_outside.specs.PostCrash.{OthersUnchanged}
use Rattle.fwd_chunk.specs.declared.kept.Kept.{Kept as Held}
use Rattle.fwd_chunk.specs.declared.kept.Kept.TheVariants.{InFile, Adopted, InMemory}
use Rattle.fwd_chunk.specs.Kept.{file_of_optional}
use Rattle.fwd_store.specs.Store.{drops as removals_for}
use Rattle.fwd_settings.specs.declared.settings_types.AllSettings.{AllSettings}
use Rattle.fwd_model.specs.Fact.{History, Removed, FileLeft, IoFailed}
use Rattle.fwd_model.specs.Trace.{Note}
use Rattle.fwd_model.specs.DeviceActions.{on_disk}
use Rattle.fwd_model.specs.Chunks.{next, content}
use Rattle.fwd_model.specs.ChunkStorage.{kept_of}
use Rattle.fwd_model.specs.Notes.{note}
use Rattle.fwd_model.specs.ResolveActions.{dropped, drops}
use Rattle.fwd_theorem_trace.specs.Past.{logged}
use Rattle.fwd_theorem_crash.specs.CrashPoint.{CrashPoint, LeadsTo}
use Rattle.fwd_theorem_crash.proofs.OrderInvariant.{head_of}
use Rattle.fwd_theorem_crash.proofs.RunTraversal.{after, ReturnsHistoryBy}
use Rattle.fwd_theorem_content.proofs.KeptContent.{FilesHaveContents, file_changed, memory_changed}
use Rattle.fwd_theorem_content.proofs.FileEffects.{removal_leaves}
use Rattle.fwd_theorem_content.proofs.Points.{InOrder, Hands, Kept, Told, Came, hands_now, hands_after, runs, notes, notes_last}

-- the chunk is no longer kept
pub record IsGone (s : AllSettings) (h g : History) (n : ℕ) : Type 0 where
  pub none : kept_of s g n ≡ None
  pub kept : (m : ℕ) → m ≢ n → kept_of s g m ≡ kept_of s h m
  has : (m : ℕ) → content g m ≡ content h m
  later : next h ≤ next g

module _ (s : AllSettings) (h : History) (n : ℕ) where
  gone_now : (kept : Option Held) → cond (n == n) None kept ≡ None
  gone_now kept = cond-true (n == n) None kept (eq-eqb n n refl)

  kept_still : (m : ℕ) → m ≢ n → (kept : Option Held) → cond (n == m) None kept ≡ kept
  kept_still m ne kept = cond-false (n == m) None kept (ne_eqb n m (λ e. ne (sym e)))

  pub gone_removed : IsGone s h (Removed n ∷ h) n
  gone_removed = record { none = gone_now (kept_of s h n); kept = λ m ne. kept_still m ne (kept_of s h m); has = λ m. refl; later = le_refl (next h) }

  pub gone_left : IsGone s h (FileLeft n ∷ IoFailed ∷ h) n
  gone_left = record { none = gone_now (kept_of s h n); kept = λ m ne. kept_still m ne (kept_of s h m); has = λ m. refl; later = le_refl (next h) }

module _ (s : AllSettings) (h g : History) (n : ℕ) (gone : IsGone s h g n) where
  no_head : head_of (kept_of s g n) ≡ None
  no_head = ap head_of gone.none

  no_file : file_of_optional (kept_of s g n) ≡ None
  no_file = ap file_of_optional gone.none

  pub gone_memory : (files : Files) → FilesHaveContents s h files → FilesHaveContents s g files
  gone_memory files order = memory_changed s h g files n no_head no_file gone.kept (λ m ne. gone.has m) gone.later order

  pub gone_file : (files now : Files) (name : List ℕ) → file_of_optional (kept_of s h n) ≡ Some name → OthersUnchanged name files now → FilesHaveContents s h files → FilesHaveContents s g now
  gone_file files now name held same order =
      file_changed s h g files now n name held (record {
        same = same;
        kept = gone.kept;
        has = λ m ne. gone.has m;
        held = λ other is. absurd (cc (sym no_file ∙ is));
        own = λ head is. absurd (cc (sym no_head ∙ is));
        later = gone.later;
      }) order

module _ (s : AllSettings) (chunk : ℕ) (m : CrashPoint) (kept : Kept s m) where
  abbrev h : History
  h = logged m.past

  in_memory : file_of_optional (kept_of s h chunk) ≡ None → ReturnsHistoryBy (Hands s) (Kept s) m (note (Removed chunk) h)
  in_memory none =
      notes_last s (Removed chunk) h m refl (hands_now s m kept)
      (λ answer due. let was = kept due.1 in record { contents = gone_memory s h (Removed chunk ∷ h) chunk (gone_removed s h chunk) m.files was.contents; hands = was.hands })

  module _ (name : List ℕ) (held : file_of_optional (kept_of s h chunk) ≡ Some name) where
    abbrev Gone : Option (Unit {0}) → Files → Type 0
    Gone answer now = OthersUnchanged name m.files now

    behind : (answer : Option (Unit {0})) (end : CrashPoint) → Came s m Gone answer end → ReturnsHistoryBy (Hands s) (Kept s) end (dropped chunk h answer)
    behind (Some answered) end came =
        notes_last s (Removed chunk) h end came.0 (hands_after s m Gone (hands_now s m kept) (Some answered) end came)
        (λ answer due.
        let is = came.1 due.1 in
        let was = kept is.0 in
        subst (λ (x : History). InOrder s (Removed chunk ∷ x) end.files) (sym came.0)
        (record { contents = gone_file s h (Removed chunk ∷ h) chunk (gone_removed s h chunk) m.files end.files name held is.1 was.contents; hands = was.hands }))
    behind None end came =
        let hands : Hands s end = hands_after s m Gone (hands_now s m kept) None end came in
        notes s (Told s) IoFailed h end (λ x. note (FileLeft chunk) x) came.0 hands
        (λ answer.
        notes_last s (FileLeft chunk) (IoFailed ∷ logged end.past) (after end (Note IoFailed) answer) refl (λ due. hands due.1)
        (λ more due.
        let is = came.1 due.1.1 in
        let was = kept is.0 in
        subst (λ (x : History). InOrder s (FileLeft chunk ∷ IoFailed ∷ x) end.files) (sym came.0)
        (record { contents = gone_file s h (FileLeft chunk ∷ IoFailed ∷ h) chunk (gone_left s h chunk) m.files end.files name held is.1 was.contents; hands = was.hands })))

    in_file : ReturnsHistoryBy (Hands s) (Kept s) m (bind (on_disk (removes name)) (dropped chunk h))
    in_file =
        holds_bind LeadsTo (Hands s) (λ answer end. Came s m Gone answer end) (Told s) m (on_disk (removes name)) (dropped chunk h)
        (runs s m Gone (hands_now s m kept) (removes name) (λ due. removal_leaves name m.files)) behind

  drops_by : (held : Option Held) → kept_of s h chunk ≡ held → ReturnsHistoryBy (Hands s) (Kept s) m (bind (on_disk (removals_for held)) (dropped chunk h))
  drops_by None is = in_memory (ap file_of_optional is)
  drops_by (Some (InMemory bytes)) is = in_memory (ap file_of_optional is)
  drops_by (Some (InFile head)) is = in_file head.name (ap file_of_optional is)
  drops_by (Some (Adopted head)) is = in_file head.name (ap file_of_optional is)

  pub drops_well : ReturnsHistoryBy (Hands s) (Kept s) m (drops s chunk h)
  unfolding drops
  drops_well = drops_by (kept_of s h chunk) refl
