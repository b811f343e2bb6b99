-- The outcome of a route is recorded in its chunk's file.
use Rattle.std.proofs.Common.{◌≡◌, ℕ, Bool, List, ◌∷◌, Option, Some, None, refl, sym, ◌∙◌, ap, subst, le_refl}
use Rattle.fwd_outside.specs.Program.{Return, bind}
use Rattle.fwd_outside.proofs.CrashPointLemmas.{holds_bind}
use Rattle.fwd_outside.specs.DiskStates.{Files}
use Rattle.fwd_chunk.specs.declared.append.ChunkHead.{ChunkHead}
use Rattle.fwd_chunk.specs.Outcome.{outcome_place, settle_program}
use Rattle.fwd_chunk.specs.declared.kept.Kept.{Kept as Held}
use Rattle.fwd_chunk.specs.declared.kept.Kept.TheVariants.{InFile, Adopted, InMemory}
use Rattle.fwd_chunk.specs.Kept.{file_of_optional}
use Rattle.fwd_settings.specs.declared.settings_types.AllSettings.{AllSettings}
use Rattle.fwd_model.specs.Fact.{History, Route, MarkStarted, Marked, IoFailed}
use Rattle.fwd_model.specs.Trace.{Note}
use Rattle.fwd_model.specs.DeviceActions.{on_disk}
use Rattle.fwd_model.specs.Settings.{output_name}
use Rattle.fwd_model.specs.Chunks.{next, content}
use Rattle.fwd_model.specs.ChunkStorage.{kept_of, mark_position}
use Rattle.fwd_model.specs.ResolveActions.{after_mark, marks_at, records}
use Rattle.fwd_theorem_trace.specs.Past.{logged}
use Rattle.fwd_theorem_trace.specs.Allowed.{Allowed}
use Rattle.fwd_theorem_crash.specs.CrashPoint.{CrashPoint, LeadsTo}
use Rattle.fwd_theorem_crash.proofs.OrderInvariant.{head_of}
use Rattle.fwd_theorem_crash.proofs.Lookups.{held_of, same_head}
use Rattle.fwd_theorem_crash.proofs.RunTraversal.{after, ReturnsHistoryBy}
use Rattle.fwd_theorem_content.proofs.KeptContent.{HasContent, FilesHaveContents, KeepsTheSame, carried, file_changed}
use Rattle.fwd_theorem_content.proofs.FileEffects.{HasBytes, Leaves, Stands, outcome_leaves}
use Rattle.fwd_theorem_content.proofs.Points.{InOrder, Hands, Kept, Told, Came, hands_now, hands_after, plain_kept, runs, notes, notes_last}

marked_same : (s : AllSettings) (r : Route) (h : History) → KeepsTheSame s h (Marked r ∷ h)
marked_same s r h = record { kept = λ n. refl; has = λ n. refl; later = le_refl (next h) }

-- the content of the file is as before
pub same_content : (s : AllSettings) (h : History) (files now : Files) (n : ℕ) (head : ChunkHead) → head_of (kept_of s h n) ≡ Some head → HasBytes head.name files (Stands head (content h n)) now → FilesHaveContents s h files → FilesHaveContents s h now
same_content s h files now n head held left order =
    let name_held : file_of_optional (kept_of s h n) ≡ Some head.name = held_of (kept_of s h n) head held in
    file_changed s h h files now n head.name name_held (record {
      same = left.same;
      kept = λ m ne. refl;
      has = λ m ne. refl;
      held = λ other is. let both : Some other ≡ Some head.name = sym is ∙ name_held in cc both;
      own = λ one is. subst (λ (x : ChunkHead). HasContent x (content h n) now) (same_head (kept_of s h n) head one held is) left.here;
      later = le_refl (next h);
    }) order

module _ (s : AllSettings) (r : Route) (m : CrashPoint) (kept : Kept s m) where
  abbrev h : History
  h = logged m.past

  abbrev output : List ℕ
  output = output_name s r.output

  stays : ReturnsHistoryBy (Hands s) (Kept s) m (Return h)
  stays = (hands_now s m kept, (refl, kept))

  module _ (head : ChunkHead) (held : head_of (kept_of s h r.chunk) ≡ Some head) (answer : Unit {0}) where
    abbrev at : CrashPoint
    at = after m (Note (MarkStarted r)) answer

    abbrev g : History
    g = MarkStarted r ∷ h

    at_kept : Kept s at
    at_kept = plain_kept s (MarkStarted r) answer m tt kept

    abbrev IsStill : List ℕ → Type 0
    IsStill = Stands head (content h r.chunk)

    abbrev Recorded : Option Bool → Files → Type 0
    Recorded reply now = Leaves head.name m.files IsStill IsStill reply now

    left_by : (reply : Option Bool) (now : Files) → Recorded reply now → HasBytes head.name m.files IsStill now
    left_by None now left = left
    left_by (Some done) now left = left

    order_after : (reply : Option Bool) (end : CrashPoint) → Came s at Recorded reply end → Allowed s end.past → InOrder s g end.files
    order_after reply end came due =
        let is = came.1 due in
        let was = at_kept is.0 in
        record { contents = same_content s g m.files end.files r.chunk head held (left_by reply end.files is.1) was.contents; hands = was.hands }

    behind : (reply : Option Bool) (end : CrashPoint) → Came s at Recorded reply end → ReturnsHistoryBy (Hands s) (Kept s) end (after_mark r g reply)
    behind (Some said) end came =
        notes_last s (Marked r) g end came.0 (hands_after s at Recorded (hands_now s at at_kept) (Some said) end came)
        (λ last due.
        let was = order_after (Some said) end came due.1 in
        subst (λ (x : History). InOrder s (Marked r ∷ x) end.files) (sym came.0) (record { contents = carried s g (Marked r ∷ g) end.files (marked_same s r g) was.contents; hands = was.hands }))
    behind None end came =
        notes_last s IoFailed g end came.0 (hands_after s at Recorded (hands_now s at at_kept) None end came)
        (λ last. plain_kept s IoFailed last end tt (λ due. subst (λ (x : History). InOrder s x end.files) (sym came.0) (order_after None end came due)))

    records_it : ReturnsHistoryBy (Hands s) (Kept s) at (bind (on_disk (settle_program head output s.service.full)) (after_mark r g))
    records_it =
        holds_bind LeadsTo (Hands s) (λ reply end. Came s at Recorded reply end) (Told s) at (on_disk (settle_program head output s.service.full)) (after_mark r g)
        (runs s at Recorded (hands_now s at at_kept) (settle_program head output s.service.full) (λ due. outcome_leaves head output (content h r.chunk) m.files ((at_kept due).contents.has r.chunk head held) s.service.full)) behind

  in_file : (head : ChunkHead) → head_of (kept_of s h r.chunk) ≡ Some head → (place : Option ℕ) → ReturnsHistoryBy (Hands s) (Kept s) m (marks_at s r (Some (InFile head)) place h)
  in_file head held None = stays
  in_file head held (Some place) =
      notes s (Told s) (MarkStarted r) h m (λ g. bind (on_disk (settle_program head output s.service.full)) (after_mark r g)) refl (hands_now s m kept) (λ answer. records_it head held answer)

  by : (held : Option Held) → kept_of s h r.chunk ≡ held → ReturnsHistoryBy (Hands s) (Kept s) m (marks_at s r held (mark_position output held) h)
  by None is = stays
  by (Some (InMemory bytes)) is = stays
  by (Some (InFile head)) is = in_file head (ap head_of is) (outcome_place head output)
  by (Some (Adopted head)) is = in_file head (ap head_of is) (outcome_place head output)

  pub records_well : ReturnsHistoryBy (Hands s) (Kept s) m (records s r h)
  unfolding records
  records_well = by (kept_of s h r.chunk) refl
