-- The bytes that a sink in memory has written, after one more write.
use Rattle.std.proofs.Common.{◌≡◌, ℕ, Bool, true, false, if◌then◌else◌, List, [], ◌∷◌, ◌++◌, sym, ◌∙◌, ap, append_assoc}
use Rattle.std.proofs.lemmas.List.{append-nil, map-append}
use Rattle.fwd_outside.specs.Sink.{SinkEntry, Write, Wrote, Stopped, log_of_stopped, written_by, written}
use Rattle.fwd_files_mem.specs.declared.sink.SinkNote.{SinkNote}
use Rattle.fwd_files_mem.specs.SinkState.{SinkState}
use Rattle.fwd_files_mem.specs.MemSink.{entries_of, entry_of, note_of}

written_push : (es : List SinkEntry) (e : SinkEntry) → written (es ++ e ∷ []) ≡ written es ++ written_by e.call e.answer
written_push [] e = append-nil (written_by e.call e.answer)
written_push (x ∷ es) e = ap (λ (l : List ℕ). written_by x.call x.answer ++ l) (written_push es e) ∙ sym (append_assoc (written_by x.call x.answer) (written es) (written_by e.call e.answer))

module _ (notes new : List SinkNote) (bytes : List ℕ) (before : bytes ≡ written (entries_of notes)) (piece bytes2 : List ℕ) (same : piece ≡ bytes2) where
  after : (done : Bool) → new ≡ notes ++ note_of piece done ∷ [] → written (entries_of new) ≡ bytes ++ written_by (Write bytes2) (if done then Wrote else Stopped 0)
  after done noted =
      ap (λ (l : List SinkNote). written (entries_of l)) noted
      ∙ ap written (map-append entry_of notes (note_of piece done ∷ []))
      ∙ written_push (entries_of notes) (entry_of (note_of piece done))
      ∙ ap (λ (b : List ℕ). b ++ written_by (Write piece) (if done then Wrote else Stopped 0)) (sym before)
      ∙ ap (λ (p : List ℕ). bytes ++ written_by (Write p) (if done then Wrote else Stopped 0)) same

  pub written_whole : (now : List ℕ) → new ≡ notes ++ note_of piece true ∷ [] → now ≡ bytes ++ bytes2 → now ≡ written (entries_of new)
  written_whole now noted grown = grown ∙ sym (after true noted)

  pub written_nothing : new ≡ notes ++ note_of piece false ∷ [] → bytes ≡ written (entries_of new)
  written_nothing noted = sym (append-nil bytes) ∙ sym (after false noted)

-- the trace of a failed write
pub tells_stopped : (held old : SinkState) (view : held ≡ old) (new : List SinkNote) (piece bytes : List ℕ) → piece ≡ bytes → new ≡ held.notes ++ note_of piece false ∷ []
    → entries_of new ≡ entries_of old.notes ++ log_of_stopped bytes 0
tells_stopped held old view new piece bytes same noted =
    ap entries_of noted
    ∙ map-append entry_of held.notes (note_of piece false ∷ [])
    ∙ ap (λ (h : SinkState). entries_of h.notes ++ log_of_stopped piece 0) view
    ∙ ap (λ (p : List ℕ). entries_of old.notes ++ log_of_stopped p 0) same
