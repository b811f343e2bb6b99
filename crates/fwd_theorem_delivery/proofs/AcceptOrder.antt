-- Batches are accepted or refused in the order in which they were completed.
use Rattle.std.proofs.Common.{◌≡◌, ℕ, nat_lt, Bool, true, false, cond, List, [], ◌∷◌, map, Option, Some, None, refl}
use Rattle.fwd_base.specs.Limits.{numbers_end}
use Rattle.fwd_outside.specs.Program.{Return, bind}
use Rattle.fwd_wire.specs.Message.{MessageContent}
use Rattle.fwd_store.specs.Store.{begins_as, append_to_program}
use Rattle.fwd_settings.specs.declared.settings_types.AllSettings.{AllSettings}
use Rattle.fwd_model.specs.Fact.{History, Stream, LineStream, MessageStream, Standard, Batch, Placement, NoChunk, NewChunk, AppendedTo, Reason, TooLarge, NoNumber, NotStored, Disconnected, Malformed, Offered, Accepted, Refused, IoFailed}
use Rattle.fwd_model.specs.Trace.{Action}
use Rattle.fwd_model.specs.DeviceActions.{on_disk}
use Rattle.fwd_model.specs.Settings.{outputs_for, home_at, names_for}
use Rattle.fwd_model.specs.Streams.{stream_of, said}
use Rattle.fwd_model.specs.Batches.{piece_batch}
use Rattle.fwd_model.specs.Messages.{completed_messages, becomes_malformed, message_batch, reply_of}
use Rattle.fwd_model.specs.Chunks.{ChunkInfo, next, open_chunk, encoded, is_storable}
use Rattle.fwd_model.specs.ChunkStorage.{kept_of, name_for}
use Rattle.fwd_model.specs.Notes.{note_then, is_empty}
use Rattle.fwd_model.specs.CloseActions.{closes_chunk, closes_if_full}
use Rattle.fwd_model.specs.Acceptance.{Acceptance, taken, refuses, finishes_append, finishes_create, appends, starts_chunk, stores, accepts, ingests}
use Rattle.fwd_model.specs.InputActions.{hangs_up, after_reply, replies, acknowledges, accepts_messages, accepts_stream, pieces}
use Rattle.fwd_theorem_delivery.specs.BatchOutcomes.{completed_over}
use Rattle.fwd_theorem_delivery.proofs.Results.{Yields, gives_then, gives_behind, gives_if}
use Rattle.fwd_theorem_delivery.proofs.FactSuffix.{AddsInner}
use Rattle.fwd_theorem_delivery.proofs.InnerActions.{calm_shuts, calm_fills}
use Rattle.fwd_theorem_delivery.proofs.BatchOrder.{Always, AwaitsDecision, always_still, owing_still, owing_none, owing_judged, owing_later}

module _ (s : AllSettings) where
  -- what follows an acceptance
  abbrev StillAwaited : List Batch → Acceptance → Type 0
  StillAwaited bs a = AwaitsDecision s bs a.history

  module _ (b : Batch) (bs : List Batch) (some : is_empty b.events ≡ false) where
    abbrev Owed : History → Type 0
    Owed h = AwaitsDecision s (b ∷ bs) h

    paid_ends : (took : Bool) (at : History) (p : Action History) → AwaitsDecision s bs at → Yields (AddsInner at) p → Yields (StillAwaited bs) (bind p (λ (x : History). Return (record { history = x; taken = took })))
    paid_ends took at p owing calm =
        gives_then (AddsInner at) (StillAwaited bs) p (λ (x : History). Return (record { history = x; taken = took })) calm (λ now later. owing_later s bs at now owing later)

    paid_accepted : (place : Placement) (h : History) → Owed h → AwaitsDecision s bs (Accepted b place ∷ h)
    paid_accepted place h owed = owing_judged s b bs (Accepted b place) h some refl refl owed

    paid_refused : (why : Reason) (h : History) → Owed h → AwaitsDecision s bs (Refused b why ∷ h)
    paid_refused why h owed = owing_judged s b bs (Refused b why) h some refl refl owed

    faulted : (h : History) → Owed h → Owed (IoFailed ∷ h)
    faulted h owed = owing_still s IoFailed (b ∷ bs) h (refl, refl) owed

    paid_appended : (chunk : ℕ) (h : History) (answer : Option (Unit {0})) → Owed h → Yields (StillAwaited bs) (finishes_append s b chunk h answer)
    paid_appended chunk h (Some done) owed =
        let at : History = Accepted b (AppendedTo chunk) ∷ h in
        λ _. paid_ends true at (closes_if_full s chunk at) (paid_accepted (AppendedTo chunk) h owed) (calm_fills s chunk at)
    paid_appended chunk h None owed =
        let at : History = Refused b NotStored ∷ IoFailed ∷ h in
        λ _ _. paid_ends false at (closes_chunk s chunk at) (paid_refused NotStored (IoFailed ∷ h) (faulted h owed)) (calm_shuts s chunk at)

    paid_placed : (chunk : ℕ) (h : History) (answer : Option (Unit {0})) → Owed h → Yields (StillAwaited bs) (finishes_create s b chunk h answer)
    paid_placed chunk h (Some done) owed =
        let at : History = Accepted b (NewChunk chunk) ∷ h in
        λ _. paid_ends true at (closes_if_full s chunk at) (paid_accepted (NewChunk chunk) h owed) (calm_fills s chunk at)
    paid_placed chunk h None owed = λ _ _. paid_refused NotStored (IoFailed ∷ h) (faulted h owed)

    paid_refuses : (why : Reason) (h : History) → Owed h → Yields (StillAwaited bs) (refuses b why h)
    paid_refuses why h owed = λ _. paid_refused why h owed

    paid_stores : (c : Option ChunkInfo) (h : History) → Owed h → Yields (StillAwaited bs) (stores s b c h)
    unfolding appends starts_chunk
    paid_stores (Some c) h owed =
        let at : History = Offered c.number b ∷ h in
        λ _. gives_behind (StillAwaited bs) (on_disk (append_to_program (kept_of s h c.number) (encoded b.events) s.service.full)) (finishes_append s b c.number at)
        (λ answer. paid_appended c.number at answer (owing_still s (Offered c.number b) (b ∷ bs) h (refl, refl) owed))
    paid_stores None h owed =
        let at : History = Offered (next h) b ∷ h in
        gives_if (StillAwaited bs) (nat_lt (next h) numbers_end) (starts_chunk s b (next h) h) (refuses b NoNumber h)
        (λ _ _. gives_behind (StillAwaited bs) (on_disk (begins_as (name_for s b.input (next h)) b.tag (home_at s b.input) (encoded b.events) (names_for s b.tag))) (finishes_create s b (next h) at)
        (λ answer. paid_placed (next h) at answer (owing_still s (Offered (next h) b) (b ∷ bs) h (refl, refl) owed)))
        (λ _. paid_refuses NoNumber h owed)

  paid_accepts : (b : Batch) (bs : List Batch) (h : History) → AwaitsDecision s (b ∷ bs) h → Yields (StillAwaited bs) (accepts s b h)
  unfolding accepts
  paid_accepts b bs h owed =
      let kept : Action Acceptance = cond (is_storable b.events) (stores s b (open_chunk h b.input b.tag) h) (refuses b TooLarge h) in
      let routed : Action Acceptance = cond (is_empty (outputs_for s b.tag)) (note_then (Accepted b NoChunk) h taken) kept in
      gives_if (StillAwaited bs) (is_empty b.events) (taken h) routed (λ none. owing_none s b bs h none owed)
      (λ some. gives_if (StillAwaited bs) (is_empty (outputs_for s b.tag)) (note_then (Accepted b NoChunk) h taken) kept
      (λ _ _. paid_accepted b bs some NoChunk h owed)
      (λ _. gives_if (StillAwaited bs) (is_storable b.events) (stores s b (open_chunk h b.input b.tag) h) (refuses b TooLarge h)
      (λ _. paid_stores b bs some (open_chunk h b.input b.tag) h owed) (λ _. paid_refuses b bs some TooLarge h owed)))

  -- one batch
  pub always_takes : (b : Batch) (h : History) → AwaitsDecision s (b ∷ []) h → Yields (Always s) (ingests s b h)
  unfolding ingests
  always_takes b h owed =
      gives_then (StillAwaited []) (Always s) (accepts s b h) (λ (a : Acceptance). Return a.history) (paid_accepts b [] h owed) (λ a owing. owing.1)

  -- ---- messages

  always_hangs_up : (conn : ℕ) (h : History) → Always s h → Yields (Always s) (hangs_up conn h)
  unfolding hangs_up
  always_hangs_up conn h always = λ _ _. always_still s (Disconnected conn) h (refl, refl) always

  module _ (conn : ℕ) (bs : List Batch) (at : History) (owing : AwaitsDecision s bs at) (next : History → Action History) (more : (now : History) → AwaitsDecision s bs now → Yields (Always s) (next now)) where
    always_replied : (answer : Option (Unit {0})) → Yields (Always s) (after_reply conn next at answer)
    always_replied (Some done) = more at owing
    always_replied None = always_hangs_up conn at owing.1

    always_replies : (asked : Option (List ℕ)) → Yields (Always s) (replies conn asked next at)
    always_replies None = more at owing
    always_replies (Some bytes) = always_replied

    always_answers : (asked : Option (List ℕ)) (took : Bool) → Yields (Always s) (acknowledges conn asked next (record { history = at; taken = took }))
    always_answers asked true = always_replies asked
    always_answers asked false = always_hangs_up conn at owing.1

  always_reads : (input conn : ℕ) (breaks : Bool) (ms : List MessageContent) (h : History) → AwaitsDecision s (map (message_batch s input) ms) h → Yields (Always s) (accepts_messages s input conn breaks ms h)
  always_reads input conn false [] h owing = owing.1
  always_reads input conn true [] h owing = λ _. always_hangs_up conn (Malformed input ∷ h) (always_still s (Malformed input) h (refl, refl) owing.1)
  always_reads input conn breaks (m ∷ ms) h owing =
      let b : Batch = message_batch s input m in
      let bs : List Batch = map (message_batch s input) ms in
      gives_then (StillAwaited bs) (Always s) (accepts s b h) (acknowledges conn (reply_of m) (accepts_messages s input conn breaks ms)) (paid_accepts b bs h owing)
      (λ a left. always_answers conn bs a.history left (accepts_messages s input conn breaks ms) (always_reads input conn breaks ms) (reply_of m) a.taken)

  -- ---- reads

  always_hears : (before : History) (input : ℕ) (bytes : List ℕ) (at : Option Stream) (h : History) → AwaitsDecision s (completed_over s before input bytes at) h → Yields (Always s) (accepts_stream s before input bytes at h)
  always_hears before input bytes None h owing = owing.1
  always_hears before input bytes (Some (LineStream conn)) h owing = always_takes (piece_batch s before input (LineStream conn) bytes) h owing
  always_hears before input bytes (Some (MessageStream conn)) h owing =
      let said_before : List ℕ = said s before (MessageStream conn) in
      always_reads input conn (becomes_malformed said_before bytes) (completed_messages said_before bytes) h owing
  always_hears before input bytes (Some (Standard reader)) h owing = always_takes (piece_batch s before input (Standard reader) bytes) h owing

  pub always_pieces : (before : History) (input conn : ℕ) (bytes : List ℕ) (h : History) → AwaitsDecision s (completed_over s before input bytes (stream_of s before input conn)) h
      → Yields (Always s) (pieces s before input conn bytes h)
  unfolding pieces
  always_pieces before input conn bytes h owing = always_hears before input bytes (stream_of s before input conn) h owing
