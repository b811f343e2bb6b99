-- What becomes of input batches.
use Rattle.std.proofs.Common.{inl, inr, ℕ, nat_lt, Bool, true, false, cond, List, [], ◌∷◌, ◌++◌, map, Option, Some, None, refl, subst}
use Rattle.fwd_base.specs.Limits.{numbers_end}
use Rattle.fwd_outside.specs.Program.{Return, bind}
use Rattle.fwd_wire.specs.Message.{MessageContent}
use Rattle.fwd_store.specs.Store.{begins_as, append_to_program}
use Rattle.fwd_settings.specs.declared.settings_types.AllSettings.{AllSettings}
use Rattle.fwd_model.specs.Fact.{History, Stream, LineStream, MessageStream, Standard, Batch, NoChunk, NewChunk, AppendedTo, Reason, TooLarge, NoNumber, NotStored, Disconnected, Malformed, Offered, Accepted, Refused, IoFailed}
use Rattle.fwd_model.specs.Trace.{Action}
use Rattle.fwd_model.specs.DeviceActions.{on_disk}
use Rattle.fwd_model.specs.Settings.{outputs_for, home_at, names_for}
use Rattle.fwd_model.specs.Streams.{stream_of, said}
use Rattle.fwd_model.specs.Batches.{piece_batch}
use Rattle.fwd_model.specs.Messages.{completed_messages, becomes_malformed, message_batch, reply_of}
use Rattle.fwd_model.specs.Chunks.{ChunkInfo, next, open_chunk, encoded, is_storable}
use Rattle.fwd_model.specs.ChunkStorage.{kept_of, name_for}
use Rattle.fwd_model.specs.Notes.{note_then, is_empty}
use Rattle.fwd_model.specs.CloseActions.{closes_chunk, closes_if_full}
use Rattle.fwd_model.specs.Acceptance.{Acceptance, taken, refuses, finishes_append, finishes_create, appends, starts_chunk, stores, accepts, ingests}
use Rattle.fwd_model.specs.InputActions.{hangs_up, after_reply, replies, acknowledges, accepts_messages, accepts_stream, pieces}
use Rattle.fwd_theorem_trace.proofs.Streams.{IsOwn, own_stream}
use Rattle.fwd_theorem_delivery.specs.BatchOutcomes.{completed_over, ConnectionDropped, BatchOutcome, IsEmpty, IsAccepted, IsRefused, BatchOutcomes}
use Rattle.fwd_theorem_delivery.proofs.Results.{Yields, gives_so, gives_then, gives_behind, gives_if}
use Rattle.fwd_theorem_delivery.proofs.FactSuffix.{onto, Adds, adds_both, AreInner, inner_both, AddsInner}
use Rattle.fwd_theorem_delivery.proofs.InnerActions.{calm_shuts, calm_fills}
use Rattle.fwd_theorem_delivery.proofs.BatchFacts.{became_more, dropped_behind, order_behind, AreCalm, calm_both, inner_are_calm, ComeInOrder}

-- something became of a batch, and the facts after that are about existing chunks only
abbrev ComesBy : Batch → History → Type 0
ComesBy b new = AreCalm new × ((rest : History) × AreInner rest × BatchOutcome new b rest)

abbrev Comes : Batch → History → History → Type 0
Comes b h now = Adds (ComesBy b) h now

abbrev ComesTo : Batch → History → Acceptance → Type 0
ComesTo b h a = Comes b h a.history

comes_later : (b : Batch) (one two : History) → ComesBy b one → AreInner two → ComesBy b (one ++ two)
comes_later b one two (calm, (rest, inner, became)) are = (calm_both one two calm (inner_are_calm two are), (rest ++ two, inner_both rest two inner are, became_more one two b rest became))

comes_with : (conn : ℕ) (b : Batch) (bs : List Batch) (one two : History) → ComesBy b one → AreCalm two × BatchOutcomes (Some conn) two bs
    → AreCalm (one ++ two) × BatchOutcomes (Some conn) (one ++ two) (b ∷ bs)
comes_with conn b bs one two (calm, (rest, inner, became)) (calm2, order) =
    (calm_both one two calm calm2, (rest ++ two, became_more one two b rest became, inl (order_behind (Some conn) rest two bs inner order)))

comes_last : (conn : ℕ) (b : Batch) (bs : List Batch) (one two : History) → ComesBy b one → AreCalm two × ConnectionDropped (Some conn) two
    → AreCalm (one ++ two) × BatchOutcomes (Some conn) (one ++ two) (b ∷ bs)
comes_last conn b bs one two (calm, (rest, inner, became)) (calm2, was) =
    (calm_both one two calm calm2, (rest ++ two, became_more one two b rest became, inr (dropped_behind (Some conn) rest two inner was)))

module _ (s : AllSettings) where
  -- ---- acceptance

  -- after an action that completes no batch
  came_ends : (b : Batch) (took : Bool) (h at : History) (p : Action History) → Comes b h at → Yields (AddsInner at) p
      → Yields (ComesTo b h) (bind p (λ (x : History). Return (record { history = x; taken = took })))
  came_ends b took h at p came calm =
      gives_then (AddsInner at) (ComesTo b h) p (λ (x : History). Return (record { history = x; taken = took })) calm
      (λ now later. adds_both (ComesBy b) AreInner (ComesBy b) h at now (comes_later b) came later)

  came_appended : (b : Batch) (chunk : ℕ) (h : History) (answer : Option (Unit {0})) → Yields (ComesTo b h) (finishes_append s b chunk (Offered chunk b ∷ h) answer)
  came_appended b chunk h (Some done) =
      let new : History = Offered chunk b ∷ Accepted b (AppendedTo chunk) ∷ [] in
      λ _. came_ends b true h (onto new h) (closes_if_full s chunk (onto new h)) (new, refl, ((tt, (tt, tt)), ([], tt, IsAccepted (Offered chunk b ∷ []) (AppendedTo chunk) refl))) (calm_fills s chunk (onto new h))
  came_appended b chunk h None =
      let new : History = Offered chunk b ∷ IoFailed ∷ Refused b NotStored ∷ [] in
      λ _ _. came_ends b false h (onto new h) (closes_chunk s chunk (onto new h)) (new, refl, ((tt, (tt, (tt, tt))), ([], tt, IsRefused (Offered chunk b ∷ IoFailed ∷ []) NotStored refl))) (calm_shuts s chunk (onto new h))

  came_placed : (b : Batch) (chunk : ℕ) (h : History) (answer : Option (Unit {0})) → Yields (ComesTo b h) (finishes_create s b chunk (Offered chunk b ∷ h) answer)
  came_placed b chunk h (Some done) =
      let new : History = Offered chunk b ∷ Accepted b (NewChunk chunk) ∷ [] in
      λ _. came_ends b true h (onto new h) (closes_if_full s chunk (onto new h)) (new, refl, ((tt, (tt, tt)), ([], tt, IsAccepted (Offered chunk b ∷ []) (NewChunk chunk) refl))) (calm_fills s chunk (onto new h))
  came_placed b chunk h None =
      λ _ _. (Offered chunk b ∷ IoFailed ∷ Refused b NotStored ∷ [], refl, ((tt, (tt, (tt, tt))), ([], tt, IsRefused (Offered chunk b ∷ IoFailed ∷ []) NotStored refl)))

  came_refuses : (b : Batch) (why : Reason) (h : History) → Yields (ComesTo b h) (refuses b why h)
  came_refuses b why h = λ _. (Refused b why ∷ [], refl, ((tt, tt), ([], tt, IsRefused [] why refl)))

  came_stores : (b : Batch) (c : Option ChunkInfo) (h : History) → Yields (ComesTo b h) (stores s b c h)
  unfolding appends starts_chunk
  came_stores b (Some c) h =
      λ _. gives_behind (ComesTo b h) (on_disk (append_to_program (kept_of s h c.number) (encoded b.events) s.service.full)) (finishes_append s b c.number (Offered c.number b ∷ h)) (came_appended b c.number h)
  came_stores b None h =
      gives_if (ComesTo b h) (nat_lt (next h) numbers_end) (starts_chunk s b (next h) h) (refuses b NoNumber h)
      (λ _ _. gives_behind (ComesTo b h) (on_disk (begins_as (name_for s b.input (next h)) b.tag (home_at s b.input) (encoded b.events) (names_for s b.tag)))
      (finishes_create s b (next h) (Offered (next h) b ∷ h)) (came_placed b (next h) h)) (λ _. came_refuses b NoNumber h)

  came_accepts : (b : Batch) (h : History) → Yields (ComesTo b h) (accepts s b h)
  unfolding accepts
  came_accepts b h =
      let kept : Action Acceptance = cond (is_storable b.events) (stores s b (open_chunk h b.input b.tag) h) (refuses b TooLarge h) in
      let routed : Action Acceptance = cond (is_empty (outputs_for s b.tag)) (note_then (Accepted b NoChunk) h taken) kept in
      gives_if (ComesTo b h) (is_empty b.events) (taken h) routed (λ none. ([], refl, (tt, ([], tt, IsEmpty none refl))))
      (λ _. gives_if (ComesTo b h) (is_empty (outputs_for s b.tag)) (note_then (Accepted b NoChunk) h taken) kept
      (λ _ _. (Accepted b NoChunk ∷ [], refl, ((tt, tt), ([], tt, IsAccepted [] NoChunk refl))))
      (λ _. gives_if (ComesTo b h) (is_storable b.events) (stores s b (open_chunk h b.input b.tag) h) (refuses b TooLarge h)
      (λ _. came_stores b (open_chunk h b.input b.tag) h) (λ _. came_refuses b TooLarge h)))

  -- one batch
  pub came_takes : (conn : Option ℕ) (b : Batch) (h : History) → Yields (ComeInOrder conn (b ∷ []) h) (ingests s b h)
  unfolding ingests
  came_takes conn b h =
      gives_then (ComesTo b h) (ComeInOrder conn (b ∷ []) h) (accepts s b h) (λ (a : Acceptance). Return a.history) (came_accepts b h)
      (λ a (new, is, (calm, (rest, inner, became))). (new, is, (calm, (rest, became, inl tt))))

  -- ---- messages

  came_hangs_up : (conn : ℕ) (h : History) → Yields (Adds (λ new. AreCalm new × ConnectionDropped (Some conn) new) h) (hangs_up conn h)
  unfolding hangs_up
  came_hangs_up conn h = λ _ _. (Disconnected conn ∷ [], refl, ((tt, tt), refl))

  -- after a message of which something became, the same holds of the others, or the connection is dropped
  came_more : (conn : ℕ) (b : Batch) (bs : List Batch) (h at : History) (p : Action History) → Comes b h at → Yields (ComeInOrder (Some conn) bs at) p → Yields (ComeInOrder (Some conn) (b ∷ bs) h) p
  came_more conn b bs h at p came more =
      gives_so (ComeInOrder (Some conn) bs at) (ComeInOrder (Some conn) (b ∷ bs) h) p
      (λ now order.
      adds_both (ComesBy b) (λ new. AreCalm new × BatchOutcomes (Some conn) new bs) (λ new. AreCalm new × BatchOutcomes (Some conn) new (b ∷ bs)) h at now (comes_with conn b bs) came order) more

  came_dropped : (conn : ℕ) (b : Batch) (bs : List Batch) (h at : History) → Comes b h at → Yields (ComeInOrder (Some conn) (b ∷ bs) h) (hangs_up conn at)
  came_dropped conn b bs h at came =
      gives_so (Adds (λ new. AreCalm new × ConnectionDropped (Some conn) new) at) (ComeInOrder (Some conn) (b ∷ bs) h) (hangs_up conn at)
      (λ now hung.
      adds_both (ComesBy b) (λ new. AreCalm new × ConnectionDropped (Some conn) new) (λ new. AreCalm new × BatchOutcomes (Some conn) new (b ∷ bs)) h at now (comes_last conn b bs) came hung)
      (came_hangs_up conn at)

  module _ (conn : ℕ) (b : Batch) (bs : List Batch) (h at : History) (came : Comes b h at) (next : History → Action History) (more : (now : History) → Yields (ComeInOrder (Some conn) bs now) (next now)) where
    came_replied : (answer : Option (Unit {0})) → Yields (ComeInOrder (Some conn) (b ∷ bs) h) (after_reply conn next at answer)
    came_replied (Some done) = came_more conn b bs h at (next at) came (more at)
    came_replied None = came_dropped conn b bs h at came

    came_replies : (asked : Option (List ℕ)) → Yields (ComeInOrder (Some conn) (b ∷ bs) h) (replies conn asked next at)
    came_replies None = came_more conn b bs h at (next at) came (more at)
    came_replies (Some bytes) = came_replied

    came_answers : (asked : Option (List ℕ)) (took : Bool) → Yields (ComeInOrder (Some conn) (b ∷ bs) h) (acknowledges conn asked next (record { history = at; taken = took }))
    came_answers asked true = came_replies asked
    came_answers asked false = came_dropped conn b bs h at came

  came_reads : (input conn : ℕ) (breaks : Bool) (ms : List MessageContent) (h : History) → Yields (ComeInOrder (Some conn) (map (message_batch s input) ms) h) (accepts_messages s input conn breaks ms h)
  unfolding hangs_up
  came_reads input conn false [] h = ([], refl, (tt, tt))
  came_reads input conn true [] h = λ _ _ _. (Malformed input ∷ Disconnected conn ∷ [], refl, ((tt, (tt, tt)), tt))
  came_reads input conn breaks (m ∷ ms) h =
      let b : Batch = message_batch s input m in
      let bs : List Batch = map (message_batch s input) ms in
      gives_then (ComesTo b h) (ComeInOrder (Some conn) (b ∷ bs) h) (accepts s b h) (acknowledges conn (reply_of m) (accepts_messages s input conn breaks ms)) (came_accepts b h)
      (λ a came. came_answers conn b bs h a.history came (accepts_messages s input conn breaks ms) (came_reads input conn breaks ms) (reply_of m) a.taken)

  -- ---- reads

  came_hears : (before : History) (input conn : ℕ) (bytes : List ℕ) (at : Option Stream) (h : History) → IsOwn conn at
      → Yields (ComeInOrder (Some conn) (completed_over s before input bytes at) h) (accepts_stream s before input bytes at h)
  came_hears before input conn bytes None h own = ([], refl, (tt, tt))
  came_hears before input conn bytes (Some (LineStream other)) h own = came_takes (Some conn) (piece_batch s before input (LineStream other) bytes) h
  came_hears before input conn bytes (Some (MessageStream other)) h own =
      let said_before : List ℕ = said s before (MessageStream other) in
      let act : Action History = accepts_messages s input other (becomes_malformed said_before bytes) (completed_messages said_before bytes) h in
      subst (λ (n : ℕ). Yields (ComeInOrder (Some n) (map (message_batch s input) (completed_messages said_before bytes)) h) act) own
      (came_reads input other (becomes_malformed said_before bytes) (completed_messages said_before bytes) h)
  came_hears before input conn bytes (Some (Standard reader)) h own = came_takes (Some conn) (piece_batch s before input (Standard reader) bytes) h

  pub came_pieces : (before : History) (input conn : ℕ) (bytes : List ℕ) (h : History)
      → Yields (ComeInOrder (Some conn) (completed_over s before input bytes (stream_of s before input conn)) h) (pieces s before input conn bytes h)
  unfolding pieces
  came_pieces before input conn bytes h =
      came_hears before input conn bytes (stream_of s before input conn) h (own_stream s before input conn)
