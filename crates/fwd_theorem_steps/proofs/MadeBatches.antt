-- What the batches that a fact completes are made of.
use Rattle.std.proofs.Common.{◌≡◌, ⊎_elim, ℕ, Bool, true, false, cond, List, [], ◌∷◌, map, Option, Some, None, refl, sym, ◌∙◌, ap, subst, arith}
use Rattle.std.specs.Prelude.{Contains, unwrap_or}
use Rattle.std.specs.Option.{option_map_or, option_and_then}
use Rattle.fwd_base.specs.declared.ids.ConnId.{ConnId}
use Rattle.fwd_base.specs.declared.ids.InputId.{InputId}
use Rattle.fwd_event.specs.declared.event.Event.{Event}
use Rattle.fwd_filters.specs.FilterFunction.{filtered}
use Rattle.fwd_frames.specs.Lines.{last_line}
use Rattle.fwd_frames.specs.declared.line.Line.{Line}
use Rattle.fwd_in_tail.specs.Followed.{completed, polled}
use Rattle.fwd_value.specs.Val.{Val}
use Rattle.fwd_wire.specs.Message.{MessageContent, nothing, batch}
use Rattle.fwd_outside.specs.declared.happening.Happening.{Happening}
use Rattle.fwd_outside.specs.declared.happening.Happening.TheVariants as happening
use Rattle.fwd_settings.specs.declared.settings_types.AllSettings.{AllSettings}
use Rattle.fwd_settings.specs.declared.settings_types.InputSet.{InputSet}
use Rattle.fwd_model.specs.Fact.{Fact, History, Stream, LineStream, MessageStream, Standard, Batch, Happened, Polled}
use Rattle.fwd_model.specs.Settings.{input_at, own_tag, tag_at, reads_standard, reads_stdin_at}
use Rattle.fwd_model.specs.Clock.{clock}
use Rattle.fwd_model.specs.Streams.{is_joined, stream_at, stream_of, said}
use Rattle.fwd_model.specs.FollowedFiles.{file_at}
use Rattle.fwd_model.specs.Batches.{completed_lines, events_of, batch_of, piece_batch, end_batch, poll_batch}
use Rattle.fwd_model.specs.Messages.{completed_messages, message_batch}
use Rattle.fwd_theorem_trace.proofs.Members.{either, from_map}
use Rattle.fwd_theorem_trace.proofs.Streams.{IsOwn, own_stream}
use Rattle.fwd_theorem_delivery.specs.BatchOutcomes.{completed_over, completed_by}
use Rattle.fwd_theorem_steps.specs.Batches.{IsOfLines, IsOfMessage, IsMade, OfPiece, OfMessage, OfEmptyMessage, OfLastLine, OfPoll}

single : {X : Type 0} (x y : X) → Contains (x ∷ []) y → x ≡ y
single x y has = ⊎_elim (λ (same : x ≡ y). same) (λ (none : Contains [] y). absurd (omega (arith, none.1))) (either x [] y has)

module _ (s : AllSettings) (input : ℕ) (set : InputSet) (at : input_at s input ≡ Some set) where
  tag_is : own_tag s input ≡ set.tag
  tag_is = ap (option_and_then (λ (one : InputSet). one.tag)) at

  own_is : (own : List ℕ) → set.tag ≡ Some own → own_tag s input ≡ Some own
  own_is own is = tag_is ∙ is

  of_lines : (h : History) (read : List Line) (b : Batch) → batch_of s h input read ≡ b → IsOfLines s input set (clock h) read b
  of_lines h read b same = subst (IsOfLines s input set (clock h) read) same (record {
    from = refl;
    tag = λ own is. ap (λ (o : Option (List ℕ)). unwrap_or o []) (own_is own is);
    events = ap (λ (o : Option InputSet). filtered s.filters (tag_at s input) (events_of o (clock h) read)) at;
  })

  of_message : (tag : List ℕ) (events : List Event) (chunk : Option Val) (b : Batch) → message_batch s input (batch tag events chunk) ≡ b → IsOfMessage s input set tag events b
  of_message tag events chunk b same = subst (IsOfMessage s input set tag events) same (record {
    from = refl;
    own_tag = λ own is. ap (λ (o : Option (List ℕ)). unwrap_or o tag) (own_is own is);
    its_tag = λ none. ap (λ (o : Option (List ℕ)). unwrap_or o tag) (tag_is ∙ none);
    events = refl;
  })

-- an input that is read is there
read_is_there : (s : AllSettings) (h : History) (input conn : ℕ) (stream : Stream) → stream_of s h input conn ≡ Some stream → (set : InputSet) × (input_at s input ≡ Some set)
read_is_there s h input conn stream is = by (input_at s input) refl is
  where
    by : (o : Option InputSet) → input_at s input ≡ o → stream_at input conn (is_joined s h input conn) o ≡ Some stream → (set : InputSet) × (input_at s input ≡ Some set)
    by None at is = absurd (cc is)
    by (Some set) at is = (set, at)

standard_is_there : (s : AllSettings) (input : ℕ) → reads_stdin_at s input ≡ true → (set : InputSet) × (input_at s input ≡ Some set)
standard_is_there s input is = by (input_at s input) refl is
  where
    by : (o : Option InputSet) → input_at s input ≡ o → option_map_or (λ (set : InputSet). reads_standard set.kind) o false ≡ true → (set : InputSet) × (input_at s input ≡ Some set)
    by None at is = absurd (cc is)
    by (Some set) at is = (set, at)

module _ (s : AllSettings) (before : History) (b : Batch) where
  message_made : (input : InputId) (conn : ConnId) (bytes : List ℕ) (set : InputSet) → input_at s input.0 ≡ Some set → (m : MessageContent)
      → Contains (completed_messages (said s before (MessageStream conn.0)) bytes) m → message_batch s input.0 m ≡ b → IsMade s before (Happened (happening.Piece input conn bytes)) b
  message_made input conn bytes set at nothing has same = OfEmptyMessage input conn bytes refl has (ap (λ (x : Batch). x.events) (sym same))
  message_made input conn bytes set at (batch tag events chunk) has same = OfMessage input conn bytes set tag events chunk refl at has (of_message s input.0 set at tag events chunk b same)

  piece_made : (input : InputId) (conn : ConnId) (bytes : List ℕ) (over : Option Stream) → stream_of s before input.0 conn.0 ≡ over → Contains (completed_over s before input.0 bytes over) b → IsMade s before (Happened (happening.Piece input conn bytes)) b
  piece_made input conn bytes None is has = absurd (omega (arith, has.1))
  piece_made input conn bytes (Some (LineStream other)) is has =
      let there = read_is_there s before input.0 conn.0 (LineStream other) is in
      OfPiece input conn bytes there.0 (LineStream other) refl there.1 is (of_lines s input.0 there.0 there.1 before (completed_lines (said s before (LineStream other)) bytes) b (single (piece_batch s before input.0 (LineStream other) bytes) b has))
  piece_made input conn bytes (Some (Standard other)) is has =
      let there = read_is_there s before input.0 conn.0 (Standard other) is in
      OfPiece input conn bytes there.0 (Standard other) refl there.1 is (of_lines s input.0 there.0 there.1 before (completed_lines (said s before (Standard other)) bytes) b (single (piece_batch s before input.0 (Standard other) bytes) b has))
  piece_made input conn bytes (Some (MessageStream other)) is has =
      let there = read_is_there s before input.0 conn.0 (MessageStream other) is in
      let made = from_map (message_batch s input.0) (completed_messages (said s before (MessageStream other)) bytes) b has in
      let own : other ≡ conn.0 = subst (IsOwn conn.0) is (own_stream s before input.0 conn.0) in
      message_made input conn bytes there.0 there.1 made.0 (subst (λ (k : ℕ). Contains (completed_messages (said s before (MessageStream k)) bytes) made.0) own made.1) made.2

  end_made : (input : InputId) (ends : Bool) → reads_stdin_at s input.0 ≡ ends → Contains (cond ends (end_batch s before input.0 (Standard input.0) ∷ []) []) b → IsMade s before (Happened (happening.InputEnd input)) b
  end_made input false is has = absurd (omega (arith, has.1))
  end_made input true is has =
      let there = standard_is_there s input.0 is in
      OfLastLine input there.0 refl there.1 (of_lines s input.0 there.0 there.1 before (last_line (said s before (Standard input.0))) b (single (end_batch s before input.0 (Standard input.0)) b has))

  event_made : (x : Happening) → Contains (completed_by s before (Happened x)) b → IsMade s before (Happened x) b
  event_made (happening.Piece input conn bytes) has = piece_made input conn bytes (stream_of s before input.0 conn.0) refl has
  event_made (happening.InputEnd input) has = end_made input (reads_stdin_at s input.0) refl has
  event_made x has = absurd (omega (arith, has.1))

  pub batch_made : (fact : Fact) → Contains (completed_by s before fact) b → IsMade s before fact b
  batch_made (Happened x) has = event_made x has
  batch_made (Polled input index long bytes) has =
      OfPoll input index long bytes refl
      (λ set at. of_lines s input set at before (completed (file_at s before input index) (polled long bytes)) b (single (poll_batch s before input index (polled long bytes)) b has))
  batch_made fact has = absurd (omega (arith, has.1))
