-- The events of the batches that a fact completes are in range, and not nested too deep.
use Rattle.std.proofs.Common.{◌≡◌, inl, inr, ℕ, zero, suc, Bool, true, false, cond, List, [], ◌∷◌, ◌++◌, length, drop, Option, Some, None, subst, arith}
use Rattle.std.specs.Prelude.{Contains, unwrap_or}
use Rattle.fwd_msgpack.specs.Encodings.{AllBytes}
use Rattle.fwd_frames.specs.Lines.{last_line}
use Rattle.fwd_frames.specs.declared.line.Line.{Line}
use Rattle.fwd_filters.specs.FilterFunction.{matching}
use Rattle.fwd_in_tail.specs.Followed.{polled, completed}
use Rattle.fwd_wire.specs.Message.{MessageContent, nothing, batch}
use Rattle.fwd_wire.specs.Decode.{messages_in}
use Rattle.fwd_outside.specs.declared.happening.Happening.{Happening}
use Rattle.fwd_outside.specs.declared.happening.Happening.TheVariants as happening
use Rattle.fwd_settings.specs.declared.settings_types.AllSettings.{AllSettings}
use Rattle.fwd_settings.specs.declared.settings_types.InputSet.{InputSet}
use Rattle.fwd_settings.specs.Requirements.{MeetsRequirements}
use Rattle.fwd_model.specs.Fact.{Fact, History, Stream, LineStream, MessageStream, Standard, Batch, Happened, Polled}
use Rattle.fwd_model.specs.Settings.{input_at, own_tag, tag_at, reads_stdin_at}
use Rattle.fwd_model.specs.Clock.{clock}
use Rattle.fwd_model.specs.Streams.{stream_of, said}
use Rattle.fwd_model.specs.FollowedFiles.{file_at}
use Rattle.fwd_model.specs.Batches.{completed_lines, events_of, batch_of, end_batch}
use Rattle.fwd_model.specs.Messages.{completed_messages, message_batch}
use Rattle.fwd_theorem_depth.specs.Shallow.{are_shallow, events_of_content}
use Rattle.fwd_theorem_trace.proofs.Members.{either, from_map}
use Rattle.fwd_theorem_delivery.specs.BatchOutcomes.{completed_over, completed_by}
use Rattle.fwd_theorem_delivery.specs.Origins.{WasCompleted}
use Rattle.fwd_theorem_crash.proofs.WritableBatches.{lines_writable, messages_writable}
use Rattle.fwd_theorem_records.proofs.ReadPieces.{PiecesAreBytes}
use Rattle.fwd_theorem_depth.proofs.RecordRanges.{AllRanged}
use Rattle.fwd_theorem_depth.proofs.FilterRanges.{filtered_ranged}
use Rattle.fwd_theorem_depth.proofs.LineRanges.{parsed_ranged}
use Rattle.fwd_theorem_depth.proofs.MessageRanges.{bytes_both, EachRanged, messages_ranged}
use Rattle.fwd_theorem_records.proofs.ReadBytes.{before_all, said_bytes}

pub record IsFair (b : Batch) : Type 0 where
  pub shallow : are_shallow b.events ≡ true
  pub ranged : AllRanged b.events

-- ---- lines

lines_ranged : (input : Option InputSet) (now : ℕ) (read : List Line) → AllRanged (events_of input now read)
lines_ranged None now read = tt
lines_ranged (Some set) now [] = tt
lines_ranged (Some set) now (line ∷ read) = (parsed_ranged set.parser line.bytes now, lines_ranged (Some set) now read)

-- ---- messages

drop_ranged : (n : ℕ) (ms : List MessageContent) → EachRanged ms → EachRanged (drop n ms)
drop_ranged zero ms are = are
drop_ranged (suc n) [] are = tt
drop_ranged (suc n) (m ∷ ms) are = drop_ranged n ms are.1

one_ranged : (ms : List MessageContent) (m : MessageContent) → EachRanged ms → Contains ms m → AllRanged (events_of_content m)
one_ranged [] m are has = absurd (omega (arith, has.1))
one_ranged (first ∷ ms) m are has = elim (either first ms m has) [ inl same ↦ subst (λ (x : MessageContent). AllRanged (events_of_content x)) same are.0 | inr more ↦ one_ranged ms m are.1 more ]

batch_ranged : (s : AllSettings) (input : ℕ) (m : MessageContent) → AllRanged (events_of_content m) → AllRanged (message_batch s input m).events
batch_ranged s input nothing are = tt
batch_ranged s input (batch tag events chunk) are = filtered_ranged (matching (unwrap_or (own_tag s input) tag) s.filters) events are

single : (x b : Batch) → Contains (x ∷ []) b → x ≡ b
single x b has = elim (either x [] b has) [ inl same ↦ same | inr none ↦ absurd (omega (arith, none.1)) ]

module _ (s : AllSettings) (settings : MeetsRequirements s) where
  lines_fair : (h : History) (input : ℕ) (read : List Line) → IsFair (batch_of s h input read)
  lines_fair h input read = record {
    shallow = (lines_writable s settings h input read).shallow;
    ranged = filtered_ranged (matching (tag_at s input) s.filters) (events_of (input_at s input) (clock h) read) (lines_ranged (input_at s input) (clock h) read);
  }

  message_fair : (input : ℕ) (before bytes : List ℕ) (m : MessageContent) → AllBytes (before ++ bytes) → Contains (completed_messages before bytes) m → IsFair (message_batch s input m)
  message_fair input before bytes m all has =
      let are = drop_ranged (length (messages_in before).messages) (messages_in (before ++ bytes)).messages (messages_ranged (before ++ bytes) all) in
      record { shallow = (messages_writable s settings input before bytes m has).shallow; ranged = batch_ranged s input m (one_ranged (completed_messages before bytes) m are has) }

  -- ---- what a fact completes

  one_of_lines : (h : History) (input : ℕ) (read : List Line) (b : Batch) → Contains (batch_of s h input read ∷ []) b → IsFair b
  one_of_lines h input read b has = subst IsFair (single (batch_of s h input read) b has) (lines_fair h input read)

  over_fair : (before : History) (input : ℕ) (bytes : List ℕ) (over : Option Stream) (b : Batch) → PiecesAreBytes before → AllBytes bytes → Contains (completed_over s before input bytes over) b → IsFair b
  over_fair before input bytes None b are all has = absurd (omega (arith, has.1))
  over_fair before input bytes (Some (LineStream conn)) b are all has = one_of_lines before input (completed_lines (said s before (LineStream conn)) bytes) b has
  over_fair before input bytes (Some (Standard reader)) b are all has = one_of_lines before input (completed_lines (said s before (Standard reader)) bytes) b has
  over_fair before input bytes (Some (MessageStream conn)) b are all has =
      let old = said s before (MessageStream conn) in
      let made = from_map (message_batch s input) (completed_messages old bytes) b has in
      subst IsFair made.2 (message_fair input old bytes made.0 (bytes_both old bytes (said_bytes s before (MessageStream conn) are) all) made.1)

  end_fair : (before : History) (input : ℕ) (ends : Bool) (b : Batch) → Contains (cond ends (end_batch s before input (Standard input) ∷ []) []) b → IsFair b
  end_fair before input true b has = one_of_lines before input (last_line (said s before (Standard input))) b has
  end_fair before input false b has = absurd (omega (arith, has.1))

  event_fair : (before : History) (x : Happening) (b : Batch) → PiecesAreBytes (Happened x ∷ before) → Contains (completed_by s before (Happened x)) b → IsFair b
  event_fair before (happening.Piece input conn bytes) b are has = over_fair before input.0 bytes (stream_of s before input.0 conn.0) b are.1 are.0 has
  event_fair before (happening.InputEnd input) b are has = end_fair before input.0 (reads_stdin_at s input.0) b has
  event_fair before x b are has = absurd (omega (arith, has.1))

  fact_fair : (before : History) (fact : Fact) (b : Batch) → PiecesAreBytes (fact ∷ before) → Contains (completed_by s before fact) b → IsFair b
  fact_fair before (Happened x) b are has = event_fair before x b are has
  fact_fair before (Polled input index long bytes) b are has = one_of_lines before input (completed (file_at s before input index) (polled long bytes)) b has
  fact_fair before fact b are has = absurd (omega (arith, has.1))

  pub was_fair : (h : History) (b : Batch) → PiecesAreBytes h → WasCompleted s h b → IsFair b
  was_fair h b are was = fact_fair was.before was.fact b (before_all was.during (was.fact ∷ was.before) (subst PiecesAreBytes was.is are)) was.among
