-- What was read from a stream are bytes, if all that came over connections are.
use Rattle.std.proofs.Common.{ℕ, ◌&&◌, Bool, true, false, List, [], ◌∷◌, ◌++◌}
use Rattle.fwd_msgpack.specs.Encodings.{AllBytes}
use Rattle.fwd_outside.specs.declared.happening.Happening.{Happening}
use Rattle.fwd_outside.specs.declared.happening.Happening.TheVariants as happening
use Rattle.fwd_settings.specs.declared.settings_types.AllSettings.{AllSettings}
use Rattle.fwd_model.specs.Fact.{Fact, History, Stream, Standard, Happened, Disconnected}
use Rattle.fwd_model.specs.Streams.{is_joined, stream_of, same_stream, is_stream, is_of_conn, said_more, emptied_if, said}
use Rattle.fwd_theorem_records.proofs.ReadPieces.{PiecesAreBytes}
use Rattle.fwd_theorem_depth.proofs.MessageRanges.{bytes_both}

before_event : (x : Happening) (h : History) → PiecesAreBytes (Happened x ∷ h) → PiecesAreBytes h
before_event (happening.Piece input conn bytes) h are = are.1
before_event x h are = are

pub before_fact : (fact : Fact) (h : History) → PiecesAreBytes (fact ∷ h) → PiecesAreBytes h
before_fact (Happened x) h are = before_event x h are
before_fact fact h are = are

pub before_all : (during h : History) → PiecesAreBytes (during ++ h) → PiecesAreBytes h
before_all [] h are = are
before_all (fact ∷ during) h are = before_all during h (before_fact fact (during ++ h) are)

more_bytes : (b : Bool) (bytes before : List ℕ) → AllBytes bytes → AllBytes before → AllBytes (said_more b bytes before)
more_bytes true bytes before new old = bytes_both before bytes old new
more_bytes false bytes before new old = old

emptied_bytes : (b : Bool) (before : List ℕ) → AllBytes before → AllBytes (emptied_if b before)
emptied_bytes true before old = tt
emptied_bytes false before old = old

module _ (s : AllSettings) where
  event_bytes : (x : Happening) (h : History) (stream : Stream) → PiecesAreBytes (Happened x ∷ h) → (PiecesAreBytes h → AllBytes (said s h stream)) → AllBytes (said s (Happened x ∷ h) stream)
  event_bytes (happening.Piece input conn bytes) h stream are more = more_bytes (is_stream stream (stream_of s h input.0 conn.0)) bytes (said s h stream) are.0 (more are.1)
  event_bytes (happening.Gone input conn) h stream are more = emptied_bytes (is_joined s h input.0 conn.0 && is_of_conn conn.0 stream) (said s h stream) (more are)
  event_bytes (happening.InputEnd input) h stream are more = emptied_bytes (same_stream (Standard input.0) stream) (said s h stream) (more are)
  event_bytes x h stream are more = more are

  fact_bytes : (fact : Fact) (h : History) (stream : Stream) → PiecesAreBytes (fact ∷ h) → (PiecesAreBytes h → AllBytes (said s h stream)) → AllBytes (said s (fact ∷ h) stream)
  fact_bytes (Happened x) h stream are more = event_bytes x h stream are more
  fact_bytes (Disconnected conn) h stream are more = emptied_bytes (is_of_conn conn stream) (said s h stream) (more are)
  fact_bytes fact h stream are more = more are

  pub said_bytes : (h : History) (stream : Stream) → PiecesAreBytes h → AllBytes (said s h stream)
  said_bytes [] stream are = tt
  said_bytes (fact ∷ h) stream are = fact_bytes fact h stream are (λ before. said_bytes h stream before)
