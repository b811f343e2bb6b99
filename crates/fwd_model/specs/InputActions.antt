-- Actions on input: reads of lines and messages, and polls of followed files.
use Rattle.std.specs.Prelude.{ℕ, ◌+◌, Bool, true, false, if◌then◌else◌, List, [], ◌∷◌, length, Option, Some, None}
use Rattle.std.specs.List.{range_with_len}
use Rattle.fwd_outside.specs.Program.{Return, Ask, bind}
use Rattle.fwd_outside.specs.Loop.{Reply, DropConn}
use Rattle.fwd_in_tail.specs.Followed.{Polled as Poll, polls}
use Rattle.fwd_wire.specs.Message.{MessageContent}
use Rattle.fwd_settings.specs.declared.settings_types.AllSettings.{AllSettings}
use Rattle.fwd_model.specs.Fact.{History, Stream, LineStream, MessageStream, Standard, Polled, Disconnected, Malformed, IoFailed}
use Rattle.fwd_model.specs.Trace.{Action, OnLoop}
use Rattle.fwd_model.specs.DeviceActions.{on_files}
use Rattle.fwd_model.specs.Settings.{paths_at, from_head_at}
use Rattle.fwd_model.specs.Streams.{stream_of, said}
use Rattle.fwd_model.specs.FollowedFiles.{file_at}
use Rattle.fwd_model.specs.Batches.{piece_batch, poll_batch}
use Rattle.fwd_model.specs.Messages.{completed_messages, becomes_malformed, message_batch, reply_of}
use Rattle.fwd_model.specs.Limits.{is_paused}
use Rattle.fwd_model.specs.Notes.{note_then, note}
use Rattle.fwd_model.specs.Acceptance.{Acceptance, accepts, ingests}

-- drop a connection
unfoldable pub hangs_up : ℕ → History → Action History
hangs_up conn h = Ask (OnLoop (DropConn conn)) (λ _. note (Disconnected conn) h)

-- what follows a reply: if it failed, the connection is dropped
abbrev pub after_reply : ℕ → (History → Action History) → History → Option (Unit {0}) → Action History
after_reply conn next h (Some done) = next h
after_reply conn next h None = hangs_up conn h

abbrev pub replies : ℕ → Option (List ℕ) → (History → Action History) → History → Action History
replies conn None next h = next h
replies conn (Some bytes) next h = Ask (OnLoop (Reply conn bytes)) (after_reply conn next h)

-- acknowledge an accepted message, if it asks for that; drop the connection of a refused one
abbrev pub acknowledges : ℕ → Option (List ℕ) → (History → Action History) → Acceptance → Action History
acknowledges conn asked next a =
    if a.taken then replies conn asked next a.history else hangs_up conn a.history

-- Accept the messages of a read one by one. If the bytes after them can't be a message, count that and drop
-- the connection.
abbrev pub accepts_messages : AllSettings → ℕ → ℕ → Bool → List MessageContent → History → Action History
accepts_messages s input conn false [] h = Return h
accepts_messages s input conn true [] h = note_then (Malformed input) h (hangs_up conn)
accepts_messages s input conn breaks (m ∷ ms) h =
    bind (accepts s (message_batch s input m) h)
    (acknowledges conn (reply_of m) (accepts_messages s input conn breaks ms))

-- Accept what a read completes: its lines as one batch, or each message as a batch. The bytes before it are
-- those of the earlier history.
abbrev pub accepts_stream : AllSettings → History → ℕ → List ℕ → Option Stream → History → Action History
accepts_stream s before input bytes None h = Return h
accepts_stream s before input bytes (Some (LineStream conn)) h =
    ingests s (piece_batch s before input (LineStream conn) bytes) h
accepts_stream s before input bytes (Some (MessageStream conn)) h =
    let said_before = said s before (MessageStream conn) in
    accepts_messages s input conn (becomes_malformed said_before bytes)
    (completed_messages said_before bytes) h
accepts_stream s before input bytes (Some (Standard reader)) h =
    ingests s (piece_batch s before input (Standard reader) bytes) h

unfoldable pub pieces : AllSettings → History → ℕ → ℕ → List ℕ → History → Action History
pieces s before input conn bytes h = accepts_stream s before input bytes (stream_of s before input conn) h

-- what follows a poll: the lines that it completes are a batch
abbrev pub polled : AllSettings → ℕ → ℕ → History → Option Poll → Action History
polled s input index h None = note IoFailed h
polled s input index h (Some poll) =
    note_then (Polled input index poll.long poll.bytes) h (ingests s (poll_batch s h input index poll))

-- Poll a followed file. For a file that doesn't exist the call fails, and each poll of it counts as a fault.
unfoldable pub polls_file : AllSettings → ℕ → ℕ → List ℕ → History → Action History
polls_file s input index path h =
    bind (on_files (polls path (from_head_at s input) (file_at s h input index).place))
    (polled s input index h)

-- poll the files of an input in the order of its paths, from this index on
abbrev pub polls_files : AllSettings → ℕ → ℕ → List (List ℕ) → History → Action History
polls_files s input index [] h = Return h
polls_files s input index (path ∷ paths) h =
    bind (polls_file s input index path h) (polls_files s input (index + 1) paths)

-- poll the files of an input, unless the input is paused
unfoldable pub polls_input : AllSettings → ℕ → History → Action History
polls_input s input h = if is_paused s h input then Return h else polls_files s input 0 (paths_at s input) h

abbrev pub polls_inputs : AllSettings → List ℕ → History → Action History
polls_inputs s [] h = Return h
polls_inputs s (input ∷ inputs) h = bind (polls_input s input h) (polls_inputs s inputs)

-- poll the files of all inputs, in the order of the inputs
unfoldable pub polls_all : AllSettings → History → Action History
polls_all s h = polls_inputs s (range_with_len 0 (length s.inputs)) h
