-- What a read completes follows what was complete before.
use Rattle.std.proofs.Common.{◌≡◌, ℕ, Bool, true, false, if◌then◌else◌, List, [], ◌∷◌, ◌++◌, length, drop, refl, sym, ◌∙◌, ap}
use Rattle.std.specs.Prelude.{◌==◌}
use Rattle.std.specs.List.{flat_map}
use Rattle.std.proofs.lemmas.List.{append-nil}
use Rattle.std.proofs.lemmas.List.Concat.{flat_map-append}
use Rattle.fwd_frames.specs.Lines.{prepend_to_first, ended_parts, line_of, unless_empty, lines}
use Rattle.fwd_frames.specs.declared.line.Line.{Line}
use Rattle.fwd_frames.proofs.StreamSplit.{behind-append}
use Rattle.fwd_wire.specs.Message.{MessageContent}
use Rattle.fwd_wire.specs.Stream.{Ending, waiting, broken, Streams}
use Rattle.fwd_wire.specs.Decode.{Stream, messages_in}
use Rattle.fwd_wire.proofs.Computed.{streams_exactly}
use Rattle.fwd_in_forward.proofs.StreamGrowth.{joined, stays_broken}
use Rattle.fwd_model.specs.Batches.{completed_lines}
use Rattle.fwd_model.specs.Messages.{completed_messages}

-- a list that another one continues, and what comes after it
continued : {X : Type 0} (xs all : List X) → (more : List X) × (all ≡ xs ++ more) → xs ++ drop (length xs) all ≡ all
continued {X = X} xs all first = ap (λ (l : List X). xs ++ l) (sym (behind-append xs first.0 all (sym first.1))) ∙ sym first.1

-- the parts of a stream are the first ones of a longer stream
parts_first : (s u : List ℕ) → (more : List (List ℕ)) × (ended_parts (s ++ u) ≡ ended_parts s ++ more)
parts_first [] u = (ended_parts u, refl)
parts_first (b ∷ s) u = by (b == 10) (ended_parts s) (parts_first s u)
  where
    by : (feed : Bool) (parts : List (List ℕ)) → (more : List (List ℕ)) × (ended_parts (s ++ u) ≡ parts ++ more)
        → (more : List (List ℕ)) × ((if feed then [] ∷ ended_parts (s ++ u) else prepend_to_first b (ended_parts (s ++ u))) ≡ (if feed then [] ∷ parts else prepend_to_first b parts) ++ more)
    by true parts first = (first.0, ap (λ (l : List (List ℕ)). [] ∷ l) first.1)
    by false [] first = (prepend_to_first b (ended_parts (s ++ u)), refl)
    by false (p ∷ ps) first = (first.0, ap (prepend_to_first b) first.1)

lines_first : (s u : List ℕ) → (more : List Line) × (lines (s ++ u) ≡ lines s ++ more)
lines_first s u =
    let first = parts_first s u in
    let f : List ℕ → List Line = λ part. unless_empty (line_of part) in
    (flat_map f first.0, ap (flat_map f) first.1 ∙ flat_map-append f (ended_parts s) first.0)

pub no_line_is_lost : (before piece : List ℕ) → lines before ++ completed_lines before piece ≡ lines (before ++ piece)
no_line_is_lost before piece = continued (lines before) (lines (before ++ piece)) (lines_first before piece)

-- ---- messages

is_read : (b : List ℕ) → Streams (messages_in b).messages (messages_in b).ending b
is_read b = (streams_exactly (messages_in b).messages (messages_in b).ending b).1 refl

messages_first : (before piece : List ℕ) → (more : List MessageContent) × ((messages_in (before ++ piece)).messages ≡ (messages_in before).messages ++ more)
messages_first before piece = by (messages_in before).ending (is_read before)
  where
    ms : List MessageContent
    ms = (messages_in before).messages

    by : (e : Ending) → Streams ms e before → (more : List MessageContent) × ((messages_in (before ++ piece)).messages ≡ ms ++ more)
    by (waiting rest) is =
        let after = messages_in (rest ++ piece) in
        let both = joined ms after.messages after.ending rest before piece is (is_read (rest ++ piece)) in
        (after.messages, ap (λ (x : Stream). x.messages) ((streams_exactly (ms ++ after.messages) after.ending (before ++ piece)).0 both))
    by (broken fault) is =
        let still = stays_broken ms fault before piece is in
        ([], ap (λ (x : Stream). x.messages) ((streams_exactly ms (broken fault) (before ++ piece)).0 still) ∙ sym (append-nil ms))

pub no_message_is_lost : (before piece : List ℕ) → (messages_in before).messages ++ completed_messages before piece ≡ (messages_in (before ++ piece)).messages
no_message_is_lost before piece = continued (messages_in before).messages (messages_in (before ++ piece)).messages (messages_first before piece)
