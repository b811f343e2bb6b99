-- How one more fact changes connections and streams.
use Rattle.std.proofs.Common.{◌≡◌, inl, inr, ℕ, Bool, true, false, List, [], ◌∷◌, Option, None, refl, sym, ap, subst, ◌∙◌}
use Rattle.std.specs.Prelude.{◌==◌, if◌then◌else◌}
use Rattle.std.proofs.lemmas.Bool.{cases_Bool, cases_eq, ne_eqb, eq-eqb, eqb-true}
use Rattle.fwd_base.specs.declared.ids.ConnId.{ConnId}
use Rattle.fwd_base.specs.declared.ids.InputId.{InputId}
use Rattle.fwd_outside.specs.declared.happening.Happening.{Happening}
use Rattle.fwd_outside.specs.declared.happening.Happening.TheVariants as happening
use Rattle.fwd_settings.specs.declared.settings_types.AllSettings.{AllSettings}
use Rattle.fwd_model.specs.Fact.{Fact, History, Stream, LineStream, MessageStream, Standard, Happened, Disconnected}
use Rattle.fwd_model.specs.Streams.{input_of, is_input, is_joined, stream_of, said, said_more, is_stream, left_by, emptied_if}
use Rattle.fwd_frames.specs.Lines.{Kept, kept}
use Rattle.fwd_wire.specs.Stream.{Ending, waiting}
use Rattle.fwd_engine_inputs.specs.declared.input_streams.InputStreams.{InputStreams}
use Rattle.fwd_engine_inputs.specs.ReaderStates.{ending}
use Rattle.fwd_engine_inputs.specs.StreamsRepresent.{StreamsRepresent}
use Rattle.fwd_engine_inputs.specs.StreamFacts.{is_stream_event, is_stream_fact}
use Rattle.fwd_engine_inputs.proofs.StreamMessages.{nothing_waits}

-- ---- facts about other parts

-- connections and streams are as before
record IsSame (s : AllSettings) (h g : History) : Type 0 where
  inputs : (conn : ℕ) → input_of s g conn ≡ input_of s h conn
  said : (stream : Stream) → said s g stream ≡ said s h stream

same_stays : (s : AllSettings) (input_streams : InputStreams) (h g : History) → IsSame s h g → StreamsRepresent s input_streams h → StreamsRepresent s input_streams g
same_stays s input_streams h g same k = record {
  inputs = λ conn. k.inputs conn ∙ sym (same.inputs conn);
  peers = λ conn. k.peers conn ∙ sym (ap kept (same.said (LineStream conn)));
  standard = λ input. k.standard input ∙ sym (ap kept (same.said (Standard input)));
  wires = λ conn. k.wires conn ∙ sym (ap ending (same.said (MessageStream conn)));
}

brought_same : (s : AllSettings) (h : History) (brought : Happening) → is_stream_event brought ≡ false → IsSame s h (Happened brought ∷ h)
brought_same s h (happening.Tick now) e = record { inputs = λ c. refl; said = λ x. refl }
brought_same s h (happening.Joined input conn) e = absurd cc
brought_same s h (happening.Piece input conn bytes) e = absurd cc
brought_same s h (happening.Gone input conn) e = absurd cc
brought_same s h (happening.Room link) e = record { inputs = λ c. refl; said = λ x. refl }
brought_same s h (happening.Back link bytes) e = record { inputs = λ c. refl; said = λ x. refl }
brought_same s h (happening.Broken link) e = record { inputs = λ c. refl; said = λ x. refl }
brought_same s h (happening.InputEnd input) e = absurd cc
brought_same s h happening.Stop e = record { inputs = λ c. refl; said = λ x. refl }
brought_same s h happening.End e = record { inputs = λ c. refl; said = λ x. refl }
brought_same s h happening.Failed e = record { inputs = λ c. refl; said = λ x. refl }

is_same : (s : AllSettings) (h : History) (fact : Fact) → is_stream_fact fact ≡ false → IsSame s h (fact ∷ h)
is_same s h (Happened brought) e = brought_same s h brought e
is_same s h (Disconnected conn) e = absurd cc
is_same s h _ e = record { inputs = λ c. refl; said = λ x. refl }

pub streams_after_other_fact : (s : AllSettings) (input_streams : InputStreams) (h : History) (fact : Fact) → is_stream_fact fact ≡ false → StreamsRepresent s input_streams h → StreamsRepresent s input_streams (fact ∷ h)
streams_after_other_fact s input_streams h fact e k = same_stays s input_streams h (fact ∷ h) (is_same s h fact e) k

-- ---- bytes

unheard_said : (s : AllSettings) (h : History) (heard : Option Stream) (bytes : List ℕ) → heard ≡ None → (stream : Stream) → said_more (is_stream stream heard) bytes (said s h stream) ≡ said s h stream
unheard_said s h heard bytes e stream = ap (λ (x : Option Stream). said_more (is_stream stream x) bytes (said s h stream)) e

pub streams_after_unread_bytes : (s : AllSettings) (input_streams : InputStreams) (h : History) (input : InputId) (conn : ConnId) (bytes : List ℕ)
    → stream_of s h input.0 conn.0 ≡ None → StreamsRepresent s input_streams h → StreamsRepresent s input_streams (Happened (happening.Piece input conn bytes) ∷ h)
streams_after_unread_bytes s input_streams h input conn bytes e k =
    same_stays s input_streams h (Happened (happening.Piece input conn bytes) ∷ h) (record { inputs = λ c. refl; said = unheard_said s h (stream_of s h input.0 conn.0) bytes e }) k

-- ---- a connection that is dropped or left

swapped : (a b : ℕ) → (a == b) ≡ (b == a)
swapped a b = elim (cases_eq a b) [
  | inl same ↦ eq-eqb a b same ∙ sym (eq-eqb b a (sym same))
  | inr differs ↦ ne_eqb a b differs ∙ sym (ne_eqb b a (λ e. differs (sym e)))
]

left_lines : (b : Bool) (now : Kept) (stream : List ℕ) → now ≡ kept stream → (if b then kept [] else now) ≡ kept (emptied_if b stream)
left_lines true now stream is = refl
left_lines false now stream is = is

left_messages : (b : Bool) (now : Ending) (stream : List ℕ) → now ≡ ending stream → (if b then waiting [] else now) ≡ ending (emptied_if b stream)
left_messages true now stream is = sym nothing_waits
left_messages false now stream is = is

pub left_peer : (conn n : ℕ) (now : Kept) (stream : List ℕ) → now ≡ kept stream → (if conn == n then kept [] else now) ≡ kept (emptied_if (n == conn) stream)
left_peer conn n now stream is = rw (swapped conn n) (left_lines (n == conn) now stream is)

pub left_wire : (conn n : ℕ) (now : Ending) (stream : List ℕ) → now ≡ ending stream → (if conn == n then waiting [] else now) ≡ ending (emptied_if (n == conn) stream)
left_wire conn n now stream is = rw (swapped conn n) (left_messages (n == conn) now stream is)

gone_input : (s : AllSettings) (h : History) (input conn c : ℕ) → is_joined s h input conn ≡ true → left_by (conn == c) input (input_of s h c) ≡ (if conn == c then None else input_of s h c)
gone_input s h input conn c joined = elim (cases_Bool (conn == c)) [
  | inl is ↦
      let here : is_input input (input_of s h c) ≡ true = subst (λ (n : ℕ). is_input input (input_of s h n) ≡ true) (eqb-true conn c is) joined in
      rw (is, here) refl
  | inr isnt ↦ rw isnt refl
]

-- a peer that leaves its input is removed
pub gone : (s : AllSettings) (input_streams : InputStreams) (h : History) (input : InputId) (conn : ConnId)
    → is_joined s h input.0 conn.0 ≡ true → StreamsRepresent s input_streams (Disconnected conn.0 ∷ h) → StreamsRepresent s input_streams (Happened (happening.Gone input conn) ∷ h)
gone s input_streams h input conn joined k =
    same_stays s input_streams (Disconnected conn.0 ∷ h) (Happened (happening.Gone input conn) ∷ h) (record { inputs = λ c. gone_input s h input.0 conn.0 c joined; said = λ stream. rw joined refl }) k

stays_input : (s : AllSettings) (h : History) (input conn c : ℕ) → is_joined s h input conn ≡ false → left_by (conn == c) input (input_of s h c) ≡ input_of s h c
stays_input s h input conn c joined = elim (cases_Bool (conn == c)) [
  | inl is ↦
      let here : is_input input (input_of s h c) ≡ false = subst (λ (n : ℕ). is_input input (input_of s h n) ≡ false) (eqb-true conn c is) joined in
      rw (is, here) refl
  | inr isnt ↦ rw isnt refl
]

-- a peer that leaves an input that it hasn't joined changes nothing
pub none_gone : (s : AllSettings) (input_streams : InputStreams) (h : History) (input : InputId) (conn : ConnId)
    → is_joined s h input.0 conn.0 ≡ false → StreamsRepresent s input_streams h → StreamsRepresent s input_streams (Happened (happening.Gone input conn) ∷ h)
none_gone s input_streams h input conn joined k =
    same_stays s input_streams h (Happened (happening.Gone input conn) ∷ h) (record { inputs = λ c. stays_input s h input.0 conn.0 c joined; said = λ stream. rw joined refl }) k
