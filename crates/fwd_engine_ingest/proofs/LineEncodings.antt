-- Lines whose events are encoded one after another.
use Rattle.std.proofs.Common.{◌≡◌, ℕ, ◌+◌, ◌≤◌, ◌<◌, Bool, true, false, inl, inr, List, [], ◌∷◌, ◌++◌, length, Option, Some, None, refl, sym, ap, subst, ◌∙◌, arith, leb-false, leb-true}
use Rattle.std.specs.Prelude.{nat_le, All}
use Rattle.std.proofs.lemmas.Bool.{cases_Bool, le-leb, lt-leb}
use Rattle.std.proofs.lemmas.List.{append-nil, length-append}
use Rattle.std.proofs.lemmas.List.Concat.{flat_map-append}
use Rattle.std.proofs.lemmas.List.Elements.{All-head}
use Rattle.fwd_base.specs.Limits.{largest_batch}
use Rattle.fwd_event.specs.declared.event.Event.{Event}
use Rattle.fwd_event.specs.Event.{AreEvents, EventFits, event_val}
use Rattle.fwd_event.proofs.EventEncodings.{written_is}
use Rattle.fwd_event.proofs.EventLists.{are_more}
use Rattle.fwd_parser.specs.LineEvent.{parsed}
use Rattle.fwd_parser.specs.declared.parser.Parser.{Parser}
use Rattle.fwd_theorem_depth.specs.Shallow.{are_shallow}
use Rattle.fwd_theorem_depth.proofs.Shallow.{all_pass}
use Rattle.fwd_theorem_depth.proofs.LineDepth.{parsed_shallow}
use Rattle.fwd_theorem_depth.proofs.LineRanges.{parsed_ranged}
use Rattle.fwd_model.specs.Chunks.{is_storable, encoded}
use Rattle.fwd_engine_chunks.specs.BatchOutcome.{IsEncodingOf}
use Rattle.fwd_engine_chunks.proofs.EncodingLemmas.{encoding_of_event, storable_of, unstorable_of}

encoded_one : (events : List Event) (e : Event) → encoded (events ++ e ∷ []) ≡ encoded events ++ encoding_of_event e
encoded_one events e = flat_map-append encoding_of_event events (e ∷ []) ∙ ap (λ (l : List ℕ). encoded events ++ l) (append-nil (encoding_of_event e))

-- no bytes, since those of the events would be too many
none_if_long : (events : List Event) → largest_batch < length (encoded events) → IsEncodingOf events None
none_if_long events long =
    let large : is_storable events ≡ false = lt-leb _ _ long in
    record { encoding = rw large refl; are = tt }

pub none_after_none : (events : List Event) (e : Event) → IsEncodingOf events None → IsEncodingOf (events ++ e ∷ []) None
none_after_none events e none =
    let large = leb-false _ _ (unstorable_of events none.encoding) in
    none_if_long (events ++ e ∷ []) (omega (arith, large, ap length (encoded_one events e), length-append (encoded events) (encoding_of_event e)))

-- one event more, and its encoding after the others
all_encoded : (events : List Event) (e : Event) (bytes new : List ℕ) → IsEncodingOf events (Some bytes) → new ≡ bytes ++ encoding_of_event e → encoded (events ++ e ∷ []) ≡ new
all_encoded events e bytes new holds more =
    encoded_one events e ∙ ap (λ (l : List ℕ). l ++ encoding_of_event e) (sym (storable_of events bytes holds.encoding).1) ∙ sym more

pub none_if_full : (events : List Event) (e : Event) (bytes new : List ℕ) → IsEncodingOf events (Some bytes) → new ≡ bytes ++ encoding_of_event e → largest_batch < length new
    → IsEncodingOf (events ++ e ∷ []) None
none_if_full events e bytes new holds more full =
    none_if_long (events ++ e ∷ []) (subst (λ (l : List ℕ). largest_batch < length l) (sym (all_encoded events e bytes new holds more)) full)

-- the event of a line that can't be encoded would have too many bytes
pub none_if_unfit : (parser : Parser) (line : List ℕ) (clock : ℕ) (events : List Event)
    → ((all : List Event) → are_shallow all ≡ true → length (encoded all) ≤ largest_batch → All EventFits all)
    → (EventFits (parsed parser line clock) → ⊥) → IsEncodingOf (events ++ parsed parser line clock ∷ []) None
none_if_unfit parser line clock events decides unfit = none_if_long (events ++ e ∷ []) (omega (arith, long, ap length (encoded_one events e), length-append (encoded events) (encoding_of_event e), ap length (append-nil (encoding_of_event e))))
  where
    e : Event
    e = parsed parser line clock

    shallow : are_shallow (e ∷ []) ≡ true
    shallow = all_pass (e ∷ []) (parsed_shallow parser line clock, tt)

    long : largest_batch < length (encoded (e ∷ []))
    long = elim (cases_Bool (nat_le (length (encoded (e ∷ []))) largest_batch)) [
      | inl short ↦ absurd (unfit (All-head EventFits e [] (decides (e ∷ []) shallow (leb-true _ _ short))))
      | inr large ↦ leb-false _ _ large
    ]

pub some_more : (parser : Parser) (line : List ℕ) (clock : ℕ) (events : List Event) (bytes new : List ℕ) → IsEncodingOf events (Some bytes) → EventFits (parsed parser line clock)
    → new ≡ bytes ++ encoding_of_event (parsed parser line clock) → length new ≤ largest_batch → IsEncodingOf (events ++ parsed parser line clock ∷ []) (Some new)
some_more parser line clock events bytes new holds fits more short =
    let e = parsed parser line clock in
    let all = all_encoded events e bytes new holds more in
    let may : is_storable (events ++ e ∷ []) ≡ true = ap (λ (l : List ℕ). nat_le (length l) largest_batch) all ∙ le-leb _ _ short in
    let ranged = parsed_ranged parser line clock in
    let one : AreEvents (e ∷ []) (encoding_of_event e) = written_is e ranged.sec ranged.nsec fits ranged.meta ranged.body in
    record {
      encoding = rw may (ap (λ (l : List ℕ). Some l) (sym all));
      are = subst (λ (l : List ℕ). AreEvents (events ++ e ∷ []) l) (sym more) (are_more events (e ∷ []) bytes (encoding_of_event e) holds.are one);
    }
