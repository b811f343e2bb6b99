-- Encodings of events, one after another.
use Rattle.std.proofs.Common.{◌≡◌, ℕ, ◌+◌, ◌≤◌, ◌<◌, Bool, true, false, inl, inr, List, [], ◌∷◌, ◌++◌, length, take, get_or, Option, Some, None, IfSome, refl, sym, ◌∙◌, ap, subst, arith}
use Rattle.std.specs.Prelude.{nat_le, if◌then◌else◌}
use Rattle.std.proofs.lemmas.Bool.{cases_Bool}
use Rattle.std.proofs.lemmas.Bool.Decides.{nat_tests}
use Rattle.std.proofs.lemmas.List.{take_more, append-nil, length-append}
use Rattle.std.proofs.lemmas.List.Concat.{flat_map-append}
use Rattle.std.proofs.lemmas.List.Folds.{length-flat_map-take}
use Rattle.fwd_base.specs.Limits.{largest_batch}
use Rattle.fwd_msgpack.specs.Canonical.{canonical}
use Rattle.fwd_event.specs.declared.event.Event.{Event}
use Rattle.fwd_event.specs.Event.{AreEvents, event_val}
use Rattle.fwd_event.proofs.EventLists.{are_more}
use Rattle.fwd_model.specs.Chunks.{is_storable, encoded}
use Rattle.fwd_engine_chunks.specs.BatchOutcome.{HoldsEvents, IsEncoded}
use Rattle.fwd_engine_chunks.specs.declared.encoding.EncodedBatch.{EncodedBatch}

-- the encoding of one event
abbrev pub encoding_of_event : Event → List ℕ
encoding_of_event e = canonical (event_val e)

le_true : (n m : ℕ) → nat_le n m ≡ true → n ≤ m
le_true n m e = grind (arith, nat_tests)

not_true : (b : Bool) → (b ≡ true → ⊥) → b ≡ false
not_true true h = absurd (h refl)
not_true false h = refl

-- ---- one event more

one_more : (items : List Event) (i : ℕ) (e : Event) → i < length items → e ≡ get_or items i e → take (i + 1) items ≡ take i items ++ e ∷ []
one_more items i e within is = take_more items i e within ∙ ap (λ (x : Event). take i items ++ x ∷ []) (sym is)

pub encoded_more : (items : List Event) (i : ℕ) (e : Event) (before after : List ℕ) → i < length items → e ≡ get_or items i e
    → before ≡ encoded (take i items) → after ≡ before ++ encoding_of_event e → after ≡ encoded (take (i + 1) items)
encoded_more items i e before after within is so_far more =
    more ∙ ap (λ (l : List ℕ). l ++ encoding_of_event e) so_far
    ∙ ap (λ (l : List ℕ). encoded (take i items) ++ l) (sym (append-nil (encoding_of_event e)))
    ∙ sym (flat_map-append encoding_of_event (take i items) (e ∷ []))
    ∙ ap encoded (sym (one_more items i e within is))

pub events_more : (items : List Event) (i : ℕ) (e : Event) (before after : List ℕ) → i < length items → e ≡ get_or items i e
    → AreEvents (take i items) before → AreEvents (e ∷ []) (encoding_of_event e) → after ≡ before ++ encoding_of_event e → AreEvents (take (i + 1) items) after
events_more items i e before after within is are one more =
    subst (λ (l : List ℕ). AreEvents (take (i + 1) items) l) (sym more)
    (subst (λ (es : List Event). AreEvents es (before ++ encoding_of_event e)) (sym (one_more items i e within is)) (are_more (take i items) (e ∷ []) before (encoding_of_event e) are one))

-- ---- whether they may be stored

none_stored : (events : List Event) → is_storable events ≡ false → None ≡ (if is_storable events then Some (encoded events) else None)
none_stored events not = rw not refl

-- the first events are too large already
pub too_long : (events items : List Event) (i : ℕ) (e : Event) (bytes : List ℕ) → items ≡ events → i < length items → e ≡ get_or items i e
    → bytes ≡ encoded (take (i + 1) items) → largest_batch < length bytes → None ≡ (if is_storable events then Some (encoded events) else None)
too_long events items i e bytes same within is encoding long = none_stored events (not_true (is_storable events) (λ storable.
    let short : length (encoded events) ≤ largest_batch = le_true _ _ storable in
    let first : encoded (take (i + 1) items) ≡ encoded (take i items) ++ (encoding_of_event e ++ []) = ap encoded (one_more items i e within is) ∙ flat_map-append encoding_of_event (take i items) (e ∷ []) in
    let parts : length (encoded (take i items)) + length (encoding_of_event (get_or items i e)) ≤ length (encoded items) = length-flat_map-take encoding_of_event items i e within in
    omega (arith, short, long, ap length encoding, ap length first, length-append (encoded (take i items)) (encoding_of_event e ++ []), ap length (append-nil (encoding_of_event e)), parts, ap (λ (x : Event). length (encoding_of_event x)) is, ap (λ (l : List Event). length (encoded l)) same)))

-- ---- properties of the result, `Some` and `None`

pub storable_of : (events : List Event) (bytes : List ℕ) → Some bytes ≡ (if is_storable events then Some (encoded events) else None) → (is_storable events ≡ true) × (bytes ≡ encoded events)
storable_of events bytes is = elim (cases_Bool (is_storable events)) [
  | inl may ↦ (may, cc (rw may at is))
  | inr maynt ↦ absurd (cc (rw maynt at is))
]

pub unstorable_of : (events : List Event) → None ≡ (if is_storable events then Some (encoded events) else None) → is_storable events ≡ false
unstorable_of events is = elim (cases_Bool (is_storable events)) [
  | inl may ↦ absurd (cc (rw may at is))
  | inr maynt ↦ maynt
]

-- ---- encoded batches

none_long : (bytes : Option (List ℕ)) (events : List Event) → bytes ≡ (if is_storable events then Some (encoded events) else None) → IfSome bytes (λ b. length b ≤ largest_batch)
none_long None events is = tt
none_long (Some b) events is =
    let may = storable_of events b is in
    subst (λ (l : List ℕ). length l ≤ largest_batch) (sym may.1) (le_true _ _ may.0)

-- bytes that are there are few enough to be stored
pub short_bytes : (events : List Event) (batch : EncodedBatch) → HoldsEvents events batch → IfSome batch.bytes (λ b. length b ≤ largest_batch)
short_bytes events batch holds = none_long batch.bytes events holds.bytes.encoding

-- bytes that are there encode the events
pub encodes : (events : List Event) (batch : EncodedBatch) (bytes : List ℕ) → HoldsEvents events batch → batch.bytes ≡ Some bytes → (is_storable events ≡ true) × IsEncoded events bytes
encodes events batch bytes holds is =
    let may = storable_of events bytes (sym is ∙ holds.bytes.encoding) in (
      may.0,
      record {
        encoding = may.1;
        short = subst (λ (l : List ℕ). length l ≤ largest_batch) (sym may.1) (le_true _ _ may.0);
        are = subst (λ (o : Option (List ℕ)). IfSome o (λ b. AreEvents events b)) is holds.bytes.are;
      },
    )
