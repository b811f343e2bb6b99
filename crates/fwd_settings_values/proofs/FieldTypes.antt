-- How the types of fields are read word by word.
use Rattle.std.proofs.Common.{◌≡◌, ℕ, suc, ◌+◌, ◌<◌, ◌≤◌, List, [], ◌∷◌, ◌++◌, length, drop, get_or, Option, Some, None, refl, sym, ap, ◌∙◌, arith, add-one, drop-cons, append_assoc}
use Rattle.std.proofs.lemmas.List.{append-nil, drop_all}
use Rattle.fwd_parser.specs.declared.parser.FieldType.{FieldType}
use Rattle.fwd_settings_values.specs.Types.{field_type_of, types_of_words, in_front}

-- the types so far, followed by those of the remaining words
abbrev pub append_types : List FieldType → Option (List FieldType) → Option (List FieldType)
append_types types None = None
append_types types (Some more) = Some (types ++ more)

append_types_more : (types : List FieldType) (t : FieldType) (more : Option (List FieldType)) → append_types (types ++ t ∷ []) more ≡ append_types types (in_front (Some t) more)
append_types_more types t None = refl
append_types_more types t (Some more) = ap Some (append_assoc types (t ∷ []) more)

append_types_none : (types : List FieldType) (more : Option (List FieldType)) → append_types types (in_front None more) ≡ None
append_types_none types more = refl

word_first : (word : List ℕ) (words : List (List ℕ)) → 0 < length word → types_of_words (word ∷ words) ≡ in_front (field_type_of word) (types_of_words words)
word_first [] words some = absurd (omega arith)
word_first (b ∷ bytes) words some = refl

module _ (words : List (List ℕ)) (i : ℕ) (word : List ℕ) (h : i < length words) (is : word ≡ get_or words i word) (types : List FieldType) where
  cut : drop i words ≡ word ∷ drop (i + 1) words
  cut = rw (add-one) (drop-cons words i word h ∙ ap (λ (w : List ℕ). w ∷ drop (suc i) words) (sym is))

  pub no_word : word ≡ [] → append_types types (types_of_words (drop (i + 1) words)) ≡ append_types types (types_of_words (drop i words))
  no_word none = ap (λ (w : List (List ℕ)). append_types types (types_of_words w)) (sym (cut ∙ ap (λ (w : List ℕ). w ∷ drop (i + 1) words) none))

  pub bad_word : 0 < length word → field_type_of word ≡ None → append_types types (types_of_words (drop i words)) ≡ None
  bad_word some bad = ap (λ (w : List (List ℕ)). append_types types (types_of_words w)) cut ∙ ap (append_types types) (word_first word (drop (i + 1) words) some) ∙ rw bad (append_types_none types (types_of_words (drop (i + 1) words)))

  pub good_word : (t : FieldType) (new : List FieldType) → 0 < length word → field_type_of word ≡ Some t → new ≡ types ++ t ∷ []
      → append_types new (types_of_words (drop (i + 1) words)) ≡ append_types types (types_of_words (drop i words))
  good_word t new some good grown =
      ap (λ (l : List FieldType). append_types l (types_of_words (drop (i + 1) words))) grown
      ∙ append_types_more types t (types_of_words (drop (i + 1) words))
      ∙ ap (λ (o : Option FieldType). append_types types (in_front o (types_of_words (drop (i + 1) words)))) (sym good)
      ∙ ap (append_types types) (sym (word_first word (drop (i + 1) words) some))
      ∙ ap (λ (w : List (List ℕ)). append_types types (types_of_words w)) (sym cut)

pub all_words : (words : List (List ℕ)) (i : ℕ) (types : List FieldType) → length words ≤ i → append_types types (types_of_words (drop i words)) ≡ Some types
all_words words i types h = ap (λ (w : List (List ℕ)). append_types types (types_of_words w)) (drop_all i words h) ∙ ap Some (append-nil types)
