-- How statuses are read word by word.
use Rattle.std.proofs.Common.{◌≡◌, ℕ, suc, ◌+◌, ◌<◌, ◌≤◌, List, [], ◌∷◌, ◌++◌, length, drop, get_or, Option, Some, None, refl, sym, ap, ◌∙◌, arith, add-one, drop-cons, append_assoc}
use Rattle.std.proofs.lemmas.List.{append-nil, drop_all}
use Rattle.fwd_http.specs.declared.statuses.StatusRange.{StatusRange}
use Rattle.fwd_settings_values.specs.Types.{in_front}
use Rattle.fwd_settings_values.specs.Statuses.{status_range_of, ranges_of_words}

-- the ranges so far, followed by those of the remaining words
abbrev pub append_ranges : List StatusRange → Option (List StatusRange) → Option (List StatusRange)
append_ranges ranges None = None
append_ranges ranges (Some more) = Some (ranges ++ more)

append_ranges_more : (ranges : List StatusRange) (r : StatusRange) (more : Option (List StatusRange)) → append_ranges (ranges ++ r ∷ []) more ≡ append_ranges ranges (in_front (Some r) more)
append_ranges_more ranges r None = refl
append_ranges_more ranges r (Some more) = ap Some (append_assoc ranges (r ∷ []) more)

append_ranges_none : (ranges : List StatusRange) (more : Option (List StatusRange)) → append_ranges ranges (in_front None more) ≡ None
append_ranges_none ranges more = refl

status_first : (word : List ℕ) (words : List (List ℕ)) → 0 < length word → ranges_of_words (word ∷ words) ≡ in_front (status_range_of word) (ranges_of_words words)
status_first [] words some = absurd (omega arith)
status_first (b ∷ bytes) words some = refl

module _ (words : List (List ℕ)) (i : ℕ) (word : List ℕ) (h : i < length words) (is : word ≡ get_or words i word) (ranges : List StatusRange) where
  cut : drop i words ≡ word ∷ drop (i + 1) words
  cut = rw (add-one) (drop-cons words i word h ∙ ap (λ (w : List ℕ). w ∷ drop (suc i) words) (sym is))

  pub no_status : word ≡ [] → append_ranges ranges (ranges_of_words (drop (i + 1) words)) ≡ append_ranges ranges (ranges_of_words (drop i words))
  no_status none = ap (λ (w : List (List ℕ)). append_ranges ranges (ranges_of_words w)) (sym (cut ∙ ap (λ (w : List ℕ). w ∷ drop (i + 1) words) none))

  pub bad_status : 0 < length word → status_range_of word ≡ None → append_ranges ranges (ranges_of_words (drop i words)) ≡ None
  bad_status some bad = ap (λ (w : List (List ℕ)). append_ranges ranges (ranges_of_words w)) cut ∙ ap (append_ranges ranges) (status_first word (drop (i + 1) words) some) ∙ rw bad (append_ranges_none ranges (ranges_of_words (drop (i + 1) words)))

  pub good_status : (r : StatusRange) (new : List StatusRange) → 0 < length word → status_range_of word ≡ Some r → new ≡ ranges ++ r ∷ []
      → append_ranges new (ranges_of_words (drop (i + 1) words)) ≡ append_ranges ranges (ranges_of_words (drop i words))
  good_status r new some good grown =
      ap (λ (l : List StatusRange). append_ranges l (ranges_of_words (drop (i + 1) words))) grown
      ∙ append_ranges_more ranges r (ranges_of_words (drop (i + 1) words))
      ∙ ap (λ (o : Option StatusRange). append_ranges ranges (in_front o (ranges_of_words (drop (i + 1) words)))) (sym good)
      ∙ ap (append_ranges ranges) (sym (status_first word (drop (i + 1) words) some))
      ∙ ap (λ (w : List (List ℕ)). append_ranges ranges (ranges_of_words w)) (sym cut)

pub all_statuses : (words : List (List ℕ)) (i : ℕ) (ranges : List StatusRange) → length words ≤ i → append_ranges ranges (ranges_of_words (drop i words)) ≡ Some ranges
all_statuses words i ranges h = ap (λ (w : List (List ℕ)). append_ranges ranges (ranges_of_words w)) (drop_all i words h) ∙ ap Some (append-nil ranges)
