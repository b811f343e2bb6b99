-- A head grows field by field.
use Rattle.std.proofs.Common.{◌≡◌, ℕ, ◌+◌, ◌<◌, List, [], ◌∷◌, ◌++◌, length, take, get_or, sym, ap, ◌∙◌, append_assoc}
use Rattle.std.proofs.lemmas.List.{append-nil, take_more}
use Rattle.fwd_http.specs.declared.fields.HeaderField.{HeaderField}
use Rattle.fwd_out_http.specs.Request.{field, further_fields}

pub line_grows : (out first uri last one two : List ℕ) → one ≡ out ++ first → two ≡ one ++ uri → two ++ last ≡ out ++ (first ++ uri ++ last)
line_grows out first uri last one two a b =
    ap (λ (t : List ℕ). t ++ last) (b ∙ ap (λ (t : List ℕ). t ++ uri) a ∙ append_assoc out first uri)
    ∙ append_assoc out (first ++ uri) last

pub head_grows : (a b c d e f g o p q r s t u v : List ℕ) → o ≡ [] → p ≡ o ++ a → q ≡ p ++ b → r ≡ q ++ c → s ≡ r ++ d → t ≡ s ++ e → u ≡ t ++ f → v ≡ u ++ g → v ≡ a ++ b ++ c ++ d ++ e ++ f ++ g
head_grows a b c d e f g o p q r s t u v none one two three four five six seven =
    seven ∙ ap (λ (x : List ℕ). x ++ g) (six ∙ ap (λ (x : List ℕ). x ++ f) (five ∙ ap (λ (x : List ℕ). x ++ e) (four ∙ ap (λ (x : List ℕ). x ++ d)
    (three ∙ ap (λ (x : List ℕ). x ++ c) (two ∙ ap (λ (x : List ℕ). x ++ b) (one ∙ ap (λ (x : List ℕ). x ++ a) none))))))

-- further field lines grow line by line
further_last : (fields : List HeaderField) (more : HeaderField) → further_fields (fields ++ more ∷ []) ≡ further_fields fields ++ field more.name more.value
further_last [] more = append-nil (field more.name more.value)
further_last (first ∷ fields) more =
    ap (λ (t : List ℕ). field first.name first.value ++ t) (further_last fields more)
    ∙ sym (append_assoc (field first.name first.value) (further_fields fields) (field more.name more.value))

pub fields_grow : (fields : List HeaderField) (i : ℕ) (more : HeaderField) (start out new : List ℕ) → i < length fields → more ≡ get_or fields i more → out ≡ start ++ further_fields (take i fields)
    → new ≡ out ++ field more.name more.value → new ≡ start ++ further_fields (take (i + 1) fields)
fields_grow fields i more start out new here is before grown =
    let one : take (i + 1) fields ≡ take i fields ++ more ∷ [] = take_more fields i more here ∙ ap (λ (x : HeaderField). take i fields ++ x ∷ []) (sym is) in
    grown ∙ ap (λ (t : List ℕ). t ++ field more.name more.value) before ∙ append_assoc start (further_fields (take i fields)) (field more.name more.value)
    ∙ ap (λ (t : List ℕ). start ++ t) (sym (further_last (take i fields) more)) ∙ ap (λ (l : List HeaderField). start ++ further_fields l) (sym one)
