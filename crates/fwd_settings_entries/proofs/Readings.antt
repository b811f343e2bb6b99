-- Readings in sequence.
use Rattle.std.proofs.Common.{◌≡◌, inl, inr, ℕ, suc, ◌+◌, ◌<◌, ◌≤◌, List, [], ◌∷◌, ◌++◌, length, drop, get_or, Some, None, Result, Ok, Err, refl, sym, ap, subst, ◌∙◌, add-one, drop-cons, append_assoc}
use Rattle.std.proofs.lemmas.List.{append-nil, drop_all}
use Rattle.std.specs.Result.{IsErrAnd}
use Rattle.fwd_outside.specs.Program.{Return, Ask}
use Rattle.fwd_settings_schema.specs.declared.fault.SettingFault.{SettingFault}
use Rattle.fwd_settings_entries.specs.declared.read_err.ReadErr.{ReadErr}
use Rattle.fwd_settings_entries.specs.declared.read_err.ReadErr.TheVariants as read_err
use Rattle.fwd_base.specs.Pattern.{translated, IsReadFrom, IsNoPattern}
use Rattle.fwd_base.specs.declared.pattern.Pattern.{Pattern}
use Rattle.fwd_settings_schema.specs.declared.error_kind.SettingKind.TheVariants.{PatternRefused}
use Rattle.fwd_config.specs.declared.section.Place.{Place}
use Rattle.fwd_settings_entries.specs.Reading.{Reading, Checked, ◌>>=◌, known, fault, pattern, each, IsResult, ReturnsResult}

ok_is : {X : Type 0} {x y : X} → ◌≡◌ {A = Checked X} (Ok x) (Ok y) → x ≡ y
ok_is is = cc

pub result_then : {X Y : Type 0} (first : Reading X) (next : X → Reading Y) (x : X) (result : Checked Y) → IsResult first (Ok x) → IsResult (next x) result → IsResult (first >>= next) result
result_then (Return (Ok y)) next x result is behind = subst (λ z. IsResult (next z) result) (ok_is is) behind
result_then (Return (Err refusal)) next x result is behind = absurd (cc is)
result_then (Ask text go) next x result (inl there) behind = inl (there.0, there.1, result_then (go (Some there.0)) next x result there.2 behind)
result_then (Ask text go) next x result (inr none) behind = inr (none.0, result_then (go None) next x result none.1 behind)

pub result_refused : {X Y : Type 0} (first : Reading X) (next : X → Reading Y) (refusal : SettingFault) → IsResult first (Err refusal) → IsResult (first >>= next) (Err refusal)
result_refused (Return (Ok y)) next refusal is = absurd (cc is)
result_refused {Y = Y} (Return (Err other)) next refusal is = err_is is
  where
    err_is : {X : Type 0} {f g : SettingFault} → ◌≡◌ {A = Checked X} (Err f) (Err g) → ◌≡◌ {A = Checked Y} (Err f) (Err g)
    err_is e = cc
result_refused (Ask text go) next refusal (inl there) = inl (there.0, there.1, result_refused (go (Some there.0)) next refusal there.2)
result_refused (Ask text go) next refusal (inr none) = inr (none.0, result_refused (go None) next refusal none.1)

pub returns_then : {X Y : Type 0} (first : Reading X) (next : X → Reading Y) (x : X) (result : Result Y ReadErr) → IsResult first (Ok x) → ReturnsResult (next x) result → ReturnsResult (first >>= next) result
returns_then first next x (Ok y) is behind = result_then first next x (Ok y) is behind
returns_then first next x (Err read_err.Memory) is behind = tt
returns_then first next x (Err (read_err.Refused refusal)) is behind = result_then first next x (Err refusal) is behind

pub returns_refused : {X Y : Type 0} (first : Reading X) (next : X → Reading Y) (s : ReadErr) → ReturnsResult first (Err s) → ReturnsResult (first >>= next) (Err s)
returns_refused first next read_err.Memory is = tt
returns_refused first next (read_err.Refused refusal) is = result_refused first next refusal is

-- ---- each item of a list

abbrev pub prepend : {X : Type 0} → List X → Checked (List X) → Checked (List X)
prepend partial (Ok more) = Ok (partial ++ more)
prepend partial (Err refusal) = Err refusal

prepend_nothing : {X : Type 0} (more : Checked (List X)) → more ≡ prepend [] more
prepend_nothing (Ok more) = refl
prepend_nothing (Err refusal) = refl

prepend_more : {X : Type 0} (partial : List X) (x : X) (more : Checked (List X)) → prepend partial (prepend (x ∷ []) more) ≡ prepend (partial ++ x ∷ []) more
prepend_more partial x (Ok more) = ap Ok (sym (append_assoc partial (x ∷ []) more))
prepend_more partial x (Err refusal) = refl

module _ {E X : Type 0} (read : E → Reading X) (es : List E) where
  -- what the rest gives, appended to what is read so far, is what all give
  abbrev pub ReadFrom : ℕ → List X → Type 0
  ReadFrom i partial = (more : Checked (List X)) → IsResult (each read (drop i es)) more → IsResult (each read es) (prepend partial more)

  pub read_from_start : (partial : List X) → partial ≡ [] → ReadFrom 0 partial
  read_from_start partial none more comes = subst (λ (l : List X). IsResult (each read es) (prepend l more)) (sym none) (subst (IsResult (each read es)) (prepend_nothing more) comes)

  module _ (i : ℕ) (e : E) (here : i < length es) (is : e ≡ get_or es i e) (partial : List X) (reaches : ReadFrom i partial) where
    cut : drop i es ≡ e ∷ drop (i + 1) es
    cut = rw (add-one) (drop-cons es i e here ∙ ap (λ (x : E). x ∷ drop (suc i) es) (sym is))

    first_of : (x : X) (more : Checked (List X)) → IsResult (read e) (Ok x) → IsResult (each read (drop (i + 1) es)) more → IsResult (each read (e ∷ drop (i + 1) es)) (prepend (x ∷ []) more)
    first_of x (Ok more) one rest =
        result_then (read e) (λ y. each read (drop (i + 1) es) >>= (λ ys. known (Ok (y ∷ ys)))) x (Ok (x ∷ more)) one
        (result_then (each read (drop (i + 1) es)) (λ ys. known (Ok (x ∷ ys))) more (Ok (x ∷ more)) rest refl)
    first_of x (Err refusal) one rest =
        result_then (read e) (λ y. each read (drop (i + 1) es) >>= (λ ys. known (Ok (y ∷ ys)))) x (Err refusal) one
        (result_refused (each read (drop (i + 1) es)) (λ ys. known (Ok (x ∷ ys))) refusal rest)

    pub read_from_next : (x : X) (new : List X) → IsResult (read e) (Ok x) → new ≡ partial ++ x ∷ [] → ReadFrom (i + 1) new
    read_from_next x new one grown more rest =
        subst (λ (l : List X). IsResult (each read es) (prepend l more)) (sym grown)
        (subst (IsResult (each read es)) (prepend_more partial x more)
        (reaches (prepend (x ∷ []) more) (subst (λ (l : List E). IsResult (each read l) (prepend (x ∷ []) more)) (sym cut) (first_of x more one rest))))

    pub read_from_refused : (s : ReadErr) → ReturnsResult (read e) (Err s) → ReturnsResult (each read es) (Err s)
    read_from_refused read_err.Memory refused = tt
    read_from_refused (read_err.Refused refusal) refused =
        reaches (Err refusal)
        (subst (λ (l : List E). IsResult (each read l) (Err refusal)) (sym cut)
        (result_refused (read e) (λ y. each read (drop (i + 1) es) >>= (λ ys. known (Ok (y ∷ ys)))) refusal refused))

  pub read_from_end : (i : ℕ) (partial : List X) → length es ≤ i → ReadFrom i partial → IsResult (each read es) (Ok partial)
  read_from_end i partial all reaches =
      subst (λ (l : List X). IsResult (each read es) (Ok l)) (append-nil partial)
      (reaches (Ok []) (subst (λ (l : List E). IsResult (each read l) (Ok [])) (sym (drop_all i es all)) refl))

-- ---- patterns

pub no_pattern : {X : Type 0} (text : List ℕ) (place : Place) (next : Pattern → Reading X) (r : Result X ReadErr) → IsNoPattern text → ReturnsResult (known (Err (fault PatternRefused place))) r → ReturnsResult (pattern text place >>= next) r
no_pattern text place next (Ok x) none is = inr (none, is)
no_pattern text place next (Err read_err.Memory) none is = tt
no_pattern text place next (Err (read_err.Refused refusal)) none is = inr (none, is)

pub some_pattern : {X : Type 0} (text : List ℕ) (place : Place) (next : Pattern → Reading X) (p : Pattern) (r : Result X ReadErr) → IsReadFrom (translated text) p → ReturnsResult (next p) r → ReturnsResult (pattern text place >>= next) r
some_pattern text place next p (Ok x) read is = inl (p, read, is)
some_pattern text place next p (Err read_err.Memory) read is = tt
some_pattern text place next p (Err (read_err.Refused refusal)) read is = inl (p, read, is)

-- ---- known without asking

pub known_is : {X : Type 0} (a b : Checked X) (r : Result X ReadErr) → a ≡ b → ReturnsResult (known a) r → ReturnsResult (known b) r
known_is {X = X} a b r is gives = subst (λ (c : Checked X). ReturnsResult (known c) r) is gives

-- ---- how `?` returns early

-- `?` returns the error unchanged
pub stopped : {X : Type 0} (reading : Reading X) (s : ReadErr) (r : Result X ReadErr) → IsErrAnd r (λ e. e ≡ s) → ReturnsResult reading (Err s) → ReturnsResult reading r
stopped reading s (Ok x) is gives = absurd is
stopped {X = X} reading s (Err e) is gives = subst (λ (t : ReadErr). ReturnsResult reading (Err t)) (sym is) gives
