-- How outputs and metadata are read.
use Rattle.std.proofs.Common.{◌≡◌, ◌≢◌, ℕ, zero, suc, ◌+◌, Bool, true, false, ◌==◌, cond, List, [], ◌∷◌, ◌++◌, append_assoc, length, Option, Some, None, Result, Ok, Err, IfOk, MatchOption, refl, sym, ap, subst, ◌∙◌, arith}
use Rattle.std.specs.Prelude.{filter}
use Rattle.std.proofs.lemmas.Bool.{ne_eqb}
use Rattle.std.specs.Option.{option_map}
use Rattle.fwd_base.specs.declared.memory.Memory.{Memory as NoMemory}
use Rattle.fwd_chunk.specs.Layout.{NamedOutput}
use Rattle.fwd_chunk.specs.declared.outputs.Outputs.{Outputs}
use Rattle.fwd_chunk.specs.Metadata.{names_of, done_of, output_at, after_output, outputs_in, counted_outputs, if_allowed, named_parts, named_by, parse_named, with_tag, as_metadata, no_outputs, with_outputs}

abbrev Whole : Option (List NamedOutput) → Outputs → Outputs → Bool → Type 0
Whole o old new whole = MatchOption o (whole ≡ false) (λ named. (whole ≡ true) × (new ≡ with_outputs old named))

append_none : (l : List (List ℕ)) → l ≡ l ++ []
append_none [] = refl
append_none (x ∷ l) = ap (λ (t : List (List ℕ)). x ∷ t) (append_none l)

-- no output is left to read
pub none_left : (count : ℕ) (bytes : List ℕ) (outputs : Outputs) (b : Bool) → count ≡ 0 → b ≡ (length bytes == 0) → Whole (outputs_in count bytes) outputs outputs b
unfolding outputs_in
none_left zero [] outputs b none is = (is, λ i. record { names = append_none outputs.names i; done = append_none outputs.done i })
none_left zero (c ∷ bytes) outputs b none is = is ∙ ne_eqb (length (c ∷ bytes)) 0 (λ e. omega arith)
none_left (suc n) bytes outputs b none is = absurd (omega arith)

-- there is no output
pub none_there : (count : ℕ) (bytes : List ℕ) (old new : Outputs) → count ≢ 0 → output_at bytes ≡ None → Whole (outputs_in count bytes) old new false
unfolding outputs_in
none_there zero bytes old new some is = absurd (some refl)
none_there (suc n) bytes old new some is = subst (λ (o : Option (NamedOutput × List ℕ)). Whole (after_output (outputs_in n) o) old new false) (sym is) refl

pushed_done : (b : Bool) (o : NamedOutput) (os : List NamedOutput) → names_of (cond b (o ∷ []) []) ++ names_of os ≡ names_of (cond b (o ∷ os) os)
pushed_done true o os = refl
pushed_done false o os = refl

pushed : (old : Outputs) (o : NamedOutput) (os : List NamedOutput) → with_outputs (with_outputs old (o ∷ [])) os ≡ with_outputs old (o ∷ os)
pushed old o os =
    let names : (old.names ++ o.name ∷ []) ++ names_of os ≡ old.names ++ (o.name ∷ names_of os) = append_assoc old.names (o.name ∷ []) (names_of os) in
    let done : (old.done ++ done_of (o ∷ [])) ++ done_of os ≡ old.done ++ done_of (o ∷ os) =
    append_assoc old.done (done_of (o ∷ [])) (done_of os) ∙ ap (λ (l : List (List ℕ)). old.done ++ l) (pushed_done (o.outcome == 68) o (filter (λ (x : NamedOutput). x.outcome == 68) os)) in
    (λ i. record { names = names i; done = done i })

one_more : (others : Option (List NamedOutput)) (o : NamedOutput) (old mid new : Outputs) (whole : Bool) → mid ≡ with_outputs old (o ∷ []) → Whole others mid new whole → Whole (option_map (λ (os : List NamedOutput). o ∷ os) others) old new whole
one_more None o old mid new whole is h = h
one_more (Some os) o old mid new whole is h = (h.0, h.1 ∙ ap (λ (m : Outputs). with_outputs m os) is ∙ pushed old o os)

-- there is an output, and the others follow it
pub read_more : (count less : ℕ) (bytes rest : List ℕ) (o : NamedOutput) (old mid new : Outputs) (r : Result Bool NoMemory) → count ≡ less + 1 → output_at bytes ≡ Some (o, rest) → mid ≡ with_outputs old (o ∷ [])
    → IfOk r (Whole (outputs_in less rest) mid new) → IfOk r (Whole (outputs_in count bytes) old new)
unfolding outputs_in
read_more zero less bytes rest o old mid new r is at grown h = absurd (omega arith)
read_more (suc n) less bytes rest o old mid new (Err e) is at grown h = tt
read_more (suc n) less bytes rest o old mid new (Ok whole) is at grown h =
    let same : less ≡ n = omega arith in
    let here = subst (λ (k : ℕ). Whole (outputs_in k rest) mid new whole) same h in
    subst (λ (x : Option (NamedOutput × List ℕ)). Whole (after_output (outputs_in n) x) old new whole) (sym at) (one_more (outputs_in n rest) o old mid new whole grown here)

-- ---- metadata of mark 2

pub unnamed : (meta : List ℕ) → named_parts meta ≡ None → None ≡ option_map as_metadata (parse_named meta)
unfolding parse_named
unnamed meta is = ap (λ (o : Option (List ℕ × List ℕ)). option_map as_metadata (named_by o)) (sym is)

abbrev FoundOutputs : Option (List NamedOutput) → Option Outputs → Type 0
FoundOutputs o found = MatchOption o (found ≡ None) (λ named. found ≡ Some (with_outputs no_outputs named))

by_outputs : (tag : List ℕ) (o : Option (List NamedOutput)) (found : Option Outputs) → FoundOutputs o found
    → option_map (λ (x : Outputs). record { tag = tag; outputs = x.names; done = x.done }) found ≡ option_map as_metadata (option_map (with_tag tag) o)
by_outputs tag None found h = ap (option_map (λ (x : Outputs). record { tag = tag; outputs = x.names; done = x.done })) h
by_outputs tag (Some named) found h = ap (option_map (λ (x : Outputs). record { tag = tag; outputs = x.names; done = x.done })) h

named_as : (meta tag bytes : List ℕ) (found : Option Outputs) → named_parts meta ≡ Some (tag, bytes) → FoundOutputs (if_allowed (counted_outputs bytes)) found
    → option_map (λ (x : Outputs). record { tag = tag; outputs = x.names; done = x.done }) found ≡ option_map as_metadata (parse_named meta)
unfolding parse_named
named_as meta tag bytes found is h =
    by_outputs tag (if_allowed (counted_outputs bytes)) found h ∙ ap (λ (o : Option (List ℕ × List ℕ)). option_map as_metadata (named_by o)) (sym is)

pub named_some : (meta tag bytes copied : List ℕ) (found : Option Outputs) (outputs : Outputs) → named_parts meta ≡ Some (tag, bytes) → FoundOutputs (if_allowed (counted_outputs bytes)) found → found ≡ Some outputs → copied ≡ tag
    → Some (record { tag = copied; outputs = outputs.names; done = outputs.done }) ≡ option_map as_metadata (parse_named meta)
named_some meta tag bytes copied found outputs is h there same =
    ap (λ (t : List ℕ). Some (record { tag = t; outputs = outputs.names; done = outputs.done })) same
    ∙ ap (option_map (λ (x : Outputs). record { tag = tag; outputs = x.names; done = x.done })) (sym there)
    ∙ named_as meta tag bytes found is h

pub named_none : (meta tag bytes : List ℕ) (found : Option Outputs) → named_parts meta ≡ Some (tag, bytes) → FoundOutputs (if_allowed (counted_outputs bytes)) found → found ≡ None → None ≡ option_map as_metadata (parse_named meta)
named_none meta tag bytes found is h there = ap (option_map (λ (x : Outputs). record { tag = tag; outputs = x.names; done = x.done })) (sym there) ∙ named_as meta tag bytes found is h
