-- Metadata that name outputs determine them, and one outcome changes the done mark of one output alone.
use Rattle.std.proofs.Common.{◌≡◌, ◌≢◌, inl, inr, ℕ, ◌+◌, ◌*◌, ◌<◌, ◌≤◌, ◌^◌, ◌==◌, ◌||◌, Bool, true, false, cond, if◌then◌else◌, List, [], ◌∷◌, ◌++◌, length, take, drop, get_or, Option, Some, refl, sym, ap, ◌∙◌, arith, length-append}
use Rattle.std.specs.Prelude.{All, Contains, IsUtf8, filter, flat_map}
use Rattle.std.specs.List.{list_any}
use Rattle.std.specs.Str.{bytes_eq}
use Rattle.std.proofs.lemmas.List.{take_at, drop_at}
use Rattle.std.proofs.lemmas.List.Elements.{All-head, All-tail}
use Rattle.std.proofs.lemmas.Slice.Eq.{bytes_eq-Decides}
use Rattle.fwd_base.specs.Limits.{longest_name}
use Rattle.fwd_chunk.specs.Layout.{NamedOutput, named_output_bytes, named_meta_bytes, AreOutputs, unrecorded}
use Rattle.fwd_chunk.specs.Outcome.{named_length, with_outcome}
use Rattle.fwd_chunk.proofs.OutcomeByte.{length-outputs_bytes}
use Rattle.fwd_chunk.specs.Metadata.{names_of, done_of, counted_outputs}
use Rattle.fwd_chunk.proofs.Conditionals.{same_value}
use Rattle.fwd_chunk.proofs.NamedMetadata.{outputs_back}
use Rattle.fwd_theorem_trace.proofs.Members.{either}

-- ---- outputs without recorded outcomes

pub names_unrecorded : (names : List (List ℕ)) → names_of (unrecorded names) ≡ names
names_unrecorded [] = refl
names_unrecorded (name ∷ names) = ap (λ (l : List (List ℕ)). name ∷ l) (names_unrecorded names)

pub done_unrecorded : (names : List (List ℕ)) → done_of (unrecorded names) ≡ []
done_unrecorded [] = refl
done_unrecorded (name ∷ names) = done_unrecorded names

-- ---- metadata determine one tag and one list of outputs

abbrev IsName : List ℕ → Type 0
IsName name = (1 ≤ length name) × (length name ≤ longest_name) × IsUtf8 name

names_short : (names : List (List ℕ)) → All IsName names → named_length names ≤ length names * 257
names_short [] each = omega arith
names_short (name ∷ names) each =
    let first = All-head IsName name names each in
    let rest = names_short names (All-tail IsName name names each) in
    omega (arith, first.1, rest)

outputs_short : (outputs : List NamedOutput) → AreOutputs (names_of outputs) → length (flat_map named_output_bytes outputs) ≤ 16448
outputs_short outputs are = omega (arith, length-outputs_bytes outputs, names_short (names_of outputs) are.each, are.few)

-- what follows the length of the tag
abbrev behind : List ℕ → List NamedOutput → List ℕ
behind tag outputs = tag ++ length outputs ∷ flat_map named_output_bytes outputs

length_behind : (tag : List ℕ) (outputs : List NamedOutput) → length (behind tag outputs) ≡ length tag + 1 + length (flat_map named_output_bytes outputs)
length_behind tag outputs = omega (arith, length-append tag (length outputs ∷ flat_map named_output_bytes outputs))

same_length : (tag other : List ℕ) (outputs others : List NamedOutput) → length other < 2 ^ 16 → AreOutputs (names_of others) → named_meta_bytes tag outputs ≡ named_meta_bytes other others → length tag ≡ length other
same_length tag other outputs others short are is =
    let high = ap (λ (l : List ℕ). get_or l 4 0) is in
    let low = ap (λ (l : List ℕ). get_or l 5 0) is in
    let rest = ap (λ (l : List ℕ). length (drop 6 l)) is in
    omega (arith, short, high, low, rest, length_behind tag outputs, length_behind other others, outputs_short others are)

abbrev some_outputs : List NamedOutput → Option (List NamedOutput)
some_outputs outputs = Some outputs

pub same_named : (tag other : List ℕ) (outputs others : List NamedOutput) → length other < 2 ^ 16 → AreOutputs (names_of others) → named_meta_bytes tag outputs ≡ named_meta_bytes other others
    → (tag ≡ other) × (outputs ≡ others)
same_named tag other outputs others short are is =
    let long = same_length tag other outputs others short are is in
    let rest : behind tag outputs ≡ behind other others = ap (drop 6) is in
    let ends : length outputs ∷ flat_map named_output_bytes outputs ≡ length others ∷ flat_map named_output_bytes others =
    sym (drop_at tag (length outputs ∷ flat_map named_output_bytes outputs) (length tag) refl)
    ∙ ap (drop (length tag)) rest
    ∙ drop_at other (length others ∷ flat_map named_output_bytes others) (length tag) (sym long) in
    let all : some_outputs outputs ≡ some_outputs others = sym (outputs_back outputs) ∙ ap counted_outputs ends ∙ outputs_back others in (
      sym (take_at tag (length outputs ∷ flat_map named_output_bytes outputs) (length tag) refl)
          ∙ ap (take (length tag)) rest
          ∙ take_at other (length others ∷ flat_map named_output_bytes others) (length tag) (sym long),
      same_value outputs others all,
    )

-- ---- the outcome of one output

-- whether a name is among some
abbrev pub is_among : List ℕ → List (List ℕ) → Bool
is_among name names = list_any (λ other. bytes_eq other name) names

differs : (one name : List ℕ) → one ≢ name → bytes_eq one name ≡ false
differs one name ne = by (bytes_eq one name) refl
  where
    by : (b : Bool) → bytes_eq one name ≡ b → b ≡ false
    by true is = absurd (ne ((bytes_eq-Decides one name).0 is))
    by false is = refl

abbrev done_with : Bool → NamedOutput → List NamedOutput → List (List ℕ)
done_with done o rest = names_of (cond done (o ∷ rest) rest)

-- an output of another name doesn't count
without : (done : Bool) (o : NamedOutput) (rest : List NamedOutput) (name : List ℕ) → bytes_eq o.name name ≡ false → is_among name (done_with done o rest) ≡ is_among name (names_of rest)
without true o rest name not = ap (λ (b : Bool). b || is_among name (names_of rest)) not
without false o rest name not = refl

behind_one : (done : Bool) (o : NamedOutput) (rest others : List NamedOutput) (name : List ℕ) → is_among name (names_of rest) ≡ is_among name (names_of others)
    → is_among name (done_with done o rest) ≡ is_among name (done_with done o others)
behind_one true o rest others name same = ap (λ (b : Bool). bytes_eq o.name name || b) same
behind_one false o rest others name same = same

abbrev is_done : NamedOutput → Bool
is_done output = output.outcome == 68

pub others_stay : (output name : List ℕ) (x : ℕ) (outputs : List NamedOutput) → name ≢ output → is_among name (done_of (with_outcome output x outputs)) ≡ is_among name (done_of outputs)
others_stay output name x [] ne = refl
others_stay output name x (o ∷ os) ne = by (bytes_eq o.name output) refl (others_stay output name x os ne)
  where
    by : (b : Bool) → bytes_eq o.name output ≡ b → is_among name (done_of (with_outcome output x os)) ≡ is_among name (done_of os)
        → is_among name (done_of (if b then record { name = o.name; outcome = x } ∷ os else o ∷ with_outcome output x os)) ≡ is_among name (done_of (o ∷ os))
    by true is rest =
        let not : bytes_eq o.name name ≡ false = differs o.name name (λ e. ne (sym e ∙ (bytes_eq-Decides o.name output).0 is)) in
        without (x == 68) (record { name = o.name; outcome = x }) (filter is_done os) name not ∙ sym (without (is_done o) o (filter is_done os) name not)
    by false is rest = behind_one (is_done o) o (filter is_done (with_outcome output x os)) (filter is_done os) name rest

more_done : (done : Bool) (o : NamedOutput) (rest : List NamedOutput) (name : List ℕ) → is_among name (names_of rest) ≡ true → is_among name (done_with done o rest) ≡ true
more_done true o rest name is = by (bytes_eq o.name name)
  where
    by : (b : Bool) → (b || is_among name (names_of rest)) ≡ true
    by true = refl
    by false = is
more_done false o rest name is = is

pub one_is_done : (output : List ℕ) (outputs : List NamedOutput) → Contains (names_of outputs) output → is_among output (done_of (with_outcome output 68 outputs)) ≡ true
one_is_done output [] has = absurd (omega (arith, has.1))
one_is_done output (o ∷ os) has = by (bytes_eq o.name output) refl (one_is_done output os)
  where
    by : (b : Bool) → bytes_eq o.name output ≡ b → (Contains (names_of os) output → is_among output (done_of (with_outcome output 68 os)) ≡ true)
        → is_among output (done_of (if b then record { name = o.name; outcome = 68 } ∷ os else o ∷ with_outcome output 68 os)) ≡ true
    by true is rest = ap (λ (b : Bool). b || is_among output (names_of (filter is_done os))) is
    by false is rest = elim (either o.name (names_of os) output has) [
      | inl same ↦ let no : true ≡ false = sym ((bytes_eq-Decides o.name output).1 same) ∙ is in absurd (cc no)
      | inr more ↦ more_done (is_done o) o (filter is_done (with_outcome output 68 os)) output (rest more)
    ]
