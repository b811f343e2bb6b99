-- The names of one output are names of outputs.
use Rattle.std.proofs.Common.{◌≡◌, ℕ, zero, suc, ◌<◌, ◌≤◌, All, List, [], ◌∷◌, ◌++◌, length, sym, ◌∙◌, ap, subst, arith, lit≤}
use Rattle.std.proofs.lemmas.Grind.{common_steps}
use Rattle.std.specs.Prelude.{IsUtf8}
use Rattle.std.proofs.lemmas.Str.{IsUtf8-from_ascii}
use Rattle.fwd_base.specs.Limits.{longest_name}
use Rattle.fwd_chunk.specs.Layout.{AreOutputs}

abbrev stdout : List ℕ
stdout = 115 ∷ 116 ∷ 100 ∷ 111 ∷ 117 ∷ 116 ∷ 46 ∷ 48 ∷ []

is_text : IsUtf8 stdout
is_text = IsUtf8-from_ascii stdout (grind (arith, common_steps))

pub one_output : AreOutputs (stdout ∷ [])
one_output = record { few = lit≤ tt; each = each; differ = λ i j d lt within. absurd (omega (arith, lt, within)) }
  where
    each : All (λ name. (1 ≤ length name) × (length name ≤ longest_name) × IsUtf8 name) (stdout ∷ [])
    each zero d lt = (lit≤ tt, lit≤ tt, is_text)
    each (suc k) d lt = absurd (omega (arith, lt))

pub names_of_one : (none : List (List ℕ)) (name : List ℕ) (names : List (List ℕ)) → none ≡ [] → name ≡ 115 ∷ 116 ∷ 100 ∷ 111 ∷ 117 ∷ 116 ∷ 46 ∷ 48 ∷ [] → names ≡ none ++ name ∷ [] → AreOutputs names
names_of_one none name names is_none is_name is =
    subst AreOutputs (sym (is ∙ ap (λ (l : List (List ℕ)). l ++ name ∷ []) is_none ∙ ap (λ (n : List ℕ). n ∷ []) is_name)) one_output
