-- Iteration over the outputs whose glob matches a tag.
use Rattle.std.proofs.Common.{◌≡◌, ◌↔◌, ℕ, ◌+◌, ◌<◌, ◌≤◌, Bool, true, false, IsTrue, List, [], ◌∷◌, drop, get_or, map, length, refl, sym, ap, ◌∙◌}
use Rattle.std.proofs.lemmas.List.{drop_more, drop_all}
use Rattle.fwd_route.specs.Glob.{Glob}
use Rattle.fwd_route.specs.GlobTest.{globs, matching_from}
use Rattle.fwd_route.proofs.TestDecides.{globs_tell}
use Rattle.fwd_settings.specs.declared.settings_types.OutputSet.{OutputSet}

tells : (r t : Bool) → (IsTrue r ↔ (t ≡ true)) → r ≡ t
tells true true is = refl
tells true false is = absurd (cc (is.0 refl))
tells false true is = absurd (cc (is.1 refl))
tells false false is = refl

-- a test that holds exactly if the glob matches is the test of `globs`
pub is_globs : (r : Bool) (glob tag : List ℕ) → (IsTrue r ↔ Glob glob tag) → r ≡ globs glob tag
is_globs r glob tag is = tells r (globs glob tag) (λ is2. (globs_tell glob tag).1 (is.0 is2), λ is2. is.1 ((globs_tell glob tag).0 is2))

-- the indices, from n on, of the outputs whose glob matches the tag
abbrev pub matching_behind : ℕ → List OutputSet → List ℕ → List ℕ
matching_behind n outputs tag = matching_from n (map (λ (o : OutputSet). o.glob) (drop n outputs)) tag

next_output : (n : ℕ) (outputs : List OutputSet) (output : OutputSet) → n < length outputs → output ≡ get_or outputs n output → drop n outputs ≡ output ∷ drop (n + 1) outputs
next_output n outputs output less is = drop_more outputs n output less ∙ ap (λ (o : OutputSet). o ∷ drop (n + 1) outputs) (sym is)

pub matching_yes : (n : ℕ) (outputs : List OutputSet) (tag : List ℕ) (output : OutputSet) → n < length outputs → output ≡ get_or outputs n output → globs output.glob tag ≡ true
    → matching_behind n outputs tag ≡ n ∷ matching_behind (n + 1) outputs tag
matching_yes n outputs tag output less is matches = rw (next_output n outputs output less is, matches) refl

pub matching_no : (n : ℕ) (outputs : List OutputSet) (tag : List ℕ) (output : OutputSet) → n < length outputs → output ≡ get_or outputs n output → globs output.glob tag ≡ false
    → matching_behind n outputs tag ≡ matching_behind (n + 1) outputs tag
matching_no n outputs tag output less is misses = rw (next_output n outputs output less is, misses) refl

pub matching_end : (n : ℕ) (outputs : List OutputSet) (tag : List ℕ) → length outputs ≤ n → matching_behind n outputs tag ≡ []
matching_end n outputs tag all = rw (drop_all n outputs all) refl
