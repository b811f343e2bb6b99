-- A keeper that isn't told to fail doesn't.
use Rattle.std.proofs.Common.{◌≡◌, ℕ, ◌==◌, ◌+◌, Bool, true, not, if◌then◌else◌, List, [], ◌∷◌, ◌++◌, Option, Some, None, refl, sym, ◌∙◌, ap, subst, append_assoc}
use Rattle.std.specs.List.{list_any}
use Rattle.fwd_keeper.specs.Keeper.{KeeperCall, KeeperEntry, KeeperGiven, Get, Put, FailAt, found}
use Rattle.fwd_keeper_mem.specs.KeeperAnswers.{calls_in, to_fail, fails_in, works, offsets_after_all, answer_after, answer_with, IsPlayed, IsUnfailing}
use Rattle.fwd_keeper_mem.proofs.NotesKept.{after_push}

none_before : (a b : List ℕ) → a ++ b ≡ [] → a ≡ []
none_before [] b none = refl
none_before (x ∷ a) b none = absurd (cc none)

fails_append : (before es : List KeeperEntry) → fails_in (before ++ es) ≡ fails_in before ++ fails_in es
fails_append [] es = refl
fails_append (e ∷ before) es = ap (λ (l : List ℕ). to_fail e.call ++ l) (fails_append before es) ∙ sym (append_assoc (to_fail e.call) (fails_in before) (fails_in es))

works_then : (before es : List KeeperEntry) → fails_in (before ++ es) ≡ [] → works before ≡ true
works_then before es none =
    let no_number : fails_in before ≡ [] = none_before (fails_in before) (fails_in es) (sym (fails_append before es) ∙ none) in
    ap (λ (numbers : List ℕ). not (list_any (λ (n : ℕ). n == calls_in before + 1) numbers)) no_number

answer_then : (given : KeeperGiven) (before : List KeeperEntry) (call : KeeperCall) → works before ≡ true → answer_after given before call ≡ answer_with (offsets_after_all given before) call
answer_then given before (Get db path) works_now =
    ap (λ (b : Bool). if b then Some (found (offsets_after_all given before) db path) else None) works_now
answer_then given before (Put db path place) works_now =
    let done : Option (Unit {0}) = Some tt in
    let failed : Option (Unit {0}) = None in
    ap (λ (b : Bool). if b then done else failed) works_now
answer_then given before (FailAt number) works_now = refl

pub unfailing : (given : KeeperGiven) (before es : List KeeperEntry) → fails_in (before ++ es) ≡ [] → IsPlayed given before es → IsUnfailing (offsets_after_all given before) es
unfailing given before [] none played = tt
unfailing given before (e ∷ es) none played =
    let none_then : fails_in ((before ++ e ∷ []) ++ es) ≡ [] = ap (λ (l : List KeeperEntry). fails_in l) (append_assoc before (e ∷ []) es) ∙ none in
    let rest : IsUnfailing (offsets_after_all given (before ++ e ∷ [])) es = unfailing given (before ++ e ∷ []) es none_then played.1 in (
      played.0 ∙ answer_then given before e.call (works_then before (e ∷ es) none),
      subst (λ (offsets : KeeperGiven). IsUnfailing offsets es) (after_push given before e) rest,
    )
