-- The changes of files, from one line to the next.
use Rattle.std.proofs.Common.{◌≡◌, ⊎_elim, ℕ, ◌+◌, ◌<◌, ◌≤◌, min, List, [], ◌∷◌, ◌++◌, length, get_or, take, drop, sym, ap, ◌∙◌, arith}
use Rattle.std.specs.List.{cons_option, filter_map}
use Rattle.std.proofs.lemmas.Bool.{cases_lt}
use Rattle.std.proofs.lemmas.List.{take_all, take_min, take_more}
use Rattle.std.proofs.Math.ListN.{drop_of_length-le}
use Rattle.fwd_script.specs.declared.schedule.Planned.{Planned}
use Rattle.fwd_script_loop.specs.ScriptRun.{change_in, changes_between}
use Rattle.fwd_script_loop.proofs.AnswerSteps.{kinds_append}

pub changes_more : (lines : List Planned) (i : ℕ) (planned : Planned) → i < length lines → planned ≡ get_or lines i planned
    → filter_map change_in (take (i + 1) lines) ≡ filter_map change_in (take i lines) ++ cons_option (change_in planned) []
changes_more lines i planned within is =
    ap (λ (l : List Planned). filter_map change_in l) (take_more lines i planned within ∙ ap (λ (x : Planned). take i lines ++ x ∷ []) (sym is))
    ∙ kinds_append change_in (take i lines) planned

-- past the end nothing is dropped
drop_min : (n : ℕ) (lines : List Planned) → drop (min n (length lines)) lines ≡ drop n lines
drop_min n lines = ⊎_elim
    (λ (less : n < length lines). let same : min n (length lines) ≡ n = omega arith in ap (λ (k : ℕ). drop k lines) same)
    (λ (more : length lines ≤ n).
    let end : length lines ≤ min n (length lines) = omega arith in
    drop_of_length-le lines end ∙ sym (drop_of_length-le lines more))
    (cases_lt n (length lines))

pub changes_whole : (lines ahead left : List Planned) (from upto i : ℕ) → ahead ≡ take (min upto (length lines)) lines → left ≡ drop (min from (length ahead)) ahead → length left ≤ i
    → filter_map change_in (take i left) ≡ changes_between lines from upto
changes_whole lines ahead left from upto i first rest over =
    ap (λ (l : List Planned). filter_map change_in l)
    (take_all i left over ∙ rest ∙ drop_min from ahead ∙ ap (λ (l : List Planned). drop from l) (first ∙ take_min upto lines))
