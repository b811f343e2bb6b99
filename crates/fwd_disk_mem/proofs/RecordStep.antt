-- Recording a call, or running out of memory.
use Rattle.std.proofs.Common.{◌≡◌, ℕ, ◌+◌, ◌≤◌, ◌<◌, ◌^◌, Bool, true, false, if◌then◌else◌, Result, Ok, Err, OnOk, OnErr, List, [], ◌∷◌, ◌++◌, length, sym, ◌∙◌, ap, subst, arith, length-append}
use Rattle.fwd_base.specs.declared.memory.Memory.{Memory}
use Rattle.fwd_disk_mem.specs.FileTable.{MemFile}
use Rattle.fwd_disk_mem.specs.declared.entry.MemEntry.{MemEntry}
use Rattle.fwd_disk_mem.specs.declared.entry.MemEntry.TheVariants.{FailAt}
use Rattle.fwd_disk_mem.specs.Entry.{is_call, made_of, AnswerIs, Changes, IsNoNumber}
use Rattle.fwd_disk_mem.specs.Fields.{IsKept}
use Rattle.fwd_disk_mem.proofs.PlayedCalls.{kept-push, kept-push_number, made-le}

pub number_noted : (r : Result (Unit {0}) Memory) (calls calls2 : List MemEntry) (number : ℕ) (files : List MemFile) (fails fails2 : List ℕ) (made : ℕ)
    → OnOk r (calls2 ≡ calls ++ FailAt number ∷ []) → OnOk r (fails2 ≡ fails ++ number ∷ []) → OnErr r (calls2 ≡ calls) → OnErr r (fails2 ≡ fails) → IsKept calls files fails made → IsKept calls2 files fails2 made
number_noted (Ok x) calls calls2 number files fails fails2 made calls_ok fails_ok calls_err fails_err kept =
    subst (λ (l : List MemEntry). IsKept l files fails2 made) (sym calls_ok) (subst (λ (l : List ℕ). IsKept (calls ++ FailAt number ∷ []) files l made) (sym fails_ok) (kept-push_number calls number files fails made kept))
number_noted (Err e) calls calls2 number files fails fails2 made calls_ok fails_ok calls_err fails_err kept =
    subst (λ (l : List MemEntry). IsKept l files fails2 made) (sym calls_err) (subst (λ (l : List ℕ). IsKept calls files l made) (sym fails_err) kept)

pub noted : (calls calls2 : List MemEntry) (call : MemEntry) (old new : List MemFile) (fails : List ℕ) (made counts : ℕ) → AnswerIs calls call → IsNoNumber call → IsKept calls old fails made → calls2 ≡ calls ++ call ∷ [] → Changes old new call
    → counts ≡ (if is_call call then 1 else 0) → IsKept calls2 new fails (made + counts)
noted calls calls2 call old new fails made counts gives plain kept is changes count_is =
    subst (λ (l : List MemEntry). IsKept l new fails (made + counts)) (sym is)
    (subst (λ (n : ℕ). IsKept (calls ++ call ∷ []) new fails (made + n)) (sym count_is) (kept-push calls call old new fails made gives plain kept changes))

at_most_one : (b : Bool) → (let n : ℕ = if b then 1 else 0 in n ≤ 1)
at_most_one true = omega arith
at_most_one false = omega arith

pub counts-le : (calls calls2 : List MemEntry) (call : MemEntry) (made counts : ℕ) → made ≡ made_of calls → counts ≡ (if is_call call then 1 else 0) → calls2 ≡ calls ++ call ∷ [] → length calls2 < 2 ^ 63 → made + counts < 2 ^ 64
counts-le calls calls2 call made counts made_is count_is is lt =
    let long : length calls2 ≡ length calls + 1 = ap (λ (l : List MemEntry). length l) is ∙ length-append calls (call ∷ []) in
    omega (arith, made_is, count_is, long, lt, made-le calls, at_most_one (is_call call))
