-- The answers of a keeper in memory, as a function of its first offsets and the calls before.
use Rattle.std.specs.Prelude.{◌≡◌, ℕ, ◌+◌, ◌==◌, Bool, not, if◌then◌else◌, List, [], ◌∷◌, ◌++◌, Some, None}
use Rattle.std.specs.List.{list_any}
use Rattle.fwd_keeper.specs.Keeper.{KeeperCall, KeeperAnswer, KeeperEntry, KeeperGiven, Get, Put, FailAt, found}

-- how many entries are calls, and the numbers of the calls that are to fail
abbrev pub calls_by : KeeperCall → ℕ
calls_by (Get db path) = 1
calls_by (Put db path place) = 1
calls_by (FailAt number) = 0

abbrev pub calls_in : List KeeperEntry → ℕ
calls_in [] = 0
calls_in (e ∷ es) = calls_by e.call + calls_in es

abbrev pub to_fail : KeeperCall → List ℕ
to_fail (Get db path) = []
to_fail (Put db path place) = []
to_fail (FailAt number) = number ∷ []

abbrev pub fails_in : List KeeperEntry → List ℕ
fails_in [] = []
fails_in (e ∷ es) = to_fail e.call ++ fails_in es

-- whether the next call, counted from 1, isn't to fail
abbrev pub works : List KeeperEntry → Bool
works es = not (list_any (λ number. number == calls_in es + 1) (fails_in es))

-- the offsets after a call; a put that failed changes none
abbrev pub offsets_after : KeeperGiven → (call : KeeperCall) → KeeperAnswer call → KeeperGiven
offsets_after offsets (Get db path) answer = offsets
offsets_after offsets (Put db path place) (Some done) = ((db, path), place) ∷ offsets
offsets_after offsets (Put db path place) None = offsets
offsets_after offsets (FailAt number) answer = offsets

abbrev pub offsets_after_all : KeeperGiven → List KeeperEntry → KeeperGiven
offsets_after_all offsets [] = offsets
offsets_after_all offsets (e ∷ es) = offsets_after_all (offsets_after offsets e.call e.answer) es

-- the answer to the next call
abbrev pub answer_after : KeeperGiven → List KeeperEntry → (call : KeeperCall) → KeeperAnswer call
answer_after given es (Get db path) =
    if works es then Some (found (offsets_after_all given es) db path) else None
answer_after given es (Put db path place) = if works es then Some tt else None
answer_after given es (FailAt number) = tt

-- each of these calls, after the others, has the answer that the keeper gives
abbrev pub IsPlayed : KeeperGiven → List KeeperEntry → List KeeperEntry → Type 0
IsPlayed given before [] = Unit {0}
IsPlayed given before (e ∷ es) =
    (e.answer ≡ answer_after given before e.call) × IsPlayed given (before ++ e ∷ []) es

-- the answer of a keeper that has these offsets and isn't to fail
abbrev pub answer_with : KeeperGiven → (call : KeeperCall) → KeeperAnswer call
answer_with offsets (Get db path) = Some (found offsets db path)
answer_with offsets (Put db path place) = Some tt
answer_with offsets (FailAt number) = tt

-- none of these calls fails: each has the answer of a keeper with the offsets after the calls before it
abbrev pub IsUnfailing : KeeperGiven → List KeeperEntry → Type 0
IsUnfailing offsets [] = Unit {0}
IsUnfailing offsets (e ∷ es) =
    (e.answer ≡ answer_with offsets e.call) × IsUnfailing (offsets_after offsets e.call e.answer) es
