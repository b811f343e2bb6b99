-- The answers of files in memory, as a function of their initial content and their record.
use Rattle.std.specs.Prelude.{◌≡◌, ℕ, ◌+◌, ◌==◌, Bool, true, false, not, if◌then◌else◌, List, [], ◌∷◌, ◌++◌, length, take, drop, Option, None}
use Rattle.std.specs.Option.{option_map}
use Rattle.std.specs.List.{list_any}
use Rattle.fwd_outside.specs.Files.{FilesCall, FilesAnswer, FilesEntry, FilesGiven, Length, ReadAt, Changed, FailAt, found, files_after_all}

-- how many entries are calls, and the numbers of the calls that are to fail
abbrev pub is_made : FilesCall → Bool
is_made (Length path) = true
is_made (ReadAt path at max) = true
is_made (Changed path bytes) = false
is_made (FailAt number) = false

abbrev pub made_of : List FilesEntry → ℕ
made_of [] = 0
made_of (e ∷ es) = (if is_made e.call then 1 else 0) + made_of es

abbrev pub to_fail : FilesCall → List ℕ
to_fail (Length path) = []
to_fail (ReadAt path at max) = []
to_fail (Changed path bytes) = []
to_fail (FailAt number) = number ∷ []

abbrev pub fails_of : List FilesEntry → List ℕ
fails_of [] = []
fails_of (e ∷ es) = to_fail e.call ++ fails_of es

-- the next call, counted from 1, isn't to fail
abbrev pub works : List FilesEntry → Bool
works es = not (list_any (λ number. number == made_of es + 1) (fails_of es))

-- the bytes that the next call reads from; `None` if it fails
abbrev pub readable_after : FilesGiven → List FilesEntry → List ℕ → Option (List ℕ)
readable_after given es path = if works es then found (files_after_all given es) path else None

abbrev pub answer_behind : FilesGiven → List FilesEntry → (call : FilesCall) → FilesAnswer call
answer_behind given es (Length path) = option_map length (readable_after given es path)
answer_behind given es (ReadAt path at max) =
    option_map (λ bytes. take max (drop at bytes)) (readable_after given es path)
answer_behind given es (Changed path bytes) = tt
answer_behind given es (FailAt number) = tt

-- each of these calls, after the others, has the answer that the files give
abbrev pub IsPlayed : FilesGiven → List FilesEntry → List FilesEntry → Type 0
IsPlayed given before [] = Unit {0}
IsPlayed given before (e ∷ es) =
    (e.answer ≡ answer_behind given before e.call) × IsPlayed given (before ++ e ∷ []) es
