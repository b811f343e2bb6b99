-- The call log of a disk in memory, as steps of a disk that lists file names.
use Rattle.std.proofs.Common.{◌≡◌, ℕ, Bool, true, false, MatchBool, Option, Some, None, List, [], ◌∷◌, ◌++◌, refl, sym, ap, subst}
use Rattle.fwd_outside.specs.AtCrashPoints.{Ends}
use Rattle.fwd_outside.specs.Disk.{DiskEntry, IsListing}
use Rattle.fwd_outside.specs.DiskStates.{Files, AreNamesIn, DiskTransition}
use Rattle.fwd_disk_mem.specs.declared.entry.MemEntry.{MemEntry}
use Rattle.fwd_disk_mem.specs.declared.entry.MemEntry.TheVariants.{Place, WriteAt, Sync, Remove, Read, List as Listed, Preset, FailAt}
use Rattle.fwd_disk_mem.specs.Entry.{entry_of, entries_of, next_succeeds, files_of, AnswerIs, IsPlayed}
use Rattle.fwd_theorem_crash.specs.CrashPoint.{HasNames, IsNaming}

-- each listing returned valid file names
abbrev pub AreNaming : List DiskEntry → Type 0
AreNaming [] = Unit {0}
AreNaming (e ∷ es) = IsNaming e.call e.answer × AreNaming es

listed_names : (folder : List ℕ) (answer : Option (List (List ℕ))) (files : Files) (works_now : Bool)
    → MatchBool works_now ((names : List (List ℕ)) × (answer ≡ Some names) × IsListing names × AreNamesIn folder names files) (answer ≡ None) → HasNames answer
listed_names folder answer files true gives = subst HasNames (sym gives.1) gives.2
listed_names folder answer files false gives = subst HasNames (sym gives) tt

given_naming : (calls : List MemEntry) (call : MemEntry) → AnswerIs calls call → IsNaming (entry_of call).call (entry_of call).answer
given_naming calls (Place _ _ _) gives = tt
given_naming calls (WriteAt _ _ _ _) gives = tt
given_naming calls (Sync _ _) gives = tt
given_naming calls (Remove _ _) gives = tt
given_naming calls (Read _ _ _ _) gives = tt
given_naming calls (Listed folder answer) gives = listed_names folder answer (files_of calls) (next_succeeds calls) gives
given_naming calls (Preset _ _) gives = tt
given_naming calls (FailAt _) gives = tt

pub played_naming : (before calls : List MemEntry) → IsPlayed before calls → AreNaming (entries_of calls)
played_naming before [] played = tt
played_naming before (call ∷ calls) played = (given_naming before call played.0, played_naming (before ++ call ∷ []) calls played.1)

pub naming_first : (xs ys : List DiskEntry) → AreNaming (xs ++ ys) → AreNaming xs
naming_first [] ys naming = tt
naming_first (e ∷ xs) ys naming = (naming.0, naming_first xs ys naming.1)

pub entries_both : (xs ys : List MemEntry) → entries_of (xs ++ ys) ≡ entries_of xs ++ entries_of ys
entries_both [] ys = refl
entries_both (call ∷ xs) ys = ap (λ (es : List DiskEntry). entry_of call ∷ es) (entries_both xs ys)

-- the files between two parts of a call log
pub ends_between : (xs ys : List DiskEntry) (old new : Files) → Ends DiskTransition old (xs ++ ys) new → (between : Files) × Ends DiskTransition old xs between × Ends DiskTransition between ys new
ends_between [] ys old new ends = (old, refl, ends)
ends_between (e ∷ xs) ys old new ends = let rest = ends_between xs ys ends.1 new ends.3 in (rest.0, (ends.0, ends.1, ends.2, rest.1), rest.2)
