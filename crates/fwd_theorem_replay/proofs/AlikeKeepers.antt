-- Keepers in memory with the same first offsets answer the same calls the same.
use Rattle.std.proofs.Common.{◌≡◌, ℕ, Option, Some, None, if◌then◌else◌, List, [], ◌∷◌, ◌++◌, sym, refl, ap}
use Rattle.fwd_keeper.specs.Keeper.{KeeperCall, KeeperAnswer, KeeperEntry, KeeperGiven, Get, Put, FailAt, is_of}
use Rattle.fwd_keeper_mem.specs.KeeperAnswers.{works, offsets_after, offsets_after_all, answer_after, IsPlayed}
use Rattle.fwd_keeper_mem.specs.Offsets.{SameOffsets}

pub same_itself : (offsets : KeeperGiven) → SameOffsets offsets offsets
same_itself offsets db path = refl

pub same_back : (offsets offsets2 : KeeperGiven) → SameOffsets offsets offsets2 → SameOffsets offsets2 offsets
same_back offsets offsets2 same db path = sym (same db path)

-- after a call, and after calls
same_then : (offsets offsets2 : KeeperGiven) (call : KeeperCall) (answer : KeeperAnswer call) → SameOffsets offsets offsets2 → SameOffsets (offsets_after offsets call answer) (offsets_after offsets2 call answer)
same_then offsets offsets2 (Get db path) answer same = same
same_then offsets offsets2 (Put db path place) None same = same
same_then offsets offsets2 (Put db path place) (Some done) same =
    λ other_db other_path. ap (λ (o : Option ℕ). if is_of other_db other_path db path then Some place else o) (same other_db other_path)
same_then offsets offsets2 (FailAt number) answer same = same

pub same_after : (offsets offsets2 : KeeperGiven) (es : List KeeperEntry) → SameOffsets offsets offsets2 → SameOffsets (offsets_after_all offsets es) (offsets_after_all offsets2 es)
same_after offsets offsets2 [] same = same
same_after offsets offsets2 (e ∷ es) same = same_after (offsets_after offsets e.call e.answer) (offsets_after offsets2 e.call e.answer) es (same_then offsets offsets2 e.call e.answer same)

pub same_kept : (offsets offsets2 : KeeperGiven) (es : List KeeperEntry) (call : KeeperCall) → SameOffsets offsets offsets2 → answer_after offsets2 es call ≡ answer_after offsets es call
same_kept offsets offsets2 es (Get db path) same = ap (λ (o : Option ℕ). if works es then Some o else None) (sym (same_after offsets offsets2 es same db path))
same_kept offsets offsets2 es (Put db path place) same = refl
same_kept offsets offsets2 es (FailAt number) same = refl

-- the first calls are answered so too
pub kept_first : (offsets : KeeperGiven) (before es more : List KeeperEntry) → IsPlayed offsets before (es ++ more) → IsPlayed offsets before es
kept_first offsets before [] more played = tt
kept_first offsets before (e ∷ es) more played = (played.0, kept_first offsets (before ++ e ∷ []) es more played.1)
