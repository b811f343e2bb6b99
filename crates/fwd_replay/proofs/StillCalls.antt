-- Calls that don't advance a run.
use Rattle.std.proofs.Common.{◌≡◌, ℕ, ◌+◌, Bool, true, false, ◌&&◌, is_some, List, [], ◌∷◌, ◌++◌, refl, sym, ◌∙◌, ap, subst, append_assoc}
use Rattle.fwd_outside.specs.Files.{FilesEntry}
use Rattle.fwd_outside.specs.Loop.{LoopEntry, Wait}
use Rattle.fwd_script.specs.declared.schedule.Life.{Life}
use Rattle.fwd_keeper.specs.Keeper.{KeeperEntry}
use Rattle.fwd_model.specs.Trace.{Call, Answer, TraceEntry, OnLoop, OnDisk, OnFiles, OnKeeper, Note, loop_entry, files_entry, keeper_entry, loop_part, files_part, keeper_part}
use Rattle.fwd_theorem_trace.specs.Waits.{is_wait, waits_in}
use Rattle.fwd_replay.specs.FileChanges.{Course, after_call, course_after, IsCourseAnswer, FilesAnswered, brings_last, has_last}
use Rattle.fwd_replay.specs.Runs.{Start, course_of, has_cut}
use Rattle.fwd_engine_run.proofs.OffsetActions.{IsAside, AreAside}

-- neither a wait nor on the files
abbrev pub IsStill : Call → Type 0
IsStill (OnLoop (Wait until paused)) = ⊥
IsStill (OnLoop call) = Unit {0}
IsStill (OnDisk call) = Unit {0}
IsStill (OnFiles call) = ⊥
IsStill (OnKeeper call) = Unit {0}
IsStill (Note fact) = Unit {0}

abbrev pub AreStill : List TraceEntry → Type 0
AreStill [] = Unit {0}
AreStill (e ∷ es) = IsStill e.call × AreStill es

still_call : (call : Call) (answer : Answer call) (loop : List LoopEntry) (asked : List FilesEntry) → loop_entry call answer ++ loop ≡ [] → files_entry call answer ++ asked ≡ []
    → IsStill call × (loop ≡ []) × (asked ≡ [])
still_call (OnLoop call) answer loop asked none no_file = absurd (cc none)
still_call (OnDisk call) answer loop asked none no_file = (tt, none, no_file)
still_call (OnFiles call) answer loop asked none no_file = absurd (cc no_file)
still_call (OnKeeper call) answer loop asked none no_file = (tt, none, no_file)
still_call (Note fact) answer loop asked none no_file = (tt, none, no_file)

-- calls of which none is on the loop or the files
pub still_of : (es : List TraceEntry) → loop_part es ≡ [] → files_part es ≡ [] → AreStill es
still_of [] none no_file = tt
still_of (e ∷ es) none no_file =
    let first = still_call e.call e.answer (loop_part es) (files_part es) none no_file in
    (first.0, still_of es first.1 first.2)

pub still_both : (es more : List TraceEntry) → AreStill es → AreStill more → AreStill (es ++ more)
still_both [] more first second = second
still_both (e ∷ es) more first second = (first.0, still_both es more first.1 second)

no_wait : (call : Call) → IsStill call → is_wait call ≡ false
no_wait (OnLoop (Wait until paused)) still = absurd still
no_wait (OnLoop call) still = refl
no_wait (OnDisk call) still = refl
no_wait (OnFiles call) still = refl
no_wait (OnKeeper call) still = refl
no_wait (Note fact) still = refl

pub no_waits : (es : List TraceEntry) → AreStill es → waits_in es ≡ 0
no_waits [] still = refl
no_waits (e ∷ es) still = rw (no_wait e.call still.0) (no_waits es still.1)

stays_behind_call : (course : Course) (call : Call) → IsStill call → after_call call course ≡ course
stays_behind_call course (OnLoop (Wait until paused)) still = absurd still
stays_behind_call course (OnLoop call) still = refl
stays_behind_call course (OnDisk call) still = refl
stays_behind_call course (OnFiles call) still = absurd still
stays_behind_call course (OnKeeper call) still = refl
stays_behind_call course (Note fact) still = refl

pub stays_behind : (course : Course) (es : List TraceEntry) → AreStill es → course_after course es ≡ course
stays_behind course [] still = refl
stays_behind course (e ∷ es) still = ap (λ (c : Course). course_after c es) (stays_behind_call course e.call still.0) ∙ stays_behind course es still.1

answer_of : (course : Course) (call : Call) (answer : Answer call) → IsStill call → IsCourseAnswer course call answer
answer_of course (OnLoop call) answer still = tt
answer_of course (OnDisk call) answer still = tt
answer_of course (OnFiles call) answer still = absurd still
answer_of course (OnKeeper call) answer still = tt
answer_of course (Note fact) answer still = tt

pub answers_of : (course : Course) (es : List TraceEntry) → AreStill es → FilesAnswered course es
answers_of course [] still = tt
answers_of course (e ∷ es) still = (answer_of course e.call e.answer still.0, answers_of (after_call e.call course) es still.1)

not_last : (course : Course) (call : Call) → IsStill call → brings_last call course ≡ false
not_last course (OnLoop (Wait until paused)) still = absurd still
not_last course (OnLoop call) still = refl
not_last course (OnDisk call) still = refl
not_last course (OnFiles call) still = refl
not_last course (OnKeeper call) still = refl
not_last course (Note fact) still = refl

pub none_last : (course : Course) (es : List TraceEntry) → AreStill es → has_last course es ≡ false
none_last course [] still = refl
none_last course (e ∷ es) still = rw (not_last course e.call still.0) (none_last (after_call e.call course) es still.1)

and_false : (b : Bool) → (b && false) ≡ false
and_false true = refl
and_false false = refl

pub no_cut : (start : Start) (planned : Life) (es : List TraceEntry) → AreStill es → has_cut start planned es ≡ false
no_cut start planned es still = ap (λ (b : Bool). is_some planned.cut && b) (none_last (course_of start planned) es still) ∙ and_false (is_some planned.cut)

-- calls on the keeper alone don't
aside_is : (call : Call) → IsAside call → IsStill call
aside_is (OnLoop call) is = absurd is
aside_is (OnDisk call) is = absurd is
aside_is (OnFiles call) is = absurd is
aside_is (OnKeeper call) is = tt
aside_is (Note fact) is = tt

pub aside_still : (es : List TraceEntry) → AreAside es → AreStill es
aside_still [] are = tt
aside_still (e ∷ es) are = (aside_is e.call are.0, aside_still es are.1)

pub keeper_append : (xs ys : List TraceEntry) → keeper_part (xs ++ ys) ≡ keeper_part xs ++ keeper_part ys
keeper_append [] ys = refl
keeper_append (e ∷ xs) ys = ap (λ (l : List KeeperEntry). keeper_entry e.call e.answer ++ l) (keeper_append xs ys) ∙ sym (append_assoc (keeper_entry e.call e.answer) (keeper_part xs) (keeper_part ys))
