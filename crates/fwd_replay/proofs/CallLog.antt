-- The call log of a loop in memory that has one.
use Rattle.std.proofs.Common.{◌≡◌, Bool, true, false, if◌then◌else◌, List, ◌++◌, Some, None, ap, ◌∙◌}
use Rattle.fwd_outside.specs.Log.{LogGrew}
use Rattle.fwd_outside.specs.Loop.{LoopEntry, LoopGiven}
use Rattle.fwd_script_loop.specs.ScriptRun.{told_of}
use Rattle.fwd_script_loop.specs.Lines.{given_in}
use Rattle.fwd_script_loop.specs.ScriptState.{ScriptState}
use Rattle.fwd_script_loop.specs.Told.{entries_of}

same_told : (a b : LoopGiven × List LoopEntry) → Some a ≡ Some b → (a.0 ≡ b.0) × (a.1 ≡ b.1)
same_told a b is = let same : a ≡ b = cc is in (ap (λ (p : LoopGiven × List LoopEntry). p.0) same, ap (λ (p : LoopGiven × List LoopEntry). p.1) same)

tells : (silent : Bool) (now call_log : LoopGiven × List LoopEntry) → (if silent then None else Some now) ≡ Some call_log → (now.0 ≡ call_log.0) × (now.1 ≡ call_log.1)
tells true now call_log is = absurd (cc is)
tells false now call_log is = same_told now call_log is

-- a script with this log has these calls
pub told_is : (script : ScriptState) (given : LoopGiven) (entries : List LoopEntry) → told_of script ≡ Some (given, entries)
    → (given_in script.lines script.answers ≡ given) × (entries_of script.notes ≡ entries)
told_is script given entries is =
    let now : LoopGiven × List LoopEntry = (given_in script.lines script.answers, entries_of script.notes) in
    let call_log : LoopGiven × List LoopEntry = (given, entries) in
    tells script.fails_to_start now call_log is

abbrev calls : LoopGiven → List LoopEntry → LoopGiven × List LoopEntry
calls given entries = (given, entries)

grown : (silent : Bool) (given now : LoopGiven) (old new entries : List LoopEntry) → LogGrew (Some (given, old)) (if silent then None else Some (calls now new)) entries
    → (if silent then None else Some (calls now new)) ≡ Some (given, old ++ entries)
grown true given now old new entries grew = absurd grew
grown false given now old new entries grew = ap (λ (g : LoopGiven). Some (calls g new)) grew.0 ∙ ap (λ (es : List LoopEntry). Some (calls given es)) grew.1

-- the log after further calls
pub told_grown : (script : ScriptState) (given : LoopGiven) (old entries : List LoopEntry) → LogGrew (Some (given, old)) (told_of script) entries → told_of script ≡ Some (given, old ++ entries)
told_grown script given old entries grew = grown script.fails_to_start given (given_in script.lines script.answers) old (entries_of script.notes) entries grew
