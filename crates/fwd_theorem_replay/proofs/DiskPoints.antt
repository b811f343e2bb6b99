-- The calls on the disk lead from point to point of a joined trace.
use Rattle.std.proofs.Common.{List, [], ◌∷◌, ◌++◌, refl, sym, ap, subst}
use Rattle.fwd_outside.specs.Program.{entry, Return, Ask, Execution}
use Rattle.fwd_outside.specs.AtCrashPoints.{Ends, AtCrashPoints}
use Rattle.fwd_outside.specs.DiskStates.{Files}
use Rattle.fwd_outside.specs.DiskStates as disk
use Rattle.fwd_model.specs.Trace.{Action, Call, Answer, OnLoop, OnDisk, OnFiles, OnKeeper, Note, TraceEntry, disk_entry, disk_part}
use Rattle.fwd_model.specs.Run.{RunResult}
use Rattle.fwd_theorem_trace.specs.Past.{Past, past_after}
use Rattle.fwd_theorem_crash.specs.CrashPoint.{CrashPoint, crash_point, LeadsTo}
use Rattle.fwd_theorem_replay.proofs.Entries.{AreNaming}

abbrev Goes : List TraceEntry → Files → Past → Files → Type 0
Goes es last past first = AreNaming (disk_part es) → Ends disk.DiskTransition first (disk_part es) last → Ends LeadsTo (crash_point past first) es (crash_point (past_after past es) last)

pub passes_along : (past : Past) (first last : Files) (es : List TraceEntry) → Goes es last past first
passes_along past first last [] naming ends = ap (crash_point past) ends
passes_along past first last (e ∷ es) naming ends = by e.call e.answer (λ now files. passes_along now files last es) naming ends
  where
    by : (call : Call) (answer : Answer call) → ((now : Past) (files : Files) → Goes es last now files) → AreNaming (disk_entry call answer ++ disk_part es) → Ends disk.DiskTransition first (disk_entry call answer ++ disk_part es) last
        → Ends LeadsTo (crash_point past first) (entry call answer ∷ es) (crash_point (past_after (entry call answer ∷ past) es) last)
    by (OnDisk call) answer more naming ends =
        let now = entry (OnDisk call) answer ∷ past in
        (crash_point past ends.0, crash_point now ends.1, ((naming.0, ends.2), refl, refl), more now ends.1 naming.1 ends.3)
    by (OnLoop call) answer more naming ends = let now = entry (OnLoop call) answer ∷ past in (crash_point past first, crash_point now first, ((refl, refl), refl, refl), more now first naming ends)
    by (OnFiles call) answer more naming ends = let now = entry (OnFiles call) answer ∷ past in (crash_point past first, crash_point now first, ((refl, refl), refl, refl), more now first naming ends)
    by (OnKeeper call) answer more naming ends = let now = entry (OnKeeper call) answer ∷ past in (crash_point past first, crash_point now first, ((refl, refl), refl, refl), more now first naming ends)
    by (Note fact) answer more naming ends = let now = entry (Note fact) answer ∷ past in (crash_point past first, crash_point now first, ((refl, refl), refl, refl), more now first naming ends)

-- what holds at each point holds at the last one
pub at_last : (P : CrashPoint → Type 0) (first last : CrashPoint) (es : List TraceEntry) → AtCrashPoints LeadsTo P first es → Ends LeadsTo first es last → P last
at_last P first last [] moments ends = subst P (sym ends) moments
at_last P first last (e ∷ es) moments ends = at_last P ends.1 last es (moments.1 ends.0 ends.1 ends.2).1 ends.3

-- the first calls of a way are a way
pub way_first : (p left : Action RunResult) (es more : List TraceEntry) → Execution p (es ++ more) left → (next : Action RunResult) × Execution p es next
way_first p left [] more way = (p, refl)
way_first (Return x) left (e ∷ es) more way = absurd way
way_first (Ask call go) left (e ∷ es) more way = let rest = way_first (go way.0) left es more way.2 in (rest.0, (way.0, way.1, rest.1))
