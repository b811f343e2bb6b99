-- The calls and facts before a point of a run, the newest first.
use Rattle.std.specs.Prelude.{List, [], ◌∷◌, Option, Some, None}
use Rattle.fwd_outside.specs.Loop.{Wait}
use Rattle.fwd_outside.specs.declared.happening.Happening.{Happening}
use Rattle.fwd_model.specs.Fact.{Fact, History}
use Rattle.fwd_model.specs.Trace.{Call, Answer, TraceEntry, OnLoop, Note, history_after_call}

abbrev pub Past : Type 0
Past = List TraceEntry

-- the facts, the newest first
abbrev pub logged : Past → History
logged [] = []
logged (e ∷ past) = history_after_call e.call (logged past)

-- after further entries, which are given oldest first
abbrev pub past_after : Past → List TraceEntry → Past
past_after past [] = past
past_after past (e ∷ es) = past_after (e ∷ past) es

-- the event that a wait returned
abbrev pub event_by : (call : Call) → Answer call → Option Happening
event_by (OnLoop (Wait until paused)) brought = Some brought
event_by call answer = None

-- the event of the wait that was the last call
abbrev pub last_event : Past → Option Happening
last_event [] = None
last_event (e ∷ past) = event_by e.call e.answer

abbrev pub fact_by : Call → Option Fact
fact_by (Note fact) = Some fact
fact_by call = None

-- the fact of the last entry
abbrev pub last_fact : Past → Option Fact
last_fact [] = None
last_fact (e ∷ past) = fact_by e.call

-- the last call
abbrev pub last_call : Past → Option Call
last_call [] = None
last_call (e ∷ past) = Some e.call
