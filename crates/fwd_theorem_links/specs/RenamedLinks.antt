-- The same trace with other link numbers.
use Rattle.std.specs.Prelude.{ℕ, List, [], ◌∷◌, map, option_map}
use Rattle.fwd_base.specs.declared.ids.LinkId.{LinkId}
use Rattle.fwd_outside.specs.Program.{entry}
use Rattle.fwd_outside.specs.Loop.{LoopCall, LoopAnswer, Wait, Dial, Push, Close}
use Rattle.fwd_outside.specs.declared.happening.Happening.{Happening}
use Rattle.fwd_outside.specs.declared.happening.Happening.TheVariants as happening
use Rattle.fwd_flush.specs.declared.stage.Stage.{Stage}
use Rattle.fwd_flush.specs.declared.stage.Stage.TheVariants.{Opening, Writing, AwaitingAck, Ended}
use Rattle.fwd_flush.specs.FlushProgram.{Progress}
use Rattle.fwd_model.specs.Fact.{Outcome, InFlight, Fact, Happened, OnRoute, History}
use Rattle.fwd_model.specs.Trace.{Call, OnLoop, Note, Answer, TraceEntry}
use Rattle.fwd_model.specs.Run.{RunResult}

module _ (rename : ℕ → ℕ) where
  abbrev pub renamed_link : LinkId → LinkId
  renamed_link link = record { 0 = rename link.0 }

  -- an event of the loop
  abbrev pub renamed_event : Happening → Happening
  renamed_event (happening.Room link) = happening.Room (renamed_link link)
  renamed_event (happening.Back link bytes) = happening.Back (renamed_link link) bytes
  renamed_event (happening.Broken link) = happening.Broken (renamed_link link)
  renamed_event event = event

  -- the progress of a flush
  abbrev pub renamed_stage : Stage → Stage
  renamed_stage Opening = Opening
  renamed_stage (Writing link) = Writing (renamed_link link)
  renamed_stage (AwaitingAck link) = AwaitingAck (renamed_link link)
  renamed_stage (Ended answer) = Ended answer

  abbrev pub renamed_progress : Progress → Progress
  renamed_progress p = record p { stage = renamed_stage p.stage }

  -- logged facts
  abbrev pub renamed_outcome : Outcome → Outcome
  renamed_outcome (InFlight progress) = InFlight (renamed_progress progress)
  renamed_outcome outcome = outcome

  abbrev pub renamed_fact : Fact → Fact
  renamed_fact (Happened event) = Happened (renamed_event event)
  renamed_fact (OnRoute r outcome) = OnRoute r (renamed_outcome outcome)
  renamed_fact fact = fact

  abbrev pub renamed_history : History → History
  renamed_history h = map renamed_fact h

  abbrev pub renamed_result : RunResult → RunResult
  renamed_result result = record result { history = renamed_history result.history }

  -- calls on the loop and their answers; a dial's answer is a link
  abbrev pub renamed_loop_call : LoopCall → LoopCall
  renamed_loop_call (Push link bytes) = Push (rename link) bytes
  renamed_loop_call (Close link) = Close (rename link)
  renamed_loop_call call = call

  abbrev pub renamed_loop_answer : (call : LoopCall) → LoopAnswer call
      → LoopAnswer (renamed_loop_call call)
  renamed_loop_answer (Wait until paused) event = renamed_event event
  renamed_loop_answer (Dial output tag) link = option_map rename link
  renamed_loop_answer call answer = answer

  -- a trace
  abbrev pub renamed_call : Call → Call
  renamed_call (OnLoop call) = OnLoop (renamed_loop_call call)
  renamed_call (Note fact) = Note (renamed_fact fact)
  renamed_call call = call

  abbrev pub renamed_answer : (call : Call) → Answer call → Answer (renamed_call call)
  renamed_answer (OnLoop call) answer = renamed_loop_answer call answer
  renamed_answer call answer = answer

  abbrev pub renamed_trace : List TraceEntry → List TraceEntry
  renamed_trace [] = []
  renamed_trace (e ∷ es) =
      entry (renamed_call e.call) (renamed_answer e.call e.answer) ∷ renamed_trace es
