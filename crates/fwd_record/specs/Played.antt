-- The calls that a replay of a recorded run makes, and when it makes them.
use Rattle.std.specs.Prelude.{◌≡◌, ℕ, List, [], ◌∷◌, map, Some, None, option_map}
use Rattle.fwd_outside.specs.Program.{entry}
use Rattle.fwd_outside.specs.declared.happening.Happening.{Happening}
use Rattle.fwd_outside.specs.declared.happening.Happening.TheVariants as happening
use Rattle.fwd_outside.specs.Loop.{LoopCall, LoopAnswer, LoopEntry, Start, Wait, Dial, Push, Close, Reply, DropConn, Word, Broke}
use Rattle.fwd_record.specs.Seen.{Seen, Answered, Stopped}
use Rattle.fwd_record.specs.Links.{Links, output_at, links_after}
use Rattle.fwd_record.specs.Recorded.{heard_in, happening_named}

module _ (numbers : ℕ → ℕ) where
  -- a call with other numbers of its links
  abbrev pub call_named : (call : LoopCall) → LoopAnswer call → LoopEntry
  call_named (Start ends) answer = entry (Start ends) answer
  call_named (Wait until paused) brought = entry (Wait until paused) (happening_named numbers brought)
  call_named (Dial output tag) answer = entry (Dial output tag) (option_map numbers answer)
  call_named (Push link bytes) answer = entry (Push (numbers link) bytes) answer
  call_named (Close link) answer = entry (Close (numbers link)) answer
  call_named (Reply conn bytes) answer = entry (Reply conn bytes) answer
  call_named (DropConn conn) answer = entry (DropConn conn) answer
  call_named Word answer = entry Word answer

  -- where the run was stopped, a wait brings the stop
  abbrev pub replayed_at : (until paused : ℕ) → Seen → LoopEntry
  replayed_at until paused (Answered e) = call_named e.call e.answer
  replayed_at until paused Stopped = entry (Wait until paused) happening.Stop

  abbrev pub replayed : (until paused : ℕ) → List Seen → List LoopEntry
  replayed until paused seen = map (replayed_at until paused) seen

-- the end came last
abbrev pub EndsLast : Happening → List Happening → Type 0
EndsLast happening.End later = later ≡ []
EndsLast brought later = Unit {0}

-- A schedule can't make a start fail, bring an event after the end, or let a link that isn't open accept
-- bytes. `later`: the events after this call.
abbrev pub CanReplay : Links → (call : LoopCall) → LoopAnswer call → List Happening → Type 0
CanReplay so_far (Start ends) answer later = answer ≡ Some tt
CanReplay so_far (Wait until paused) brought later = EndsLast brought later
CanReplay so_far (Push link bytes) answer later = output_at so_far link ≡ None → answer ≡ Broke
CanReplay so_far call answer later = Unit {0}

abbrev pub AreReplayable : Links → List Seen → Type 0
AreReplayable so_far [] = Unit {0}
AreReplayable so_far (Answered e ∷ seen) =
    CanReplay so_far e.call e.answer (heard_in seen) × AreReplayable (links_after so_far e.call e.answer) seen
AreReplayable so_far (Stopped ∷ seen) = AreReplayable so_far seen
