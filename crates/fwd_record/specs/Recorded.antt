-- What is recorded of a run: the one life of its schedule.
use Rattle.std.specs.Prelude.{ℕ, List, [], ◌∷◌, ◌++◌, map, Option, Some, None, is_some}
use Rattle.std.specs.List.{flat_map}
use Rattle.fwd_base.specs.declared.ids.LinkId.{LinkId}
use Rattle.fwd_outside.specs.declared.happening.Happening.{Happening}
use Rattle.fwd_outside.specs.declared.happening.Happening.TheVariants as happening
use Rattle.fwd_outside.specs.Loop.{LoopCall, LoopAnswer, LoopEntry, PushAnswer, Wait, Dial, Push, Reply, Word, Took, Again, Broke}
use Rattle.fwd_script.specs.declared.schedule.Life.{Life}
use Rattle.fwd_script.specs.declared.schedule.Planned.{Planned}
use Rattle.fwd_script.specs.declared.schedule.Planned.TheVariants.{Happens}
use Rattle.fwd_script.specs.declared.schedule.Given.{Given}
use Rattle.fwd_script.specs.declared.schedule.Given.TheVariants as given
use Rattle.fwd_script.specs.declared.schedule.PushWord.{PushWord}
use Rattle.fwd_script.specs.declared.schedule.PushWord.TheVariants as push
use Rattle.fwd_record.specs.Seen.{Seen, Answered, Stopped, calls_of}
use Rattle.fwd_record.specs.Links.{Links, no_links, links_in, number_of, output_at, links_after}

-- ---- events

-- the end has no line
abbrev pub unless_end : Happening → List Happening
unless_end happening.End = []
unless_end brought = brought ∷ []

abbrev pub heard_by : (call : LoopCall) → LoopAnswer call → List Happening
heard_by (Wait until paused) brought = unless_end brought
heard_by call answer = []

-- a stop stands where the run was stopped
abbrev pub heard_at : Seen → List Happening
heard_at (Answered e) = heard_by e.call e.answer
heard_at Stopped = happening.Stop ∷ []

abbrev pub heard_in : List Seen → List Happening
heard_in seen = flat_map heard_at seen

-- the event with another number of its link
module _ (numbers : ℕ → ℕ) where
  abbrev pub link_named : LinkId → LinkId
  link_named link = record { 0 = numbers link.0 }

  abbrev pub happening_named : Happening → Happening
  happening_named (happening.Room link) = happening.Room (link_named link)
  happening_named (happening.Back link bytes) = happening.Back (link_named link) bytes
  happening_named (happening.Broken link) = happening.Broken (link_named link)
  happening_named brought = brought

-- the line of an event, where dials gave these links
abbrev pub line_of : List ℕ → Happening → Planned
line_of links brought = Happens (happening_named (number_of links) brought)

-- ---- answers

abbrev pub word_of : PushAnswer → PushWord
word_of (Took bytes) = push.Took bytes
word_of Again = push.Again
word_of Broke = push.Broken

-- the answer of an output to a push; a link that isn't open has none
abbrev pub push_given : Option ℕ → PushAnswer → List Given
push_given (Some output) answer = given.Push (record { 0 = output }) (word_of answer) ∷ []
push_given None answer = []

abbrev pub given_by : Links → (call : LoopCall) → LoopAnswer call → List Given
given_by so_far (Dial output tag) answer = given.Dial (record { 0 = output }) (is_some answer) ∷ []
given_by so_far (Push link bytes) answer = push_given (output_at so_far link) answer
given_by so_far (Reply conn bytes) answer = given.Reply (is_some answer) ∷ []
given_by so_far Word answer = given.Word answer ∷ []
given_by so_far call answer = []

-- the answers of these calls, which follow those that gave these links
abbrev pub answers_in : Links → List LoopEntry → List Given
answers_in so_far [] = []
answers_in so_far (e ∷ es) =
    given_by so_far e.call e.answer ++ answers_in (links_after so_far e.call e.answer) es

-- ---- the life

-- what was heard, with links numbered from 1 by the dials of the run; what was answered; and the numbers of
-- the disk calls that failed
abbrev pub recorded : List Seen → List ℕ → Life
recorded seen failed = record {
  lines = map (line_of (links_in (calls_of seen))) (heard_in seen);
  answers = answers_in no_links (calls_of seen);
  disk_fails = failed;
  file_fails = [];
  store = [];
  cut = None;
}
