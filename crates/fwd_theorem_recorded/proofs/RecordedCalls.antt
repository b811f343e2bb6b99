-- The calls that a recorder saw, and the replay of them.
use Rattle.std.proofs.Common.{◌≡◌, ℕ, Bool, false, List, [], ◌∷◌, ◌++◌, map, refl, sym, ap, ◌∙◌, subst}
use Rattle.fwd_outside.specs.Program.{entry}
use Rattle.fwd_outside.specs.Loop.{LoopCall, LoopAnswer, LoopEntry, Start, Wait, Dial, Push, Close, Reply, DropConn, Word}
use Rattle.fwd_outside.specs.NewLinks.{greatest_by, AreNewLinks}
use Rattle.fwd_outside.specs.declared.happening.Happening.{Happening}
use Rattle.fwd_outside.specs.declared.happening.Happening.TheVariants as happening
use Rattle.fwd_script.specs.declared.schedule.Given.{Given}
use Rattle.fwd_record.specs.Seen.{Seen, Answered, Stopped, calls_of}
use Rattle.fwd_record.specs.Links.{Links, no_links, links_in, links_by, links_after}
use Rattle.fwd_record.specs.Recorded.{heard_by, heard_in, happening_named, line_of, given_by, answers_in, recorded}
use Rattle.fwd_record.specs.Allowed.{IsAllowed, AreAllowed}
use Rattle.fwd_record.specs.Played.{call_named, replayed, CanReplay, AreReplayable}
use Rattle.fwd_theorem_links.specs.RenamedLinks.{renamed_event}
use Rattle.fwd_theorem_recorded.proofs.LoopSimulation.{renamed_loop_entry, renamed_calls}

pub calls_answered : (es : List LoopEntry) → calls_of (map Answered es) ≡ es
calls_answered [] = refl
calls_answered (e ∷ es) = ap (λ (l : List LoopEntry). e ∷ l) (calls_answered es)

-- ---- a last wait for the end

module _ (until paused : ℕ) where
  abbrev pub for_end : LoopEntry
  for_end = entry (Wait until paused) happening.End

  pub calls_end : (seen : List Seen) → calls_of (seen ++ Answered for_end ∷ []) ≡ calls_of seen ++ for_end ∷ []
  calls_end [] = refl
  calls_end (Answered e ∷ seen) = ap (λ (l : List LoopEntry). e ∷ l) (calls_end seen)
  calls_end (Stopped ∷ seen) = calls_end seen

  heard_end : (seen : List Seen) → heard_in (seen ++ Answered for_end ∷ []) ≡ heard_in seen
  heard_end [] = refl
  heard_end (Answered e ∷ seen) = ap (λ (l : List Happening). heard_by e.call e.answer ++ l) (heard_end seen)
  heard_end (Stopped ∷ seen) = ap (λ (l : List Happening). happening.Stop ∷ l) (heard_end seen)

  links_end : (es : List LoopEntry) → links_in (es ++ for_end ∷ []) ≡ links_in es
  links_end [] = refl
  links_end (e ∷ es) = ap (λ (l : List ℕ). links_by e.call e.answer ++ l) (links_end es)

  answers_end : (so_far : Links) (es : List LoopEntry) → answers_in so_far (es ++ for_end ∷ []) ≡ answers_in so_far es
  answers_end so_far [] = refl
  answers_end so_far (e ∷ es) = ap (λ (l : List Given). given_by so_far e.call e.answer ++ l) (answers_end (links_after so_far e.call e.answer) es)

  pub all_end : (seen : List Seen) → links_in (calls_of (seen ++ Answered for_end ∷ [])) ≡ links_in (calls_of seen)
  all_end seen = ap links_in (calls_end seen) ∙ links_end (calls_of seen)

  -- it isn't recorded
  pub recorded_end : (seen : List Seen) (failed : List ℕ) → recorded (seen ++ Answered for_end ∷ []) failed ≡ recorded seen failed
  recorded_end seen failed =
      ap (λ (links : List ℕ). record (recorded (seen ++ Answered for_end ∷ []) failed) { lines = map (line_of links) (heard_in (seen ++ Answered for_end ∷ [])) }) (all_end seen)
      ∙ ap (λ (heard : List Happening). record (recorded (seen ++ Answered for_end ∷ []) failed) { lines = map (line_of (links_in (calls_of seen))) heard }) (heard_end seen)
      ∙ ap (λ (answers : List Given). record (recorded seen failed) { answers = answers }) (ap (answers_in no_links) (calls_end seen) ∙ answers_end no_links (calls_of seen))

  -- ---- what a loop may answer

  allowed_by : (endless : Bool) (call : LoopCall) (answer : LoopAnswer call) → IsAllowed endless call answer → IsAllowed false call answer
  allowed_by endless (Wait u p) happening.End is = refl
  allowed_by endless (Wait u p) (happening.Tick now) is = is
  allowed_by endless (Wait u p) (happening.Joined input conn) is = is
  allowed_by endless (Wait u p) (happening.Piece input conn bytes) is = is
  allowed_by endless (Wait u p) (happening.Gone input conn) is = is
  allowed_by endless (Wait u p) (happening.Room link) is = is
  allowed_by endless (Wait u p) (happening.Back link bytes) is = is
  allowed_by endless (Wait u p) (happening.Broken link) is = is
  allowed_by endless (Wait u p) (happening.InputEnd input) is = is
  allowed_by endless (Wait u p) happening.Stop is = is
  allowed_by endless (Wait u p) happening.Failed is = is
  allowed_by endless (Start ends) answer is = is
  allowed_by endless (Dial output tag) answer is = is
  allowed_by endless (Push link bytes) answer is = is
  allowed_by endless (Close link) answer is = is
  allowed_by endless (Reply conn bytes) answer is = is
  allowed_by endless (DropConn conn) answer is = is
  allowed_by endless Word answer is = is

  pub allowed_end : (endless : Bool) (es : List LoopEntry) → AreAllowed endless es → AreAllowed false (es ++ for_end ∷ [])
  allowed_end endless [] are = (refl, tt)
  allowed_end endless (e ∷ es) are = (allowed_by endless e.call e.answer are.0, allowed_end endless es are.1)

  pub new_end : (greatest : ℕ) (es : List LoopEntry) → AreNewLinks greatest es → AreNewLinks greatest (es ++ for_end ∷ [])
  new_end greatest [] new = (tt, tt)
  new_end greatest (e ∷ es) new = (new.0, new_end (greatest_by greatest e.call e.answer) es new.1)

  can_by : (so_far : Links) (call : LoopCall) (answer : LoopAnswer call) (later later2 : List Happening) → later2 ≡ later → CanReplay so_far call answer later → CanReplay so_far call answer later2
  can_by so_far call answer later later2 same can = subst (CanReplay so_far call answer) (sym same) can

  pub replayable_end : (so_far : Links) (seen : List Seen) → AreReplayable so_far seen → AreReplayable so_far (seen ++ Answered for_end ∷ [])
  replayable_end so_far [] can = (refl, tt)
  replayable_end so_far (Answered e ∷ seen) can =
      (can_by so_far e.call e.answer (heard_in seen) (heard_in (seen ++ Answered for_end ∷ [])) (heard_end seen) can.0, replayable_end (links_after so_far e.call e.answer) seen can.1)
  replayable_end so_far (Stopped ∷ seen) can = replayable_end so_far seen can

-- ---- by other numbers

module _ (numbers : ℕ → ℕ) where
  event_named : (x : Happening) → happening_named numbers x ≡ renamed_event numbers x
  event_named (happening.Tick now) = refl
  event_named (happening.Joined input conn) = refl
  event_named (happening.Piece input conn bytes) = refl
  event_named (happening.Gone input conn) = refl
  event_named (happening.Room link) = refl
  event_named (happening.Back link bytes) = refl
  event_named (happening.Broken link) = refl
  event_named (happening.InputEnd input) = refl
  event_named happening.Stop = refl
  event_named happening.End = refl
  event_named happening.Failed = refl

  entry_named : (call : LoopCall) (answer : LoopAnswer call) → call_named numbers call answer ≡ renamed_loop_entry numbers (entry call answer)
  entry_named (Start ends) answer = refl
  entry_named (Wait until paused) answer = ap (λ (x : Happening). entry (Wait until paused) x) (event_named answer)
  entry_named (Dial output tag) answer = refl
  entry_named (Push link bytes) answer = refl
  entry_named (Close link) answer = refl
  entry_named (Reply conn bytes) answer = refl
  entry_named (DropConn conn) answer = refl
  entry_named Word answer = refl

  pub replayed_answered : (until paused : ℕ) (es : List LoopEntry) → replayed numbers until paused (map Answered es) ≡ renamed_calls numbers es
  replayed_answered until paused [] = refl
  replayed_answered until paused (e ∷ es) =
      ap (λ (f : LoopEntry). f ∷ replayed numbers until paused (map Answered es)) (entry_named e.call e.answer)
      ∙ ap (λ (l : List LoopEntry). renamed_loop_entry numbers e ∷ l) (replayed_answered until paused es)

  pub calls_renamed_append : (xs ys : List LoopEntry) → renamed_calls numbers (xs ++ ys) ≡ renamed_calls numbers xs ++ renamed_calls numbers ys
  calls_renamed_append [] ys = refl
  calls_renamed_append (e ∷ xs) ys = ap (λ (l : List LoopEntry). renamed_loop_entry numbers e ∷ l) (calls_renamed_append xs ys)
