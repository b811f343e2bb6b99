-- The calls of a run that its last tick stopped, with a wait that brings the stop.
use Rattle.std.proofs.Common.{◌≡◌, ℕ, Bool, List, [], ◌∷◌, ◌++◌, map, refl, sym, ap, ◌∙◌, append-nil}
use Rattle.fwd_outside.specs.Program.{entry}
use Rattle.fwd_outside.specs.Loop.{LoopEntry, Wait}
use Rattle.fwd_outside.specs.NewLinks.{greatest_by, AreNewLinks}
use Rattle.fwd_outside.specs.LoopAnswers.{WaitsBringBytes, AreLoopAnswers}
use Rattle.fwd_outside.specs.declared.happening.Happening.{Happening}
use Rattle.fwd_outside.specs.declared.happening.Happening.TheVariants as happening
use Rattle.fwd_script.specs.declared.schedule.Given.{Given}
use Rattle.fwd_script_loop.specs.LinkBytes.{dialed_by}
use Rattle.fwd_record.specs.Seen.{Seen, Answered, Stopped, calls_of}
use Rattle.fwd_record.specs.Links.{Links, no_links, links_in, links_by, links_after}
use Rattle.fwd_record.specs.Recorded.{heard_by, heard_in, line_of, given_by, answers_in, recorded}
use Rattle.fwd_record.specs.Allowed.{AreAllowed}
use Rattle.fwd_record.specs.Played.{replayed_at, replayed}
use Rattle.fwd_theorem_recorded.specs.HandedBytes.{taken_from, handed_from}
use Rattle.fwd_theorem_recorded.proofs.RecordedCalls.{calls_answered}

-- what was seen of a run that was stopped between these calls
abbrev pub seen_stopped : (xs ys : List LoopEntry) → List Seen
seen_stopped xs ys = map Answered xs ++ Stopped ∷ map Answered ys

module _ (until paused : ℕ) (ys : List LoopEntry) where
  abbrev pub with_stop : List LoopEntry → List LoopEntry
  with_stop xs = xs ++ entry (Wait until paused) happening.Stop ∷ ys

  pub calls_stopped : (xs : List LoopEntry) → calls_of (seen_stopped xs ys) ≡ xs ++ ys
  calls_stopped [] = calls_answered ys
  calls_stopped (x ∷ xs) = ap (λ (l : List LoopEntry). x ∷ l) (calls_stopped xs)

  pub links_stop : (xs : List LoopEntry) → links_in (with_stop xs) ≡ links_in (xs ++ ys)
  links_stop [] = refl
  links_stop (x ∷ xs) = ap (λ (l : List ℕ). links_by x.call x.answer ++ l) (links_stop xs)

  heard_stop : (xs : List LoopEntry) → heard_in (map Answered (with_stop xs)) ≡ heard_in (seen_stopped xs ys)
  heard_stop [] = refl
  heard_stop (x ∷ xs) = ap (λ (l : List Happening). heard_by x.call x.answer ++ l) (heard_stop xs)

  answers_stop : (so_far : Links) (xs : List LoopEntry) → answers_in so_far (with_stop xs) ≡ answers_in so_far (xs ++ ys)
  answers_stop so_far [] = refl
  answers_stop so_far (x ∷ xs) = ap (λ (l : List Given). given_by so_far x.call x.answer ++ l) (answers_stop (links_after so_far x.call x.answer) xs)

  -- the same links
  pub all_stop : (xs : List LoopEntry) → links_in (calls_of (map Answered (with_stop xs))) ≡ links_in (calls_of (seen_stopped xs ys))
  all_stop xs = ap links_in (calls_answered (with_stop xs)) ∙ links_stop xs ∙ ap links_in (sym (calls_stopped xs))

  -- the same life is recorded
  pub recorded_stop : (xs : List LoopEntry) (failed : List ℕ) → recorded (map Answered (with_stop xs)) failed ≡ recorded (seen_stopped xs ys) failed
  recorded_stop xs failed =
      ap (λ (links : List ℕ). record (recorded (map Answered (with_stop xs)) failed) { lines = map (line_of links) (heard_in (map Answered (with_stop xs))) }) (all_stop xs)
      ∙ ap (λ (heard : List Happening). record (recorded (map Answered (with_stop xs)) failed) { lines = map (line_of (links_in (calls_of (seen_stopped xs ys)))) heard }) (heard_stop xs)
      ∙ ap (λ (answers : List Given). record (recorded (seen_stopped xs ys) failed) { answers = answers })
      (ap (answers_in no_links) (calls_answered (with_stop xs)) ∙ answers_stop no_links xs ∙ ap (answers_in no_links) (sym (calls_stopped xs)))

  pub allowed_stop : (endless : Bool) (xs : List LoopEntry) → AreAllowed endless (xs ++ ys) → AreAllowed endless (with_stop xs)
  allowed_stop endless [] are = (tt, are)
  allowed_stop endless (x ∷ xs) are = (are.0, allowed_stop endless xs are.1)

  pub new_stop : (greatest : ℕ) (xs : List LoopEntry) → AreNewLinks greatest (xs ++ ys) → AreNewLinks greatest (with_stop xs)
  new_stop greatest [] new = (tt, new)
  new_stop greatest (x ∷ xs) new = (new.0, new_stop (greatest_by greatest x.call x.answer) xs new.1)

  bytes_stop : (xs : List LoopEntry) → WaitsBringBytes (xs ++ ys) → WaitsBringBytes (with_stop xs)
  bytes_stop [] are = (tt, are)
  bytes_stop (x ∷ xs) are = (are.0, bytes_stop xs are.1)

  pub answered_stop : (xs : List LoopEntry) → AreLoopAnswers (xs ++ ys) → AreLoopAnswers (with_stop xs)
  answered_stop xs are = record { links = new_stop 0 xs are.links; bytes = bytes_stop xs are.bytes }

  pub handed_stop : (outputs : ℕ) (links targets : List ℕ) (xs : List LoopEntry) → handed_from outputs links targets (with_stop xs) ≡ handed_from outputs links targets (xs ++ ys)
  handed_stop outputs links targets [] = ap (λ (l : List ℕ). handed_from outputs l targets ys) (append-nil links)
  handed_stop outputs links targets (x ∷ xs) =
      ap (λ (l : List ℕ). taken_from outputs links targets x.call x.answer ++ l) (handed_stop outputs (links ++ links_by x.call x.answer) (dialed_by targets x.call x.answer) xs)

  -- the same calls are replayed
  module _ (numbers : ℕ → ℕ) (u p : ℕ) where
    answered_at : (zs : List LoopEntry) → replayed numbers u p (map Answered zs) ≡ replayed numbers until paused (map Answered zs)
    answered_at [] = refl
    answered_at (z ∷ zs) = ap (λ (l : List LoopEntry). replayed_at numbers u p (Answered z) ∷ l) (answered_at zs)

    pub replayed_stop : (xs : List LoopEntry) → replayed numbers u p (map Answered (with_stop xs)) ≡ replayed numbers until paused (seen_stopped xs ys)
    replayed_stop [] = ap (λ (l : List LoopEntry). entry (Wait until paused) happening.Stop ∷ l) (answered_at ys)
    replayed_stop (x ∷ xs) = ap (λ (l : List LoopEntry). replayed_at numbers u p (Answered x) ∷ l) (replayed_stop xs)
