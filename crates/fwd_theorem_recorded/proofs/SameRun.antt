-- A schedule determines its run.
use Rattle.std.proofs.Common.{◌≡◌, ℕ, ◌+◌, List, [], ◌∷◌, ◌++◌, None, refl, sym, ap, ◌∙◌, subst, arith, append-nil, append_assoc}
use Rattle.fwd_outside.specs.Program.{entry, Return, Ask, Execution}
use Rattle.fwd_settings.specs.Endpoints.{ends_of}
use Rattle.fwd_settings.specs.declared.settings_types.AllSettings.{AllSettings}
use Rattle.fwd_script.specs.declared.schedule.Life.{Life}
use Rattle.fwd_script_loop.specs.Lines.{given_of}
use Rattle.fwd_script_loop.specs.Place.{beginning}
use Rattle.fwd_model.specs.Trace.{Action, TraceEntry}
use Rattle.fwd_model.specs.Run.{RunResult, TurnsSpent, life}
use Rattle.fwd_secure.specs.Handshakes.{Handshakes, no_handshakes}
use Rattle.fwd_secure_settings.specs.Keys.{keys_of}
use Rattle.fwd_secure_trace.specs.Secured.{secured}
use Rattle.fwd_secure_trace.proofs.Secured.{action_secured}
use Rattle.fwd_replay.specs.Runs.{Start, IsLife, disk_of, course_of}
use Rattle.fwd_theorem_replay.proofs.AlikeDisks.{alike_itself}
use Rattle.fwd_theorem_replay.proofs.AlikeKeepers.{same_itself}
use Rattle.fwd_theorem_replay.proofs.CommonPrefix.{Answers, passes, ends_same}
use Rattle.fwd_theorem_replay.proofs.CutPoint.{all_answers}
use Rattle.fwd_theorem_runs.proofs.MoreTurns.{ended_is_same}
use Rattle.fwd_theorem_recorded.specs.SameRun.{IsSameRun}

-- ---- an action that returns its trace too

abbrev traced : {R : Type 0} → List TraceEntry → Action R → Action (R × List TraceEntry)
traced so_far (Return x) = Return (x, so_far)
traced so_far (Ask call go) = Ask call (λ answer. traced (so_far ++ entry call answer ∷ []) (go answer))

way_traced : {R : Type 0} (so_far : List TraceEntry) (p q : Action R) (es : List TraceEntry) → Execution p es q → Execution (traced so_far p) es (traced (so_far ++ es) q)
way_traced so_far p q [] way = ap (λ (l : List TraceEntry). traced l q) (append-nil so_far) ∙ ap (traced so_far) way
way_traced so_far (Return x) q (e ∷ es) way = absurd way
way_traced so_far (Ask call go) q (e ∷ es) way =
    let rest = way_traced (so_far ++ entry call way.0 ∷ []) (go way.0) q es way.2 in
    let joined : (so_far ++ entry call way.0 ∷ []) ++ es ≡ so_far ++ e ∷ es = append_assoc so_far (entry call way.0 ∷ []) es ∙ ap (λ (f : TraceEntry). so_far ++ f ∷ es) (sym way.1) in
    (way.0, way.1, subst (λ (l : List TraceEntry). Execution (traced (so_far ++ entry call way.0 ∷ []) (go way.0)) es (traced l q)) joined rest)

abbrev Outcome : Type 0
Outcome = (RunResult × List TraceEntry) × Handshakes

module _ (s : AllSettings) (start : Start) (planned : Life) where
  abbrev whole : ℕ → Action Outcome
  whole turns = secured (keys_of s) no_handshakes (traced [] (life s (ends_of s) None turns))

  module _ (turns : ℕ) (trace : List TraceEntry) (comes : RunResult) (is : IsLife s turns start planned trace comes) where
    way_of : Execution (whole turns) is.below (Return ((comes, trace), is.handshakes))
    way_of =
        action_secured (keys_of s) no_handshakes is.handshakes (traced [] (life s (ends_of s) None turns)) (Return (comes, trace)) trace is.below
        (way_traced [] (life s (ends_of s) None turns) (Return comes) trace is.way) is.secured

    answers_of : Answers (beginning (given_of planned)) (disk_of start planned) (course_of start planned) start.offsets [] is.below is.asked
    answers_of = all_answers start planned (course_of start planned) refl is.below is.asked is.answered

    -- with more turns
    abbrev longer : (more : ℕ) → (comes.end ≡ TurnsSpent → ⊥) → IsLife s (turns + more) start planned trace comes
    longer more left = record {
      way = ended_is_same s None more (ends_of s) turns trace comes left is.way;
      answers = is.answers;
      below = is.below;
      handshakes = is.handshakes;
      secured = is.secured;
      asked = is.asked;
      answered = is.answered;
      uncut = is.uncut;
    }

  same_turns : (turns : ℕ) (trace trace2 : List TraceEntry) (comes comes2 : RunResult) (one : IsLife s turns start planned trace comes) (other : IsLife s turns start planned trace2 comes2)
      → (other.below ≡ one.below) × (◌≡◌ {A = Outcome} ((comes2, trace2), other.handshakes) ((comes, trace), one.handshakes))
  same_turns turns trace trace2 comes comes2 one other =
      let done : Outcome = ((comes, trace), one.handshakes) in
      let done2 : Outcome = ((comes2, trace2), other.handshakes) in
      ends_same done done2 one.below other.below
      (passes (whole turns) (beginning (given_of planned)) (disk_of start planned) (disk_of start planned) (course_of start planned) start.offsets start.offsets [] one.below other.below one.asked other.asked (Return done) done2
      (alike_itself (disk_of start planned)) (same_itself start.offsets) (way_of turns trace comes one) (way_of turns trace2 comes2 other) (answers_of turns trace comes one) (answers_of turns trace2 comes2 other))

  pub same_run : (turns turns2 : ℕ) (trace trace2 : List TraceEntry) (comes comes2 : RunResult) (one : IsLife s turns start planned trace comes) (other : IsLife s turns2 start planned trace2 comes2)
      → (comes.end ≡ TurnsSpent → ⊥) → (comes2.end ≡ TurnsSpent → ⊥) → IsSameRun trace one.below comes trace2 other.below comes2
  same_run turns turns2 trace trace2 comes comes2 one other left left2 =
      let more = longer turns trace comes one turns2 left in
      let more2 = longer turns2 trace2 comes2 other turns left2 in
      let both : turns2 + turns ≡ turns + turns2 = omega arith in
      let by : (n : ℕ) → n ≡ turns + turns2 → (other2 : IsLife s n start planned trace2 comes2) → (other2.below ≡ one.below) × (◌≡◌ {A = Outcome} ((comes2, trace2), other2.handshakes) ((comes, trace), one.handshakes)) =
      λ n is. subst (λ (m : ℕ). (other2 : IsLife s m start planned trace2 comes2) → (other2.below ≡ one.below) × (◌≡◌ {A = Outcome} ((comes2, trace2), other2.handshakes) ((comes, trace), one.handshakes))) (sym is)
      (λ other2. same_turns (turns + turns2) trace trace2 comes comes2 more other2) in
      let same = by (turns2 + turns) both more2 in
      record { same_trace = ap (λ (o : Outcome). o.0.1) same.1; same_below = same.0; same_result = ap (λ (o : Outcome). o.0.0) same.1 }
