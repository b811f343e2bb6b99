-- Played calls after one more call.
use Rattle.std.proofs.Common.{◌≡◌, ℕ, Bool, false, List, [], ◌∷◌, ◌++◌, map, find, Option, Some, None, is_some, refl, sym, ap, subst, ◌∙◌}
use Rattle.std.proofs.lemmas.List.{map-append}
use Rattle.fwd_outside.specs.declared.happening.Happening.{Happening}
use Rattle.fwd_outside.specs.Loop.{LoopCall, LoopEntry, Start, Wait, Dial, Push, Close, Reply, DropConn, Word}
use Rattle.fwd_script.specs.declared.schedule.Planned.{Planned}
use Rattle.fwd_script.specs.declared.schedule.Given.{Given}
use Rattle.fwd_script_loop.specs.declared.answers.Answers.{Answers}
use Rattle.fwd_script_loop.specs.declared.call_record.LoopNote.{LoopNote}
use Rattle.fwd_script_loop.specs.declared.queue.Coming.{Coming}
use Rattle.fwd_script_loop.specs.FirstMatch.{without_first}
use Rattle.fwd_script_loop.specs.PauseMask.{happening_of, hears, is_heard, next_happening}
use Rattle.fwd_outside.specs.declared.happening.Happening.TheVariants.{End}
use Rattle.fwd_script_loop.specs.declared.call_record.LoopNote.TheVariants as note
use Rattle.fwd_script_loop.proofs.EventQueue.{next_end, without_none}
use Rattle.fwd_script_loop.proofs.AnswerSteps.{waits}
use Rattle.fwd_script_loop.specs.Lines.{coming, given_in}
use Rattle.fwd_script_loop.specs.Place.{ArePlayed, Place, after, after_push_to, answer_at, beginning, behind, output_of}
use Rattle.fwd_script.specs.declared.schedule.Life.{Life}
use Rattle.fwd_script_loop.specs.ScriptState.{ScriptState}
use Rattle.fwd_script_loop.specs.ScriptRun.{IsKept, ahead_after, ahead_after_calls, new_script}
use Rattle.fwd_script_loop.specs.AnswersLeft.{AnswersLeft}
use Rattle.fwd_script_loop.specs.Told.{entries_of, entry_of}
use Rattle.fwd_script_loop.proofs.FirstMatches.{without_map}

pub behind_append : (place : Place) (es more : List LoopEntry) → behind place (es ++ more) ≡ behind (behind place es) more
behind_append place [] more = refl
behind_append place (e ∷ es) more = behind_append (after place e.call) es more

-- played calls are played in two parts, and the converse
pub played_both : (place : Place) (es more : List LoopEntry) → ArePlayed place es → ArePlayed (behind place es) more → ArePlayed place (es ++ more)
played_both place [] more first second = second
played_both place (e ∷ es) more first second = (first.0, played_both (after place e.call) es more first.1 second)

pub played_first : (place : Place) (es more : List LoopEntry) → ArePlayed place (es ++ more) → ArePlayed place es
played_first place [] more played = tt
played_first place (e ∷ es) more played = (played.0, played_first (after place e.call) es more played.1)

pub played_second : (place : Place) (es more : List LoopEntry) → ArePlayed place (es ++ more) → ArePlayed (behind place es) more
played_second place [] more played = played
played_second place (e ∷ es) more played = played_second (after place e.call) es more played.1

pub ahead_behind_append : (ahead : List Coming) (es more : List LoopEntry) → ahead_after_calls ahead (es ++ more) ≡ ahead_after_calls (ahead_after_calls ahead es) more
ahead_behind_append ahead [] more = refl
ahead_behind_append ahead (e ∷ es) more = ahead_behind_append (ahead_after ahead e.call) es more

-- the remaining events are those ahead
abbrev Agrees : List Coming → Place → Type 0
Agrees ahead place = map happening_of ahead ≡ place.left.happenings

push_agrees : (ahead : List Coming) (place : Place) (output : Option ℕ) → Agrees ahead place → Agrees ahead (after_push_to place output)
push_agrees ahead place (Some output) agrees = agrees
push_agrees ahead place None agrees = agrees

agrees_after : (ahead : List Coming) (place : Place) (call : LoopCall) → Agrees ahead place → Agrees (ahead_after ahead call) (after place call)
agrees_after ahead place (Start ends) agrees = agrees
agrees_after ahead place (Wait until paused) agrees = sym (without_map (is_heard paused) happening_of ahead) ∙ ap (λ (l : List Happening). without_first (is_heard paused) l) agrees
agrees_after ahead place (Dial output tag) agrees = agrees
agrees_after ahead place (Push link bytes) agrees = push_agrees ahead place (output_of place.links link) agrees
agrees_after ahead place (Close link) agrees = agrees
agrees_after ahead place (Reply conn bytes) agrees = agrees
agrees_after ahead place (DropConn conn) agrees = agrees
agrees_after ahead place Word agrees = agrees

pub agrees_behind : (ahead : List Coming) (place : Place) (es : List LoopEntry) → Agrees ahead place → Agrees (ahead_after_calls ahead es) (behind place es)
agrees_behind ahead place [] agrees = agrees
agrees_behind ahead place (e ∷ es) agrees = agrees_behind (ahead_after ahead e.call) (after place e.call) es (agrees_after ahead place e.call agrees)

module _ (lines : List Planned) (answers : List Given) (notes : List LoopNote) (ahead : List Coming) (left : Answers) (kept : IsKept lines answers notes ahead left) where
  pub here : Place
  here = behind (beginning (given_in lines answers)) (entries_of notes)

  pub stands_here : AnswersLeft left here
  unfolding here
  stands_here = kept.stands

  -- the events ahead are the remaining ones at the place reached
  pub ahead_here : Agrees ahead here
  unfolding here
  ahead_here =
      ap (λ (l : List Coming). map happening_of l) kept.ahead_is
      ∙ agrees_behind (coming 0 lines) (beginning (given_in lines answers)) (entries_of notes) refl

  -- one more note
  pub kept_push : (note : LoopNote) (new : List LoopNote) (ahead2 : List Coming) (left2 : Answers) → new ≡ notes ++ note ∷ []
      → (entry_of note).answer ≡ answer_at here (entry_of note).call → ahead2 ≡ ahead_after ahead (entry_of note).call → AnswersLeft left2 (after here (entry_of note).call)
      → IsKept lines answers new ahead2 left2
  unfolding here
  kept_push note new ahead2 left2 is answer goes stands =
      let place = beginning (given_in lines answers) in
      let entries : entries_of new ≡ entries_of notes ++ entry_of note ∷ [] = ap entries_of is ∙ map-append entry_of notes (note ∷ []) in
      record {
        played = subst (λ (es : List LoopEntry). ArePlayed place es) (sym entries) (played_both place (entries_of notes) (entry_of note ∷ []) kept.played (answer, tt));
        ahead_is =
            goes ∙ ap (λ (l : List Coming). ahead_after l (entry_of note).call) kept.ahead_is
            ∙ sym (ahead_behind_append (coming 0 lines) (entries_of notes) (entry_of note ∷ []))
            ∙ ap (λ (es : List LoopEntry). ahead_after_calls (coming 0 lines) es) (sym entries);
        stands = subst (λ (p : Place). AnswersLeft left2 p) (sym (behind_append place (entries_of notes) (entry_of note ∷ [])) ∙ ap (λ (es : List LoopEntry). behind place es) (sym entries)) stands;
      }

  -- a call that leaves the events ahead
  pub kept_call : (note : LoopNote) (reserved new : List LoopNote) (left2 : Answers) → reserved ≡ notes → new ≡ reserved ++ note ∷ []
      → ((p : Place) → AnswersLeft left p → (entry_of note).answer ≡ answer_at p (entry_of note).call) → ((p : Place) → AnswersLeft left p → AnswersLeft left2 (after p (entry_of note).call))
      → ahead ≡ ahead_after ahead (entry_of note).call → IsKept lines answers new ahead left2
  kept_call note reserved new left2 same is answer stands goes =
      kept_push note new ahead left2 (is ∙ ap (λ (l : List LoopNote). l ++ note ∷ []) same) (answer here stands_here) goes (stands here stands_here)

  -- no note
  pub kept_same : (ahead2 : List Coming) (left2 : Answers) → ahead2 ≡ ahead → ((p : Place) → AnswersLeft left p → AnswersLeft left2 p) → IsKept lines answers notes ahead2 left2
  kept_same ahead2 left2 goes stands = record { played = kept.played; ahead_is = goes ∙ kept.ahead_is; stands = stands _ kept.stands }

  -- no note, and room reserved for one
  pub kept_reserved : (reserved : List LoopNote) (left2 : Answers) → reserved ≡ notes → ((p : Place) → AnswersLeft left p → AnswersLeft left2 p) → IsKept lines answers reserved ahead left2
  kept_reserved reserved left2 same stands = subst (λ (n : List LoopNote). IsKept lines answers n ahead left2) (sym same) (kept_same ahead left2 refl stands)

  -- a wait that returns the end
  pub kept_end : (until paused : ℕ) (reserved new : List LoopNote) (ahead2 : List Coming) → reserved ≡ notes → new ≡ reserved ++ note.Wait until paused End ∷ [] → ahead2 ≡ ahead
      → find (hears paused) ahead2 ≡ None → IsKept lines answers new ahead2 left
  kept_end until paused reserved new ahead2 reserves is same none =
      let none_old : find (hears paused) ahead ≡ None = subst (λ (l : List Coming). find (hears paused) l ≡ None) same none in
      kept_push (note.Wait until paused End) new ahead2 left (is ∙ ap (λ (l : List LoopNote). l ++ note.Wait until paused End ∷ []) reserves)
      (sym (next_end paused ahead none_old) ∙ ap (λ (l : List Happening). next_happening paused l) ahead_here)
      (same ∙ sym (without_none paused ahead none_old)) (waits left here paused stands_here)

  -- a wait that returns the first event that passes the mask
  pub kept_brought : (until paused : ℕ) (brought : Happening) (reserved new : List LoopNote) (mid ahead2 : List Coming) → reserved ≡ notes → new ≡ reserved ++ note.Wait until paused brought ∷ []
      → mid ≡ ahead → next_happening paused (map happening_of mid) ≡ brought → ahead2 ≡ without_first (hears paused) mid → IsKept lines answers new ahead2 left
  kept_brought until paused brought reserved new mid ahead2 reserves is same has_event goes =
      kept_push (note.Wait until paused brought) new ahead2 left (is ∙ ap (λ (l : List LoopNote). l ++ note.Wait until paused brought ∷ []) reserves)
      (sym has_event ∙ ap (λ (l : List Coming). next_happening paused (map happening_of l)) same ∙ ap (λ (l : List Happening). next_happening paused l) ahead_here)
      (goes ∙ ap (λ (l : List Coming). without_first (hears paused) l) same) (waits left here paused stands_here)

held_by : List Planned → List Given → Bool → List LoopNote → ℕ → ScriptState
held_by l a b m n = record { lines = l; answers = a; crashes = b; changed = 0; notes = m; brought = 0; greatest = n; fails_to_start = false; faults = 0 }

-- a run without calls so far
pub new_is : (life : Life) (lines : List Planned) (answers : List Given) (crashes : Bool) (notes : List LoopNote) (greatest : ℕ) → lines ≡ life.lines → answers ≡ life.answers → crashes ≡ is_some life.cut → notes ≡ [] → greatest ≡ 0
    → record { lines = lines; answers = answers; crashes = crashes; changed = 0; notes = notes; brought = 0; greatest = greatest; fails_to_start = false; faults = 0 } ≡ new_script life
unfolding held_by
new_is life lines answers crashes notes greatest same given cut empty none =
    ap (λ (l : List Planned). held_by l answers crashes notes greatest) same
    ∙ ap (λ (a : List Given). held_by life.lines a crashes notes greatest) given
    ∙ ap (λ (b : Bool). held_by life.lines life.answers b notes greatest) cut
    ∙ ap (λ (m : List LoopNote). held_by life.lines life.answers (is_some life.cut) m greatest) empty
    ∙ ap (λ (n : ℕ). held_by life.lines life.answers (is_some life.cut) [] n) none

pub kept_new : (lines : List Planned) (answers : List Given) (ahead : List Coming) (left : Answers) → ahead ≡ coming 0 lines → AnswersLeft left (beginning (given_in lines answers)) → IsKept lines answers [] ahead left
kept_new lines answers ahead left is stands = record { played = tt; ahead_is = is; stands = stands }
