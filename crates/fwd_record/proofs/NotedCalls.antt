-- The notes after one more call.
use Rattle.std.proofs.Common.{◌≡◌, ◌≢◌, ℕ, Bool, true, false, List, [], ◌∷◌, ◌++◌, Some, None, refl, sym, ap, ◌∙◌, append_assoc}
use Rattle.std.proofs.lemmas.List.{append-nil}
use Rattle.std.proofs.lemmas.List.Concat.{flat_map-append}
use Rattle.fwd_outside.specs.Program.{entry}
use Rattle.fwd_outside.specs.declared.happening.Happening.{Happening}
use Rattle.fwd_outside.specs.declared.happening.Happening.TheVariants as happening
use Rattle.fwd_outside.specs.Loop.{LoopCall, LoopAnswer, LoopEntry, Reply}
use Rattle.fwd_script.specs.declared.schedule.Given.{Given}
use Rattle.fwd_script.specs.declared.schedule.Given.TheVariants.{Reply as ReplyGiven}
use Rattle.fwd_script_loop.specs.Place.{taken_answer}
use Rattle.fwd_record.specs.Seen.{Seen, Answered, Stopped, calls_in, calls_of}
use Rattle.fwd_record.specs.Links.{Links, no_links, links_after, links_behind}
use Rattle.fwd_record.specs.Recorded.{heard_at, heard_by, heard_in, unless_end, given_by, answers_in}
use Rattle.fwd_record.specs.Notes.{AreNotes}

pub calls_more : (seen : List Seen) (s : Seen) → calls_of (seen ++ s ∷ []) ≡ calls_of seen ++ calls_in s
calls_more seen s = flat_map-append calls_in seen (s ∷ []) ∙ ap (λ (l : List LoopEntry). calls_of seen ++ l) (append-nil (calls_in s))

heard_more : (seen : List Seen) (s : Seen) → heard_in (seen ++ s ∷ []) ≡ heard_in seen ++ heard_at s
heard_more seen s = flat_map-append heard_at seen (s ∷ []) ∙ ap (λ (l : List Happening). heard_in seen ++ l) (append-nil (heard_at s))

answers_append : (so_far : Links) (xs ys : List LoopEntry) → answers_in so_far (xs ++ ys) ≡ answers_in so_far xs ++ answers_in (links_behind so_far xs) ys
answers_append so_far [] ys = refl
answers_append so_far (e ∷ xs) ys =
    let next = links_after so_far e.call e.answer in
    ap (λ (l : List Given). given_by so_far e.call e.answer ++ l) (answers_append next xs ys)
    ∙ sym (append_assoc (given_by so_far e.call e.answer) (answers_in next xs) (answers_in (links_behind next xs) ys))

behind_append : (so_far : Links) (xs ys : List LoopEntry) → links_behind so_far (xs ++ ys) ≡ links_behind (links_behind so_far xs) ys
behind_append so_far [] ys = refl
behind_append so_far (e ∷ xs) ys = behind_append (links_after so_far e.call e.answer) xs ys

answers_more : (seen : List Seen) (call : LoopCall) (answer : LoopAnswer call)
    → answers_in no_links (calls_of (seen ++ Answered (entry call answer) ∷ [])) ≡ answers_in no_links (calls_of seen) ++ given_by (links_behind no_links (calls_of seen)) call answer
answers_more seen call answer =
    ap (λ (l : List LoopEntry). answers_in no_links l) (calls_more seen (Answered (entry call answer)))
    ∙ answers_append no_links (calls_of seen) (entry call answer ∷ [])
    ∙ ap (λ (l : List Given). answers_in no_links (calls_of seen) ++ l) (append-nil (given_by (links_behind no_links (calls_of seen)) call answer))

links_more : (seen : List Seen) (call : LoopCall) (answer : LoopAnswer call)
    → links_behind no_links (calls_of (seen ++ Answered (entry call answer) ∷ [])) ≡ links_after (links_behind no_links (calls_of seen)) call answer
links_more seen call answer =
    ap (λ (l : List LoopEntry). links_behind no_links l) (calls_more seen (Answered (entry call answer))) ∙ behind_append no_links (calls_of seen) (entry call answer ∷ [])

module _ {events : List Happening} {given : List Given} {links : Links} {seen : List Seen} (is : AreNotes events given links seen) where
  -- a call was answered
  pub noted_call : (call : LoopCall) (answer : LoopAnswer call) {events2 : List Happening} {given2 : List Given} {links2 : Links}
      → events2 ≡ events ++ heard_by call answer → given2 ≡ given ++ given_by links call answer → links2 ≡ links_after links call answer
      → AreNotes events2 given2 links2 (seen ++ Answered (entry call answer) ∷ [])
  noted_call call answer heard answers so_far = record {
    heard = heard ∙ ap (λ (l : List Happening). l ++ heard_by call answer) is.heard ∙ sym (heard_more seen (Answered (entry call answer)));
    answers = answers ∙ ap (λ (l : List Given). l ++ given_by links call answer) is.answers
        ∙ ap (λ (k : Links). answers_in no_links (calls_of seen) ++ given_by k call answer) is.so_far ∙ sym (answers_more seen call answer);
    so_far = so_far ∙ ap (λ (k : Links). links_after k call answer) is.so_far ∙ sym (links_more seen call answer);
  }

  -- nothing of it is kept
  pub noted_nothing : (call : LoopCall) (answer : LoopAnswer call) → heard_by call answer ≡ [] → given_by links call answer ≡ [] → links_after links call answer ≡ links
      → AreNotes events given links (seen ++ Answered (entry call answer) ∷ [])
  noted_nothing call answer none no_answer same =
      noted_call call answer
      (sym (append-nil events) ∙ ap (λ (l : List Happening). events ++ l) (sym none))
      (sym (append-nil given) ∙ ap (λ (l : List Given). given ++ l) (sym no_answer))
      (sym same)

  -- the run was stopped
  pub noted_stop : {events2 : List Happening} → events2 ≡ events ++ happening.Stop ∷ [] → AreNotes events2 given links (seen ++ Stopped ∷ [])
  noted_stop heard = record {
    heard = heard ∙ ap (λ (l : List Happening). l ++ happening.Stop ∷ []) is.heard ∙ sym (heard_more seen Stopped);
    answers = is.answers ∙ ap (λ (l : List LoopEntry). answers_in no_links l) (sym (calls_more seen Stopped ∙ append-nil (calls_of seen)));
    so_far = is.so_far ∙ ap (λ (l : List LoopEntry). links_behind no_links l) (sym (calls_more seen Stopped ∙ append-nil (calls_of seen)));
  }

  -- a reply was accepted, or the connection was broken
  pub noted_reply : (conn : ℕ) (bytes : List ℕ) (taken : Bool) {given2 : List Given} → given2 ≡ given ++ ReplyGiven taken ∷ []
      → AreNotes events given2 links (seen ++ Answered (entry (Reply conn bytes) (taken_answer taken)) ∷ [])
  noted_reply conn bytes true more = noted_call (Reply conn bytes) (Some tt) (sym (append-nil events)) more refl
  noted_reply conn bytes false more = noted_call (Reply conn bytes) None (sym (append-nil events)) more refl

-- an event has a line, unless it is the end
pub one_event : (brought : Happening) → brought ≢ happening.End → unless_end brought ≡ brought ∷ []
one_event (happening.Tick now) other = refl
one_event (happening.Joined input conn) other = refl
one_event (happening.Piece input conn bytes) other = refl
one_event (happening.Gone input conn) other = refl
one_event (happening.Room link) other = refl
one_event (happening.Back link bytes) other = refl
one_event (happening.Broken link) other = refl
one_event (happening.InputEnd input) other = refl
one_event happening.Stop other = refl
one_event happening.End other = absurd (other refl)
one_event happening.Failed other = refl
