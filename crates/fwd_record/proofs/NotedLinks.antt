-- The notes of the calls that are about links.
use Rattle.std.proofs.Common.{◌≡◌, ℕ, List, [], ◌∷◌, ◌++◌, true, false, Option, Some, None, refl, sym, ap, ◌∙◌}
use Rattle.std.proofs.lemmas.List.{append-nil}
use Rattle.fwd_base.specs.declared.ids.OutputId.{OutputId}
use Rattle.fwd_outside.specs.Program.{entry}
use Rattle.fwd_outside.specs.declared.happening.Happening.{Happening}
use Rattle.fwd_outside.specs.Loop.{Dial, Push, Close}
use Rattle.fwd_outside.specs.NewLinks.{AreNewLinks}
use Rattle.fwd_script.specs.declared.schedule.Given.{Given}
use Rattle.fwd_script.specs.declared.schedule.Given.TheVariants as given
use Rattle.fwd_script.specs.declared.schedule.PushWord.{PushWord}
use Rattle.fwd_script.specs.declared.schedule.PushWord.TheVariants as push
use Rattle.fwd_script_loop.specs.Lines.{word_answer}
use Rattle.fwd_script_loop.specs.Place.{closed}
use Rattle.fwd_record.specs.Seen.{Seen, Answered, calls_of}
use Rattle.fwd_record.specs.Links.{AreRising, Links, number_of, output_at}
use Rattle.fwd_record.specs.Recorded.{word_of, push_given}
use Rattle.fwd_record.specs.Notes.{AreNotes}
use Rattle.fwd_record.proofs.NotedCalls.{noted_call}
use Rattle.fwd_record.proofs.KeptNotes.{notes_rise}

same_push : (word : PushWord) → word_of (word_answer word) ≡ word
same_push (push.Took taken) = refl
same_push push.Again = refl
same_push push.Broken = refl

-- what is kept of a push, where the link leads to this output
abbrev pub push_kept : Option ℕ → PushWord → List Given
push_kept (Some output) word = given.Push (record { 0 = output }) word ∷ []
push_kept None word = []

kept_given : (at : Option ℕ) (word : PushWord) → push_kept at word ≡ push_given at (word_answer word)
kept_given (Some output) word = ap (λ (w : PushWord). given.Push (record { 0 = output }) w ∷ []) (sym (same_push word))
kept_given None word = refl

module _ {events : List Happening} {answers : List Given} {links : Links} {seen : List Seen} (is : AreNotes events answers links seen) where
  pub link_noted : (output : OutputId) (tag : List ℕ) (link : ℕ) {answers2 : List Given} {links2 : List ℕ} {outputs2 : List (Option ℕ)}
      → answers2 ≡ answers ++ given.Dial output true ∷ [] → links2 ≡ links.links ++ link ∷ [] → outputs2 ≡ links.outputs ++ Some output.0 ∷ []
      → AreNotes events answers2 (record { links = links2; outputs = outputs2 }) (seen ++ Answered (entry (Dial output.0 tag) (Some link)) ∷ [])
  link_noted output tag link {answers2} {links2} {outputs2} more one its =
      noted_call is (Dial output.0 tag) (Some link) (sym (append-nil events)) more
      (ap (λ (l : List ℕ). record { links = l; outputs = outputs2 }) one ∙ ap (λ (o : List (Option ℕ)). record { links = links.links ++ link ∷ []; outputs = o }) its)

  pub refusal_noted : (output : OutputId) (tag : List ℕ) {answers2 : List Given} → answers2 ≡ answers ++ given.Dial output false ∷ []
      → AreNotes events answers2 links (seen ++ Answered (entry (Dial output.0 tag) None) ∷ [])
  refusal_noted output tag more = noted_call is (Dial output.0 tag) None (sym (append-nil events)) more refl

  pub push_noted : AreNewLinks 0 (calls_of seen) → (link : ℕ) (bytes : List ℕ) (word : PushWord) (at : Option ℕ) {answers2 : List Given}
      → (AreRising 0 links.links → at ≡ output_at links link) → answers2 ≡ answers ++ push_kept at word
      → AreNotes events answers2 links (seen ++ Answered (entry (Push link bytes) (word_answer word)) ∷ [])
  push_noted new link bytes word at leads more =
      noted_call is (Push link bytes) (word_answer word) (sym (append-nil events))
      (more ∙ ap (λ (l : List Given). answers ++ l) (kept_given at word)
      ∙ ap (λ (o : Option ℕ). answers ++ push_given o (word_answer word)) (leads (notes_rise is new)))
      refl

  pub close_noted : AreNewLinks 0 (calls_of seen) → (link number : ℕ) {outputs2 : List (Option ℕ)}
      → (AreRising 0 links.links → number ≡ number_of links.links link) → outputs2 ≡ closed links.outputs number
      → AreNotes events answers (record { links = links.links; outputs = outputs2 }) (seen ++ Answered (entry (Close link) tt) ∷ [])
  close_noted new link number numbered shut =
      noted_call is (Close link) tt (sym (append-nil events)) (sym (append-nil answers))
      (ap (λ (o : List (Option ℕ)). record { links = links.links; outputs = o }) (shut ∙ ap (λ (n : ℕ). closed links.outputs n) (numbered (notes_rise is new))))
