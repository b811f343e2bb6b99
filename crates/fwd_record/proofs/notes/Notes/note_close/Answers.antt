use Rattle.std.proofs.Common.{◌≡◌, ℕ, List, Option, length, subst, ap, ◌∙◌}
use Rattle.std.proofs.lemmas.List.{with_items_is}
use Rattle.fwd_script_loop.specs.Place.{closed}
use Rattle.fwd_record.specs.Links.{AreRising, number_of}
use Rattle.fwd_record.proofs.LinkNumbers.{closed_as_long}
use Rattle.fwd_record.proofs.NotedLinks.{close_noted}
use Rattle.fwd_record.proofs.notes.Notes.note_close.Goals as goal

pub returns : goal.returns
returns c = λ seen new is.
    let number = c.number_of-number.result in
    let numbered = subst (λ (l : List ℕ). AreRising 0 l → number ≡ number_of l c.args.link.0) c.as_slice.ensures.value c.number_of-number.ensures in
    let shut = c.close.ensures ∙ ap (λ (o : List (Option ℕ)). closed o number) c.as_mut_slice.ensures.value in
    let long = ap (λ (o : List (Option ℕ)). length o) c.close.ensures ∙ closed_as_long c.as_mut_slice.result.now number ∙ c.as_mut_slice.ensures.len in
    close_noted is new c.args.link.0 number numbered (with_items_is c.args.self.now.outputs c.close.new.outputs long ∙ shut)
