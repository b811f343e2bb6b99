-- What one call adds to the bytes that links received, and to the links.
use Rattle.std.proofs.Common.{◌≡◌, ℕ, Bool, true, if◌then◌else◌, List, [], Option, sym, ap, ◌∙◌}
use Rattle.fwd_base.specs.declared.ids.LinkId.{LinkId}
use Rattle.fwd_base.specs.declared.ids.OutputId.{OutputId}
use Rattle.fwd_script.specs.declared.schedule.PushWord.{PushWord}
use Rattle.fwd_script_loop.specs.declared.call_record.LoopNote.{LoopNote}
use Rattle.fwd_script_loop.specs.declared.call_record.LoopNote.TheVariants as note
use Rattle.fwd_script_loop.specs.LinkBytes.{dialed_by, leads_to, links_after, taken_by, taken_of}
use Rattle.fwd_script_loop.specs.Lines.{word_answer}
use Rattle.fwd_script_loop.specs.Told.{entry_of}

pub taken_when : (outputs : ℕ) (links : List ℕ) (of : LoopNote) (link : LinkId) (piece given : List ℕ) (answer : PushWord) → of ≡ note.Push link piece answer → given ≡ piece
    → leads_to outputs links link.0 ≡ true → taken_of given (word_answer answer) ≡ taken_by outputs links (entry_of of).call (entry_of of).answer
taken_when outputs links of link piece given answer is same leads =
    ap (λ (l : List ℕ). taken_of l (word_answer answer)) same
    ∙ sym (ap (λ (n : LoopNote). taken_by outputs links (entry_of n).call (entry_of n).answer) is
    ∙ ap (λ (b : Bool). if b then taken_of piece (word_answer answer) else []) leads)

pub linked_when : (links : List ℕ) (of : LoopNote) (output : OutputId) (tag : List ℕ) (link : Option ℕ) → of ≡ note.Dial output tag link
    → links_after links output.0 link ≡ dialed_by links (entry_of of).call (entry_of of).answer
linked_when links of output tag link is = sym (ap (λ (n : LoopNote). dialed_by links (entry_of n).call (entry_of n).answer) is)
