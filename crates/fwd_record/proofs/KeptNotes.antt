-- What holds of the notes of each recorder.
use Rattle.std.proofs.Common.{ℕ, Bool, List, sym, ◌∙◌, ap, subst}
use Rattle.std.specs.Prelude.{All}
use Rattle.fwd_outside.specs.declared.happening.Happening.{Happening}
use Rattle.fwd_outside.specs.NewLinks.{AreNewLinks}
use Rattle.fwd_script.specs.declared.schedule.Given.{Given}
use Rattle.fwd_record.specs.Seen.{Seen, calls_of}
use Rattle.fwd_record.specs.Links.{AreRising, Links, no_links}
use Rattle.fwd_record.specs.Allowed.{AreAllowed, IsLine}
use Rattle.fwd_record.specs.Notes.{AreNotes}
use Rattle.fwd_record.proofs.AllowedCalls.{new_links_rise, links_behind_calls, heard_lines}

pub notes_rise : {events : List Happening} {given : List Given} {links : Links} {seen : List Seen} → AreNotes events given links seen → AreNewLinks 0 (calls_of seen) → AreRising 0 links.links
notes_rise {events} {given} {links} {seen} is new =
    subst (λ (l : List ℕ). AreRising 0 l) (sym (ap (λ (k : Links). k.links) is.so_far ∙ links_behind_calls no_links (calls_of seen))) (new_links_rise 0 (calls_of seen) new)

pub notes_have_lines : (endless : Bool) {events : List Happening} {given : List Given} {links : Links} {seen : List Seen} → AreNotes events given links seen → AreAllowed endless (calls_of seen) → All IsLine events
notes_have_lines endless {events} {given} {links} {seen} is allowed = subst (λ (l : List Happening). All IsLine l) (sym is.heard) (heard_lines endless seen allowed)
