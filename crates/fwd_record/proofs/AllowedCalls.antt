-- What follows from what every loop keeps to in its answers.
use Rattle.std.proofs.Common.{◌≡◌, ℕ, Bool, List, [], ◌∷◌, ◌++◌, Some, None, refl, sym, ◌∙◌, ap, arith, append_assoc}
use Rattle.std.specs.Prelude.{All}
use Rattle.std.proofs.lemmas.List.{append-nil}
use Rattle.std.proofs.lemmas.List.Elements.{All-nil, All-cons, All-append}
use Rattle.fwd_outside.specs.declared.happening.Happening.{Happening}
use Rattle.fwd_outside.specs.declared.happening.Happening.TheVariants as happening
use Rattle.fwd_outside.specs.Loop.{LoopCall, LoopAnswer, LoopEntry, Start, Wait, Dial, Push, Close, Reply, DropConn, Word, MayOccur}
use Rattle.fwd_outside.specs.NewLinks.{AreNewLinks, IsNewLink, greatest_by}
use Rattle.fwd_record.specs.Seen.{Seen, Answered, Stopped, calls_of}
use Rattle.fwd_record.specs.Links.{AreRising, Links, links_by, links_in, links_after, links_behind}
use Rattle.fwd_record.specs.Recorded.{heard_by, heard_in, unless_end}
use Rattle.fwd_record.specs.Allowed.{IsAllowed, AreAllowed, IsLine}

-- ---- links rise

rising_by : (greatest : ℕ) (call : LoopCall) (answer : LoopAnswer call) (links : List ℕ) → IsNewLink greatest call answer
    → AreRising (greatest_by greatest call answer) links → AreRising greatest (links_by call answer ++ links)
rising_by greatest (Start ends) answer links new rising = rising
rising_by greatest (Wait until paused) answer links new rising = rising
rising_by greatest (Dial output tag) (Some link) links new rising = (new, rising)
rising_by greatest (Dial output tag) None links new rising = rising
rising_by greatest (Push link bytes) answer links new rising = rising
rising_by greatest (Close link) answer links new rising = rising
rising_by greatest (Reply conn bytes) answer links new rising = rising
rising_by greatest (DropConn conn) answer links new rising = rising
rising_by greatest Word answer links new rising = rising

pub new_links_rise : (greatest : ℕ) (entries : List LoopEntry) → AreNewLinks greatest entries → AreRising greatest (links_in entries)
new_links_rise greatest [] new = tt
new_links_rise greatest (e ∷ es) new = rising_by greatest e.call e.answer (links_in es) new.0 (new_links_rise (greatest_by greatest e.call e.answer) es new.1)

-- the links so far are those that dials gave
links_by_call : (so_far : Links) (call : LoopCall) (answer : LoopAnswer call) → (links_after so_far call answer).links ≡ so_far.links ++ links_by call answer
links_by_call so_far (Start ends) answer = sym (append-nil so_far.links)
links_by_call so_far (Wait until paused) answer = sym (append-nil so_far.links)
links_by_call so_far (Dial output tag) (Some link) = refl
links_by_call so_far (Dial output tag) None = sym (append-nil so_far.links)
links_by_call so_far (Push link bytes) answer = sym (append-nil so_far.links)
links_by_call so_far (Close link) answer = sym (append-nil so_far.links)
links_by_call so_far (Reply conn bytes) answer = sym (append-nil so_far.links)
links_by_call so_far (DropConn conn) answer = sym (append-nil so_far.links)
links_by_call so_far Word answer = sym (append-nil so_far.links)

pub links_behind_calls : (so_far : Links) (entries : List LoopEntry) → (links_behind so_far entries).links ≡ so_far.links ++ links_in entries
links_behind_calls so_far [] = sym (append-nil so_far.links)
links_behind_calls so_far (e ∷ es) =
    links_behind_calls (links_after so_far e.call e.answer) es
    ∙ ap (λ (l : List ℕ). l ++ links_in es) (links_by_call so_far e.call e.answer)
    ∙ append_assoc so_far.links (links_by e.call e.answer) (links_in es)

-- ---- events have lines

one_line : (brought : Happening) → IsLine brought → All IsLine (brought ∷ [])
one_line brought line = All-cons IsLine brought [] line (All-nil IsLine)

event_line : (endless : Bool) (paused : ℕ) (brought : Happening) → MayOccur endless paused brought → All IsLine (unless_end brought)
event_line endless paused (happening.Tick now) may = one_line (happening.Tick now) tt
event_line endless paused (happening.Joined input conn) may = one_line (happening.Joined input conn) tt
event_line endless paused (happening.Piece input conn bytes) may = one_line (happening.Piece input conn bytes) (omega (arith, may.1), may.2)
event_line endless paused (happening.Gone input conn) may = one_line (happening.Gone input conn) tt
event_line endless paused (happening.Room link) may = one_line (happening.Room link) tt
event_line endless paused (happening.Back link bytes) may = one_line (happening.Back link bytes) tt
event_line endless paused (happening.Broken link) may = one_line (happening.Broken link) tt
event_line endless paused (happening.InputEnd input) may = one_line (happening.InputEnd input) tt
event_line endless paused happening.Stop may = one_line happening.Stop tt
event_line endless paused happening.End may = All-nil IsLine
event_line endless paused happening.Failed may = one_line happening.Failed tt

call_lines : (endless : Bool) (call : LoopCall) (answer : LoopAnswer call) → IsAllowed endless call answer → All IsLine (heard_by call answer)
call_lines endless (Start ends) answer allowed = All-nil IsLine
call_lines endless (Wait until paused) brought allowed = event_line endless paused brought allowed
call_lines endless (Dial output tag) answer allowed = All-nil IsLine
call_lines endless (Push link bytes) answer allowed = All-nil IsLine
call_lines endless (Close link) answer allowed = All-nil IsLine
call_lines endless (Reply conn bytes) answer allowed = All-nil IsLine
call_lines endless (DropConn conn) answer allowed = All-nil IsLine
call_lines endless Word answer allowed = All-nil IsLine

pub heard_lines : (endless : Bool) (seen : List Seen) → AreAllowed endless (calls_of seen) → All IsLine (heard_in seen)
heard_lines endless [] allowed = All-nil IsLine
heard_lines endless (Answered e ∷ seen) allowed = All-append IsLine (heard_by e.call e.answer) (heard_in seen) (call_lines endless e.call e.answer allowed.0) (heard_lines endless seen allowed.1)
heard_lines endless (Stopped ∷ seen) allowed = All-append IsLine (happening.Stop ∷ []) (heard_in seen) (one_line happening.Stop tt) (heard_lines endless seen allowed)
