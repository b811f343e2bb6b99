-- The answers of a run as a function of its lines and answers and of the place that was reached.
use Rattle.std.specs.Prelude.{◌≡◌, ℕ, zero, suc, ◌+◌, ◌-◌, ◌^◌, ◌==◌, ◌&&◌, nat_lt, min, Bool, true, false, if◌then◌else◌, List, [], ◌∷◌, ◌++◌, length, drop, find, slice_get, slice_set, Option, Some, None, option_map, unwrap_or}
use Rattle.fwd_outside.specs.Loop.{LoopGiven, LoopCall, LoopAnswer, LoopEntry, PushAnswer, Start, Wait, Dial, Push, Close, Reply, DropConn, Word, Took, Again, Broke}
use Rattle.fwd_script_loop.specs.FirstMatch.{first_in, without_first}
use Rattle.fwd_script_loop.specs.PauseMask.{is_heard, next_happening}

-- the rest of each list, and the links so far: the output of each by its number from 1, `None` if it was
-- closed
pub record Place : Type 0 where
  pub left : LoopGiven
  pub links : List (Option ℕ)

abbrev pub beginning : LoopGiven → Place
beginning given = record { left = given; links = [] }

abbrev pub is_for : {T : Type 0} → ℕ → ℕ × T → Bool
is_for output answer = answer.0 == output

-- the next answer of an output; `None` if all are used up
abbrev pub next_for : {T : Type 0} → ℕ → List (ℕ × T) → Option T
next_for output answers = option_map (λ answer. answer.1) (find (is_for output) answers)

-- The number of the link that a dial gives; `None` if it is refused, as it is if no number is left. A dial
-- uses up its answer even then. One without an answer is accepted while numbers are left.
abbrev pub dialed : Place → ℕ → Option ℕ
dialed place output =
    if unwrap_or (next_for output place.left.dials) true && nat_lt (length place.links) (2 ^ 64 - 1)
    then Some (length place.links + 1) else None

abbrev pub linked_to : List (Option ℕ) → ℕ → Option ℕ → List (Option ℕ)
linked_to links output (Some number) = links ++ Some output ∷ []
linked_to links output None = links

abbrev pub opened : Option (Option ℕ) → Option ℕ
opened (Some output) = output
opened None = None

-- the output of an open link
abbrev pub output_of : List (Option ℕ) → ℕ → Option ℕ
output_of links zero = None
output_of links (suc number) = opened (slice_get links number)

-- a push writes no more than its length; without an answer it writes all
abbrev pub limit_push : Option PushAnswer → ℕ → PushAnswer
limit_push (Some (Took bytes)) len = Took (min bytes len)
limit_push (Some Again) len = Again
limit_push (Some Broke) len = Broke
limit_push None len = Took len

abbrev pub pushed_to : Place → Option ℕ → ℕ → PushAnswer
pushed_to place (Some output) len = limit_push (next_for output place.left.pushes) len
pushed_to place None len = Broke

-- The answer to a push of `len` bytes; a link that isn't open is broken. A push to such a link uses up no
-- answer.
abbrev pub pushed : Place → ℕ → ℕ → PushAnswer
pushed place link len = pushed_to place (output_of place.links link) len

abbrev pub replied : Place → Bool
replied place = unwrap_or (first_in place.left.replies) true

abbrev pub after_random : Place → ℕ
after_random place = unwrap_or (first_in place.left.words) 0

abbrev pub closed : List (Option ℕ) → ℕ → List (Option ℕ)
closed links zero = links
closed links (suc number) = slice_set links number None

-- the place after each call
abbrev pub after_wait : Place → ℕ → Place
after_wait place paused =
    record place
    { left = record place.left { happenings = without_first (is_heard paused) place.left.happenings } }

abbrev pub after_dial : Place → ℕ → Place
after_dial place output =
    record {
      left = record place.left { dials = without_first (is_for output) place.left.dials };
      links = linked_to place.links output (dialed place output);
    }

abbrev pub after_push_to : Place → Option ℕ → Place
after_push_to place (Some output) =
    record place { left = record place.left { pushes = without_first (is_for output) place.left.pushes } }
after_push_to place None = place

abbrev pub after_push : Place → ℕ → Place
after_push place link = after_push_to place (output_of place.links link)

abbrev pub after_close : Place → ℕ → Place
after_close place link = record place { links = closed place.links link }

abbrev pub after_reply : Place → Place
after_reply place = record place { left = record place.left { replies = drop 1 place.left.replies } }

abbrev pub after_word : Place → Place
after_word place = record place { left = record place.left { words = drop 1 place.left.words } }

abbrev pub after : Place → LoopCall → Place
after place (Start ends) = place
after place (Wait until paused) = after_wait place paused
after place (Dial output tag) = after_dial place output
after place (Push link bytes) = after_push place link
after place (Close link) = after_close place link
after place (Reply conn bytes) = after_reply place
after place (DropConn conn) = place
after place Word = after_word place

-- whether a reply is written, as its answer
abbrev pub taken_answer : Bool → Option (Unit {0})
taken_answer true = Some tt
taken_answer false = None

-- the answer to the next call
abbrev pub answer_at : Place → (call : LoopCall) → LoopAnswer call
answer_at place (Start ends) = Some tt
answer_at place (Wait until paused) = next_happening paused place.left.happenings
answer_at place (Dial output tag) = dialed place output
answer_at place (Push link bytes) = pushed place link (length bytes)
answer_at place (Close link) = tt
answer_at place (Reply conn bytes) = taken_answer (replied place)
answer_at place (DropConn conn) = tt
answer_at place Word = after_random place

-- the place after these calls
abbrev pub behind : Place → List LoopEntry → Place
behind place [] = place
behind place (e ∷ es) = behind (after place e.call) es

-- each answer is the one that the run gives at its place
abbrev pub ArePlayed : Place → List LoopEntry → Type 0
ArePlayed place [] = Unit {0}
ArePlayed place (e ∷ es) = (e.answer ≡ answer_at place e.call) × ArePlayed (after place e.call) es

-- a loop with these lines and answers plays these calls
abbrev pub IsPlayed : LoopGiven → List LoopEntry → Type 0
IsPlayed given entries = ArePlayed (beginning given) entries
