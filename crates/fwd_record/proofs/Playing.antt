-- A loop in memory with the recorded schedule answers as it was recorded.
use base.Stored.{gnil}
use Rattle.std.proofs.Common.{◌≡◌, ℕ, ◌+◌, ◌-◌, ◌^◌, ◌<◌, ◌≤◌, ◌&&◌, ◌==◌, nat_lt, Bool, true, false, not, if◌then◌else◌, List, [], ◌∷◌, ◌++◌, length, map, find, Option, Some, None, is_some, option_map, unwrap_or, refl, sym, ap, subst, ◌∙◌, arith, append_assoc, length-append}
use Rattle.std.specs.Int.{bit_at}
use Rattle.std.specs.List.{filter_map}
use Rattle.std.proofs.lemmas.Bool.{eq-eqb, eqb-true, lt-ltb}
use Rattle.std.proofs.lemmas.Nat.{bit_set_by_shift}
use Rattle.std.proofs.lemmas.Nat.Bits.{shr_and_one}
use Rattle.std.proofs.Math.Nat.{min-eq_left}
use Rattle.fwd_base.specs.declared.ids.InputId.{InputId}
use Rattle.fwd_outside.specs.Program.{entry}
use Rattle.fwd_outside.specs.declared.happening.Happening.{Happening}
use Rattle.fwd_outside.specs.declared.happening.Happening.TheVariants as happening
use Rattle.fwd_outside.specs.Loop.{LoopCall, LoopAnswer, LoopEntry, LoopGiven, PushAnswer, Start, Wait, Dial, Push, Close, Reply, DropConn, Word, Took, Again, Broke, MayOccur, IsNotPaused}
use Rattle.fwd_script.specs.declared.schedule.Given.{Given}
use Rattle.fwd_script_loop.specs.FirstMatch.{without_first}
use Rattle.fwd_script_loop.specs.PauseMask.{is_heard, next_happening}
use Rattle.fwd_script_loop.specs.Lines.{dial_in, push_in, reply_in, word_in, word_answer}
use Rattle.fwd_script_loop.specs.Place.{Place, ArePlayed, after_dial, after_push_to, dialed, pushed_to, limit_push, is_for, next_for, output_of, linked_to, closed, taken_answer}
use Rattle.fwd_record.specs.Seen.{Seen, Answered, Stopped, calls_of}
use Rattle.fwd_record.specs.Links.{Links, AreRising, links_by, links_in, number_of, output_at, with_link, without_link, links_after}
use Rattle.fwd_record.specs.Recorded.{heard_in, unless_end, happening_named, word_of, push_given, answers_in}
use Rattle.fwd_record.specs.Allowed.{TakesWithin, IsAllowed, AreAllowed}
use Rattle.fwd_record.specs.Played.{call_named, replayed, EndsLast, CanReplay, AreReplayable}
use Rattle.fwd_record.proofs.LinkNumbers.{same_output, same_closed, closed_as_long, next_number}

-- ---- events

not_paused : (paused : ℕ) (input : InputId) → IsNotPaused paused input → not (bit_at paused input.0 == 1) ≡ true
not_paused paused input clear = by (bit_at paused input.0 == 1) refl
  where
    by : (b : Bool) → (bit_at paused input.0 == 1) ≡ b → not b ≡ true
    by false is = refl
    by true is = absurd (clear ((bit_set_by_shift paused input.0).0 (shr_and_one paused input.0 ∙ eqb-true (bit_at paused input.0) 1 is)))

heard_first : (paused : ℕ) (x : Happening) (later : List Happening) → is_heard paused x ≡ true
    → (x ≡ next_happening paused (x ∷ later)) × (without_first (is_heard paused) (x ∷ later) ≡ later)
heard_first paused x later heard = by (is_heard paused x) heard
  where
    by : (b : Bool) → b ≡ true → (x ≡ unwrap_or (if b then Some x else find (is_heard paused) later) happening.End) × ((if b then later else x ∷ without_first (is_heard paused) later) ≡ later)
    by true is = (refl, refl)
    by false is = absurd (cc is)

module _ (numbers : ℕ → ℕ) where
  abbrev named : Happening → Happening
  named brought = happening_named numbers brought

  -- what is brought is the first that is heard, and the others are left
  abbrev Comes : ℕ → Happening → List Happening → Type 0
  Comes paused brought later =
      (named brought ≡ next_happening paused (map named (unless_end brought ++ later))) × (without_first (is_heard paused) (map named (unless_end brought ++ later)) ≡ map named later)

  comes : (endless : Bool) (paused : ℕ) (brought : Happening) (later : List Happening) → MayOccur endless paused brought → EndsLast brought later → Comes paused brought later
  comes endless paused happening.End later may last = subst (λ (l : List Happening). Comes paused happening.End l) (sym last) (refl, refl)
  comes endless paused (happening.Tick now) later may last = heard_first paused (happening.Tick now) (map named later) refl
  comes endless paused (happening.Joined input conn) later may last = heard_first paused (happening.Joined input conn) (map named later) (not_paused paused input may)
  comes endless paused (happening.Piece input conn bytes) later may last = heard_first paused (happening.Piece input conn bytes) (map named later) (not_paused paused input may.0)
  comes endless paused (happening.Gone input conn) later may last = heard_first paused (happening.Gone input conn) (map named later) (not_paused paused input may)
  comes endless paused (happening.Room link) later may last = heard_first paused (named (happening.Room link)) (map named later) refl
  comes endless paused (happening.Back link bytes) later may last = heard_first paused (named (happening.Back link bytes)) (map named later) refl
  comes endless paused (happening.Broken link) later may last = heard_first paused (named (happening.Broken link)) (map named later) refl
  comes endless paused (happening.InputEnd input) later may last = heard_first paused (happening.InputEnd input) (map named later) (not_paused paused input may)
  comes endless paused happening.Stop later may last = heard_first paused happening.Stop (map named later) refl
  comes endless paused happening.Failed later may last = heard_first paused happening.Failed (map named later) refl

-- ---- the first answer of an output

for_this : {T : Type 0} (output : ℕ) (x : T) → is_for output (output, x) ≡ true
for_this output x = eq-eqb output output refl

next_is : {T : Type 0} (output : ℕ) (x : T) (more : List (ℕ × T)) → next_for output ((output, x) ∷ more) ≡ Some x
next_is output x more = by (is_for output (output, x)) (for_this output x)
  where
    by : (b : Bool) → b ≡ true → option_map (λ answer. answer.1) (if b then Some (output, x) else find (is_for output) more) ≡ Some x
    by true is = refl
    by false is = absurd (cc is)

others_left : {T : Type 0} (output : ℕ) (x : T) (more : List (ℕ × T)) → without_first (is_for output) ((output, x) ∷ more) ≡ more
others_left output x more = by (is_for output (output, x)) (for_this output x)
  where
    by : (b : Bool) → b ≡ true → (if b then more else (output, x) ∷ without_first (is_for output) more) ≡ more
    by true is = refl
    by false is = absurd (cc is)

-- ---- dials

abbrev number_if : Bool → List (Option ℕ) → Option ℕ
number_if taken links = if taken && nat_lt (length links) (2 ^ 64 - 1) then Some (length links + 1) else None

taken_number : (links : List (Option ℕ)) (number : ℕ) → number ≡ length links + 1 → length links < 2 ^ 64 - 1 → Some number ≡ number_if true links
taken_number links number is less = ap (λ (n : ℕ). Some n) is ∙ by (nat_lt (length links) (2 ^ 64 - 1)) (lt-ltb (length links) (2 ^ 64 - 1) less)
  where
    by : (b : Bool) → b ≡ true → Some (length links + 1) ≡ (if b then Some (length links + 1) else None)
    by true i = refl
    by false i = absurd (cc i)

module _ (links : List (Option ℕ)) (output : ℕ) (taken : Bool) (rest : LoopGiven) (es : List LoopEntry) where
  abbrev before_dial : Place
  before_dial = record { left = record rest { dials = (output, taken) ∷ rest.dials }; links = links }

  dial_step : (number : Option ℕ) → number ≡ number_if taken links → ArePlayed (record { left = rest; links = linked_to links output number }) es
      → (number ≡ dialed before_dial output) × ArePlayed (after_dial before_dial output) es
  dial_step number is played =
      let gives : number ≡ dialed before_dial output =
      is ∙ ap (λ (next : Option Bool). number_if (unwrap_or next true) links) (sym (next_is output taken rest.dials)) in (
        gives,
        subst (λ (given : Option ℕ). ArePlayed (record { left = record rest { dials = without_first (is_for output) ((output, taken) ∷ rest.dials) }; links = linked_to links output given }) es) gives
            (subst (λ (left : List (ℕ × Bool)). ArePlayed (record { left = record rest { dials = left }; links = linked_to links output number }) es) (sym (others_left output taken rest.dials)) played),
      )

-- ---- pushes

same_word : (answer : PushAnswer) → word_answer (word_of answer) ≡ answer
same_word (Took bytes) = refl
same_word Again = refl
same_word Broke = refl

within : (bytes : List ℕ) (answer : PushAnswer) → TakesWithin bytes answer → answer ≡ limit_push (Some answer) (length bytes)
within bytes (Took taken) is = ap (λ (n : ℕ). Took n) (sym (min-eq_left is))
within bytes Again is = refl
within bytes Broke is = refl

-- ---- replies

reply_is : (answer : Option (Unit {0})) → answer ≡ taken_answer (is_some answer)
reply_is (Some done) = refl
reply_is None = refl

-- ---- all calls

module _ (numbers : ℕ → ℕ) (until paused : ℕ) (places : List (ℕ × ℕ)) where
  abbrev given_left : List Happening → List Given → LoopGiven
  given_left heard given = record {
    happenings = map (happening_named numbers) heard;
    places = places;
    dials = filter_map dial_in given;
    pushes = filter_map push_in given;
    replies = filter_map reply_in given;
    words = filter_map word_in given;
    round = gnil;
  }

  abbrev pub place_at : Links → List Seen → Place
  place_at so_far seen = record { left = given_left (heard_in seen) (answers_in so_far (calls_of seen)); links = so_far.outputs }

  push_step : (links : List (Option ℕ)) (heard : List Happening) (given : List Given) (es : List LoopEntry) (bytes : List ℕ) (answer : PushAnswer) (at : Option ℕ)
      → TakesWithin bytes answer → (at ≡ None → answer ≡ Broke) → ArePlayed (record { left = given_left heard given; links = links }) es
      → let before : Place = record { left = given_left heard (push_given at answer ++ given); links = links } in
      (answer ≡ pushed_to before at (length bytes)) × ArePlayed (after_push_to before at) es
  push_step links heard given es bytes answer None most broke played = (broke refl, played)
  push_step links heard given es bytes answer (Some output) most broke played =
      let rest = filter_map push_in given in
      let word : (output, word_answer (word_of answer)) ∷ rest ≡ (output, answer) ∷ rest = ap (λ (a : PushAnswer). (output, a) ∷ rest) (same_word answer) in (
        within bytes answer most ∙ ap (λ (next : Option PushAnswer). limit_push next (length bytes)) (sym (ap (λ (l : List (ℕ × PushAnswer)). next_for output l) word ∙ next_is output answer rest)),
        subst (λ (left : List (ℕ × PushAnswer)). ArePlayed (record { left = record (given_left heard given) { pushes = left }; links = links }) es)
            (sym (ap (λ (l : List (ℕ × PushAnswer)). without_first (is_for output) l) word ∙ others_left output answer rest)) played,
      )

  module _ (seen : List Seen) where
    abbrev rest : List LoopEntry
    rest = replayed numbers until paused seen

    abbrev Goes : Links → (call : LoopCall) → LoopAnswer call → Type 0
    Goes so_far call answer = ArePlayed (place_at so_far (Answered (entry call answer) ∷ seen)) (call_named numbers call answer ∷ rest)

    goes_wait : (so_far : Links) (u p : ℕ) (brought : Happening) → Comes numbers p brought (heard_in seen) → ArePlayed (place_at so_far seen) rest → Goes so_far (Wait u p) brought
    goes_wait so_far u p brought is played =
        (is.0, subst (λ (later : List Happening). ArePlayed (record { left = record (given_left (heard_in seen) (answers_in so_far (calls_of seen))) { happenings = later }; links = so_far.outputs }) rest) (sym is.1) played)

    goes_dial : (so_far : Links) (output : ℕ) (tag : List ℕ) (answer : Option ℕ)
        → ((link : ℕ) → answer ≡ Some link → (numbers link ≡ length so_far.outputs + 1) × (length so_far.outputs < 2 ^ 64 - 1))
        → ArePlayed (place_at (with_link so_far output answer) seen) rest → Goes so_far (Dial output tag) answer
    goes_dial so_far output tag (Some link) next played =
        dial_step so_far.outputs output true (given_left (heard_in seen) (answers_in (with_link so_far output (Some link)) (calls_of seen))) rest
        (Some (numbers link)) (taken_number so_far.outputs (numbers link) (next link refl).0 (next link refl).1) played
    goes_dial so_far output tag None next played =
        dial_step so_far.outputs output false (given_left (heard_in seen) (answers_in so_far (calls_of seen))) rest None refl played

    goes_push : (so_far : Links) (link : ℕ) (bytes : List ℕ) (answer : PushAnswer) → output_of so_far.outputs (numbers link) ≡ output_at so_far link
        → TakesWithin bytes answer → (output_at so_far link ≡ None → answer ≡ Broke) → ArePlayed (place_at so_far seen) rest → Goes so_far (Push link bytes) answer
    goes_push so_far link bytes answer same most broke played =
        let before : Place = place_at so_far (Answered (entry (Push link bytes) answer) ∷ seen) in
        subst (λ (at : Option ℕ). (answer ≡ pushed_to before at (length bytes)) × ArePlayed (after_push_to before at) rest) (sym same)
        (push_step so_far.outputs (heard_in seen) (answers_in so_far (calls_of seen)) rest bytes answer (output_at so_far link) most broke played)

    goes_close : (so_far : Links) (link : ℕ) → closed so_far.outputs (numbers link) ≡ closed so_far.outputs (number_of so_far.links link)
        → ArePlayed (place_at (without_link so_far link) seen) rest → Goes so_far (Close link) tt
    goes_close so_far link same played =
        (refl, subst (λ (l : List (Option ℕ)). ArePlayed (record { left = given_left (heard_in seen) (answers_in (without_link so_far link) (calls_of seen)); links = l }) rest) (sym same) played)

-- ---- the whole run

module _ (endless : Bool) (all : List ℕ) (rising : AreRising 0 all) (few : length all ≤ 2 ^ 64 - 1) (until paused : ℕ) (places : List (ℕ × ℕ)) where
  abbrev IsLong : Links → Type 0
  IsLong so_far = length so_far.outputs ≡ length so_far.links

  long_after : (so_far : Links) (call : LoopCall) (answer : LoopAnswer call) → IsLong so_far → IsLong (links_after so_far call answer)
  long_after so_far (Start ends) answer long = long
  long_after so_far (Wait u p) answer long = long
  long_after so_far (Dial output tag) (Some link) long =
      length-append so_far.outputs (Some output ∷ []) ∙ ap (λ (n : ℕ). n + 1) long ∙ sym (length-append so_far.links (link ∷ []))
  long_after so_far (Dial output tag) None long = long
  long_after so_far (Push link bytes) answer long = long
  long_after so_far (Close link) answer long = closed_as_long so_far.outputs (number_of so_far.links link) ∙ long
  long_after so_far (Reply conn bytes) answer long = long
  long_after so_far (DropConn conn) answer long = long
  long_after so_far Word answer long = long

  -- the links after a call, and those that follow
  split_after : (so_far : Links) (call : LoopCall) (answer : LoopAnswer call) (more : List ℕ) → all ≡ so_far.links ++ (links_by call answer ++ more)
      → all ≡ (links_after so_far call answer).links ++ more
  split_after so_far (Start ends) answer more split = split
  split_after so_far (Wait u p) answer more split = split
  split_after so_far (Dial output tag) (Some link) more split = split ∙ sym (append_assoc so_far.links (link ∷ []) more)
  split_after so_far (Dial output tag) None more split = split
  split_after so_far (Push link bytes) answer more split = split
  split_after so_far (Close link) answer more split = split
  split_after so_far (Reply conn bytes) answer more split = split
  split_after so_far (DropConn conn) answer more split = split
  split_after so_far Word answer more split = split

  module _ (so_far : Links) (more : List ℕ) (long : IsLong so_far) (split : all ≡ so_far.links ++ more) (link : ℕ) where
    output_same : output_of so_far.outputs (number_of all link) ≡ output_at so_far link
    output_same = ap (λ (l : List ℕ). output_of so_far.outputs (number_of l link)) split ∙ same_output so_far.links more so_far.outputs long link

    closed_same : closed so_far.outputs (number_of all link) ≡ closed so_far.outputs (number_of so_far.links link)
    closed_same = ap (λ (l : List ℕ). closed so_far.outputs (number_of l link)) split ∙ same_closed so_far.links more so_far.outputs long link

  -- the number of a new link
  number_is : (so_far : Links) (answer : Option ℕ) (output : ℕ) (tag : List ℕ) (more : List ℕ) → IsLong so_far → all ≡ so_far.links ++ (links_by (Dial output tag) answer ++ more)
      → (link : ℕ) → answer ≡ Some link → (number_of all link ≡ length so_far.outputs + 1) × (length so_far.outputs < 2 ^ 64 - 1)
  number_is so_far None output tag more long split link is = absurd (cc is)
  number_is so_far (Some other) output tag more long split link is =
      let same : other ≡ link = cc is in
      let numbered : number_of all other ≡ length so_far.outputs + 1 =
      ap (λ (l : List ℕ). number_of l other) split
      ∙ next_number 0 so_far.links more other (subst (λ (l : List ℕ). AreRising 0 l) split rising)
      ∙ ap (λ (n : ℕ). n + 1) (sym long) in
      let size : length all ≡ length so_far.links + length (other ∷ more) = ap length split ∙ length-append so_far.links (other ∷ more) in
      let less : length so_far.outputs < 2 ^ 64 - 1 = omega (arith, few, size, long) in
      subst (λ (l : ℕ). (number_of all l ≡ length so_far.outputs + 1) × (length so_far.outputs < 2 ^ 64 - 1)) same (numbered, less)

  abbrev place : Links → List Seen → Place
  place so_far seen = place_at (number_of all) until paused places so_far seen

  abbrev Plays : Links → List Seen → Type 0
  Plays so_far seen = ArePlayed (place so_far seen) (replayed (number_of all) until paused seen)

  goes : (so_far : Links) (call : LoopCall) (answer : LoopAnswer call) (seen : List Seen) → IsLong so_far → all ≡ so_far.links ++ (links_by call answer ++ links_in (calls_of seen))
      → IsAllowed endless call answer → CanReplay so_far call answer (heard_in seen) → Plays (links_after so_far call answer) seen → Plays so_far (Answered (entry call answer) ∷ seen)
  goes so_far (Start ends) answer seen long split allowed can played = (can, played)
  goes so_far (Wait u p) brought seen long split allowed can played =
      goes_wait (number_of all) until paused places seen so_far u p brought (comes (number_of all) endless p brought (heard_in seen) allowed can) played
  goes so_far (Dial output tag) answer seen long split allowed can played =
      goes_dial (number_of all) until paused places seen so_far output tag answer (number_is so_far answer output tag (links_in (calls_of seen)) long split) played
  goes so_far (Push link bytes) answer seen long split allowed can played =
      goes_push (number_of all) until paused places seen so_far link bytes answer (output_same so_far (links_in (calls_of seen)) long split link) allowed can played
  goes so_far (Close link) answer seen long split allowed can played =
      goes_close (number_of all) until paused places seen so_far link (closed_same so_far (links_in (calls_of seen)) long split link) played
  goes so_far (Reply conn bytes) answer seen long split allowed can played = (reply_is answer, played)
  goes so_far (DropConn conn) answer seen long split allowed can played = (refl, played)
  goes so_far Word answer seen long split allowed can played = (refl, played)

  goes_stop : (so_far : Links) (seen : List Seen) → Plays so_far seen → Plays so_far (Stopped ∷ seen)
  goes_stop so_far seen played =
      let first = heard_first paused happening.Stop (map (happening_named (number_of all)) (heard_in seen)) refl in
      (first.0, subst (λ (later : List Happening). ArePlayed (record { left = record (place so_far seen).left { happenings = later }; links = so_far.outputs }) (replayed (number_of all) until paused seen)) (sym first.1) played)

  pub plays : (so_far : Links) (seen : List Seen) → IsLong so_far → all ≡ so_far.links ++ links_in (calls_of seen)
      → AreAllowed endless (calls_of seen) → AreReplayable so_far seen → Plays so_far seen
  plays so_far [] long split allowed can = tt
  plays so_far (Answered e ∷ seen) long split allowed can =
      goes so_far e.call e.answer seen long split allowed.0 can.0
      (plays (links_after so_far e.call e.answer) seen (long_after so_far e.call e.answer long) (split_after so_far e.call e.answer (links_in (calls_of seen)) split) allowed.1 can.1)
  plays so_far (Stopped ∷ seen) long split allowed can = goes_stop so_far seen (plays so_far seen long split allowed can)
