-- The progress of a flush agrees with the outcome of its events.
use Rattle.std.proofs.Common.{◌≡◌, ◌≢◌, ℕ, zero, suc, ◌+◌, ◌<◌, ◌≤◌, min, Bool, true, false, nat_lt, if◌then◌else◌, List, [], ◌∷◌, ◌++◌, length, length-append, take, drop, length-drop, append_assoc, Option, Some, None, refl, sym, ◌∙◌, ap, subst, arith}
use Rattle.std.specs.List.{list_any}
use Rattle.std.proofs.lemmas.Bool.{ltb-true, ltb-false, eq-eqb, ne_eqb}
use Rattle.std.proofs.lemmas.List.{append-nil, length-take, take-append-drop}
use Rattle.std.proofs.Math.Seq.{drop-append_seam}
use Rattle.std.proofs.lemmas.List.Folds.{list_any-append}
use Rattle.fwd_outside.specs.Program.{Return, Ask, Execution}
use Rattle.fwd_base.specs.declared.ids.LinkId.{LinkId}
use Rattle.fwd_outside.specs.Loop.{LoopEntry, LoopProgram, Push, PushAnswer, Took, Again, Broke}
use Rattle.fwd_table.specs.declared.outcome.Answer.{Answer}
use Rattle.fwd_table.specs.declared.outcome.Answer.TheVariants.{Good, Retry, Bad}
use Rattle.fwd_flush.specs.declared.judgement.Judged.{Judged}
use Rattle.fwd_flush.specs.declared.judgement.Judged.TheVariants.{More, Right, Wrong, Fatal}
use Rattle.fwd_flush.specs.declared.stage.Stage.{Stage}
use Rattle.fwd_flush.specs.declared.stage.Stage.TheVariants.{Opening, Writing, AwaitingAck, Ended}
use Rattle.fwd_flush.specs.FlushProgram.{Progress, Delivery, not_started, link_in, ends, continues_by, confirms_payload, pushed_on, pushes, writes, dialed_on, starts, polls, with_reply_bytes, backs, breaks}
use Rattle.fwd_flush.specs.Outcome.{Occurrence, Room, Back, Broken, program_at, events_of_occurrence, Event, Dialed, Pushed, Replied, LinkBroke, taken_of, bytes_pushed, replied_in, bytes_replied, is_empty, fails, gives_link, by_reply, decided, else_by, outcome_behind, flush_outcome, answer_in, events_of, IsUnbroken, IsAt, ProgressRepresents}
use Rattle.fwd_flush.proofs.Steps.{silent, replies}
use Rattle.fwd_flush.proofs.Programs.{heard_stage, heard_reply, heard_taken, polls_at, polls_not, backs_writing, backs_awaiting, backs_not, breaks_at, breaks_not}

pub bytes_pushed-append : (xs ys : List Event) → bytes_pushed (xs ++ ys) ≡ bytes_pushed xs ++ bytes_pushed ys
bytes_pushed-append [] ys = refl
bytes_pushed-append (e ∷ xs) ys = rw (bytes_pushed-append xs ys) (sym (append_assoc (taken_of e) (bytes_pushed xs) (bytes_pushed ys)))

pub bytes_replied-append : (xs ys : List Event) → bytes_replied (xs ++ ys) ≡ bytes_replied xs ++ bytes_replied ys
bytes_replied-append [] ys = refl
bytes_replied-append (e ∷ xs) ys = rw (bytes_replied-append xs ys) (sym (append_assoc (replied_in e) (bytes_replied xs) (bytes_replied ys)))

-- these events decide nothing before their end
abbrev pub Quiet : Delivery → List Event → Type 0
Quiet d events = (more : List Event) → flush_outcome d (events ++ more) ≡ outcome_behind d events more

module _ (d : Delivery) where
  pub quiet_none : Quiet d []
  quiet_none more = refl

  pub quiet_more : (events : List Event) (e : Event) → Quiet d events → decided d events ≡ None → Quiet d (events ++ e ∷ [])
  quiet_more events e quiet none more = ap (λ (l : List Event). flush_outcome d l) (append_assoc events (e ∷ []) more) ∙ quiet (e ∷ more) ∙ rw none refl

  pub quiet_outcome : (events : List Event) → Quiet d events → flush_outcome d events ≡ decided d events
  quiet_outcome events quiet = ap (λ (l : List Event). flush_outcome d l) (sym (append-nil events)) ∙ quiet []

  none_first : (first later : Option Answer) → else_by first later ≡ None → (first ≡ None) × (later ≡ None)
  none_first None later is = (refl, is)
  none_first (Some answer) later is = absurd (cc is)

  behind_none : (before events more : List Event) → outcome_behind d before events ≡ None → outcome_behind d before (events ++ more) ≡ outcome_behind d (before ++ events) more
  behind_none before [] more none = rw append-nil refl
  behind_none before (e ∷ events) more none =
      let both = none_first (decided d before) (outcome_behind d (before ++ e ∷ []) events) none in
      rw (both.0) (behind_none (before ++ e ∷ []) events more both.1 ∙ ap (λ (l : List Event). outcome_behind d l more) (append_assoc before (e ∷ []) events))

  pub quiet_by : (events : List Event) → flush_outcome d events ≡ None → Quiet d events
  quiet_by events none more = behind_none [] events more none

  behind_some : (before events more : List Event) (answer : Answer) → outcome_behind d before events ≡ Some answer → outcome_behind d before (events ++ more) ≡ Some answer
  behind_some before [] [] answer is = is
  behind_some before [] (e ∷ more) answer is = rw is refl
  behind_some before (e ∷ events) more answer is = by (decided d before) is (behind_some (before ++ e ∷ []) events more answer)
    where
      by : (first : Option Answer) → else_by first (outcome_behind d (before ++ e ∷ []) events) ≡ Some answer
          → (outcome_behind d (before ++ e ∷ []) events ≡ Some answer → outcome_behind d (before ++ e ∷ []) (events ++ more) ≡ Some answer)
          → else_by first (outcome_behind d (before ++ e ∷ []) (events ++ more)) ≡ Some answer
      by (Some x) is later = is
      by None is later = later is

  -- a decision stays
  pub outcome_stays : (events more : List Event) (answer : Answer) → flush_outcome d events ≡ Some answer → flush_outcome d (events ++ more) ≡ Some answer
  outcome_stays events more answer is = behind_some [] events more answer is

-- a flush ends with what was decided
pub ended : (d : Delivery) (events : List Event) (p : Progress) (link : LinkId) (answer : Answer) (es : List LoopEntry) (q : Progress)
    → flush_outcome d events ≡ Some answer → p.taken ≡ length (bytes_pushed events) → (rest : List ℕ) → bytes_pushed events ++ rest ≡ d.payload → IsAt d events p (Ended answer)
    → Execution (ends link answer p) es (Return q) → ProgressRepresents d (events ++ events_of es) q
ended d events p link answer [] q is counted rest beginning at way = absurd (cc way)
ended d events p link answer (e ∷ es) q is counted rest beginning at way = by es way.2
  where
    none : events_of (e ∷ []) ≡ []
    none = subst (λ (x : LoopEntry). events_of (x ∷ []) ≡ []) (sym way.1) refl

    stands : ProgressRepresents d events (record p { stage = Ended answer })
    stands = record { answered = is; counted = counted; rest = rest; beginning = beginning; at = at }

    by : (es : List LoopEntry) → Execution (Return (record p { stage = Ended answer })) es (Return q) → ProgressRepresents d (events ++ events_of (e ∷ es)) q
    by [] over =
        let same : record p { stage = Ended answer } ≡ q = cc over in
        rw (none, append-nil) (subst (λ (x : Progress). ProgressRepresents d events x) same stands)
    by (x ∷ xs) over = absurd over

-- a flush in flight: nothing failed, and it has its link
pub record Runs (d : Delivery) (events : List Event) (p : Progress) : Type 0 where
  pub quiet : Quiet d events
  pub intact : IsUnbroken d events p
  pub counted : p.taken ≡ length (bytes_pushed events)
  pub rest : List ℕ
  pub beginning : bytes_pushed events ++ rest ≡ d.payload

module _ (d : Delivery) (events : List Event) (p : Progress) (runs : Runs d events p) where
  pub within : p.taken ≤ length d.payload
  within = omega (arith, runs.counted, ap length runs.beginning, length-append (bytes_pushed events) runs.rest)

  -- an unbroken flush whose payload isn't whole has decided nothing
  pub undecided : p.taken < length d.payload → decided d events ≡ None
  undecided less =
      let short : length (bytes_pushed events) ≢ length d.payload = λ is. omega (arith, runs.counted) in
      rw (runs.intact.unbroken, runs.intact.linked, ne_eqb (length (bytes_pushed events)) (length d.payload) short) refl

  -- one whose payload is whole decides by the reply
  pub whole_decides : p.taken ≡ length d.payload → decided d events ≡ (if d.wanted then by_reply (d.judged (bytes_replied events)) else Some Good)
  whole_decides all =
      let same : length (bytes_pushed events) ≡ length d.payload = sym runs.counted ∙ all in
      rw (runs.intact.unbroken, runs.intact.linked, eq-eqb (length (bytes_pushed events)) (length d.payload) same) refl

  -- it ends with this outcome
  ends_so : (link : LinkId) (answer : Answer) (es : List LoopEntry) (q : Progress) → decided d events ≡ Some answer → IsAt d events p (Ended answer)
      → Execution (ends link answer p) es (Return q) → ProgressRepresents d (events ++ events_of es) q
  ends_so link answer es q is at way = ended d events p link answer es q (quiet_outcome d events runs.quiet ∙ is) runs.counted runs.rest runs.beginning at way

  -- it waits for more of the reply
  pub awaits : (link : LinkId) (es : List LoopEntry) (q : Progress) → p.taken ≡ length d.payload → d.wanted ≡ true → d.judged p.reply ≡ More
      → Execution (Return (record p { stage = AwaitingAck link })) es (Return q) → ProgressRepresents d (events ++ events_of es) q
  awaits link (e ∷ es) q all wanted more over = absurd over
  awaits link [] q all wanted more over =
      let same : record p { stage = AwaitingAck link } ≡ q = cc over in
      let none : decided d events ≡ None = rw (whole_decides all, wanted, ← runs.intact.kept wanted, more) refl in
      let now : ProgressRepresents d events (record p { stage = AwaitingAck link }) = record {
        answered = quiet_outcome d events runs.quiet ∙ none;
        counted = runs.counted;
        rest = runs.rest;
        beginning = runs.beginning;
        at = (record { unbroken = runs.intact.unbroken; linked = runs.intact.linked; kept = runs.intact.kept }, all, wanted);
      } in
      rw append-nil (subst (λ (x : Progress). ProgressRepresents d events x) same now)

  -- it waits for room
  pub waits : (link : LinkId) (es : List LoopEntry) (q : Progress) → p.taken < length d.payload
      → Execution (Return (record p { stage = Writing link })) es (Return q) → ProgressRepresents d (events ++ events_of es) q
  waits link (e ∷ es) q less over = absurd over
  waits link [] q less over =
      let same : record p { stage = Writing link } ≡ q = cc over in
      let now : ProgressRepresents d events (record p { stage = Writing link }) = record {
        answered = quiet_outcome d events runs.quiet ∙ undecided less;
        counted = runs.counted;
        rest = runs.rest;
        beginning = runs.beginning;
        at = (record { unbroken = runs.intact.unbroken; linked = runs.intact.linked; kept = runs.intact.kept }, less);
      } in
      rw append-nil (subst (λ (x : Progress). ProgressRepresents d events x) same now)

  by_judgement : (link : LinkId) (j : Judged) (es : List LoopEntry) (q : Progress) → p.taken ≡ length d.payload → d.wanted ≡ true → d.judged p.reply ≡ j
      → Execution (continues_by link p j) es (Return q) → ProgressRepresents d (events ++ events_of es) q
  by_judgement link More es q all wanted is way = awaits link es q all wanted is way
  by_judgement link Right es q all wanted is way =
      let so : decided d events ≡ Some Good = rw (whole_decides all, wanted, ← runs.intact.kept wanted, is) refl in
      ends_so link Good es q so all way
  by_judgement link Wrong es q all wanted is way =
      let so : decided d events ≡ Some Retry = rw (whole_decides all, wanted, ← runs.intact.kept wanted, is) refl in
      ends_so link Retry es q so tt way
  by_judgement link Fatal es q all wanted is way =
      let so : decided d events ≡ Some Bad = rw (whole_decides all, wanted, ← runs.intact.kept wanted, is) refl in
      ends_so link Bad es q so (all, wanted, is) way

  -- after the link took the whole payload
  pub confirmed : (link : LinkId) (es : List LoopEntry) (q : Progress) → p.taken ≡ length d.payload → Execution (confirms_payload d link p) es (Return q) → ProgressRepresents d (events ++ events_of es) q
  confirmed link es q all way = by d.wanted refl
    where
      by : (b : Bool) → d.wanted ≡ b → ProgressRepresents d (events ++ events_of es) q
      by true wanted = by_judgement link (d.judged p.reply) es q all wanted refl (subst (λ (x : LoopProgram Progress). Execution x es (Return q)) (replies d link p (d.judged p.reply) wanted refl) way)
      by false wanted =
          let so : decided d events ≡ Some Good = rw (whole_decides all, wanted) refl in
          ends_so link Good es q so all (subst (λ (x : LoopProgram Progress). Execution x es (Return q)) (silent d link p wanted) way)

-- one more event without a failure
module _ (d : Delivery) (events : List Event) (p : Progress) (runs : Runs d events p) (none : decided d events ≡ None) where
  -- an event that fails ends the flush
  pub fails_now : (e : Event) (link : LinkId) (es : List LoopEntry) (q : Progress) → fails e ≡ true → taken_of e ≡ []
      → Execution (ends link Retry p) es (Return q) → ProgressRepresents d ((events ++ e ∷ []) ++ events_of es) q
  fails_now e link es q broken nothing way =
      let failed : list_any fails (events ++ e ∷ []) ≡ true = rw (list_any-append fails events (e ∷ []), runs.intact.unbroken, broken) refl in
      let so : decided d (events ++ e ∷ []) ≡ Some Retry = rw failed refl in
      let same : bytes_pushed (events ++ e ∷ []) ≡ bytes_pushed events = rw (bytes_pushed-append events (e ∷ []), nothing) (append-nil (bytes_pushed events)) in
      ended d (events ++ e ∷ []) p link Retry es q (quiet_outcome d (events ++ e ∷ []) (quiet_more d events e runs.quiet none) ∙ so) (runs.counted ∙ sym (ap length same))
      runs.rest (ap (λ (l : List ℕ). l ++ runs.rest) same ∙ runs.beginning) tt way

  still_unbroken : (e : Event) → fails e ≡ false → list_any fails (events ++ e ∷ []) ≡ false
  still_unbroken e whole = rw (list_any-append fails events (e ∷ []), runs.intact.unbroken, whole) refl

  still_linked : (e : Event) → list_any gives_link (events ++ e ∷ []) ≡ true
  still_linked e = rw (list_any-append gives_link events (e ∷ []), runs.intact.linked) refl

  -- an event that takes nothing and brings nothing
  pub runs_idle : (e : Event) → fails e ≡ false → taken_of e ≡ [] → replied_in e ≡ [] → Runs d (events ++ e ∷ []) p
  runs_idle e whole nothing silence = record {
    quiet = quiet_more d events e runs.quiet none;
    intact = record {
      unbroken = still_unbroken e whole;
      linked = still_linked e;
      kept = λ wanted. runs.intact.kept wanted ∙ sym (rw (bytes_replied-append events (e ∷ []), silence) (append-nil (bytes_replied events)));
    };
    counted = runs.counted ∙ sym (ap length same);
    rest = runs.rest;
    beginning = ap (λ (l : List ℕ). l ++ runs.rest) same ∙ runs.beginning;
  }
    where
      same : bytes_pushed (events ++ e ∷ []) ≡ bytes_pushed events
      same = rw (bytes_pushed-append events (e ∷ []), nothing) (append-nil (bytes_pushed events))

  pub rest_is : drop p.taken d.payload ≡ runs.rest
  rest_is = rw (runs.counted, ← runs.beginning) (drop-append_seam (bytes_pushed events) runs.rest)

  -- a push that took some bytes
  pub runs_pushed : (n : ℕ) → n ≢ 0 → Runs d (events ++ Pushed (drop p.taken d.payload) (Took n) ∷ []) (record p { taken = p.taken + min n (length (drop p.taken d.payload)) })
  runs_pushed n some = record {
    quiet = quiet_more d events e runs.quiet none;
    intact = record {
      unbroken = still_unbroken e (rw (ne_eqb n 0 some) refl);
      linked = still_linked e;
      kept = λ wanted. runs.intact.kept wanted ∙ sym (bytes_replied-append events (e ∷ []) ∙ append-nil (bytes_replied events));
    };
    counted = omega (arith, runs.counted, ap length handed_now, length-append (bytes_pushed events) (take n left), length-take n left);
    rest = drop n left;
    beginning = rw (handed_now, append_assoc (bytes_pushed events) (take n left) (drop n left), take-append-drop n left, rest_is) runs.beginning;
  }
    where
      left : List ℕ
      left = drop p.taken d.payload

      e : Event
      e = Pushed left (Took n)

      handed_now : bytes_pushed (events ++ e ∷ []) ≡ bytes_pushed events ++ take n left
      handed_now = bytes_pushed-append events (e ∷ []) ∙ ap (λ (l : List ℕ). bytes_pushed events ++ l) (append-nil (take n left))

  -- bytes of a reply
  pub runs_heard : (bytes : List ℕ) → Runs d (events ++ Replied bytes ∷ []) (with_reply_bytes d bytes p)
  runs_heard bytes = record {
    quiet = quiet_more d events (Replied bytes) runs.quiet none;
    intact = record {
      unbroken = still_unbroken (Replied bytes) refl;
      linked = still_linked (Replied bytes);
      kept = λ wanted. heard_reply d bytes p wanted ∙ ap (λ (l : List ℕ). l ++ bytes) (runs.intact.kept wanted) ∙ ap (λ (l : List ℕ). bytes_replied events ++ l) (sym (append-nil bytes)) ∙ sym (bytes_replied-append events (Replied bytes ∷ []));
    };
    counted = heard_taken d bytes p ∙ runs.counted ∙ sym (ap length handed_same);
    rest = runs.rest;
    beginning = ap (λ (l : List ℕ). l ++ runs.rest) handed_same ∙ runs.beginning;
  }
    where
      handed_same : bytes_pushed (events ++ Replied bytes ∷ []) ≡ bytes_pushed events
      handed_same = bytes_pushed-append events (Replied bytes ∷ []) ∙ append-nil (bytes_pushed events)

-- the rest isn't empty
some_left : (xs : List ℕ) → 0 < length xs → is_empty xs ≡ false
some_left [] some = absurd (omega arith)
some_left (x ∷ xs) some = refl

module _ (d : Delivery) (link : LinkId) where
  -- the pushes of the rest
  abbrev Written : ℕ → Type 0
  Written left = (events : List Event) (p : Progress) (es : List LoopEntry) (q : Progress) → Runs d events p → length d.payload ≤ p.taken + left
      → Execution (pushes left d link p) es (Return q) → ProgressRepresents d (events ++ events_of es) q

  answered_push : (left : ℕ) → Written left → (events : List Event) (p : Progress) (es : List LoopEntry) (q : Progress) (answer : PushAnswer) → Runs d events p
      → p.taken < length d.payload → length d.payload ≤ p.taken + suc left
      → Execution (pushed_on (pushes left d link) link (drop p.taken d.payload) p answer) es (Return q)
      → ProgressRepresents d ((events ++ Pushed (drop p.taken d.payload) answer ∷ []) ++ events_of es) q
  answered_push left written events p es q (Took zero) runs less enough way =
      let some : 0 < length (drop p.taken d.payload) = omega (arith, length-drop p.taken d.payload) in
      let more : is_empty (drop p.taken d.payload) ≡ false = some_left (drop p.taken d.payload) some in
      fails_now d events p runs (undecided d events p runs less) (Pushed (drop p.taken d.payload) (Took zero)) link es q (rw more refl) refl way
  answered_push left written events p es q (Took (suc n)) runs less enough way =
      let some : suc n ≢ 0 = λ is. omega arith in
      let more = runs_pushed d events p runs (undecided d events p runs less) (suc n) some in
      let fits : length d.payload ≤ (p.taken + min (suc n) (length (drop p.taken d.payload))) + left = omega (arith, length-drop p.taken d.payload) in
      written _ (record p { taken = p.taken + min (suc n) (length (drop p.taken d.payload)) }) es q more fits (rw (ne_eqb (suc n) 0 some) at way)
  answered_push left written events p es q Again runs less enough way =
      waits d _ p (runs_idle d events p runs (undecided d events p runs less) (Pushed (drop p.taken d.payload) Again) refl refl refl) link es q less way
  answered_push left written events p es q Broke runs less enough way =
      fails_now d events p runs (undecided d events p runs less) (Pushed (drop p.taken d.payload) Broke) link es q refl refl way

  asked_push : (left : ℕ) → Written left → (events : List Event) (p : Progress) (es : List LoopEntry) (q : Progress) → Runs d events p
      → p.taken < length d.payload → length d.payload ≤ p.taken + suc left
      → Execution (Ask (Push link.0 (drop p.taken d.payload)) (pushed_on (pushes left d link) link (drop p.taken d.payload) p)) es (Return q)
      → ProgressRepresents d (events ++ events_of es) q
  asked_push left written events p [] q runs less enough way = absurd (cc way)
  asked_push left written events p (e ∷ es) q runs less enough way =
      let stands = answered_push left written events p es q way.0 runs less enough way.2 in
      let is : events_of (e ∷ es) ≡ Pushed (drop p.taken d.payload) way.0 ∷ events_of es =
      subst (λ (x : LoopEntry). events_of (x ∷ es) ≡ Pushed (drop p.taken d.payload) way.0 ∷ events_of es) (sym way.1) refl in
      rw is (rw append_assoc at stands)

  pub writes_on : (left : ℕ) → Written left
  writes_on zero events p es q runs enough way =
      let all : p.taken ≡ length d.payload = omega (arith, within d events p runs) in
      confirmed d events p runs link es q all way
  writes_on (suc left) events p es q runs enough way = by (nat_lt p.taken (length d.payload)) (writes_on left) refl way
    where
      by : (b : Bool) → Written left → nat_lt p.taken (length d.payload) ≡ b
          → Execution (if b then Ask (Push link.0 (drop p.taken d.payload)) (pushed_on (pushes left d link) link (drop p.taken d.payload) p) else confirms_payload d link p) es (Return q)
          → ProgressRepresents d (events ++ events_of es) q
      by true written lt w = asked_push left written events p es q runs (ltb-true p.taken (length d.payload) lt) enough w
      by false written ge w =
          let all : p.taken ≡ length d.payload = omega (arith, within d events p runs, ltb-false p.taken (length d.payload) ge) in
          confirmed d events p runs link es q all w

  pub written : (events : List Event) (p : Progress) (es : List LoopEntry) (q : Progress) → Runs d events p → Execution (writes d link p) es (Return q) → ProgressRepresents d (events ++ events_of es) q
  unfolding writes
  written events p es q runs way = writes_on (length d.payload) events p es q runs (omega arith) way

-- a started flush
dialed_to : (d : Delivery) (es : List LoopEntry) (p : Progress) (answer : Option ℕ) → Execution (dialed_on d not_started answer) es (Return p) → ProgressRepresents d (Dialed answer ∷ events_of es) p
dialed_to d [] p None way =
    let same : record not_started { stage = Ended Retry } ≡ p = cc way in
    subst (λ (x : Progress). ProgressRepresents d (Dialed None ∷ []) x) same (record { answered = refl; counted = refl; rest = d.payload; beginning = refl; at = tt })
dialed_to d (e ∷ es) p None way = absurd way
dialed_to d es p (Some number) way =
    let link : LinkId = record { 0 = number } in
    written d link (Dialed (Some number) ∷ []) (record not_started { stage = Writing link }) es p
    (record {
      quiet = quiet_more d [] (Dialed (Some number)) (quiet_none d) refl;
      intact = record { unbroken = refl; linked = refl; kept = λ wanted. refl };
      counted = refl;
      rest = d.payload;
      beginning = refl;
    })
    way

pub starts_law : (d : Delivery) (output : ℕ) (tag : List ℕ) (es : List LoopEntry) (p : Progress) → Execution (starts d output tag not_started) es (Return p) → ProgressRepresents d (events_of es) p
unfolding starts
starts_law d output tag [] p way = absurd (cc way)
starts_law d output tag (e ∷ es) p way =
    let is : events_of (e ∷ es) ≡ Dialed way.0 ∷ events_of es = subst (λ (x : LoopEntry). events_of (x ∷ es) ≡ Dialed way.0 ∷ events_of es) (sym way.1) refl in
    rw is (dialed_to d es p way.0 way.2)

-- a flush in flight
module _ (d : Delivery) (events : List Event) (p : Progress) (stands : ProgressRepresents d events p) where
  at_stage : (s : Stage) → p.stage ≡ s → IsAt d events p s
  at_stage s is = subst (λ (x : Stage). IsAt d events p x) is stands.at

  none_yet : (s : Stage) → p.stage ≡ s → answer_in s ≡ None → flush_outcome d events ≡ None
  none_yet s is none = stands.answered ∙ ap answer_in is ∙ none

  runs_by : IsUnbroken d events p → flush_outcome d events ≡ None → Runs d events p
  runs_by intact none = record { quiet = quiet_by d events none; intact = intact; counted = stands.counted; rest = stands.rest; beginning = stands.beginning }

  decides_none : flush_outcome d events ≡ None → decided d events ≡ None
  decides_none none = sym (quiet_outcome d events (quiet_by d events none)) ∙ none

  -- an ended flush stays ended
  stays_ended : (answer : Answer) (e : Event) (es : List LoopEntry) (q : Progress) → p.stage ≡ Ended answer → taken_of e ≡ [] → Execution (Return p) es (Return q)
      → ProgressRepresents d (events ++ (e ∷ events_of es)) q
  stays_ended answer e (x ∷ es) q is nothing over = absurd over
  stays_ended answer e [] q is nothing over =
      let same : p ≡ q = cc over in
      let handed_same : bytes_pushed (events ++ e ∷ []) ≡ bytes_pushed events = rw (bytes_pushed-append events (e ∷ []), nothing) (append-nil (bytes_pushed events)) in
      subst (λ (x : Progress). ProgressRepresents d (events ++ e ∷ []) x) same
      (record {
        answered = outcome_stays d events (e ∷ []) answer (stands.answered ∙ ap answer_in is) ∙ sym (ap answer_in is);
        counted = stands.counted ∙ sym (ap length handed_same);
        rest = stands.rest;
        beginning = ap (λ (l : List ℕ). l ++ stands.rest) handed_same ∙ stands.beginning;
        at = subst (λ (s : Stage). IsAt d (events ++ e ∷ []) p s) (sym is) (at_end answer (at_stage (Ended answer) is));
      })
    where
      at_end : (answer : Answer) → IsAt d events p (Ended answer) → IsAt d (events ++ e ∷ []) p (Ended answer)
      at_end Good at = at
      at_end Retry at = at
      at_end Bad at = at

  stays : (es : List LoopEntry) (q : Progress) → Execution (Return p) es (Return q) → ProgressRepresents d (events ++ events_of es) q
  stays (x ∷ es) q over = absurd over
  stays [] q over =
      let same : p ≡ q = cc over in
      rw append-nil (subst (λ (x : Progress). ProgressRepresents d events x) same stands)

  room_at : (s : Stage) (es : List LoopEntry) (q : Progress) → p.stage ≡ s → Execution (polls d p) es (Return q) → ProgressRepresents d (events ++ events_of es) q
  room_at (Writing link) es q is way =
      let at = at_stage (Writing link) is in
      written d link events p es q (runs_by at.0 (none_yet (Writing link) is refl)) (subst (λ (x : LoopProgram Progress). Execution x es (Return q)) (polls_at d p link is) way)
  room_at Opening es q is way = absurd (at_stage Opening is)
  room_at (AwaitingAck link) es q is way = stays es q (subst (λ (x : LoopProgram Progress). Execution x es (Return q)) (polls_not d p (λ other so. let both : AwaitingAck link ≡ Writing other = sym is ∙ so in cc both)) way)
  room_at (Ended answer) es q is way = stays es q (subst (λ (x : LoopProgram Progress). Execution x es (Return q)) (polls_not d p (λ other so. let both : Ended answer ≡ Writing other = sym is ∙ so in cc both)) way)

  back_at : (s : Stage) (bytes : List ℕ) (es : List LoopEntry) (q : Progress) → p.stage ≡ s → Execution (backs d bytes p) es (Return q)
      → ProgressRepresents d (events ++ (Replied bytes ∷ events_of es)) q
  back_at Opening bytes es q is way = absurd (at_stage Opening is)
  back_at (Writing link) bytes es q is way =
      let at = at_stage (Writing link) is in
      let none = none_yet (Writing link) is refl in
      let more = runs_heard d events p (runs_by at.0 none) (decides_none none) bytes in
      let less : (with_reply_bytes d bytes p).taken < length d.payload = rw (heard_taken d bytes p) at.1 in
      let same : with_reply_bytes d bytes p ≡ record (with_reply_bytes d bytes p) { stage = Writing link } = ap (λ (s : Stage). record (with_reply_bytes d bytes p) { stage = s }) (heard_stage d bytes p ∙ is) in
      let over : Execution (Return (with_reply_bytes d bytes p)) es (Return q) = subst (λ (x : LoopProgram Progress). Execution x es (Return q)) (backs_writing d p bytes link is) way in
      rw append_assoc at (waits d _ (with_reply_bytes d bytes p) more link es q less (subst (λ (x : Progress). Execution (Return x) es (Return q)) same over))
  back_at (AwaitingAck link) bytes es q is way =
      let at = at_stage (AwaitingAck link) is in
      let none = none_yet (AwaitingAck link) is refl in
      let more = runs_heard d events p (runs_by at.0 none) (decides_none none) bytes in
      let all : (with_reply_bytes d bytes p).taken ≡ length d.payload = heard_taken d bytes p ∙ at.1 in
      rw append_assoc at (confirmed d _ (with_reply_bytes d bytes p) more link es q all (subst (λ (x : LoopProgram Progress). Execution x es (Return q)) (backs_awaiting d p bytes link is) way))
  back_at (Ended answer) bytes es q is way =
      stays_ended answer (Replied bytes) es q is refl
      (subst (λ (x : LoopProgram Progress). Execution x es (Return q))
      (backs_not d p bytes (λ other so. let both : Ended answer ≡ Writing other = sym is ∙ so in cc both) (λ other so. let both : Ended answer ≡ AwaitingAck other = sym is ∙ so in cc both)) way)

  broken_at : (s : Stage) (es : List LoopEntry) (q : Progress) → p.stage ≡ s → Execution (breaks p) es (Return q) → ProgressRepresents d (events ++ (LinkBroke ∷ events_of es)) q
  broken_at Opening es q is way = absurd (at_stage Opening is)
  broken_at (Writing link) es q is way =
      let at = at_stage (Writing link) is in
      let none = none_yet (Writing link) is refl in
      rw append_assoc at (fails_now d events p (runs_by at.0 none) (decides_none none) LinkBroke link es q refl refl (subst (λ (x : LoopProgram Progress). Execution x es (Return q)) (breaks_at p link (ap link_in is)) way))
  broken_at (AwaitingAck link) es q is way =
      let at = at_stage (AwaitingAck link) is in
      let none = none_yet (AwaitingAck link) is refl in
      rw append_assoc at (fails_now d events p (runs_by at.0 none) (decides_none none) LinkBroke link es q refl refl (subst (λ (x : LoopProgram Progress). Execution x es (Return q)) (breaks_at p link (ap link_in is)) way))
  broken_at (Ended answer) es q is way =
      stays_ended answer LinkBroke es q is refl (subst (λ (x : LoopProgram Progress). Execution x es (Return q)) (breaks_not p (ap link_in is)) way)

pub goes_law : (d : Delivery) (turn : Occurrence) (events : List Event) (es : List LoopEntry) (p q : Progress)
    → ProgressRepresents d events p → Execution (program_at d turn p) es (Return q) → ProgressRepresents d (events ++ (events_of_occurrence turn ++ events_of es)) q
goes_law d Room events es p q stands way = room_at d events p stands p.stage es q refl way
goes_law d (Back bytes) events es p q stands way = back_at d events p stands p.stage bytes es q refl way
goes_law d Broken events es p q stands way = broken_at d events p stands p.stage es q refl way
