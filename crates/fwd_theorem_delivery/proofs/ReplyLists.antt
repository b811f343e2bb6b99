-- The replies, drops and facts of consecutive calls, and what these say of batches.
use Rattle.std.proofs.Common.{◌≡◌, ℕ, true, List, [], ◌∷◌, ◌++◌, append_assoc, map, refl, sym, ◌∙◌, ap, subst}
use Rattle.std.proofs.lemmas.List.{map-append}
use Rattle.fwd_outside.specs.Loop.{LoopCall, Reply, DropConn}
use Rattle.fwd_wire.specs.Message.{MessageContent}
use Rattle.fwd_model.specs.Fact.{Fact, Batch, Happened, Accepted}
use Rattle.fwd_model.specs.Trace.{Call, Answer, TraceEntry, OnLoop, Note, history_after_call}
use Rattle.fwd_model.specs.Messages.{reply_of}
use Rattle.fwd_theorem_trace.specs.Events.{events_only}
use Rattle.fwd_theorem_delivery.specs.Replies.{replied_by, replies_in, broken_by, broken_in, dropped_by, drops_in, facts_in, asked_for, asked_by, replies_to, WasTaken, IsEmpty, IsAccepted, TakenInOrder}
use Rattle.fwd_theorem_delivery.proofs.SilentActions.{is_silent, AreSilent}

pub replies_both : (one two : List TraceEntry) → replies_in (one ++ two) ≡ replies_in one ++ replies_in two
replies_both [] two = refl
replies_both (e ∷ one) two = ap (λ (l : List (ℕ × List ℕ)). replied_by e.call ++ l) (replies_both one two) ∙ sym (append_assoc (replied_by e.call) (replies_in one) (replies_in two))

pub drops_both : (one two : List TraceEntry) → drops_in (one ++ two) ≡ drops_in one ++ drops_in two
drops_both [] two = refl
drops_both (e ∷ one) two = ap (λ (l : List ℕ). dropped_by e.call ++ l) (drops_both one two) ∙ sym (append_assoc (dropped_by e.call) (drops_in one) (drops_in two))

pub broken_both : (one two : List TraceEntry) → broken_in (one ++ two) ≡ broken_in one ++ broken_in two
broken_both [] two = refl
broken_both (e ∷ one) two = ap (λ (l : List ℕ). broken_by e.call e.answer ++ l) (broken_both one two) ∙ sym (append_assoc (broken_by e.call e.answer) (broken_in one) (broken_in two))

pub notes_both : (one two : List TraceEntry) → facts_in (one ++ two) ≡ facts_in one ++ facts_in two
notes_both [] two = refl
notes_both (e ∷ one) two = ap (λ (l : List Fact). history_after_call e.call [] ++ l) (notes_both one two) ∙ sym (append_assoc (history_after_call e.call []) (facts_in one) (facts_in two))

pub came_both : (one two : List Fact) → events_only one ≡ [] → events_only two ≡ [] → events_only (one ++ two) ≡ []
came_both [] two first second = second
came_both (Happened brought ∷ one) two first second = absurd (cc first)
came_both (fact ∷ one) two first second = came_both one two first second

-- ---- calls without replies

still_loop_replies : (call : LoopCall) → is_silent (OnLoop call) ≡ true → replied_by (OnLoop call) ≡ []
still_loop_replies (Reply conn bytes) is = absurd (cc is)
still_loop_replies call is = refl

still_replied : (call : Call) → is_silent call ≡ true → replied_by call ≡ []
still_replied (OnLoop call) is = still_loop_replies call is
still_replied call is = refl

still_loop_drops : (call : LoopCall) → is_silent (OnLoop call) ≡ true → dropped_by (OnLoop call) ≡ []
still_loop_drops (DropConn conn) is = absurd (cc is)
still_loop_drops call is = refl

still_dropped : (call : Call) → is_silent call ≡ true → dropped_by call ≡ []
still_dropped (OnLoop call) is = still_loop_drops call is
still_dropped call is = refl

still_broken_by : (call : Call) (answer : Answer call) → is_silent call ≡ true → broken_by call answer ≡ []
still_broken_by (OnLoop (Reply conn bytes)) answer is = absurd (cc is)
still_broken_by call answer is = refl

still_fact : (fact : Fact) → is_silent (Note fact) ≡ true → events_only (fact ∷ []) ≡ []
still_fact (Happened brought) is = absurd (cc is)
still_fact fact is = refl

still_noted : (call : Call) → is_silent call ≡ true → events_only (history_after_call call []) ≡ []
still_noted (Note fact) is = still_fact fact is
still_noted call is = refl

pub still_replies : (es : List TraceEntry) → AreSilent es → replies_in es ≡ []
still_replies [] are = refl
still_replies (e ∷ es) are = rw (still_replied e.call are.0) (still_replies es are.1)

pub still_drops : (es : List TraceEntry) → AreSilent es → drops_in es ≡ []
still_drops [] are = refl
still_drops (e ∷ es) are = rw (still_dropped e.call are.0) (still_drops es are.1)

pub still_broken : (es : List TraceEntry) → AreSilent es → broken_in es ≡ []
still_broken [] are = refl
still_broken (e ∷ es) are = rw (still_broken_by e.call e.answer are.0) (still_broken es are.1)

pub still_came : (es : List TraceEntry) → AreSilent es → events_only (facts_in es) ≡ []
still_came [] are = refl
still_came (e ∷ es) are = came_both (history_after_call e.call []) (facts_in es) (still_noted e.call are.0) (still_came es are.1)

-- ---- batches

-- batches were taken in order, and these facts come after that
abbrev pub TakenTo : List Fact → List Batch → List Fact → Type 0
TakenTo during [] rest = rest ≡ during
TakenTo during (b ∷ bs) rest = (mid : List Fact) × WasTaken during b mid × TakenTo mid bs rest

pub was_more : (during more : List Fact) (b : Batch) (rest : List Fact) → WasTaken during b rest → WasTaken (during ++ more) b (rest ++ more)
was_more during more b rest (IsEmpty none same) = IsEmpty none (ap (λ (x : List Fact). x ++ more) same)
was_more during more b rest (IsAccepted before place same) = IsAccepted before place (ap (λ (x : List Fact). x ++ more) same ∙ append_assoc before (Accepted b place ∷ rest) more)

pub to_more : (during more : List Fact) (bs : List Batch) (rest : List Fact) → TakenTo during bs rest → TakenTo (during ++ more) bs (rest ++ more)
to_more during more [] rest is = ap (λ (x : List Fact). x ++ more) is
to_more during more (b ∷ bs) rest (mid, was, others) = (mid ++ more, was_more during more b mid was, to_more mid more bs rest others)

-- with other facts before them
pub was_behind : (before during : List Fact) (b : Batch) (rest : List Fact) → WasTaken during b rest → (later : List Fact) × WasTaken (before ++ during) b later
was_behind before during b rest (IsEmpty none same) = (before ++ rest, IsEmpty none (ap (λ (x : List Fact). before ++ x) same))
was_behind before during b rest (IsAccepted first place same) =
    (rest, IsAccepted (before ++ first) place (ap (λ (x : List Fact). before ++ x) same ∙ sym (append_assoc before first (Accepted b place ∷ rest))))

pub order_behind : (fact : Fact) (during : List Fact) (bs : List Batch) → TakenInOrder during bs → TakenInOrder (fact ∷ during) bs
order_behind fact during [] is = tt
order_behind fact during (b ∷ bs) (rest, was, others) = by (order_behind fact rest bs) was
  where
    by : (TakenInOrder rest bs → TakenInOrder (fact ∷ rest) bs) → WasTaken during b rest → TakenInOrder (fact ∷ during) (b ∷ bs)
    by on (IsEmpty none same) = (fact ∷ rest, IsEmpty none (ap (λ (x : List Fact). fact ∷ x) same), on others)
    by on (IsAccepted before place same) = (rest, IsAccepted (fact ∷ before) place (ap (λ (x : List Fact). fact ∷ x) same), others)

pub to_last : (during : List Fact) (bs : List Batch) (b : Batch) (mid rest : List Fact) → TakenTo during bs mid → WasTaken mid b rest → TakenTo during (bs ++ b ∷ []) rest
to_last during [] b mid rest is was = (rest, subst (λ (x : List Fact). WasTaken x b rest) is was, refl)
to_last during (c ∷ bs) b mid rest (at, first, others) was = (at, first, to_last at bs b mid rest others was)

pub in_order : (during : List Fact) (bs : List Batch) (rest : List Fact) → TakenTo during bs rest → TakenInOrder during bs
in_order during [] rest is = tt
in_order during (b ∷ bs) rest (mid, was, others) = (mid, was, in_order mid bs rest others)

-- ---- the replies that messages ask for

pub asked_both : (one two : List MessageContent) → asked_by (one ++ two) ≡ asked_by one ++ asked_by two
asked_both [] two = refl
asked_both (m ∷ one) two = ap (λ (l : List (List ℕ)). asked_for (reply_of m) ++ l) (asked_both one two) ∙ sym (append_assoc (asked_for (reply_of m)) (asked_by one) (asked_by two))

pub answers_both : (conn : ℕ) (one two : List MessageContent) → replies_to conn (one ++ two) ≡ replies_to conn one ++ replies_to conn two
answers_both conn one two = ap (λ (l : List (List ℕ)). map (λ (bytes : List ℕ). (conn, bytes)) l) (asked_both one two) ∙ map-append (λ (bytes : List ℕ). (conn, bytes)) (asked_by one) (asked_by two)
