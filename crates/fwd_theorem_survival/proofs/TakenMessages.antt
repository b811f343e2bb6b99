-- The batch of a message that was answered was accepted.
use Rattle.std.proofs.Common.{◌≡◌, ⊎_elim, ℕ, Bool, true, false, List, [], ◌∷◌, ◌++◌, map, Option, refl, sym, ◌∙◌, subst, arith}
use Rattle.std.specs.Prelude.{Contains}
use Rattle.std.proofs.lemmas.List.Elements.{Contains-append_right, Contains-append_cases}
use Rattle.fwd_wire.specs.Message.{MessageContent}
use Rattle.fwd_settings.specs.declared.settings_types.AllSettings.{AllSettings}
use Rattle.fwd_model.specs.Fact.{Fact, History, Batch, Placement, Accepted}
use Rattle.fwd_model.specs.Trace.{Call, TraceEntry, OnLoop, OnDisk, OnFiles, OnKeeper, Note, history_after_call}
use Rattle.fwd_model.specs.Notes.{is_empty}
use Rattle.fwd_model.specs.Messages.{message_batch}
use Rattle.fwd_theorem_trace.specs.Past.{Past, logged, past_after}
use Rattle.fwd_theorem_trace.proofs.Members.{here, deeper, either}
use Rattle.fwd_theorem_delivery.specs.Replies.{facts_in, WasTaken, IsEmpty, IsAccepted, TakenInOrder, IsDueReply}

-- ---- what is logged stays logged

logged_call : (call : Call) (h : History) (fact : Fact) → Contains h fact → Contains (history_after_call call h) fact
logged_call (Note new) h fact has = deeper new h fact has
logged_call (OnLoop call) h fact has = has
logged_call (OnDisk call) h fact has = has
logged_call (OnFiles call) h fact has = has
logged_call (OnKeeper call) h fact has = has

pub still_logged : (es : List TraceEntry) (past : Past) (fact : Fact) → Contains (logged past) fact → Contains (logged (past_after past es)) fact
still_logged [] past fact has = has
still_logged (e ∷ es) past fact has = still_logged es (e ∷ past) fact (logged_call e.call (logged past) fact has)

of_call : (call : Call) (h : History) (fact : Fact) → Contains (history_after_call call []) fact → Contains (history_after_call call h) fact
of_call (Note new) h fact has = ⊎_elim (λ (same : new ≡ fact). subst (λ (f : Fact). Contains (new ∷ h) f) same (here new h)) (λ (none : Contains [] fact). absurd (omega (arith, none.1))) (either new [] fact has)
of_call (OnLoop call) h fact has = absurd (omega (arith, has.1))
of_call (OnDisk call) h fact has = absurd (omega (arith, has.1))
of_call (OnFiles call) h fact has = absurd (omega (arith, has.1))
of_call (OnKeeper call) h fact has = absurd (omega (arith, has.1))

-- the facts of these calls are logged after them
in_facts : (es : List TraceEntry) (past : Past) (fact : Fact) → Contains (facts_in es) fact → Contains (logged (past_after past es)) fact
in_facts [] past fact has = absurd (omega (arith, has.1))
in_facts (e ∷ es) past fact has =
    ⊎_elim (λ (now : Contains (history_after_call e.call []) fact). still_logged es (e ∷ past) fact (of_call e.call (logged past) fact now)) (λ (later : Contains (facts_in es) fact). in_facts es (e ∷ past) fact later)
    (Contains-append_cases (history_after_call e.call []) (facts_in es) fact has)

-- ---- a batch with events that was taken is accepted

abbrev IsThere : List Fact → Batch → Type 0
IsThere during b = (place : Placement) × Contains during (Accepted b place)

there_before : (during rest : List Fact) (b other : Batch) → WasTaken during other rest → IsThere rest b → IsThere during b
there_before during rest b other (IsEmpty none same) has = (has.0, subst (λ (l : List Fact). Contains l (Accepted b has.0)) same has.1)
there_before during rest b other (IsAccepted before place is) has =
    (has.0, subst (λ (l : List Fact). Contains l (Accepted b has.0)) (sym is) (Contains-append_right before (Accepted other place ∷ rest) (Accepted b has.0) (deeper (Accepted other place) rest (Accepted b has.0) has.1)))

there_now : (during rest : List Fact) (b : Batch) → is_empty b.events ≡ false → WasTaken during b rest → IsThere during b
there_now during rest b some (IsEmpty none same) = absurd (cc (sym none ∙ some))
there_now during rest b some (IsAccepted before place is) =
    (place, subst (λ (l : List Fact). Contains l (Accepted b place)) (sym is) (Contains-append_right before (Accepted b place ∷ rest) (Accepted b place) (here (Accepted b place) rest)))

taken_last : (f : MessageContent → Batch) (earlier : List MessageContent) (message : MessageContent) (during : List Fact) → is_empty (f message).events ≡ false → TakenInOrder during (map f (earlier ++ message ∷ []))
    → IsThere during (f message)
taken_last f [] message during some taken = there_now during taken.0 (f message) some taken.1
taken_last f (m ∷ earlier) message during some taken = there_before during taken.0 (f message) (f m) taken.1 (taken_last f earlier message taken.0 some taken.2)

-- the batch of a message whose reply is due was accepted before
pub was_accepted : (s : AllSettings) (past : Past) (conn : ℕ) (reply : List ℕ) (due : IsDueReply s past conn reply) → is_empty (message_batch s due.input.0 due.message).events ≡ false
    → (place : Placement) × Contains (logged past) (Accepted (message_batch s due.input.0 due.message) place)
was_accepted s past conn reply due some =
    let there = taken_last (message_batch s due.input.0) due.earlier due.message (facts_in due.during) some due.taken in
    (there.0, subst (λ (p : Past). Contains (logged p) (Accepted (message_batch s due.input.0 due.message) there.0)) (sym due.is) (in_facts due.during _ (Accepted (message_batch s due.input.0 due.message) there.0) there.1))
