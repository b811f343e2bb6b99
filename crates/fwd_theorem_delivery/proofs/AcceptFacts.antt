-- The facts of an acceptance, by whether its batch was taken.
use Rattle.std.proofs.Common.{◌≡◌, ℕ, nat_lt, Bool, true, false, cond, List, [], ◌∷◌, ◌++◌, append-nil, append_assoc, Option, Some, None, refl, sym, ◌∙◌, ap, subst, arith}
use Rattle.std.specs.Prelude.{Contains}
use Rattle.std.proofs.lemmas.List.Elements.{Contains-append_left, Contains-append_right}
use Rattle.fwd_base.specs.Limits.{numbers_end}
use Rattle.fwd_outside.specs.Program.{entry, Return, Ask, bind}
use Rattle.fwd_outside.specs.Disk.{DiskProgram}
use Rattle.fwd_store.specs.Store.{begins_as, append_to_program}
use Rattle.fwd_settings.specs.declared.settings_types.AllSettings.{AllSettings}
use Rattle.fwd_model.specs.Fact.{Fact, History, Batch, Placement, NoChunk, NewChunk, AppendedTo, Reason, TooLarge, NoNumber, NotStored, Offered, Accepted, Refused, IoFailed}
use Rattle.fwd_model.specs.Trace.{Call, Action, TraceEntry, OnDisk, Note}
use Rattle.fwd_model.specs.DeviceActions.{on_disk}
use Rattle.fwd_model.specs.Settings.{home_at, names_for, outputs_for}
use Rattle.fwd_model.specs.Chunks.{ChunkInfo, next, open_chunk, encoded, is_storable}
use Rattle.fwd_model.specs.ChunkStorage.{kept_of, name_for}
use Rattle.fwd_model.specs.Notes.{note_then, is_empty}
use Rattle.fwd_model.specs.CloseActions.{closes_if_full, closes_chunk}
use Rattle.fwd_model.specs.Acceptance.{Acceptance, taken, refuses, finishes_append, finishes_create, appends, starts_chunk, stores, accepts}
use Rattle.fwd_theorem_delivery.specs.Replies.{facts_in, WasTaken, IsEmpty, IsAccepted}
use Rattle.fwd_theorem_delivery.proofs.SilentActions.{is_silent, AreSilent, IsSilent, still_shuts, still_fills}
use Rattle.fwd_theorem_delivery.proofs.CallSequences.{MakesCalls, makes_bind, makes_if, still_makes}
use Rattle.fwd_theorem_delivery.proofs.ReplyLists.{notes_both, was_more}

-- it was taken, or it was refused
abbrev pub Outcome : Batch → Bool → List Fact → Type 0
Outcome b true during = (rest : List Fact) × WasTaken during b rest
Outcome b false during = (why : Reason) × Contains during (Refused b why)

-- after these entries, an acceptance logged this outcome
abbrev pub Comes : Batch → List TraceEntry → Acceptance → List TraceEntry → Type 0
Comes b es a now = (own : List TraceEntry) × (now ≡ es ++ own) × AreSilent own × Outcome b a.taken (facts_in own)

pub still_both : (one two : List TraceEntry) → AreSilent one → AreSilent two → AreSilent (one ++ two)
still_both [] two first second = second
still_both (e ∷ one) two first second = (first.0, still_both one two first.1 second)

pub grows_by : (es own more now : List TraceEntry) → now ≡ es ++ own → now ++ more ≡ es ++ (own ++ more)
grows_by es own more now is = ap (λ (l : List TraceEntry). l ++ more) is ∙ append_assoc es own more

outcome_more : (b : Batch) (took : Bool) (own more : List TraceEntry) → Outcome b took (facts_in own) → Outcome b took (facts_in (own ++ more))
outcome_more b true own more is = (
  is.0 ++ facts_in more,
  subst (λ (l : List Fact). WasTaken l b (is.0 ++ facts_in more)) (sym (notes_both own more)) (was_more (facts_in own) (facts_in more) b is.0 is.1),
)
outcome_more b false own more is =
    (is.0, subst (λ (l : List Fact). Contains l (Refused b is.0)) (sym (notes_both own more)) (Contains-append_left (facts_in own) (facts_in more) (Refused b is.0) is.1))

accepted_last : (b : Batch) (place : Placement) (own : List TraceEntry) (answer : Unit {0}) → Outcome b true (facts_in (own ++ entry (Note (Accepted b place)) answer ∷ []))
accepted_last b place own answer = ([], IsAccepted (facts_in own) place (notes_both own (entry (Note (Accepted b place)) answer ∷ [])))

refused_last : (b : Batch) (why : Reason) (own : List TraceEntry) (answer : Unit {0}) → Outcome b false (facts_in (own ++ entry (Note (Refused b why)) answer ∷ []))
refused_last b why own answer =
    let e : TraceEntry = entry (Note (Refused b why)) answer in
    (why, subst (λ (l : List Fact). Contains l (Refused b why)) (sym (notes_both own (e ∷ []))) (Contains-append_right (facts_in own) (Refused b why ∷ []) (Refused b why) (0, omega arith, refl)))

module _ (s : AllSettings) (P : List TraceEntry → Call → Type 0) (holds : (before : List TraceEntry) (call : Call) → is_silent call ≡ true → P before call) where
  -- after an action of such calls, the batch is taken or not
  makes_ends : (b : Batch) (took : Bool) (es now own : List TraceEntry) (p : Action History) → now ≡ es ++ own → AreSilent own → Outcome b took (facts_in own) → IsSilent p
      → MakesCalls P (Comes b es) now (bind p (λ (x : History). Return (record { history = x; taken = took })))
  makes_ends b took es now own p is are outcome still =
      makes_bind P (λ (x : History) (later : List TraceEntry). (more : List TraceEntry) × (later ≡ now ++ more) × AreSilent more) (Comes b es) now p
      (λ (x : History). Return (record { history = x; taken = took })) (still_makes P now p holds still)
      (λ x later (more, then, too). (own ++ more, then ∙ grows_by es own more now is, still_both own more are too, outcome_more b took own more outcome))

  behind_disk : {R S : Type 0} (Q : S → List TraceEntry → Type 0) (p : DiskProgram R) (next : R → Action S) (es now own : List TraceEntry) → now ≡ es ++ own → AreSilent own
      → ((x : R) (later more : List TraceEntry) → later ≡ es ++ more → AreSilent more → MakesCalls P Q later (next x)) → MakesCalls P Q now (bind (on_disk p) next)
  behind_disk Q (Return x) next es now own is are more = more x now own is are
  behind_disk Q (Ask call go) next es now own is are more = (
    holds now (OnDisk call) refl,
    λ answer.
        let e : TraceEntry = entry (OnDisk call) answer in
        behind_disk Q (go answer) next es (now ++ e ∷ []) (own ++ e ∷ []) (grows_by es own (e ∷ []) now is) (still_both own (e ∷ []) are (refl, tt)) more,
  )

  makes_refuses : (b : Batch) (why : Reason) (h : History) (es now own : List TraceEntry) → now ≡ es ++ own → AreSilent own → MakesCalls P (Comes b es) now (refuses b why h)
  makes_refuses b why h es now own is are = (
    holds now (Note (Refused b why)) refl,
    λ answer.
        let e : TraceEntry = entry (Note (Refused b why)) answer in
        (own ++ e ∷ [], grows_by es own (e ∷ []) now is, still_both own (e ∷ []) are (refl, tt), refused_last b why own answer),
  )

  makes_appended : (b : Batch) (chunk : ℕ) (h : History) (answer : Option (Unit {0})) (es now own : List TraceEntry) → now ≡ es ++ own → AreSilent own
      → MakesCalls P (Comes b es) now (finishes_append s b chunk h answer)
  makes_appended b chunk h (Some done) es now own is are = (
    holds now (Note (Accepted b (AppendedTo chunk))) refl,
    λ answer.
        let e : TraceEntry = entry (Note (Accepted b (AppendedTo chunk))) answer in
        makes_ends b true es (now ++ e ∷ []) (own ++ e ∷ []) (closes_if_full s chunk (Accepted b (AppendedTo chunk) ∷ h)) (grows_by es own (e ∷ []) now is) (still_both own (e ∷ []) are (refl, tt))
        (accepted_last b (AppendedTo chunk) own answer) (still_fills s chunk (Accepted b (AppendedTo chunk) ∷ h)),
  )
  makes_appended b chunk h None es now own is are = (
    holds now (Note IoFailed) refl,
    λ answer.
        let e : TraceEntry = entry (Note IoFailed) answer in
        let at : List TraceEntry = now ++ e ∷ [] in
        let mid : List TraceEntry = own ++ e ∷ [] in (
          holds at (Note (Refused b NotStored)) refl,
          λ more.
              let f : TraceEntry = entry (Note (Refused b NotStored)) more in
              let last : History = Refused b NotStored ∷ IoFailed ∷ h in
              makes_ends b false es (at ++ f ∷ []) (mid ++ f ∷ []) (closes_chunk s chunk last) (grows_by es mid (f ∷ []) at (grows_by es own (e ∷ []) now is))
              (still_both mid (f ∷ []) (still_both own (e ∷ []) are (refl, tt)) (refl, tt)) (refused_last b NotStored mid more) (still_shuts s chunk last),
        ),
  )

  makes_placed : (b : Batch) (chunk : ℕ) (h : History) (answer : Option (Unit {0})) (es now own : List TraceEntry) → now ≡ es ++ own → AreSilent own
      → MakesCalls P (Comes b es) now (finishes_create s b chunk h answer)
  makes_placed b chunk h (Some done) es now own is are = (
    holds now (Note (Accepted b (NewChunk chunk))) refl,
    λ answer.
        let e : TraceEntry = entry (Note (Accepted b (NewChunk chunk))) answer in
        makes_ends b true es (now ++ e ∷ []) (own ++ e ∷ []) (closes_if_full s chunk (Accepted b (NewChunk chunk) ∷ h)) (grows_by es own (e ∷ []) now is) (still_both own (e ∷ []) are (refl, tt))
        (accepted_last b (NewChunk chunk) own answer) (still_fills s chunk (Accepted b (NewChunk chunk) ∷ h)),
  )
  makes_placed b chunk h None es now own is are = (
    holds now (Note IoFailed) refl,
    λ answer.
        let e : TraceEntry = entry (Note IoFailed) answer in
        makes_refuses b NotStored (IoFailed ∷ h) es (now ++ e ∷ []) (own ++ e ∷ []) (grows_by es own (e ∷ []) now is) (still_both own (e ∷ []) are (refl, tt)),
  )

  makes_stores : (b : Batch) (c : Option ChunkInfo) (h : History) (es : List TraceEntry) → MakesCalls P (Comes b es) es (stores s b c h)
  unfolding appends starts_chunk
  makes_stores b (Some c) h es = (
    holds es (Note (Offered c.number b)) refl,
    λ answer.
        let e : TraceEntry = entry (Note (Offered c.number b)) answer in
        behind_disk (Comes b es) (append_to_program (kept_of s h c.number) (encoded b.events) s.service.full) (finishes_append s b c.number (Offered c.number b ∷ h)) es (es ++ e ∷ []) (e ∷ []) refl (refl, tt)
        (λ done later more is are. makes_appended b c.number (Offered c.number b ∷ h) done es later more is are),
  )
  makes_stores b None h es =
      makes_if P (Comes b es) (nat_lt (next h) numbers_end) es (starts_chunk s b (next h) h) (refuses b NoNumber h)
      (λ yes. (
        holds es (Note (Offered (next h) b)) refl,
        λ answer.
            let e : TraceEntry = entry (Note (Offered (next h) b)) answer in
            behind_disk (Comes b es) (begins_as (name_for s b.input (next h)) b.tag (home_at s b.input) (encoded b.events) (names_for s b.tag)) (finishes_create s b (next h) (Offered (next h) b ∷ h)) es (es ++ e ∷ []) (e ∷ []) refl
            (refl, tt) (λ done later more is are. makes_placed b (next h) (Offered (next h) b ∷ h) done es later more is are),
      ))
      (λ no. makes_refuses b NoNumber h es es [] (sym (append-nil es)) tt)

  pub makes_accepts : (b : Batch) (h : History) (es : List TraceEntry) → MakesCalls P (Comes b es) es (accepts s b h)
  unfolding accepts
  makes_accepts b h es =
      let kept : Action Acceptance = cond (is_storable b.events) (stores s b (open_chunk h b.input b.tag) h) (refuses b TooLarge h) in
      let routed : Action Acceptance = cond (is_empty (outputs_for s b.tag)) (note_then (Accepted b NoChunk) h taken) kept in
      makes_if P (Comes b es) (is_empty b.events) es (taken h) routed (λ none. ([], sym (append-nil es), tt, ([], IsEmpty none refl)))
      (λ some. makes_if P (Comes b es) (is_empty (outputs_for s b.tag)) es (note_then (Accepted b NoChunk) h taken) kept
      (λ nobody. (
        holds es (Note (Accepted b NoChunk)) refl,
        λ answer. (entry (Note (Accepted b NoChunk)) answer ∷ [], refl, (refl, tt), accepted_last b NoChunk [] answer),
      ))
      (λ wanted. makes_if P (Comes b es) (is_storable b.events) es (stores s b (open_chunk h b.input b.tag) h) (refuses b TooLarge h)
      (λ fits. makes_stores b (open_chunk h b.input b.tag) h es)
      (λ large. makes_refuses b TooLarge h es es [] (sym (append-nil es)) tt)))
