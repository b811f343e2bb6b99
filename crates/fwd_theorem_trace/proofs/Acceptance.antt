-- What becomes of a batch that is accepted at some point of a run.
use Rattle.std.proofs.Common.{◌≡◌, ◌⊎◌, inl, inr, ℕ, nat_lt, cond, List, [], ◌∷◌, ◌++◌, length, Option, Some, None, refl, sym, ◌∙◌, ap, subst}
use Rattle.std.specs.Prelude.{Contains, ◌==◌}
use Rattle.std.proofs.lemmas.Bool.{eq-eqb, cond-true, leb-true, leb-false}
use Rattle.fwd_base.specs.Limits.{largest_batch, numbers_end}
use Rattle.fwd_outside.specs.Program.{entry, Return, Ask, bind, Execution}
use Rattle.fwd_outside.specs.Disk.{DiskProgram}
use Rattle.fwd_outside.specs.declared.ends.Ends.{Ends}
use Rattle.fwd_store.specs.Store.{begins_as, append_to_program}
use Rattle.fwd_settings.specs.declared.settings_types.AllSettings.{AllSettings}
use Rattle.fwd_model.specs.Fact.{Fact, History, Batch, NoChunk, NewChunk, AppendedTo, TooLarge, NoNumber, NotStored, Found, Offered, Accepted, Refused, IoFailed}
use Rattle.fwd_model.specs.Trace.{Action, TraceEntry, OnDisk, Note, history_after}
use Rattle.fwd_model.specs.DeviceActions.{on_disk}
use Rattle.fwd_model.specs.Settings.{outputs_for, home_at, names_for}
use Rattle.fwd_model.specs.Chunks.{ChunkInfo, chunks_of, open_chunks, open_chunk, next, records, encoded, is_storable}
use Rattle.fwd_model.specs.ChunkStorage.{kept_of, name_for}
use Rattle.fwd_model.specs.Notes.{note_then, is_empty}
use Rattle.fwd_model.specs.CloseActions.{closes_chunk, closes_if_full}
use Rattle.fwd_model.specs.Acceptance.{Acceptance, taken, ends_refused, refuses, finishes_append, finishes_create, appends, starts_chunk, stores, accepts}
use Rattle.fwd_model.specs.Run.{RunResult, life}
use Rattle.fwd_theorem_trace.specs.Past.{Past, logged, past_after}
use Rattle.fwd_theorem_trace.specs.Allowed.{IsChunk, StartsChunk, AppendsTo, IsToStore, Allowed}
use Rattle.fwd_theorem_trace.specs.Acceptance.{SameRecords, AcceptanceOutcome, IsEmpty, IsUnmatched, IsTaken, IsRefused}
use Rattle.std.proofs.lemmas.List.Elements.{Contains-append_right}
use Rattle.fwd_theorem_trace.proofs.Members.{here, deeper, from_filter, from_find}
use Rattle.fwd_theorem_trace.proofs.Traversal.{Traverses, walks_bind, walks_if, traverses_rest, noted_since}
use Rattle.fwd_theorem_trace.proofs.Persistence.{chunk_still}
use Rattle.fwd_theorem_trace.proofs.Actions.{IsInnerFact, IsInner, IsKept, tells_shuts, tells_fills}
use Rattle.fwd_theorem_trace.proofs.Run.{due_since}

-- all facts are kept, and each chunk keeps its events
abbrev Keeps : Fact → History → Past → Type 0
Keeps fact base past = Contains (logged past) fact × SameRecords base (logged past)

records_fact : (fact : Fact) (h : History) (n : ℕ) → IsInnerFact fact → records (fact ∷ h) n ≡ records h n
records_fact (Found number stream name bytes) h n is = absurd is
records_fact (Accepted b place) h n is = absurd is
records_fact fact h n is = refl

keeps_call : (s : AllSettings) (fact : Fact) (base : History) → IsKept s IsInner (Keeps fact base)
keeps_call s fact base (Note other) answer past is due kept = (deeper other (logged past) fact kept.0, λ n. records_fact other (logged past) n is ∙ kept.1 n)
keeps_call s fact base call answer past is due kept = kept

made_chunk : (b : Batch) (chunk : ℕ) (h : History) → IsChunk (Accepted b (NewChunk chunk) ∷ h) chunk
made_chunk b chunk h =
    let made : ChunkInfo = record { number = chunk; input = Some b.input; tag = b.tag } in
    record { chunk = made; stands = Contains-append_right (chunks_of h) (made ∷ []) made (here made []); is = refl }

open_one : (b : Batch) (chunk : ℕ) (h : History) → AppendsTo b chunk h → IsChunk h chunk
open_one b chunk h grows =
    let found = from_find _ (open_chunks h) grows.chunk_open grows.is in
    record { chunk = grows.chunk_open; stands = (from_filter _ (chunks_of h) grows.chunk_open found.0).0; is = grows.number }

module _ (s : AllSettings) where
  abbrev Becomes : Batch → History → Past → Action Acceptance → Type 0
  Becomes b h past p = Traverses (Allowed s) (λ (a : Acceptance) (now : Past). AcceptanceOutcome s b h a) past p

  -- after a chunk that took it, and after one that couldn't
  by_taken : (b : Batch) (chunk : ℕ) (h : History) (fact : Fact) (past : Past) → StartsChunk b chunk h ⊎ AppendsTo b chunk h
      → records (logged past) chunk ≡ records h chunk ++ b.events → ((now : History) → Contains now fact → Contains now (Accepted b (NewChunk chunk)) ⊎ Contains now (Accepted b (AppendedTo chunk)))
      → IsChunk (logged past) chunk → Contains (logged past) fact → Allowed s past → Becomes b h past (bind (closes_if_full s chunk (logged past)) taken)
  by_taken b chunk h fact past stood has noted_so is noted_now ready =
      walks_bind (Allowed s) (λ (x : History) (now : Past). (x ≡ logged now) × Keeps fact (logged past) now) (λ (a : Acceptance) (now : Past). AcceptanceOutcome s b h a) past (closes_if_full s chunk (logged past)) taken
      (tells_fills s (Keeps fact (logged past)) (keeps_call s fact (logged past)) chunk past is (ready, (noted_now, λ n. refl)))
      (λ x now grown then q. (
        then,
        IsTaken chunk refl (record {
          stood = stood;
          has = ap (λ (y : History). records y chunk) q.0 ∙ (q.1.1 chunk ∙ has);
          logged = noted_so x (subst (λ (y : History). Contains y fact) (sym q.0) q.1.0);
        }),
      ))

  by_appended : (b : Batch) (chunk : ℕ) (h : History) (past : Past) (answer : Option (Unit {0})) → logged past ≡ Offered chunk b ∷ h → IsToStore s b → AppendsTo b chunk h → Allowed s past
      → Becomes b h past (finishes_append s b chunk (logged past) answer)
  by_appended b chunk h past (Some done) is store grows ready = (
    ready,
    λ answer.
        let at : Past = entry (Note (Accepted b (AppendedTo chunk))) answer ∷ past in
        let one = open_one b chunk h grows in
        let there = chunk_still (Accepted b (AppendedTo chunk)) (logged past) one.chunk (subst (λ (x : History). Contains (chunks_of x) one.chunk) (sym is) one.stands) in
        by_taken b chunk h (Accepted b (AppendedTo chunk)) at (inr grows)
        (cond-true (chunk == chunk) (records (logged past) chunk ++ b.events) (records (logged past) chunk) (eq-eqb chunk chunk refl) ∙ ap (λ (x : History). records x chunk ++ b.events) is)
        (λ now has. inr has) (record { chunk = one.chunk; stands = there; is = one.is }) (here (Accepted b (AppendedTo chunk)) (logged past)) ((store, record { before = h; is = is; stood = grows }), ready),
  )
  by_appended b chunk h past None is store grows ready = (
    ready,
    λ answer. (
      (tt, ready),
      λ more.
          let last : Past = entry (Note (Refused b NotStored)) more ∷ entry (Note IoFailed) answer ∷ past in
          let one = open_one b chunk h grows in
          let due : Allowed s last = (record { chunk = chunk; before = h; is = ap (λ (x : History). IoFailed ∷ x) is }, (tt, ready)) in
          walks_bind (Allowed s) (λ (x : History) (now : Past). (x ≡ logged now) × Keeps (Refused b NotStored) (logged past) now) (λ (a : Acceptance) (now : Past). AcceptanceOutcome s b h a) last (closes_chunk s chunk (logged last)) ends_refused
          (tells_shuts s (Keeps (Refused b NotStored) (logged past)) (keeps_call s (Refused b NotStored) (logged past)) chunk last
          (record { chunk = one.chunk; stands = subst (λ (x : History). Contains (chunks_of x) one.chunk) (sym is) one.stands; is = one.is })
          (due, (here (Refused b NotStored) (IoFailed ∷ logged past), λ n. refl)))
          (λ x now grown then q. (
            then,
            IsRefused NotStored refl (subst (λ (y : History). Contains y (Refused b NotStored)) (sym q.0) q.1.0)
                (λ n. ap (λ (y : History). records y n) q.0 ∙ (q.1.1 n ∙ ap (λ (y : History). records y n) is)),
          )),
    ),
  )

  by_placed : (b : Batch) (chunk : ℕ) (h : History) (past : Past) (answer : Option (Unit {0})) → logged past ≡ Offered chunk b ∷ h → IsToStore s b → StartsChunk b chunk h → Allowed s past
      → Becomes b h past (finishes_create s b chunk (logged past) answer)
  by_placed b chunk h past (Some done) is store begins ready = (
    ready,
    λ answer.
        let at : Past = entry (Note (Accepted b (NewChunk chunk))) answer ∷ past in
        let due : Allowed s at = ((store, record { before = h; is = is; stood = begins }), ready) in
        by_taken b chunk h (Accepted b (NewChunk chunk)) at (inl begins)
        (cond-true (chunk == chunk) (records (logged past) chunk ++ b.events) (records (logged past) chunk) (eq-eqb chunk chunk refl) ∙ ap (λ (x : History). records x chunk ++ b.events) is)
        (λ now has. inl has) (made_chunk b chunk (logged past)) (here (Accepted b (NewChunk chunk)) (logged past)) due,
  )
  by_placed b chunk h past None is store begins ready = (
    ready,
    λ answer. (
      (tt, ready),
      λ more.
          let due : Allowed s (entry (Note (Refused b NotStored)) more ∷ entry (Note IoFailed) answer ∷ past) = (record { chunk = chunk; before = h; is = ap (λ (x : History). IoFailed ∷ x) is }, (tt, ready)) in
          (due, IsRefused NotStored refl (here (Refused b NotStored) (IoFailed ∷ logged past)) (λ n. ap (λ (y : History). records y n) is)),
    ),
  )

  -- a disk program, and then an acceptance; it logs nothing
  behind_disk : {R : Type 0} (p : DiskProgram R) (b : Batch) (h base : History) (past : Past) (next : R → History → Action Acceptance) → logged past ≡ base → Allowed s past
      → ((x : R) (now : Past) → logged now ≡ base → Allowed s now → Becomes b h now (next x (logged now))) → Becomes b h past (bind (on_disk p) (λ (x : R). next x base))
  behind_disk (Return x) b h base past next same ready more = subst (λ (y : History). Becomes b h past (next x y)) same (more x past same ready)
  behind_disk (Ask call go) b h base past next same ready more = (ready, λ answer. behind_disk (go answer) b h base (entry (OnDisk call) answer ∷ past) next same (tt, ready) more)

  by_stores : (b : Batch) (c : Option ChunkInfo) (past : Past) → open_chunk (logged past) b.input b.tag ≡ c → IsToStore s b → Allowed s past → Becomes b (logged past) past (stores s b c (logged past))
  unfolding appends starts_chunk
  by_stores b (Some c) past is store ready =
      let grows : AppendsTo b c.number (logged past) = record { chunk_open = c; is = is; number = refl } in (
        ready,
        λ answer.
            behind_disk (append_to_program (kept_of s (logged past) c.number) (encoded b.events) s.service.full) b (logged past) (Offered c.number b ∷ logged past) (entry (Note (Offered c.number b)) answer ∷ past)
            (λ done h. finishes_append s b c.number h done) refl ((store, inr grows), ready) (λ done now same then. by_appended b c.number (logged past) now done same store grows then),
      )
  by_stores b None past is store ready =
      walks_if (Allowed s) (λ (a : Acceptance) (now : Past). AcceptanceOutcome s b (logged past) a) (nat_lt (next (logged past)) numbers_end) past (starts_chunk s b (next (logged past)) (logged past)) (refuses b NoNumber (logged past))
      (λ yes.
      let n : ℕ = next (logged past) in
      let begins : StartsChunk b n (logged past) = record { none = is; next_one = refl; left = yes } in (
        ready,
        λ answer.
            behind_disk (begins_as (name_for s b.input n) b.tag (home_at s b.input) (encoded b.events) (names_for s b.tag)) b (logged past) (Offered n b ∷ logged past) (entry (Note (Offered n b)) answer ∷ past)
            (λ done h. finishes_create s b n h done) refl ((store, inl begins), ready) (λ done now same then. by_placed b n (logged past) now done same store begins then),
      ))
      (λ no. (ready, λ answer. (((is, no), ready), IsRefused NoNumber refl (here (Refused b NoNumber) (logged past)) (λ n. refl))))

  by_accepts : (b : Batch) (past : Past) → Allowed s past → Becomes b (logged past) past (accepts s b (logged past))
  unfolding accepts
  by_accepts b past ready =
      let h : History = logged past in
      let Q : Acceptance → Past → Type 0 = λ (a : Acceptance) (now : Past). AcceptanceOutcome s b h a in
      let kept : Action Acceptance = cond (is_storable b.events) (stores s b (open_chunk h b.input b.tag) h) (refuses b TooLarge h) in
      let routed : Action Acceptance = cond (is_empty (outputs_for s b.tag)) (note_then (Accepted b NoChunk) h taken) kept in
      walks_if (Allowed s) Q (is_empty b.events) past (taken h) routed (λ none. (ready, IsEmpty none refl refl))
      (λ some. walks_if (Allowed s) Q (is_empty (outputs_for s b.tag)) past (note_then (Accepted b NoChunk) h taken) kept
      (λ nobody. (ready, λ answer. (((some, nobody), ready), IsUnmatched nobody refl refl)))
      (λ wanted. walks_if (Allowed s) Q (is_storable b.events) past (stores s b (open_chunk h b.input b.tag) h) (refuses b TooLarge h)
      (λ fits. by_stores b (open_chunk h b.input b.tag) past refl (record { some = some; wanted = wanted; fits = leb-true (length (encoded b.events)) largest_batch fits }) ready)
      (λ large. (ready, λ answer. ((leb-false (length (encoded b.events)) largest_batch large, ready), IsRefused TooLarge refl (here (Refused b TooLarge) h) (λ n. refl))))))

  pub becomes_in_life : (ends : Ends) (ticks : Option ℕ) (turns : ℕ) (before : List TraceEntry) (left : Action RunResult) (b : Batch) (es : List TraceEntry) (a : Acceptance)
      → Execution (life s ends ticks turns) before left → Execution (accepts s b (history_after before [])) es (Return a) → AcceptanceOutcome s b (history_after before []) a
  becomes_in_life ends ticks turns before left b es a life_way way =
      let past : Past = past_after [] before in
      let same : logged past ≡ history_after before [] = noted_since [] before in
      let on : Execution (accepts s b (logged past)) es (Return a) = subst (λ (h : History). Execution (accepts s b h) es (Return a)) (sym same) way in
      subst (λ (h : History). AcceptanceOutcome s b h a) same
      (traverses_rest (Allowed s) (λ (a : Acceptance) (now : Past). AcceptanceOutcome s b (logged past) a) past (accepts s b (logged past)) (by_accepts b past (due_since s ends ticks turns before left life_way)) es (Return a) on).1
