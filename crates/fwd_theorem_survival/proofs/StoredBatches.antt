-- The chunk of an accepted batch, and its content.
use Rattle.std.proofs.Common.{◌≡◌, inl, inr, ⊎_elim, ◌⊎◌, ℕ, ◌&&◌, not, Bool, true, false, cond, List, [], ◌∷◌, ◌++◌, append-nil, append_assoc, Option, Some, None, refl, sym, ◌∙◌, ap, subst, arith}
use Rattle.std.specs.Prelude.{Contains, ◌==◌}
use Rattle.std.proofs.lemmas.Bool.{eqb-true, and_parts}
use Rattle.std.proofs.lemmas.List.Elements.{Contains-push}
use Rattle.std.proofs.lemmas.Slice.Eq.{bytes_eq-Decides}
use Rattle.std.specs.Str.{bytes_eq}
use Rattle.fwd_settings.specs.declared.settings_types.AllSettings.{AllSettings}
use Rattle.fwd_model.specs.Fact.{Fact, History, Batch, Placement, NoChunk, NewChunk, AppendedTo, Found, Accepted, Offered}
use Rattle.fwd_model.specs.Trace.{Call, TraceEntry, OnLoop, OnDisk, OnFiles, OnKeeper, Note, history_after_call}
use Rattle.fwd_model.specs.Settings.{outputs_for}
use Rattle.fwd_model.specs.Notes.{is_empty}
use Rattle.fwd_model.specs.Chunks.{ChunkInfo, chunks_of, open_chunks, open_chunk, is_from, is_closed, content, encoded, is_stored_in}
use Rattle.fwd_theorem_trace.specs.Past.{Past, logged}
use Rattle.fwd_theorem_trace.specs.Allowed.{IsLoading, FactAllowed, AcceptAllowed, IsAllowed, Allowed}
use Rattle.fwd_theorem_trace.proofs.Members.{either, here, deeper, from_filter, from_find}
use Rattle.fwd_theorem_trace.proofs.Persistence.{chunk_still}

-- while files are loaded, nothing else was logged
none_accepted : (h : History) (b : Batch) (place : Placement) → IsLoading h → Contains h (Accepted b place) → ⊥
none_accepted [] b place loading has = absurd (omega (arith, has.1))
none_accepted (Found number stream name bytes ∷ h) b place loading has =
    ⊎_elim (λ (same : Found number stream name bytes ≡ Accepted b place). absurd (cc same)) (λ (later : Contains h (Accepted b place)). none_accepted h b place loading.1 later) (either (Found number stream name bytes) h (Accepted b place) has)
none_accepted (fact ∷ h) b place loading has = absurd loading

-- the events of a batch stand in these bytes
pub record Holds (b : Batch) (bytes : List ℕ) : Type 0 where
  pub front : List ℕ
  pub back : List ℕ
  pub is : bytes ≡ front ++ (encoded b.events ++ back)

pub holds_more : (b : Batch) (bytes more : List ℕ) → Holds b bytes → Holds b (bytes ++ more)
holds_more b bytes more holds = record {
  front = holds.front;
  back = holds.back ++ more;
  is = ap (λ (l : List ℕ). l ++ more) holds.is ∙ (append_assoc holds.front (encoded b.events ++ holds.back) more ∙ ap (λ (l : List ℕ). holds.front ++ l) (append_assoc (encoded b.events) holds.back more));
}

-- what an accepted batch was placed into
pub record IsOf (b : Batch) (n : ℕ) (c : ChunkInfo) : Type 0 where
  pub number : c.number ≡ n
  pub tag : c.tag ≡ b.tag
  pub input : c.input ≡ Some b.input

pub record Stored (b : Batch) (n : ℕ) (h : History) : Type 0 where
  pub chunk : ChunkInfo
  pub among : Contains (chunks_of h) chunk
  pub of : IsOf b n chunk
  pub holds : Holds b (content h n)

from_own : (b : Batch) (of : Option ℕ) → is_from b.input of ≡ true → of ≡ Some b.input
from_own b None is = absurd (cc is)
from_own b (Some other) is = ap Some (eqb-true other b.input is)

module _ (s : AllSettings) (b : Batch) (n : ℕ) where
  -- ---- at its acceptance

  chunk_by : (place : Placement) (h : History) → AcceptAllowed s b place h → is_stored_in place n ≡ true → (c : ChunkInfo) × Contains (chunks_of (Accepted b place ∷ h)) c × IsOf b n c
  chunk_by NoChunk h may is = absurd (cc is)
  chunk_by (NewChunk other) h may is =
      let c : ChunkInfo = record { number = other; input = Some b.input; tag = b.tag } in (c, Contains-push (chunks_of h) c, record { number = eqb-true other n is; tag = refl; input = refl })
  chunk_by (AppendedTo other) h may is =
      let offered = may.1 in
      let c = offered.stood.chunk_open in
      let found = from_find (λ (d : ChunkInfo). is_from b.input d.input && bytes_eq d.tag b.tag) (open_chunks offered.before) c offered.stood.is in
      let there = (from_filter (λ (d : ChunkInfo). not (is_closed offered.before d.number)) (chunks_of offered.before) c found.0).0 in
      let both = and_parts (is_from b.input c.input) (bytes_eq c.tag b.tag) found.1 in
      let before : Contains (chunks_of h) c = subst (λ (x : History). Contains (chunks_of x) c) (sym offered.is) (chunk_still (Offered other b) offered.before c there) in (
        c,
        chunk_still (Accepted b (AppendedTo other)) h c before,
        record { number = offered.stood.number ∙ eqb-true other n is; tag = (bytes_eq-Decides c.tag b.tag).0 both.1; input = from_own b c.input both.0 },
      )

  content_by : (place : Placement) (h : History) → is_stored_in place n ≡ true → Holds b (content (Accepted b place ∷ h) n)
  content_by place h is = record { front = content h n; back = []; is = rw is (ap (λ (l : List ℕ). content h n ++ l) (sym (append-nil (encoded b.events)))) }

  stored_now : (place : Placement) (h : History) → AcceptAllowed s b place h → is_stored_in place n ≡ true → Stored b n (Accepted b place ∷ h)
  stored_now place h may is = let made = chunk_by place h may is in record { chunk = made.0; among = made.1; of = made.2; holds = content_by place h is }

  -- ---- and since

  module _ (place : Placement) (is : is_stored_in place n ≡ true) where
    content_later : (fact : Fact) (past : Past) → FactAllowed s fact past → Contains (logged past) (Accepted b place) → Holds b (content (logged past) n) → Holds b (content (fact ∷ logged past) n)
    content_later (Found number stream name bytes) past may has holds = absurd (none_accepted (logged past) b place may.1 has)
    content_later (Accepted other at) past may has holds = by (is_stored_in at n)
      where
        by : (x : Bool) → Holds b (cond x (content (logged past) n ++ encoded other.events) (content (logged past) n))
        by true = holds_more b (content (logged past) n) (encoded other.events) holds
        by false = holds
    content_later fact past may has holds = holds

    stored_later : (fact : Fact) (past : Past) → FactAllowed s fact past → Contains (logged past) (Accepted b place) → Stored b n (logged past) → Stored b n (fact ∷ logged past)
    stored_later fact past may has was = record { chunk = was.chunk; among = chunk_still fact (logged past) was.chunk was.among; of = was.of; holds = content_later fact past may has was.holds }

    stored_fact : (fact : Fact) (past : Past) → FactAllowed s fact past → (Contains (logged past) (Accepted b place) → Stored b n (logged past)) → Contains (fact ∷ logged past) (Accepted b place) → Stored b n (fact ∷ logged past)
    stored_fact fact past may more has =
        ⊎_elim
        (λ (same : fact ≡ Accepted b place). subst (λ (f : Fact). Stored b n (f ∷ logged past)) (sym same) (stored_now place (logged past) (subst (λ (f : Fact). FactAllowed s f past) same may) is))
        (λ (later : Contains (logged past) (Accepted b place)). stored_later fact past may later (more later))
        (either fact (logged past) (Accepted b place) has)

    stored_call : (call : Call) (past : Past) → IsAllowed s call past → (Contains (logged past) (Accepted b place) → Stored b n (logged past)) → Contains (history_after_call call (logged past)) (Accepted b place)
        → Stored b n (history_after_call call (logged past))
    stored_call (Note fact) past may more has = stored_fact fact past may more has
    stored_call (OnLoop call) past may more has = more has
    stored_call (OnDisk call) past may more has = more has
    stored_call (OnFiles call) past may more has = more has
    stored_call (OnKeeper call) past may more has = more has

    -- the chunk of an accepted batch exists, and holds it
    pub stored : (past : Past) → Allowed s past → Contains (logged past) (Accepted b place) → Stored b n (logged past)
    stored [] due has = absurd (omega (arith, has.1))
    stored (e ∷ past) due has = stored_call e.call past due.0 (stored past due.1) has

-- a batch that has an output was put into a chunk
module _ (s : AllSettings) (b : Batch) (place : Placement) (wanted : is_empty (outputs_for s b.tag) ≡ false) where
  abbrev InAChunk : Type 0
  InAChunk = (n : ℕ) × ((place ≡ NewChunk n) ⊎ (place ≡ AppendedTo n))

  placed_by : (at : Placement) (h : History) → at ≡ place → AcceptAllowed s b at h → InAChunk
  placed_by NoChunk h is may = absurd (cc (sym may.1 ∙ wanted))
  placed_by (NewChunk n) h is may = (n, inl (sym is))
  placed_by (AppendedTo n) h is may = (n, inr (sym is))

  placed_call : (call : Call) (past : Past) → IsAllowed s call past → (Contains (logged past) (Accepted b place) → InAChunk) → Contains (history_after_call call (logged past)) (Accepted b place) → InAChunk
  placed_call (Note fact) past may more has =
      ⊎_elim (λ (same : fact ≡ Accepted b place). placed_by place (logged past) refl (subst (λ (f : Fact). FactAllowed s f past) same may)) (λ (later : Contains (logged past) (Accepted b place)). more later)
      (either fact (logged past) (Accepted b place) has)
  placed_call (OnLoop call) past may more has = more has
  placed_call (OnDisk call) past may more has = more has
  placed_call (OnFiles call) past may more has = more has
  placed_call (OnKeeper call) past may more has = more has

  pub placed : (past : Past) → Allowed s past → Contains (logged past) (Accepted b place) → InAChunk
  placed [] due has = absurd (omega (arith, has.1))
  placed (e ∷ past) due has = placed_call e.call past due.0 (placed past due.1) has
