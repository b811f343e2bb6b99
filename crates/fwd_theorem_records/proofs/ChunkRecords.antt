-- The events in the bytes of each chunk are its records.
use Rattle.std.proofs.Common.{◌≡◌, ◌⊎◌, inl, inr, ⊎_elim, ℕ, suc, ◌+◌, ◌<◌, Bool, true, false, cond, not, List, [], ◌∷◌, ◌++◌, length, refl, sym, ◌∙◌, ap, subst, arith}
use Rattle.std.specs.Prelude.{All, Contains, ◌==◌}
use Rattle.std.proofs.lemmas.Bool.{cond-true, cond-false, eq-eqb, eqb-true, ne_eqb}
use Rattle.std.proofs.lemmas.List.Elements.{All-nil, All-append}
use Rattle.std.proofs.lemmas.List.Concat.{flat_map-append}
use Rattle.fwd_msgpack.specs.Canonical.{canonical}
use Rattle.fwd_event.specs.declared.event.Event.{Event}
use Rattle.fwd_event.specs.Event.{event_val}
use Rattle.fwd_event.specs.EventPrefix.{events_in, IsWritable}
use Rattle.fwd_event.proofs.EventPrefix.{encodings_back}
use Rattle.fwd_settings.specs.declared.settings_types.AllSettings.{AllSettings}
use Rattle.fwd_model.specs.Fact.{Fact, History, Batch, Placement, NoChunk, NewChunk, AppendedTo, Found, Offered, Accepted}
use Rattle.fwd_model.specs.Trace.{Call, Note, history_after_call}
use Rattle.fwd_model.specs.RecoveredFile.{recovered_content, recovered_events}
use Rattle.fwd_model.specs.Chunks.{ChunkInfo, chunks_of, open_chunks, is_closed, records, content, encoded}
use Rattle.fwd_theorem_trace.specs.Past.{Past, logged}
use Rattle.fwd_theorem_trace.specs.Allowed.{IsLoading, StartsChunk, AppendsTo, WasOffered, FactAllowed, IsAllowed, Allowed}
use Rattle.fwd_theorem_trace.specs.Sound.{chunk_of, IsBelow, Sound}
use Rattle.fwd_theorem_trace.proofs.Members.{here, deeper, either, from_filter, from_find, off_where_not}
use Rattle.fwd_theorem_trace.proofs.Persistence.{shut_still}
use Rattle.fwd_theorem_trace.proofs.Invariant.{sound}
use Rattle.fwd_theorem_crash.proofs.UnusedNumbers.{IsUnused, content_unused}
use Rattle.fwd_theorem_records.specs.Records.{StoredAreWritable, IsOfThisRun, HoldsRecords}

-- ---- a number without facts

not_at : (m n : ℕ) → m < n → (m == n) ≡ false
not_at m n lt = ne_eqb m n (λ e. omega (arith, lt, e))

records_unused : (h : History) (n : ℕ) → IsUnused h n → records h n ≡ []
records_unused [] n unused = refl
records_unused (fact ∷ h) n unused = by fact (unused fact (here fact h)) (records_unused h n (λ f has. unused f (deeper fact h f has)))
  where
    by : (f : Fact) → IsBelow n (chunk_of f) → records h n ≡ [] → records (f ∷ h) n ≡ []
    by (Found number stream name bytes) lt more = cond-false (number == n) (recovered_events bytes) (records h n) (not_at number n lt) ∙ more
    by (Accepted b NoChunk) lt more = more
    by (Accepted b (NewChunk other)) lt more = cond-false (other == n) (records h n ++ b.events) (records h n) (not_at other n lt) ∙ more
    by (Accepted b (AppendedTo other)) lt more = cond-false (other == n) (records h n ++ b.events) (records h n) (not_at other n lt) ∙ more
    by f lt more = more

-- ---- a recovered chunk is closed

found_closed : (stream name bytes : List ℕ) (h : History) (n : ℕ) → is_closed (Found n stream name bytes ∷ h) n ≡ true
found_closed stream name bytes h n = cond-true (n == n) true (is_closed h n) (eq-eqb n n refl)

recovered_closed : (h : History) (n : ℕ) (stream name bytes : List ℕ) → Contains h (Found n stream name bytes) → is_closed h n ≡ true
recovered_closed [] n stream name bytes has = absurd (omega (arith, has.1))
recovered_closed (fact ∷ h) n stream name bytes has = by (either fact h (Found n stream name bytes) has) (λ later. recovered_closed h n stream name bytes later)
  where
    by : (fact ≡ Found n stream name bytes) ⊎ Contains h (Found n stream name bytes) → (Contains h (Found n stream name bytes) → is_closed h n ≡ true) → is_closed (fact ∷ h) n ≡ true
    by (inl same) more = subst (λ (f : Fact). is_closed (f ∷ h) n ≡ true) (sym same) (found_closed stream name bytes h n)
    by (inr later) more = shut_still fact h n (more later)

-- a fact that isn't the recovery of this file
before_found : (fact : Fact) (h : History) (found : Fact) → (fact ≡ found → ⊥) → Contains (fact ∷ h) found → Contains h found
before_found fact h found differs has = ⊎_elim (λ (now : fact ≡ found). absurd (differs now)) (λ (later : Contains h found). later) (either fact h found has)

-- recovered files have rising numbers
found_below : (h : History) (n : ℕ) (stream name bytes : List ℕ) → IsLoading h → Contains h (Found n stream name bytes) → n < length h + 1
found_below [] n stream name bytes loading has = absurd (omega (arith, has.1))
found_below (Found number folder file held ∷ h) n stream name bytes loading has = by (either (Found number folder file held) h (Found n stream name bytes) has) (λ later. found_below h n stream name bytes loading.1 later)
  where
    by : (Found number folder file held ≡ Found n stream name bytes) ⊎ Contains h (Found n stream name bytes) → (Contains h (Found n stream name bytes) → n < length h + 1) → n < suc (length h) + 1
    by (inl same) more = let at : number ≡ n = cc same in let is = loading.0 in omega (arith, at, is)
    by (inr later) more = let lt = more later in omega (arith, lt)
found_below (fact ∷ h) n stream name bytes loading has = absurd loading

open_of_this_run : (h : History) (n : ℕ) → is_closed h n ≡ false → IsOfThisRun h n
open_of_this_run h n off stream name bytes has = let on = recovered_closed h n stream name bytes has in absurd (cc (sym on ∙ off))

-- a batch is appended to an open chunk
appended_open : (b : Batch) (chunk : ℕ) (h : History) → WasOffered AppendsTo b chunk h → is_closed h chunk ≡ false
appended_open b chunk h offer =
    let at : History = offer.before in
    let one = offer.stood.chunk_open in
    let there = from_find _ (open_chunks at) one offer.stood.is in
    let kept = from_filter (λ (c : ChunkInfo). not (is_closed at c.number)) (chunks_of at) one there.0 in
    let off : is_closed at one.number ≡ false = off_where_not (is_closed at one.number) kept.1 in
    subst (λ (g : History). is_closed g chunk ≡ false) (sym offer.is) (subst (λ (n : ℕ). is_closed at n ≡ false) offer.stood.number off)

-- ---- one fact less

before_stored : (fact : Fact) (h : History) → StoredAreWritable (fact ∷ h) → StoredAreWritable h
before_stored (Accepted b (NewChunk chunk)) h are = are.1
before_stored (Accepted b (AppendedTo chunk)) h are = are.1
before_stored fact h are = are

pub call_stored : (call : Call) (h : History) → StoredAreWritable (history_after_call call h) → StoredAreWritable h
call_stored (Note fact) h are = before_stored fact h are
call_stored call h are = are

-- ---- one more fact

earlier : (fact : Fact) (h : History) (n : ℕ) → IsOfThisRun (fact ∷ h) n → IsOfThisRun h n
earlier fact h n own stream name bytes has = own stream name bytes (deeper fact h (Found n stream name bytes) has)

-- all bytes are encodings of the records
abbrev IsWritten : History → ℕ → Type 0
IsWritten h n = (content h n ≡ encoded (records h n)) × All IsWritable (records h n)

module _ (b : Batch) (place : Placement) (h : History) (n : ℕ) where
  abbrev g : History
  g = Accepted b place ∷ h

  found_earlier : (stream name bytes : List ℕ) → Contains g (Found n stream name bytes) → Contains h (Found n stream name bytes)
  found_earlier stream name bytes has = before_found (Accepted b place) h (Found n stream name bytes) (λ same. absurd (cc same)) has

  stored : (same : Bool) → content g n ≡ cond same (content h n ++ encoded b.events) (content h n) → records g n ≡ cond same (records h n ++ b.events) (records h n)
      → All IsWritable b.events → (same ≡ true → IsWritten h n × IsOfThisRun h n) → HoldsRecords h n → HoldsRecords g n
  stored true is has new old was =
      let before = (old refl).0 in
      let both : encoded (records h n ++ b.events) ≡ encoded (records h n) ++ encoded b.events = flat_map-append (λ (e : Event). canonical (event_val e)) (records h n) b.events in
      let whole : content g n ≡ encoded (records h n ++ b.events) = is ∙ (ap (λ (l : List ℕ). l ++ encoded b.events) before.0 ∙ sym both) in
      let all : All IsWritable (records h n ++ b.events) = All-append IsWritable (records h n) b.events before.1 new in
      record {
        read = ap (λ (l : List ℕ). (events_in l).0) whole ∙ (ap (λ (x : List Event × ℕ). x.0) (encodings_back (records h n ++ b.events) all) ∙ sym has);
        written = λ own. whole ∙ ap encoded (sym has);
        writable = λ own. subst (All IsWritable) (sym has) all;
        recovered = λ stream name bytes there. absurd ((old refl).1 stream name bytes (found_earlier stream name bytes there));
      }
  stored false is has new old was = record {
    read = ap (λ (l : List ℕ). (events_in l).0) is ∙ (was.read ∙ sym has);
    written = λ own. is ∙ (was.written (earlier (Accepted b place) h n own) ∙ ap encoded (sym has));
    writable = λ own. subst (All IsWritable) (sym has) (was.writable (earlier (Accepted b place) h n own));
    recovered = λ stream name bytes there. is ∙ was.recovered stream name bytes (found_earlier stream name bytes there);
  }

found_read : (same : Bool) (x bytes : List ℕ) (events : List Event) → (events_in bytes).0 ≡ events → (events_in (cond same x bytes)).0 ≡ cond same (events_in x).0 events
found_read true x bytes events is = refl
found_read false x bytes events is = is

-- a recovered file has another number than a chunk of this run
found_elsewhere : (number n : ℕ) (stream name bytes : List ℕ) (h : History) → IsOfThisRun (Found number stream name bytes ∷ h) n → (number == n) ≡ false
found_elsewhere number n stream name bytes h own = by (number == n) refl
  where
    by : (b : Bool) → (number == n) ≡ b → b ≡ false
    by true is =
        let there = subst (λ (m : ℕ). Contains (Found number stream name bytes ∷ h) (Found m stream name bytes)) (eqb-true number n is) (here (Found number stream name bytes) h) in
        absurd (own stream name bytes there)
    by false is = refl

module _ (s : AllSettings) where
  before_sound : (past : Past) → Allowed s past → (fact : Fact) (before : History) → logged past ≡ fact ∷ before → Sound s before
  before_sound [] due fact before is = absurd (cc is)
  before_sound (e ∷ past) due fact before is = by e.call is (λ same. before_sound past due.1 fact before same)
    where
      by : (call : Call) → history_after_call call (logged past) ≡ fact ∷ before → (logged past ≡ fact ∷ before → Sound s before) → Sound s before
      by (Note other) same more = let rest : logged past ≡ before = cc same in subst (Sound s) rest (sound s past due.1)
      by call same more = more same

  -- no fact was about a new chunk
  begun_unused : (b : Batch) (chunk : ℕ) (past : Past) → Allowed s past → (offer : WasOffered StartsChunk b chunk (logged past)) → IsUnused offer.before chunk
  begun_unused b chunk past due offer = subst (IsUnused offer.before) (sym offer.stood.next_one) (before_sound past due (Offered chunk b) offer.before offer.is).fresh

  begun_written : (b : Batch) (chunk : ℕ) (past : Past) → Allowed s past → WasOffered StartsChunk b chunk (logged past) → IsWritten (logged past) chunk
  begun_written b chunk past due offer =
      let before : History = offer.before in
      let unused = begun_unused b chunk past due offer in
      let none : content before chunk ≡ [] = content_unused before chunk unused in
      let nothing : records before chunk ≡ [] = records_unused before chunk unused in
      subst (λ (h : History). IsWritten h chunk) (sym offer.is) (none ∙ sym (ap encoded nothing), subst (All IsWritable) (sym nothing) (All-nil IsWritable))

  begun_own : (b : Batch) (chunk : ℕ) (past : Past) → Allowed s past → WasOffered StartsChunk b chunk (logged past) → IsOfThisRun (logged past) chunk
  begun_own b chunk past due offer stream name bytes has =
      let there = subst (λ (h : History). Contains h (Found chunk stream name bytes)) offer.is has in
      let earlier_there = before_found (Offered chunk b) offer.before (Found chunk stream name bytes) (λ same. absurd (cc same)) there in
      let lt : chunk < chunk = begun_unused b chunk past due offer (Found chunk stream name bytes) earlier_there in
      omega (arith, lt)

  begun : (b : Batch) (chunk : ℕ) (past : Past) → Allowed s past → WasOffered StartsChunk b chunk (logged past) → IsWritten (logged past) chunk × IsOfThisRun (logged past) chunk
  begun b chunk past due offer = (begun_written b chunk past due offer, begun_own b chunk past due offer)

  grown : (b : Batch) (chunk : ℕ) (h : History) → WasOffered AppendsTo b chunk h → HoldsRecords h chunk → IsWritten h chunk × IsOfThisRun h chunk
  grown b chunk h offer was = let own = open_of_this_run h chunk (appended_open b chunk h offer) in ((was.written own, was.writable own), own)

  at_number : (chunk n : ℕ) (P : ℕ → Type 0) → P chunk → (chunk == n) ≡ true → P n
  at_number chunk n P is same = subst P (eqb-true chunk n same) is

  found_holds : (number n : ℕ) (stream name bytes : List ℕ) (h : History) → number ≡ length h + 1 → IsLoading h → HoldsRecords h n → HoldsRecords (Found number stream name bytes ∷ h) n
  found_holds number n stream name bytes h at loading was =
      let fact : Fact = Found number stream name bytes in
      record {
        read = found_read (number == n) (recovered_content bytes) (content h n) (records h n) was.read;
        written = λ own.
            let off = found_elsewhere number n stream name bytes h own in
            cond-false (number == n) (recovered_content bytes) (content h n) off ∙ (was.written (earlier fact h n own) ∙ ap encoded (sym (cond-false (number == n) (recovered_events bytes) (records h n) off)));
        writable = λ own.
            let off = found_elsewhere number n stream name bytes h own in
            subst (All IsWritable) (sym (cond-false (number == n) (recovered_events bytes) (records h n) off)) (was.writable (earlier fact h n own));
        recovered = λ folder file bytes_of has. by folder file bytes_of (either fact h (Found n folder file bytes_of) has);
      }
    where
      by : (folder file bytes_of : List ℕ) → (Found number stream name bytes ≡ Found n folder file bytes_of) ⊎ Contains h (Found n folder file bytes_of) → cond (number == n) (recovered_content bytes) (content h n) ≡ recovered_content bytes_of
      by folder file bytes_of (inl same) =
          let one : number ≡ n = cc same in
          let its : bytes ≡ bytes_of = cc same in
          cond-true (number == n) (recovered_content bytes) (content h n) (eq-eqb number n one) ∙ ap recovered_content its
      by folder file bytes_of (inr later) =
          let lt = found_below h n folder file bytes_of loading later in
          cond-false (number == n) (recovered_content bytes) (content h n) (ne_eqb number n (λ e. omega (arith, lt, at, e))) ∙ was.recovered folder file bytes_of later

  fact_holds : (fact : Fact) (past : Past) → Allowed s past → FactAllowed s fact past → StoredAreWritable (fact ∷ logged past) → ((n : ℕ) → HoldsRecords (logged past) n) → (n : ℕ) → HoldsRecords (fact ∷ logged past) n
  fact_holds (Found number stream name bytes) past so due are was n = found_holds number n stream name bytes (logged past) due.0 due.1 (was n)
  fact_holds (Accepted b (NewChunk chunk)) past so due are was n =
      let h : History = logged past in
      stored b (NewChunk chunk) h n (chunk == n) refl refl are.0 (at_number chunk n (λ (m : ℕ). IsWritten h m × IsOfThisRun h m) (begun b chunk past so due.1)) (was n)
  fact_holds (Accepted b (AppendedTo chunk)) past so due are was n =
      let h : History = logged past in
      stored b (AppendedTo chunk) h n (chunk == n) refl refl are.0 (at_number chunk n (λ (m : ℕ). IsWritten h m × IsOfThisRun h m) (grown b chunk h due.1 (was chunk))) (was n)
  fact_holds fact past so due are was n = record {
    read = (was n).read;
    written = λ own. (was n).written (earlier fact (logged past) n own);
    writable = λ own. (was n).writable (earlier fact (logged past) n own);
    recovered = λ stream name bytes has. (was n).recovered stream name bytes (before_found fact (logged past) (Found n stream name bytes) (λ same. absurd (cc same)) has);
  }

  call_holds : (call : Call) (past : Past) → Allowed s past → IsAllowed s call past → StoredAreWritable (history_after_call call (logged past)) → ((n : ℕ) → HoldsRecords (logged past) n)
      → (n : ℕ) → HoldsRecords (history_after_call call (logged past)) n
  call_holds (Note fact) past so due are was n = fact_holds fact past so due are was n
  call_holds call past so due are was n = was n

  pub chunks_hold : (past : Past) → Allowed s past → StoredAreWritable (logged past) → (n : ℕ) → HoldsRecords (logged past) n
  chunks_hold [] due are n = record { read = ap (λ (x : List Event × ℕ). x.0) (encodings_back [] (All-nil IsWritable)); written = λ own. refl; writable = λ own. All-nil IsWritable; recovered = λ stream name bytes has. absurd (omega (arith, has.1)) }
  chunks_hold (e ∷ past) due are n = call_holds e.call past due.1 due.0 are (λ m. chunks_hold past due.1 (call_stored e.call (logged past) are) m) n
