-- Future chunks, open chunks, and flush attempts, after one more fact.
use Rattle.std.proofs.Common.{◌≡◌, ◌≢◌, ℕ, ◌+◌, ◌<◌, ◌≤◌, Bool, true, false, not, inl, inr, List, [], ◌∷◌, ◌++◌, Option, Some, None, refl, sym, ◌∙◌, ap, subst, arith}
use Rattle.std.specs.Prelude.{if◌then◌else◌, ◌==◌, filter, find}
use Rattle.std.specs.List.{list_any}
use Rattle.std.specs.Option.{option_map_or}
use Rattle.std.proofs.lemmas.Bool.{cases_Bool, cases_eq, ne_eqb, eq-eqb, eqb-true}
use Rattle.fwd_chunk.specs.declared.chunk.Chunk.{Chunk}
use Rattle.fwd_settings.specs.declared.settings_types.AllSettings.{AllSettings}
use Rattle.fwd_flush.specs.FlushProgram.{Progress, link_in}
use Rattle.fwd_base.specs.declared.ids.LinkId.{LinkId}
use Rattle.fwd_model.specs.Fact.{History, Route, Outcome, Batch, Placement, NoChunk, NewChunk, AppendedTo, InFlight, Accepted, Found, Offered, ChunkClosed, OnRoute}
use Rattle.fwd_model.specs.Settings.{output_at}
use Rattle.fwd_model.specs.RecoveredFile.{recovered_chunk}
use Rattle.fwd_model.specs.Chunks.{ChunkInfo, chunks_of, recovered_info, next, is_closed, is_stored_in}
use Rattle.fwd_model.specs.Routes.{same_route, is_link, uses_link, progress_of, other_than, route_on_link, flight, begun}
use Rattle.fwd_model.specs.Payloads.{tag_of_chunk, delivery, delivery_at}
use Rattle.fwd_engine_state.specs.StateRepresents.{NumbersRise, is_open, IsUntouched, is_for, IsFlightOf, AttemptIsKept, LinkHolds}
use Rattle.fwd_engine_state.specs.declared.flush_attempts.FlushAttempt.{FlushAttempt}
use Rattle.fwd_engine_state.proofs.RowChanges.{no_more}
use Rattle.fwd_engine_state.proofs.ChunkOrder.{found_append}

-- ---- open chunks

any_where : (k : ℕ) (p q : ChunkInfo → Bool) → ((c : ChunkInfo) → p c ≡ true → q c ≡ true) → (cs : List ChunkInfo)
    → list_any (λ (c : ChunkInfo). c.number == k) (filter p cs) ≡ true → list_any (λ (c : ChunkInfo). c.number == k) (filter q cs) ≡ true
any_where k p q each [] any = any
any_where k p q each (c ∷ cs) any = elim (cases_Bool (p c)) [
  | inl is ↦ elim (cases_Bool (c.number == k)) [
    | inl same ↦ rw (each c is, same) refl
    | inr differs ↦ rw (each c is, differs) (any_where k p q each cs (rw (is, differs) at any))
  ]
  | inr isnt ↦ elim (cases_Bool (q c)) [
    | inl also ↦ elim (cases_Bool (c.number == k)) [
      | inl same ↦ rw (also, same) refl
      | inr differs ↦ rw (also, differs) (any_where k p q each cs (rw isnt at any))
    ]
    | inr neither ↦ rw neither (any_where k p q each cs (rw isnt at any))
  ]
]

-- one more open chunk that isn't the given one, or has another number
any_without : (k : ℕ) (p : ChunkInfo → Bool) (y : ChunkInfo) → (y.number == k) ≡ false → (cs : List ChunkInfo)
    → list_any (λ (c : ChunkInfo). c.number == k) (filter p (cs ++ y ∷ [])) ≡ true → list_any (λ (c : ChunkInfo). c.number == k) (filter p cs) ≡ true
any_without k p y differs [] any = elim (cases_Bool (p y)) [ inl is ↦ absurd (cc (rw (is, differs) at any)) | inr isnt ↦ absurd (cc (rw isnt at any)) ]
any_without k p y differs (c ∷ cs) any = elim (cases_Bool (p c)) [
  | inl is ↦ elim (cases_Bool (c.number == k)) [
    | inl same ↦ rw (is, same) refl
    | inr other ↦ rw (is, other) (any_without k p y differs cs (rw (is, other) at any))
  ]
  | inr isnt ↦ rw isnt (any_without k p y differs cs (rw isnt at any))
]

any_taken : (k : ℕ) (p : ChunkInfo → Bool) (cs : List ChunkInfo) → list_any (λ (c : ChunkInfo). c.number == k) (filter p cs) ≡ true → (c : ChunkInfo) × (c.number ≡ k) × (p c ≡ true)
any_taken k p [] any = absurd (cc any)
any_taken k p (c ∷ cs) any = elim (cases_Bool (p c)) [
  | inl is ↦ elim (cases_Bool (c.number == k)) [
    | inl same ↦ (c, eqb-true c.number k same, is)
    | inr differs ↦ any_taken k p cs (rw (is, differs) at any)
  ]
  | inr isnt ↦ any_taken k p cs (rw isnt at any)
]

not_true : (b : Bool) → not b ≡ true → b ≡ false
not_true true is = absurd (cc is)
not_true false is = refl

-- an open chunk isn't closed
pub open_is : (h : History) (k : ℕ) → is_open h k ≡ true → is_closed h k ≡ false
open_is h k is = let one = any_taken k (λ c. not (is_closed h c.number)) (chunks_of h) is in ap (is_closed h) (sym one.1) ∙ not_true _ one.2

pub open_left : (n : ℕ) (h : History) (k : ℕ) → is_open (ChunkClosed n ∷ h) k ≡ true → is_open h k ≡ true
open_left n h k is = any_where k (λ c. not (is_closed (ChunkClosed n ∷ h) c.number)) (λ c. not (is_closed h c.number)) one (chunks_of h) is
  where
    one : (c : ChunkInfo) → not (if n == c.number then true else is_closed h c.number) ≡ true → not (is_closed h c.number) ≡ true
    one c still = elim (cases_Bool (n == c.number)) [ inl same ↦ absurd (cc (rw same at still)) | inr differs ↦ rw differs at still ]

pub open_same : (b : Batch) (n : ℕ) (h : History) (k : ℕ) → is_open (Accepted b (AppendedTo n) ∷ h) k ≡ true → is_open h k ≡ true
open_same b n h k is = ap (λ (cs : List ChunkInfo). list_any (λ (c : ChunkInfo). c.number == k) (filter (λ c. not (is_closed h c.number)) cs)) (sym (no_more (chunks_of h))) ∙ is

pub open_others : (b : Batch) (n : ℕ) (h : History) (k : ℕ) → (n == k) ≡ false → is_open (Accepted b (NewChunk n) ∷ h) k ≡ true → is_open h k ≡ true
open_others b n h k differs is = any_without k (λ c. not (is_closed h c.number)) _ differs (chunks_of h) is

pub open_found : (n : ℕ) (stream name bytes : List ℕ) (h : History) (k : ℕ) → is_open (Found n stream name bytes ∷ h) k ≡ true → is_open h k ≡ true
open_found n stream name bytes h k is = elim (cases_eq n k) [
  | inl same ↦
      let closed : is_closed (Found n stream name bytes ∷ h) k ≡ true = rw (eq-eqb n k same) refl in
      absurd (cc (sym (open_is (Found n stream name bytes ∷ h) k is) ∙ closed))
  | inr differs ↦ any_where k _ (λ c. not (is_closed h c.number)) one (chunks_of h) (by (recovered_chunk bytes) (ne_eqb n k differs) is)
]
  where
    one : (c : ChunkInfo) → not (if n == c.number then true else is_closed h c.number) ≡ true → not (is_closed h c.number) ≡ true
    one c still = elim (cases_Bool (n == c.number)) [ inl same ↦ absurd (cc (rw same at still)) | inr differs ↦ rw differs at still ]

    by : (o : Option Chunk) → (n == k) ≡ false → list_any (λ (c : ChunkInfo). c.number == k) (filter (λ (c : ChunkInfo). not (if n == c.number then true else is_closed h c.number)) (chunks_of h ++ recovered_info n o)) ≡ true
        → list_any (λ (c : ChunkInfo). c.number == k) (filter (λ (c : ChunkInfo). not (if n == c.number then true else is_closed h c.number)) (chunks_of h)) ≡ true
    by None apart any = ap (λ (cs : List ChunkInfo). list_any (λ (c : ChunkInfo). c.number == k) (filter (λ (c : ChunkInfo). not (if n == c.number then true else is_closed h c.number)) cs)) (sym (no_more (chunks_of h))) ∙ any
    by (Some chunk) apart any = any_without k _ _ apart (chunks_of h) any

-- ---- chunks that don't exist yet

apart_from : (n k m : ℕ) → n < m → m ≤ k → (n == k) ≡ false
apart_from n k m within above = ne_eqb n k (λ e. absurd (omega (arith, within, above, e)))

abbrev pub Fresh : AllSettings → History → Type 0
Fresh s h = (k : ℕ) → next h ≤ k → IsUntouched s h k

pub fresh_shut : (s : AllSettings) (n : ℕ) (h : History) → n < next h → Fresh s h → Fresh s (ChunkClosed n ∷ h)
fresh_shut s n h within fresh k above =
    let old = fresh k above in
    let apart = apart_from n k (next h) within above in
    (rw apart old.0, old.1, λ o. let r = old.2 o in (r.0, rw apart r.1, r.2, r.3))

pub fresh_accepted : (s : AllSettings) (b : Batch) (place : Placement) (h : History) → ((k : ℕ) → next h ≤ k → is_stored_in place k ≡ false) → Fresh s h → Fresh s (Accepted b place ∷ h)
fresh_accepted s b place h within fresh k above = let old = fresh k above in (old.0, rw (within k above) old.1, old.2)

pub within_next : (n : ℕ) (h : History) → n < next h → (k : ℕ) → next h ≤ k → (n == k) ≡ false
within_next n h within k above = apart_from n k (next h) within above

pub fresh_routed : (s : AllSettings) (r : Route) (o : Outcome) (h : History) → r.chunk < next h → Fresh s h → Fresh s (OnRoute r o ∷ h)
fresh_routed s r o h within fresh k above =
    let old = fresh k above in
    let apart = apart_from r.chunk k (next h) within above in
    (old.0, old.1, λ n. let u = old.2 n in (rw apart u.0, rw apart u.1, rw apart u.2, rw apart u.3))

pub fresh_found : (s : AllSettings) (n : ℕ) (stream name bytes : List ℕ) (h : History) → Fresh s h → Fresh s (Found n stream name bytes ∷ h)
fresh_found s n stream name bytes h fresh k above =
    let old = fresh k (omega (arith, above)) in
    let apart : (n == k) ≡ false = ne_eqb n k (λ e. absurd (omega (arith, above, e))) in
    (rw apart old.0, rw apart old.1, λ o. let u = old.2 o in (u.0, u.1, u.2, rw apart u.3))

-- ---- flush attempts

-- attempts stay kept if none of them changes
carried_by : (s : AllSettings) (h g : History) (out : Option Route) (link : ℕ) (f : Option FlushAttempt) (r : Option Route)
    → ((f : FlushAttempt) (r : Route) → AttemptIsKept s h out link f r → AttemptIsKept s g out link f r) → LinkHolds s h out link f r → LinkHolds s g out link f r
carried_by s h g out link None None each is = tt
carried_by s h g out link None (Some r) each is = is
carried_by s h g out link (Some f) None each is = absurd is
carried_by s h g out link (Some f) (Some r) each is = each f r is

-- an attempt delivers the same if its chunk's tag and its first events stay the same
same_delivery : (s : AllSettings) (h g : History) (r : Route) → begun g r ≡ begun h r → tag_of_chunk g r.chunk ≡ tag_of_chunk h r.chunk → delivery s h r ≡ delivery s g r
same_delivery s h g r events tag = λ i. delivery_at (output_at s r.output) (sym tag i) r (sym events i)

pub carried_shut : (s : AllSettings) (n : ℕ) (h : History) (out : Option Route) (link : ℕ) (f : Option FlushAttempt) → LinkHolds s h out link f (route_on_link h link) → LinkHolds s (ChunkClosed n ∷ h) out link f (route_on_link h link)
carried_shut s n h out link f is = carried_by s h (ChunkClosed n ∷ h) out link f (route_on_link h link) one is
  where
    shut_too : (k : ℕ) → is_closed h k ≡ true → is_closed (ChunkClosed n ∷ h) k ≡ true
    shut_too k is = elim (cases_Bool (n == k)) [ inl same ↦ rw same refl | inr differs ↦ rw differs is ]

    one : (f : FlushAttempt) (r : Route) → AttemptIsKept s h out link f r → AttemptIsKept s (ChunkClosed n ∷ h) out link f r
    one f r k = let o = k.0 in ((o.0, o.1, o.2, o.3, (shut_too r.chunk o.4.0, o.4.1)), k.1, k.2, k.3)

tag_same : (h : History) (more : List ChunkInfo) (k : ℕ) → find (λ (c : ChunkInfo). c.number == k) (chunks_of h ++ more) ≡ find (λ (c : ChunkInfo). c.number == k) (chunks_of h)
    → option_map_or (λ (c : ChunkInfo). c.tag) (find (λ (c : ChunkInfo). c.number == k) (chunks_of h ++ more)) [] ≡ tag_of_chunk h k
tag_same h more k same = ap (λ (o : Option ChunkInfo). option_map_or (λ (c : ChunkInfo). c.tag) o []) same

-- a chunk still matches an output if it is still the first of its number
still_for : (s : AllSettings) (h : History) (more : List ChunkInfo) (r : Route) → find (λ (c : ChunkInfo). c.number == r.chunk) (chunks_of h ++ more) ≡ find (λ (c : ChunkInfo). c.number == r.chunk) (chunks_of h)
    → option_map_or (is_for s r.output) (find (λ (c : ChunkInfo). c.number == r.chunk) (chunks_of h)) false ≡ true → option_map_or (is_for s r.output) (find (λ (c : ChunkInfo). c.number == r.chunk) (chunks_of h ++ more)) false ≡ true
still_for s h more r same is = ap (λ (o : Option ChunkInfo). option_map_or (is_for s r.output) o false) same ∙ is

none_more : (h : History) (k : ℕ) → find (λ (c : ChunkInfo). c.number == k) (chunks_of h ++ []) ≡ find (λ (c : ChunkInfo). c.number == k) (chunks_of h)
none_more h k = ap (find (λ (c : ChunkInfo). c.number == k)) (no_more (chunks_of h))

pub carried_behind : (s : AllSettings) (b : Batch) (n : ℕ) (h : History) (out : Option Route) (link : ℕ) (f : Option FlushAttempt)
    → LinkHolds s h out link f (route_on_link h link) → LinkHolds s (Accepted b (AppendedTo n) ∷ h) out link f (route_on_link h link)
carried_behind s b n h out link f is = carried_by s h (Accepted b (AppendedTo n) ∷ h) out link f (route_on_link h link) one is
  where
    one : (f : FlushAttempt) (r : Route) → AttemptIsKept s h out link f r → AttemptIsKept s (Accepted b (AppendedTo n) ∷ h) out link f r
    one f r k =
        let o = k.0 in
        ((o.0, o.1, o.2 ∙ same_delivery s h (Accepted b (AppendedTo n) ∷ h) r refl (tag_same h [] r.chunk (none_more h r.chunk)), (still_for s h [] r (none_more h r.chunk) o.3.0, o.3.1), o.4), k.1, k.2, k.3)

pub carried_nowhere : (s : AllSettings) (b : Batch) (h : History) (out : Option Route) (link : ℕ) (f : Option FlushAttempt)
    → LinkHolds s h out link f (route_on_link h link) → LinkHolds s (Accepted b NoChunk ∷ h) out link f (route_on_link h link)
carried_nowhere s b h out link f is = carried_by s h (Accepted b NoChunk ∷ h) out link f (route_on_link h link) one is
  where
    one : (f : FlushAttempt) (r : Route) → AttemptIsKept s h out link f r → AttemptIsKept s (Accepted b NoChunk ∷ h) out link f r
    one f r k =
        let o = k.0 in
        ((o.0, o.1, o.2 ∙ same_delivery s h (Accepted b NoChunk ∷ h) r refl (tag_same h [] r.chunk (none_more h r.chunk)), (still_for s h [] r (none_more h r.chunk) o.3.0, o.3.1), o.4), k.1, k.2, k.3)

pub carried_first : (s : AllSettings) (b : Batch) (n : ℕ) (h : History) (out : Option Route) (link : ℕ) (f : Option FlushAttempt) → is_closed h n ≡ false
    → LinkHolds s h out link f (route_on_link h link) → LinkHolds s (Accepted b (NewChunk n) ∷ h) out link f (route_on_link h link)
carried_first s b n h out link f still is = carried_by s h (Accepted b (NewChunk n) ∷ h) out link f (route_on_link h link) one is
  where
    one : (f : FlushAttempt) (r : Route) → AttemptIsKept s h out link f r → AttemptIsKept s (Accepted b (NewChunk n) ∷ h) out link f r
    one f r k =
        let o = k.0 in
        let apart : (n == r.chunk) ≡ false = ne_eqb n r.chunk (λ e. absurd (cc (sym still ∙ ap (is_closed h) e ∙ o.4.0))) in
        let first : find (λ (c : ChunkInfo). c.number == r.chunk) (chunks_of (Accepted b (NewChunk n) ∷ h)) ≡ find (λ (c : ChunkInfo). c.number == r.chunk) (chunks_of h) = found_append r.chunk (chunks_of h) _ apart in
        ((o.0, o.1, o.2 ∙ same_delivery s h (Accepted b (NewChunk n) ∷ h) r refl (tag_same h _ r.chunk first), (still_for s h _ r first o.3.0, o.3.1), o.4), k.1, k.2, k.3)

pub carried_found : (s : AllSettings) (n : ℕ) (stream name bytes : List ℕ) (h : History) (out : Option Route) (link : ℕ) (f : Option FlushAttempt) → next h ≤ n
    → LinkHolds s h out link f (route_on_link h link) → LinkHolds s (Found n stream name bytes ∷ h) out link f (route_on_link h link)
carried_found s n stream name bytes h out link f above is = carried_by s h (Found n stream name bytes ∷ h) out link f (route_on_link h link) one is
  where
    by : (o : Option Chunk) (k : ℕ) → (n == k) ≡ false → find (λ (c : ChunkInfo). c.number == k) (chunks_of h ++ recovered_info n o) ≡ find (λ (c : ChunkInfo). c.number == k) (chunks_of h)
    by None k apart = none_more h k
    by (Some chunk) k apart = found_append k (chunks_of h) _ apart

    one : (f : FlushAttempt) (r : Route) → AttemptIsKept s h out link f r → AttemptIsKept s (Found n stream name bytes ∷ h) out link f r
    one f r k =
        let o = k.0 in
        let within : r.chunk < next h = o.4.1 in
        let apart : (n == r.chunk) ≡ false = ne_eqb n r.chunk (λ e. absurd (omega (arith, within, above, e))) in
        let first = by (recovered_chunk bytes) r.chunk apart in
        ((o.0, o.1, o.2 ∙ same_delivery s h (Found n stream name bytes ∷ h) r refl (tag_same h _ r.chunk first), (still_for s h _ r first o.3.0, rw apart o.3.1), (rw apart o.4.0, omega (arith, within))), k.1, k.2, k.3)

pub carried_offers : (s : AllSettings) (n : ℕ) (b : Batch) (h : History) (out : Option Route) (link : ℕ) (f : Option FlushAttempt)
    → LinkHolds s h out link f (route_on_link h link) → LinkHolds s (Offered n b ∷ h) out link f (route_on_link h link)
carried_offers s n b h out link f is = carried_by s h (Offered n b ∷ h) out link f (route_on_link h link) one is
  where
    one : (f : FlushAttempt) (r : Route) → AttemptIsKept s h out link f r → AttemptIsKept s (Offered n b ∷ h) out link f r
    one f r k = let o = k.0 in let within : r.chunk < next h = o.4.1 in ((o.0, o.1, o.2, o.3, (o.4.0, omega (arith, within))), k.1, k.2, k.3)

-- ---- outcomes of a route

same_route_is : (a b : Route) → same_route a b ≡ true → b ≡ a
same_route_is a b same = elim (cases_Bool (a.chunk == b.chunk)) [
  | inl chunks ↦
      let outputs : (a.output == b.output) ≡ true = rw chunks at same in
      λ i. record { chunk = sym (eqb-true a.chunk b.chunk chunks) i; output = sym (eqb-true a.output b.output outputs) i }
  | inr differ ↦ absurd (cc (rw differ at same))
]

differs_from : (r a : Route) → Some r ≢ Some a → same_route r a ≡ false
differs_from r a apart = elim (cases_Bool (same_route r a)) [
  | inl same ↦ absurd (apart (ap (λ (x : Route). Some x) (sym (same_route_is r a same))))
  | inr differs ↦ differs
]

-- a route without an attempt isn't in flight
idle_differs : (h : History) (r a : Route) (p : Progress) → flight h r ≡ None → flight h a ≡ Some p → same_route r a ≡ false
idle_differs h r a p idle flies = elim (cases_Bool (same_route r a)) [
  | inl same ↦ absurd (cc (sym idle ∙ ap (flight h) (sym (same_route_is r a same)) ∙ flies))
  | inr differs ↦ differs
]

kept_on : (s : AllSettings) (r : Route) (o : Outcome) (h : History) (out later : Option Route) (link : ℕ) (f : FlushAttempt) (a : Route) → same_route r a ≡ false → later ≢ Some a
    → AttemptIsKept s h out link f a → AttemptIsKept s (OnRoute r o ∷ h) later link f a
kept_on s r o h out later link f a apart free k =
    let w = k.0 in
    ((w.0, w.1, w.2 ∙ same_delivery s h (OnRoute r o ∷ h) a (rw apart refl) refl, (w.3.0, rw apart w.3.1), w.4), rw apart k.1, k.2, free)

none_free : (a : Route) → None ≢ Some a
none_free a e = absurd (cc e)

others_carried : (s : AllSettings) (r : Route) (o : Outcome) (h : History) (link : ℕ) (f : Option FlushAttempt) (on : Option Route) → LinkHolds s h (Some r) link f on → LinkHolds s (OnRoute r o ∷ h) None link f (other_than r on)
others_carried s r o h link None None is = tt
others_carried s r o h link None (Some a) is =
    let same : same_route r a ≡ true = let e : r ≡ a = cc is in subst (λ (x : Route). same_route r x ≡ true) e (rw (eq-eqb r.chunk r.chunk refl, eq-eqb r.output r.output refl) refl) in
    rw same tt
others_carried s r o h link (Some f) None is = absurd is
others_carried s r o h link (Some f) (Some a) is = let apart = differs_from r a is.3 in rw apart (kept_on s r o h (Some r) None link f a apart (none_free a) is)

-- an outcome other than in flight leaves no attempt on a connection
pub carried_ended : (s : AllSettings) (r : Route) (o : Outcome) (h : History) (link : ℕ) (f : Option FlushAttempt) → uses_link link (progress_of o) ≡ false
    → LinkHolds s h (Some r) link f (route_on_link h link) → LinkHolds s (OnRoute r o ∷ h) None link f (route_on_link (OnRoute r o ∷ h) link)
carried_ended s r o h link f none is = rw none (others_carried s r o h link f (route_on_link h link) is)

-- its own attempt is on its connection, and on no other
pub carried_flies : (s : AllSettings) (r : Route) (p : Progress) (h : History) (link : ℕ) (own : FlushAttempt) (f : Option FlushAttempt) → p ≡ own.flush.progress → IsFlightOf s h own r
    → LinkHolds s h (Some r) link f (route_on_link h link)
    → LinkHolds s (OnRoute r (InFlight p) ∷ h) None link (if uses_link link (Some p) then Some own else f) (route_on_link (OnRoute r (InFlight p) ∷ h) link)
carried_flies s r p h link own f same of is = elim (cases_Bool (uses_link link (Some p))) [
  | inl on ↦
      let self : same_route r r ≡ true = rw (eq-eqb r.chunk r.chunk refl, eq-eqb r.output r.output refl) refl in
      let link_is : link_in own.flush.progress.stage ≡ Some (record { 0 = link }) = linked link own.flush.progress (ap (λ (q : Progress). uses_link link (Some q)) (sym same) ∙ on) in
      rw on ((of.0, of.1, of.2 ∙ same_delivery s h (OnRoute r (InFlight p) ∷ h) r (rw self refl) refl, (of.3.0, rw self of.3.1), of.4), rw self (ap (λ (q : Progress). Some q) same), link_is, λ e. absurd (cc e))
  | inr off ↦ rw off (others_carried s r (InFlight p) h link f (route_on_link h link) is)
]
  where
    linked : (link : ℕ) (q : Progress) → uses_link link (Some q) ≡ true → link_in q.stage ≡ Some (record { 0 = link })
    linked link q on = by (link_in q.stage) on
      where
        by : (x : Option LinkId) → is_link link x ≡ true → x ≡ Some (record { 0 = link })
        by None on = absurd (cc on)
        by (Some x) on = λ i. Some (record { 0 = eqb-true x.0 link on i })

-- an idle route is evicted: no attempt changes
lost_on : (s : AllSettings) (r : Route) (o : Outcome) (h : History) (out : Option Route) (link : ℕ) (f : Option FlushAttempt) (on : Option Route) → flight h r ≡ None
    → LinkHolds s h out link f on → LinkHolds s (OnRoute r o ∷ h) out link f (other_than r on)
lost_on s r o h out link None None idle is = tt
lost_on s r o h out link None (Some a) idle is = elim (cases_Bool (same_route r a)) [ inl same ↦ rw same tt | inr differs ↦ rw differs is ]
lost_on s r o h out link (Some f) None idle is = absurd is
lost_on s r o h out link (Some f) (Some a) idle is = let apart = idle_differs h r a _ idle is.1 in rw apart (kept_on s r o h out out link f a apart is.3 is)

pub carried_lost : (s : AllSettings) (r : Route) (o : Outcome) (h : History) (out : Option Route) (link : ℕ) (f : Option FlushAttempt) → uses_link link (progress_of o) ≡ false → flight h r ≡ None
    → LinkHolds s h out link f (route_on_link h link) → LinkHolds s (OnRoute r o ∷ h) out link f (route_on_link (OnRoute r o ∷ h) link)
carried_lost s r o h out link f none idle is = rw none (lost_on s r o h out link f (route_on_link h link) idle is)

-- a route whose attempt has begun is out
begun_on : (s : AllSettings) (r : Route) (o : Outcome) (h : History) (link : ℕ) (f : Option FlushAttempt) (on : Option Route) → flight h r ≡ None
    → LinkHolds s h None link f on → LinkHolds s (OnRoute r o ∷ h) (Some r) link f (other_than r on)
begun_on s r o h link None None idle is = tt
begun_on s r o h link None (Some a) idle is = absurd (cc is)
begun_on s r o h link (Some f) None idle is = absurd is
begun_on s r o h link (Some f) (Some a) idle is =
    let apart = idle_differs h r a _ idle is.1 in
    let self : same_route r r ≡ true = rw (eq-eqb r.chunk r.chunk refl, eq-eqb r.output r.output refl) refl in
    rw apart (kept_on s r o h None (Some r) link f a apart (λ e. let same : r ≡ a = cc e in absurd (cc (sym apart ∙ subst (λ (x : Route). same_route r x ≡ true) same self))) is)

pub carried_begun : (s : AllSettings) (r : Route) (o : Outcome) (h : History) (link : ℕ) (f : Option FlushAttempt) → uses_link link (progress_of o) ≡ false → flight h r ≡ None
    → LinkHolds s h None link f (route_on_link h link) → LinkHolds s (OnRoute r o ∷ h) (Some r) link f (route_on_link (OnRoute r o ∷ h) link)
carried_begun s r o h link f none idle is = rw none (begun_on s r o h link f (route_on_link h link) idle is)

pub landed_on : (s : AllSettings) (g : History) (link : ℕ) (now expected : Option FlushAttempt) → now ≡ expected → LinkHolds s g None link expected (route_on_link g link) → LinkHolds s g None link now (route_on_link g link)
landed_on s g link now expected is carried = subst (λ (f : Option FlushAttempt). LinkHolds s g None link f (route_on_link g link)) (sym is) carried

-- an open chunk has a number that was given out
given_in : (k least past : ℕ) (p : ChunkInfo → Bool) (cs : List ChunkInfo) → NumbersRise least past cs → list_any (λ (c : ChunkInfo). c.number == k) (filter p cs) ≡ true → k < past
given_in k least past p [] rise any = absurd (cc any)
given_in k least past p (c ∷ cs) rise any =
    let below : c.number < past = rise.1 in
    elim (cases_Bool (p c)) [
      | inl is ↦ elim (cases_eq c.number k) [
        | inl same ↦ omega (arith, below, same)
        | inr differs ↦ given_in k (c.number + 1) past p cs rise.2 (rw (is, ne_eqb c.number k differs) at any)
      ]
      | inr isnt ↦ given_in k (c.number + 1) past p cs rise.2 (rw isnt at any)
    ]

pub open_given : (h : History) (k : ℕ) → NumbersRise 0 (next h) (chunks_of h) → is_open h k ≡ true → k < next h
open_given h k rise is = given_in k 0 (next h) (λ c. not (is_closed h c.number)) (chunks_of h) rise is
