-- Histories that differ only in the names of recovered files: a state that represents one represents the
-- other.
use Rattle.std.proofs.Common.{◌≡◌, ℕ, ◌≤◌, Bool, true, not, ◌&&◌, ◌||◌, inl, inr, List, [], ◌∷◌, ◌++◌, length, map, filter, Option, Some, None, refl, sym, ap, subst, ◌∙◌, arith}
use Rattle.std.specs.Prelude.{◌==◌, if◌then◌else◌, is_some, option_map}
use Rattle.std.specs.List.{list_any}
use Rattle.std.proofs.lemmas.Bool.{cases_Bool, eq-eqb}
use Rattle.std.proofs.lemmas.List.Elements.{filter-append}
use Rattle.fwd_chunk.specs.declared.chunk.Chunk.{Chunk}
use Rattle.fwd_settings.specs.declared.settings_types.AllSettings.{AllSettings}
use Rattle.fwd_table.specs.declared.tally.Tally.{Tally}
use Rattle.fwd_model.specs.Fact.{History, Route, Found}
use Rattle.fwd_model.specs.Clock.{clock, tick_count, stopped, next_close}
use Rattle.fwd_model.specs.RecoveredFile.{recovered_chunk, is_marked_done, recovered_content}
use Rattle.fwd_model.specs.Settings.{saturating_plus, outputs_for, output_name}
use Rattle.fwd_model.specs.Chunks.{ChunkInfo, chunks_of, recovered_info, next, is_closed, open_chunks, content}
use Rattle.fwd_model.specs.Routes.{route, tries, due, flight, is_resolved, row_of, rows_of, route_on_link, home_of, input_id}
use Rattle.fwd_model.specs.Counters.{tally_of, as_loaded, as_unrouted, as_left, file_fate}
use Rattle.fwd_engine_state.specs.Views.{attempt_over}
use Rattle.fwd_engine_state.specs.StateRepresents.{StateRepresents, NumbersRise, LinkHolds}
use Rattle.fwd_engine_state.specs.declared.state.State.{State}
use Rattle.fwd_engine_state.specs.declared.flush_attempts.FlushAttempt.{FlushAttempt}
use Rattle.fwd_engine_state.proofs.ChunkOrder.{rise_later}

-- one history has all chunks of the other, and no greater number; no attempt is in flight, and no chunk is
-- open
pub record IsPlain (s : AllSettings) (g h : History) : Type 0 where
  pub chunks : chunks_of g ≡ chunks_of h
  pub shut : (n : ℕ) → is_closed g n ≡ is_closed h n
  pub content : (n : ℕ) → content g n ≡ content h n
  pub tries : (r : Route) → tries g r ≡ tries h r
  pub due : (r : Route) → due s g r ≡ due s h r
  pub flight : (r : Route) → flight g r ≡ flight h r
  pub resolved : (r : Route) → is_resolved s g r ≡ is_resolved s h r
  pub grounded : (link : ℕ) → route_on_link g link ≡ None
  pub on_ground : (link : ℕ) → route_on_link h link ≡ None
  pub time : clock g ≡ clock h
  pub ticks : tick_count g ≡ tick_count h
  pub closing : next_close s g ≡ next_close s h
  pub stopped : stopped s g ≡ stopped s h
  pub tally : tally_of s g ≡ tally_of s h
  pub opens : open_chunks h ≡ []
  pub next : next g ≤ next h

pub plain_first : (s : AllSettings) → IsPlain s [] []
plain_first s = record {
  chunks = refl;
  shut = λ n. refl;
  content = λ n. refl;
  tries = λ r. refl;
  due = λ r. refl;
  flight = λ r. refl;
  resolved = λ r. refl;
  grounded = λ link. refl;
  on_ground = λ link. refl;
  time = refl;
  ticks = refl;
  closing = refl;
  stopped = refl;
  tally = refl;
  opens = refl;
  next = omega arith;
}

-- ---- no chunk is open

old_shut : (n : ℕ) (stream name bytes : List ℕ) (h : History) (cs : List ChunkInfo) → filter (λ (c : ChunkInfo). not (is_closed h c.number)) cs ≡ []
    → filter (λ (c : ChunkInfo). not (is_closed (Found n stream name bytes ∷ h) c.number)) cs ≡ []
old_shut n stream name bytes h [] none = refl
old_shut n stream name bytes h (c ∷ cs) none = elim (cases_Bool (is_closed h c.number)) [
  | inl closed ↦
      let more = old_shut n stream name bytes h cs (rw closed at none) in
      elim (cases_Bool (n == c.number)) [
        | inl same ↦ rw same more
        | inr differs ↦ rw (differs, closed) more
      ]
  | inr still ↦ absurd (cc (rw still at none))
]

new_shut : (n : ℕ) (stream name bytes : List ℕ) (h : History) (o : Option Chunk) → filter (λ (c : ChunkInfo). not (is_closed (Found n stream name bytes ∷ h) c.number)) (recovered_info n o) ≡ []
new_shut n stream name bytes h None = refl
new_shut n stream name bytes h (Some chunk) = let same : (n == n) ≡ true = eq-eqb n n refl in rw same refl

none_open : (n : ℕ) (stream name bytes : List ℕ) (h : History) → open_chunks h ≡ [] → open_chunks (Found n stream name bytes ∷ h) ≡ []
none_open n stream name bytes h none =
    filter-append (λ (c : ChunkInfo). not (is_closed (Found n stream name bytes ∷ h) c.number)) (chunks_of h) (recovered_info n (recovered_chunk bytes))
    ∙ ap (λ (l : List ChunkInfo). l ++ filter (λ (c : ChunkInfo). not (is_closed (Found n stream name bytes ∷ h) c.number)) (recovered_info n (recovered_chunk bytes))) (old_shut n stream name bytes h (chunks_of h) none)
    ∙ new_shut n stream name bytes h (recovered_chunk bytes)

-- ---- one file more

tallied : AllSettings → List ℕ → Tally → Tally
tallied s bytes t = record {
  inputs = t.inputs;
  outputs = t.outputs;
  loaded = saturating_plus t.loaded (as_loaded (file_fate s (recovered_chunk bytes)));
  unrouted = saturating_plus t.unrouted (as_unrouted (file_fate s (recovered_chunk bytes)));
  left = saturating_plus t.left (as_left (file_fate s (recovered_chunk bytes)));
  faults = t.faults;
}

tally_found : (s : AllSettings) (n : ℕ) (stream name bytes : List ℕ) (h : History) → tallied s bytes (tally_of s h) ≡ tally_of s (Found n stream name bytes ∷ h)
unfolding tallied
tally_found s n stream name bytes h = refl

pub plain_found : (s : AllSettings) (n : ℕ) (stream name bytes : List ℕ) (g h : History) → IsPlain s g h → IsPlain s (Found n stream [] bytes ∷ g) (Found n stream name bytes ∷ h)
plain_found s n stream name bytes g h same = record {
  chunks = ap (λ (l : List ChunkInfo). l ++ recovered_info n (recovered_chunk bytes)) same.chunks;
  shut = λ k. ap (λ (b : Bool). if n == k then true else b) (same.shut k);
  content = λ k. ap (λ (l : List ℕ). if n == k then recovered_content bytes else l) (same.content k);
  tries = same.tries;
  due = same.due;
  flight = same.flight;
  resolved = λ r. ap (λ (b : Bool). (n == r.chunk && is_marked_done (output_name s r.output) (recovered_chunk bytes)) || b) (same.resolved r);
  grounded = same.grounded;
  on_ground = same.on_ground;
  time = same.time;
  ticks = same.ticks;
  closing = same.closing;
  stopped = same.stopped;
  tally = sym (tally_found s n stream [] bytes g) ∙ ap (tallied s bytes) same.tally ∙ tally_found s n stream name bytes h;
  opens = none_open n stream name bytes h same.opens;
  next = let before = same.next in omega (arith, before);
}

-- ---- what a state represents

row_same : (s : AllSettings) (g h : History) (c : ChunkInfo) → IsPlain s g h → row_of s g c ≡ row_of s h c
row_same s g h c same = λ i. record {
  chunk = record { 0 = c.number };
  input = option_map input_id c.input;
  home = home_of s c.input;
  tag = c.tag;
  size = length (same.content c.number i);
  shut = same.shut c.number i;
  routes = map
      (λ (o : ℕ). record { output = record { 0 = o }; due = same.due (route c.number o) i; tries = same.tries (route c.number o) i; flying = is_some (same.flight (route c.number o) i) })
      (filter (λ (o : ℕ). not (same.resolved (route c.number o) i)) (outputs_for s c.tag));
}

rows_same : (s : AllSettings) (g h : History) → IsPlain s g h → rows_of s g ≡ rows_of s h
rows_same s g h same = λ i. map (λ (c : ChunkInfo). row_same s g h c same i)
    (filter (λ (c : ChunkInfo). not (length (filter (λ (o : ℕ). not (same.resolved (route c.number o) i)) (outputs_for s c.tag)) == 0)) (same.chunks i))

carried_none : (s : AllSettings) (g h : History) (out : Option Route) (link : ℕ) (f : Option FlushAttempt) → LinkHolds s g out link f None → LinkHolds s h out link f None
carried_none s g h out link None is = tt
carried_none s g h out link (Some f) is = absurd is

pub stands_plain : (s : AllSettings) (state : State) (g h : History) → IsPlain s g h → StateRepresents s state g None → StateRepresents s state h None
stands_plain s state g h same stands = record {
  rows = stands.rows ∙ rows_same s g h same;
  top = λ n first rise. stands.top n first (subst (NumbersRise 0 n) (sym same.chunks) rise);
  flights = λ link.
      subst (λ (r : Option Route). LinkHolds s h None link (attempt_over link state.flights) r) (sym (same.on_ground link))
      (carried_none s g h None link (attempt_over link state.flights) (subst (λ (r : Option Route). LinkHolds s g None link (attempt_over link state.flights) r) (same.grounded link) (stands.flights link)));
  time = stands.time ∙ same.time;
  ticks = stands.ticks ∙ same.ticks;
  closing = stands.closing ∙ same.closing;
  stopped = stands.stopped ∙ same.stopped;
  tally = stands.tally ∙ same.tally;
  numbers = subst (NumbersRise 0 (next h)) same.chunks (rise_later 0 (next g) (next h) (chunks_of g) stands.numbers same.next);
  fresh = λ n above.
      let fresh = stands.fresh n (let less = same.next in omega (arith, less, above)) in (
        sym (same.shut n) ∙ fresh.0,
        sym (same.content n) ∙ fresh.1,
        λ output. let untried = fresh.2 output in let r = route n output in (sym (same.tries r) ∙ untried.0, sym (same.due r) ∙ untried.1, sym (same.flight r) ∙ untried.2, sym (same.resolved r) ∙ untried.3),
      );
  open_owed = λ n is. absurd (cc (ap (list_any (λ (c : ChunkInfo). c.number == n)) (sym same.opens) ∙ is));
}
