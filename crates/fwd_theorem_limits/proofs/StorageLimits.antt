-- After a closing, what is kept for an output fits its limit.
use Rattle.std.proofs.Common.{◌≡◌, ◌⊎◌, inl, inr, ℕ, ◌≤◌, nat_lt, not, Bool, true, false, List, [], ◌∷◌, filter, Option, Some, refl, sym, ◌∙◌, ap, subst, arith}
use Rattle.std.specs.Prelude.{Contains, ◌==◌, sum_by}
use Rattle.std.proofs.lemmas.Bool.{eqb-true, and_parts}
use Rattle.fwd_outside.specs.Program.{Return, Execution}
use Rattle.fwd_outside.specs.declared.ends.Ends.{Ends}
use Rattle.fwd_table.specs.Usage.{is_file}
use Rattle.fwd_limits.specs.Evictions.{fixed}
use Rattle.fwd_settings.specs.declared.settings_types.AllSettings.{AllSettings}
use Rattle.fwd_settings.specs.declared.settings_types.OutputSet.{OutputSet}
use Rattle.fwd_model.specs.Fact.{History, ChunkClosed}
use Rattle.fwd_model.specs.Trace.{Action, TraceEntry, history_after}
use Rattle.fwd_model.specs.Settings.{output_at, outputs_for, total_limit_at}
use Rattle.fwd_model.specs.Chunks.{ChunkInfo, chunks_of, open_chunks, is_closed, size}
use Rattle.fwd_model.specs.Routes.{route, is_resolved, home_of, owed, rows_of}
use Rattle.fwd_model.specs.Limits.{evicted_at}
use Rattle.fwd_model.specs.CloseActions.{closes_chunk}
use Rattle.fwd_model.specs.Run.{RunResult, life}
use Rattle.fwd_theorem_trace.specs.Past.{Past, logged, past_after}
use Rattle.fwd_theorem_trace.specs.Allowed.{Allowed}
use Rattle.fwd_theorem_trace.specs.Resolution.{IsEvicted}
use Rattle.fwd_theorem_trace.proofs.Members.{from_filter, off_where_not}
use Rattle.fwd_theorem_trace.proofs.Traversal.{noted_since}
use Rattle.fwd_theorem_trace.proofs.RouteResolution.{resolved_as_ended, owed_as_unresolved}
use Rattle.fwd_theorem_trace.proofs.Run.{due_since}
use Rattle.fwd_theorem_trace.proofs.Invariant.{sound, unresolved}
use Rattle.fwd_theorem_limits.specs.StorageLimits.{is_kept_for, kept_bytes, HasNoRoom}
use Rattle.fwd_theorem_limits.proofs.Sums.{sum_le}
use Rattle.fwd_theorem_limits.proofs.Losses.{still_resolved, Evicts, closing_evicts}
use Rattle.fwd_theorem_limits.proofs.ClosingRoom.{member_of_any, is_lost, Counts, fits, no_room, own_is_lost, lost_evicted, limit_is}

module _ (s : AllSettings) (past : Past) (due : Allowed s past) (c : ChunkInfo) (open_now : Contains (open_chunks (logged past)) c) (output limit : ℕ)
    (file : is_file (home_of s c.input) ≡ true) (matches : Contains (outputs_for s c.tag) output) (limited : total_limit_at s output ≡ Some limit) (new : History)
    (trimmed : Evicts s (evicted_at s (ChunkClosed c.number ∷ logged past) c.number) (ChunkClosed c.number ∷ logged past) new) where
  abbrev h : History
  h = logged past

  abbrev shut : History
  shut = ChunkClosed c.number ∷ h

  among : Contains (chunks_of h) c
  among = (from_filter (λ (d : ChunkInfo). not (is_closed h d.number)) (chunks_of h) c open_now).0

  is_open : is_closed h c.number ≡ false
  is_open = off_where_not (is_closed h c.number) (from_filter (λ (d : ChunkInfo). not (is_closed h d.number)) (chunks_of h) c open_now).1

  is_pending : Contains (owed s shut c) output
  is_pending = (owed_as_unresolved s shut c output).1 (matches, unresolved s past (route c.number output) due is_open)

  not_lost : (d : ChunkInfo) → is_resolved s new (route d.number output) ≡ false → (b : Bool) → is_lost s h (sound s past due).rising c among output limit d.number ≡ b → b ≡ false
  not_lost d off true is =
      let gone = trimmed.1 (route d.number output) (lost_evicted s h (sound s past due).rising c among output limit file is_pending limited d.number is) in
      absurd (cc (sym off ∙ (resolved_as_ended s new (route d.number output)).1 (IsEvicted gone)))
  not_lost d off false is = refl

  was : (d : ChunkInfo) (b : Bool) → is_resolved s shut (route d.number output) ≡ b → is_resolved s new (route d.number output) ≡ false → b ≡ false
  was d true on_it off = absurd (cc (sym off ∙ still_resolved s shut new (route d.number output) trimmed.0 on_it))
  was d false off_it off = refl

  kept_counts : Counts s h (sound s past due).rising c among output limit (is_kept_for s new output)
  kept_counts d is =
      let parts = and_parts (is_file (home_of s d.input)) _ is in
      let more = and_parts (is_closed new d.number) _ parts.1 in
      let one = member_of_any (λ (other : ℕ). other == output) (owed s new d) more.1 in
      let pending = (owed_as_unresolved s new d output).0 (subst (Contains (owed s new d)) (eqb-true one.0 output one.2) one.1) in
      let before = (owed_as_unresolved s shut d output).1 (pending.0, was d (is_resolved s shut (route d.number output)) refl pending.1) in
      (parts.0, (sym (trimmed.0.closed d.number) ∙ more.0, (before, not_lost d pending.1 (is_lost s h (sound s past due).rising c among output limit d.number) refl)))

  kept_now : kept_bytes s new output ≤ sum_by (λ (d : ChunkInfo). size h d.number) (filter (is_kept_for s new output) (chunks_of h))
  kept_now =
      let fewer = sum_le (λ (d : ChunkInfo). size new d.number) (λ (d : ChunkInfo). size h d.number) (is_kept_for s new output) (is_kept_for s new output) (chunks_of h) (λ d has is. (is, trimmed.0.sizes d.number)) in
      let same : kept_bytes s new output ≡ sum_by (λ (d : ChunkInfo). size new d.number) (filter (is_kept_for s new output) (chunks_of h)) =
      ap (λ (cs : List ChunkInfo). sum_by (λ (d : ChunkInfo). size new d.number) (filter (is_kept_for s new output) cs)) trimmed.0.chunks in
      omega (arith, fewer, same)

  pub keeps_limit : (kept_bytes s new output ≤ limit) ⊎ HasNoRoom s h new c output limit
  keeps_limit = by (nat_lt limit (fixed (record { 0 = output }) (record { 0 = c.number }) (rows_of s shut))) refl
    where
      by : (b : Bool) → nat_lt limit (fixed (record { 0 = output }) (record { 0 = c.number }) (rows_of s shut)) ≡ b → (kept_bytes s new output ≤ limit) ⊎ HasNoRoom s h new c output limit
      by true is =
          inr (record {
            full = no_room s h (sound s past due).rising c among output limit is;
            evicted = trimmed.1 (route c.number output)
                (lost_evicted s h (sound s past due).rising c among output limit file is_pending limited c.number (own_is_lost s h (sound s past due).rising c among output limit is));
          })
      by false is =
          let kept = kept_now in
          let less = fits s h (sound s past due).rising c among output limit (is_kept_for s new output) kept_counts is in
          inl (omega (arith, kept, less))

pub closing_keeps_limit : (s : AllSettings) (ends : Ends) (ticks : Option ℕ) (turns : ℕ) (before : List TraceEntry) (left : Action RunResult) (c : ChunkInfo) (es : List TraceEntry) (new : History) (output : ℕ) (set : OutputSet) (limit : ℕ)
    → Execution (life s ends ticks turns) before left → Contains (open_chunks (history_after before [])) c → is_file (home_of s c.input) ≡ true
    → Contains (outputs_for s c.tag) output → output_at s output ≡ Some set → set.total_limit ≡ Some limit → Execution (closes_chunk s c.number (history_after before [])) es (Return new)
    → (kept_bytes s new output ≤ limit) ⊎ HasNoRoom s (history_after before []) new c output limit
closing_keeps_limit s ends ticks turns before left c es new output set limit life_way is_open file matches at limited way =
    by (history_after before []) (noted_since [] before) is_open way
  where
    by : (h : History) → logged (past_after [] before) ≡ h → Contains (open_chunks h) c → Execution (closes_chunk s c.number h) es (Return new) → (kept_bytes s new output ≤ limit) ⊎ HasNoRoom s h new c output limit
    by h same is_open way =
        let here_open = subst (λ (x : History). Contains (open_chunks x) c) (sym same) is_open in
        let here_way = subst (λ (x : History). Execution (closes_chunk s c.number x) es (Return new)) (sym same) way in
        subst (λ (x : History). (kept_bytes s new output ≤ limit) ⊎ HasNoRoom s x new c output limit) same
        (keeps_limit s (past_after [] before) (due_since s ends ticks turns before left life_way) c here_open output limit file matches (limit_is s output limit set at limited) new
        (closing_evicts s c.number (logged (past_after [] before)) new es here_way))
