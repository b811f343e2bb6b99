-- A turn puts the settled offset of each followed file with a database.
use Rattle.std.proofs.Common.{◌≡◌, ◌⊎◌, inl, inr, ℕ, ◌&&◌, Bool, true, false, cond, List, [], ◌∷◌, ◌++◌, Option, Some, None, refl, sym, ◌∙◌, ap, subst, arith}
use Rattle.std.specs.Prelude.{Contains, ◌==◌}
use Rattle.std.proofs.lemmas.Bool.{and_parts, eq-eqb, eqb-true}
use Rattle.fwd_base.specs.Limits.{longest_wait}
use Rattle.fwd_outside.specs.Program.{entry, Return, Execution}
use Rattle.fwd_outside.specs.Loop.{Wait}
use Rattle.fwd_outside.specs.declared.happening.Happening.{Happening}
use Rattle.fwd_outside.specs.declared.happening.Happening.TheVariants as happening
use Rattle.fwd_keeper.specs.Keeper.{Put}
use Rattle.fwd_settings.specs.declared.settings_types.AllSettings.{AllSettings}
use Rattle.fwd_model.specs.Fact.{History, Saved}
use Rattle.fwd_model.specs.Trace.{Action, TraceEntry, OnLoop, OnKeeper, Note, history_after}
use Rattle.fwd_model.specs.Settings.{saturating_plus}
use Rattle.fwd_model.specs.Clock.{clock}
use Rattle.fwd_model.specs.FollowedFiles.{settled}
use Rattle.fwd_model.specs.KeptOffsets.{Tracked, tracked, kept_by, kept_at, to_put, after_put, puts_by, puts}
use Rattle.fwd_model.specs.Limits.{paused}
use Rattle.fwd_model.specs.StepActions.{step}
use Rattle.fwd_model.specs.Run.{RunResult, LoopFailed, lived, goes_on, unless_last, after_step, brought, run}
use Rattle.fwd_theorem_trace.proofs.Members.{here, deeper, either}
use Rattle.fwd_theorem_trace.proofs.Turns.{way_parts}
use Rattle.fwd_theorem_steps.specs.PutOffsets.{IsPut, PutsOffsets}

module _ (s : AllSettings) (next : History → Action RunResult) (y : RunResult) where
  -- an offset that is settled and kept stays kept
  abbrev Stays : History → List TraceEntry → Type 0
  Stays h put = (input index place : ℕ) → settled s h input index ≡ Some place → kept_at h input index ≡ Some place → kept_at (history_after put h) input index ≡ Some place

  record AllPut (ts : List Tracked) (h : History) (es : List TraceEntry) : Type 0 where
    put : List TraceEntry
    rest : List TraceEntry
    is : es ≡ put ++ rest
    each : (t : Tracked) → Contains ts t → IsPut s t h put
    stays : Stays h put

  -- what is settled and isn't put is kept
  kept_now : (place : ℕ) (kept : Option ℕ) → to_put (Some place) kept ≡ None → kept ≡ Some place
  kept_now place None is = absurd (cc is)
  kept_now place (Some other) is = by (place == other) refl is
    where
      by : (b : Bool) → (place == other) ≡ b → cond b None (Some place) ≡ None → Some other ≡ Some place
      by true same is = ap (λ (n : ℕ). Some n) (sym (eqb-true place other same))
      by false same is = absurd (cc is)

  -- what is put is settled
  put_settled : (settled_at kept : Option ℕ) (place : ℕ) → to_put settled_at kept ≡ Some place → settled_at ≡ Some place
  put_settled None kept place is = absurd (cc is)
  put_settled (Some other) None place is = is
  put_settled (Some other) (Some kept) place is = by (other == kept) is
    where
      by : (b : Bool) → cond b None (Some other) ≡ Some place → Some other ≡ Some place
      by true is = absurd (cc is)
      by false is = is

  one_place : (h : History) (input index a b : ℕ) → settled s h input index ≡ Some a → settled s h input index ≡ Some b → a ≡ b
  one_place h input index a b one two = let same : Some a ≡ Some b = sym one ∙ two in cc same

  module _ (t : Tracked) (ts : List Tracked) (h : History) where
    -- it isn't put
    passed : to_put (settled s h t.input t.index) (kept_at h t.input t.index) ≡ None → (es : List TraceEntry) → AllPut ts h es → AllPut (t ∷ ts) h es
    passed none es all = record { put = all.put; rest = all.rest; is = all.is; each = λ one has. by one (either t ts one has); stays = all.stays }
      where
        own : (place : ℕ) → settled s h t.input t.index ≡ Some place → kept_at (history_after all.put h) t.input t.index ≡ Some place
        own place at =
            let kept = kept_now place (kept_at h t.input t.index) (subst (λ (o : Option ℕ). to_put o (kept_at h t.input t.index) ≡ None) at none) in
            all.stays t.input t.index place at kept

        by : (one : Tracked) → (t ≡ one) ⊎ Contains ts one → IsPut s one h all.put
        by one (inl same) = subst (λ (x : Tracked). IsPut s x h all.put) same (λ place at. inl (own place at))
        by one (inr there) = all.each one there

    module _ (place : ℕ) (at : settled s h t.input t.index ≡ Some place) where
      -- the put failed
      failed : (es : List TraceEntry) → AllPut ts h es → AllPut (t ∷ ts) h (entry (OnKeeper (Put t.db t.path place)) None ∷ es)
      failed es all = record {
        put = call ∷ all.put;
        rest = all.rest;
        is = ap (λ (l : List TraceEntry). call ∷ l) all.is;
        each = λ one has. by one (either t ts one has);
        stays = all.stays;
      }
        where
          call : TraceEntry
          call = entry (OnKeeper (Put t.db t.path place)) None

          same_call : (other : ℕ) → settled s h t.input t.index ≡ Some other → Contains (call ∷ all.put) (entry (OnKeeper (Put t.db t.path other)) None)
          same_call other is = subst (λ (n : ℕ). Contains (call ∷ all.put) (entry (OnKeeper (Put t.db t.path n)) None)) (one_place h t.input t.index place other at is) (here call all.put)

          later : (one : Tracked) → IsPut s one h all.put → IsPut s one h (call ∷ all.put)
          later one put other is = still (put other is)
            where
              still : (kept_at (history_after all.put h) one.input one.index ≡ Some other) ⊎ Contains all.put (entry (OnKeeper (Put one.db one.path other)) None)
                  → (kept_at (history_after all.put h) one.input one.index ≡ Some other) ⊎ Contains (call ∷ all.put) (entry (OnKeeper (Put one.db one.path other)) None)
              still (inl kept) = inl kept
              still (inr has) = inr (deeper call all.put (entry (OnKeeper (Put one.db one.path other)) None) has)

          by : (one : Tracked) → (t ≡ one) ⊎ Contains ts one → IsPut s one h (call ∷ all.put)
          by one (inl same) = subst (λ (x : Tracked). IsPut s x h (call ∷ all.put)) same (λ other is. inr (same_call other is))
          by one (inr there) = later one (all.each one there)

      -- the offset that was put is kept
      kept_own : kept_at (Saved t.input t.index place ∷ h) t.input t.index ≡ Some place
      kept_own = ap (λ (b : Bool). kept_by b place (kept_at h t.input t.index)) (both (t.input == t.input) (t.index == t.index) (eq-eqb t.input t.input refl) (eq-eqb t.index t.index refl))
        where
          both : (a b : Bool) → a ≡ true → b ≡ true → (a && b) ≡ true
          both true b one two = two
          both false b one two = absurd (cc one)

      -- and what was kept still is
      kept_others : (input index other : ℕ) → settled s h input index ≡ Some other → kept_at h input index ≡ Some other → kept_at (Saved t.input t.index place ∷ h) input index ≡ Some other
      kept_others input index other settles kept = by (t.input == input && t.index == index) refl
        where
          by : (b : Bool) → (t.input == input && t.index == index) ≡ b → kept_by b place (kept_at h input index) ≡ Some other
          by false is = kept
          by true is =
              let parts = and_parts (t.input == input) (t.index == index) is in
              let one = eqb-true t.input input parts.0 in
              let two = eqb-true t.index index parts.1 in
              let here_too : settled s h input index ≡ Some place = subst (λ (k : ℕ). settled s h input k ≡ Some place) two (subst (λ (i : ℕ). settled s h i t.index ≡ Some place) one at) in
              ap (λ (n : ℕ). Some n) (one_place h input index place other here_too settles)

      -- it was put
      done : (es : List TraceEntry) → AllPut ts (Saved t.input t.index place ∷ h) es
          → AllPut (t ∷ ts) h (entry (OnKeeper (Put t.db t.path place)) (Some tt) ∷ entry (Note (Saved t.input t.index place)) tt ∷ es)
      done es all = record {
        put = call ∷ fact ∷ all.put;
        rest = all.rest;
        is = ap (λ (l : List TraceEntry). call ∷ fact ∷ l) all.is;
        each = λ one has. by one (either t ts one has);
        stays = λ input index other settles kept. all.stays input index other settles (kept_others input index other settles kept);
      }
        where
          call : TraceEntry
          call = entry (OnKeeper (Put t.db t.path place)) (Some tt)

          fact : TraceEntry
          fact = entry (Note (Saved t.input t.index place)) tt

          own : (other : ℕ) → settled s h t.input t.index ≡ Some other → kept_at (history_after all.put (Saved t.input t.index place ∷ h)) t.input t.index ≡ Some other
          own other is =
              let same = one_place h t.input t.index place other at is in
              subst (λ (n : ℕ). kept_at (history_after all.put (Saved t.input t.index place ∷ h)) t.input t.index ≡ Some n) same (all.stays t.input t.index place at kept_own)

          later : (one : Tracked) → IsPut s one (Saved t.input t.index place ∷ h) all.put → IsPut s one h (call ∷ fact ∷ all.put)
          later one put other is = still (put other is)
            where
              still : (kept_at (history_after all.put (Saved t.input t.index place ∷ h)) one.input one.index ≡ Some other) ⊎ Contains all.put (entry (OnKeeper (Put one.db one.path other)) None)
                  → (kept_at (history_after all.put (Saved t.input t.index place ∷ h)) one.input one.index ≡ Some other) ⊎ Contains (call ∷ fact ∷ all.put) (entry (OnKeeper (Put one.db one.path other)) None)
              still (inl kept) = inl kept
              still (inr has) =
                  let failing : TraceEntry = entry (OnKeeper (Put one.db one.path other)) None in
                  inr (deeper call (fact ∷ all.put) failing (deeper fact all.put failing has))

          by : (one : Tracked) → (t ≡ one) ⊎ Contains ts one → IsPut s one h (call ∷ fact ∷ all.put)
          by one (inl same) = subst (λ (x : Tracked). IsPut s x h (call ∷ fact ∷ all.put)) same (λ other is. inl (own other is))
          by one (inr there) = later one (all.each one there)

  abbrev PutsEach : List Tracked → Type 0
  PutsEach ts = (h : History) (es : List TraceEntry) → Execution (puts s ts next h) es (Return y) → AllPut ts h es

  put_each : (ts : List Tracked) (h : History) (es : List TraceEntry) → Execution (puts s ts next h) es (Return y) → AllPut ts h es
  put_each [] h es way = record { put = []; rest = es; is = refl; each = λ t has. absurd (omega (arith, has.1)); stays = λ input index place settles kept. kept }
  put_each (t ∷ ts) h es way = by (put_each ts) (to_put (settled s h t.input t.index) (kept_at h t.input t.index)) refl es way
    where
      answered : PutsEach ts → (place : ℕ) → settled s h t.input t.index ≡ Some place → (answer : Option (Unit {0})) (more : List TraceEntry) → Execution (after_put t place (puts s ts next) h answer) more (Return y)
          → AllPut (t ∷ ts) h (entry (OnKeeper (Put t.db t.path place)) answer ∷ more)
      answered others place at None more way = failed t ts h place at more (others h more way)
      answered others place at (Some done_it) [] way = absurd (cc way)
      answered others place at (Some done_it) (e ∷ more) way =
          subst (λ (x : TraceEntry). AllPut (t ∷ ts) h (entry (OnKeeper (Put t.db t.path place)) (Some done_it) ∷ x ∷ more)) (sym way.1)
          (done t ts h place at more (others (Saved t.input t.index place ∷ h) more way.2))

      by : PutsEach ts → (o : Option ℕ) → to_put (settled s h t.input t.index) (kept_at h t.input t.index) ≡ o → (es : List TraceEntry) → Execution (puts_by t o (puts s ts next) h) es (Return y) → AllPut (t ∷ ts) h es
      by others None is es way = passed t ts h is es (others h es way)
      by others (Some place) is [] way = absurd (cc way)
      by others (Some place) is (e ∷ es) way =
          let at = put_settled (settled s h t.input t.index) (kept_at h t.input t.index) place is in
          subst (λ (x : TraceEntry). AllPut (t ∷ ts) h (x ∷ es)) (sym way.1) (answered others place at way.0 es way.2)

module _ (s : AllSettings) (ticks : Option ℕ) (h : History) (comes : RunResult) where
  loop_failed : (es : List TraceEntry) → Execution (Return (lived h LoopFailed)) es (Return comes) → comes.end ≡ LoopFailed
  loop_failed [] way = let same : lived h LoopFailed ≡ comes = cc way in ap (λ (r : RunResult). r.end) (sym same)
  loop_failed (e ∷ es) way = absurd way

  after_event : (x : Happening) (es : List TraceEntry) → Execution (brought s ticks (run s ticks 0) h x) es (Return comes) → (comes.end ≡ LoopFailed → ⊥)
      → PutsOffsets s h (entry (OnLoop (Wait (saturating_plus (clock h) longest_wait) (paused s h))) x ∷ es)
  after_event happening.Failed es way stands = absurd (stands (loop_failed es way))
  after_event x es way stands =
      let then : History → Action RunResult = goes_on s (unless_last s ticks (run s ticks 0) x) x in
      let parts = way_parts (step s x h) (after_step s ticks (run s ticks 0) x) es comes way in
      let all = put_each s then comes (tracked s) parts.0 parts.2 parts.5 in
      let wait : TraceEntry = entry (OnLoop (Wait (saturating_plus (clock h) longest_wait) (paused s h))) x in
      record {
        until = saturating_plus (clock h) longest_wait;
        paused = paused s h;
        brought = x;
        steps = parts.1;
        after = parts.0;
        put = all.put;
        rest = all.rest;
        is = ap (λ (l : List TraceEntry). wait ∷ l) (parts.3 ∙ ap (λ (l : List TraceEntry). parts.1 ++ l) all.is);
        step = parts.4;
        kept = all.each;
      }

  turn : (es : List TraceEntry) → Execution (run s ticks 1 h) es (Return comes) → (comes.end ≡ LoopFailed → ⊥) → PutsOffsets s h es
  unfolding run
  turn [] way stands = absurd (cc way)
  turn (e ∷ es) way stands = subst (λ (x : TraceEntry). PutsOffsets s h (x ∷ es)) (sym way.1) (after_event way.0 es way.2 stands)

pub turn_puts : (s : AllSettings) (ticks : Option ℕ) (h : History) (comes : RunResult) (es : List TraceEntry) → Execution (run s ticks 1 h) es (Return comes) → (comes.end ≡ LoopFailed → ⊥) → PutsOffsets s h es
turn_puts s ticks h comes es way stands = turn s ticks h comes es way stands
