-- When a run is over, in terms of its facts.
use Rattle.std.proofs.Common.{◌≡◌, ◌⊎◌, inl, inr, ℕ, ◌+◌, ◌*◌, ◌||◌, ◌&&◌, not, Bool, true, false, List, [], ◌∷◌, ◌++◌, map, filter, length, Option, Some, None, refl, sym, ◌∙◌, ap, subst, arith}
use Rattle.std.specs.Prelude.{Contains, ◌==◌}
use Rattle.std.proofs.lemmas.Bool.{and_parts, leb-true, le-leb}
use Rattle.fwd_outside.specs.declared.happening.Happening.{Happening}
use Rattle.fwd_outside.specs.declared.happening.Happening.TheVariants as happening
use Rattle.fwd_settings.specs.declared.settings_types.AllSettings.{AllSettings}
use Rattle.fwd_model.specs.Fact.{Fact, History, Happened}
use Rattle.fwd_model.specs.Clock.{clock, stopped, stopped_by}
use Rattle.fwd_model.specs.Chunks.{ChunkInfo, chunks_of}
use Rattle.fwd_model.specs.Routes.{route, is_resolved, owed, is_owed, row_of, rows_of}
use Rattle.fwd_model.specs.Notes.{is_empty}
use Rattle.fwd_model.specs.Run.{is_tick, is_end, is_grace_over, is_over, is_over_after}
use Rattle.fwd_theorem_trace.proofs.Members.{here, from_filter, in_filter}
use Rattle.fwd_theorem_trace.proofs.RouteResolution.{resolved_as_ended, owed_as_unresolved}
use Rattle.fwd_theorem_limits.proofs.Counts.{some_members}
use Rattle.fwd_theorem_limits.specs.RunEnd.{latest_event, is_stop, has_stop, FirstStop, NothingIsPending, IsDueToEnd, AtEnd, IsDone, IsOutOfTime}

-- ---- stops

module _ (s : AllSettings) where
  pub stop_by : (x : Happening) (h : History) → stopped s (Happened x ∷ h) ≡ stopped_by (is_stop s x) (clock h) (stopped s h)
  stop_by happening.Stop h = refl
  stop_by (happening.InputEnd input) h = refl
  stop_by x h = refl

  has_by : (x : Happening) (h : History) (on_it : Bool) → is_stop s x ≡ on_it → has_stop s h ≡ false → has_stop s (Happened x ∷ h) ≡ on_it
  has_by x h true is none = rw is refl
  has_by x h false is none = rw is none

  none_event : (b : Bool) (now : ℕ) (before : Option ℕ) → stopped_by b now before ≡ None → (b ≡ false) × (before ≡ None)
  none_event true now None is = absurd (cc is)
  none_event true now (Some at) is = absurd (cc is)
  none_event false now before is = (refl, is)

  pub no_stop : (h : History) → stopped s h ≡ None → has_stop s h ≡ false
  no_stop [] none = refl
  no_stop (Happened x ∷ h) none =
      let parts = none_event (is_stop s x) (clock h) (stopped s h) (sym (stop_by x h) ∙ none) in
      has_by x h false parts.0 (no_stop h parts.1)
  no_stop (fact ∷ h) none = no_stop h none

  one_more : (fact : Fact) (h : History) (at : ℕ) → ((stop : FirstStop s h) × (clock stop.before ≡ at)) → (stop : FirstStop s (fact ∷ h)) × (clock stop.before ≡ at)
  one_more fact h at (stop, same) =
      (record { later = fact ∷ stop.later; brought = stop.brought; before = stop.before; is = ap (λ (x : History). fact ∷ x) stop.is; stops = stop.stops; first = stop.first }, same)

  pub first_stop : (h : History) (at : ℕ) → stopped s h ≡ Some at → (stop : FirstStop s h) × (clock stop.before ≡ at)
  first_stop [] at is = absurd (cc is)
  first_stop (Happened x ∷ h) at is = by (is_stop s x) refl (stopped s h) refl (first_stop h)
    where
      by : (b : Bool) → is_stop s x ≡ b → (before : Option ℕ) → stopped s h ≡ before → ((k : ℕ) → stopped s h ≡ Some k → (stop : FirstStop s h) × (clock stop.before ≡ k))
          → (stop : FirstStop s (Happened x ∷ h)) × (clock stop.before ≡ at)
      by b on_it (Some k) was more =
          let same : k ≡ at = cc (sym (kept b k) ∙ (sym (ap (λ (o : Option ℕ). stopped_by b (clock h) o) was) ∙ (sym (ap (λ (c : Bool). stopped_by c (clock h) (stopped s h)) on_it) ∙ (sym (stop_by x h) ∙ is)))) in
          one_more (Happened x) h at (more at (was ∙ ap (λ (n : ℕ). Some n) same))
        where
          kept : (b : Bool) (k : ℕ) → stopped_by b (clock h) (Some k) ≡ Some k
          kept true k = refl
          kept false k = refl
      by true on_it None was more =
          let same : clock h ≡ at = cc (sym (ap (λ (o : Option ℕ). stopped_by true (clock h) o) was) ∙ (sym (ap (λ (c : Bool). stopped_by c (clock h) (stopped s h)) on_it) ∙ (sym (stop_by x h) ∙ is))) in
          (record { later = []; brought = x; before = h; is = refl; stops = on_it; first = no_stop h was }, same)
      by false on_it None was more =
          absurd (cc (sym (ap (λ (o : Option ℕ). stopped_by false (clock h) o) was) ∙ (sym (ap (λ (c : Bool). stopped_by c (clock h) (stopped s h)) on_it) ∙ (sym (stop_by x h) ∙ is))))
  first_stop (fact ∷ h) at is = one_more fact h at (first_stop h at is)

  or_none : (a b : Bool) → a || b ≡ false → (a ≡ false) × (b ≡ false)
  or_none true b is = absurd (cc is)
  or_none false b is = (refl, is)

  none_before : (h : History) → has_stop s h ≡ false → stopped s h ≡ None
  none_before [] none = refl
  none_before (Happened x ∷ h) none =
      let parts = or_none (is_stop s x) (has_stop s h) none in
      stop_by x h ∙ (ap (λ (b : Bool). stopped_by b (clock h) (stopped s h)) parts.0 ∙ none_before h parts.1)
  none_before (fact ∷ h) none = none_before h none

  stays_at : (fact : Fact) (h : History) (at : ℕ) → stopped s h ≡ Some at → stopped s (fact ∷ h) ≡ Some at
  stays_at (Happened x) h at is = stop_by x h ∙ (ap (λ (o : Option ℕ). stopped_by (is_stop s x) (clock h) o) is ∙ kept (is_stop s x))
    where
      kept : (b : Bool) → stopped_by b (clock h) (Some at) ≡ Some at
      kept true = refl
      kept false = refl
  stays_at fact h at is = is

  since : (later h : History) (at : ℕ) → stopped s h ≡ Some at → stopped s (later ++ h) ≡ Some at
  since [] h at is = is
  since (fact ∷ later) h at is = stays_at fact (later ++ h) at (since later h at is)

  pub stopped_since : (h : History) (stop : FirstStop s h) → stopped s h ≡ Some (clock stop.before)
  stopped_since h stop =
      let now : stopped s (Happened stop.brought ∷ stop.before) ≡ Some (clock stop.before) =
      stop_by stop.brought stop.before
      ∙ (ap (λ (b : Bool). stopped_by b (clock stop.before) (stopped s stop.before)) stop.stops ∙ ap (λ (o : Option ℕ). stopped_by true (clock stop.before) o) (none_before stop.before stop.first)) in
      ap (stopped s) stop.is ∙ since stop.later (Happened stop.brought ∷ stop.before) (clock stop.before) now

  -- ---- pending chunks

  no_rows : (h : History) (cs : List ChunkInfo) → is_empty (map (row_of s h) (filter (is_owed s h) cs)) ≡ true → (c : ChunkInfo) → Contains cs c → is_owed s h c ≡ false
  no_rows h cs none c has = by (is_owed s h c) refl
    where
      not_one : (kept : List ChunkInfo) → is_empty (map (row_of s h) kept) ≡ true → Contains kept c → ⊥
      not_one [] empty in' = absurd (omega (arith, in'.1))
      not_one (d ∷ ds) empty in' = absurd (cc empty)

      by : (b : Bool) → is_owed s h c ≡ b → is_owed s h c ≡ false
      by true is = absurd (not_one (filter (is_owed s h) cs) none (in_filter (is_owed s h) cs c has is))
      by false is = is

  some_owed : (outputs : List ℕ) (output : ℕ) → Contains outputs output → not (length outputs == 0) ≡ false → ⊥
  some_owed outputs output has none = absurd (cc (sym (some_members outputs output has) ∙ none))

  none_pending : (h : History) → is_empty (rows_of s h) ≡ true → NothingIsPending s h
  none_pending h none c output has matches = (resolved_as_ended s h (route c.number output)).0 (by (is_resolved s h (route c.number output)) refl)
    where
      by : (b : Bool) → is_resolved s h (route c.number output) ≡ b → b ≡ true
      by true is = refl
      by false is = absurd (some_owed (owed s h c) output ((owed_as_unresolved s h c output).1 (matches, is)) (no_rows h (chunks_of h) none c has))

  all_resolved : (h : History) → NothingIsPending s h → is_empty (rows_of s h) ≡ true
  all_resolved h none = by (filter (is_owed s h) (chunks_of h)) refl
    where
      first_owed : (c : ChunkInfo) (outputs : List ℕ) → owed s h c ≡ outputs → is_owed s h c ≡ true → Contains (chunks_of h) c → ⊥
      first_owed c [] is some has = absurd (cc (sym some ∙ ap (λ (os : List ℕ). not (length os == 0)) is))
      first_owed c (o ∷ os) is some has =
          let pending = (owed_as_unresolved s h c o).0 (subst (λ (x : List ℕ). Contains x o) (sym is) (here o os)) in
          absurd (cc (sym pending.1 ∙ (resolved_as_ended s h (route c.number o)).1 (none c o has pending.0)))

      by : (cs : List ChunkInfo) → filter (is_owed s h) (chunks_of h) ≡ cs → is_empty (map (row_of s h) cs) ≡ true
      by [] is = refl
      by (c ∷ cs) is =
          let found = from_filter (is_owed s h) (chunks_of h) c (subst (λ (x : List ChunkInfo). Contains x c) (sym is) (here c cs)) in
          absurd (first_owed c (owed s h c) refl found.1 found.0)

  -- ---- the end

  tick_of : (x : Happening) → is_tick x ≡ true → (now : ℕ) × (x ≡ happening.Tick now)
  tick_of (happening.Tick now) is = (now, refl)
  tick_of x is = absurd (cc is)

  end_of : (x : Happening) → is_end x ≡ true → x ≡ happening.End
  end_of happening.End is = refl
  end_of x is = absurd (cc is)

  either_is : (a b : Bool) → a || b ≡ true → (a ≡ true) ⊎ (b ≡ true)
  either_is true b is = inl refl
  either_is false b is = inr is

  at_end : (x : Happening) (h : History) → latest_event h ≡ Some x → is_end x ≡ true → IsDueToEnd s h
  at_end x h last is = AtEnd (last ∙ ap (λ (y : Happening). Some y) (end_of x is))

  pub due_where_over : (x : Happening) (h : History) → latest_event h ≡ Some x → is_over s x h ≡ true → IsDueToEnd s h
  unfolding is_over
  due_where_over x h last over = by (stopped s h) refl over
    where
      by : (at : Option ℕ) → stopped s h ≡ at → is_over_after s x at h ≡ true → IsDueToEnd s h
      by None none is = at_end x h last is
      by (Some at) was is = either (either_is (is_end x) (is_empty (rows_of s h) || (is_tick x && is_grace_over s at h)) is)
        where
          stop : (first : FirstStop s h) × (clock first.before ≡ at)
          stop = first_stop h at was

          late : (is_tick x && is_grace_over s at h ≡ true) → IsDueToEnd s h
          late on_it =
              let parts = and_parts (is_tick x) (is_grace_over s at h) on_it in
              let tick = tick_of x parts.0 in
              let over = leb-true (at + 1000 * s.service.grace_s) (clock h) parts.1 in
              IsOutOfTime stop.0 tick.0 (last ∙ ap (λ (y : Happening). Some y) tick.1) (omega (arith, over, stop.1))

          rest : (is_empty (rows_of s h) ≡ true) ⊎ (is_tick x && is_grace_over s at h ≡ true) → IsDueToEnd s h
          rest (inl none) = IsDone stop.0 (none_pending h none)
          rest (inr on_it) = late on_it

          either : (is_end x ≡ true) ⊎ (is_empty (rows_of s h) || (is_tick x && is_grace_over s at h) ≡ true) → IsDueToEnd s h
          either (inl on_it) = at_end x h last on_it
          either (inr on_it) = rest (either_is (is_empty (rows_of s h)) (is_tick x && is_grace_over s at h) on_it)

  or_right : (a b : Bool) → b ≡ true → a || b ≡ true
  or_right true b is = refl
  or_right false b is = is

  or_left : (a b : Bool) → a ≡ true → a || b ≡ true
  or_left true b is = refl
  or_left false b is = absurd (cc is)

  over_at_end : (x : Happening) (at : Option ℕ) (h : History) → x ≡ happening.End → is_over_after s x at h ≡ true
  over_at_end x None h is = ap is_end is
  over_at_end x (Some at) h is = or_left (is_end x) (is_empty (rows_of s h) || (is_tick x && is_grace_over s at h)) (ap is_end is)

  pub over_where_due : (x : Happening) (h : History) → latest_event h ≡ Some x → IsDueToEnd s h → is_over s x h ≡ true
  unfolding is_over
  over_where_due x h last (AtEnd is) = let same : x ≡ happening.End = cc (sym last ∙ is) in over_at_end x (stopped s h) h same
  over_where_due x h last (IsDone stop none) =
      subst (λ (at : Option ℕ). is_over_after s x at h ≡ true) (sym (stopped_since h stop))
      (or_right (is_end x) (is_empty (rows_of s h) || (is_tick x && is_grace_over s (clock stop.before) h))
      (or_left (is_empty (rows_of s h)) (is_tick x && is_grace_over s (clock stop.before) h) (all_resolved h none)))
  over_where_due x h last (IsOutOfTime stop now is late) =
      let same : x ≡ happening.Tick now = cc (sym last ∙ is) in
      let over : is_grace_over s (clock stop.before) h ≡ true = le-leb (clock stop.before + 1000 * s.service.grace_s) (clock h) late in
      subst (λ (at : Option ℕ). is_over_after s x at h ≡ true) (sym (stopped_since h stop))
      (or_right (is_end x) (is_empty (rows_of s h) || (is_tick x && is_grace_over s (clock stop.before) h))
      (or_right (is_empty (rows_of s h)) (is_tick x && is_grace_over s (clock stop.before) h) (rw (ap is_tick same) over)))

  -- without an event a run isn't due to end
  no_event : (h : History) → latest_event h ≡ None → has_stop s h ≡ false
  no_event [] none = refl
  no_event (Happened x ∷ h) none = absurd (cc none)
  no_event (fact ∷ h) none = no_event h none

  pub not_due_at_first : (h : History) → latest_event h ≡ None → IsDueToEnd s h → ⊥
  not_due_at_first h none (AtEnd is) = absurd (cc (sym none ∙ is))
  not_due_at_first h none (IsDone stop is) = absurd (cc (sym (none_before h (no_event h none)) ∙ stopped_since h stop))
  not_due_at_first h none (IsOutOfTime stop now is late) = absurd (cc (sym none ∙ is))
