-- The paused inputs are those that are held back, and a wait names them.
use Rattle.std.proofs.Common.{◌≡◌, ◌⊎◌, inl, inr, ⊎_elim, ◌↔◌, ℕ, ◌+◌, ◌&&◌, ◌||◌, not, Bool, true, false, cond, List, [], ◌∷◌, ◌++◌, map, filter, length, Option, Some, None, refl, sym, ◌∙◌, ap, subst, arith}
use Rattle.std.specs.Prelude.{Contains, ◌==◌, sum_by, is_some, option_map, IsBitSet}
use Rattle.std.specs.Option.{option_and_then}
use Rattle.std.proofs.lemmas.Bool.{eqb-true, leb-true, le-leb}
use Rattle.std.proofs.lemmas.List.Sums.{sum_by-cons}
use Rattle.std.proofs.lemmas.List.{length-map}
use Rattle.fwd_outside.specs.Program.{entry, Execution}
use Rattle.fwd_outside.specs.Loop.{Wait}
use Rattle.fwd_outside.specs.declared.ends.Ends.{Ends}
use Rattle.fwd_outside.specs.declared.happening.Happening.{Happening}
use Rattle.fwd_table.specs.Row.{Row}
use Rattle.fwd_table.specs.Usage.{is_file, in_file, size_of}
use Rattle.fwd_table.specs.Usage.{memory_of, is_from as row_is_from}
use Rattle.fwd_limits.specs.Backpressure.{reaches}
use Rattle.fwd_settings.specs.declared.settings_types.AllSettings.{AllSettings}
use Rattle.fwd_settings.specs.declared.settings_types.InputSet.{InputSet}
use Rattle.fwd_model.specs.Fact.{History}
use Rattle.fwd_model.specs.Trace.{Action, TraceEntry, OnLoop, history_after}
use Rattle.fwd_model.specs.Settings.{input_at, home_at, mem_limit_at}
use Rattle.fwd_model.specs.Clock.{stopped}
use Rattle.fwd_model.specs.Chunks.{ChunkInfo, chunks_of, is_closed, is_from, size}
use Rattle.fwd_model.specs.Routes.{home_of, input_id, table_route, owed, is_owed, row_of, rows_of}
use Rattle.fwd_model.specs.Limits.{is_paused, paused}
use Rattle.fwd_model.specs.Run.{RunResult, life}
use Rattle.fwd_theorem_trace.specs.Past.{Past, logged, past_after}
use Rattle.fwd_theorem_trace.specs.Allowed.{Allowed}
use Rattle.fwd_theorem_trace.specs.Sound.{Sound}
use Rattle.fwd_theorem_trace.proofs.Members.{here, deeper, in_filter, not_where_off}
use Rattle.fwd_theorem_trace.proofs.Traversal.{noted_since}
use Rattle.fwd_theorem_trace.proofs.Run.{due_since}
use Rattle.fwd_theorem_trace.proofs.Invariant.{sound, sound_life}
use Rattle.fwd_theorem_delivery.specs.Backpressure.{is_in_memory, memory_bytes, IsStopped, IsAtLimit, IsPaused}
use Rattle.fwd_model.proofs.Masks.{bit_means}

module _ (s : AllSettings) (h : History) (input : ℕ) where
  abbrev is_counted : Row → Bool
  is_counted row = not (in_file row) && (row_is_from input row.input && (not row.shut || not (length row.routes == 0)))

  and_none : (a : Bool) → a && false ≡ false
  and_none true = refl
  and_none false = refl

  -- an entry counts as its chunk does, if it is pending
  same_input : (from : Option ℕ) (x : Bool) → (not (is_file (home_of s from)) && (row_is_from input (option_map input_id from) && x)) ≡ (is_from input from && (not (is_file (home_at s input)) && x))
  same_input None x = and_none (not (is_file (home_of s None)))
  same_input (Some other) x = by (other == input) refl
    where
      by : (b : Bool) → other == input ≡ b → (not (is_file (home_at s other)) && (b && x)) ≡ (b && (not (is_file (home_at s input)) && x))
      by true is = ap (λ (i : ℕ). not (is_file (home_at s i)) && x) (eqb-true other input is)
      by false is = and_none (not (is_file (home_at s other)))

  counted_as : (c : ChunkInfo) → is_counted (row_of s h c) ≡ is_in_memory s h input c
  counted_as c =
      let long : length (map (table_route s h c.number) (owed s h c)) ≡ length (owed s h c) = length-map (owed s h c) (table_route s h c.number) in
      ap (λ (n : ℕ). not (is_file (home_of s c.input)) && (row_is_from input (option_map input_id c.input) && (not (is_closed h c.number) || not (n == 0)))) long
      ∙ same_input c.input (not (is_closed h c.number) || is_owed s h c)

  not_held : (c : ChunkInfo) → is_closed h c.number ≡ true → is_owed s h c ≡ false → is_in_memory s h input c ≡ false
  not_held c shut none =
      ap (λ (x : Bool). is_from input c.input && (not (is_file (home_at s input)) && (not x || is_owed s h c))) shut
      ∙ (ap (λ (x : Bool). is_from input c.input && (not (is_file (home_at s input)) && x)) none
      ∙ (ap (λ (x : Bool). is_from input c.input && x) (and_none (not (is_file (home_at s input)))) ∙ and_none (is_from input c.input)))

  abbrev bytes : ChunkInfo → ℕ
  bytes c = size h c.number

  shut_or_owed : (c : ChunkInfo) → (is_closed h c.number ≡ false → is_owed s h c ≡ true) → is_owed s h c ≡ false → is_closed h c.number ≡ true
  shut_or_owed c unless none = by (is_closed h c.number) refl
    where
      by : (b : Bool) → is_closed h c.number ≡ b → b ≡ true
      by true is = refl
      by false is = absurd (cc (sym none ∙ unless is))

  sums_as : (cs : List ChunkInfo) → ((c : ChunkInfo) → Contains cs c → is_closed h c.number ≡ false → is_owed s h c ≡ true)
      → size_of (filter is_counted (map (row_of s h) (filter (is_owed s h) cs))) ≡ sum_by bytes (filter (is_in_memory s h input) cs)
  sums_as [] all = refl
  sums_as (c ∷ cs) all = by (is_owed s h c) refl (sums_as cs (λ d has. all d (deeper c cs d has)))
    where
      both : (b : Bool) → is_in_memory s h input c ≡ b → size_of (filter is_counted (map (row_of s h) (filter (is_owed s h) cs))) ≡ sum_by bytes (filter (is_in_memory s h input) cs)
          → size_of (cond b (row_of s h c ∷ filter is_counted (map (row_of s h) (filter (is_owed s h) cs))) (filter is_counted (map (row_of s h) (filter (is_owed s h) cs)))) ≡ sum_by bytes (cond b (c ∷ filter (is_in_memory s h input) cs) (filter (is_in_memory s h input) cs))
      both true is rest =
          sum_by-cons (λ (row : Row). row.size) (row_of s h c) (filter is_counted (map (row_of s h) (filter (is_owed s h) cs))) ∙ (ap (λ (n : ℕ). size h c.number + n) rest ∙ sym (sum_by-cons bytes c (filter (is_in_memory s h input) cs)))
      both false is rest = rest

      by : (b : Bool) → is_owed s h c ≡ b → size_of (filter is_counted (map (row_of s h) (filter (is_owed s h) cs))) ≡ sum_by bytes (filter (is_in_memory s h input) cs)
          → size_of (filter is_counted (map (row_of s h) (cond b (c ∷ filter (is_owed s h) cs) (filter (is_owed s h) cs)))) ≡ sum_by bytes (filter (is_in_memory s h input) (c ∷ cs))
      by true is rest = rw (counted_as c) (both (is_in_memory s h input c) refl rest)
      by false is rest = rw (not_held c (shut_or_owed c (all c (here c cs)) is) is) rest

  held_bytes : Sound s h → memory_of input (rows_of s h) ≡ memory_bytes s h input
  held_bytes sound = sums_as (chunks_of h) (λ c has off. sound.owed c (in_filter (λ (d : ChunkInfo). not (is_closed h d.number)) (chunks_of h) c has (not_where_off (is_closed h c.number) off)))

  reached_as : (set : Option InputSet) (held : ℕ) → input_at s input ≡ set → held ≡ memory_bytes s h input → (reaches (option_and_then (λ (x : InputSet). x.mem_limit) set) held ≡ true) ↔ IsAtLimit s h input
  reached_as None held is same = (λ has. absurd (cc has), λ full. absurd (cc (sym is ∙ full.at)))
  reached_as (Some set) held is same = by set.mem_limit refl
    where
      by : (limit : Option ℕ) → set.mem_limit ≡ limit → (reaches limit held ≡ true) ↔ IsAtLimit s h input
      by None none = (λ has. absurd (cc has), λ full. let one : set ≡ full.set = cc (sym is ∙ full.at) in absurd (cc (sym none ∙ (ap (λ (x : InputSet). x.mem_limit) one ∙ full.is))))
      by (Some limit) some = (
        λ has. let le = leb-true limit held has in record { set = set; at = is; limit = limit; is = some; reached = omega (arith, le, same) },
        λ full.
            let one : set ≡ full.set = cc (sym is ∙ full.at) in
            let at : limit ≡ full.limit = cc (sym some ∙ (ap (λ (x : InputSet). x.mem_limit) one ∙ full.is)) in
            let le = full.reached in
            le-leb limit held (omega (arith, le, same, at)),
      )

  stopped_as : (at : Option ℕ) → stopped s h ≡ at → (is_some at ≡ true) ↔ IsStopped s h
  stopped_as None is = (λ has. absurd (cc has), λ was. absurd (cc (sym is ∙ was.is)))
  stopped_as (Some moment) is = (λ has. record { moment = moment; is = is }, λ was. refl)

  either_as : (a b : Bool) (A B : Type 0) → (a ≡ true) ↔ A → (b ≡ true) ↔ B → (a || b ≡ true) ↔ (A ⊎ B)
  either_as true b A B first second = (λ has. inl (first.0 refl), λ was. refl)
  either_as false b A B first second = (λ has. inr (second.0 has), λ was. ⊎_elim (λ (one : A). absurd (cc (first.1 one))) (λ (other : B). second.1 other) was)

  pub paused_as : Sound s h → (is_paused s h input ≡ true) ↔ (IsStopped s h ⊎ IsAtLimit s h input)
  paused_as sound =
      either_as (is_some (stopped s h)) (reaches (mem_limit_at s input) (memory_of input (rows_of s h))) (IsStopped s h) (IsAtLimit s h input)
      (stopped_as (stopped s h) refl) (reached_as (input_at s input) (memory_of input (rows_of s h)) refl (held_bytes sound))

  pub masked_as : Sound s h → IsBitSet (paused s h) input ↔ IsPaused s h input
  unfolding paused
  masked_as sound =
      let bit = bit_means (is_paused s h) (length s.inputs) input in
      let means = paused_as sound in
      (λ set. let is = bit.0 set in record { there = is.0; why = means.0 is.1 }, λ back. bit.1 (back.there, means.1 back.why))

-- ---- each entry of a run is allowed

module _ (s : AllSettings) where
  pub due_before : (es : List TraceEntry) (past : Past) → Allowed s (past_after past es) → Allowed s past
  due_before [] past due = due
  due_before (e ∷ es) past due = (due_before es (e ∷ past) due).1

  pub since_both : (past : Past) (one two : List TraceEntry) → past_after past (one ++ two) ≡ past_after (past_after past one) two
  since_both past [] two = refl
  since_both past (e ∷ one) two = since_both (e ∷ past) one two

  pub due_in_life : (ends : Ends) (ticks : Option ℕ) (turns : ℕ) (before : List TraceEntry) (e : TraceEntry) (after : List TraceEntry) (left : Action RunResult) → Execution (life s ends ticks turns) (before ++ e ∷ after) left → Allowed s (e ∷ past_after [] before)
  due_in_life ends ticks turns before e after left way =
      due_before after (e ∷ past_after [] before) (subst (Allowed s) (since_both [] before (e ∷ after)) (due_since s ends ticks turns (before ++ e ∷ after) left way))

  pub held_life : (ends : Ends) (ticks : Option ℕ) (turns : ℕ) (es : List TraceEntry) (left : Action RunResult) (input : ℕ) → Execution (life s ends ticks turns) es left
      → (is_paused s (history_after es []) input ≡ true) ↔ (IsStopped s (history_after es []) ⊎ IsAtLimit s (history_after es []) input)
  held_life ends ticks turns es left input way = paused_as s (history_after es []) input (sound_life s ends ticks turns es left way)

  pub masked_life : (ends : Ends) (ticks : Option ℕ) (turns : ℕ) (before after : List TraceEntry) (left : Action RunResult) (until mask : ℕ) (brought : Happening) (input : ℕ)
      → Execution (life s ends ticks turns) (before ++ entry (OnLoop (Wait until mask)) brought ∷ after) left → IsBitSet mask input ↔ IsPaused s (history_after before []) input
  masked_life ends ticks turns before after left until mask brought input way =
      let due = due_in_life ends ticks turns before (entry (OnLoop (Wait until mask)) brought) after left way in
      subst (λ (h : History). IsBitSet mask input ↔ IsPaused s h input) (noted_since [] before)
      (subst (λ (m : ℕ). IsBitSet m input ↔ IsPaused s (logged (past_after [] before)) input) (sym due.0.1) (masked_as s (logged (past_after [] before)) input (sound s (past_after [] before) due.1)))
