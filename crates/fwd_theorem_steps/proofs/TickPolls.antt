-- A tick polls each path of each input that isn't paused.
use Rattle.std.proofs.Common.{◌≡◌, ◌⊎◌, inl, inr, ℕ, zero, suc, ◌+◌, ◌<◌, Bool, true, false, cond, List, [], ◌∷◌, ◌++◌, length, append_assoc, Option, Some, None, refl, sym, ◌∙◌, ap, subst, arith}
use Rattle.std.specs.Prelude.{Contains, slice_get, option_map}
use Rattle.std.specs.List.{range_with_len}
use Rattle.std.specs.Option.{option_map_or}
use Rattle.fwd_in_tail.specs.Followed.{Polled as Poll, polls, reads_on, polled as poll_of}
use Rattle.fwd_outside.specs.Program.{entry, Return, Ask, bind, Execution}
use Rattle.fwd_outside.specs.Files.{FilesProgram}
use Rattle.fwd_outside.specs.declared.happening.Happening.TheVariants as happening
use Rattle.fwd_settings.specs.declared.settings_types.AllSettings.{AllSettings}
use Rattle.fwd_settings.specs.declared.settings_types.InputSet.{InputSet}
use Rattle.fwd_model.specs.Fact.{Fact, History, Polled, Happened}
use Rattle.fwd_model.specs.Trace.{Action, TraceEntry, OnFiles, Note, history_after}
use Rattle.fwd_model.specs.DeviceActions.{on_files}
use Rattle.fwd_model.specs.Settings.{input_at, paths_at, from_head_at, followed_paths}
use Rattle.fwd_model.specs.Clock.{is_close_due}
use Rattle.fwd_model.specs.FollowedFiles.{file_at}
use Rattle.fwd_model.specs.Batches.{poll_batch}
use Rattle.fwd_model.specs.Limits.{is_paused}
use Rattle.fwd_model.specs.InputActions.{polled, polls_file, polls_files, polls_input, polls_inputs, polls_all}
use Rattle.fwd_model.specs.StepActions.{closes_and_dispatches, ticks, step}
use Rattle.fwd_theorem_trace.specs.Past.{Past, logged, past_after}
use Rattle.fwd_theorem_trace.specs.Allowed.{EventAllowed, Allowed}
use Rattle.fwd_theorem_trace.proofs.Members.{here, deeper, either}
use Rattle.fwd_theorem_trace.proofs.Steps.{told_takes}
use Rattle.fwd_theorem_trace.proofs.Traversal.{walks_bind, noted_since}
use Rattle.fwd_theorem_trace.proofs.Turns.{way_parts}
use Rattle.fwd_theorem_steps.specs.Polls.{LogsFailure, LogsRead, ReadsOn, BeginsWithPoll, HasTurn}
use Rattle.fwd_theorem_steps.proofs.StepParts.{Any, any_outer, Tells, Told, told_end, history_both}

-- ---- the calls of a poll

module _ (s : AllSettings) (input index : ℕ) (path : List ℕ) (h new : History) where
  fails : (es : List TraceEntry) → Execution (polled s input index h None) es (Return new) → LogsFailure es
  fails [] way = absurd (cc way)
  fails (e ∷ es) way = (es, ap (λ (x : TraceEntry). x ∷ es) way.1)

  read : (long : ℕ) (bytes : Option (List ℕ)) (es : List TraceEntry) → Execution (polled s input index h (option_map (poll_of long) bytes)) es (Return new) → LogsRead input index long bytes es
  read long None es way = fails es way
  read long (Some bytes) [] way = absurd (cc way)
  read long (Some bytes) (e ∷ es) way = (es, ap (λ (x : TraceEntry). x ∷ es) way.1)

  reads : (long : Option ℕ) (es : List TraceEntry) → Execution (bind (on_files (reads_on path (from_head_at s input) (file_at s h input index).place long)) (polled s input index h)) es (Return new) → ReadsOn s input index path h long es
  reads None es way = fails es way
  reads (Some long) [] way = absurd (cc way)
  reads (Some long) (e ∷ es) way = (way.0, es, ap (λ (x : TraceEntry). x ∷ es) way.1, read long way.0 es way.2)

  begins : (es : List TraceEntry) → Execution (polls_file s input index path h) es (Return new) → BeginsWithPoll s input index path h es
  unfolding polls_file
  begins [] way = absurd (cc way)
  begins (e ∷ es) way = record { long = way.0; rest = es; is = ap (λ (x : TraceEntry). x ∷ es) way.1; reads = reads way.0 es way.2 }

-- ---- what polls leave

module _ (s : AllSettings) where
  tells_polled : (input index : ℕ) (past : Past) (poll : Option Poll) → Allowed s past → Tells s past (polled s input index (logged past) poll)
  tells_polled input index past None due = (due, λ answer. ((tt, due), (refl, tt)))
  tells_polled input index past (Some poll) due = (
    due,
    λ answer.
        let at : Past = entry (Note (Polled input index poll.long poll.bytes)) answer ∷ past in
        told_takes s Any (any_outer s) (poll_batch s (logged past) input index poll) at ((tt, due), tt),
  )

  tells_behind : (p : FilesProgram (Option Poll)) (past : Past) (next : Option Poll → History → Action History) → Allowed s past
      → ((x : Option Poll) (now : Past) → Allowed s now → Tells s now (next x (logged now))) → Tells s past (bind (on_files p) (λ x. next x (logged past)))
  tells_behind (Return x) past next due more = more x past due
  tells_behind (Ask call go) past next due more = (due, λ answer. tells_behind (go answer) (entry (OnFiles call) answer ∷ past) next (tt, due) more)

  tells_file : (input index : ℕ) (path : List ℕ) (past : Past) → Allowed s past → Tells s past (polls_file s input index path (logged past))
  unfolding polls_file
  tells_file input index path past due =
      tells_behind (polls path (from_head_at s input) (file_at s (logged past) input index).place) past (λ poll h. polled s input index h poll) due (λ poll now then. tells_polled input index now poll then)

  tells_then : (past : Past) (p : Action History) (next : History → Action History) → Tells s past p → ((now : Past) → Allowed s now → Tells s now (next (logged now))) → Tells s past (bind p next)
  tells_then past p next first second =
      let Q : History → Past → Type 0 = λ (h : History) (now : Past). (h ≡ logged now) × Any now in
      walks_bind (Allowed s) Q Q past p next first (λ h now grown due is. subst (λ (x : History). Tells s now (next x)) (sym is.0) (second now due))

  tells_files : (input index : ℕ) (paths : List (List ℕ)) (past : Past) → Allowed s past → Tells s past (polls_files s input index paths (logged past))
  tells_files input index [] past due = (due, (refl, tt))
  tells_files input index (path ∷ paths) past due =
      tells_then past (polls_file s input index path (logged past)) (polls_files s input (index + 1) paths) (tells_file input index path past due) (λ now then. tells_files input (index + 1) paths now then)

  tells_input : (input : ℕ) (past : Past) → Allowed s past → Tells s past (polls_input s input (logged past))
  unfolding polls_input
  tells_input input past due = by (is_paused s (logged past) input)
    where
      by : (b : Bool) → Tells s past (cond b (Return (logged past)) (polls_files s input 0 (paths_at s input) (logged past)))
      by true = (due, (refl, tt))
      by false = tells_files input 0 (paths_at s input) past due

  -- ---- turns

  module _ (input : ℕ) (path : List ℕ) where
    abbrev Turn : ℕ → History → List TraceEntry → Type 0
    Turn index h es = HasTurn s input index path h es

    turn_first : (index : ℕ) (h : History) (own more : List TraceEntry) → Turn index h own → Turn index h (own ++ more)
    turn_first index h own more is = by is.turn
      where
        longer : BeginsWithPoll s input index path (history_after is.before h) is.after → BeginsWithPoll s input index path (history_after is.before h) (is.after ++ more)
        longer begun = record { long = begun.long; rest = begun.rest ++ more; is = ap (λ (l : List TraceEntry). l ++ more) begun.is; reads = by_long begun.long begun.rest begun.reads }
          where
            failed : (rest : List TraceEntry) → LogsFailure rest → LogsFailure (rest ++ more)
            failed rest (behind, same) = (behind ++ more, ap (λ (l : List TraceEntry). l ++ more) same)

            logs : (long : ℕ) (bytes : Option (List ℕ)) (rest : List TraceEntry) → LogsRead input index long bytes rest → LogsRead input index long bytes (rest ++ more)
            logs long None rest is = failed rest is
            logs long (Some bytes) rest (behind, same) = (behind ++ more, ap (λ (l : List TraceEntry). l ++ more) same)

            by_long : (long : Option ℕ) (rest : List TraceEntry) → ReadsOn s input index path (history_after is.before h) long rest → ReadsOn s input index path (history_after is.before h) long (rest ++ more)
            by_long None rest is = failed rest is
            by_long (Some long) rest (bytes, behind, same, logged_it) = (bytes, behind ++ more, ap (λ (l : List TraceEntry). l ++ more) same, logs long bytes behind logged_it)

        whole : own ++ more ≡ is.before ++ (is.after ++ more)
        whole = ap (λ (l : List TraceEntry). l ++ more) is.is ∙ append_assoc is.before is.after more

        by : (is_paused s (history_after is.before h) input ≡ true) ⊎ BeginsWithPoll s input index path (history_after is.before h) is.after → Turn index h (own ++ more)
        by (inl paused) = record { before = is.before; after = is.after ++ more; is = whole; turn = inl paused }
        by (inr begun) = record { before = is.before; after = is.after ++ more; is = whole; turn = inr (longer begun) }

    turn_behind : (index : ℕ) (h at : History) (own more : List TraceEntry) → at ≡ history_after own h → Turn index at more → Turn index h (own ++ more)
    turn_behind index h at own more at_is is =
        let same : history_after is.before at ≡ history_after (own ++ is.before) h = ap (history_after is.before) at_is ∙ sym (history_both h own is.before) in
        record {
          before = own ++ is.before;
          after = is.after;
          is = ap (λ (l : List TraceEntry). own ++ l) is.is ∙ sym (append_assoc own is.before is.after);
          turn = subst (λ (x : History). (is_paused s x input ≡ true) ⊎ BeginsWithPoll s input index path x is.after) same is.turn;
        }

    abbrev AmongFiles : List (List ℕ) → ℕ → Type 0
    AmongFiles paths first = (place : ℕ) (past : Past) → Allowed s past → slice_get paths place ≡ Some path → (es : List TraceEntry) (new : History)
        → Execution (polls_files s input first paths (logged past)) es (Return new) → Turn (first + place) (logged past) es

    among_files : (paths : List (List ℕ)) (first : ℕ) → AmongFiles paths first
    among_files [] first place past due is es new way = absurd (cc is)
    among_files (p ∷ ps) first place past due is es new way =
        let parts = way_parts (polls_file s input first p (logged past)) (polls_files s input (first + 1) ps) es new way in
        let told = told_end s past (polls_file s input first p (logged past)) (tells_file input first p past due) parts.1 parts.0 parts.4 in
        subst (Turn (first + place) (logged past)) (sym parts.3) (by (among_files ps (first + 1)) place is parts.0 parts.1 parts.2 parts.4 parts.5 told)
      where
        by : AmongFiles ps (first + 1) → (k : ℕ) → slice_get (p ∷ ps) k ≡ Some path → (at : History) (own more : List TraceEntry) → Execution (polls_file s input first p (logged past)) own (Return at)
            → Execution (polls_files s input (first + 1) ps at) more (Return new) → Told s past own at → Turn (first + k) (logged past) (own ++ more)
        by others zero is at own more now later told =
            let same : p ≡ path = cc is in
            let begun = begins s input first p (logged past) at own now in
            let mine = subst (λ (q : List ℕ). BeginsWithPoll s input first q (logged past) own) same begun in
            let number : first ≡ first + 0 = omega arith in
            subst (λ (n : ℕ). Turn n (logged past) (own ++ more)) number (turn_first first (logged past) own more (record { before = []; after = own; is = refl; turn = inr mine }))
        by others (suc k) is at own more now later told =
            let there = others k (past_after past own) told.due is more new (subst (λ (x : History). Execution (polls_files s input (first + 1) ps x) more (Return new)) told.is later) in
            let number : first + 1 + k ≡ first + suc k = omega arith in
            subst (λ (n : ℕ). Turn n (logged past) (own ++ more)) number (turn_behind (first + 1 + k) (logged past) (logged (past_after past own)) own more (noted_since past own) there)

    of_input : (index : ℕ) (past : Past) → Allowed s past → slice_get (paths_at s input) index ≡ Some path → (es : List TraceEntry) (new : History)
        → Execution (polls_input s input (logged past)) es (Return new) → Turn index (logged past) es
    unfolding polls_input
    of_input index past due is es new way = by (is_paused s (logged past) input) refl way
      where
        by : (b : Bool) → is_paused s (logged past) input ≡ b → Execution (cond b (Return (logged past)) (polls_files s input 0 (paths_at s input) (logged past))) es (Return new) → Turn index (logged past) es
        by true paused way = record { before = []; after = es; is = refl; turn = inl paused }
        by false paused way =
            let number : 0 + index ≡ index = omega arith in
            subst (λ (n : ℕ). Turn n (logged past) es) number (among_files (paths_at s input) 0 index past due is es new way)

    abbrev AmongInputs : ℕ → List ℕ → Type 0
    AmongInputs index inputs = (past : Past) → Allowed s past → Contains inputs input → slice_get (paths_at s input) index ≡ Some path → (es : List TraceEntry) (new : History)
        → Execution (polls_inputs s inputs (logged past)) es (Return new) → Turn index (logged past) es

    among_inputs : (index : ℕ) (inputs : List ℕ) → AmongInputs index inputs
    among_inputs index [] past due has is es new way = absurd (omega (arith, has.1))
    among_inputs index (i ∷ is_more) past due has is es new way =
        let parts = way_parts (polls_input s i (logged past)) (polls_inputs s is_more) es new way in
        let told = told_end s past (polls_input s i (logged past)) (tells_input i past due) parts.1 parts.0 parts.4 in
        subst (Turn index (logged past)) (sym parts.3) (by (among_inputs index is_more) (either i is_more input has) parts.0 parts.1 parts.2 parts.4 parts.5 told)
      where
        by : AmongInputs index is_more → (i ≡ input) ⊎ Contains is_more input → (at : History) (own more : List TraceEntry) → Execution (polls_input s i (logged past)) own (Return at)
            → Execution (polls_inputs s is_more at) more (Return new) → Told s past own at → Turn index (logged past) (own ++ more)
        by others (inl same) at own more now later told =
            turn_first index (logged past) own more (of_input index past due is own at (subst (λ (k : ℕ). Execution (polls_input s k (logged past)) own (Return at)) same now))
        by others (inr there) at own more now later told =
            turn_behind index (logged past) (logged (past_after past own)) own more (noted_since past own)
            (others (past_after past own) told.due there is more new (subst (λ (x : History). Execution (polls_inputs s is_more x) more (Return new)) told.is later))

    -- an input with paths is one of all inputs
    in_range : (first n k : ℕ) → k < n → Contains (range_with_len first n) (first + k)
    in_range first zero k less = absurd (omega (arith, less))
    in_range first (suc n) zero less = let same : first ≡ first + 0 = omega arith in subst (Contains (range_with_len first (suc n))) same (here first (range_with_len (first + 1) n))
    in_range first (suc n) (suc k) less =
        let same : first + 1 + k ≡ first + suc k = omega arith in
        subst (Contains (range_with_len first (suc n))) same (deeper first (range_with_len (first + 1) n) (first + 1 + k) (in_range (first + 1) n k (omega (arith, less))))

    below_length : {X : Type 0} (xs : List X) (k : ℕ) (x : X) → slice_get xs k ≡ Some x → k < length xs
    below_length [] k x is = absurd (cc is)
    below_length (y ∷ ys) zero x is = omega arith
    below_length (y ∷ ys) (suc k) x is = let less = below_length ys k x is in omega (arith, less)

    is_input : (index : ℕ) → slice_get (paths_at s input) index ≡ Some path → input < length s.inputs
    is_input index is = by (input_at s input) refl is
      where
        by : (o : Option InputSet) → input_at s input ≡ o → slice_get (option_map_or (λ (set : InputSet). followed_paths set.kind) o []) index ≡ Some path → input < length s.inputs
        by None at is = absurd (cc is)
        by (Some set) at is = below_length s.inputs input set at

    pub tick_polls : (past : Past) (h : History) → logged past ≡ h → Allowed s past → (now index : ℕ) → EventAllowed s (happening.Tick now) past → slice_get (paths_at s input) index ≡ Some path
        → (es : List TraceEntry) (new : History) → Execution (step s (happening.Tick now) h) es (Return new) → Turn index h es
    unfolding step ticks polls_all
    tick_polls past h same due now index allowed is [] new way = absurd (cc way)
    tick_polls past h same due now index allowed is (e ∷ es) new way =
        let x : Fact = Happened (happening.Tick now) in
        let brought : TraceEntry = entry (Note x) tt in
        let later : Past = brought ∷ past in
        let at : logged later ≡ x ∷ h = ap (λ (l : History). x ∷ l) same in
        let inputs = range_with_len 0 (length s.inputs) in
        let parts = way_parts (polls_inputs s inputs (x ∷ h)) (closes_and_dispatches s (is_close_due s h now)) es new way.2 in
        let number : 0 + input ≡ input = omega arith in
        let among : Contains inputs input = subst (Contains inputs) number (in_range 0 (length s.inputs) input (is_input index is)) in
        let turn = among_inputs index inputs later (allowed, due) among is parts.1 parts.0 (subst (λ (l : History). Execution (polls_inputs s inputs l) parts.1 (Return parts.0)) (sym at) parts.4) in
        let all = turn_first index (logged later) parts.1 parts.2 turn in
        subst (λ (f : TraceEntry). Turn index h (f ∷ es)) (sym way.1)
        (turn_behind index h (logged later) (brought ∷ []) es at (subst (Turn index (logged later)) (sym parts.3) all))
