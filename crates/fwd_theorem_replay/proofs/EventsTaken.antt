-- How much a keyed loop has left to give after calls: the events of the loop below, and kept bytes.
use Rattle.std.proofs.Common.{◌≡◌, ℕ, suc, ◌+◌, ◌*◌, ◌≤◌, Bool, true, false, if◌then◌else◌, List, [], ◌∷◌, ◌++◌, length, find, Option, Some, None, unwrap_or, refl, sym, ap, subst, ◌∙◌, arith}
use Rattle.fwd_outside.specs.Program.{entry, Return, Execution}
use Rattle.fwd_outside.specs.Loop.{LoopCall, LoopEntry, LoopProgram, Start, Wait, Dial, Push, Close, Reply, DropConn, Word}
use Rattle.fwd_outside.specs.declared.happening.Happening.{Happening}
use Rattle.fwd_outside.specs.declared.happening.Happening.TheVariants.{End}
use Rattle.fwd_script_loop.specs.FirstMatch.{without_first}
use Rattle.fwd_script_loop.specs.PauseMask.{is_heard, next_happening}
use Rattle.fwd_script_loop.specs.Place.{Place, ArePlayed, after, after_push_to, after_wait, behind, output_of}
use Rattle.fwd_model.specs.Trace.{Answer, Call, TraceEntry, OnLoop, OnDisk, OnFiles, OnKeeper, Note, loop_entry, loop_part}
use Rattle.fwd_model.specs.Run.{is_end}
use Rattle.fwd_secure.specs.declared.keys.Keys.{Keys}
use Rattle.fwd_secure.specs.declared.handshakes.KeptBytes.{KeptBytes}
use Rattle.fwd_secure.specs.Keys.{has_keys}
use Rattle.fwd_secure.specs.Kept.{event_of, first_given}
use Rattle.fwd_secure.specs.Handshakes.{Handshakes, without_given}
use Rattle.fwd_secure.specs.Rules.{answers_by, brings, waits_by}
use Rattle.fwd_secure.specs.Carried.{Carries}
use Rattle.fwd_secure.specs.Secure.{most_of}
use Rattle.fwd_secure.proofs.Given.{given_event, le_same}
use Rattle.fwd_secure.proofs.KeptCounts.{NotWait, kept_of_call}
use Rattle.fwd_secure.proofs.KeptLists.{first_length}
use Rattle.fwd_theorem_trace.proofs.WaitCounts.{ArePlain, is_plain}

-- ---- the events of the loop below

abbrev pub left_at : Place → ℕ
left_at place = length place.left.happenings

-- an event that isn't the end is consumed
one_taken : (mask : ℕ) (happenings : List Happening) → is_end (next_happening mask happenings) ≡ false → length happenings ≡ suc (length (without_first (is_heard mask) happenings))
one_taken mask [] more = absurd (cc more)
one_taken mask (x ∷ xs) more = by (is_heard mask x) more (one_taken mask xs)
  where
    by : (heard : Bool) → is_end (unwrap_or (if heard then Some x else find (is_heard mask) xs) End) ≡ false
        → (is_end (next_happening mask xs) ≡ false → length xs ≡ suc (length (without_first (is_heard mask) xs)))
        → suc (length xs) ≡ suc (length (if heard then xs else x ∷ without_first (is_heard mask) xs))
    by true more rest = refl
    by false more rest = ap suc (rest more)

-- no call adds events
le_trans : (a b c : ℕ) → a ≤ b → b ≤ c → a ≤ c
le_trans a b c first second = omega (arith, first, second)

same_le : (a b : ℕ) → a ≡ b → a ≤ b
same_le a b is = omega (arith, is)

fewer : (mask : ℕ) (happenings : List Happening) → length (without_first (is_heard mask) happenings) ≤ length happenings
fewer mask [] = le_same 0
fewer mask (x ∷ xs) = by (is_heard mask x) (fewer mask xs)
  where
    by : (heard : Bool) → length (without_first (is_heard mask) xs) ≤ length xs → length (if heard then xs else x ∷ without_first (is_heard mask) xs) ≤ suc (length xs)
    by true rest = omega arith
    by false rest = omega (arith, rest)

push_adds_none : (place : Place) (output : Option ℕ) → left_at (after_push_to place output) ≡ left_at place
push_adds_none place (Some output) = refl
push_adds_none place None = refl

call_adds_none : (place : Place) (call : LoopCall) → left_at (after place call) ≤ left_at place
call_adds_none place (Start ends) = le_same (left_at place)
call_adds_none place (Wait until paused) = fewer paused place.left.happenings
call_adds_none place (Dial output tag) = le_same (left_at place)
call_adds_none place (Push link bytes) = same_le (left_at (after_push_to place (output_of place.links link))) (left_at place) (push_adds_none place (output_of place.links link))
call_adds_none place (Close link) = le_same (left_at place)
call_adds_none place (Reply conn bytes) = le_same (left_at place)
call_adds_none place (DropConn conn) = le_same (left_at place)
call_adds_none place Word = le_same (left_at place)

none_added : (place : Place) (calls : List LoopEntry) → left_at (behind place calls) ≤ left_at place
none_added place [] = le_same (left_at place)
none_added place (e ∷ es) = le_trans (left_at (behind (after place e.call) es)) (left_at (after place e.call)) (left_at place) (none_added (after place e.call) es) (call_adds_none place e.call)

-- ---- both, counted in events of the engine

-- an event of the loop below becomes at most two, and one without keys
abbrev pub ahead_of : Bool → Place → Handshakes → ℕ
ahead_of keyed place k = most_of keyed * left_at place + length k.kept

-- calls that aren't waits
not_wait : (call : LoopCall) → is_plain (OnLoop call) ≡ true → NotWait call
not_wait (Wait until paused) plain = absurd (cc plain)
not_wait call plain = tt

both_fall : (keyed : Bool) (turns a b kept before : ℕ) → a ≤ b → kept ≤ before → turns ≤ most_of keyed * a + kept → turns ≤ most_of keyed * b + before
both_fall true turns a b kept before less fewer_kept enough = twice enough
  where
    twice : turns ≤ 2 * a + kept → turns ≤ 2 * b + before
    twice now = omega (arith, less, fewer_kept, now)
both_fall false turns a b kept before less fewer_kept enough = once enough
  where
    once : turns ≤ 1 * a + kept → turns ≤ 1 * b + before
    once now = omega (arith, less, fewer_kept, now)

module _ (keys : Keys) where
  none_kept : (k u : Handshakes) (es : List TraceEntry) (calls : List LoopEntry) → ArePlain es → Carries keys k calls (loop_part es) u → length u.kept ≤ length k.kept
  none_kept k u [] calls plain carries = subst (λ (x : Handshakes). length x.kept ≤ length k.kept) (sym carries.1) (le_same (length k.kept))
  none_kept k u (e ∷ es) calls plain carries = by e.call e.answer plain.0 (λ at left. none_kept at u es left plain.1) carries
    where
      by : (call : Call) (answer : Answer call) → is_plain call ≡ true → ((at : Handshakes) (left : List LoopEntry) → Carries keys at left (loop_part es) u → length u.kept ≤ length at.kept)
          → Carries keys k calls (loop_entry call answer ++ loop_part es) u → length u.kept ≤ length k.kept
      by (OnLoop call) answer one rest given =
          le_trans (length u.kept) (length (given.2).kept) (length k.kept) (rest given.2 given.1 given.5) (kept_of_call (has_keys keys) keys k call (not_wait call one) given.0 answer given.2 given.4)
      by (OnDisk call) answer one rest given = rest k calls given
      by (OnFiles call) answer one rest given = rest k calls given
      by (OnKeeper call) answer one rest given = rest k calls given
      by (Note fact) answer one rest given = rest k calls given

  pub plain_add_none : (turns : ℕ) (place : Place) (k u : Handshakes) (es : List TraceEntry) (calls : List LoopEntry) → ArePlain es → Carries keys k calls (loop_part es) u
      → turns ≤ ahead_of (has_keys keys) (behind place calls) u → turns ≤ ahead_of (has_keys keys) place k
  plain_add_none turns place k u es calls plain carries enough =
      both_fall (has_keys keys) turns (left_at (behind place calls)) (left_at place) (length u.kept) (length k.kept) (none_added place calls) (none_kept k u es calls plain carries) enough

-- ---- a wait

same_result : (x y : Happening × Handshakes) → ◌≡◌ {A = LoopProgram (Happening × Handshakes)} (Return x) (Return y) → x ≡ y
same_result x y is = cc is

asked_spends : (keyed : Bool) (rest after_one before kept kept_before : ℕ) → before ≡ suc after_one → rest ≤ after_one → kept + 1 ≤ kept_before + most_of keyed → suc (most_of keyed * rest + kept) ≤ most_of keyed * before + kept_before
asked_spends true rest after_one before kept kept_before one less more = twice more
  where
    twice : kept + 1 ≤ kept_before + 2 → suc (2 * rest + kept) ≤ 2 * before + kept_before
    twice now = omega (arith, one, less, now)
asked_spends false rest after_one before kept kept_before one less more = once more
  where
    once : kept + 1 ≤ kept_before + 1 → suc (1 * rest + kept) ≤ 1 * before + kept_before
    once now = omega (arith, one, less, now)

given_spends : (events kept before : ℕ) → kept + 1 ≡ before → suc (events + kept) ≤ events + before
given_spends events kept before one = omega (arith, one)

one_up : (kept before : ℕ) → kept ≤ before + 1 → kept + 1 ≤ before + 2
one_up kept before le = omega (arith, le)

module _ (keys : Keys) (k u : Handshakes) (until mask : ℕ) (x : Happening) (place : Place) (goes : is_end x ≡ false) where
  abbrev Comes : LoopProgram (Happening × Handshakes) → List LoopEntry → Type 0
  Comes p calls = Execution p calls (Return (x, u))

  abbrev Spends : Bool → List LoopEntry → Type 0
  Spends keyed calls = suc (ahead_of keyed (behind place calls) u) ≤ ahead_of keyed place k

  -- only the end becomes the end
  not_end : (brought : Happening) (more : List LoopEntry) → Comes (brings keys k brought) more → is_end brought ≡ false
  not_end End [] way = let is = same_result (x, u) (End, k) way in absurd (cc (sym goes ∙ ap (λ (r : Happening × Handshakes). is_end r.0) is))
  not_end End (e ∷ es) way = absurd way
  not_end brought more way = refl

  -- the loop below was asked
  asks : (keyed : Bool) (brought : Happening) (more : List LoopEntry) → is_end brought ≡ false → length u.kept + 1 ≤ length k.kept + most_of keyed
      → ArePlayed place (entry (Wait until mask) brought ∷ more) → Spends keyed (entry (Wait until mask) brought ∷ more)
  asks keyed brought more event kept played =
      let now = after_wait place mask in
      let one = one_taken mask place.left.happenings (subst (λ (y : Happening). is_end y ≡ false) played.0 event) in
      asked_spends keyed (left_at (behind now more)) (left_at now) (left_at place) (length u.kept) (length k.kept) one (none_added now more) kept

  keyed_spends : (first : Option KeptBytes) → first_given mask k.kept ≡ first → (calls : List LoopEntry) → Comes (waits_by keys k until mask first) calls → ArePlayed place calls → Spends true calls
  keyed_spends (Some bytes) is [] way played =
      let same = same_result (x, u) (event_of bytes, without_given k mask) way in
      let one : length u.kept + 1 ≡ length k.kept = ap (λ (r : Happening × Handshakes). length (r.1).kept + 1) same ∙ first_length mask k.kept bytes is in
      given_spends (most_of true * left_at place) (length u.kept) (length k.kept) one
  keyed_spends (Some bytes) is (e ∷ es) way played = absurd way
  keyed_spends None is [] way played = absurd (cc way)
  keyed_spends None is (e ∷ more) way played =
      let kept = (given_event false 0 keys k way.0 more (x, u) way.2).kept in
      let first : ArePlayed place (entry (Wait until mask) way.0 ∷ more) = subst (λ (y : LoopEntry). ArePlayed place (y ∷ more)) way.1 played in
      subst (λ (y : LoopEntry). Spends true (y ∷ more)) (sym way.1) (asks true way.0 more (not_end way.0 more way.2) (one_up (length u.kept) (length k.kept) kept) first)

  -- a wait that doesn't return the end spends an event or kept bytes
  pub wait_spends : (keyed : Bool) (calls : List LoopEntry) → Comes (answers_by keyed keys k (Wait until mask)) calls → ArePlayed place calls → Spends keyed calls
  wait_spends true calls way played = keyed_spends (first_given mask k.kept) refl calls way played
  wait_spends false [] way played = absurd (cc way)
  wait_spends false (e ∷ []) way played =
      let same = same_result (x, u) (way.0, k) way.2 in
      let event : is_end way.0 ≡ false = subst (λ (r : Happening × Handshakes). is_end r.0 ≡ false) same goes in
      let kept : length u.kept + 1 ≤ length k.kept + 1 = subst (λ (r : Happening × Handshakes). length u.kept + 1 ≤ length (r.1).kept + 1) same (le_same (length u.kept + 1)) in
      let first : ArePlayed place (entry (Wait until mask) way.0 ∷ []) = subst (λ (y : LoopEntry). ArePlayed place (y ∷ [])) way.1 played in
      subst (λ (y : LoopEntry). Spends false (y ∷ [])) (sym way.1) (asks false way.0 [] event kept first)
  wait_spends false (e ∷ d ∷ es) way played = absurd way.2
