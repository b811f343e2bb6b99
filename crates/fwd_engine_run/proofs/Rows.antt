-- The offsets of all files, row by row.
use Rattle.std.proofs.Common.{Result, IsErrAnd, Ok, Err, ◌≡◌, ◌≢◌, inl, inr, ℕ, zero, suc, ◌+◌, ◌<◌, ◌≤◌, Bool, true, false, List, [], ◌∷◌, length, map, drop, Some, refl, sym, ◌∙◌, ap, subst, arith}
use Rattle.std.specs.Prelude.{◌==◌, ◌&&◌, slice_get, option_map}
use Rattle.std.proofs.Math.ListN.{set, length-set}
use Rattle.std.proofs.lemmas.Bool.{and_parts, eqb-true, cases_eq}
use Rattle.std.proofs.lemmas.List.{drop_all, length-map}
use Rattle.std.proofs.lemmas.Option.{slice_get_within, slice_get-map, same_Some}
use Rattle.fwd_settings.specs.declared.settings_types.AllSettings.{AllSettings}
use Rattle.fwd_model.specs.Fact.{History, Saved}
use Rattle.fwd_model.specs.Trace.{Action}
use Rattle.fwd_model.specs.CallLogs.{CallLogs, Leads, IsBegun}
use Rattle.fwd_model.specs.FollowedFiles.{settled}
use Rattle.fwd_model.specs.KeptOffsets.{Tracked, tracked, kept_by, kept_at, to_put, gets, puts_by, puts}
use Rattle.fwd_model.specs.Run.{RunResult}
use Rattle.fwd_model.proofs.Actions.{goes_on, begun_trans}
use Rattle.fwd_engine_state.proofs.FileLists.{set_here, set_other}
use Rattle.fwd_theorem_trace.specs.Allowed.{IsStart}
use Rattle.fwd_engine.specs.EngineSteps.{IsAt}
use Rattle.fwd_engine.specs.declared.engine.Engine.{Engine}
use Rattle.fwd_engine_run.specs.OffsetRows.{IsOverAlike, IsRow, Keeps, PutsOutcome}
use Rattle.fwd_engine_run.specs.OneOffset.{IsPath, IsPutLogged, OffsetPut, OffsetsGot, RowPut, gets_one, new_row}
use Rattle.fwd_engine_run.specs.declared.kept_offsets.KeptOffset.{KeptOffset}
use Rattle.fwd_engine_run.specs.declared.kept_offsets.KeptOffsets.{KeptOffsets}
use Rattle.fwd_engine_run.specs.declared.kept_offsets.Got.{Got}
use Rattle.fwd_engine_run.specs.declared.kept_offsets.Got.TheVariants as outcome
use Rattle.fwd_engine_run.proofs.OneOffset.{put_alike}
use Rattle.fwd_engine_run.proofs.TrackedFiles.{tracked_path, tracked_apart}

-- ---- lists

pub there : {A : Type 0} (xs : List A) (i : ℕ) → i < length xs → (x : A) × (slice_get xs i ≡ Some x)
there [] i within = absurd (omega (arith, within))
there (x ∷ xs) zero within = (x, refl)
there (x ∷ xs) (suc i) within = there xs i (omega (arith, within))

drop_here : {A : Type 0} (xs : List A) (i : ℕ) (x : A) → slice_get xs i ≡ Some x → drop i xs ≡ x ∷ drop (i + 1) xs
drop_here [] i x is = absurd (cc is)
drop_here (y ∷ xs) zero x is = ap (λ (z : _). z ∷ xs) (same_Some y x is)
drop_here (y ∷ xs) (suc i) x is =
    let on : suc (i + 1) ≡ suc i + 1 = omega arith in
    subst (λ (n : ℕ). drop (suc i) (y ∷ xs) ≡ x ∷ drop n (y ∷ xs)) on (drop_here xs i x is)

-- ---- the rows

-- each row of a list of new ones
new_each : (ts : List Tracked) (k : ℕ) (row : KeptOffset) (t : Tracked) → slice_get (map new_row ts) k ≡ Some row → slice_get ts k ≡ Some t → IsRow [] row t
new_each ts k row t read here =
    let is : new_row t ≡ row = same_Some (new_row t) row (sym (slice_get-map new_row ts k ∙ ap (option_map new_row) here) ∙ read) in
    subst (λ (x : KeptOffset). IsRow [] x t) is (record { input = refl; index = refl; db = refl; path = refl; kept = refl })

pub keeps_new : (s : AllSettings) (offsets : KeptOffsets) → offsets.rows.items ≡ map new_row (tracked s) → Keeps s offsets []
keeps_new s offsets is = record {
  count = ap length is ∙ length-map (tracked s) new_row;
  each = λ k row t read here. new_each (tracked s) k row t (subst (λ (l : List KeptOffset). slice_get l k ≡ Some row) is read) here;
}

-- the rows after a history in which the same offsets are kept
pub keeps_same : (s : AllSettings) (offsets : KeptOffsets) (h now : History) → ((input index : ℕ) → kept_at now input index ≡ kept_at h input index) → Keeps s offsets h → Keeps s offsets now
keeps_same s offsets h now same keeps = record {
  count = keeps.count;
  each = λ k row t read here.
      let is = keeps.each k row t read here in
      record { input = is.input; index = is.index; db = is.db; path = is.path; kept = is.kept ∙ sym (same t.input t.index) };
}

-- that the offset of one file is kept changes nothing of another
other_kept : (h : History) (t u : Tracked) (place : ℕ) → (t.input ≡ u.input → t.index ≡ u.index → ⊥) → kept_at h u.input u.index ≡ kept_at (Saved t.input t.index place ∷ h) u.input u.index
other_kept h t u place apart = by (t.input == u.input && t.index == u.index) refl
  where
    by : (is : Bool) → (t.input == u.input && t.index == u.index) ≡ is → kept_at h u.input u.index ≡ kept_by is place (kept_at h u.input u.index)
    by true is = let parts = and_parts (t.input == u.input) (t.index == u.index) is in absurd (apart (eqb-true t.input u.input parts.0) (eqb-true t.index u.index parts.1))
    by false is = refl

row_stays : (h now : History) (t u : Tracked) (row : KeptOffset) → IsPutLogged t h now → (t.input ≡ u.input → t.index ≡ u.index → ⊥) → IsRow h row u → IsRow now row u
row_stays h now t u row (inl same) apart is = subst (λ (x : History). IsRow x row u) (sym same) is
row_stays h now t u row (inr saved) apart is =
    subst (λ (x : History). IsRow x row u) (sym saved.1) (record { input = is.input; index = is.index; db = is.db; path = is.path; kept = is.kept ∙ other_kept h t u saved.0 apart })

-- one row more was put
keeps_more : (s : AllSettings) (h now : History) (old new : KeptOffsets) (i : ℕ) (row : KeptOffset) (t : Tracked) → i < length old.rows.items → new.rows.items ≡ set old.rows.items i row → slice_get (tracked s) i ≡ Some t
    → IsPutLogged t h now → IsRow now row t → Keeps s old h → Keeps s new now
keeps_more s h now old new i row t within is here logged shows keeps = record {
  count = ap length is ∙ length-set old.rows.items i row ∙ keeps.count;
  each = λ k other u read at. elim (cases_eq i k) [
    | inl same ↦
        let reads : slice_get new.rows.items i ≡ Some other = subst (λ (n : ℕ). slice_get new.rows.items n ≡ Some other) (sym same) read in
        let first : row ≡ other = same_Some row other (sym (set_here old.rows.items i row within) ∙ ap (λ (l : List KeptOffset). slice_get l i) (sym is) ∙ reads) in
        let second : t ≡ u = same_Some t u (sym here ∙ subst (λ (n : ℕ). slice_get (tracked s) n ≡ Some u) (sym same) at) in
        subst (λ (x : Tracked). IsRow now other x) second (subst (λ (x : KeptOffset). IsRow now x t) first shows)
    | inr differs ↦
        let reads : slice_get old.rows.items k ≡ Some other = sym (set_other old.rows.items i k row differs) ∙ ap (λ (l : List KeptOffset). slice_get l k) (sym is) ∙ read in
        row_stays h now t u other logged (λ first second. differs (tracked_apart s i k t u here at first second)) (keeps.each k other u reads at)
  ];
}

-- ---- the rows after the gets

-- the rows below this one have the offsets of the history
pub record KeepsBelow (s : AllSettings) (offsets : KeptOffsets) (h : History) (i : ℕ) : Type 0 where
  pub count : length offsets.rows.items ≡ length (tracked s)
  pub below : (k : ℕ) (row : KeptOffset) (t : Tracked) → k < i → slice_get offsets.rows.items k ≡ Some row → slice_get (tracked s) k ≡ Some t → IsRow h row t
  pub above : (k : ℕ) (row : KeptOffset) (t : Tracked) → i ≤ k → slice_get offsets.rows.items k ≡ Some row → slice_get (tracked s) k ≡ Some t → IsRow [] row t

pub below_first : (s : AllSettings) (offsets : KeptOffsets) (h : History) → Keeps s offsets [] → KeepsBelow s offsets h 0
below_first s offsets h keeps = record {
  count = keeps.count;
  below = λ k row t less read here. absurd (omega (arith, less));
  above = λ k row t least read here. keeps.each k row t read here;
}

pub below_all : (s : AllSettings) (offsets : KeptOffsets) (h : History) (i : ℕ) → length offsets.rows.items ≤ i → KeepsBelow s offsets h i → Keeps s offsets h
below_all s offsets h i past keeps = record {
  count = keeps.count;
  each = λ k row t read here. let within = slice_get_within offsets.rows.items k row read in keeps.below k row t (omega (arith, past, within)) read here;
}

pub below_more : (s : AllSettings) (h : History) (old new : KeptOffsets) (i : ℕ) (before after : KeptOffset) → slice_get old.rows.items i ≡ Some before → new.rows.items ≡ set old.rows.items i after
    → ((t : Tracked) → IsPath s t → IsRow [] before t → IsRow h after t) → KeepsBelow s old h i → KeepsBelow s new h (i + 1)
below_more s h old new i before after here is takes keeps = record {
  count = ap length is ∙ length-set old.rows.items i after ∙ keeps.count;
  below = λ k row t less read at. elim (cases_eq i k) [
    | inl same ↦
        let reads : slice_get new.rows.items i ≡ Some row = subst (λ (n : ℕ). slice_get new.rows.items n ≡ Some row) (sym same) read in
        let there_at : slice_get (tracked s) i ≡ Some t = subst (λ (n : ℕ). slice_get (tracked s) n ≡ Some t) (sym same) at in
        let within = slice_get_within old.rows.items i before here in
        let first : after ≡ row = same_Some after row (sym (set_here old.rows.items i after within) ∙ ap (λ (l : List KeptOffset). slice_get l i) (sym is) ∙ reads) in
        let reached : i ≤ i = omega arith in
        subst (λ (x : KeptOffset). IsRow h x t) first (takes t (tracked_path s i t there_at) (keeps.above i before t reached here there_at))
    | inr differs ↦
        let reads : slice_get old.rows.items k ≡ Some row = sym (set_other old.rows.items i k after differs) ∙ ap (λ (l : List KeptOffset). slice_get l k) (sym is) ∙ read in
        let less_on : k < i = omega (arith, less, differs) in
        keeps.below k row t less_on reads at
  ];
  above = λ k row t least read at.
      let differs : i ≢ k = omega (arith, least) in
      let reads : slice_get old.rows.items k ≡ Some row = sym (set_other old.rows.items i k after differs) ∙ ap (λ (l : List KeptOffset). slice_get l k) (sym is) ∙ read in
      let least_on : i ≤ k = omega (arith, least) in
      keeps.above k row t least_on reads at;
}

-- ---- the gets

gets_here : (s : AllSettings) (i : ℕ) (t : Tracked) (failed next : History → Action RunResult) (h : History) → slice_get (tracked s) i ≡ Some t
    → gets s (drop i (tracked s)) failed next h ≡ gets s (t ∷ drop (i + 1) (tracked s)) failed next h
gets_here s i t failed next h is = ap (λ (l : List Tracked). gets s l failed next h) (drop_here (tracked s) i t is)

pub all_got : (a b : CallLogs) (s : AllSettings) (failed next : History → Action RunResult) (act : Action RunResult) (i : ℕ) (h : History) → length (tracked s) ≤ i → Leads a b act (gets s (drop i (tracked s)) failed next h) → Leads a b act (next h)
all_got a b s failed next act i h past leads = subst (λ (l : List Tracked). Leads a b act (gets s l failed next h)) (drop_all i (tracked s) past) leads

module _ (s : AllSettings) (i : ℕ) (failed next : History → Action RunResult) (within : i < length (tracked s)) where
  abbrev pub gets_left : History → Action RunResult
  gets_left h = gets s (drop i (tracked s)) failed next h

  abbrev pub gets_rest : History → Action RunResult
  gets_rest h = gets s (drop (i + 1) (tracked s)) failed next h

  module _ {E : Type 0} (a b c : CallLogs) (p : Action RunResult) (h : History) (offsets : KeptOffsets) (row : KeptOffset) (here : slice_get offsets.rows.items i ≡ Some row) (keeps : Keeps s offsets []) (leads : Leads a b p (gets_left h))
      (after : Engine) (result : Result Got E) (get_one : (t : Tracked) → IsRow [] row t → OffsetsGot b c s failed gets_rest (gets_one s t failed gets_rest h) after result) where
    at_get : (t : Tracked) × (slice_get (tracked s) i ≡ Some t)
    at_get = there (tracked s) i within

    one_got : OffsetsGot b c s failed gets_rest (gets_one s at_get.0 failed gets_rest h) after result
    one_got = get_one at_get.0 (keeps.each i row at_get.0 here at_get.1)

    led_get : Leads a b p (gets_one s at_get.0 failed gets_rest h)
    led_get = subst (λ (x : Action RunResult). Leads a b p x) (gets_here s i at_get.0 failed next h at_get.1) leads

    pub get_on : result ≡ Ok outcome.All → (now : History) × IsAt after s now × IsStart now × Leads a c p (gets_rest now)
    get_on is =
        let so : OffsetsGot {E = E} b c s failed gets_rest (gets_one s at_get.0 failed gets_rest h) after (Ok outcome.All) = subst (λ (r : Result Got E). OffsetsGot b c s failed gets_rest (gets_one s at_get.0 failed gets_rest h) after r) is one_got in
        (so.0, so.1, so.2, goes_on led_get so.3)

    pub get_fails : result ≡ Ok outcome.Failed → (now : History) × Leads a c p (failed now)
    get_fails is =
        let so : OffsetsGot {E = E} b c s failed gets_rest (gets_one s at_get.0 failed gets_rest h) after (Ok outcome.Failed) = subst (λ (r : Result Got E). OffsetsGot b c s failed gets_rest (gets_one s at_get.0 failed gets_rest h) after r) is one_got in
        (so.0, goes_on led_get so.1)

    pub get_ends : (e : E) → result ≡ Err e → IsBegun a c p
    get_ends e is =
        let so : IsBegun b c (gets_one s at_get.0 failed gets_rest h) = subst (λ (r : Result Got E). OffsetsGot b c s failed gets_rest (gets_one s at_get.0 failed gets_rest h) after r) is one_got in
        begun_trans led_get so

-- ---- the puts

puts_here : (s : AllSettings) (i : ℕ) (t : Tracked) (next : History → Action RunResult) (h : History) → slice_get (tracked s) i ≡ Some t → puts s (drop i (tracked s)) next h ≡ puts s (t ∷ drop (i + 1) (tracked s)) next h
puts_here s i t next h is = ap (λ (l : List Tracked). puts s l next h) (drop_here (tracked s) i t is)

pub all_put : (a b : CallLogs) (s : AllSettings) (next : History → Action RunResult) (act : Action RunResult) (i : ℕ) (h : History) → length (tracked s) ≤ i → Leads a b act (puts s (drop i (tracked s)) next h) → Leads a b act (next h)
all_put a b s next act i h past leads = subst (λ (l : List Tracked). Leads a b act (puts s l next h)) (drop_all i (tracked s) past) leads

alike_on : (s : AllSettings) (first h now : History) → IsOverAlike s first h → IsOverAlike s h now → IsOverAlike s first now
alike_on s first h now one more brought = more brought ∙ one brought

module _ (s : AllSettings) (i : ℕ) (next : History → Action RunResult) (engine : Engine) (within : i < length (tracked s)) where
  abbrev pub puts_left : History → Action RunResult
  puts_left h = puts s (drop i (tracked s)) next h

  abbrev pub puts_rest : History → Action RunResult
  puts_rest h = puts s (drop (i + 1) (tracked s)) next h

  abbrev puts_one : Tracked → History → Action RunResult
  puts_one t h = puts_by t (to_put (settled s h t.input t.index) (kept_at h t.input t.index)) puts_rest h

  module _ {E : Type 0} (a b c : CallLogs) (p : Action RunResult) (first h : History) (old : KeptOffsets) (row : KeptOffset) (here : slice_get old.rows.items i ≡ Some row) (keeps : Keeps s old h) (alike : IsOverAlike s first h)
      (leads : Leads a b p (puts_left h)) (after : KeptOffset) (result : Result (Unit {0}) E) (put_one : (t : Tracked) → IsPath s t → IsRow h row t → OffsetPut b c s h t puts_rest (puts_one t h) engine after result) where
    at_put : (t : Tracked) × (slice_get (tracked s) i ≡ Some t)
    at_put = there (tracked s) i within

    one_put : OffsetPut b c s h at_put.0 puts_rest (puts_one at_put.0 h) engine after result
    one_put = put_one at_put.0 (tracked_path s i at_put.0 at_put.1) (keeps.each i row at_put.0 here at_put.1)

    led_put : Leads a b p (puts_one at_put.0 h)
    led_put = subst (λ (x : Action RunResult). Leads a b p x) (puts_here s i at_put.0 next h at_put.1) leads

    pub put_on : (new : KeptOffsets) → new.rows.items ≡ set old.rows.items i after → result ≡ Ok tt → (now : History) × IsAt engine s now × Keeps s new now × IsOverAlike s first now × Leads a c p (puts_rest now)
    put_on new is ok =
        let so : RowPut b c s h at_put.0 puts_rest (puts_one at_put.0 h) engine after = subst (λ (r : Result (Unit {0}) E). OffsetPut b c s h at_put.0 puts_rest (puts_one at_put.0 h) engine after r) ok one_put in (
          so.now,
          so.at,
          keeps_more s h so.now old new i after at_put.0 (slice_get_within old.rows.items i row here) is at_put.1 so.logged so.shows keeps,
          alike_on s first h so.now alike (put_alike s h so.now at_put.0 so.logged),
          goes_on led_put so.leads,
        )

    pub put_ends : (e : E) → result ≡ Err e → IsBegun a c p
    put_ends e is =
        let so : IsBegun b c (puts_one at_put.0 h) = subst (λ (r : Result (Unit {0}) E). OffsetPut b c s h at_put.0 puts_rest (puts_one at_put.0 h) engine after r) is one_put in
        begun_trans led_put so

pub puts_end : {E : Type 0} (a b : CallLogs) (s : AllSettings) (h : History) (next : History → Action RunResult) (act : Action RunResult) (engine : Engine) (offsets : KeptOffsets) (is : E → Type 0) (result : Result (Unit {0}) E)
    → IsErrAnd result is → IsBegun a b act → PutsOutcome a b s h next act engine offsets result
puts_end a b s h next act engine offsets is (Ok done) failed began = absurd failed
puts_end a b s h next act engine offsets is (Err e) failed began = began
