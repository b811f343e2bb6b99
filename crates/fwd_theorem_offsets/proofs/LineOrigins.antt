-- Each line of what was read of a followed file was completed by a poll of it.
use Rattle.std.proofs.Common.{◌≡◌, ⊎_elim, ℕ, Bool, true, false, if◌then◌else◌, List, [], ◌∷◌, ◌++◌, length, drop, refl, sym, ◌∙◌, ap, subst, arith}
use Rattle.std.specs.Prelude.{Contains, ◌==◌, ◌&&◌}
use Rattle.std.specs.List.{flat_map}
use Rattle.std.proofs.lemmas.Bool.{and_parts, eqb-true}
use Rattle.std.proofs.lemmas.List.Concat.{flat_map-append}
use Rattle.std.proofs.lemmas.List.Elements.{Contains-append_cases}
use Rattle.fwd_frames.specs.Lines.{prepend_to_first, ended_parts, line_of, unless_empty, lines}
use Rattle.fwd_frames.specs.declared.line.Line.{Line}
use Rattle.fwd_frames.proofs.StreamSplit.{behind-append}
use Rattle.fwd_in_tail.specs.Followed.{Followed, is_cut, read_before, completed, polled}
use Rattle.fwd_settings.specs.declared.settings_types.AllSettings.{AllSettings}
use Rattle.fwd_model.specs.Fact.{Fact, History, Resumed, Polled}
use Rattle.fwd_model.specs.Settings.{from_head_at}
use Rattle.fwd_model.specs.FollowedFiles.{file_at, resumed_by, polled_by}
use Rattle.fwd_theorem_offsets.specs.Passed.{CameIn}

-- the parts of a stream are the first ones of a longer stream
parts_first : (s u : List ℕ) → (more : List (List ℕ)) × (ended_parts (s ++ u) ≡ ended_parts s ++ more)
parts_first [] u = (ended_parts u, refl)
parts_first (b ∷ s) u = by (b == 10) (ended_parts s) (parts_first s u)
  where
    by : (feed : Bool) (parts : List (List ℕ)) → (more : List (List ℕ)) × (ended_parts (s ++ u) ≡ parts ++ more)
        → (more : List (List ℕ)) × ((if feed then [] ∷ ended_parts (s ++ u) else prepend_to_first b (ended_parts (s ++ u))) ≡ (if feed then [] ∷ parts else prepend_to_first b parts) ++ more)
    by true parts first = (first.0, ap (λ (l : List (List ℕ)). [] ∷ l) first.1)
    by false [] first = (prepend_to_first b (ended_parts (s ++ u)), refl)
    by false (p ∷ ps) first = (first.0, ap (prepend_to_first b) first.1)

lines_first : (s u : List ℕ) → (more : List Line) × (lines (s ++ u) ≡ lines s ++ more)
lines_first s u =
    let first = parts_first s u in
    let f : List ℕ → List Line = λ part. unless_empty (line_of part) in
    (flat_map f first.0, ap (flat_map f) first.1 ∙ flat_map-append f (ended_parts s) first.0)

-- the lines of a longer stream are those of its beginning, and those that end after it
lines_both : (s u : List ℕ) → lines (s ++ u) ≡ lines s ++ drop (length (lines s)) (lines (s ++ u))
lines_both s u =
    let first = lines_first s u in
    first.1 ∙ ap (λ (l : List Line). lines s ++ l) (behind-append (lines s) first.0 (lines (s ++ u)) (sym first.1))

module _ (s : AllSettings) (input index : ℕ) (line : Line) where
  abbrev Came : History → Type 0
  Came h = CameIn s h input index line

  later : (fact : Fact) (h : History) → Came h → Came (fact ∷ h)
  later fact h came = record { before = came.before; after = fact ∷ came.after; long = came.long; bytes = came.bytes; is = ap (λ (l : History). fact ∷ l) came.is; among = came.among }

  none_read : Contains (lines []) line → {X : Type 0} → X
  none_read has = absurd (omega (arith, has.1))

  by_cut : (cut : Bool) (said : List ℕ) (h : History) → (Contains (lines said) line → Came h) → Contains (lines (if cut then [] else said)) line → Came h
  by_cut true said h before has = none_read has
  by_cut false said h before has = before has

  same_file : (i k : ℕ) → (i == input && k == index) ≡ true → (i ≡ input) × (k ≡ index)
  same_file i k is = let parts = and_parts (i == input) (k == index) is in (eqb-true i input parts.0, eqb-true k index parts.1)

  by_poll : (which : Bool) (i k long : ℕ) (bytes : List ℕ) (h : History) → (i == input && k == index) ≡ which → (Contains (lines (file_at s h input index).said) line → Came h)
      → Contains (lines (polled_by which (from_head_at s i) (polled long bytes) (file_at s h input index)).said) line → Came (Polled i k long bytes ∷ h)
  by_poll false i k long bytes h isnt before has = later (Polled i k long bytes) h (before has)
  by_poll true i k long bytes h is before has =
      let f : Followed = file_at s h input index in
      let old : List ℕ = read_before long f in
      let same = same_file i k is in
      let both : Contains (lines old ++ completed f (polled long bytes)) line = subst (λ (l : List Line). Contains l line) (lines_both old bytes) has in
      ⊎_elim (λ (first : Contains (lines old) line). later (Polled i k long bytes) h (by_cut (is_cut long f.place) f.said h before first))
      (λ (now : Contains (completed f (polled long bytes)) line). record { before = h; after = []; long = long; bytes = bytes; is = rw (same.0, same.1) refl; among = now })
      (Contains-append_cases (lines old) (completed f (polled long bytes)) line both)

  by_resumed : (which : Bool) (i k place : ℕ) (h : History) → (Contains (lines (file_at s h input index).said) line → Came h)
      → Contains (lines (resumed_by which place (file_at s h input index)).said) line → Came (Resumed i k place ∷ h)
  by_resumed true i k place h before has = none_read has
  by_resumed false i k place h before has = later (Resumed i k place) h (before has)

  pub lines_came : (h : History) → Contains (lines (file_at s h input index).said) line → Came h
  lines_came [] has = none_read has
  lines_came (Polled i k long bytes ∷ h) has = by_poll (i == input && k == index) i k long bytes h refl (lines_came h) has
  lines_came (Resumed i k place ∷ h) has = by_resumed (i == input && k == index) i k place h (lines_came h) has
  lines_came (fact ∷ h) has = later fact h (lines_came h has)
