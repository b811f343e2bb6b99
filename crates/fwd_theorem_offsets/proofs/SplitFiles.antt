-- What was read of a followed file splits at the offset that is kept.
use Rattle.std.proofs.Common.{◌≡◌, ◌⊎◌, inl, inr, ℕ, ◌+◌, ◌-◌, ◌^◌, ◌≤◌, min, ◌&&◌, ◌||◌, Bool, true, false, cond, List, [], ◌∷◌, ◌++◌, append-nil, append_assoc, length, length-append, Option, Some, None, refl, sym, ◌∙◌, ap, subst, arith}
use Rattle.std.specs.Prelude.{◌==◌, nat_lt, option_map}
use Rattle.std.specs.List.{flat_map}
use Rattle.std.proofs.lemmas.Bool.{and_parts, eqb-true}
use Rattle.fwd_outside.specs.Program.{Execution}
use Rattle.fwd_outside.specs.declared.ends.Ends.{Ends}
use Rattle.fwd_frames.specs.Lines.{ended_parts, rest}
use Rattle.fwd_frames.proofs.UniqueSplit.{IsSplit-of_stream, IsSplit-only}
use Rattle.fwd_in_tail.specs.Followed.{Followed, Polled as Poll, from_place, is_cut, read_before, after, polled, settled as settled_in}
use Rattle.fwd_settings.specs.declared.settings_types.AllSettings.{AllSettings}
use Rattle.fwd_model.specs.Fact.{Fact, History, Resumed, Saved, Polled}
use Rattle.fwd_model.specs.Trace.{Call, Action, TraceEntry, Note, history_after, history_after_call}
use Rattle.fwd_model.specs.Settings.{from_head_at}
use Rattle.fwd_model.specs.FollowedFiles.{file_at, resumed_by, polled_by, settled}
use Rattle.fwd_model.specs.KeptOffsets.{kept_by, kept_at, to_put}
use Rattle.fwd_model.specs.Run.{RunResult, life}
use Rattle.fwd_theorem_trace.specs.Past.{Past, logged, past_after}
use Rattle.fwd_theorem_trace.specs.Allowed.{PutAllowed, WasSaved, FactAllowed, IsAllowed, Allowed}
use Rattle.fwd_theorem_trace.proofs.Traversal.{noted_since}
use Rattle.fwd_theorem_trace.proofs.Run.{due_since}
use Rattle.fwd_theorem_offsets.specs.KeptFiles.{IsAlone, was_cut, SplitsAt}

-- ---- a stream and its whole lines

abbrev joined : List (List ℕ) → List ℕ
joined parts = flat_map (λ part. part ++ 10 ∷ []) parts

-- the whole lines of a stream have no rest
no_rest : (s : List ℕ) → rest (joined (ended_parts s)) ≡ []
no_rest s =
    let whole : List ℕ = joined (ended_parts s) in
    sym (IsSplit-only whole (ended_parts s) [] (record { whole = sym (append-nil whole); no_feed = (IsSplit-of_stream s).no_feed; no_feed_left = refl })).1

-- ---- how far a file was read

-- all bytes up to its offset were read, or its offset is as far as numbers go; or nothing was read
abbrev IsRead : Option ℕ → List ℕ → Type 0
IsRead None said = said ≡ []
IsRead (Some place) said = (said ≡ []) ⊎ ((place ≤ 2 ^ 64 - 1) × (min (length said) (2 ^ 64 - 1) ≤ place))

abbrev IsReadFile : Followed → Type 0
IsReadFile f = IsRead f.place f.said

read_after : (from_head : Bool) (f : Followed) (poll : Poll) → IsReadFile f → IsReadFile (after from_head f poll)
read_after from_head f poll was = inr (omega arith, by f.place refl was)
  where
    said_is : (cut : Bool) → is_cut poll.long f.place ≡ cut → length (read_before poll.long f ++ poll.bytes) ≡ length (cond cut [] f.said) + length poll.bytes
    said_is cut is = length-append (read_before poll.long f) poll.bytes ∙ ap (λ (b : Bool). length (cond b [] f.said) + length poll.bytes) is

    uncut : (place : ℕ) → IsRead (Some place) f.said → min (length f.said + length poll.bytes) (2 ^ 64 - 1) ≤ min (place + length poll.bytes) (2 ^ 64 - 1)
    uncut place (inl none) = let size : length f.said ≡ 0 = ap length none in omega (arith, size)
    uncut place (inr (le, low)) = omega (arith, le, low)

    from : (place : ℕ) (cut : Bool) → nat_lt poll.long place ≡ cut → IsRead (Some place) f.said → min (length (cond cut [] f.said) + length poll.bytes) (2 ^ 64 - 1) ≤ min (cond cut 0 place + length poll.bytes) (2 ^ 64 - 1)
    from place true is was = omega arith
    from place false is was = uncut place was

    by : (o : Option ℕ) → f.place ≡ o → IsRead o f.said → min (length (read_before poll.long f ++ poll.bytes)) (2 ^ 64 - 1) ≤ min (from_place from_head poll.long f.place + length poll.bytes) (2 ^ 64 - 1)
    by None at none =
        let said : length (read_before poll.long f ++ poll.bytes) ≡ length f.said + length poll.bytes = said_is false (ap (is_cut poll.long) at) in
        let size : length f.said ≡ 0 = ap length none in
        omega (arith, said, size)
    by (Some place) at was =
        let cut : Bool = nat_lt poll.long place in
        let said = said_is cut (ap (is_cut poll.long) at) in
        let start : from_place from_head poll.long f.place ≡ cond cut 0 place = ap (from_place from_head poll.long) at in
        let le = from place cut refl was in
        omega (arith, said, start, le)

module _ (s : AllSettings) (input index : ℕ) where
  abbrev file : History → Followed
  file h = file_at s h input index

  read_so_far : (h : History) → IsReadFile (file h)
  read_so_far [] = refl
  read_so_far (Resumed i k place ∷ h) = by (i == input && k == index) (read_so_far h)
    where
      by : (which : Bool) → IsReadFile (file h) → IsReadFile (resumed_by which place (file h))
      by true was = inl refl
      by false was = was
  read_so_far (Polled i k long bytes ∷ h) = by (i == input && k == index) (read_so_far h)
    where
      by : (which : Bool) → IsReadFile (file h) → IsReadFile (polled_by which (from_head_at s i) (polled long bytes) (file h))
      by true was = read_after (from_head_at s i) (file h) (polled long bytes) was
      by false was = was
  read_so_far (fact ∷ h) = read_so_far h

  -- ---- the settled offset

  some_same : {a b : ℕ} → ◌≡◌ {A = Option ℕ} (Some a) (Some b) → a ≡ b
  some_same is = cc is

  splits_settled : (f : Followed) (place : ℕ) → place ≤ 2 ^ 64 - 1 → IsReadFile f → settled_in f ≡ Some place → SplitsAt f place
  splits_settled f place most was is = by f.place refl was is
    where
      size : length f.said ≡ length (joined (ended_parts f.said)) + length (rest f.said)
      size = ap length (IsSplit-of_stream f.said).whole ∙ length-append (joined (ended_parts f.said)) (rest f.said)

      offset : (p : ℕ) → IsRead (Some p) f.said → p - length (rest f.said) ≡ place → p ≡ min (place + length (rest f.said)) (2 ^ 64 - 1)
      offset p (inl none) is = let nothing : length (rest f.said) ≡ 0 = ap (λ (l : List ℕ). length (rest l)) none in omega (arith, nothing, is, most)
      offset p (inr (le, low)) is = omega (arith, size, is, le, low)

      by : (o : Option ℕ) → f.place ≡ o → IsRead o f.said → option_map (λ (p : ℕ). p - length (rest f.said)) o ≡ Some place → SplitsAt f place
      by None at was is = absurd (cc is)
      by (Some p) at was is = record {
        passed = joined (ended_parts f.said);
        further = rest f.said;
        said = (IsSplit-of_stream f.said).whole;
        whole = no_rest f.said;
        at = at ∙ ap Some (offset p was (some_same is));
      }

  put_is : (o kept : Option ℕ) (place : ℕ) → to_put o kept ≡ Some place → o ≡ Some place
  put_is None kept place is = absurd (cc is)
  put_is (Some p) None place is = is
  put_is (Some p) (Some kept) place is = by (p == kept) is
    where
      by : (same : Bool) → cond same None (Some p) ≡ Some place → Some p ≡ Some place
      by true is = absurd (cc is)
      by false is = is

  module _ (alone : IsAlone s input index) where
    -- the offset that the database took was settled
    saved_settled : (past : Past) (place : ℕ) → Allowed s past → WasSaved s input index place past → settled s (logged past) input index ≡ Some place
    saved_settled past place allowed was = by put
      where
        put : PutAllowed s was.file.db was.file.path place (logged was.before)
        put = (subst (Allowed s) was.is allowed).0

        by : PutAllowed s was.file.db was.file.path place (logged was.before) → settled s (logged past) input index ≡ Some place
        by put =
            let here = alone was.file put.file was.among put.among was.of put.of in
            let there = put_is (settled s (logged was.before) put.file.input put.file.index) (kept_at (logged was.before) put.file.input put.file.index) place put.new in
            ap (λ (h : History). settled s h input index) (ap logged was.is) ∙ (subst (λ (i : ℕ). settled s (logged was.before) i index ≡ Some place) here.0 (subst (λ (k : ℕ). settled s (logged was.before) put.file.input k ≡ Some place) here.1 there))

    -- ---- one more fact

    module _ (place : ℕ) (most : place ≤ 2 ^ 64 - 1) where
      -- it splits at the offset that is kept, if it was kept and the file wasn't cut since
      abbrev Splits : History → Type 0
      Splits h = kept_at h input index ≡ Some place → was_cut s h input index ≡ false → SplitsAt (file h) place

      same_file : (i k : ℕ) → (i == input && k == index) ≡ true → (i ≡ input) × (k ≡ index)
      same_file i k is = let parts = and_parts (i == input) (k == index) is in (eqb-true i input parts.0, eqb-true k index parts.1)

      splits_resumed : (which : Bool) (at : ℕ) (h : History) → Splits h → kept_by which at (kept_at h input index) ≡ Some place → cond which false (was_cut s h input index) ≡ false → SplitsAt (resumed_by which at (file h)) place
      splits_resumed true at h before kept uncut =
          let is : at ≡ place = some_same kept in
          let same : at ≡ min (place + 0) (2 ^ 64 - 1) = omega (arith, is, most) in
          record { passed = []; further = []; said = refl; whole = refl; at = ap Some same }
      splits_resumed false at h before kept uncut = before kept uncut

      none_cut : (a b : Bool) → (a || b) ≡ false → (a ≡ false) × (b ≡ false)
      none_cut true b is = absurd (cc is)
      none_cut false b is = (refl, is)

      from_uncut : (from_head : Bool) (long : ℕ) (o : Option ℕ) (p : ℕ) → o ≡ Some p → is_cut long o ≡ false → from_place from_head long o ≡ p
      from_uncut from_head long None p is uncut = absurd (cc is)
      from_uncut from_head long (Some q) p is uncut = ap (λ (b : Bool). cond b 0 q) uncut ∙ some_same is

      -- an uncut file was read on
      splits_read : (from_head : Bool) (f : Followed) (poll : Poll) → is_cut poll.long f.place ≡ false → SplitsAt f place → SplitsAt (after from_head f poll) place
      splits_read from_head f poll uncut split =
          let start = from_uncut from_head poll.long f.place (min (place + length split.further) (2 ^ 64 - 1)) split.at uncut in
          let size = length-append split.further poll.bytes in
          let at : min (from_place from_head poll.long f.place + length poll.bytes) (2 ^ 64 - 1) ≡ min (place + length (split.further ++ poll.bytes)) (2 ^ 64 - 1) = omega (arith, start, size) in
          record {
            passed = split.passed;
            further = split.further ++ poll.bytes;
            said = ap (λ (b : Bool). cond b [] f.said ++ poll.bytes) uncut ∙ (ap (λ (l : List ℕ). l ++ poll.bytes) split.said ∙ append_assoc split.passed split.further poll.bytes);
            whole = split.whole;
            at = ap Some at;
          }

      splits_polled : (which from_head : Bool) (long : ℕ) (bytes : List ℕ) (h : History) → Splits h → kept_at h input index ≡ Some place → ((which && is_cut long (file h).place) || was_cut s h input index) ≡ false
          → SplitsAt (polled_by which from_head (polled long bytes) (file h)) place
      splits_polled true from_head long bytes h before kept uncut =
          let parts = none_cut (is_cut long (file h).place) (was_cut s h input index) uncut in splits_read from_head (file h) (polled long bytes) parts.0 (before kept parts.1)
      splits_polled false from_head long bytes h before kept uncut = before kept uncut

      splits_saved : (which : Bool) (i k at : ℕ) (past : Past) → (i == input && k == index) ≡ which → Allowed s past → WasSaved s i k at past → Splits (logged past) → kept_by which at (kept_at (logged past) input index) ≡ Some place
          → cond which false (was_cut s (logged past) input index) ≡ false → SplitsAt (file (logged past)) place
      splits_saved true i k at past is allowed was before kept uncut =
          let same = same_file i k is in
          let here : WasSaved s input index place past = subst (λ (n : ℕ). WasSaved s input index n past) (some_same kept) (subst (λ (n : ℕ). WasSaved s input n at past) same.1 (subst (λ (n : ℕ). WasSaved s n k at past) same.0 was)) in
          splits_settled (file (logged past)) place most (read_so_far (logged past)) (saved_settled past place allowed here)
      splits_saved false i k at past is allowed was before kept uncut = before kept uncut

      -- ---- so far

      splits_fact : (fact : Fact) (past : Past) → Allowed s past → FactAllowed s fact past → Splits (logged past) → Splits (fact ∷ logged past)
      splits_fact (Resumed i k at) past allowed may before kept uncut = splits_resumed (i == input && k == index) at (logged past) before kept uncut
      splits_fact (Saved i k at) past allowed may before kept uncut = splits_saved (i == input && k == index) i k at past refl allowed may before kept uncut
      splits_fact (Polled i k long bytes) past allowed may before kept uncut = splits_polled (i == input && k == index) (from_head_at s i) long bytes (logged past) before kept uncut
      splits_fact fact past allowed may before kept uncut = before kept uncut

      splits_call : (call : Call) (past : Past) → Allowed s past → IsAllowed s call past → Splits (logged past) → Splits (history_after_call call (logged past))
      splits_call (Note fact) past allowed may before = splits_fact fact past allowed may before
      splits_call call past allowed may before = before

      splits_so_far : (past : Past) → Allowed s past → Splits (logged past)
      splits_so_far [] allowed = λ kept uncut. absurd (cc kept)
      splits_so_far (e ∷ past) allowed = splits_call e.call past allowed.1 allowed.0 (splits_so_far past allowed.1)

      pub kept_splits : (ends : Ends) (ticks : Option ℕ) (turns : ℕ) (es : List TraceEntry) (left : Action RunResult) → Execution (life s ends ticks turns) es left → Splits (history_after es [])
      kept_splits ends ticks turns es left way = subst Splits (noted_since [] es) (splits_so_far (past_after [] es) (due_since s ends ticks turns es left way))
