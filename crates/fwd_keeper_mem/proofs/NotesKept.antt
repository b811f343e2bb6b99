-- The fields of a keeper in memory after one more note.
use Rattle.std.proofs.Common.{◌≡◌, ℕ, ◌+◌, ◌≤◌, ◌==◌, Bool, true, false, not, ◌||◌, cond, if◌then◌else◌, List, [], ◌∷◌, ◌++◌, length, Option, Some, None, refl, sym, ◌∙◌, ap, subst, append_assoc, arith}
use Rattle.std.specs.Prelude.{Contains, Result, Ok, Err, OnOk}
use Rattle.std.proofs.lemmas.List.{append-nil}
use Rattle.std.proofs.lemmas.List.Folds.{list_any-append}
use Rattle.std.proofs.Math.Bool.{or-false}
use Rattle.std.specs.Ordering.{nat_cmp}
use Rattle.std.specs.List.{list_any}
use Rattle.std.specs.BTreeMap.{is_at}
use Rattle.fwd_outside.specs.Program.{entry}
use Rattle.fwd_keeper.specs.Keeper as keeper
use Rattle.fwd_keeper.specs.Keeper.{KeeperCall, KeeperAnswer, KeeperEntry, KeeperGiven, MayAnswer, IsConsistentLog, found, is_of, may_hold, may_hold_after}
use Rattle.fwd_keeper.proofs.HeldOffsets.{member_here, member_behind}
use Rattle.fwd_keeper_mem.specs.declared.mem_keeper.KeeperNote.{KeeperNote}
use Rattle.fwd_keeper_mem.specs.declared.mem_keeper.KeeperNote.TheVariants.{Get, Put, FailAt}
use Rattle.fwd_keeper_mem.specs.KeeperState.{KeeperState}
use Rattle.fwd_keeper_mem.specs.KeeperAnswers.{calls_by, calls_in, to_fail, fails_in, works, offsets_after, offsets_after_all, answer_after, IsPlayed}
use Rattle.fwd_keeper_mem.specs.MemKeeper.{IsKept, entry_of, entries_of, offsets_by, offsets_now, works_now}
use Rattle.fwd_keeper_mem.specs.Offsets.{HasOffset, SameOffsets}

-- ---- one more entry

pub entries_push : (notes : List KeeperNote) (note : KeeperNote) → entries_of (notes ++ note ∷ []) ≡ entries_of notes ++ entry_of note ∷ []
entries_push [] note = refl
entries_push (n ∷ notes) note = ap (λ (es : List KeeperEntry). entry_of n ∷ es) (entries_push notes note)

pub after_push : (offsets : KeeperGiven) (es : List KeeperEntry) (e : KeeperEntry) → offsets_after_all offsets (es ++ e ∷ []) ≡ offsets_after (offsets_after_all offsets es) e.call e.answer
after_push offsets [] e = refl
after_push offsets (x ∷ es) e = after_push (offsets_after offsets x.call x.answer) es e

calls_push : (es : List KeeperEntry) (e : KeeperEntry) → calls_in (es ++ e ∷ []) ≡ calls_in es + calls_by e.call
calls_push [] e = omega arith
calls_push (x ∷ es) e = ap (λ (n : ℕ). calls_by x.call + n) (calls_push es e) ∙ omega arith

fails_push : (es : List KeeperEntry) (e : KeeperEntry) → fails_in (es ++ e ∷ []) ≡ fails_in es ++ to_fail e.call
fails_push [] e = append-nil (to_fail e.call)
fails_push (x ∷ es) e = ap (λ (l : List ℕ). to_fail x.call ++ l) (fails_push es e) ∙ sym (append_assoc (to_fail x.call) (fails_in es) (to_fail e.call))

-- what holds of each entry, given those before it, holds with one more
module _ (P : List KeeperEntry → KeeperEntry → Type 0) (Each : List KeeperEntry → List KeeperEntry → Type 0)
    (none : (before : List KeeperEntry) → Each before [])
    (split : (before : List KeeperEntry) (e : KeeperEntry) (es : List KeeperEntry) → Each before (e ∷ es) → P before e × Each (before ++ e ∷ []) es)
    (join : (before : List KeeperEntry) (e : KeeperEntry) (es : List KeeperEntry) → P before e → Each (before ++ e ∷ []) es → Each before (e ∷ es)) where
  one_more : (before es : List KeeperEntry) (e : KeeperEntry) → Each before es → P (before ++ es) e → Each before (es ++ e ∷ [])
  one_more before [] e each holds = join before e [] (subst (λ (l : List KeeperEntry). P l e) (append-nil before) holds) (none (before ++ e ∷ []))
  one_more before (x ∷ es) e each holds =
      let parts = split before x es each in
      join before x (es ++ e ∷ []) parts.0 (one_more (before ++ x ∷ []) es e parts.1 (subst (λ (l : List KeeperEntry). P l e) (sym (append_assoc before (x ∷ []) es)) holds))

played_push : (given : KeeperGiven) (es : List KeeperEntry) (e : KeeperEntry) → IsPlayed given [] es → e.answer ≡ answer_after given es e.call → IsPlayed given [] (es ++ e ∷ [])
played_push given es e played is =
    one_more (λ before x. x.answer ≡ answer_after given before x.call) (IsPlayed given) (λ before. tt) (λ before x xs all. all) (λ before x xs one all. (one, all)) [] es e played is

honest_push : (given : KeeperGiven) (es : List KeeperEntry) (e : KeeperEntry) → IsConsistentLog given [] es → MayAnswer given es e.call e.answer → IsConsistentLog given [] (es ++ e ∷ [])
honest_push given es e honest may =
    one_more (λ before x. MayAnswer given before x.call x.answer) (IsConsistentLog given) (λ before. tt) (λ before x xs all. all) (λ before x xs one all. (one, all)) [] es e honest may

-- ---- the offsets are among those that may be held

module _ (db path : List ℕ) where
  holds_one : (offsets : KeeperGiven) (before : List (Option ℕ)) (call : KeeperCall) (answer : KeeperAnswer call) → Contains before (found offsets db path)
      → Contains (may_hold_after call answer db path before) (found (offsets_after offsets call answer) db path)
  holds_one offsets before (keeper.Get other_db other_path) answer held = held
  holds_one offsets before (keeper.Put other_db other_path place) (Some done) held = by (is_of db path other_db other_path)
    where
      by : (of : Bool) → Contains (if of then Some place ∷ [] else before) (if of then Some place else found offsets db path)
      by true = member_here (Some place) []
      by false = held
  holds_one offsets before (keeper.Put other_db other_path place) None held = by (is_of db path other_db other_path)
    where
      by : (of : Bool) → Contains (if of then Some place ∷ before else before) (found offsets db path)
      by true = member_behind (Some place) before (found offsets db path) held
      by false = held
  holds_one offsets before (keeper.FailAt number) answer held = held

  holds_all : (es : List KeeperEntry) (offsets : KeeperGiven) (before : List (Option ℕ)) → Contains before (found offsets db path)
      → Contains (may_hold es db path before) (found (offsets_after_all offsets es) db path)
  holds_all [] offsets before held = held
  holds_all (e ∷ es) offsets before held = holds_all es (offsets_after offsets e.call e.answer) (may_hold_after e.call e.answer db path before) (holds_one offsets before e.call e.answer held)

may_get : (given : KeeperGiven) (es : List KeeperEntry) (db path : List ℕ) (answer : Option (Option ℕ)) → answer ≡ answer_after given es (keeper.Get db path) → MayAnswer given es (keeper.Get db path) answer
may_get given es db path None is = tt
may_get given es db path (Some place) is = by (works es) is
  where
    by : (b : Bool) → Some place ≡ (if b then Some (found (offsets_after_all given es) db path) else None) → Contains (may_hold es db path (found given db path ∷ [])) place
    by false e = absurd (cc e)
    by true e =
        let same : place ≡ found (offsets_after_all given es) db path = cc e in
        subst (λ (p : Option ℕ). Contains (may_hold es db path (found given db path ∷ [])) p) (sym same) (holds_all db path es given (found given db path ∷ []) (member_here (found given db path) []))

-- ---- numbers that are to fail

one_number : (a b : ℕ) → is_at (nat_cmp a) b ≡ (a == b)
one_number a b = grind arith

either : (a b : Bool) → cond a true b ≡ (b || (a || false))
either true true = refl
either true false = refl
either false true = refl
either false false = refl

-- there are no more calls than notes
calls_one : (note : KeeperNote) → calls_by (entry_of note).call ≤ 1
calls_one (Get db path answer) = omega arith
calls_one (Put db path place answer) = omega arith
calls_one (FailAt call) = omega arith

calls_in_le : (notes : List KeeperNote) → calls_in (entries_of notes) ≤ length notes
calls_in_le [] = omega arith
calls_in_le (note ∷ notes) = omega (arith, calls_one note, calls_in_le notes)

-- ---- one more note

module _ (given now : KeeperGiven) (notes : List KeeperNote) (calls : ℕ) (fails : List ℕ) (kept : IsKept given now notes calls fails) where
  pub calls_le : calls ≤ length notes
  calls_le = omega (arith, kept.counted, calls_in_le notes)

  -- a note with the answer of the keeper is kept
  keeps : (after : KeeperGiven) (note : KeeperNote) (count : ℕ) (numbers : List ℕ) → MayAnswer given (entries_of notes) (entry_of note).call (entry_of note).answer
      → (entry_of note).answer ≡ answer_after given (entries_of notes) (entry_of note).call
      → SameOffsets after (offsets_after (offsets_now given notes) (entry_of note).call (entry_of note).answer) → count ≡ calls + calls_by (entry_of note).call
      → ((n : ℕ) → list_any (is_at (nat_cmp n)) numbers ≡ (list_any (is_at (nat_cmp n)) fails || list_any (λ (m : ℕ). m == n) (to_fail (entry_of note).call)))
      → IsKept given after (notes ++ note ∷ []) count numbers
  keeps after note count numbers may played same counted failing =
      let es = entries_of notes in
      let e = entry_of note in
      let pushed = entries_push notes note in
      record {
        same = λ db path. same db path ∙ ap (λ (offsets : KeeperGiven). found offsets db path) (sym (after_push given es e)) ∙ ap (λ (l : List KeeperEntry). found (offsets_after_all given l) db path) (sym pushed);
        honest = subst (λ (l : List KeeperEntry). IsConsistentLog given [] l) (sym pushed) (honest_push given es e kept.honest may);
        played = subst (λ (l : List KeeperEntry). IsPlayed given [] l) (sym pushed) (played_push given es e kept.played played);
        counted = counted ∙ ap (λ (n : ℕ). n + calls_by e.call) kept.counted ∙ sym (calls_push es e) ∙ ap (λ (l : List KeeperEntry). calls_in l) (sym pushed);
        failing = λ n. failing n ∙ ap (λ (b : Bool). b || list_any (λ (m : ℕ). m == n) (to_fail e.call)) (kept.failing n)
            ∙ sym (list_any-append (λ (m : ℕ). m == n) (fails_in es) (to_fail e.call))
            ∙ ap (λ (l : List ℕ). list_any (λ (m : ℕ). m == n) l) (sym (fails_push es e))
            ∙ ap (λ (l : List KeeperEntry). list_any (λ (m : ℕ). m == n) (fails_in l)) (sym pushed);
      }

  -- no number is added
  same_numbers : (n : ℕ) → list_any (is_at (nat_cmp n)) fails ≡ (list_any (is_at (nat_cmp n)) fails || list_any (λ (m : ℕ). m == n) [])
  same_numbers n = sym (or-false (list_any (is_at (nat_cmp n)) fails))

  pub keeps_get : (db path : List ℕ) (answer : Option (Option ℕ)) → answer ≡ answer_after given (entries_of notes) (keeper.Get db path) → IsKept given now (notes ++ Get db path answer ∷ []) (calls + 1) fails
  keeps_get db path answer is = keeps now (Get db path answer) (calls + 1) fails (may_get given (entries_of notes) db path answer is) is kept.same refl same_numbers

  same_put : (db path : List ℕ) (place : ℕ) (answer : Option (Unit {0})) (after : KeeperGiven) → SameOffsets after (offsets_by now (Put db path place answer))
      → SameOffsets after (offsets_after (offsets_now given notes) (keeper.Put db path place) answer)
  same_put db path place (Some done) after has other_db other_path =
      has other_db other_path ∙ ap (λ (o : Option ℕ). if is_of other_db other_path db path then Some place else o) (kept.same other_db other_path)
  same_put db path place None after has other_db other_path = has other_db other_path ∙ kept.same other_db other_path

  pub keeps_put : (db path : List ℕ) (place : ℕ) (answer : Option (Unit {0})) (after : KeeperGiven) → answer ≡ answer_after given (entries_of notes) (keeper.Put db path place)
      → SameOffsets after (offsets_by now (Put db path place answer)) → IsKept given after (notes ++ Put db path place answer ∷ []) (calls + 1) fails
  keeps_put db path place answer after is has = keeps after (Put db path place answer) (calls + 1) fails tt is (same_put db path place answer after has) refl same_numbers

  pub keeps_number : (call : ℕ) (numbers : List ℕ) → ((n : ℕ) → list_any (is_at (nat_cmp n)) numbers ≡ cond (is_at (nat_cmp call) n) true (list_any (is_at (nat_cmp n)) fails))
      → IsKept given now (notes ++ FailAt call ∷ []) calls numbers
  keeps_number call numbers has =
      keeps now (FailAt call) calls numbers tt refl kept.same (omega arith)
      (λ n. has n ∙ ap (λ (b : Bool). cond b true (list_any (is_at (nat_cmp n)) fails)) (one_number call n) ∙ either (call == n) (list_any (is_at (nat_cmp n)) fails))

  -- whether the next call isn't to fail, by the fields
  pub works_here : (b : Bool) → b ≡ list_any (is_at (nat_cmp (calls + 1))) fails → works (entries_of notes) ≡ not b
  works_here b is =
      let es = entries_of notes in
      ap not (sym (kept.failing (calls_in es + 1)) ∙ ap (λ (n : ℕ). list_any (is_at (nat_cmp (n + 1))) fails) (sym kept.counted) ∙ sym is)

-- ---- after a recorded call, by the fields of the struct

module _ (held old : KeeperState) (view : held ≡ old) (now : KeeperGiven) (calls : ℕ) (fails : List ℕ) (kept : IsKept held.given now held.notes calls fails) where
  pub get_kept : (db db2 path path2 : List ℕ) (answer : Option (Option ℕ)) (new : List KeeperNote) → answer ≡ answer_after old.given (entries_of old.notes) (keeper.Get db path) → db2 ≡ db → path2 ≡ path
      → new ≡ held.notes ++ Get db2 path2 answer ∷ [] → IsKept held.given now new (calls + 1) fails
  get_kept db db2 path path2 answer new is same_db same_path noted =
      let here : answer ≡ answer_after held.given (entries_of held.notes) (keeper.Get db2 path2) = rw (same_db, same_path, view) is in
      subst (λ (notes : List KeeperNote). IsKept held.given now notes (calls + 1) fails) (sym noted) (keeps_get held.given now held.notes calls fails kept db2 path2 answer here)

  pub put_kept : (db db2 path path2 : List ℕ) (place : ℕ) (answer : Option (Unit {0})) (after : KeeperGiven) (new : List KeeperNote) → answer ≡ answer_after old.given (entries_of old.notes) (keeper.Put db path place)
      → SameOffsets after (offsets_by now (Put db2 path2 place answer)) → new ≡ held.notes ++ Put db2 path2 place answer ∷ [] → IsKept held.given after new (calls + 1) fails
  put_kept db db2 path path2 place answer after new is has noted =
      let here : answer ≡ answer_after held.given (entries_of held.notes) (keeper.Put db2 path2 place) = subst (λ (h : KeeperState). answer ≡ answer_after h.given (entries_of h.notes) (keeper.Put db2 path2 place)) (sym view) is in
      subst (λ (notes : List KeeperNote). IsKept held.given after notes (calls + 1) fails) (sym noted) (keeps_put held.given now held.notes calls fails kept db2 path2 place answer after here has)

-- ---- the answers, by the fields of the struct

module _ (held old : KeeperState) (view : held ≡ old) (now : KeeperGiven) (calls : ℕ) (fails : List ℕ) (kept : IsKept held.given now held.notes calls fails) where
  pub works_now_by : (b : Bool) → b ≡ list_any (is_at (nat_cmp (calls + 1))) fails → not b ≡ works_now old
  works_now_by b is = subst (λ (h : KeeperState). not b ≡ works_now h) view (sym (works_here held.given now held.notes calls fails kept b is))

  pub place_works : (db path : List ℕ) (place : Option ℕ) → place ≡ found now db path → works_now old ≡ true → Some place ≡ answer_after old.given (entries_of old.notes) (keeper.Get db path)
  place_works db path place is works_then =
      subst (λ (h : KeeperState). works_now h ≡ true → Some place ≡ answer_after h.given (entries_of h.notes) (keeper.Get db path)) view (by (works (entries_of held.notes))) works_then
    where
      by : (b : Bool) → b ≡ true → Some place ≡ (if b then Some (found (offsets_after_all held.given (entries_of held.notes)) db path) else None)
      by true e = ap Some (is ∙ kept.same db path)
      by false e = absurd (cc e)

-- what the call log grows by
module _ (held old : KeeperState) (view : held ≡ old) (new : List KeeperNote) where
  pub logs : (note note2 : KeeperNote) → note2 ≡ note → new ≡ held.notes ++ note2 ∷ [] → (held.given ≡ old.given) × (entries_of new ≡ entries_of old.notes ++ entry_of note ∷ [])
  logs note note2 same noted = (
    ap (λ (h : KeeperState). h.given) view,
    ap (λ (notes : List KeeperNote). entries_of notes) (noted ∙ ap (λ (n : KeeperNote). held.notes ++ n ∷ []) same)
        ∙ entries_push held.notes note
        ∙ ap (λ (h : KeeperState). entries_of h.notes ++ entry_of note ∷ []) view,
  )

-- a number was added to those that are to fail
pub number_kept : (given now : KeeperGiven) (notes new : List KeeperNote) (calls : ℕ) (fails : List ℕ) → IsKept given now notes calls fails → (call : ℕ) (numbers : List ℕ)
    → ((n : ℕ) → list_any (is_at (nat_cmp n)) numbers ≡ cond (is_at (nat_cmp call) n) true (list_any (is_at (nat_cmp n)) fails)) → new ≡ notes ++ FailAt call ∷ [] → IsKept given now new calls numbers
number_kept given now notes new calls fails kept call numbers has noted =
    subst (λ (l : List KeeperNote). IsKept given now l calls numbers) (sym noted) (keeps_number given now notes calls fails kept call numbers has)

-- what the call log grows by, by the fields of a call
module _ (held old : KeeperState) (view : held ≡ old) (new : List KeeperNote) (db db2 path path2 : List ℕ) (same_db : db2 ≡ db) (same_path : path2 ≡ path) where
  pub logs_get : (answer logged : Option (Option ℕ)) → answer ≡ logged → new ≡ held.notes ++ Get db2 path2 answer ∷ []
      → (held.given ≡ old.given) × (entries_of new ≡ entries_of old.notes ++ entry (keeper.Get db path) logged ∷ [])
  logs_get answer logged is noted = logs held old view new (Get db path logged) (Get db2 path2 answer)
      (ap (λ (d : List ℕ). Get d path2 answer) same_db ∙ ap (λ (p : List ℕ). Get db p answer) same_path ∙ ap (λ (a : Option (Option ℕ)). Get db path a) is) noted

  pub logs_put : (place : ℕ) (answer logged : Option (Unit {0})) → answer ≡ logged → new ≡ held.notes ++ Put db2 path2 place answer ∷ []
      → (held.given ≡ old.given) × (entries_of new ≡ entries_of old.notes ++ entry (keeper.Put db path place) logged ∷ [])
  logs_put place answer logged is noted = logs held old view new (Put db path place logged) (Put db2 path2 place answer)
      (ap (λ (d : List ℕ). Put d path2 place answer) same_db ∙ ap (λ (p : List ℕ). Put db p place answer) same_path ∙ ap (λ (a : Option (Unit {0})). Put db path place a) is) noted

-- ---- the offsets after a put

module _ (note : KeeperNote) (db path : List ℕ) (place : ℕ) (answer : Option (Unit {0})) (old new : KeeperGiven) (is : note ≡ Put db path place answer) where
  by_answer : (given : Option (Unit {0})) → answer ≡ given → SameOffsets new (offsets_by old (Put db path place given)) → SameOffsets new (offsets_by old note)
  by_answer given same has =
      subst (λ (n : KeeperNote). SameOffsets new (offsets_by old n)) (sym (is ∙ ap (λ (a : Option (Unit {0})). Put db path place a) same)) has

  -- it was done
  pub set_by : {T E : Type 0} (r : Result T E) (db2 path2 : List ℕ) (done : Unit {0}) → answer ≡ Some done → db2 ≡ db → path2 ≡ path → OnOk r (HasOffset db2 path2 place old new) → OnOk r (SameOffsets new (offsets_by old note))
  set_by (Ok x) db2 path2 done some same_db same_path has =
      by_answer (Some done) some (subst (λ (d : List ℕ). HasOffset d path place old new) same_db (subst (λ (p : List ℕ). HasOffset db2 p place old new) same_path has))
  set_by (Err e) db2 path2 done some same_db same_path has = tt

  -- it failed
  pub kept_by : answer ≡ None → SameOffsets new old → SameOffsets new (offsets_by old note)
  kept_by none same = by_answer None none same
