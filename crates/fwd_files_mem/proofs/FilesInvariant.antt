-- The fields of files in memory after one more note.
use Rattle.std.proofs.Common.{◌≡◌, ℕ, ◌+◌, ◌≤◌, ◌==◌, Bool, true, false, not, ◌||◌, cond, if◌then◌else◌, List, [], ◌∷◌, ◌++◌, length, take, drop, Option, Some, None, refl, sym, ◌∙◌, ap, subst, append_assoc, arith}
use Rattle.std.proofs.lemmas.List.{append-nil}
use Rattle.std.proofs.lemmas.List.Folds.{list_any-append}
use Rattle.std.proofs.Math.Bool.{or-false}
use Rattle.std.specs.Option.{option_map}
use Rattle.std.specs.Str.{bytes_eq}
use Rattle.std.specs.Ordering.{nat_cmp}
use Rattle.std.specs.List.{list_any}
use Rattle.std.specs.BTreeMap.{is_at}
use Rattle.fwd_outside.specs.Program.{entry}
use Rattle.fwd_outside.specs.Files.{FilesGiven, FilesEntry, MayAnswer, IsConsistentLog, found, files_after, files_after_all}
use Rattle.fwd_outside.specs.Files as files
use Rattle.fwd_files_mem.specs.declared.files.FilesNote.{FilesNote}
use Rattle.fwd_files_mem.specs.declared.files.FilesNote.TheVariants.{Length, ReadAt, Preset, FailAt, Change}
use Rattle.fwd_files_mem.specs.declared.change.FileChange.{FileChange}
use Rattle.fwd_files_mem.specs.declared.change.FileChange.TheVariants.{Append, Cut}
use Rattle.fwd_files_mem.specs.MemFiles.{HasContent, IsKept, SameFiles, changed, entries_from, entries_of, files_now, preset_entries, path_of, readable}
use Rattle.fwd_files_mem.specs.FilesState.{FilesState}
use Rattle.fwd_files_mem.specs.FilesAnswers.{is_made, made_of, to_fail, fails_of, works, readable_after, IsPlayed}
use Rattle.fwd_files_mem.proofs.FilePaths.{has_none}

behind_append : (files : FilesGiven) (es more : List FilesEntry) → files_after_all files (es ++ more) ≡ files_after_all (files_after_all files es) more
behind_append files [] more = refl
behind_append files (e ∷ es) more = behind_append (files_after files e.call) es more

honest_append : (files : FilesGiven) (es more : List FilesEntry) → IsConsistentLog files es → IsConsistentLog (files_after_all files es) more → IsConsistentLog files (es ++ more)
honest_append files [] more honest then_honest = then_honest
honest_append files (e ∷ es) more honest then_honest = (honest.0, honest_append (files_after files e.call) es more honest.1 then_honest)

pub entries_push : (files : FilesGiven) (notes : List FilesNote) (note : FilesNote) → entries_from files (notes ++ note ∷ []) ≡ entries_from files notes ++ entries_of (files_now files notes) note
entries_push files [] note = append-nil (entries_of files note)
entries_push files (n ∷ notes) note =
    let after = files_after_all files (entries_of files n) in
    let rest = entries_push after notes note in
    let moved = behind_append files (entries_of files n) (entries_from after notes) in
    ap (λ (es : List FilesEntry). entries_of files n ++ es) rest
    ∙ sym (append_assoc (entries_of files n) (entries_from after notes) (entries_of (files_now after notes) note))
    ∙ ap (λ (now : FilesGiven). entries_from files (n ∷ notes) ++ entries_of now note) (sym moved)

pub now_push : (files : FilesGiven) (notes : List FilesNote) (note : FilesNote) → files_now files (notes ++ note ∷ []) ≡ files_after_all (files_now files notes) (entries_of (files_now files notes) note)
now_push files notes note =
    ap (λ (es : List FilesEntry). files_after_all files es) (entries_push files notes note) ∙ behind_append files (entries_from files notes) (entries_of (files_now files notes) note)

made_append : (es more : List FilesEntry) → made_of (es ++ more) ≡ made_of es + made_of more
made_append [] more = omega arith
made_append (e ∷ es) more = ap (λ (n : ℕ). (if is_made e.call then 1 else 0) + n) (made_append es more) ∙ omega arith

fails_append : (es more : List FilesEntry) → fails_of (es ++ more) ≡ fails_of es ++ fails_of more
fails_append [] more = refl
fails_append (e ∷ es) more = ap (λ (l : List ℕ). to_fail e.call ++ l) (fails_append es more) ∙ sym (append_assoc (to_fail e.call) (fails_of es) (fails_of more))

played_append : (given : FilesGiven) (before es more : List FilesEntry) → IsPlayed given before es → IsPlayed given (before ++ es) more → IsPlayed given before (es ++ more)
played_append given before [] more played then_played = subst (λ (l : List FilesEntry). IsPlayed given l more) (append-nil before) then_played
played_append given before (e ∷ es) more played then_played =
    (played.0, played_append given (before ++ e ∷ []) es more played.1 (subst (λ (l : List FilesEntry). IsPlayed given l more) (sym (append_assoc before (e ∷ []) es)) then_played))

-- a change is no call, has no number and has no answer
none_made : (path : List ℕ) (content : Option (List ℕ)) → made_of (preset_entries path content) ≡ 0
none_made path None = refl
none_made path (Some bytes) = refl

none_fail : (path : List ℕ) (content : Option (List ℕ)) → fails_of (preset_entries path content) ≡ []
none_fail path None = refl
none_fail path (Some bytes) = refl

none_played : (given : FilesGiven) (before : List FilesEntry) (path : List ℕ) (content : Option (List ℕ)) → IsPlayed given before (preset_entries path content)
none_played given before path None = tt
none_played given before path (Some bytes) = (refl, tt)

-- there are no more calls than notes
made_one : (at : FilesGiven) (note : FilesNote) → made_of (entries_of at note) ≤ 1
made_one at (Length path answer) = omega arith
made_one at (ReadAt path from most answer) = omega arith
made_one at (Preset path bytes) = omega arith
made_one at (FailAt call) = omega arith
made_one at (Change change) = omega (arith, none_made (path_of change) (changed change (found at (path_of change))))

made_le : (at : FilesGiven) (notes : List FilesNote) → made_of (entries_from at notes) ≤ length notes
made_le at [] = omega arith
made_le at (note ∷ notes) =
    let after = files_after_all at (entries_of at note) in
    omega (arith, made_append (entries_of at note) (entries_from after notes), made_one at note, made_le after notes)

pub calls_le : (given now : FilesGiven) (notes : List FilesNote) (calls : ℕ) (fails : List ℕ) → IsKept given now notes calls fails → calls ≤ length notes
calls_le given now notes calls fails kept = omega (arith, kept.counted, made_le given notes)

readable_found : (given : FilesGiven) (es : List FilesEntry) (path content : List ℕ) → readable_after given es path ≡ Some content → found (files_after_all given es) path ≡ Some content
readable_found given es path content is = by (works es) is
  where
    by : (b : Bool) → (if b then found (files_after_all given es) path else None) ≡ Some content → found (files_after_all given es) path ≡ Some content
    by true e = e
    by false e = absurd (cc e)

may_length : (given : FilesGiven) (es : List FilesEntry) (path : List ℕ) (answer : Option ℕ) → answer ≡ option_map (λ (bytes : List ℕ). length bytes) (readable_after given es path)
    → MayAnswer (files_after_all given es) (files.Length path) answer
may_length given es path None is = tt
may_length given es path (Some n) is = by (readable_after given es path) (readable_found given es path) is
  where
    by : (r : Option (List ℕ)) → ((content : List ℕ) → r ≡ Some content → found (files_after_all given es) path ≡ Some content) → Some n ≡ option_map (λ (bytes : List ℕ). length bytes) r
        → MayAnswer (files_after_all given es) (files.Length path) (Some n)
    by None there e = absurd (cc e)
    by (Some content) there e = (content, there content refl, cc e)

may_read : (given : FilesGiven) (es : List FilesEntry) (path : List ℕ) (at max : ℕ) (answer : Option (List ℕ)) → answer ≡ option_map (λ (bytes : List ℕ). take max (drop at bytes)) (readable_after given es path)
    → MayAnswer (files_after_all given es) (files.ReadAt path at max) answer
may_read given es path at max None is = tt
may_read given es path at max (Some part) is = by (readable_after given es path) (readable_found given es path) is
  where
    by : (r : Option (List ℕ)) → ((content : List ℕ) → r ≡ Some content → found (files_after_all given es) path ≡ Some content) → Some part ≡ option_map (λ (bytes : List ℕ). take max (drop at bytes)) r
        → MayAnswer (files_after_all given es) (files.ReadAt path at max) (Some part)
    by None there e = absurd (cc e)
    by (Some content) there e =
        let whole : part ≡ take max (drop at content) = cc e in
        (content, there content refl, record { rest = []; beginning = append-nil part ∙ whole; none_at_end = λ _. refl })

-- a number that is added to those that are to fail
one_number : (a b : ℕ) → is_at (nat_cmp a) b ≡ (a == b)
one_number a b = grind arith

either : (a b : Bool) → cond a true b ≡ (b || (a || false))
either true true = refl
either true false = refl
either false true = refl
either false false = refl

none_changed : (change : FileChange) (content : Option (List ℕ)) → changed change content ≡ None → content ≡ None
none_changed (Append path bytes) content is = absurd (cc is)
none_changed (Cut path most) None is = refl
none_changed (Cut path most) (Some bytes) is = absurd (cc is)

module _ (given now : FilesGiven) (notes : List FilesNote) (calls : ℕ) (fails : List ℕ) (kept : IsKept given now notes calls fails) where
  abbrev entries_more : FilesNote → List FilesEntry
  entries_more note = entries_of (files_now given notes) note

  -- a note with the answer of the files is kept
  keeps : (after : FilesGiven) (note : FilesNote) (count : ℕ) (numbers : List ℕ) → IsConsistentLog (files_now given notes) (entries_more note) → IsPlayed given (entries_from given notes) (entries_more note)
      → SameFiles after (files_after_all (files_now given notes) (entries_more note)) → count ≡ calls + made_of (entries_more note)
      → ((n : ℕ) → list_any (is_at (nat_cmp n)) numbers ≡ (list_any (is_at (nat_cmp n)) fails || list_any (λ (m : ℕ). m == n) (fails_of (entries_more note))))
      → IsKept given after (notes ++ note ∷ []) count numbers
  keeps after note count numbers honest played same counted failing =
      let pushed = entries_push given notes note in
      record {
        same = λ path. same path ∙ ap (λ (files : FilesGiven). found files path) (sym (now_push given notes note));
        honest = subst (λ (es : List FilesEntry). IsConsistentLog given es) (sym pushed) (honest_append given (entries_from given notes) (entries_more note) kept.honest honest);
        played = subst (λ (es : List FilesEntry). IsPlayed given [] es) (sym pushed) (played_append given [] (entries_from given notes) (entries_more note) kept.played played);
        counted = counted ∙ ap (λ (n : ℕ). n + made_of (entries_more note)) kept.counted
            ∙ sym (made_append (entries_from given notes) (entries_more note)) ∙ ap (λ (es : List FilesEntry). made_of es) (sym pushed);
        failing = λ n. failing n ∙ ap (λ (b : Bool). b || list_any (λ (m : ℕ). m == n) (fails_of (entries_more note))) (kept.failing n)
            ∙ sym (list_any-append (λ (m : ℕ). m == n) (fails_of (entries_from given notes)) (fails_of (entries_more note)))
            ∙ ap (λ (l : List ℕ). list_any (λ (m : ℕ). m == n) l) (sym (fails_append (entries_from given notes) (entries_more note)))
            ∙ ap (λ (es : List FilesEntry). list_any (λ (m : ℕ). m == n) (fails_of es)) (sym pushed);
      }

  -- no number is added
  same_numbers : (more : List ℕ) → more ≡ [] → (n : ℕ) → list_any (is_at (nat_cmp n)) fails ≡ (list_any (is_at (nat_cmp n)) fails || list_any (λ (m : ℕ). m == n) more)
  same_numbers more none n =
      sym (or-false (list_any (is_at (nat_cmp n)) fails)) ∙ ap (λ (l : List ℕ). list_any (is_at (nat_cmp n)) fails || list_any (λ (m : ℕ). m == n) l) (sym none)

  pub keeps_length : (path : List ℕ) (answer : Option ℕ) → answer ≡ option_map (λ (bytes : List ℕ). length bytes) (readable_after given (entries_from given notes) path)
      → IsKept given now (notes ++ Length path answer ∷ []) (calls + 1) fails
  keeps_length path answer is = keeps now (Length path answer) (calls + 1) fails (may_length given (entries_from given notes) path answer is, tt) (is, tt) kept.same refl (same_numbers [] refl)

  pub keeps_read : (path : List ℕ) (at max : ℕ) (answer : Option (List ℕ)) → answer ≡ option_map (λ (bytes : List ℕ). take max (drop at bytes)) (readable_after given (entries_from given notes) path)
      → IsKept given now (notes ++ ReadAt path at max answer ∷ []) (calls + 1) fails
  keeps_read path at max answer is = keeps now (ReadAt path at max answer) (calls + 1) fails (may_read given (entries_from given notes) path at max answer is, tt) (is, tt) kept.same refl (same_numbers [] refl)

  has_then : (path : List ℕ) (content : Option (List ℕ)) (after : FilesGiven) → (content ≡ None → found (files_now given notes) path ≡ None) → HasContent path content now after
      → SameFiles after (files_after_all (files_now given notes) (preset_entries path content))
  has_then path (Some bytes) after gone has other = has other ∙ ap (λ (c : Option (List ℕ)). if bytes_eq path other then Some bytes else c) (kept.same other)
  has_then path None after gone has other =
      has other ∙ ap (λ (c : Option (List ℕ)). if bytes_eq path other then None else c) (kept.same other) ∙ sym (has_none (files_now given notes) path (gone refl) other)

  honest_now : (path : List ℕ) (content : Option (List ℕ)) (files : FilesGiven) → IsConsistentLog files (preset_entries path content)
  honest_now path (Some bytes) files = (tt, tt)
  honest_now path None files = tt

  pub keeps_preset : (path bytes : List ℕ) (after : FilesGiven) → HasContent path (Some bytes) now after → IsKept given after (notes ++ Preset path bytes ∷ []) calls fails
  keeps_preset path bytes after has =
      keeps after (Preset path bytes) calls fails (tt, tt) (refl, tt) (has_then path (Some bytes) after (λ is. absurd (cc is)) has) (omega arith) (same_numbers [] refl)

  pub keeps_number : (call : ℕ) (numbers : List ℕ) → ((n : ℕ) → list_any (is_at (nat_cmp n)) numbers ≡ cond (is_at (nat_cmp call) n) true (list_any (is_at (nat_cmp n)) fails))
      → IsKept given now (notes ++ FailAt call ∷ []) calls numbers
  keeps_number call numbers has =
      keeps now (FailAt call) calls numbers (tt, tt) (refl, tt) kept.same (omega arith)
      (λ n. has n ∙ ap (λ (b : Bool). cond b true (list_any (is_at (nat_cmp n)) fails)) (one_number call n) ∙ either (call == n) (list_any (is_at (nat_cmp n)) fails))

  pub keeps_change : (change : FileChange) (after : FilesGiven) → HasContent (path_of change) (changed change (found now (path_of change))) now after → IsKept given after (notes ++ Change change ∷ []) calls fails
  keeps_change change after has =
      let path = path_of change in
      let content = changed change (found (files_now given notes) path) in
      let has2 : HasContent path content now after = subst (λ (c : Option (List ℕ)). HasContent path (changed change c) now after) (kept.same path) has in
      keeps after (Change change) calls fails (honest_now path content (files_now given notes)) (none_played given (entries_from given notes) path content)
      (has_then path content after (none_changed change (found (files_now given notes) path)) has2) (omega (arith, none_made path content)) (same_numbers (fails_of (preset_entries path content)) (none_fail path content))

-- the readable bytes, by the fields
module _ (held : FilesState) (now : FilesGiven) (calls : ℕ) (fails : List ℕ) (kept : IsKept held.given now held.notes calls fails) (path : List ℕ) where
  pub fails_here : (b : Bool) → b ≡ list_any (is_at (nat_cmp (calls + 1))) fails → readable held path ≡ (if b then None else found now path)
  fails_here b is =
      let es = entries_from held.given held.notes in
      let failing : list_any (λ (m : ℕ). m == made_of es + 1) (fails_of es) ≡ b = sym (kept.failing (made_of es + 1)) ∙ ap (λ (n : ℕ). list_any (is_at (nat_cmp (n + 1))) fails) (sym kept.counted) ∙ sym is in
      ap (λ (c : Bool). if not c then found (files_now held.given held.notes) path else None) failing ∙ by b
    where
      by : (b : Bool) → (if not b then found (files_now held.given held.notes) path else None) ≡ (if b then None else found now path)
      by true = refl
      by false = sym (kept.same path)

-- after a recorded call, by the fields of the struct
module _ (held old : FilesState) (view : held ≡ old) (now : FilesGiven) (calls : ℕ) (fails : List ℕ) (kept : IsKept held.given now held.notes calls fails) where
  pub length_kept : (path : List ℕ) (answer : Option ℕ) (new : List FilesNote) → answer ≡ option_map (λ (bytes : List ℕ). length bytes) (readable old path)
      → new ≡ held.notes ++ Length path answer ∷ [] → IsKept held.given now new (calls + 1) fails
  length_kept path answer new is noted =
      let here : answer ≡ option_map (λ (bytes : List ℕ). length bytes) (readable held path) = is ∙ ap (λ (h : FilesState). option_map (λ (bytes : List ℕ). length bytes) (readable h path)) (sym view) in
      subst (λ (notes : List FilesNote). IsKept held.given now notes (calls + 1) fails) (sym noted) (keeps_length held.given now held.notes calls fails kept path answer here)

  pub read_kept : (path : List ℕ) (at max : ℕ) (answer copy : Option (List ℕ)) (new : List FilesNote) → answer ≡ option_map (λ (bytes : List ℕ). take max (drop at bytes)) (readable old path)
      → copy ≡ answer → new ≡ held.notes ++ ReadAt path at max copy ∷ [] → IsKept held.given now new (calls + 1) fails
  read_kept path at max answer copy new is clone_optional noted =
      let here : copy ≡ option_map (λ (bytes : List ℕ). take max (drop at bytes)) (readable held path) =
      clone_optional ∙ is ∙ ap (λ (h : FilesState). option_map (λ (bytes : List ℕ). take max (drop at bytes)) (readable h path)) (sym view) in
      subst (λ (notes : List FilesNote). IsKept held.given now notes (calls + 1) fails) (sym noted) (keeps_read held.given now held.notes calls fails kept path at max copy here)

-- what the trace grows by
module _ (held old : FilesState) (view : held ≡ old) (new : List FilesNote) where
  tells : (note : FilesNote) → new ≡ held.notes ++ note ∷ [] → (held.given ≡ old.given) × (entries_from held.given new ≡ entries_from old.given old.notes ++ entries_of (files_now old.given old.notes) note)
  tells note noted = (
    ap (λ (h : FilesState). h.given) view,
    ap (λ (notes : List FilesNote). entries_from held.given notes) noted
        ∙ entries_push held.given held.notes note
        ∙ ap (λ (h : FilesState). entries_from h.given h.notes ++ entries_of (files_now h.given h.notes) note) view,
  )

  pub tells_length : (path path2 : List ℕ) (answer call_log : Option ℕ) → path2 ≡ path → answer ≡ call_log → new ≡ held.notes ++ Length path2 answer ∷ []
      → (held.given ≡ old.given) × (entries_from held.given new ≡ entries_from old.given old.notes ++ entry (files.Length path) call_log ∷ [])
  tells_length path path2 answer call_log same is noted = tells (Length path call_log) (noted ∙ ap (λ (p : List ℕ). held.notes ++ Length p answer ∷ []) same ∙ ap (λ (a : Option ℕ). held.notes ++ Length path a ∷ []) is)

  pub tells_read : (path path2 : List ℕ) (at max : ℕ) (answer copy call_log : Option (List ℕ)) → path2 ≡ path → copy ≡ answer → answer ≡ call_log → new ≡ held.notes ++ ReadAt path2 at max copy ∷ []
      → (held.given ≡ old.given) × (entries_from held.given new ≡ entries_from old.given old.notes ++ entry (files.ReadAt path at max) call_log ∷ [])
  tells_read path path2 at max answer copy call_log same clone_optional is noted =
      tells (ReadAt path at max call_log)
      (noted ∙ ap (λ (p : List ℕ). held.notes ++ ReadAt p at max copy ∷ []) same ∙ ap (λ (a : Option (List ℕ)). held.notes ++ ReadAt path at max a ∷ []) (clone_optional ∙ is))

-- after a recorded change
module _ (given now after : FilesGiven) (notes new : List FilesNote) (calls : ℕ) (fails : List ℕ) (kept : IsKept given now notes calls fails) where
  pub preset_kept : (path path2 bytes bytes2 : List ℕ) (content : List ℕ) → path2 ≡ path → bytes2 ≡ bytes → content ≡ bytes → new ≡ notes ++ Preset path2 bytes2 ∷ [] → HasContent path (Some content) now after → IsKept given after new calls fails
  preset_kept path path2 bytes bytes2 content same same_bytes is noted has =
      let has2 : HasContent path2 (Some bytes2) now after = rw (same, same_bytes, ← is) has in
      subst (λ (l : List FilesNote). IsKept given after l calls fails) (sym noted) (keeps_preset given now notes calls fails kept path2 bytes2 after has2)

  pub change_kept : (change change2 : FileChange) → change2 ≡ change → new ≡ notes ++ Change change2 ∷ [] → HasContent (path_of change) (changed change (found now (path_of change))) now after → IsKept given after new calls fails
  change_kept change change2 same noted has =
      subst (λ (l : List FilesNote). IsKept given after l calls fails) (sym noted)
      (keeps_change given now notes calls fails kept change2 after (subst (λ (x : FileChange). HasContent (path_of x) (changed x (found now (path_of x))) now after) (sym same) has))

  pub number_kept : (call : ℕ) (numbers : List ℕ) → ((n : ℕ) → list_any (is_at (nat_cmp n)) numbers ≡ cond (is_at (nat_cmp call) n) true (list_any (is_at (nat_cmp n)) fails)) → new ≡ notes ++ FailAt call ∷ []
      → IsKept given now new calls numbers
  number_kept call numbers has noted = subst (λ (l : List FilesNote). IsKept given now l calls numbers) (sym noted) (keeps_number given now notes calls fails kept call numbers has)
