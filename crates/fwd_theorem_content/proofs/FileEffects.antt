-- What calls on one file leave of its bytes, whether they succeed or fail.
use Rattle.std.proofs.Common.{◌≡◌, inl, inr, ⊎_elim, ℕ, ◌+◌, ◌≤◌, Bool, true, false, if◌then◌else◌, List, [], ◌∷◌, ◌++◌, length, Option, Some, None, refl, sym, ◌∙◌, ap, subst, arith}
use Rattle.std.specs.Int.{to_be_bytes, w32}
use Rattle.std.specs.Str.{bytes_eq}
use Rattle.fwd_outside.specs.AtCrashPoints.{HoldsThroughout}
use Rattle.fwd_outside.specs.Program.{Return, Ask, and_then}
use Rattle.fwd_outside.specs.Disk.{DiskProgram, writes, removes}
use Rattle.fwd_outside.specs.File.{FileState, overwritten}
use Rattle.fwd_outside.specs.DiskStates.{Files, WriteTransition, SyncTransition, OnFile, DiskTransition}
use Rattle.fwd_outside.specs.PostCrash.{OthersUnchanged}
use Rattle.fwd_outside.proofs.AndThen.{holds_and_then}
use Rattle.fwd_chunk.specs.declared.append.ChunkHead.{ChunkHead}
use Rattle.fwd_chunk.specs.Layout.{part, other}
use Rattle.fwd_chunk.specs.Append.{sync_if_program, next_selector, stage_program, commit_program}
use Rattle.fwd_chunk.specs.Outcome.{named_length, bytes_from, outcome_place, settle_at_program, settle_program}
use Rattle.fwd_chunk.specs.declared.kept.Kept.TheVariants.{InFile}
use Rattle.fwd_chunk.specs.Kept.{appends}
use Rattle.fwd_chunk.proofs.FileParts.{slots, part_and_batch}
use Rattle.fwd_chunk.proofs.OutcomeByte.{placed_at}
use Rattle.fwd_theorem_content.proofs.FileBytes.{part_after, part_before}

abbrev pub Anything : Files → Type 0
Anything now = Unit {0}

-- what holds at each point holds at the end too
pub holds_at_end : {R : Type 0} (P : Files → Type 0) (Q : R → Files → Type 0) (s : Files) (p : DiskProgram R) → HoldsThroughout DiskTransition P Q s p → HoldsThroughout DiskTransition Anything (λ x t. P t × Q x t) s p
holds_at_end P Q s (Return x) holds = (tt, (holds.0, holds.1))
holds_at_end P Q s (Ask call go) holds = (tt, λ answer during after steps. (tt, holds_at_end P Q after (go answer) (holds.1 answer during after steps).1))

-- no other file changed, and the bytes of this one have a property
pub record HasBytes (name : List ℕ) (first : Files) (D : List ℕ → Type 0) (now : Files) : Type 0 where
  pub same : OthersUnchanged name first now
  pub here : D (now name).bytes

module _ (name : List ℕ) (first : Files) where
  -- E holds of the bytes after a success, and D after a failure
  abbrev pub Leaves : {R : Type 0} → (D E : List ℕ → Type 0) → Option R → Files → Type 0
  Leaves D E None now = HasBytes name first D now
  Leaves D E (Some x) now = HasBytes name first E now

  abbrev pub DoesLeave : {R : Type 0} → (D E : List ℕ → Type 0) → Files → DiskProgram (Option R) → Type 0
  DoesLeave D E files p = HoldsThroughout DiskTransition Anything (λ answer now. Leaves D E answer now) files p

  pub first_has : (D : List ℕ → Type 0) → D (first name).bytes → HasBytes name first D first
  first_has D here = record { same = λ n ne. refl; here = here }

  wrote_leaves : (D E : List ℕ → Type 0) (at : ℕ) (bytes : List ℕ) (files : Files) → HasBytes name first D files
      → ((left : List ℕ) → at ≤ length (files name).bytes → length left ≤ length bytes → D (overwritten (files name).bytes at left))
      → (at ≤ length (files name).bytes → E (overwritten (files name).bytes at bytes))
      → (answer : Option (Unit {0})) (during now : Files) → OnFile name (WriteTransition at bytes answer) files during now → Leaves D E answer now
  wrote_leaves D E at bytes files was keeps done (Some answered) during now steps =
      record { same = λ n ne. steps.others n ne ∙ was.same n ne; here = subst E (sym (ap (λ (f : FileState). f.bytes) steps.file.2)) (done steps.file.0.within) }
  wrote_leaves D E at bytes files was keeps done None during now steps = record { same = λ n ne. steps.others n ne ∙ was.same n ne; here = by steps.file }
    where
      by : WriteTransition at bytes None (files name) (during name) (now name) → D (now name).bytes
      by (inl wrote) = subst D (sym (ap (λ (f : FileState). f.bytes) wrote.4)) (keeps wrote.1 wrote.0.within wrote.2)
      by (inr unchanged) = subst D (sym (ap (λ (f : FileState). f.bytes) unchanged.1)) was.here

  pub writes_leave : (D E : List ℕ → Type 0) (at : ℕ) (bytes : List ℕ) (files : Files) → HasBytes name first D files
      → ((left : List ℕ) → at ≤ length (files name).bytes → length left ≤ length bytes → D (overwritten (files name).bytes at left))
      → (at ≤ length (files name).bytes → E (overwritten (files name).bytes at bytes))
      → DoesLeave D E files (writes name at bytes)
  writes_leave D E at bytes files was keeps done = (tt, λ answer during now steps. (tt, (tt, wrote_leaves D E at bytes files was keeps done answer during now steps)))

  synced_leaves : (D E : List ℕ → Type 0) (files : Files) → HasBytes name first D files → E (files name).bytes → (answer : Option (Unit {0})) (during now : Files) → OnFile name (SyncTransition answer) files during now → Leaves D E answer now
  synced_leaves D E files was done (Some answered) during now steps =
      record { same = λ n ne. steps.others n ne ∙ was.same n ne; here = subst E (sym (ap (λ (f : FileState). f.bytes) steps.file.2)) done }
  synced_leaves D E files was done None during now steps =
      record { same = λ n ne. steps.others n ne ∙ was.same n ne; here = subst D (sym (ap (λ (f : FileState). f.bytes) steps.file.1)) was.here }

  pub syncs_leave : (D E : List ℕ → Type 0) (full : Bool) (files : Files) → HasBytes name first D files → E (files name).bytes → DoesLeave D E files (sync_if_program full name)
  syncs_leave D E true files was done = (tt, λ answer during now steps. (tt, (tt, synced_leaves D E files was done answer during now steps)))
  syncs_leave D E false files was done = (tt, record { same = was.same; here = done })

  pub then_leaves : {R S : Type 0} (D M E : List ℕ → Type 0) (p : DiskProgram (Option R)) (next : R → DiskProgram (Option S)) (files : Files)
      → DoesLeave D M files p → ((x : R) (now : Files) → HasBytes name first M now → DoesLeave D E now (next x)) → DoesLeave D E files (and_then p next)
  then_leaves D M E p next files before more = holds_and_then DiskTransition Anything (λ answer now. Leaves D M answer now) (λ answer now. Leaves D E answer now) files p next before (λ x now left. more x now left) (λ now left. (tt, left))

-- ---- an append

-- the content is in these bytes, after the metadata
abbrev pub Stands : ChunkHead → List ℕ → List ℕ → Type 0
Stands head content bytes = part bytes (24 + head.meta) head.size ≡ content

-- and so is the batch, after the content
abbrev pub StandsWith : ChunkHead → List ℕ → List ℕ → List ℕ → Type 0
StandsWith head content batch bytes = Stands head content bytes × (part bytes (24 + head.meta) (head.size + length batch) ≡ content ++ batch)

-- whether it succeeds or not, the content is there; and after a success the batch follows it
module _ (head : ChunkHead) (content batch : List ℕ) (files : Files) where
  abbrev Old : List ℕ → Type 0
  Old bytes = Stands head content bytes

  abbrev Both : List ℕ → Type 0
  Both bytes = StandsWith head content batch bytes

  abbrev Does : Files → DiskProgram (Option (Unit {0})) → Type 0
  Does now p = DoesLeave head.name files Old Both now p

  old_of : (now : Files) → HasBytes head.name files Both now → HasBytes head.name files Old now
  old_of now was = record { same = was.same; here = was.here.0 }

  -- a write into the header
  slot_leaves : (at : ℕ) (bytes : List ℕ) → at + length bytes ≤ 24 → (now : Files) → HasBytes head.name files Both now → Does now (writes head.name at bytes)
  slot_leaves at bytes before now was =
      writes_leave head.name files Old Both at bytes now (old_of now was)
      (λ left le short. part_after (now head.name).bytes at left (24 + head.meta) head.size le (omega (arith, before, short)) ∙ was.here.0)
      (λ le. (
        part_after (now head.name).bytes at bytes (24 + head.meta) head.size le (omega (arith, before)) ∙ was.here.0,
        part_after (now head.name).bytes at bytes (24 + head.meta) (head.size + length batch) le (omega (arith, before)) ∙ was.here.1,
      ))

  sync_leaves : (full : Bool) (now : Files) → HasBytes head.name files Both now → Does now (sync_if_program full head.name)
  sync_leaves full now was = syncs_leave head.name files Old Both full now (old_of now was) was.here

  then_both : (p : DiskProgram (Option (Unit {0}))) (next : Unit {0} → DiskProgram (Option (Unit {0}))) (now : Files) → Does now p → ((x : Unit {0}) (end : Files) → HasBytes head.name files Both end → Does end (next x)) → Does now (and_then p next)
  then_both p next now before more = then_leaves head.name files Old Both Both p next now before more

  slot_before : other head.selector + 4 ≤ 24
  slot_before = ⊎_elim (λ is. omega (arith, is.1)) (λ is. omega (arith, is.1)) (slots head.selector)

  abbrev count : List ℕ
  count = to_be_bytes w32 (head.size + length batch)

  stages : (full : Bool) → Old (files head.name).bytes → Does files (stage_program head batch full)
  stages full old =
      let bytes : List ℕ = (files head.name).bytes in
      then_both (writes head.name (24 + head.meta + head.size) batch) (λ _. and_then (writes head.name (other head.selector) count) (λ _. sync_if_program full head.name)) files
      (writes_leave head.name files Old Both (24 + head.meta + head.size) batch files (first_has head.name files Old old)
      (λ left le short. part_before bytes (24 + head.meta + head.size) left (24 + head.meta) head.size le (omega arith) ∙ old)
      (λ le. (
        part_before bytes (24 + head.meta + head.size) batch (24 + head.meta) head.size le (omega arith) ∙ old,
        part_and_batch bytes batch (24 + head.meta) head.size le ∙ ap (λ (l : List ℕ). l ++ batch) old,
      )))
      (λ _ now was.
      then_both (writes head.name (other head.selector) count) (λ _. sync_if_program full head.name) now (slot_leaves (other head.selector) count slot_before now was) (λ _ end is. sync_leaves full end is))

  commits : (full : Bool) (now : Files) → HasBytes head.name files Both now → Does now (commit_program head full)
  commits full now was =
      then_both (writes head.name 7 (next_selector head.selector ∷ [])) (λ _. sync_if_program full head.name) now
      (slot_leaves 7 (next_selector head.selector ∷ []) (omega arith) now was) (λ _ end is. sync_leaves full end is)

  pub append_leaves : (full : Bool) → Stands head content (files head.name).bytes → DoesLeave head.name files (λ bytes. Stands head content bytes) (λ bytes. StandsWith head content batch bytes) files (appends (InFile head) batch full)
  append_leaves full old = then_both (stage_program head batch full) (λ _. commit_program head full) files (stages full old) (λ _ now was. commits full now was)

-- ---- an outcome

count_by : (b : Bool) (name : List ℕ) (names : List (List ℕ)) (rest : Option ℕ) (count : ℕ) → (if b then Some (named_length (name ∷ names)) else rest) ≡ Some count → (rest ≡ Some count → 1 ≤ count) → 1 ≤ count
count_by true name names rest count is more = let e : named_length (name ∷ names) ≡ count = cc is in omega (arith, e)
count_by false name names rest count is more = more is

counts : (output : List ℕ) (names : List (List ℕ)) (count : ℕ) → bytes_from output names ≡ Some count → 1 ≤ count
counts output [] count is = absurd (cc is)
counts output (name ∷ names) count is = count_by (bytes_eq name output) name names (bytes_from output names) count is (λ rest. counts output names count rest)

-- its byte is before the content
pub place_inside : (head : ChunkHead) (output : List ℕ) (place : ℕ) → outcome_place head output ≡ Some place → place + 1 ≤ 24 + head.meta
place_inside head output place is =
    let at = placed_at head output place is in
    let some = counts output head.outputs at.count at.from in
    let e = at.is in
    omega (arith, some, e)

module _ (head : ChunkHead) (output content : List ℕ) (files : Files) (old : Stands head content (files head.name).bytes) where
  abbrev Still : List ℕ → Type 0
  Still bytes = Stands head content bytes

  outcome_at : (full : Bool) (place : Option ℕ) → outcome_place head output ≡ place → DoesLeave head.name files Still Still files (settle_at_program head full place)
  outcome_at full None is = (tt, first_has head.name files Still old)
  outcome_at full (Some place) is =
      let inside = place_inside head output place is in
      then_leaves head.name files Still Still Still (writes head.name place (68 ∷ [])) (λ _. and_then (sync_if_program full head.name) (λ _. Return (Some true))) files
      (writes_leave head.name files Still Still place (68 ∷ []) files (first_has head.name files Still old)
      (λ left le short. part_after (files head.name).bytes place left (24 + head.meta) head.size le (omega (arith, inside, short)) ∙ old)
      (λ le. part_after (files head.name).bytes place (68 ∷ []) (24 + head.meta) head.size le (omega (arith, inside)) ∙ old))
      (λ _ now was.
      then_leaves head.name files Still Still Still (sync_if_program full head.name) (λ _. Return (Some true)) now (syncs_leave head.name files Still Still full now was was.here) (λ _ end is_there. (tt, is_there)))

  pub outcome_leaves : (full : Bool) → DoesLeave head.name files (λ bytes. Stands head content bytes) (λ bytes. Stands head content bytes) files (settle_program head output full)
  outcome_leaves full = outcome_at full (outcome_place head output) refl

-- ---- a removal

pub removal_leaves : (name : List ℕ) (files : Files) → HoldsThroughout DiskTransition Anything (λ answer now. OthersUnchanged name files now) files (removes name)
removal_leaves name files = (tt, λ answer during now steps. (tt, (tt, steps.others)))
