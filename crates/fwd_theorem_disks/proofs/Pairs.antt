-- Programs on both disks: the disk in memory is asked the same, and gives the same answers.
use Rattle.std.proofs.Common.{◌≡◌, ⊎_elim, ℕ, ◌+◌, ◌-◌, ◌<◌, ◌≤◌, zero, suc, nat_lt, Bool, true, false, IsTrue, if◌then◌else◌, Option, Some, None, is_some, List, [], ◌∷◌, ◌++◌, length, take, drop, refl, sym, ◌∙◌, ap, subst, arith}
use Rattle.std.specs.Int.{to_be_bytes, w32}
use Rattle.std.proofs.lemmas.Bool.{ltb-true}
use Rattle.std.proofs.lemmas.List.{take-take, drop-take, drop-drop}
use Rattle.fwd_outside.specs.Program.{Return, Ask, and_then}
use Rattle.fwd_outside.specs.AtCrashPoints.{HoldsThroughout}
use Rattle.fwd_outside.specs.Disk.{DiskAnswer, DiskProgram, WriteAt, Sync, Read, writes, removes}
use Rattle.fwd_outside.specs.File.{FileState, whole, overwritten, after_write}
use Rattle.fwd_outside.specs.DiskStates.{Files, CanWrite, ReadAnswer, DiskTransition}
use Rattle.fwd_outside.proofs.KeepsBytes.{length-overwritten}
use Rattle.fwd_chunk.specs.declared.append.ChunkHead.{ChunkHead}
use Rattle.fwd_chunk.specs.Layout.{part, other}
use Rattle.fwd_chunk.specs.Append.{sync_if_program, next_selector, stage_program, commit_program}
use Rattle.fwd_chunk.specs.Outcome.{outcome_place, settle_at_program, settle_program}
use Rattle.fwd_chunk.specs.Content.{piece, after_read, read_loop}
use Rattle.fwd_chunk.specs.declared.kept.Kept.TheVariants.{InFile}
use Rattle.fwd_chunk.specs.Kept.{appends}
use Rattle.fwd_chunk.proofs.FileParts.{slots}
use Rattle.fwd_theorem_content.proofs.FileEffects.{Anything, place_inside}
use Rattle.fwd_theorem_disks.proofs.MemFiles.{changed_here, acted, mem_after, Right, mem_inside, written, mem_transits}

-- whatever the disk does, the one in memory gives the same answers, and Q holds at the end
abbrev pub Goes : {R : Type 0} → (R → Files → Files → Type 0) → Files → Files → DiskProgram R → Type 0
Goes Q live mem (Return x) = Q x live mem
Goes Q live mem (Ask call go) =
    (answer : DiskAnswer call) (during new : Files) → DiskTransition call answer live during new → Right call answer mem × Goes Q new (mem_after call answer mem) (go answer)

-- for a program that reads nothing
abbrev pub MemGoes : {R : Type 0} → (R → Files → Type 0) → Files → DiskProgram R → Type 0
MemGoes Q mem (Return x) = Q x mem
MemGoes Q mem (Ask call go) = (answer : DiskAnswer call) → Right call answer mem × MemGoes Q (mem_after call answer mem) (go answer)

module _ {R : Type 0} (Q M L : R → Files → Type 0) where
  abbrev pub Both : R → Files → Files → Type 0
  Both x live mem = Q x live × (M x mem × L x mem)

  pub goes_both : (p : DiskProgram R) (live mem : Files) → HoldsThroughout DiskTransition Anything Q live p → HoldsThroughout DiskTransition Anything M mem p → MemGoes L mem p → Goes Both live mem p
  goes_both (Return x) live mem first second right = (first.1, (second.1, right))
  goes_both (Ask call go) live mem first second right = λ answer during new steps.
      let its = right answer in
      (its.0, goes_both (go answer) new (mem_after call answer mem) (first.1 answer during new steps).1 (second.1 answer (mem_inside call answer mem) (mem_after call answer mem) (mem_transits call answer mem its.0)).1 its.1)

pub mem_then : {R S : Type 0} (M : Option R → Files → Type 0) (Q : Option S → Files → Type 0) (p : DiskProgram (Option R)) (next : R → DiskProgram (Option S)) (mem : Files) → MemGoes M mem p
    → ((x : R) (now : Files) → M (Some x) now → MemGoes Q now (next x)) → ((now : Files) → M None now → Q None now) → MemGoes Q mem (and_then p next)
mem_then M Q (Return (Some x)) next mem first more failed = more x mem first
mem_then M Q (Return None) next mem first more failed = failed mem first
mem_then M Q (Ask call go) next mem first more failed = λ answer. let its = first answer in (its.0, mem_then M Q (go answer) next (mem_after call answer mem) its.1 more failed)

-- ---- a file that is there, with so many bytes

pub record Has (name : List ℕ) (long : ℕ) (files : Files) : Type 0 where
  pub there : IsTrue (files name).there
  pub bytes : long ≤ length (files name).bytes

abbrev pub HasBy : {X : Type 0} → List ℕ → (old new : ℕ) → Option X → Files → Type 0
HasBy name old new None files = Has name old files
HasBy name old new (Some x) files = Has name new files

pub has_less : (name : List ℕ) (long less : ℕ) (files : Files) → less ≤ long → Has name long files → Has name less files
has_less name long less files le has = let bytes = has.bytes in record { there = has.there; bytes = omega (arith, le, bytes) }

pub has_same : (name : List ℕ) (long : ℕ) (files now : Files) → now name ≡ files name → Has name long files → Has name long now
has_same name long files now same has = record {
  there = ap (λ (f : FileState). f.there) same ∙ has.there;
  bytes = subst (λ (f : FileState). long ≤ length f.bytes) (sym same) has.bytes;
}

module _ (name : List ℕ) where
  may_write : (at long : ℕ) (files : Files) → at ≤ long → Has name long files → CanWrite (files name) at
  may_write at long files le has = let bytes = has.bytes in record { there = has.there; within = omega (arith, le, bytes) }

  -- the file after a write, also after a failed one
  wrote : (at : ℕ) (bytes : List ℕ) (long : ℕ) (answer : Option (Unit {0})) (files : Files) → at ≤ long → Has name long files
      → mem_after (WriteAt name at bytes) answer files name ≡ after_write (files name) at (length bytes) (if is_some answer then bytes else [])
  wrote at bytes long answer files le has = changed_here name (acted (WriteAt name at bytes) answer) files ∙ written name at bytes answer (files name) (may_write at long files le has)

  kept_long : (at : ℕ) (bytes : List ℕ) (long : ℕ) (answer : Option (Unit {0})) (files : Files) → at ≤ long → Has name long files → Has name long (mem_after (WriteAt name at bytes) answer files)
  kept_long at bytes long answer files le has =
      let left : List ℕ = if is_some answer then bytes else [] in
      let is = wrote at bytes long answer files le has in
      let was = has.bytes in
      let within : at ≤ length (files name).bytes = omega (arith, le, was) in
      let longer : long ≤ length (overwritten (files name).bytes at left) = omega (arith, was, length-overwritten (files name).bytes at left within) in
      record { there = ap (λ (f : FileState). f.there) is ∙ has.there; bytes = subst (λ (f : FileState). long ≤ length f.bytes) (sym is) longer }

  -- a write inside the file
  writes_inside : (at : ℕ) (bytes : List ℕ) (old new : ℕ) (files : Files) → at ≤ new → old ≤ new → Has name new files → MemGoes (HasBy name old new) files (writes name at bytes)
  writes_inside at bytes old new files le less has = λ answer. (may_write at new files le has, by answer (kept_long at bytes new answer files le has))
    where
      by : (answer : Option (Unit {0})) → Has name new (mem_after (WriteAt name at bytes) answer files) → HasBy name old new answer (mem_after (WriteAt name at bytes) answer files)
      by None is = has_less name new old (mem_after (WriteAt name at bytes) None files) less is
      by (Some done) is = is

  -- a write at the end of what is known of it
  writes_behind : (bytes : List ℕ) (old : ℕ) (files : Files) → Has name old files → MemGoes (HasBy name old (old + length bytes)) files (writes name old bytes)
  writes_behind bytes old files has = λ answer. (may_write old old files (omega arith) has, by answer)
    where
      by : (answer : Option (Unit {0})) → HasBy name old (old + length bytes) answer (mem_after (WriteAt name old bytes) answer files)
      by None = kept_long old bytes old None files (omega arith) has
      by (Some done) =
          let was = has.bytes in
          let is = wrote old bytes old (Some done) files (omega arith) has in
          let longer : old + length bytes ≤ length (overwritten (files name).bytes old bytes) = omega (arith, length-overwritten (files name).bytes old bytes was) in
          record { there = ap (λ (f : FileState). f.there) is ∙ has.there; bytes = subst (λ (f : FileState). old + length bytes ≤ length f.bytes) (sym is) longer }

  sync_state : (answer : Option (Unit {0})) (long : ℕ) (state : FileState) → IsTrue state.there → long ≤ length state.bytes → IsTrue (acted (Sync name) answer state).there × (long ≤ length (acted (Sync name) answer state).bytes)
  sync_state None long state there le = (there, le)
  sync_state (Some done) long state there le =
      subst (λ (b : Bool). IsTrue (if b then whole state.bytes else state).there × (long ≤ length (if b then whole state.bytes else state).bytes)) (sym there) (refl, le)

  synced_has : (answer : Option (Unit {0})) (long : ℕ) (files : Files) → Has name long files → Has name long (mem_after (Sync name) answer files)
  synced_has answer long files has =
      let is = changed_here name (acted (Sync name) answer) files in
      let now = sync_state answer long (files name) has.there has.bytes in
      record { there = ap (λ (f : FileState). f.there) is ∙ now.0; bytes = subst (λ (f : FileState). long ≤ length f.bytes) (sym is) now.1 }

  syncs_if : (full : Bool) (old new : ℕ) (files : Files) → old ≤ new → Has name new files → MemGoes (HasBy name old new) files (sync_if_program full name)
  syncs_if false old new files le has = has
  syncs_if true old new files le has = λ answer. (has.there, by answer (synced_has answer new files has))
    where
      by : (answer : Option (Unit {0})) → Has name new (mem_after (Sync name) answer files) → HasBy name old new answer (mem_after (Sync name) answer files)
      by None is = has_less name new old (mem_after (Sync name) None files) le is
      by (Some done) is = is

  then_has : {R S : Type 0} (old new : ℕ) (p : DiskProgram (Option R)) (next : R → DiskProgram (Option S)) (files : Files) → MemGoes (HasBy name old new) files p → ((x : R) (now : Files) → Has name new now → MemGoes (HasBy name old new) now (next x)) → MemGoes (HasBy name old new) files (and_then p next)
  then_has old new p next files first more = mem_then (HasBy name old new) (HasBy name old new) p next files first more (λ now is. is)

-- ---- an append

module _ (head : ChunkHead) (batch : List ℕ) where
  abbrev long : ℕ
  long = 24 + head.meta + head.size

  abbrev longer : ℕ
  longer = long + length batch

  abbrev Does : Files → DiskProgram (Option (Unit {0})) → Type 0
  Does now p = MemGoes (HasBy head.name long longer) now p

  slot_before : other head.selector + 4 ≤ 24
  slot_before = ⊎_elim (λ is. omega (arith, is.1)) (λ is. omega (arith, is.1)) (slots head.selector)

  in_header : (at : ℕ) (bytes : List ℕ) → at ≤ 24 → (now : Files) → Has head.name longer now → Does now (writes head.name at bytes)
  in_header at bytes le now has = writes_inside head.name at bytes long longer now (omega (arith, le)) (omega arith) has

  sync_goes : (full : Bool) (now : Files) → Has head.name longer now → Does now (sync_if_program full head.name)
  sync_goes full now has = syncs_if head.name full long longer now (omega arith) has

  then_goes : (p : DiskProgram (Option (Unit {0}))) (next : Unit {0} → DiskProgram (Option (Unit {0}))) (now : Files) → Does now p → ((x : Unit {0}) (end : Files) → Has head.name longer end → Does end (next x)) → Does now (and_then p next)
  then_goes p next now first more = then_has head.name long longer p next now first more

  stage_goes : (full : Bool) (files : Files) → Has head.name long files → Does files (stage_program head batch full)
  stage_goes full files has =
      then_goes (writes head.name long batch) (λ _. and_then (writes head.name (other head.selector) (to_be_bytes w32 (head.size + length batch))) (λ _. sync_if_program full head.name)) files (writes_behind head.name batch long files has)
      (λ _ now was.
      then_goes (writes head.name (other head.selector) (to_be_bytes w32 (head.size + length batch))) (λ _. sync_if_program full head.name) now
      (let slot = slot_before in in_header (other head.selector) (to_be_bytes w32 (head.size + length batch)) (omega (arith, slot)) now was) (λ _ end is. sync_goes full end is))

  commit_goes : (full : Bool) (now : Files) → Has head.name longer now → Does now (commit_program head full)
  commit_goes full now was =
      then_goes (writes head.name 7 (next_selector head.selector ∷ [])) (λ _. sync_if_program full head.name) now (in_header 7 (next_selector head.selector ∷ []) (omega arith) now was) (λ _ end is. sync_goes full end is)

  pub append_goes : (full : Bool) (files : Files) → Has head.name (24 + head.meta + head.size) files → MemGoes (HasBy head.name (24 + head.meta + head.size) (24 + head.meta + head.size + length batch)) files (appends (InFile head) batch full)
  append_goes full files has = then_goes (stage_program head batch full) (λ _. commit_program head full) files (stage_goes full files has) (λ _ now was. commit_goes full now was)

-- ---- an outcome

module _ (head : ChunkHead) (output : List ℕ) where
  abbrev its : ℕ
  its = 24 + head.meta + head.size

  outcome_by : (full : Bool) (files : Files) (place : Option ℕ) → outcome_place head output ≡ place → Has head.name its files → MemGoes (HasBy head.name its its) files (settle_at_program head full place)
  outcome_by full files None is has = has
  outcome_by full files (Some place) is has =
      let inside = place_inside head output place is in
      then_has head.name its its (writes head.name place (68 ∷ [])) (λ _. and_then (sync_if_program full head.name) (λ _. Return (Some true))) files (writes_inside head.name place (68 ∷ []) its its files (omega (arith, inside)) (omega arith) has)
      (λ _ now was. then_has head.name its its (sync_if_program full head.name) (λ _. Return (Some true)) now (syncs_if head.name full its its now (omega arith) was) (λ _ end stands. stands))

  pub outcome_goes : (full : Bool) (files : Files) → Has head.name (24 + head.meta + head.size) files → MemGoes (HasBy head.name (24 + head.meta + head.size) (24 + head.meta + head.size)) files (settle_program head output full)
  outcome_goes full files has = outcome_by full files (outcome_place head output) refl has

-- ---- a removal

-- nothing more is known
abbrev pub Done : {X : Type 0} → X → Files → Type 0
Done x files = Unit {0}

pub removal_goes : (name : List ℕ) (files : Files) → IsTrue (files name).there → MemGoes Done files (removes name)
removal_goes name files there = λ answer. (there, tt)

-- ---- reads

-- a part of equal parts
same_part : (one other : List ℕ) (from size k len : ℕ) → k + len ≤ size → part one from size ≡ part other from size → take len (drop (from + k) one) ≡ take len (drop (from + k) other)
same_part one other from size k len le same = inside one ∙ ap (λ (l : List ℕ). take len (drop k l)) same ∙ sym (inside other)
  where
    inside : (all : List ℕ) → take len (drop (from + k) all) ≡ take len (drop k (part all from size))
    inside all =
        let rest : List ℕ = drop from all in
        let more : size ≡ k + (size - k) = omega (arith, le) in
        let cut : drop k (take size rest) ≡ take (size - k) (drop k rest) = ap (λ (n : ℕ). drop k (take n rest)) more ∙ drop-take k (size - k) rest in
        ap (λ (l : List ℕ). take len l) (sym (drop-drop k from all)) ∙ sym (take-take len (size - k) (drop k rest) (omega (arith, le))) ∙ ap (λ (l : List ℕ). take len l) (sym cut)

module _ (name : List ℕ) (from size : ℕ) (live mem : Files) (there : IsTrue (mem name).there) (same : part (live name).bytes from size ≡ part (mem name).bytes from size) where
  abbrev pub Unmoved : Option (List ℕ) → Files → Files → Type 0
  Unmoved answer now other = (now ≡ live) × (other ≡ mem)

  abbrev wanted : List ℕ → ℕ
  wanted so_far = piece (size - length so_far)

  right_read : (so_far : List ℕ) (answer : Option (List ℕ)) → length so_far < size → ReadAnswer (from + length so_far) (wanted so_far) answer (live name) → ReadAnswer (from + length so_far) (wanted so_far) answer (mem name)
  right_read so_far None some read = tt
  right_read so_far (Some bytes) some read = (there, read.1 ∙ same_part (live name).bytes (mem name).bytes from size (length so_far) (wanted so_far) (omega (arith, some)) same)

  reads_on : (reads : ℕ) (so_far : List ℕ) → Goes Unmoved live mem (read_loop reads name from size so_far)
  reads_on zero so_far = (refl, refl)
  reads_on (suc reads) so_far = by (nat_lt (length so_far) size) refl (λ more. reads_on reads more)
    where
      by : (b : Bool) → nat_lt (length so_far) size ≡ b → ((more : List ℕ) → Goes Unmoved live mem (read_loop reads name from size more))
          → Goes Unmoved live mem (if b then Ask (Read name (from + length so_far) (wanted so_far)) (after_read (read_loop reads name from size) so_far (wanted so_far)) else Return (Some so_far))
      by false ge rest = (refl, refl)
      by true lt rest = λ answer during new steps. (
        (there, right_read so_far answer (ltb-true (length so_far) size lt) steps.0),
        subst (λ (now : Files). Goes Unmoved now mem (after_read (read_loop reads name from size) so_far (wanted so_far) answer)) (sym steps.1.1) (behind answer),
      )
        where
          behind : (answer : Option (List ℕ)) → Goes Unmoved live mem (after_read (read_loop reads name from size) so_far (wanted so_far) answer)
          behind None = (refl, refl)
          behind (Some more) = which (nat_lt (length more) (wanted so_far))
            where
              which : (b : Bool) → Goes Unmoved live mem (if b then Return (Some (so_far ++ more)) else read_loop reads name from size (so_far ++ more))
              which true = (refl, refl)
              which false = rest (so_far ++ more)

  pub reads_goes : Goes (λ (answer : Option (List ℕ)) (now other : Files). (now ≡ live) × (other ≡ mem)) live mem (read_loop size name from size [])
  reads_goes = reads_on size []
