-- Reads of a file in pieces.
use Rattle.std.proofs.Common.{◌≡◌, ◌≢◌, ℕ, zero, suc, ◌+◌, ◌-◌, ◌<◌, ◌≤◌, nat_lt, Bool, true, false, if◌then◌else◌, List, ◌++◌, length, length-append, Option, Some, None, Result, Ok, Err, IsErrAnd, refl, sym, subst, arith}
use Rattle.std.proofs.lemmas.Bool.{lt-ltb, le-ltb}
use Rattle.fwd_outside.specs.Program.{Return, Ask}
use Rattle.fwd_outside.specs.Log.{LogGrew, Leads, Completes, RunsFallible, log_of_call}
use Rattle.fwd_outside.proofs.Executions.{call_logged, call_unlogged, leads_trans}
use Rattle.fwd_outside.specs.declared.errors.DiskErr.{DiskErr}
use Rattle.fwd_outside.specs.declared.errors.DiskErr.TheVariants.{Failed, Memory}
use Rattle.fwd_outside.specs.Disk.{DiskLog, DiskProgram, Read, disk_outcome}
use Rattle.fwd_chunk.specs.Content.{piece, after_read, read_loop}

-- if bytes are left to read, they are asked for
record Asks (reads : ℕ) (name : List ℕ) (from size : ℕ) (so_far : List ℕ) : Type 0 where
  left : ℕ
  one_less : reads ≡ suc left
  is : read_loop reads name from size so_far ≡ Ask (Read name (from + length so_far) (piece (size - length so_far))) (after_read (read_loop left name from size) so_far (piece (size - length so_far)))

asks : (reads : ℕ) (name : List ℕ) (from size : ℕ) (so_far : List ℕ) → length so_far < size → size ≤ length so_far + reads → Asks reads name from size so_far
asks zero name from size so_far some enough = absurd (omega arith)
asks (suc left) name from size so_far some enough = record { left = left; one_less = refl; is = rw (lt-ltb (length so_far) size some) refl }

-- the remaining reads can't fail before the first one
pub rest_begins : (reads : ℕ) (name : List ℕ) (from size : ℕ) (so_far : List ℕ) → read_loop reads name from size so_far ≢ Return None
rest_begins zero name from size so_far is = absurd (cc is)
rest_begins (suc left) name from size so_far is = one_begins (nat_lt (length so_far) size) is
  where
    one_begins : (more : Bool) → (if more then Ask (Read name (from + length so_far) (piece (size - length so_far))) (after_read (read_loop left name from size) so_far (piece (size - length so_far))) else Return (Some so_far)) ≢ Return None
    one_begins true is = absurd (cc is)
    one_begins false is = absurd (cc is)

piece_begins : (reads : ℕ) (name : List ℕ) (from size : ℕ) (so_far : List ℕ) (wanted : ℕ) (part : List ℕ) → after_read (read_loop reads name from size) so_far wanted (Some part) ≢ Return None
piece_begins reads name from size so_far wanted part is = one_begins (nat_lt (length part) wanted) is
  where
    one_begins : (short : Bool) → (if short then Return (Some (so_far ++ part)) else read_loop reads name from size (so_far ++ part)) ≢ Return None
    one_begins true is = absurd (cc is)
    one_begins false is = rest_begins reads name from size (so_far ++ part) is

-- One more read of `wanted` bytes, at the offset that was reached. `before` leads to it.
module _ (a b c : DiskLog) (p : DiskProgram (Option (List ℕ))) (reads : ℕ) (name : List ℕ) (from size : ℕ) (so_far : List ℕ) (at wanted : ℕ)
    (here : at ≡ from + length so_far) (some : length so_far < size) (rest : wanted ≡ piece (size - length so_far)) (enough : size ≤ length so_far + reads) (before : Leads a b p (read_loop reads name from size so_far)) where
  asks_here : Asks reads name from size so_far
  asks_here = asks reads name from size so_far some enough

  goes_here : (answer : Option (List ℕ)) → LogGrew b c (log_of_call (Read name at wanted) (Some answer)) → Leads b c (read_loop reads name from size so_far) (after_read (read_loop asks_here.left name from size) so_far wanted answer)
  goes_here answer g =
      let call_log = subst (λ (n : ℕ). LogGrew b c (log_of_call (Read name (from + length so_far) n) (Some answer))) rest (subst (λ (n : ℕ). LogGrew b c (log_of_call (Read name n wanted) (Some answer))) here g) in
      subst (λ (n : ℕ). Leads b c (read_loop reads name from size so_far) (after_read (read_loop asks_here.left name from size) so_far n answer)) (sym rest)
      (rw asks_here.is (call_logged (Read name (from + length so_far) (piece (size - length so_far))) answer (after_read (read_loop asks_here.left name from size) so_far (piece (size - length so_far))) call_log))

  pub read_failed : (e : DiskErr) (r : Result (List ℕ) DiskErr) → IsErrAnd r (λ x. x ≡ e) → LogGrew b c (log_of_call (Read name at wanted) (disk_outcome {T = List ℕ} (Err e))) → RunsFallible a c p (disk_outcome r)
  read_failed e (Ok x) is g = absurd is
  read_failed Failed (Err Failed) is g = leads_trans before (goes_here None g)
  read_failed Memory (Err Memory) is g = (read_loop reads name from size so_far, leads_trans before (call_unlogged (read_loop reads name from size so_far) g), rest_begins reads name from size so_far)
  read_failed Failed (Err Memory) is g = absurd (cc is)
  read_failed Memory (Err Failed) is g = absurd (cc is)

  -- as many bytes came as were asked for
  pub read_whole_piece : (part : List ℕ) → wanted ≤ length part → LogGrew b c (log_of_call (Read name at wanted) (Some (Some part)))
      → (left : ℕ) × (size ≤ length (so_far ++ part) + left) × Leads a c p (read_loop left name from size (so_far ++ part))
  read_whole_piece part all g = (
    asks_here.left,
    omega (arith, asks_here.one_less, enough, rest, length-append so_far part),
    rw (le-ltb (length part) wanted all) at (leads_trans before (goes_here (Some part) g)),
  )

  -- fewer bytes came: the file ends here
  pub read_short_piece : (part : List ℕ) → length part < wanted → LogGrew b c (log_of_call (Read name at wanted) (Some (Some part))) → Completes a c p (Some (so_far ++ part))
  read_short_piece part short g = rw (lt-ltb (length part) wanted short) at (leads_trans before (goes_here (Some part) g))

  -- bytes came, and memory ran out
  pub read_stopped : (part : List ℕ) (r : Result (List ℕ) DiskErr) → IsErrAnd r (λ x. x ≡ Memory) → LogGrew b c (log_of_call (Read name at wanted) (Some (Some part))) → RunsFallible a c p (disk_outcome r)
  read_stopped part (Ok x) is g = absurd is
  read_stopped part (Err Failed) is g = absurd (cc is)
  read_stopped part (Err Memory) is g = (after_read (read_loop asks_here.left name from size) so_far wanted (Some part), leads_trans before (goes_here (Some part) g), piece_begins asks_here.left name from size so_far wanted part)

-- all bytes are read
pub read_to_its_end : (reads : ℕ) (name : List ℕ) (from size : ℕ) (so_far : List ℕ) → size ≤ length so_far → read_loop reads name from size so_far ≡ Return (Some so_far)
read_to_its_end zero name from size so_far all = refl
read_to_its_end (suc left) name from size so_far all = rw (le-ltb (length so_far) size all) refl
