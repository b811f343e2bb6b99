-- Functions that make the calls of a program, by their results.
use Rattle.std.proofs.Common.{◌≡◌, ◌≢◌, ℕ, Bool, List, Option, Some, None, Result, Ok, Err, IsErrAnd, sym, subst}
use Rattle.std.specs.FinMap as map
use Rattle.fwd_outside.specs.Program.{Return, and_then}
use Rattle.fwd_outside.specs.Log.{RunsFallible}
use Rattle.fwd_outside.proofs.Executions.{no_call_made}
use Rattle.fwd_outside.specs.declared.errors.DiskErr.{DiskErr}
use Rattle.fwd_outside.specs.declared.errors.DiskErr.TheVariants.{Failed, Memory as NoRoom}
use Rattle.fwd_outside.specs.declared.home.Home.{Home}
use Rattle.fwd_outside.specs.declared.home.Home.TheVariants.{Disk, Ram}
use Rattle.fwd_outside.specs.Disk.{DiskLog, DiskProgram, disk_outcome}
use Rattle.fwd_outside.proofs.DiskPrograms.{Made, went, stopped, no_call}
use Rattle.fwd_chunk.specs.declared.append.ChunkHead.{ChunkHead}
use Rattle.fwd_chunk.specs.Append.{create_program}
use Rattle.fwd_chunk.specs.declared.kept.Kept.{Kept}
use Rattle.fwd_chunk.specs.declared.kept.Kept.TheVariants.{InFile, Adopted, InMemory}
use Rattle.fwd_store.specs.declared.answer.Accepted.{Accepted}
use Rattle.fwd_store.specs.declared.answer.StoreRefusal.{StoreRefusal}
use Rattle.fwd_store.specs.declared.answer.StoreRefusal.TheVariants.{DiskFailed, BatchTooLarge, Memory, NoNumber}
use Rattle.fwd_store.specs.StoreState.{Stored}
use Rattle.fwd_store.specs.Store.{kept_outcome, accept_outcome, IsRefusalOf, begins_as, append_to_program, accept_into_program, new_name}

-- a function made the calls of a program
pub made : {T : Type 0} {a b : DiskLog} {p : DiskProgram (Option T)} {r : Result T DiskErr} → RunsFallible a b p (disk_outcome r) → Made a b p r
made calls = record { makes = calls }

-- none of these programs fails before a call
pub begins_new : (name tag : List ℕ) (home : Home) (batch : List ℕ) (outputs : List (List ℕ)) → begins_as name tag home batch outputs ≢ Return None
begins_new name tag Disk batch outputs is = absurd (cc is)
begins_new name tag Ram batch outputs is = absurd (cc is)

begins_append : (kept : Option Kept) (batch : List ℕ) (full : Bool) → append_to_program kept batch full ≢ Return None
begins_append (Some (InFile head)) batch full is = absurd (cc is)
begins_append (Some (Adopted head)) batch full is = absurd (cc is)
begins_append (Some (InMemory content)) batch full is = absurd (cc is)
begins_append None batch full is = absurd (cc is)

pub begins_going : (s : Stored) (chunk : Option ℕ) (stream tag : List ℕ) (home : Home) (batch : List ℕ) (outputs : List (List ℕ)) → accept_into_program s chunk stream tag home batch outputs ≢ Return None
begins_going s (Some n) stream tag home batch outputs is = begins_append (map.get s.chunks n) batch s.full is
begins_going s None stream tag home batch outputs is = begins_new (new_name s stream) tag home batch outputs is

-- memory ran out, and no call was made
pub nothing_made : (a : DiskLog) (p : DiskProgram (Option (Unit {0}))) (r : Result Kept StoreRefusal) → p ≢ Return None → IsErrAnd r (λ e. e ≡ Memory) → RunsFallible a a p (kept_outcome r)
nothing_made a p (Ok kept) begins is = absurd is
nothing_made a p (Err Memory) begins is = (p, no_call_made a p, begins)
nothing_made a p (Err BatchTooLarge) begins is = absurd (cc is)
nothing_made a p (Err NoNumber) begins is = absurd (cc is)
nothing_made a p (Err (DiskFailed chunk)) begins is = absurd (cc is)

module _ (a b : DiskLog) (n m tag batch : List ℕ) (outputs : List (List ℕ)) (named : n ≡ m) where
  placed : (r : Result ChunkHead DiskErr) → RunsFallible a b (create_program n tag batch outputs) (disk_outcome r) → Made a b (create_program m tag batch outputs) r
  placed r calls = record { makes = subst (λ (k : List ℕ). RunsFallible a b (create_program k tag batch outputs) (disk_outcome r)) named calls }

  pub placed_ok : (kept : Kept) (head : ChunkHead) → RunsFallible a b (create_program n tag batch outputs) (disk_outcome (Ok head)) → RunsFallible a b (and_then (create_program m tag batch outputs) (λ _. Return (Some tt))) (kept_outcome (Ok kept))
  placed_ok kept head calls = (went (λ _. Return (Some tt)) {r = Ok (tt {0})} (placed (Ok head) calls) (no_call b (tt {0}))).makes

  failed_so : (e : DiskErr) → RunsFallible a b (create_program n tag batch outputs) (disk_outcome {T = ChunkHead} (Err e)) → RunsFallible a b (and_then (create_program m tag batch outputs) (λ _. Return (Some tt))) (disk_outcome {T = Unit {0}} (Err e))
  failed_so e calls = (stopped {S = Unit {0}} (λ _. Return (Some tt)) (λ _ is. absurd (cc is)) (placed (Err e) calls)).makes

  pub placed_err : (e : DiskErr) (r : StoreRefusal) → IsRefusalOf e None r → RunsFallible a b (create_program n tag batch outputs) (disk_outcome {T = ChunkHead} (Err e)) → RunsFallible a b (and_then (create_program m tag batch outputs) (λ _. Return (Some tt))) (kept_outcome (Err r))
  placed_err Failed r is calls = subst (λ (x : StoreRefusal). RunsFallible a b (and_then (create_program m tag batch outputs) (λ _. Return (Some tt))) (kept_outcome (Err x))) (sym is) (failed_so Failed calls)
  placed_err NoRoom r is calls = subst (λ (x : StoreRefusal). RunsFallible a b (and_then (create_program m tag batch outputs) (λ _. Return (Some tt))) (kept_outcome (Err x))) (sym is) (failed_so NoRoom calls)

-- the same for an `accept`
pub nothing_accepted : (a : DiskLog) (p : DiskProgram (Option (Unit {0}))) (r : Result Accepted StoreRefusal) → p ≢ Return None → IsErrAnd r (λ e. e ≡ Memory) → RunsFallible a a p (accept_outcome r)
nothing_accepted a p (Ok kept) begins is = absurd is
nothing_accepted a p (Err Memory) begins is = (p, no_call_made a p, begins)
nothing_accepted a p (Err BatchTooLarge) begins is = absurd (cc is)
nothing_accepted a p (Err NoNumber) begins is = absurd (cc is)
nothing_accepted a p (Err (DiskFailed chunk)) begins is = absurd (cc is)
