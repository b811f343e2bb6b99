-- `read_whole` makes the calls of its program.
use Rattle.std.proofs.Common.{◌≡◌, ◌≢◌, ℕ, zero, suc, ◌+◌, ◌-◌, ◌<◌, ◌≤◌, nat_lt, Bool, true, false, if◌then◌else◌, List, [], ◌∷◌, ◌++◌, length, length-append, Option, Some, None, Result, Ok, Err, IsErrAnd, refl, sym, subst, arith}
use Rattle.std.proofs.lemmas.Bool.{lt-ltb, ltb-true}
use Rattle.fwd_outside.specs.Program.{Return, Ask}
use Rattle.fwd_outside.specs.Log.{LogGrew, Leads, Completes, RunsFallible, log_of_call}
use Rattle.fwd_outside.proofs.Executions.{call_logged, call_unlogged, leads_trans}
use Rattle.fwd_outside.specs.Files.{FilesCall, FilesAnswer, FilesLog, FilesProgram, Length, ReadAt, outcome, after_read, after_length, read_rest_program, read_whole_program}
use Rattle.fwd_outside.specs.declared.errors.FileErr.{FileErr}
use Rattle.fwd_outside.specs.declared.errors.FileErr.TheVariants.{Failed, Memory}

-- a failed call ends the program, and memory that is out leaves it where it is
call_failed : (a b : FilesLog) (call : FilesCall) (go : FilesAnswer call → FilesProgram (Option (List ℕ))) (none : FilesAnswer call) (e : FileErr) (r : Result (List ℕ) FileErr)
    → go none ≡ Return None → IsErrAnd r (λ x. x ≡ e) → (e ≡ Failed → LogGrew a b (log_of_call call (Some none))) → (e ≡ Memory → LogGrew a b []) → RunsFallible a b (Ask call go) (outcome r)
call_failed a b call go none e (Ok x) ends is failed memory = absurd is
call_failed a b call go none e (Err Failed) ends is failed memory =
    subst (λ (p : FilesProgram (Option (List ℕ))). Leads a b (Ask call go) p) ends (call_logged call none go (failed (sym is)))
call_failed a b call go none e (Err Memory) ends is failed memory = (Ask call go, call_unlogged (Ask call go) (memory (sym is)), λ is. absurd (cc is))

log_of_failure : (a b : FilesLog) (path : List ℕ) (e : FileErr) → LogGrew a b (log_of_call (Length path) (outcome {T = ℕ} (Err e))) → (e ≡ Failed → LogGrew a b (log_of_call (Length path) (Some None))) × (e ≡ Memory → LogGrew a b [])
log_of_failure a b path Failed g = (λ _. g, λ is. absurd (cc is))
log_of_failure a b path Memory g = (λ is. absurd (cc is), λ _. g)

pub length_failed : (a b : FilesLog) (path : List ℕ) (e : FileErr) (r : Result (List ℕ) FileErr) → IsErrAnd r (λ x. x ≡ e)
    → LogGrew a b (log_of_call (Length path) (outcome {T = ℕ} (Err e))) → RunsFallible a b (read_whole_program path) (outcome r)
length_failed a b path e r is g =
    let call_log = log_of_failure a b path e g in call_failed a b (Length path) (after_length path) None e r refl is call_log.0 call_log.1

-- if bytes are missing, the next call is a read of them
pub record NextIsRead (reads : ℕ) (path : List ℕ) (wanted : ℕ) (so_far : List ℕ) : Type 0 where
  pub left : ℕ
  pub one_less : reads ≡ suc left
  pub is : read_rest_program reads path wanted so_far ≡ Ask (ReadAt path (length so_far) (wanted - length so_far)) (after_read (read_rest_program left path wanted) so_far)

pub next_is_read : (reads : ℕ) (path : List ℕ) (wanted : ℕ) (so_far : List ℕ) → length so_far < wanted → wanted ≤ length so_far + reads → NextIsRead reads path wanted so_far
next_is_read zero path wanted so_far some enough = absurd (omega arith)
next_is_read (suc left) path wanted so_far some enough = record { left = left; one_less = refl; is = rw (lt-ltb (length so_far) wanted some) refl }

-- the remaining reading doesn't fail before its first call
rest_unfailed : (reads : ℕ) (path : List ℕ) (wanted : ℕ) (so_far : List ℕ) → read_rest_program reads path wanted so_far ≢ Return None
rest_unfailed zero path wanted so_far is = absurd (cc is)
rest_unfailed (suc left) path wanted so_far is = one_begins (nat_lt (length so_far) wanted) is
  where
    one_begins : (more : Bool) → (if more then Ask (ReadAt path (length so_far) (wanted - length so_far)) (after_read (read_rest_program left path wanted) so_far) else Return (Some so_far)) ≢ Return None
    one_begins true is = absurd (cc is)
    one_begins false is = absurd (cc is)

part_unfailed : (reads : ℕ) (path : List ℕ) (wanted : ℕ) (so_far part : List ℕ) → after_read (read_rest_program reads path wanted) so_far (Some part) ≢ Return None
part_unfailed reads path wanted so_far [] is = absurd (cc is)
part_unfailed reads path wanted so_far (byte ∷ bytes) is = rest_unfailed reads path wanted (so_far ++ byte ∷ bytes) is

-- One more read, at the offset reached. `before` are the calls that lead to it.
module _ (a b c : FilesLog) (p : FilesProgram (Option (List ℕ))) (reads : ℕ) (path : List ℕ) (wanted : ℕ) (so_far : List ℕ) (at : ℕ)
    (here : at ≡ length so_far) (some : at < wanted) (enough : wanted ≤ length so_far + reads) (before : Leads a b p (read_rest_program reads path wanted so_far)) where
  asks_here : NextIsRead reads path wanted so_far
  asks_here = next_is_read reads path wanted so_far (rw here at some) enough

  goes_here : (answer : Option (List ℕ)) → LogGrew b c (log_of_call (ReadAt path at (wanted - at)) (Some answer)) → Leads b c (read_rest_program reads path wanted so_far) (after_read (read_rest_program asks_here.left path wanted) so_far answer)
  goes_here answer g =
      rw asks_here.is
      (call_logged (ReadAt path (length so_far) (wanted - length so_far)) answer (after_read (read_rest_program asks_here.left path wanted) so_far)
      (subst (λ (n : ℕ). LogGrew b c (log_of_call (ReadAt path n (wanted - n)) (Some answer))) here g))

  pub read_failed : (e : FileErr) (r : Result (List ℕ) FileErr) → IsErrAnd r (λ x. x ≡ e) → LogGrew b c (log_of_call (ReadAt path at (wanted - at)) (outcome {T = List ℕ} (Err e))) → RunsFallible a c p (outcome r)
  read_failed e (Ok x) is g = absurd is
  read_failed Failed (Err Failed) is g = leads_trans before (goes_here None g)
  read_failed Memory (Err Memory) is g = (read_rest_program reads path wanted so_far, leads_trans before (call_unlogged (read_rest_program reads path wanted so_far) g), rest_unfailed reads path wanted so_far)
  read_failed Failed (Err Memory) is g = absurd (cc is)
  read_failed Memory (Err Failed) is g = absurd (cc is)

  -- the read returned bytes
  pub read_some : (part : List ℕ) → part ≢ [] → LogGrew b c (log_of_call (ReadAt path at (wanted - at)) (Some (Some part)))
      → (left : ℕ) × (wanted ≤ length (so_far ++ part) + left) × Leads a c p (read_rest_program left path wanted (so_far ++ part))
  read_some [] more g = absurd (more refl)
  read_some (byte ∷ bytes) more g = (asks_here.left, omega (arith, asks_here.one_less, enough, length-append so_far (byte ∷ bytes)), leads_trans before (goes_here (Some (byte ∷ bytes)) g))

  -- the read returned none: the file ends here
  pub read_none : (part : List ℕ) → part ≡ [] → LogGrew b c (log_of_call (ReadAt path at (wanted - at)) (Some (Some part))) → Completes a c p (Some so_far)
  read_none (byte ∷ bytes) none g = absurd (cc none)
  read_none [] none g = leads_trans before (goes_here (Some []) g)

  -- the read returned bytes, and memory was out for them
  pub read_out_of_memory : (part : List ℕ) (r : Result (List ℕ) FileErr) → IsErrAnd r (λ x. x ≡ Memory) → LogGrew b c (log_of_call (ReadAt path at (wanted - at)) (Some (Some part))) → RunsFallible a c p (outcome r)
  read_out_of_memory part (Ok x) is g = absurd is
  read_out_of_memory part (Err Failed) is g = absurd (cc is)
  read_out_of_memory part (Err Memory) is g = (after_read (read_rest_program asks_here.left path wanted) so_far (Some part), leads_trans before (goes_here (Some part) g), part_unfailed asks_here.left path wanted so_far part)

-- all bytes are read
pub read_to_end : (reads : ℕ) (path : List ℕ) (wanted : ℕ) (so_far : List ℕ) → wanted ≤ length so_far → read_rest_program reads path wanted so_far ≡ Return (Some so_far)
read_to_end zero path wanted so_far all = refl
read_to_end (suc left) path wanted so_far all = grind (arith, ltb-true)
