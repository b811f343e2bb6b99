-- What a function that makes the calls of a disk program has done, by its result.
use Rattle.std.proofs.Common.{◌≡◌, ◌≢◌, ℕ, List, Option, Some, None, Result, Ok, Err, IsErrAnd, sym, subst}
use Rattle.fwd_outside.specs.Program.{Return, and_then}
use Rattle.fwd_outside.specs.Log.{LogGrew, RunsFallible, log_of_call}
use Rattle.fwd_outside.proofs.Executions.{call_logged, call_unlogged, no_call_made}
use Rattle.fwd_outside.proofs.AndThen.{continued, first_failed, first_unfinished}
use Rattle.fwd_outside.specs.declared.errors.DiskErr.{DiskErr}
use Rattle.fwd_outside.specs.declared.errors.DiskErr.TheVariants.{Failed, Memory}
use Rattle.fwd_outside.specs.Disk.{DiskEntry, DiskLog, DiskProgram, Place, WriteAt, Sync, Remove, Read, ListNames, disk_outcome, places, writes, syncs, removes, reads, lists}

-- the function made the calls of the program
pub record Made {T : Type 0} (old new : DiskLog) (program : DiskProgram (Option T)) (result : Result T DiskErr) : Type 0 where
  pub makes : RunsFallible old new program (disk_outcome result)

-- a single call
places_asked : (a b : DiskLog) (name bytes : List ℕ) (result : Option (Option (Unit {0}))) → LogGrew a b (log_of_call (Place name bytes) result) → RunsFallible a b (places name bytes) result
places_asked a b name bytes (Some answer) g = call_logged (Place name bytes) answer (λ answer. Return answer) g
places_asked a b name bytes None g = (places name bytes, call_unlogged (places name bytes) g, λ is. absurd (cc is))

writes_asked : (a b : DiskLog) (name : List ℕ) (at : ℕ) (bytes : List ℕ) (result : Option (Option (Unit {0}))) → LogGrew a b (log_of_call (WriteAt name at bytes) result) → RunsFallible a b (writes name at bytes) result
writes_asked a b name at bytes (Some answer) g = call_logged (WriteAt name at bytes) answer (λ answer. Return answer) g
writes_asked a b name at bytes None g = (writes name at bytes, call_unlogged (writes name at bytes) g, λ is. absurd (cc is))

syncs_asked : (a b : DiskLog) (name : List ℕ) (result : Option (Option (Unit {0}))) → LogGrew a b (log_of_call (Sync name) result) → RunsFallible a b (syncs name) result
syncs_asked a b name (Some answer) g = call_logged (Sync name) answer (λ answer. Return answer) g
syncs_asked a b name None g = (syncs name, call_unlogged (syncs name) g, λ is. absurd (cc is))

removes_asked : (a b : DiskLog) (name : List ℕ) (result : Option (Option (Unit {0}))) → LogGrew a b (log_of_call (Remove name) result) → RunsFallible a b (removes name) result
removes_asked a b name (Some answer) g = call_logged (Remove name) answer (λ answer. Return answer) g
removes_asked a b name None g = (removes name, call_unlogged (removes name) g, λ is. absurd (cc is))

reads_asked : (a b : DiskLog) (name : List ℕ) (at len : ℕ) (result : Option (Option (List ℕ))) → LogGrew a b (log_of_call (Read name at len) result) → RunsFallible a b (reads name at len) result
reads_asked a b name at len (Some answer) g = call_logged (Read name at len) answer (λ answer. Return answer) g
reads_asked a b name at len None g = (reads name at len, call_unlogged (reads name at len) g, λ is. absurd (cc is))

lists_asked : (a b : DiskLog) (name : List ℕ) (result : Option (Option (List (List ℕ)))) → LogGrew a b (log_of_call (ListNames name) result) → RunsFallible a b (lists name) result
lists_asked a b name (Some answer) g = call_logged (ListNames name) answer (λ answer. Return answer) g
lists_asked a b name None g = (lists name, call_unlogged (lists name) g, λ is. absurd (cc is))

pub placed : {a b : DiskLog} {n m bytes into : List ℕ} {r : Result (Unit {0}) DiskErr} → n ≡ m → bytes ≡ into → LogGrew a b (log_of_call (Place n bytes) (disk_outcome r)) → Made a b (places m into) r
placed {a = a} {b = b} {m = m} {into = into} {r = r} is_name is_bytes grew =
    record { makes = places_asked a b m into (disk_outcome r) (subst (λ (es : List DiskEntry). LogGrew a b es) (λ i. log_of_call (Place (is_name i) (is_bytes i)) (disk_outcome r)) grew) }

pub wrote : {a b : DiskLog} {n m : List ℕ} {at to : ℕ} {bytes into : List ℕ} {r : Result (Unit {0}) DiskErr} → n ≡ m → at ≡ to → bytes ≡ into → LogGrew a b (log_of_call (WriteAt n at bytes) (disk_outcome r)) → Made a b (writes m to into) r
wrote {a = a} {b = b} {m = m} {to = to} {into = into} {r = r} is_name is_at is_bytes grew =
    record { makes = writes_asked a b m to into (disk_outcome r) (subst (λ (es : List DiskEntry). LogGrew a b es) (λ i. log_of_call (WriteAt (is_name i) (is_at i) (is_bytes i)) (disk_outcome r)) grew) }

pub synced : {a b : DiskLog} {n m : List ℕ} {r : Result (Unit {0}) DiskErr} → n ≡ m → LogGrew a b (log_of_call (Sync n) (disk_outcome r)) → Made a b (syncs m) r
synced {a = a} {b = b} {m = m} {r = r} is_name grew =
    record { makes = syncs_asked a b m (disk_outcome r) (subst (λ (es : List DiskEntry). LogGrew a b es) (λ i. log_of_call (Sync (is_name i)) (disk_outcome r)) grew) }

pub removed : {a b : DiskLog} {n m : List ℕ} {r : Result (Unit {0}) DiskErr} → n ≡ m → LogGrew a b (log_of_call (Remove n) (disk_outcome r)) → Made a b (removes m) r
removed {a = a} {b = b} {m = m} {r = r} is_name grew =
    record { makes = removes_asked a b m (disk_outcome r) (subst (λ (es : List DiskEntry). LogGrew a b es) (λ i. log_of_call (Remove (is_name i)) (disk_outcome r)) grew) }

pub has_read : {a b : DiskLog} {n m : List ℕ} {at from len count : ℕ} {r : Result (List ℕ) DiskErr} → n ≡ m → at ≡ from → len ≡ count → LogGrew a b (log_of_call (Read n at len) (disk_outcome r)) → Made a b (reads m from count) r
has_read {a = a} {b = b} {m = m} {from = from} {count = count} {r = r} is_name is_at is_len grew =
    record { makes = reads_asked a b m from count (disk_outcome r) (subst (λ (es : List DiskEntry). LogGrew a b es) (λ i. log_of_call (Read (is_name i) (is_at i) (is_len i)) (disk_outcome r)) grew) }

pub has_listed : {a b : DiskLog} {n m : List ℕ} {r : Result (List (List ℕ)) DiskErr} → n ≡ m → LogGrew a b (log_of_call (ListNames n) (disk_outcome r)) → Made a b (lists m) r
has_listed {a = a} {b = b} {m = m} {r = r} is_name grew =
    record { makes = lists_asked a b m (disk_outcome r) (subst (λ (es : List DiskEntry). LogGrew a b es) (λ i. log_of_call (ListNames (is_name i)) (disk_outcome r)) grew) }

-- the first program returned a value, and then the second ran
pub went : {T S : Type 0} {a b c : DiskLog} {p : DiskProgram (Option T)} {x : T} (next : T → DiskProgram (Option S)) {r : Result S DiskErr} → Made a b p (Ok x) → Made b c (next x) r → Made a c (and_then p next) r
went {a = a} {b = b} {c = c} {p = p} {x = x} next {r = r} first second = record { makes = continued a b p next c x (disk_outcome r) first.makes second.makes }

stop : (T S : Type 0) (a b : DiskLog) (p : DiskProgram (Option T)) (next : T → DiskProgram (Option S)) (e : DiskErr) → ((x : T) → next x ≢ Return None) → RunsFallible a b p (disk_outcome {T = T} (Err e)) → RunsFallible a b (and_then p next) (disk_outcome {T = S} (Err e))
stop T S a b p next Failed begins first = first_failed a b p next first
stop T S a b p next Memory begins first = first_unfinished a b p next begins first

-- the first program returned none, and the second doesn't fail before its first call
pub stopped : {T S : Type 0} {a b : DiskLog} {p : DiskProgram (Option T)} (next : T → DiskProgram (Option S)) {e : DiskErr} → ((x : T) → next x ≢ Return None) → Made {T = T} a b p (Err e) → Made {T = S} a b (and_then p next) (Err e)
stopped {T = T} {S = S} {a = a} {b = b} {p = p} next {e = e} begins first = record { makes = stop T S a b p next e begins first.makes }

-- the result of an exit by `?`
pub exits : {T : Type 0} {a b : DiskLog} {p : DiskProgram (Option T)} {e : DiskErr} (r : Result T DiskErr) → IsErrAnd r (λ x. x ≡ e) → Made {T = T} a b p (Err e) → Made a b p r
exits (Ok x) is made = absurd is
exits {T = T} {a = a} {b = b} {p = p} (Err y) is made = subst (λ (x : DiskErr). Made {T = T} a b p (Err x)) (sym is) made

-- no call was made
pub no_call : {T : Type 0} (a : DiskLog) (x : T) → Made a a (Return (Some x)) (Ok x)
no_call a x = record { makes = no_call_made a (Return (Some x)) }

pub no_memory : {T : Type 0} (a : DiskLog) (p : DiskProgram (Option T)) → p ≢ Return None → Made {T = T} a a p (Err Memory)
no_memory a p begins = record { makes = (p, no_call_made a p, begins) }
