-- How many bytes are kept after a call.
use Rattle.std.proofs.Common.{◌≡◌, ℕ, ◌+◌, ◌-◌, ◌≤◌, Bool, true, false, ◌&&◌, List, length, not, Option, Some, None, refl, sym, subst, arith}
use Rattle.std.specs.Prelude.{is_some}
use Rattle.fwd_outside.specs.Program.{Return, Ask, Execution}
use Rattle.fwd_outside.specs.Loop.{LoopCall, LoopAnswer, LoopEntry, LoopProgram, Start, Wait, Dial, Push, Close, Reply, DropConn, Word}
use Rattle.fwd_outside.specs.declared.happening.Happening.{Happening}
use Rattle.fwd_handshake.specs.declared.ring.Ring.{Ring}
use Rattle.fwd_secure.specs.declared.keys.Keys.{Keys}
use Rattle.fwd_secure.specs.declared.handshakes.KeptBytes.{KeptBytes}
use Rattle.fwd_secure.specs.Keys.{ring_at}
use Rattle.fwd_secure.specs.Kept.{first_given, without_first_given, is_of_conn, is_of_link, holds}
use Rattle.fwd_secure.specs.Handshakes.{Handshakes, link_at}
use Rattle.fwd_secure.specs.Rules.{dialed, pushes_by, waits_by, brings, answers_by}
use Rattle.fwd_secure.specs.Secure.{most_of}
use Rattle.fwd_secure.proofs.Leaves.{Leaves, at_leaf}
use Rattle.fwd_secure.proofs.KeptLists.{holds-first, first_length, filter_length}
use Rattle.fwd_secure.proofs.Given.{Given, brings_fine, le_same}

abbrev pub NotWait : LoopCall → Type 0
NotWait (Wait until paused) = ⊥
NotWait call = Unit {0}

-- how many are kept after a wait, by whether it gave kept bytes
abbrev pub KeptAfter : Bool → Bool → Handshakes → Handshakes → Type 0
KeptAfter true keyed k u = length u.kept + 1 ≤ length k.kept
KeptAfter false keyed k u = length u.kept ≤ length k.kept + (most_of keyed - 1)

eq_le : (a b : ℕ) → a ≡ b → a ≤ b
eq_le a b is = omega arith

le_zero : (n : ℕ) → n ≤ n + (1 - 1)
le_zero n = omega arith

module _ (keys : Keys) (k : Handshakes) where
  abbrev NoMore : (call : LoopCall) → LoopAnswer call × Handshakes → Type 0
  NoMore call r = length r.1.kept ≤ length k.kept

  dialed_no_more : (output : ℕ) (tag : List ℕ) (ring : Option Ring) (answer : Option ℕ) → Leaves (NoMore (Dial output tag)) (dialed ring k output answer)
  dialed_no_more output tag (Some ring) (Some link) = λ a b. le_same (length k.kept)
  dialed_no_more output tag (Some ring) None = le_same (length k.kept)
  dialed_no_more output tag None answer = le_same (length k.kept)

  pushed_no_more : (link : ℕ) (bytes : List ℕ) (b : Bool) → Leaves (NoMore (Push link bytes)) (pushes_by k link bytes b)
  pushed_no_more link bytes true = le_same (length k.kept)
  pushed_no_more link bytes false = λ answer. le_same (length k.kept)

  no_more : (keyed : Bool) (call : LoopCall) → NotWait call → Leaves (NoMore call) (answers_by keyed keys k call)
  no_more false call other = λ answer. le_same (length k.kept)
  no_more true (Start ends) other = λ answer. le_same (length k.kept)
  no_more true (Wait until paused) other = absurd other
  no_more true (Dial output tag) other = λ answer. dialed_no_more output tag (ring_at keys.outputs output) answer
  no_more true (Push link bytes) other = pushed_no_more link bytes (is_some (link_at k link))
  no_more true (Close link) other = λ answer. filter_length (λ bytes. not (is_of_link link bytes)) k.kept
  no_more true (Reply conn bytes) other = λ answer. le_same (length k.kept)
  no_more true (DropConn conn) other = λ answer. filter_length (λ bytes. not (is_of_conn conn bytes)) k.kept
  no_more true Word other = λ answer. le_same (length k.kept)

  abbrev WaitKept : Bool → Bool → Happening × Handshakes → Type 0
  WaitKept given keyed r = KeptAfter given keyed k r.1

  kept_given : (x : Happening) (p : LoopProgram (Happening × Handshakes)) → Leaves (Given false 0 x k) p → Leaves (WaitKept false true) p
  kept_given x (Return r) given = given.kept
  kept_given x (Ask call go) given = λ answer. kept_given x (go answer) (given answer)

  wait_kept : (until paused : ℕ) (o : Option KeptBytes) → first_given paused k.kept ≡ o → Leaves (WaitKept (is_some o) true) (waits_by keys k until paused o)
  wait_kept until paused (Some bytes) is = eq_le (length (without_first_given paused k.kept) + 1) (length k.kept) (first_length paused k.kept bytes is)
  wait_kept until paused None is = λ x. kept_given x (brings keys k x) (brings_fine false 0 keys k x)

  waits_kept : (keyed : Bool) (until paused : ℕ) → Leaves (WaitKept (keyed && holds paused k.kept) keyed) (answers_by keyed keys k (Wait until paused))
  waits_kept true until paused =
      subst (λ (b : Bool). Leaves (WaitKept b true) (waits_by keys k until paused (first_given paused k.kept))) (sym (holds-first paused k.kept)) (wait_kept until paused (first_given paused k.kept) refl)
  waits_kept false until paused = λ answer. le_zero (length k.kept)

pub kept_of_call : (keyed : Bool) (keys : Keys) (k : Handshakes) (call : LoopCall) → NotWait call → (entries : List LoopEntry) (answer : LoopAnswer call) (u : Handshakes)
    → Execution (answers_by keyed keys k call) entries (Return (answer, u)) → length u.kept ≤ length k.kept
kept_of_call keyed keys k call other entries answer u way = at_leaf (NoMore keys k call) (answers_by keyed keys k call) entries (answer, u) (no_more keys k keyed call other) way

pub kept_of_wait : (keyed : Bool) (keys : Keys) (k : Handshakes) (until paused : ℕ) (entries : List LoopEntry) (brought : Happening) (u : Handshakes)
    → Execution (answers_by keyed keys k (Wait until paused)) entries (Return (brought, u)) → KeptAfter (keyed && holds paused k.kept) keyed k u
kept_of_wait keyed keys k until paused entries brought u way =
    at_leaf (WaitKept keys k (keyed && holds paused k.kept) keyed) (answers_by keyed keys k (Wait until paused)) entries (brought, u) (waits_kept keys k keyed until paused) way
