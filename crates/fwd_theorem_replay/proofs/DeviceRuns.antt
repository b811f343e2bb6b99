-- A run of the engine as a program of the devices. Its result has the number of the engine's waits, and the
-- handshakes.
use Rattle.std.proofs.Common.{◌≡◌, ℕ, ◌+◌, Bool, true, false, if◌then◌else◌, List, [], ◌∷◌, sym, ap, subst, arith}
use Rattle.fwd_outside.specs.Program.{Return, Ask, Execution}
use Rattle.fwd_settings.specs.declared.settings_types.AllSettings.{AllSettings}
use Rattle.fwd_model.specs.Trace.{Action, Call, TraceEntry}
use Rattle.fwd_theorem_trace.specs.Waits.{is_wait, waits_in}
use Rattle.fwd_secure.specs.Handshakes.{Handshakes, no_handshakes}
use Rattle.fwd_secure_settings.specs.Keys.{keys_of}
use Rattle.fwd_secure_trace.specs.Secured.{IsSecured, secured}
use Rattle.fwd_secure_trace.proofs.Secured.{action_secured}

-- ---- an action that counts its waits

abbrev pub waited : ℕ → Call → ℕ
waited n call = if is_wait call then n + 1 else n

abbrev pub waited_after : ℕ → List TraceEntry → ℕ
waited_after n [] = n
waited_after n (e ∷ es) = waited_after (waited n e.call) es

abbrev pub counted : {R : Type 0} → ℕ → Action R → Action (R × ℕ)
counted n (Return x) = Return (x, n)
counted n (Ask call go) = Ask call (λ answer. counted (waited n call) (go answer))

way_counted : {R : Type 0} (n : ℕ) (p q : Action R) (es : List TraceEntry) → Execution p es q → Execution (counted n p) es (counted (waited_after n es) q)
way_counted n p q [] way = ap (counted n) way
way_counted n (Return x) q (e ∷ es) way = absurd way
way_counted n (Ask call go) q (e ∷ es) way =
    let rest = way_counted (waited n call) (go way.0) q es way.2 in
    (way.0, way.1, subst (λ (x : TraceEntry). Execution (counted (waited n call) (go way.0)) es (counted (waited_after (waited n x.call) es) q)) (sym way.1) rest)

waited_is : (n : ℕ) (es : List TraceEntry) → waited_after n es ≡ n + waits_in es
waited_is n [] = omega arith
waited_is n (e ∷ es) = by (is_wait e.call) (λ m. waited_is m es)
  where
    by : (b : Bool) → ((m : ℕ) → waited_after m es ≡ m + waits_in es) → waited_after (if b then n + 1 else n) es ≡ n + (if b then waits_in es + 1 else waits_in es)
    by true rest = let is : waited_after (n + 1) es ≡ n + 1 + waits_in es = rest (n + 1) in omega (arith, is)
    by false rest = rest n

pub same_waits : (one other : List TraceEntry) → waited_after 0 other ≡ waited_after 0 one → waits_in other ≡ waits_in one
same_waits one other same =
    let first : waited_after 0 one ≡ 0 + waits_in one = waited_is 0 one in
    let second : waited_after 0 other ≡ 0 + waits_in other = waited_is 0 other in
    omega (arith, same, first, second)

-- ---- on the devices

-- the result, the number of waits, and the handshakes
abbrev pub Outcome : Type 0 → Type 0
Outcome R = (R × ℕ) × Handshakes

abbrev pub outcome : {R : Type 0} → R → List TraceEntry → Handshakes → Outcome R
outcome x trace k = ((x, waited_after 0 trace), k)

abbrev pub on_devices : {R : Type 0} → AllSettings → Action R → Action (Outcome R)
on_devices s p = secured (keys_of s) no_handshakes (counted 0 p)

-- what is left of an action after the engine had this trace
abbrev pub left_after : {R : Type 0} → AllSettings → Handshakes → List TraceEntry → Action R → Action (Outcome R)
left_after s k trace q = secured (keys_of s) k (counted (waited_after 0 trace) q)

pub device_way : {R : Type 0} (s : AllSettings) (p q : Action R) (trace below : List TraceEntry) (k : Handshakes) → Execution p trace q → IsSecured (keys_of s) no_handshakes trace below k → Execution (on_devices s p) below (left_after s k trace q)
device_way s p q trace below k way so = action_secured (keys_of s) no_handshakes k (counted 0 p) (counted (waited_after 0 trace) q) trace below (way_counted 0 p q trace way) so
