-- Pushes of the rest of a payload.
use Rattle.std.proofs.Common.{◌≡◌, ◌≢◌, ℕ, zero, suc, ◌+◌, ◌-◌, ◌<◌, ◌≤◌, min, List, [], ◌∷◌, length, take, drop, length-drop, refl, ap, subst, arith}
use Rattle.std.proofs.lemmas.Bool.{lt-ltb, ltb-true, ne_eqb}
use Rattle.std.proofs.lemmas.List.{take_all}
use Rattle.fwd_outside.specs.Program.{entry, Return, Ask}
use Rattle.fwd_outside.specs.Log.{LogGrew}
use Rattle.fwd_base.specs.declared.ids.LinkId.{LinkId}
use Rattle.fwd_outside.specs.Loop.{LoopLog, LoopProgram, Push, PushAnswer, Took, Again, Broke}
use Rattle.fwd_table.specs.declared.outcome.Answer.TheVariants.{Retry}
use Rattle.fwd_flush.specs.declared.stage.Stage.TheVariants.{Writing}
use Rattle.fwd_flush.specs.FlushProgram.{Progress, Delivery, ends, confirms_payload, pushed_on, pushes}
use Rattle.fwd_flush.specs.Calls.{progress_after, Advances}
use Rattle.fwd_flush.proofs.Steps.{advanced_by_none, advanced_by_call, moves_on}

-- if something is left, it is pushed
pub record Asks (left : ℕ) (d : Delivery) (link : LinkId) (p : Progress) : Type 0 where
  pub fewer : ℕ
  pub enough : left ≡ suc fewer
  pub is : pushes left d link p ≡ Ask (Push link.0 (drop p.taken d.payload)) (pushed_on (pushes fewer d link) link (drop p.taken d.payload) p)

pub asks : (left : ℕ) (d : Delivery) (link : LinkId) (p : Progress) → p.taken < length d.payload → length d.payload ≤ p.taken + left → Asks left d link p
asks zero d link p some enough = absurd (omega arith)
asks (suc fewer) d link p some enough = record { fewer = fewer; enough = refl; is = rw (lt-ltb p.taken (length d.payload) some) refl }

-- if nothing is left, the payload is confirmed
pub all_taken : (left : ℕ) (d : Delivery) (link : LinkId) (p : Progress) → length d.payload ≤ p.taken → pushes left d link p ≡ confirms_payload d link p
all_taken zero d link p none = refl
all_taken (suc fewer) d link p none = grind (arith, ltb-true)

-- the code's slice from an offset on
whole_rest : (n : ℕ) (xs : List ℕ) → take (length xs - n) (drop n xs) ≡ drop n xs
whole_rest n xs = take_all _ _ (omega (arith, length-drop n xs))

-- One more push of the rest, as the code slices it; `before` steps to it.
module _ (a b c : LoopLog) (q : LoopProgram Progress) (left : ℕ) (d : Delivery) (link : LinkId) (p now : Progress) (payload : List ℕ)
    (same : d.payload ≡ payload) (some : now.taken < length payload) (enough : length payload ≤ now.taken + left) (before : Advances a b q (pushes left d link now) p now) where
  abbrev sliced : List ℕ
  sliced = take (length payload - now.taken) (drop now.taken payload)

  asks_here : Asks left d link now
  asks_here = asks left d link now (rw same some) (rw same enough)

  goes_here : (answer : PushAnswer) → LogGrew b c (entry (Push link.0 sliced) answer ∷ [])
      → Advances b c (pushes left d link now) (pushed_on (pushes asks_here.fewer d link) link (drop now.taken d.payload) now answer) now (progress_after now (Push link.0 (drop now.taken d.payload)) answer)
  goes_here answer grew =
      rw asks_here.is
      (advanced_by_call now (Push link.0 (drop now.taken d.payload)) answer (pushed_on (pushes asks_here.fewer d link) link (drop now.taken d.payload) now)
      (rw (same, ← whole_rest now.taken payload) grew))

  pub refused : LogGrew b c [] → (rest : LoopProgram Progress) × Advances a c q rest p now
  refused grew = (pushes left d link now, moves_on p now now before (advanced_by_none _ now grew))

  pub waits : LogGrew b c (entry (Push link.0 sliced) Again ∷ []) → Advances a c q (Return (record now { stage = Writing link })) p now
  waits grew = moves_on p now now before (goes_here Again grew)

  pub broke : LogGrew b c (entry (Push link.0 sliced) Broke ∷ []) → Advances a c q (ends link Retry now) p now
  broke grew = moves_on p now now before (goes_here Broke grew)

  none_more : (n : ℕ) → n + min 0 (length (drop now.taken d.payload)) ≡ n
  none_more n = omega arith

  pub took_none : LogGrew b c (entry (Push link.0 sliced) (Took 0) ∷ []) → Advances a c q (ends link Retry now) p now
  took_none grew =
      let still : progress_after now (Push link.0 (drop now.taken d.payload)) (Took 0) ≡ now = ap (λ (n : ℕ). record now { taken = n }) (none_more now.taken) in
      moves_on p now now before (subst (λ (x : Progress). Advances b c (pushes left d link now) (ends link Retry now) now x) still (goes_here (Took 0) grew))

  pub took_some : (more : ℕ) → more ≢ 0 → more ≤ length sliced → LogGrew b c (entry (Push link.0 sliced) (Took more) ∷ [])
      → (fewer : ℕ) × (length payload ≤ now.taken + more + fewer) × Advances a c q (pushes fewer d link (record now { taken = now.taken + more })) p (record now { taken = now.taken + more })
  took_some more some_more within grew =
      let fits : more ≤ length (drop now.taken d.payload) = rw same (subst (λ (x : List ℕ). more ≤ length x) (whole_rest now.taken payload) within) in
      let is : now.taken + min more (length (drop now.taken d.payload)) ≡ now.taken + more = omega arith in
      let gone : Advances b c (pushes left d link now) (pushes asks_here.fewer d link (record now { taken = now.taken + min more (length (drop now.taken d.payload)) })) now (record now { taken = now.taken + min more (length (drop now.taken d.payload)) }) =
      rw (ne_eqb more 0 some_more) at (goes_here (Took more) grew) in (
        asks_here.fewer,
        omega (arith, asks_here.enough),
        moves_on p now (record now { taken = now.taken + more }) before
            (subst (λ (n : ℕ). Advances b c (pushes left d link now) (pushes asks_here.fewer d link (record now { taken = n })) now (record now { taken = n })) is gone),
      )
