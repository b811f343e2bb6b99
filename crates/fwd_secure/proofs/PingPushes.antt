-- The pushes of a PING.
use Rattle.std.proofs.Common.{◌≡◌, ◌≢◌, ℕ, zero, suc, ◌+◌, ◌-◌, ◌<◌, ◌≤◌, List, [], ◌∷◌, length, take, drop, length-drop, Some, None, refl, subst, arith}
use Rattle.std.proofs.lemmas.Bool.{ne_eqb}
use Rattle.std.proofs.lemmas.List.{take_all, drop_all, drop-drop}
use Rattle.fwd_outside.specs.Program.{entry, Return, Ask}
use Rattle.fwd_outside.specs.Log.{LogGrew, Leads, RunsProgram}
use Rattle.fwd_outside.specs.Loop.{LoopLog, LoopProgram, Push, PushAnswer, Took, Again, Broke}
use Rattle.fwd_outside.proofs.Executions.{call_unlogged, call_logged, leads_trans}
use Rattle.fwd_secure.specs.declared.outputs.Pushing.{Pushing}
use Rattle.fwd_secure.specs.declared.outputs.Pushing.TheVariants.{Sent, Waits, Fails}
use Rattle.fwd_secure.specs.Outputs.{pushed_on, pushes, sends}

-- if something is left, it is pushed
record Pushes (left link : ℕ) (rest : List ℕ) : Type 0 where
  pub fewer : ℕ
  pub enough : left ≡ suc fewer
  pub is : pushes left link rest ≡ Ask (Push link rest) (pushed_on (pushes fewer link) rest)

pushes_rest : (left link : ℕ) (rest : List ℕ) → length rest ≤ left → 0 < length rest → Pushes left link rest
pushes_rest zero link rest enough some = absurd (omega arith)
pushes_rest (suc fewer) link [] enough some = absurd (omega arith)
pushes_rest (suc fewer) link (byte ∷ rest) enough some = record { fewer = fewer; enough = refl; is = refl }

-- if nothing is left, all is sent
none_left : (left link : ℕ) → pushes left link [] ≡ Return (Sent, [])
none_left zero link = refl
none_left (suc left) link = refl

-- the code's slice from an offset on
whole_rest : (n : ℕ) (xs : List ℕ) → take (length xs - n) (drop n xs) ≡ drop n xs
whole_rest n xs = take_all _ _ (omega (arith, length-drop n xs))

-- all was pushed
pub all_sent : (a b : LoopLog) (link left taken : ℕ) (bytes : List ℕ) → Leads a b (sends link bytes) (pushes left link (drop taken bytes)) → length bytes ≤ taken
    → RunsProgram a b (sends link bytes) (Some (Sent, drop taken bytes))
all_sent a b link left taken bytes before all =
    let none : drop taken bytes ≡ [] = drop_all taken bytes all in
    let led : Leads a b (sends link bytes) (pushes left link []) = rw none at before in
    rw none (subst (λ (p : LoopProgram (Pushing × List ℕ)). Leads a b (sends link bytes) p) (none_left left link) led)

-- One more push of the rest, as the code slices it; `before` leads to it.
module _ (a b c : LoopLog) (link left taken : ℕ) (bytes : List ℕ) (enough : length bytes ≤ taken + left)
    (before : Leads a b (sends link bytes) (pushes left link (drop taken bytes))) where
  pub refused : LogGrew b c [] → RunsProgram a c (sends link bytes) None
  refused grew = (pushes left link (drop taken bytes), leads_trans before (call_unlogged (pushes left link (drop taken bytes)) grew))

  module _ (some : taken < length bytes) where
    abbrev sliced : List ℕ
    sliced = take (length bytes - taken) (drop taken bytes)

    here : Pushes left link (drop taken bytes)
    here = pushes_rest left link (drop taken bytes) (omega (arith, length-drop taken bytes)) (omega (arith, length-drop taken bytes))

    answered : (answer : PushAnswer) → LogGrew b c (entry (Push link sliced) answer ∷ []) → Leads a c (sends link bytes) (pushed_on (pushes here.fewer link) (drop taken bytes) answer)
    answered answer grew =
        leads_trans (subst (λ (p : LoopProgram (Pushing × List ℕ)). Leads a b (sends link bytes) p) here.is before)
        (call_logged (Push link (drop taken bytes)) answer (pushed_on (pushes here.fewer link) (drop taken bytes)) (subst (λ (s : List ℕ). LogGrew b c (entry (Push link s) answer ∷ [])) (whole_rest taken bytes) grew))

    pub waits : LogGrew b c (entry (Push link sliced) Again ∷ []) → RunsProgram a c (sends link bytes) (Some (Waits, drop taken bytes))
    waits grew = answered Again grew

    pub broke : LogGrew b c (entry (Push link sliced) Broke ∷ []) → RunsProgram a c (sends link bytes) (Some (Fails, drop taken bytes))
    broke grew = answered Broke grew

    pub took_none : LogGrew b c (entry (Push link sliced) (Took 0) ∷ []) → RunsProgram a c (sends link bytes) (Some (Fails, drop taken bytes))
    took_none grew = answered (Took 0) grew

    pub took_some : (more : ℕ) → more ≢ 0 → more ≤ length sliced → LogGrew b c (entry (Push link sliced) (Took more) ∷ [])
        → (fewer : ℕ) × (length bytes ≤ taken + more + fewer) × Leads a c (sends link bytes) (pushes fewer link (drop (taken + more) bytes))
    took_some more some_more within grew =
        let led : Leads a c (sends link bytes) (pushes here.fewer link (drop more (drop taken bytes))) = rw (ne_eqb more 0 some_more) at (answered (Took more) grew) in (
          here.fewer,
          omega (arith, here.enough),
          subst (λ (s : List ℕ). Leads a c (sends link bytes) (pushes here.fewer link s)) (drop-drop more taken bytes) led,
        )
