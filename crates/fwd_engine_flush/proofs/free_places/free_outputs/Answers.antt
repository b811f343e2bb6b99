use Rattle.std.proofs.Common.{◌≡◌, ℕ, ◌<◌, ◌≤◌, false, nat_lt, Option, length, sym, ◌∙◌, ap, arith}
use Rattle.std.proofs.lemmas.Bool.{le-ltb, lt-ltb}
use Rattle.std.proofs.lemmas.Option.{slice_get_past}
use Rattle.fwd_settings.specs.declared.settings_types.AllSettings.{AllSettings}
use Rattle.fwd_settings.specs.declared.settings_types.OutputSet.{OutputSet}
use Rattle.fwd_model.specs.Fact.{History}
use Rattle.fwd_model.specs.Settings.{slots_at}
use Rattle.fwd_model.specs.Routes.{flights_to}
use Rattle.fwd_engine_flush.specs.FreePlaces.{is_free}
use Rattle.fwd_engine_flush.proofs.FreeMasks.{mask_none, mask_more, mask_same, mask_all}
use Rattle.fwd_engine_flush.proofs.free_places.free_outputs.Goals as goal
use Rattle.fwd_engine_flush.proofs.free_places.free_outputs.Goals.{then-flights_to-places, else-flights_to-places}

-- past the last output there are no places
none_past : (s : AllSettings) (h : History) (i : ℕ) → length s.outputs ≤ i → is_free s h i ≡ false
none_past s h i past = ap (λ (at : Option OutputSet). nat_lt (flights_to s h i) (slots_at at)) (slice_get_past s.outputs i past) ∙ le-ltb (flights_to s h i) 0 (omega arith)

pub loop-i-init : goal.loop-i-init
loop-i-init c h out stands = mask_none (is_free c.args.run.now h)

pub loop-i-preserved : goal.loop-i-preserved
loop-i-preserved c h out stands =
    let s = c.args.run.now in
    let i = c.loop-i.i in
    let within : i < 64 = omega (arith, c.loop-i-test.true, c.outputs-i-end.ensures, c.lemma_settings_are_sound.ensures.few_outputs) in
    let before = c.loop-i.invariant h out stands in
    let flights = c.flights_to.ensures s h out stands in
    let places = c.places.ensures in
    let same : nat_lt c.flights_to.result c.places.result ≡ is_free s h i = (λ j. nat_lt (flights j) (places j)) in
    elim c.if-flights_to-places.branch [
      | then-flights_to-places w ↦
          rw w.mask-is (mask_more (is_free s h) i c.loop-i.mask within (sym same ∙ lt-ltb c.flights_to.result c.places.result w.if-flights_to-places.true) before)
      | else-flights_to-places w ↦
          rw w.mask-is (mask_same (is_free s h) i c.loop-i.mask (sym same ∙ le-ltb c.flights_to.result c.places.result (omega (arith, w.if-flights_to-places.false))) before)
    ]

pub returns : goal.returns
returns c h out stands =
    let s = c.args.run.now in
    let all : length s.outputs ≤ c.loop-i.i = omega (arith, c.loop-i-test.false, c.outputs-i-end.ensures) in
    mask_all (is_free s h) c.loop-i.i c.loop-i.mask (λ i past. none_past s h i (omega (arith, past, all))) (c.loop-i.invariant h out stands)
