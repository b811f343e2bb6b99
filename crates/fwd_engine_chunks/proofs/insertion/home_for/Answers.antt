use Rattle.std.proofs.Common.{◌≡◌, sym, ◌∙◌}
use Rattle.fwd_outside.specs.declared.home.Home.{Home}
use Rattle.fwd_outside.specs.declared.home.Home.TheVariants.{Disk, Ram}
use Rattle.fwd_model.specs.Settings.{home_at}
use Rattle.fwd_engine_chunks.proofs.ReadyStores.{has_folder}
use Rattle.fwd_engine_chunks.proofs.insertion.home_for.Goals as goal

pub returns-else-has_root-clause-home : goal.returns-else-has_root-clause-home
returns-else-has_root-clause-home c h held = by c.home-home.result c.home-home.ensures
  where
    by : (home : Home) → home ≡ home_at c.args.run.now c.args.input.0 → Ram ≡ home_at c.args.run.now c.args.input.0
    by Disk is =
        let root = has_folder c.args.run.now h c.args.store.now c.args.input.0 c.lemma_settings_are_sound.ensures held (sym is) in
        absurd (cc (sym (c.has_root.ensures ∙ root) ∙ c.if-has_root.false))
    by Ram is = is
