use Rattle.std.proofs.Common.{refl, subst, sym}
use Rattle.fwd_outside.specs.declared.answers.Begun.{Begun as LoopBegun}
use Rattle.fwd_settings.specs.Endpoints.{ends_of}
use Rattle.fwd_replay.specs.RunState.{KeyedLoopStarts, ProducesOutcome}
use Rattle.fwd_replay.specs.declared.life.Outcome.{Outcome}
use Rattle.fwd_replay.proofs.Handover.{start_ends}
use Rattle.fwd_replay.proofs.RunStart.{loop_failed, under_way}
use Rattle.fwd_replay.proofs.life.run_begun.Goals as goal

pub run_started-requires-clause-stands : goal.run_started-requires-clause-stands
run_started-requires-clause-stands g c =
    let r = c.requires.begun in
    let started = subst (λ (b : LoopBegun). KeyedLoopStarts r.0 c.args.life.now (ends_of r.0) c.args.secure b) c.in-Ready.is r.5 in
    λ κs below.
    (r.0, r.1, r.3, under_way r.0 r.1 c.args.life.now c.args.begun r.2 c.args.disk.now c.args.files.now c.args.keeper.now r.4 (record { engine = c.args.begun.engine; offsets = c.args.begun.offsets; secure = c.args.secure; changed = 0; taken = 0 }) started refl refl refl refl)

pub returns-in-Ready : goal.returns-in-Ready
returns-in-Ready g c s begins h named has starts =
    let started = subst (λ (b : LoopBegun). KeyedLoopStarts s c.args.life.now (ends_of s) c.args.secure b) c.in-Ready.is starts in
    c.run_started.ensures s begins named
    (under_way s begins c.args.life.now c.args.begun h c.args.disk.now c.args.files.now c.args.keeper.now has (record { engine = c.args.begun.engine; offsets = c.args.begun.offsets; secure = c.args.secure; changed = 0; taken = 0 }) started refl refl refl refl)

pub returns-in-Failed : goal.returns-in-Failed
returns-in-Failed g c s begins h named has starts =
    let started = subst (λ (b : LoopBegun). KeyedLoopStarts s c.args.life.now (ends_of s) c.args.secure b) c.in-Failed.is starts in
    subst (λ (x : Outcome). ProducesOutcome c.args.named.now.shown s c.args.most begins c.args.life.now c.args.disk.now c.args.files.now c.args.keeper.now x) (sym c.failed_start.ensures)
    (start_ends s begins c.args.life.now c.args.named.now.shown c.args.most h (loop_failed s begins c.args.life.now c.args.begun h c.args.disk.now c.args.files.now c.args.keeper.now has c.args.secure started))
