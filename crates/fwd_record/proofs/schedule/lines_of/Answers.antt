use Rattle.std.proofs.Common.{List, [], ◌∷◌, ◌++◌, take, sym, ap, ◌∙◌, arith}
use Rattle.std.proofs.lemmas.List.{take_more}
use Rattle.fwd_outside.specs.declared.happening.Happening.{Happening}
use Rattle.fwd_script.specs.Writable.{PlannedFits}
use Rattle.fwd_script.specs.declared.schedule.Planned.TheVariants.{Happens}
use Rattle.fwd_record.specs.Recorded.{line_of}
use Rattle.fwd_record.proofs.Writing.{mapped_more, all_more}
use Rattle.fwd_record.proofs.schedule.lines_of.Goals as goal

pub loop-brought-preserved : goal.loop-brought-preserved
loop-brought-preserved c =
    let heard : List Happening = c.args.heard.now in
    let i = c.loop-brought.brought-index in
    let more = take_more heard i c.brought-item.result (omega arith) ∙ ap (λ (h : Happening). take i heard ++ h ∷ []) (sym c.brought-item.is) in (
      mapped_more (line_of c.args.links.now) heard i c.brought-item.result more c.loop-brought.invariant.0
          (ap (λ (h : Happening). Happens h) c.in_ok-event.ensures.named) c.in_ok-push.ensures.ok,
      all_more PlannedFits _ _ c.in_ok-push.ensures.ok c.loop-brought.invariant.1 c.in_ok-event.ensures.fits,
    )
