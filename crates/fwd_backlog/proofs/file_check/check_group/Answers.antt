use Rattle.std.proofs.Common.{List, sym, subst, ◌∙◌}
use Rattle.std.specs.List.{AllZip}
use Rattle.fwd_chunk.specs.declared.chunk.Found.{Found}
use Rattle.fwd_backlog.specs.Groups.{IsChecked}
use Rattle.fwd_backlog.proofs.Parallel.{gathered_in_order}
use Rattle.fwd_backlog.proofs.file_check.check_group.Goals as goal

pub returns : goal.returns
returns g c =
    let h = c.in_ok-collect.ensures in
    let chain = rw (c.map.ensures.base, c.with_min_len.ensures.base, c.enumerate.ensures.base) at h.1 in
    let places = chain.1 in
    let all = rw c.in_ok-found.was at h.2 in
    subst (λ (l : List Found). AllZip IsChecked c.args.group.now l) (sym all.2)
    (gathered_in_order _ IsChecked _ places.0 chain.0 h.0 all.0 c.args.group.now (places.1 ∙ c.par_iter.ensures) places.2 all.1 chain.2)
