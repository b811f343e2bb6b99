use Rattle.std.proofs.Common.{inr}
use Rattle.fwd_model.specs.Trace.{loop_part}
use Rattle.fwd_theorem_links.specs.DialedLinks.{IsAmong, dialed_links, place_from}
use Rattle.fwd_theorem_links.proofs.Dialed.{all_dialed}
use Rattle.fwd_theorem_links.proofs.Life.{simulated_run, renamed_run}
use Rattle.fwd_theorem_links.proofs.Places.{places_keep_apart}
use Rattle.fwd_theorem_links.proofs.links.links_are_names.Goals as goal

pub returns-clause-renamed : goal.returns-clause-renamed
returns-clause-renamed c rename s ends ticks turns trace result way apart =
    renamed_run rename (IsAmong (dialed_links (loop_part trace))) (Unit {0}) apart s (λ input. inr tt) (inr tt) ends ticks turns trace result way (all_dialed rename (Unit {0}) trace)

pub returns-clause-begun : goal.returns-clause-begun
returns-clause-begun c rename s ends ticks turns trace left way apart =
    let there = simulated_run rename (IsAmong (dialed_links (loop_part trace))) (Unit {0}) apart s (λ input. inr tt) (inr tt) ends ticks turns trace left way (all_dialed rename (Unit {0}) trace) in
    (there.rest, there.way)

pub returns-clause-numbered : goal.returns-clause-numbered
returns-clause-numbered c s ends ticks turns trace result way =
    let links = dialed_links (loop_part trace) in
    renamed_run (place_from 1 links) (IsAmong links) (Unit {0}) (places_keep_apart links) s (λ input. inr tt) (inr tt) ends ticks turns trace result way (all_dialed (place_from 1 links) (Unit {0}) trace)
