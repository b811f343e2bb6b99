use Rattle.fwd_theorem_links.proofs.Counts.{tally_same}
use Rattle.fwd_theorem_links.proofs.Histories.{due_same, tries_same}
use Rattle.fwd_theorem_links.proofs.Rows.{rows_same}
use Rattle.fwd_theorem_links.proofs.links.renaming_changes_no_count.Goals as goal

pub returns-clause-rows : goal.returns-clause-rows
returns-clause-rows c rename s h = rows_same rename s h

pub returns-clause-tries : goal.returns-clause-tries
returns-clause-tries c rename h r = tries_same rename h r

pub returns-clause-due : goal.returns-clause-due
returns-clause-due c rename s h r = due_same rename s h r

pub returns-clause-tally : goal.returns-clause-tally
returns-clause-tally c rename s h = tally_same rename s h
