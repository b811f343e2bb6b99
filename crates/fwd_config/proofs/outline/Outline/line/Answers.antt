use Rattle.fwd_config.specs.Text.{place}
use Rattle.fwd_config.proofs.outline.Outline.line.Goals as goal

pub returns-in-Include-clause-meaning : goal.returns-in-Include-clause-meaning
returns-in-Include-clause-meaning c = λ env above shows. rw (← c.in-Include.ensures) (c.include.ensures.meaning env above c.args.number shows)

pub returns-in-Set-clause-meaning : goal.returns-in-Set-clause-meaning
returns-in-Set-clause-meaning c = λ env above shows. rw (← c.in-Set.ensures) (c.set.ensures.meaning env above c.args.includes_left (place c.args.file.now c.args.number) shows)

pub returns-in-Header-clause-meaning : goal.returns-in-Header-clause-meaning
returns-in-Header-clause-meaning c = λ env above shows. rw (← c.in-Header.ensures) (c.header.ensures.meaning env above c.args.includes_left shows)

pub returns-in-Pair-clause-meaning : goal.returns-in-Pair-clause-meaning
returns-in-Pair-clause-meaning c = λ env above shows. rw (← c.in-Pair.ensures) (c.pair.ensures.meaning env above c.args.includes_left shows)
