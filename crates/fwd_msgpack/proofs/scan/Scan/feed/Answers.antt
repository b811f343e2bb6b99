use Rattle.fwd_msgpack.proofs.ScanAnswers.{got, got_more, got_open, took_one, more_exactly, whole_exactly, unused_exactly, too_deep_exactly}
use Rattle.std.proofs.Common.{◌+◌, ◌-◌, ◌++◌, length}
use Rattle.fwd_msgpack.proofs.scan.Scan.feed.Goals as goal

pub scan_answer-requires : goal.scan_answer-requires
scan_answer-requires c = took_one c.take_all-step.result.0 (length c.args.bytes.now) (length c.take_all-step.result.1.now) c.take_all-step.new.self.seen c.take_all-step.ensures.used

pub returns-clause-more : goal.returns-clause-more
returns-clause-more c = λ fed f. more_exactly (fed ++ c.args.bytes.now) c.scan_answer.result (got c.args.self.now c.take_all-step.new.self fed c.args.bytes.now c.take_all-step.result.1.now c.take_all-step.result.0 c.scan_answer.result f c.take_all-step.ensures c.scan_answer.ensures)

pub returns-clause-fed : goal.returns-clause-fed
returns-clause-fed c = λ fed f more. got_more c.args.self.now c.take_all-step.new.self fed c.args.bytes.now c.take_all-step.result.1.now c.take_all-step.result.0 c.scan_answer.result f c.take_all-step.ensures c.scan_answer.ensures more

pub returns-clause-whole : goal.returns-clause-whole
returns-clause-whole c = λ fed n f. whole_exactly (fed ++ c.args.bytes.now) c.scan_answer.result n (got c.args.self.now c.take_all-step.new.self fed c.args.bytes.now c.take_all-step.result.1.now c.take_all-step.result.0 c.scan_answer.result f c.take_all-step.ensures c.scan_answer.ensures)

pub returns-clause-unused : goal.returns-clause-unused
returns-clause-unused c = λ fed n f. unused_exactly (fed ++ c.args.bytes.now) c.scan_answer.result n (got c.args.self.now c.take_all-step.new.self fed c.args.bytes.now c.take_all-step.result.1.now c.take_all-step.result.0 c.scan_answer.result f c.take_all-step.ensures c.scan_answer.ensures)

pub returns-clause-too_deep : goal.returns-clause-too_deep
returns-clause-too_deep c = λ fed n f. too_deep_exactly (fed ++ c.args.bytes.now) c.scan_answer.result n (got c.args.self.now c.take_all-step.new.self fed c.args.bytes.now c.take_all-step.result.1.now c.take_all-step.result.0 c.scan_answer.result f c.take_all-step.ensures c.scan_answer.ensures)

pub returns-clause-wanting : goal.returns-clause-wanting
returns-clause-wanting c = λ more. got_open c.args.self.now c.take_all-step.new.self c.args.bytes.now c.take_all-step.result.1.now c.take_all-step.result.0 c.scan_answer.result (c.take_all-step.new.self.seen + (length c.args.bytes.now - length c.take_all-step.result.1.now)) c.take_all-step.ensures c.scan_answer.ensures more
