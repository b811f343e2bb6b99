use Rattle.std.proofs.Common.{◌++◌, take}
use Rattle.fwd_in_forward.proofs.ScanResult.{cut_waits, cut_fed, stops_break}
use Rattle.fwd_in_forward.proofs.conn.scan_result.Goals as goal

pub returns-then-rest-lt-LONGEST_MESSAGE-clause-known : goal.returns-then-rest-lt-LONGEST_MESSAGE-clause-known
returns-then-rest-lt-LONGEST_MESSAGE-clause-known c =
    let old = take c.args.before c.args.rest.now in
    let fed = rw c.in-Some.is at c.requires.scan in
    cut_waits c.args.rest.now (old ++ c.piece_of.result.now) c.piece_of.ensures.joins c.if-rest-lt-LONGEST_MESSAGE.true ((c.in-More.ensures.more old fed.0).0 tt)

pub returns-then-rest-lt-LONGEST_MESSAGE-clause-scan : goal.returns-then-rest-lt-LONGEST_MESSAGE-clause-scan
returns-then-rest-lt-LONGEST_MESSAGE-clause-scan c =
    let old = take c.args.before c.args.rest.now in
    let fed = rw c.in-Some.is at c.requires.scan in
    (cut_fed c.feed.new.self c.args.rest.now (old ++ c.piece_of.result.now) c.piece_of.ensures.joins c.if-rest-lt-LONGEST_MESSAGE.true (c.in-More.ensures.fed old fed.0 tt), c.if-rest-lt-LONGEST_MESSAGE.true)

pub returns-in-Unused-clause-known : goal.returns-in-Unused-clause-known
returns-in-Unused-clause-known c =
    let old = take c.args.before c.args.rest.now in
    let fed = rw c.in-Some.is at c.requires.scan in
    stops_break c.args.rest.now (old ++ c.piece_of.result.now) c.feed.result c.piece_of.ensures.joins c.in-Unused.is (λ n. c.feed.ensures.unused old n fed.0) (λ n. c.feed.ensures.too_deep old n fed.0)
