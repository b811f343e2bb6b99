use Rattle.std.proofs.Common.{rules, ◌≡◌, ◌++◌, ◌∷◌, [], map, arith}
use Rattle.std.proofs.lemmas.Result.{err_from_is_err_and}
use Rattle.std.proofs.lemmas.List.{map_push}
use Rattle.fwd_value.specs.View.{val_of, pair_of}
use Rattle.fwd_msgpack.specs.Decoder.{count_at, many_at, entries_at, value_at}
use Rattle.fwd_msgpack.proofs.DecodeLoops.{list_none, map_none, list_in, map_in, goes_on, ends, is_done, pair_goes_on, key_ends, value_ends, pairs_done}
use Rattle.fwd_msgpack.proofs.reading.+read.Goals as goal

pub list_of-returns-then-depth-eq0 : goal.list_of-returns-then-depth-eq0
list_of-returns-then-depth-eq0 t c = list_none _ _ _ c.if-depth-eq0.true

pub list_of-returns-in_err-n : goal.list_of-returns-in_err-n
list_of-returns-in_err-n t c = rw (list_in c.args.depth c.args.k c.args.bytes.now (omega arith)) (search rules)

pub list_of-returns-in_err-vs : goal.list_of-returns-in_err-vs
unfolding count_at many_at
list_of-returns-in_err-vs t c = rw (list_in c.args.depth c.args.k c.args.bytes.now (omega arith)) (search rules)

pub list_of-returns : goal.list_of-returns
unfolding count_at many_at
list_of-returns t c = rw (list_in c.args.depth c.args.k c.args.bytes.now (omega arith)) (search rules)

pub map_of-returns-then-depth-eq0 : goal.map_of-returns-then-depth-eq0
map_of-returns-then-depth-eq0 t c = map_none _ _ _ c.if-depth-eq0.true

pub map_of-returns-in_err-n : goal.map_of-returns-in_err-n
map_of-returns-in_err-n t c = rw (map_in c.args.depth c.args.k c.args.bytes.now (omega arith)) (search rules)

pub map_of-returns-in_err-es : goal.map_of-returns-in_err-es
unfolding count_at entries_at
map_of-returns-in_err-es t c = rw (map_in c.args.depth c.args.k c.args.bytes.now (omega arith)) (search rules)

pub map_of-returns : goal.map_of-returns
unfolding count_at entries_at
map_of-returns t c = rw (map_in c.args.depth c.args.k c.args.bytes.now (omega arith)) (search rules)

pub values_of-returns-in_err-v : goal.values_of-returns-in_err-v
values_of-returns-in_err-v t c =
    let p = err_from_is_err_and c.from_residual-in_err-v.result c.from_residual-in_err-v.ensures.1 in
    rw (p.1, p.2) (ends (value_at c.args.depth) c.in_err-v.field-0.0 (map val_of c.loop.values.items) c.args.n c.loop.counter c.loop.rest.now (many_at (value_at c.args.depth) c.args.n c.args.bytes.now) c.loop-test.true c.in_err-v.ensures c.loop.invariant)

pub values_of-loop-preserved : goal.values_of-loop-preserved
values_of-loop-preserved t c =
    let v = c.in_ok-v.v in
    let e : map val_of c.push.new.self.items ≡ map val_of c.loop.values.items ++ val_of v ∷ [] = rw c.in_ok-push.ensures.items (map_push _ c.loop.values.items v) in
    rw e (goes_on (value_at c.args.depth) (map val_of c.loop.values.items) c.args.n c.loop.counter c.loop.rest.now (val_of v) c.in_ok-v.after.now (many_at (value_at c.args.depth) c.args.n c.args.bytes.now) c.loop-test.true c.in_ok-v.ensures c.loop.invariant)

pub values_of-returns : goal.values_of-returns
values_of-returns t c = rw c.from_vec.ensures (is_done (value_at c.args.depth) (map val_of c.loop.values.items) c.args.n c.loop.counter c.loop.rest.now (many_at (value_at c.args.depth) c.args.n c.args.bytes.now) c.loop-test.false c.loop.invariant)

pub pairs_of-returns-in_err-k : goal.pairs_of-returns-in_err-k
pairs_of-returns-in_err-k t c =
    let p = err_from_is_err_and c.from_residual-in_err-k.result c.from_residual-in_err-k.ensures.1 in
    rw (p.1, p.2) (key_ends (value_at c.args.depth) c.in_err-k.field-0.0 (map pair_of c.loop.pairs.items) c.args.n c.loop.counter c.loop.rest.now (entries_at (value_at c.args.depth) c.args.n c.args.bytes.now) c.loop-test.true c.in_err-k.ensures c.loop.invariant)

pub pairs_of-returns-in_err-v : goal.pairs_of-returns-in_err-v
pairs_of-returns-in_err-v t c =
    let p = err_from_is_err_and c.from_residual-in_err-v.result c.from_residual-in_err-v.ensures.1 in
    rw (p.1, p.2) (value_ends (value_at c.args.depth) c.in_err-v.field-0.0 (map pair_of c.loop.pairs.items) c.args.n c.loop.counter c.loop.rest.now (val_of c.in_ok-k.k) c.in_ok-k.after.now (entries_at (value_at c.args.depth) c.args.n c.args.bytes.now) c.loop-test.true c.in_ok-k.ensures c.in_err-v.ensures c.loop.invariant)

pub pairs_of-loop-preserved : goal.pairs_of-loop-preserved
pairs_of-loop-preserved t c =
    let k = c.in_ok-k.k in
    let v = c.in_ok-v.v in
    let e : map pair_of c.push.new.self.items ≡ map pair_of c.loop.pairs.items ++ (val_of k, val_of v) ∷ [] = rw c.in_ok-push.ensures.items (map_push _ c.loop.pairs.items (k, v)) in
    rw e (pair_goes_on (value_at c.args.depth) (map pair_of c.loop.pairs.items) c.args.n c.loop.counter c.loop.rest.now (val_of k) c.in_ok-k.after.now (val_of v) c.in_ok-v.after.now (entries_at (value_at c.args.depth) c.args.n c.args.bytes.now) c.loop-test.true c.in_ok-k.ensures c.in_ok-v.ensures c.loop.invariant)

pub pairs_of-returns : goal.pairs_of-returns
pairs_of-returns t c = rw c.from_vec.ensures (pairs_done (value_at c.args.depth) (map pair_of c.loop.pairs.items) c.args.n c.loop.counter c.loop.rest.now (entries_at (value_at c.args.depth) c.args.n c.args.bytes.now) c.loop-test.false c.loop.invariant)
