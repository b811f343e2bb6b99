use Rattle.std.proofs.Common.{FitsSigned, w8, rules}
use Rattle.fwd_transcode.proofs.Values.{nil_done, truth_done, positive_done, negative_done}
use Rattle.fwd_transcode.proofs.value.transcode_flat.Goals as goal

pub returns-in_ok-put_byte-in-Nil-clause-given : goal.returns-in_ok-put_byte-in-Nil-clause-given
returns-in_ok-put_byte-in-Nil-clause-given c =
    rw c.in-Nil.is (nil_done c.args.bytes.now c.args.out.now c.put_byte.new.out c.in_ok-put_byte-in-Nil.ensures.ok)

pub returns-in_ok-put_truth-in-Bool-clause-given : goal.returns-in_ok-put_truth-in-Bool-clause-given
returns-in_ok-put_truth-in-Bool-clause-given c =
    rw c.in-Bool.is (truth_done c.in-Bool.truth c.args.bytes.now c.args.out.now c.put_truth.new.out c.in_ok-put_truth-in-Bool.ensures.ok)

pub returns-in_ok-put_number-in-PositiveFixint-clause-given : goal.returns-in_ok-put_number-in-PositiveFixint-clause-given
returns-in_ok-put_number-in-PositiveFixint-clause-given c =
    rw c.in-PositiveFixint.is (positive_done c.in-PositiveFixint.n c.args.bytes.now c.args.out.now c.put_number.new.out c.in_ok-put_number-in-PositiveFixint.ensures.ok)

pub returns-in_ok-put_whole-in-NegativeFixint-clause-given : goal.returns-in_ok-put_whole-in-NegativeFixint-clause-given
returns-in_ok-put_whole-in-NegativeFixint-clause-given c =
    let fits : FitsSigned w8 c.in-NegativeFixint.n = search rules in
    rw c.in-NegativeFixint.is (negative_done c.in-NegativeFixint.n c.args.bytes.now c.args.out.now c.put_whole.new.out fits c.in_ok-put_whole-in-NegativeFixint.ensures.ok)

pub returns-in-Uint-clause-given : goal.returns-in-Uint-clause-given
returns-in-Uint-clause-given c = rw c.in-Uint.is c.transcode_uint.ensures.given

pub returns-in-Int-clause-given : goal.returns-in-Int-clause-given
returns-in-Int-clause-given c = rw c.in-Int.is c.transcode_int.ensures.given

pub returns-in-Float32-clause-given : goal.returns-in-Float32-clause-given
returns-in-Float32-clause-given c = rw c.in-Float32.is c.transcode_float32.ensures.given

pub returns-in-Float64-clause-given : goal.returns-in-Float64-clause-given
returns-in-Float64-clause-given c = rw c.in-Float64.is c.transcode_float64.ensures.given

pub returns-in-Str-clause-given : goal.returns-in-Str-clause-given
returns-in-Str-clause-given c = rw c.in-Str.is c.transcode_text.ensures.given

pub returns-in-Bin-clause-given : goal.returns-in-Bin-clause-given
returns-in-Bin-clause-given c = rw c.in-Bin.is c.transcode_bin.ensures.given

pub returns-in-Ext-clause-given : goal.returns-in-Ext-clause-given
returns-in-Ext-clause-given c = rw c.in-Ext.is c.transcode_ext.ensures.given
