use Rattle.std.proofs.Common.{rules, arith, sym, ◌∙◌}
use Rattle.xd_value_loads.proofs.Digits.{over_is, all_is}
use Rattle.xd_value_loads.proofs.number.plain_value.Goals as goal

pub returns-then-n-most : goal.returns-then-n-most
returns-then-n-most c =
    over_is c.args.digits.now c.loop-b.b-index c.loop-b.n c.args.most c.loop-b.invariant.value c.loop-b-test.true (sym c.is_ascii_digit.ensures.value ∙ c.if-not-is_ascii_digit.false) c.if-n-most.true

pub returns : goal.returns
returns c = all_is c.args.digits.now c.loop-b.b-index c.loop-b.n c.args.most c.loop-b.invariant.value c.loop-b.invariant.digits (omega arith) (search rules) c.loop-b.invariant.small
