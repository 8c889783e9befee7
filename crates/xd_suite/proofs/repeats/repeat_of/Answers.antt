use Rattle.std.proofs.Common.{sym, ap, ◌∙◌}
use Rattle.std.specs.Str.{encode_utf8_all}
use Rattle.xd_suite.proofs.SeenTexts.{found, look_further}
use Rattle.xd_suite.proofs.repeats.repeat_of.Goals as goal

pub returns-then-not-branch : goal.returns-then-not-branch
returns-then-not-branch c =
    sym
    (found c.args.texts.now c.loop-number.number _ c.loop-number-test.true _ c.as_str.result (c.as_str.ensures.bytes ∙ ap encode_utf8_all c.index-texts-number.is) c.loop-number.invariant
    (sym c.if-not-branch.true ∙ c.in_ok-insert.ensures.added))

pub loop-number-preserved : goal.loop-number-preserved
loop-number-preserved c =
    look_further c.args.texts.now c.loop-number.number _ c.loop-number-test.true _ c.as_str.result (c.as_str.ensures.bytes ∙ ap encode_utf8_all c.index-texts-number.is) c.loop-number.invariant _
    (sym c.if-not-branch.false ∙ c.in_ok-insert.ensures.added) c.in_ok-insert.ensures.updates
