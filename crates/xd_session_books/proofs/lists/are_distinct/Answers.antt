use Rattle.std.proofs.Common.{sym, ap, ◌∙◌}
use Rattle.std.specs.Str.{encode_utf8_all}
use Rattle.xd_session_books.proofs.Compares.{found, look_further}
use Rattle.xd_session_books.proofs.lists.are_distinct.Goals as goal

pub returns-then-not-branch : goal.returns-then-not-branch
returns-then-not-branch c =
    found c.args.texts.now c.loop-text.text-index _ c.loop-text-test.true _ c.as_str.result (c.as_str.ensures.bytes ∙ ap encode_utf8_all c.text-item.is) c.loop-text.invariant
    (sym c.if-not-branch.true ∙ c.in_ok-insert.ensures.added)

pub loop-text-preserved : goal.loop-text-preserved
loop-text-preserved c =
    look_further c.args.texts.now c.loop-text.text-index _ c.loop-text-test.true _ c.as_str.result (c.as_str.ensures.bytes ∙ ap encode_utf8_all c.text-item.is) c.loop-text.invariant _
    (sym c.if-not-branch.false ∙ c.in_ok-insert.ensures.added) c.in_ok-insert.ensures.updates
