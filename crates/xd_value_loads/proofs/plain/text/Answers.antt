use Rattle.std.proofs.Common.{refl, ◌∙◌}
use Rattle.xd_value.proofs.Cells.{is_utf8_holds, read_text_is}
use Rattle.xd_value.proofs.Walks.{view-Text}
use Rattle.xd_value_loads.proofs.plain.text.Goals as goal

pub returns-clause-gives : goal.returns-clause-gives
returns-clause-gives c =
    read_text_is _ c.args.rest.now c.in_ok-bytes.bytes.now c.in_ok-bytes.rest.now c.in_ok-bytes.ensures (is_utf8_holds _ c.in-Ok.ensures.cases.1)
    ∙ rw (c.in_ok-push.ensures.cells, view-Text, c.in_ok-of.ensures, c.in-Ok.ensures.cases.0) refl
