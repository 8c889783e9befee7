use Rattle.std.proofs.Common.{sym}
use Rattle.std.specs.Ordering.{nat_cmp}
use Rattle.std.specs.BTreeMap as tree
use Rattle.xd_channel.specs.declared.end.End.TheVariants.{LastMessage}
use Rattle.xd_factory.specs.Numbers.{is_known}
use Rattle.xd_factory.specs.View.{slot_of_number}
use Rattle.xd_factory.proofs.Entries.{absent, absent_answer, here_answer}
use Rattle.xd_factory.proofs.side.Side.hear_last.Goals as goal

pub returns-in-Some-clause-answer : goal.returns-in-Some-clause-answer
returns-in-Some-clause-answer c =
    let s = c.args.self.now in
    here_answer (tree.get nat_cmp s.ends c.args.number) (is_known s.parity s.next s.seen c.args.number) _ _ _ _ LastMessage _
    (sym c.in-Some.ensures.value) c.has_callback-hooked.ensures c.peer_last-handed.ensures.gives c.ended.ensures

pub returns-in-Ok-clause-answer : goal.returns-in-Ok-clause-answer
returns-in-Ok-clause-answer c =
    let s = c.args.self.now in
    absent_answer _ (slot_of_number s c.args.number) LastMessage (absent (tree.get nat_cmp s.ends c.args.number) (is_known s.parity s.next s.seen c.args.number) (sym c.in-None.ensures.value))
