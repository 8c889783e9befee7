use Rattle.std.proofs.Common.{◌+◌, sym, ◌∙◌}
use Rattle.xd_value.specs.declared.value.Value.{Value}
use Rattle.xd_factory.specs.declared.taken.Taken.{Taken}
use Rattle.xd_factory.specs.declared.faults.SideFault.TheVariants.{TooManyOpen}
use Rattle.xd_factory.specs.Said.{names_of}
use Rattle.xd_factory.specs.Table.{opened_count}
use Rattle.xd_factory.specs.SideTable.{channel_table}
use Rattle.xd_factory.specs.View.{fault_of, entry_count, new_at, numbers_of}
use Rattle.xd_factory.proofs.SideTables.{heard_table, not_taken}
use Rattle.xd_gateway.proofs.Sides.{at_most, fault_at, must_refuse}
use Rattle.xd_gateway.proofs.side.take.Goals as goal

pub returns-in-Ok-clause-taken : goal.returns-in-Ok-clause-taken
returns-in-Ok-clause-taken c =
    let s = c.args.side.now in
    let e = c.in-Ok.ensures in
    let r = e.read in
    record {
      said = r.0;
      good = e.good.0;
      means = r.1;
      room = (
        entry_count s,
        record { numbers = numbers_of s; rising = c.status.ensures.once; here = c.status.ensures.entries; count = sym c.status.ensures.count ∙ c.status.ensures.numbers },
        at_most 4096 (entry_count s + opened_count (new_at s) (names_of r.0)) (λ q. e.refuses TooManyOpen e.good.0 (r.0, r.1, q)),
      );
      answer_is = e.answer r.0 r.1;
      table_is = heard_table s c.take_message.new.self r.0 (e.slots r.0 r.1) e.good.1;
    }

pub returns-in-Ok-clause-refuses : goal.returns-in-Ok-clause-refuses
returns-in-Ok-clause-refuses c = λ fault h.
    let s = c.args.side.now in
    let e = c.in-Ok.ensures in
    not_taken (fault_of s) (channel_table s) c.args.message fault (entry_count s) e.good.0 h
    (record { numbers = numbers_of s; rising = c.status.ensures.once; here = c.status.ensures.entries; count = sym c.status.ensures.count ∙ c.status.ensures.numbers })
    (λ r. e.refuses fault e.good.0 r)

pub returns-in-Err-clause-refused : goal.returns-in-Err-clause-refused
returns-in-Err-clause-refused c =
    let s = c.args.side.now in
    let e = c.in-Err.ensures in
    fault_at (channel_table s) c.args.message c.in-Err.fault (entry_count s) (λ b q. let z = (e.failed b q).0 in cc) e.refused
    (record { numbers = numbers_of s; rising = c.status.ensures.once; here = c.status.ensures.entries; count = sym c.status.ensures.count ∙ c.status.ensures.numbers })

pub returns-in-Err-clause-refuses : goal.returns-in-Err-clause-refuses
returns-in-Err-clause-refuses c = λ fault h.
    let s = c.args.side.now in
    let e = c.in-Err.ensures in
    must_refuse (Taken Value) (fault_of s) (channel_table s) c.args.message fault c.in-Err.fault (entry_count s) (λ b q. let z = (e.failed b q).0 in cc) (λ q r. e.refuses fault q r)
    (record { numbers = numbers_of s; rising = c.status.ensures.once; here = c.status.ensures.entries; count = sym c.status.ensures.count ∙ c.status.ensures.numbers }) h
