use Rattle.std.proofs.Common.{◌≡◌, sym, ap, ◌∙◌, arith}
use Rattle.std.specs.Ordering.{nat_cmp}
use Rattle.std.specs.List.Sorted.{IsStrictlySortedBy}
use Rattle.std.specs.BTreeMap.{keys}
use Rattle.xd_factory.specs.Numbers.{is_in}
use Rattle.xd_factory.specs.View.{slot_of_number}
use Rattle.xd_factory.proofs.Losing.{slots_more, owed_next, all_lost, unheld}
use Rattle.xd_factory.proofs.side.Side.lose_all.Goals as goal

pub loop-number-preserved : goal.loop-number-preserved
loop-number-preserved c =
    let sorted : IsStrictlySortedBy nat_cmp c.deref-number-items.result.now = rw (c.deref-number-items.ensures.value, c.in_ok-numbers.ensures.keys) c.numbers.ensures.ordered in
    let xs = c.deref-number-items.result.now in
    let i = c.loop-number.number-index in
    let k = c.loop-number.invariant in
    record {
      slots = λ q. slots_more (slot_of_number c.args.self.now) (slot_of_number c.loop-number.self) (slot_of_number c.lose_into.new.self) xs i q sorted c.loop-number-test.true k.slots (c.lose_into.ensures.slots q);
      owed = c.lose_into.ensures.owed ∙ owed_next (slot_of_number c.args.self.now) (slot_of_number c.loop-number.self) xs i sorted c.loop-number-test.true k.slots c.loop-number.owed.items k.owed;
      room = omega arith;
      count = omega arith;
      rest = record {
        parity = c.lose_into.ensures.rest.parity ∙ k.rest.parity;
        next = c.lose_into.ensures.rest.next ∙ k.rest.next;
        fault = c.lose_into.ensures.rest.fault ∙ k.rest.fault;
        finished = c.lose_into.ensures.rest.finished ∙ k.rest.finished;
      };
    }

pub returns-clause-slots : goal.returns-clause-slots
returns-clause-slots c = λ q.
    let xs_are : c.deref-number-items.result.now ≡ keys c.args.self.now.ends = c.deref-number-items.ensures.value ∙ c.in_ok-numbers.ensures.keys in
    all_lost (slot_of_number c.args.self.now q) (slot_of_number c.loop-number.self q) c.deref-number-items.result.now c.loop-number.number-index q (omega arith) (c.loop-number.invariant.slots q)
    (λ h. unheld c.args.self.now q (ap (is_in q) (sym xs_are) ∙ h))
