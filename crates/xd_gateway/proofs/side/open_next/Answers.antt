use Rattle.std.proofs.Common.{◌≡◌, ◌≤◌, Err, ap, arith, subst, sym}
use Rattle.xd_factory.specs.View.{entry_count, is_finished, next_of}
use Rattle.xd_factory.proofs.SideTables.{kept_all}
use Rattle.xd_gateway.specs.declared.fault.GatewayFault.{GatewayFault}
use Rattle.xd_gateway.specs.Calls.{open_refusal}
use Rattle.xd_gateway.specs.inner.Opening.{IsUnopened}
use Rattle.xd_gateway.proofs.Sides.{accepted, refused}
use Rattle.xd_gateway.proofs.side.open_next.Goals as goal

pub returns-in-Ok-clause-accepted : goal.returns-in-Ok-clause-accepted
returns-in-Ok-clause-accepted c =
    let s = c.args.side.now in
    let e = c.in-Ok.ensures in
    (accepted (is_finished s) (entry_count s) (next_of s) (λ x. (let z = e.finished.1 x in cc)) (λ q x. (let z = (e.full q).1 x in cc)) (λ q r x. (let z = (e.spent q r).1 x in cc))).0

pub returns-in-Ok-clause-small : goal.returns-in-Ok-clause-small
returns-in-Ok-clause-small c =
    let s = c.args.side.now in
    let e = c.in-Ok.ensures in
    let small : next_of s ≤ 2147483647 =
    (accepted (is_finished s) (entry_count s) (next_of s) (λ x. (let z = e.finished.1 x in cc)) (λ q x. (let z = (e.full q).1 x in cc)) (λ q r x. (let z = (e.spent q r).1 x in cc))).1 in
    let number : c.in-Ok.number ≡ next_of s = e.number in
    omega arith

pub returns-in-Err-clause-refused : goal.returns-in-Err-clause-refused
returns-in-Err-clause-refused c =
    let s = c.args.side.now in
    let e = c.in-Err.ensures in
    subst (λ (f : GatewayFault). IsUnopened (open_refusal s) f) (sym c.opening_fault.ensures)
    (refused (is_finished s) (entry_count s) (next_of s) c.in-Err.fault
    (λ x. (let z = e.finished.1 x in cc)) (λ x. e.finished.0 (ap Err x)) (λ q x. (e.full q).0 (ap Err x)) (λ q x. (let z = (e.full q).1 x in cc)) (λ q r x. (e.spent q r).0 (ap Err x)))

pub returns-in-Err-clause-err : goal.returns-in-Err-clause-err
returns-in-Err-clause-err c = kept_all c.args.side.now c.open_channel.new.self c.in-Err.ensures.err c.in-Err.ensures.same
