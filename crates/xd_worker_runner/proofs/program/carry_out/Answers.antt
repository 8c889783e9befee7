use Rattle.std.proofs.Common.{◌≡◌, ◌<◌, ◌∙◌, length, refl, rules, true, false}
use Rattle.std.specs.Prelude.{is_err}
use Rattle.xd_post.specs.Mails.{mails}
use Rattle.xd_post.specs.Post.{put}
use Rattle.xd_worker_runner.specs.Orders.{programs_seen}
use Rattle.xd_worker_runner.proofs.Taking.{ends_cut, ends_well, goes_on, none_yet, when_err, when_ok}
use Rattle.xd_worker_runner.proofs.program.carry_out.Goals as goal

pub loop-init : goal.loop-init
loop-init g c = record { so_far = none_yet (mails c.args.orders.now) _ (put c.args.sender.now); ring = refl }

pub returns-then-is_empty-clause-runs : goal.returns-then-is_empty-clause-runs
returns-then-is_empty-clause-runs g c =
    let none : length c.wait-order.result.1 ≡ 0 = search rules in
    let s1 = programs_seen (g.K.Children.runs c.loop.children) (g.K.Children.faults c.loop.children) in
    ends_well (mails c.args.orders.now) (mails c.loop.orders) (mails c.wait-order.new.self) (programs_seen (g.K.Children.runs c.args.children.now) (g.K.Children.faults c.args.children.now)) s1 s1 (put c.args.sender.now) (put c.loop.sender) (put c.loop.sender) c.wait-order.result.0 c.wait-order.result.1 c.loop.invariant.so_far c.wait-order.ensures.takes none

pub returns-then-is_err-clause-runs : goal.returns-then-is_err-clause-runs
returns-then-is_err-clause-runs g c =
    let some : 0 < length c.wait-order.result.1 = search rules in
    let own : c.as_slice.result.now ≡ c.wait-order.result.1 = search rules in
    let err : is_err c.run_order.result ≡ true = search rules in
    ends_cut (mails c.args.orders.now) (mails c.loop.orders) (mails c.wait-order.new.self) (programs_seen (g.K.Children.runs c.args.children.now) (g.K.Children.faults c.args.children.now)) (programs_seen (g.K.Children.runs c.loop.children) (g.K.Children.faults c.loop.children)) (programs_seen (g.K.Children.runs c.run_order.new.children) (g.K.Children.faults c.run_order.new.children)) (put c.args.sender.now) (put c.loop.sender) (put c.run_order.new.sender) c.wait-order.result.0 c.wait-order.result.1 c.loop.invariant.so_far c.wait-order.ensures.takes (put c.put.new.self) c.as_slice.result.now own some (when_err c.run_order.result _ err c.run_order.ensures.part) c.put.ensures.put

pub loop-preserved : goal.loop-preserved
loop-preserved g c =
    let some : 0 < length c.wait-order.result.1 = search rules in
    let own : c.as_slice.result.now ≡ c.wait-order.result.1 = search rules in
    let ok : is_err c.run_order.result ≡ false = search rules in
    record {
      so_far = goes_on (mails c.args.orders.now) (mails c.loop.orders) (mails c.wait-order.new.self) (programs_seen (g.K.Children.runs c.args.children.now) (g.K.Children.faults c.args.children.now)) (programs_seen (g.K.Children.runs c.loop.children) (g.K.Children.faults c.loop.children)) (programs_seen (g.K.Children.runs c.run_order.new.children) (g.K.Children.faults c.run_order.new.children)) (put c.args.sender.now) (put c.loop.sender) (put c.run_order.new.sender) c.wait-order.result.0 c.wait-order.result.1 c.loop.invariant.so_far c.wait-order.ensures.takes c.as_slice.result.now own some (when_ok c.run_order.result _ ok c.run_order.ensures.ran);
      ring = c.run_order.ensures.ring ∙ c.loop.invariant.ring;
    }
