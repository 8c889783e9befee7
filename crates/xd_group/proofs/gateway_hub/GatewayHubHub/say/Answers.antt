use Rattle.xd_group_peer.specs.PeerView.{losses_of}
use Rattle.xd_group.proofs.Killing.{kills_called, kills_cut, order_kills}
use Rattle.std.proofs.Common.{ap, sym, ◌∙◌}
use Rattle.std.proofs.Math.Logic.{∥∥₁_map}
use Rattle.xd_trace.specs.Noted.{noted}
use Rattle.xd_starts.specs.Children.{starts_told}
use Rattle.xd_group.proofs.Marking.{marks_ordered}
use Rattle.xd_group_peer.proofs.PeerFacts.{no_way}
use Rattle.xd_group.proofs.Stepping.{order_plain, step_called}
use Rattle.xd_group.proofs.gateway_hub.GatewayHubHub.say.Goals as goal

pub invariant_of-self : goal.invariant_of-self
invariant_of-self g c = record { in_step = λ e. absurd (no_way _ e c.in_err-cut.ensures.over); kills = λ e. absurd (no_way _ e c.in_err-cut.ensures.over) }

pub invariant_of-self-2 : goal.invariant_of-self-2
invariant_of-self-2 g c =
    let was = c.args.self.now in
    let took = c.in_ok-cut.ensures in
    let told = λ (s : _). starts_told (g.St.Starter.begun s) in
    record {
      in_step = λ e. ∥∥₁_map (was.in_step (sym took.whole ∙ e))
          (λ s. step_called was.places.items (told was.children.first.value) _ (told was.children.starter) _ was.children.children.items _ (noted was.group.diary.calls) _ was.group.diary.fates.items _ c.in_ok-cut.cut c.args.order.now took.called (order_plain c.args.worker c.args.order.now c.requires.order) (ap (λ (v : _). v.items) took.starts.1) (ap (λ (v : _). told v.value) c.cut.ensures.first) c.cut.ensures.starts c.cut.ensures.children s);
      kills = λ e. ∥∥₁_map (was.kills (sym took.whole ∙ e))
          (λ k. rw (took.starts.0, took.starts.1)
          (kills_cut was.children.children.items _ _ was.group.diary.workers.items was.group.diary.fates.items (losses_of was.group.peers.items) _ c.in_ok-cut.cut took.cut c.cut.ensures.children
          (kills_called was.children.children.items (noted was.group.diary.calls) _ was.group.diary.workers.items was.group.diary.fates.items (losses_of was.group.peers.items) c.args.order.now took.called (λ v. order_kills v c.args.worker c.args.order.now c.requires.order) k)));
    }

pub returns-clause-marks : goal.returns-clause-marks
returns-clause-marks g c = marks_ordered _ _ _ _ c.args.worker c.args.order.now c.in_ok-cut.ensures.called c.requires.order c.in_ok-cut.ensures.given
