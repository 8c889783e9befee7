use Rattle.xd_group_peer.specs.PeerView.{losses_of}
use Rattle.xd_group.proofs.Killing.{kills_cut}
use Rattle.std.proofs.Common.{ap, sym, ◌∙◌}
use Rattle.std.proofs.Math.Logic.{∥∥₁_map}
use Rattle.xd_trace.specs.Noted.{noted}
use Rattle.xd_starts.specs.Children.{starts_told}
use Rattle.xd_group_peer.proofs.PeerFacts.{no_way}
use Rattle.xd_group.proofs.Stepping.{step_cut}
use Rattle.xd_group.proofs.gateway_hub.GatewayHub.take.Goals as goal

pub invariant_of-self : goal.invariant_of-self
invariant_of-self g c = record { in_step = λ e. absurd (no_way _ e c.in_err-news.ensures.over); kills = λ e. absurd (no_way _ e c.in_err-news.ensures.over) }

pub invariant_of-self-2 : goal.invariant_of-self-2
invariant_of-self-2 g c =
    let was = c.args.self.now in
    let took = c.in_ok-news.ensures in
    let told = λ (s : _). starts_told (g.St.Starter.begun s) in
    record {
      in_step = λ e. ∥∥₁_map (was.in_step (sym took.whole ∙ e))
          (λ s. step_cut was.places.items (told was.children.first.value) _ (told was.children.starter) _ was.children.children.items _ (noted was.group.diary.calls) _ was.group.diary.fates.items _ c.in_ok-news.field-0.cut took.calls (ap (λ (v : _). v.items) took.starts.1) (ap (λ (v : _). told v.value) c.cut.ensures.first) c.cut.ensures.starts c.cut.ensures.children s);
      kills = λ e. ∥∥₁_map (was.kills (sym took.whole ∙ e))
          (λ k. rw (took.calls, took.starts.0, took.starts.1) (kills_cut was.children.children.items _ (noted was.group.diary.calls) was.group.diary.workers.items was.group.diary.fates.items (losses_of was.group.peers.items) _ c.in_ok-news.field-0.cut took.cut c.cut.ensures.children k));
    }
