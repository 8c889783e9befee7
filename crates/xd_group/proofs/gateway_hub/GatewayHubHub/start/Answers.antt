use Rattle.xd_group_peer.specs.PeerView.{losses_of}
use Rattle.std.specs.Prelude.{option_map}
use Rattle.std.specs.Bool.{then_some}
use Rattle.xd_starts.specs.Children.{cut_by, fresh_child}
use Rattle.xd_group.proofs.FateFacts.{linked_length}
use Rattle.xd_group.proofs.Killing.{fresh_unkilled, kills_start}
use Rattle.std.proofs.Common.{◌<◌, false, None, length, ap, sym, ◌∙◌, refl, rules, ◌≡◌}
use Rattle.std.specs.Prelude.{is_some}
use Rattle.std.proofs.Math.Logic.{∥∥₁_map, ∥∥₁_map₂}
use Rattle.std.proofs.lemmas.Option.{slice_get_read}
use Rattle.xd_trace.specs.Noted.{noted}
use Rattle.xd_starts.specs.Children.{starts_told}
use Rattle.xd_group.specs.declared.fate.Fate.TheVariants.{Unlinked}
use Rattle.xd_group.proofs.LossFacts.{lost_count}
use Rattle.xd_group.proofs.Stepping.{step_opened, when_whole}
use Rattle.xd_group.proofs.gateway_hub.GatewayHubHub.start.Goals as goal

pub invariant_of-self-in-Some : goal.invariant_of-self-in-Some
invariant_of-self-in-Some g c =
    let was = c.args.self.now in
    let kid = c.in_ok-opened.ensures in
    let took = c.in_ok-seat-in-Some.ensures in
    let seat = c.in_ok-seat-in-Some.seat in
    let told = λ (s : _). starts_told (g.St.Starter.begun s) in
    let number : c.len-number.result ≡ length was.children.children.items = search rules in
    let within : c.args.slot < length was.places.items = search rules in
    let at = slice_get_read was.places.items (length was.places.items) c.args.slot c.index.result.now refl within c.index.ensures in
    record {
      in_step = λ e. ∥∥₁_map (was.in_step (sym took.whole ∙ e))
          (λ s. step_opened was.places.items (told was.children.first.value) _ (told was.children.starter) _ _ was.children.children.items _ _ (noted was.group.diary.calls) _ was.group.diary.fates.items _ c.cut_of.result c.args.worker c.args.slot c.index.result.now c.in_ok-opened.field-0 kid.child.0 seat.fate
          took.called took.fates kid.child.1 c.cut.ensures.children (ap is_some c.in-Some.is ∙ sym took.started) at kid.starts c.cut.ensures.starts (ap (λ (v : _). told v.value) (c.cut.ensures.first ∙ kid.first)) s);
      kills = λ e. ∥∥₁_map₂ (was.in_step (sym took.whole ∙ e)) (was.kills (sym took.whole ∙ e))
          (λ s k. let fates = linked_length was.children.children.items was.group.diary.fates.items s.linked in
          kills_start was.children.children.items _ (noted was.group.diary.calls) _ was.group.diary.workers.items _ was.group.diary.fates.items _ (losses_of was.group.peers.items) _ c.args.worker c.args.slot (option_map (λ o. fresh_child kid.child.0) c.in_ok-opened.field-0) seat.fate seat.is_cut took.cut.0
          took.called c.requires.new took.workers took.fates took.cut.1 took.cut.2
          (c.cut.ensures.children ∙ (ap (λ (r : _). cut_by r c.start.new.self.children.items) (c.cut_of.ensures ∙ ap (then_some seat.is_cut) number) ∙ ap (cut_by (then_some seat.is_cut (length was.children.children.items))) kid.child.1))
          (fresh_unkilled c.in_ok-opened.field-0 kid.child.0) (sym was.group.diary.matched ∙ sym fates) (sym fates) (lost_count was.group.peers.items was.group.diary.fates.items (was.group.seats (sym took.whole ∙ e)) ∙ sym fates) k);
    }

pub invariant_of-self-in-None : goal.invariant_of-self-in-None
invariant_of-self-in-None g c =
    let was = c.args.self.now in
    let kid = c.in_ok-opened.ensures in
    let took = c.skip.ensures in
    let told = λ (s : _). starts_told (g.St.Starter.begun s) in
    let within : c.args.slot < length was.places.items = search rules in
    let at = slice_get_read was.places.items (length was.places.items) c.args.slot c.index.result.now refl within c.index.ensures in
    record {
      in_step = λ e. ∥∥₁_map (was.in_step (sym (when_whole c.skip.result _ _ took.whole took.over e) ∙ e))
          (λ s. step_opened was.places.items (told was.children.first.value) _ (told was.children.starter) _ _ was.children.children.items _ _ (noted was.group.diary.calls) _ was.group.diary.fates.items _ None c.args.worker c.args.slot c.index.result.now c.in_ok-opened.field-0 kid.child.0 Unlinked
          (when_whole c.skip.result _ _ took.called took.over e) (when_whole c.skip.result _ _ took.fates took.over e) kid.child.1 refl (ap is_some c.in-None.is) at kid.starts refl (ap (λ (v : _). told v.value) kid.first) s);
      kills = λ e. ∥∥₁_map₂ (was.in_step (sym (when_whole c.skip.result _ _ took.whole took.over e) ∙ e)) (was.kills (sym (when_whole c.skip.result _ _ took.whole took.over e) ∙ e))
          (λ s k. let fates = linked_length was.children.children.items was.group.diary.fates.items s.linked in
          kills_start was.children.children.items _ (noted was.group.diary.calls) _ was.group.diary.workers.items _ was.group.diary.fates.items _ (losses_of was.group.peers.items) _ c.args.worker c.args.slot (option_map (λ o. fresh_child kid.child.0) c.in_ok-opened.field-0) Unlinked false false
          (when_whole c.skip.result _ _ took.called took.over e) c.requires.new (when_whole c.skip.result _ _ took.workers took.over e) (when_whole c.skip.result _ _ took.fates took.over e) (when_whole c.skip.result _ _ took.lost took.over e) refl kid.child.1
          (fresh_unkilled c.in_ok-opened.field-0 kid.child.0) (sym was.group.diary.matched ∙ sym fates) (sym fates) (lost_count was.group.peers.items was.group.diary.fates.items (was.group.seats (sym (when_whole c.skip.result _ _ took.whole took.over e) ∙ e)) ∙ sym fates) k);
    }
