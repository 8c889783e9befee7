use Rattle.std.proofs.Common.{◌≡◌, ap, subst, sym, ◌∙◌, length, ℕ}
use Rattle.std.specs.Prelude.{sum}
use Rattle.std.specs.List.{range_with_len}
use Rattle.std.proofs.lemmas.List.FromFn.{length-range_with_len}
use Rattle.xd_ledger.specs.Calls.{Turned}
use Rattle.xd_run.specs.Modes.ModeCall.{Share}
use Rattle.xd_run.specs.Sharing.{shared_plan}
use Rattle.xd_run.specs.Table.{Table}
use Rattle.xd_session_rules.specs.Joining.{filled}
use Rattle.xd_session_rules.proofs.collecting.deal.Goals as goal

pub returns : goal.returns
returns g c = λ p h.
    (let sizes = c.args.sizes.now in
    let e : c.fill.new.self ≡ filled sizes c.args.ledger.now = c.in_ok-fill.ensures ∙ ap (λ (n : ℕ). record (c.args.ledger.now) { pool = range_with_len 0 n }) c.total_of.ensures in
    let size : sum sizes ≡ length c.fill.new.self.pool = sym (ap (λ (t : Table). length t.pool) e ∙ length-range_with_len 0 (sum sizes)) in
    subst (λ (t : Table). Turned (Share c.args.slots.now) (shared_plan sizes c.args.ids.now p) t c.args.acts.now.items c.share.new.ledger c.share.new.acts.items (g.M.Mode.stands c.share.new.self)) e (c.in_ok-share.ensures p h size))
