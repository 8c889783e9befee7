use Rattle.std.proofs.Common.{sym, arith, ap, ◌∙◌}
use Rattle.std.specs.Prelude.{false, slice_set, slice_index_or}
use Rattle.xd_link.specs.declared.starter.LinkRun.{LinkRun}
use Rattle.xd_link.specs.declared.starter.Reaped.{Reaped}
use Rattle.xd_link.specs.declared.starter.Reaped.TheVariants.{Never}
use Rattle.xd_link.specs.Starter.{as_reaped}
use Rattle.xd_memory.proofs.LinkLemmas.{link_changed_set, link_changed_past}
use Rattle.xd_memory.proofs.mem_starter.note_reaping.Goals as goal

pub returns-then-link-links : goal.returns-then-link-links
returns-then-link-links c =
    let links = c.args.links.now in
    let fresh : LinkRun = record { has_child = false; killed = false; closed = false; reaped = Never } in
    ap (λ (r : Reaped). slice_set links c.args.link (record (slice_index_or links c.args.link fresh) { reaped = r })) c.once_more-run.ensures
    ∙ sym (link_changed_set c.args.link as_reaped links fresh (omega arith))

pub returns-else-link-links : goal.returns-else-link-links
returns-else-link-links c = sym (link_changed_past c.args.link as_reaped c.args.links.now (omega arith))
