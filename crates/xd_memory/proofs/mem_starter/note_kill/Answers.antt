use Rattle.std.proofs.Common.{sym, arith}
use Rattle.xd_link.specs.declared.starter.Reaped.TheVariants.{Never}
use Rattle.std.specs.Prelude.{false}
use Rattle.xd_link.specs.Starter.{as_killed}
use Rattle.xd_memory.proofs.LinkLemmas.{link_changed_set, link_changed_past}
use Rattle.xd_memory.proofs.mem_starter.note_kill.Goals as goal

pub returns-then-link-links : goal.returns-then-link-links
returns-then-link-links c = sym (link_changed_set c.args.link as_killed c.args.links.now (record { has_child = false; killed = false; closed = false; reaped = Never }) (omega arith))

pub returns-else-link-links : goal.returns-else-link-links
returns-else-link-links c = sym (link_changed_past c.args.link as_killed c.args.links.now (omega arith))
