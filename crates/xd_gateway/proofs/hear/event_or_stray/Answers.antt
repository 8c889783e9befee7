use Rattle.std.proofs.Common.{Some, sym, ◌∙◌}
use Rattle.xd_value.specs.View.{view}
use Rattle.xd_gateway.proofs.EventNews.{event_kind}
use Rattle.xd_gateway.proofs.hear.event_or_stray.Goals as goal

pub returns-in-Some-clause-kind : goal.returns-in-Some-clause-kind
returns-in-Some-clause-kind c = event_kind (view c.args.value.now) (Some c.in-Some.what) (sym c.in-Some.is ∙ c.in_ok-event.ensures)
