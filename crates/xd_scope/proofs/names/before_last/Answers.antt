use Rattle.xd_scope.proofs.ScopeNames.{last-found, last-missing}
use Rattle.xd_scope.proofs.names.before_last.Goals as goal

pub returns-in-Some : goal.returns-in-Some
returns-in-Some c = last-found c.args.id.now c.in-Some.front.now c.in-Some.field-0-1.now c.utf8.id c.in-Some.ensures.cases

pub returns-in-None : goal.returns-in-None
returns-in-None c = last-missing c.args.id.now c.utf8.id c.in-None.ensures.cases
