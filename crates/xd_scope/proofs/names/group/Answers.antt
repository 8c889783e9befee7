use Rattle.xd_scope.proofs.ScopeNames.{group-found, group-missing, group-refused}
use Rattle.xd_scope.proofs.names.group.Goals as goal

pub returns-then-contains : goal.returns-then-contains
returns-then-contains c =
    let m = c.if-contains.ensures.cases in
    group-refused c.args.id.now c.in-Some.field-0-0.now c.in-Some.after.now m.0 m.1 c.utf8.id c.in-Some.ensures.cases m.2

pub returns-else-contains : goal.returns-else-contains
returns-else-contains c = group-found c.args.id.now c.in-Some.field-0-0.now c.in-Some.after.now c.utf8.id c.in-Some.ensures.cases c.if-contains.ensures.cases

pub returns-in-None : goal.returns-in-None
returns-in-None c = group-missing c.args.id.now c.utf8.id c.in-None.ensures.cases
