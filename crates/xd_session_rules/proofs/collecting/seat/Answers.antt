use Rattle.std.proofs.Common.{subst, sym}
use Rattle.xd_run.specs.Table.{Table}
use Rattle.xd_session_rules.specs.Joining.{IsBare}
use Rattle.xd_session_rules.proofs.Bare.{bare-joined}
use Rattle.xd_session_rules.proofs.collecting.seat.Goals as goal

pub returns-clause-bare : goal.returns-clause-bare
returns-clause-bare c = λ bare. subst (λ (t : Table). IsBare t) (sym c.in_ok-join.ensures) (bare-joined c.args.worker c.args.books.now.ledger bare)
