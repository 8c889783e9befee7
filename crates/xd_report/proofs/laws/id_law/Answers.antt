use Rattle.xd_report.proofs.Named.{blocks-named, lines-named}
use Rattle.xd_report.proofs.laws.id_law.Goals as goal

pub returns-clause-lines : goal.returns-clause-lines
returns-clause-lines c = λ settings before more first one_list no_report no_retry first_is. lines-named settings before more first one_list no_report no_retry first_is

pub returns-clause-blocks : goal.returns-clause-blocks
returns-clause-blocks c = λ settings before more first one_list no_report first_is. blocks-named settings before more first one_list no_report first_is
