use Rattle.xd_value.proofs.Steps.{only_is, faults_is}
use Rattle.xd_value_loads.proofs.reading.loads.Goals as goal

pub returns-clause-only : goal.returns-clause-only
returns-clause-only c = λ v h. only_is c.args.bytes.now c.run.result v h c.run.ensures.read c.run.ensures.refused

pub returns-clause-faults : goal.returns-clause-faults
returns-clause-faults c = λ at f h. faults_is c.args.bytes.now c.run.result at f h c.run.ensures.read c.run.ensures.refused
