use Rattle.xd_complete.proofs.Complete.{complete}
use Rattle.xd_complete.proofs.complete_law.Goals as goal

pub returns : goal.returns
returns c = complete
