use Rattle.std.proofs.Common.{◌∙◌}
use Rattle.xd_commands.proofs.WordBytes.{chars_word}
use Rattle.xd_worker.proofs.worker.WorkerCore.error_of.Goals as goal

pub returns : goal.returns
returns c = c.in_ok-text.ensures ∙ chars_word c.text.result.now c.text.ensures.ascii ∙ c.text.ensures.text
