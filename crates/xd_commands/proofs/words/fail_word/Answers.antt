use Rattle.std.specs.Str.{chars}
use Rattle.xd_commands.proofs.words.fail_word.Goals as goal

pub returns : goal.returns
unfolding chars
returns c = c.in_ok-text.ensures
