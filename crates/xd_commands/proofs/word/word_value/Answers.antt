use Rattle.std.proofs.Common.{ap, ◌∙◌}
use Rattle.xd_value.specs.Tree.{text}
use Rattle.xd_value.proofs.Walks.{view-Text}
use Rattle.xd_commands.proofs.WordBytes.{chars_word}
use Rattle.xd_commands.proofs.word.word_value.Goals as goal

pub returns : goal.returns
returns c = view-Text c.in_ok-word.word ∙ ap text (c.in_ok-word.ensures ∙ chars_word c.args.word.now c.requires)
