use Rattle.std.proofs.Common.{◌≡◌, rules, ap, ◌∙◌}
use Rattle.std.specs.Str.{bytes_eq}
use Rattle.xd_commands.proofs.WordBytes.{word_same}
use Rattle.xd_commands.proofs.word.is_word.Goals as goal

pub returns : goal.returns
returns c =
    let e : c.eq.result ≡ bytes_eq c.as_str.result.now c.args.word.now = search rules in
    e ∙ word_same _ _ c.as_str.utf8 c.requires ∙ ap (λ t. bytes_eq t c.args.word.now) c.as_str.ensures.characters
