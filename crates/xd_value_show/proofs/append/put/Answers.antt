use Rattle.std.proofs.Common.{ap, ◌++◌, ◌∙◌, List, ℕ}
use Rattle.std.proofs.lemmas.Str.{IsUtf8-string_bytes}
use Rattle.xd_value_show.proofs.Prints.{pushed_words}
use Rattle.xd_value_show.proofs.append.put.Goals as goal

pub returns : goal.returns
returns c =
    pushed_words _ _ c.args.words.now (IsUtf8-string_bytes c.out.inside.text) c.requires c.in_ok-push_str.ensures.bytes ∙ ap (λ (x : List ℕ). x ++ c.args.words.now) c.out.view_is
