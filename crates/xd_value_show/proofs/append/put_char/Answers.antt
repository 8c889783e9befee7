use Rattle.std.proofs.Common.{ap, ◌++◌, ◌∷◌, [], ◌∙◌, List, ℕ}
use Rattle.std.proofs.lemmas.Str.{IsUtf8-string_bytes}
use Rattle.xd_value_show.proofs.Prints.{pushed_char}
use Rattle.xd_value_show.proofs.append.put_char.Goals as goal

pub returns : goal.returns
returns c =
    pushed_char _ _ c.args.c (IsUtf8-string_bytes c.out.inside.text) c.ranges.c.0 c.in_ok-push.ensures.bytes ∙ ap (λ (x : List ℕ). x ++ c.args.c ∷ []) c.out.view_is
