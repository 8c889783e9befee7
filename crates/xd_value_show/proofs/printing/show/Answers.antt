use Rattle.std.proofs.Common.{ap, ◌++◌, ◌∙◌, List, ℕ}
use Rattle.std.proofs.lemmas.Str.{chars-nil}
use Rattle.std.specs.Str.{chars}
use Rattle.xd_value_show.specs.Show.{shown}
use Rattle.xd_value.specs.View.{view}
use Rattle.xd_value_show.proofs.printing.show.Goals as goal

pub returns : goal.returns
returns c = c.in_ok-print.ensures ∙ ap (λ (x : List ℕ). x ++ shown (view c.args.value.now)) (c.from_string-out.ensures ∙ ap chars c.in_ok-with_capacity.ensures.bytes ∙ chars-nil)
