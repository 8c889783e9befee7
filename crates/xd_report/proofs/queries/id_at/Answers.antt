use Rattle.std.proofs.Common.{List, ℕ, [], sym, ◌∙◌, arith}
use Rattle.std.proofs.lemmas.List.{get_or_past}
use Rattle.std.proofs.lemmas.Str.{chars-nil}
use Rattle.xd_report.proofs.queries.id_at.Goals as goal

pub returns-in-None : goal.returns-in-None
returns-in-None c = let none : List ℕ = [] in chars-nil ∙ sym (get_or_past {X = List ℕ} c.args.ids.now c.args.index none (grind arith))
