use Rattle.std.proofs.Common.{sym, ap, ◌∙◌}
use Rattle.std.specs.Prelude.{not, nat_lt}
use Rattle.xd_value.specs.Tree.{depth, dict}
use Rattle.xd_value.specs.View.{view, pair_views}
use Rattle.xd_value.proofs.Walks.{view-Dict}
use Rattle.xd_value.proofs.noting.+note.Goals as goal

pub note-returns-in_ok-shallow-in-Dict-clause-shallow : goal.note-returns-in_ok-shallow-in-Dict-clause-shallow
note-returns-in_ok-shallow-in-Dict-clause-shallow t c =
    c.in_ok-shallow-in-Dict.ensures.shallow
    ∙ ap (λ xs. not (nat_lt c.args.room (depth (dict (pair_views xs))))) c.deref.ensures.value
    ∙ ap (λ u. not (nat_lt c.args.room (depth u))) (sym (ap view c.in-Dict.is ∙ view-Dict c.in-Dict.pairs))
