use Rattle.std.proofs.Common.{Option, sym, ap, ap₂, ◌∙◌}
use Rattle.xd_value.specs.Tree.{dict}
use Rattle.xd_value.specs.View.{view, pair_views}
use Rattle.xd_value.proofs.Walks.{view-Text, view-Dict}
use Rattle.xd_commands.specs.declared.function.FunctionName.{FunctionName}
use Rattle.xd_commands.specs.Functions.{named, with_kwargs, with_value}
use Rattle.xd_commands.proofs.function.named.Goals as goal

-- the name and the keyword arguments are a text and a dict
pub returns : goal.returns
returns c =
    c.in_ok-called.ensures
    ∙ ap (λ ps. with_kwargs c.args.started c.in-Some.name (pair_views ps)) c.deref.ensures.value
    ∙ ap (λ (f : Option FunctionName). with_value c.args.started f (dict (pair_views c.in-Dict.kwargs.items))) c.in-Some.ensures
    ∙ ap₂ (named c.args.started) (sym (ap view c.in-Text.is ∙ view-Text c.in-Text.name)) (sym (ap view c.in-Dict.is ∙ view-Dict c.in-Dict.kwargs))
