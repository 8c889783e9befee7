use Rattle.std.proofs.Common.{sym, ap, ap₂, ◌∙◌}
use Rattle.xd_value.specs.View.{view, pair_views}
use Rattle.xd_value.proofs.Walks.{view-Text, view-Dict}
use Rattle.xd_commands.specs.Calls.{has_text_keys, call_by}
use Rattle.xd_commands.proofs.Tuples.{other_keys}
use Rattle.xd_commands.proofs.call.call_by.Goals as goal

pub returns-else-have_text_keys : goal.returns-else-have_text_keys
returns-else-have_text_keys c =
    let parts = c.in-Text-Dict in
    let other = ap (λ ps. has_text_keys (pair_views ps)) (sym c.deref.ensures.value) ∙ sym c.have_text_keys.ensures ∙ c.if-have_text_keys.false in
    sym (other_keys parts.name (pair_views parts.kwargs.items) other)
    ∙ ap₂ call_by (sym (ap view parts.is-0 ∙ view-Text parts.name)) (sym (ap view parts.is-1 ∙ view-Dict parts.kwargs))
