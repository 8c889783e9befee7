use Rattle.std.proofs.Common.{ap, ◌∙◌}
use Rattle.xd_group.proofs.gateway_hub.GatewayHub.step.Goals as goal

pub returns-clause-started : goal.returns-clause-started
returns-clause-started g c = rw (c.bury.ensures.group) at (c.in_ok-news.ensures.started)

pub returns-clause-given : goal.returns-clause-given
returns-clause-given g c = rw (c.bury.ensures.group) at (c.in_ok-news.ensures.given)

pub returns-clause-silent : goal.returns-clause-silent
returns-clause-silent g c = rw (c.bury.ensures.group) at (c.in_ok-news.ensures.silent)

pub returns-clause-calls : goal.returns-clause-calls
returns-clause-calls g c = rw (c.bury.ensures.group) at (c.in_ok-news.ensures.calls)

pub returns-clause-whole : goal.returns-clause-whole
returns-clause-whole g c = rw (c.bury.ensures.group) at (c.in_ok-news.ensures.whole)

pub returns-clause-made : goal.returns-clause-made
returns-clause-made g c = rw (c.bury.ensures.group) at (c.in_ok-news.ensures.made)

pub returns-clause-first : goal.returns-clause-first
returns-clause-first g c =
    let now = c.in_ok-news.ensures.first in
    let was = c.bury.ensures in
    (now.0 ∙ was.first.0, now.1 ∙ was.first.1, now.2 ∙ ap (λ (h : _). h.first) was.group)

pub returns-in_err-news-clause-calls : goal.returns-in_err-news-clause-calls
returns-in_err-news-clause-calls g c = rw (c.bury.ensures.group) at (c.in_err-news.ensures.calls)

pub returns-in_err-news-clause-made : goal.returns-in_err-news-clause-made
returns-in_err-news-clause-made g c = rw (c.bury.ensures.group) at (c.in_err-news.ensures.made)

pub returns-in_err-news-clause-first : goal.returns-in_err-news-clause-first
returns-in_err-news-clause-first g c =
    let now = c.in_err-news.ensures.first in
    let was = c.bury.ensures in
    (now.0 ∙ was.first.0, now.1 ∙ was.first.1, now.2 ∙ ap (λ (h : _). h.first) was.group)

pub returns-clause-waiting : goal.returns-clause-waiting
returns-clause-waiting g c = rw (c.bury.ensures.group) at (c.in_ok-news.ensures.waiting)

pub returns-in_err-news-clause-waiting : goal.returns-in_err-news-clause-waiting
returns-in_err-news-clause-waiting g c = rw (c.bury.ensures.group) at (c.in_err-news.ensures.waiting)
