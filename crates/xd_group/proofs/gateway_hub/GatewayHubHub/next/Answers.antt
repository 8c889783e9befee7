use Rattle.std.proofs.Common.{◌∙◌}
use Rattle.xd_group.proofs.gateway_hub.GatewayHubHub.next.Goals as goal

pub returns-in_err-news-clause-first : goal.returns-in_err-news-clause-first
returns-in_err-news-clause-first g c =
    let was = c.loop.invariant in
    let now = c.in_err-news.ensures.first in
    (now.0 ∙ was.places, now.1 ∙ was.first, now.2 ∙ was.crew)

pub returns-in-Some-3-clause-first : goal.returns-in-Some-3-clause-first
returns-in-Some-3-clause-first g c =
    let was = c.loop.invariant in
    let now = c.in_ok-news.ensures.first in
    (now.0 ∙ was.places, now.1 ∙ was.first, now.2 ∙ was.crew)
