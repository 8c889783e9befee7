use Rattle.xd_gateway.proofs.Hearing.{hears_taken, refusal_heard}
use Rattle.xd_gateway.proofs.gateway.Gateway.hear.Goals as goal

pub returns-in_ok-news-in-Ok-clause-hears : goal.returns-in_ok-news-in-Ok-clause-hears
returns-in_ok-news-in-Ok-clause-hears g c h s =
    hears_taken c.args.self.now c.take.new.self c.heed.new.self h c.args.message c.in-Ok.taken c.in_ok-news-in-Ok.news s c.in-Ok.ensures.taken
    c.in-Ok.ensures.finished c.in_ok-news-in-Ok.ensures.news c.in_ok-news-in-Ok.ensures.channels c.in_ok-news-in-Ok.ensures.finished

pub returns-in-Err-clause-hears : goal.returns-in-Err-clause-hears
returns-in-Err-clause-hears g c h s =
    refusal_heard c.refused_news.result c.args.self.now c.take.new.self h c.args.message c.in-Err.fault s c.in-Err.ensures.refused c.in-Err.ensures.fails c.in-Err.ensures.finished c.refused_news.ensures.news
