use Rattle.xd_gateway.proofs.Ears.{one_news}
use Rattle.xd_gateway.proofs.laws.messages_have_one_meaning.Goals as goal

pub returns : goal.returns
returns c = one_news
