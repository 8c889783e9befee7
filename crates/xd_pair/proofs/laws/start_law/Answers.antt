use Rattle.std.proofs.Common.{◌≡◌, List, [], sym, subst}
use Rattle.xd_frame.specs.Message.{MessageView}
use Rattle.xd_pair.specs.Messages.{AllMean}
use Rattle.xd_pair.proofs.laws.start_law.Goals as goal

empty : (ms : List MessageView) → ms ≡ [] → AllMean ms []
empty ms h = subst (λ (x : List MessageView). AllMean x []) (sym h) tt

pub returns : goal.returns
returns c = λ odd even h k p q. record { odd_stands = h; even_stands = k; to_odd = λ o. empty even.said.items q; to_even = λ o. empty odd.said.items p }
