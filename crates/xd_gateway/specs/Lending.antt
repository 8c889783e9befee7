-- The channels of a gateway, lent.
use Rattle.std.specs.Borrow.{Lends, Fml, RattleType, MutBor}
use Rattle.xd_factory.specs.declared.side.Side.{Side}
use Rattle.xd_factory.specs.contracts.side.Side as side_rows
use Rattle.xd_gateway.specs.declared.gateway.Gateway.{Gateway}
use Rattle.xd_gateway.specs.contracts.gateway.Gateway.{the_row}

module _ (K : RattleType) where
  -- once the borrow ends, the gateway has the channels that it shows last
  abbrev pub lends_side : MutBor (Gateway K.Denot) → MutBor Side → Fml
  lends_side g r = Lends (the_row K) side_rows.the_row g r (λ s. record g.now { side = s })
