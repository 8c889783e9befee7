-- A link that was not used.
use Rattle.std.specs.Prelude.{◌≡◌, [], IfSome}
use Rattle.xd_link.specs.FreshLink.{unused}
use Rattle.xd_group_peer.specs.LinkRun.{Link}

-- Nothing was given and nothing taken, and neither direction failed.
pub record Unused (l : Link) : Type 0 where
  pub none_given : IfSome l.spring.supply (λ s. s.given ≡ [])
  pub none_taken : IfSome l.sunk (λ s. s ≡ unused)
  pub reads : l.spring.faults ≡ 0
  pub writes : l.writes ≡ 0
