-- The channels of a worker's side of its link before anything came.
use Rattle.xd_factory.specs.declared.parity.Parity.TheVariants.{Even}
use Rattle.xd_factory.specs.SideTable.{ChannelTable, new_table}

-- a worker's side opens the even numbers
abbrev pub empty : ChannelTable
empty = new_table Even
