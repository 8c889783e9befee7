-- A message that a side takes, or refuses, by its table.
use Rattle.std.specs.Prelude.{◌≡◌, None}
use Rattle.xd_value.specs.declared.value.Value.{Value}
use Rattle.xd_frame.specs.Message.{MessageView}
use Rattle.xd_factory.specs.declared.taken.Taken.{Taken}
use Rattle.xd_factory.specs.declared.faults.SideFault.{SideFault}
use Rattle.xd_factory.specs.declared.faults.SideFault.TheVariants as fault
use Rattle.xd_factory.specs.Said.{Said, Means}
use Rattle.xd_factory.specs.Trees.{taken_tree}
use Rattle.xd_factory.specs.SideTable.{ChannelTable, MustRefuse, RefusedBy, answer, heard_of_message}
use Rattle.xd_gateway.specs.News.{HasRoom}

-- the message was taken, by what it says
pub record IsTaken (m : MessageView) (old new : ChannelTable) (taken : Taken Value) : Type 0 where
  pub said : Said
  pub good : old.fault ≡ None
  pub means : Means m said
  pub room : HasRoom old said
  pub answer_is : taken_tree taken ≡ answer said old
  pub table_is : new ≡ heard_of_message said old

-- a refusal has its reason; running out of memory needs none
abbrev pub IsFaultOf : ChannelTable → MessageView → SideFault → Type 0
IsFaultOf t m fault.OutOfMemory = Unit {0}
IsFaultOf t m fault.Finished = RefusedBy t.fault t m fault.Finished
IsFaultOf t m fault.BadNumber = RefusedBy t.fault t m fault.BadNumber
IsFaultOf t m fault.Unsupported = RefusedBy t.fault t m fault.Unsupported
IsFaultOf t m (fault.BadPayload what) = RefusedBy t.fault t m (fault.BadPayload what)
IsFaultOf t m fault.NotText = RefusedBy t.fault t m fault.NotText
IsFaultOf t m fault.TooManyOpen = RefusedBy t.fault t m fault.TooManyOpen

-- a message that is to be refused
abbrev pub IsToRefuse : ChannelTable → MessageView → SideFault → Type 0
IsToRefuse t m fault = MustRefuse t.fault t m fault

-- a refusal for a reason, which is not running out of memory
abbrev pub IsNamed : SideFault → Type 0
IsNamed fault.OutOfMemory = ⊥
IsNamed fault.Finished = Unit {0}
IsNamed fault.BadNumber = Unit {0}
IsNamed fault.Unsupported = Unit {0}
IsNamed (fault.BadPayload what) = Unit {0}
IsNamed fault.NotText = Unit {0}
IsNamed fault.TooManyOpen = Unit {0}
