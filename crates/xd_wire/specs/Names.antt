-- Printed names: the kinds of messages as execnet's gateway_base.py calls them, and the faults as this project does.
use Rattle.std.specs.Prelude.{ℕ, List, codes}
use Rattle.xd_frame.specs.declared.kind.Kind.{Kind}
use Rattle.xd_frame.specs.declared.kind.Kind.TheVariants as kind
use Rattle.xd_frame.specs.declared.fault.FrameFault.{FrameFault}
use Rattle.xd_frame.specs.declared.fault.FrameFault.TheVariants as frame_fault
use Rattle.xd_value.specs.declared.fault.LoadWhat.{LoadWhat}
use Rattle.xd_value.specs.declared.fault.LoadWhat.TheVariants as what

-- the name of a kind of message
-- Example: `CHANNEL_LAST_MESSAGE`.
abbrev pub kind_name : Kind → List ℕ
kind_name kind.Status = codes "STATUS"
kind_name kind.Reconfigure = codes "RECONFIGURE"
kind_name kind.Terminate = codes "GATEWAY_TERMINATE"
kind_name kind.Exec = codes "CHANNEL_EXEC"
kind_name kind.Item = codes "CHANNEL_DATA"
kind_name kind.Close = codes "CHANNEL_CLOSE"
kind_name kind.CloseError = codes "CHANNEL_CLOSE_ERROR"
kind_name kind.LastMessage = codes "CHANNEL_LAST_MESSAGE"

-- the name of a fault of a header, or of the cut of a message
abbrev pub frame_fault_name : FrameFault → List ℕ
frame_fault_name (frame_fault.BadKind code) = codes "BadKind"
frame_fault_name (frame_fault.BadChannel number) = codes "BadChannel"
frame_fault_name (frame_fault.BadLength number) = codes "BadLength"
frame_fault_name frame_fault.Cut = codes "Cut"

-- the name of a fault of a payload
-- Example: `BadText`.
abbrev pub what_name : LoadWhat → List ℕ
what_name what.UnknownOpcode = codes "UnknownOpcode"
what_name what.FloatOpcode = codes "FloatOpcode"
what_name what.Short = codes "Short"
what_name what.BadLength = codes "BadLength"
what_name what.BadText = codes "BadText"
what_name what.BadNumber = codes "BadNumber"
what_name what.Misplaced = codes "Misplaced"
what_name what.ListOrder = codes "ListOrder"
what_name what.Unhashable = codes "Unhashable"
what_name what.Repeated = codes "Repeated"
what_name what.TooDeep = codes "TooDeep"
what_name what.Leftover = codes "Leftover"
what_name what.NoStop = codes "NoStop"
