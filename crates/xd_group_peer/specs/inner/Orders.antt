-- What an order makes of the writing direction of a link.
use Rattle.std.specs.Prelude.{◌≡◌, Option, Some, None}
use Rattle.xd_frame.specs.Message.{MessageView, frame}
use Rattle.xd_gateway.specs.Line.{GatewaySink, PrintsBytes}

-- its message is written; without one nothing is
abbrev pub WritesOrder : Option MessageView → GatewaySink → GatewaySink → Type 0
WritesOrder None old new = new ≡ old
WritesOrder (Some m) old new = PrintsBytes (frame m) old new
