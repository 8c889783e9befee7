-- The writing direction of a gateway, and what a call makes of it.
use Rattle.std.specs.Prelude.{◌≡◌, ◌≤◌, ℕ, Bool, true, false, List, Option, option_map, Result, Ok, Err}
use Rattle.xd_edge.specs.Sink.{Sunk, PrintedPart, with_bytes, with_close, with_flush}
use Rattle.xd_frame.specs.Message.{MessageView, frame}
use Rattle.xd_frame.specs.Writing.{CountSince, WritesMore}
use Rattle.xd_gateway.specs.declared.fault.GatewayFault.{GatewayFault}
use Rattle.xd_gateway.specs.declared.fault.GatewayFault.TheVariants.{SendFault, Channel, Opening, OutOfMemory}

-- what the sink took, how often it failed, and whether a write of this gateway failed
pub record GatewaySink : Type 0 where
  pub sunk : Option Sunk
  pub faults : ℕ
  pub broken : Bool

-- The bytes are written and handed on; or a first part of them, where the sink fails now; or nothing, where it failed before.
-- Example: the sink fails at the second byte of a header: one byte was taken, nothing was handed on, and the count rose.
pub record PrintsBytes (bytes : List ℕ) (old new : GatewaySink) : Type 0 where
  pub writes : WritesMore old.broken new.broken bytes old.sunk new.sunk
  pub count : CountSince old.broken new.broken old.faults new.faults
  pub later : old.faults ≤ new.faults

-- The sink took these last bytes, handed them on and was closed; or not all of it, where it failed.
abbrev pub ClosesMore : Bool → Bool → List ℕ → Option Sunk → Option Sunk → Type 0
ClosesMore true broken bytes old new = (broken ≡ true) × (new ≡ old)
ClosesMore false true bytes old new = PrintedPart bytes old new
ClosesMore false false bytes old new = new ≡ option_map (λ s. with_close (with_flush (with_bytes bytes s))) old

-- A close with these last bytes: what the sink took of them, and its count of faults, which rose where it failed now.
pub record ClosesSink (bytes : List ℕ) (old new : GatewaySink) : Type 0 where
  pub closes : ClosesMore old.broken new.broken bytes old.sunk new.sunk
  pub count : CountSince old.broken new.broken old.faults new.faults
  pub later : old.faults ≤ new.faults

-- Nothing more than the close: it is done, or it failed now, or a write failed before.
abbrev pub ClosedBy : Bool → Bool → Option Sunk → Option Sunk → Type 0
ClosedBy true broken old new = (broken ≡ true) × (new ≡ old)
ClosedBy false true old new = new ≡ old
ClosedBy false false old new = new ≡ option_map with_close old

-- A close without last bytes: whether the sink is closed, and its count of faults, which rose where it failed now.
pub record ClosesNow (old new : GatewaySink) : Type 0 where
  pub closed : ClosedBy old.broken new.broken old.sunk new.sunk
  pub count : CountSince old.broken new.broken old.faults new.faults
  pub later : old.faults ≤ new.faults

-- what a call that only writes answers, by whether a write failed, now or before
abbrev pub write_answer : Bool → Result (Unit {0}) GatewayFault
write_answer true = Err SendFault
write_answer false = Ok tt

-- A call that is to say a message, or that is refused before, while no write has failed: what it answers, and what it makes
-- of the line.
abbrev pub Says : {T : Type 0} → Result MessageView GatewayFault → GatewaySink → GatewaySink → Result T GatewayFault → Type 0
Says wanted old new (Ok x) = (m : MessageView) × (wanted ≡ Ok m) × (new.broken ≡ false) × PrintsBytes (frame m) old new
Says wanted old new (Err SendFault) = (m : MessageView) × (wanted ≡ Ok m) × (new.broken ≡ true) × PrintsBytes (frame m) old new
Says wanted old new (Err (Channel f)) = (wanted ≡ Err (Channel f)) × (new ≡ old)
Says wanted old new (Err (Opening f)) = (wanted ≡ Err (Opening f)) × (new ≡ old)
Says wanted old new (Err OutOfMemory) = new ≡ old
