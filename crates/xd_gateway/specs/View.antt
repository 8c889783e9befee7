-- What contracts see of a gateway.
use Rattle.std.specs.Prelude.{◌≡◌, ℕ, Bool, false, List, Option, Result, Err}
use Rattle.xd_edge.specs.Sink.{Sunk}
use Rattle.xd_factory.specs.declared.side.Side.{Side}
use Rattle.xd_factory.specs.SideTable.{ChannelTable, channel_table}
use Rattle.xd_gateway.specs.declared.gateway.Gateway.{Gateway}
use Rattle.xd_gateway.specs.declared.fault.GatewayFault.{GatewayFault}
use Rattle.xd_gateway.specs.declared.fault.GatewayFault.TheVariants.{SendFault}
use Rattle.xd_gateway.specs.Calls.{Wanted, opened_by}
use Rattle.xd_gateway.specs.Line.{ClosesSink, GatewaySink, PrintsBytes, Says}

module _ {K : Type 0} where
  -- its sink
  abbrev pub sink_of : Gateway K → K
  sink_of g = g.sink

  -- its channels
  abbrev pub side_of : Gateway K → Side
  side_of g = g.side

  -- the table of its channels
  abbrev pub channels_of : Gateway K → ChannelTable
  channels_of g = channel_table g.side

  -- a write failed before
  abbrev pub is_broken : Gateway K → Bool
  is_broken g = g.is_broken

  -- the worker said that it has finished
  abbrev pub has_finished : Gateway K → Bool
  has_finished g = g.has_finished

  -- its writing direction, where the sink tells this of what it took and of its faults
  abbrev pub line_of : (K → Option Sunk) → (K → ℕ) → Gateway K → GatewaySink
  line_of sunk faults g = record { sunk = sunk g.sink; faults = faults g.sink; broken = g.is_broken }

  -- all but the line is as it was
  pub record KeepsChannels (old new : Gateway K) : Type 0 where
    pub side : side_of new ≡ side_of old
    pub finished : has_finished new ≡ has_finished old

  -- all but the channels is as it was
  pub record KeepsLine (old new : Gateway K) : Type 0 where
    pub sink : sink_of new ≡ sink_of old
    pub broken : is_broken new ≡ is_broken old

  -- these bytes were written, or not, as the line says
  abbrev pub PrintsOn : (K → Option Sunk) → (K → ℕ) → Gateway K → Gateway K → List ℕ → Type 0
  PrintsOn sunk faults old new bytes = PrintsBytes bytes (line_of sunk faults old) (line_of sunk faults new)

  -- these last bytes were written and the sink was closed, or not, as the line says
  abbrev pub ClosesOn : (K → Option Sunk) → (K → ℕ) → Gateway K → Gateway K → List ℕ → Type 0
  ClosesOn sunk faults old new bytes = ClosesSink bytes (line_of sunk faults old) (line_of sunk faults new)

  -- a call after a write that failed
  abbrev pub IsLost : {T : Type 0} → Gateway K → Gateway K → Result T GatewayFault → Type 0
  IsLost old new r = (r ≡ Err SendFault) × (new ≡ old)

  -- a call that is to say a message, or is refused, where no write has failed before
  abbrev pub SaysOn : {T : Type 0} → (K → Option Sunk) → (K → ℕ) → Gateway K → Gateway K → (Side → Wanted) → Result T GatewayFault → Type 0
  SaysOn sunk faults old new wanted r = is_broken old ≡ false → Says (wanted (side_of old)) (line_of sunk faults old) (line_of sunk faults new) r

  -- what it makes of the channels
  abbrev pub OpensOn : {T : Type 0} → (ChannelTable → ChannelTable) → Gateway K → Gateway K → Result T GatewayFault → Type 0
  OpensOn opens old new r = is_broken old ≡ false → channels_of new ≡ opened_by opens r (channels_of old)
