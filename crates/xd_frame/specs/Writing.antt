-- What was written to a sink by calls that went well or failed, and what became of its count of faults.
use Rattle.std.specs.Prelude.{◌≡◌, ℕ, Bool, true, false, not, List, Option}
use Rattle.xd_edge.specs.Faults.{Rose}
use Rattle.xd_edge.specs.Sink.{Sunk, Printed, PrintedPart}

-- These bytes, of one print or of several, were written and handed on; or, where the sink failed, a first part of them was
-- written, and some of it was handed on.
abbrev pub Writes : Bool → List ℕ → Option Sunk → Option Sunk → Type 0
Writes true bytes old new = Printed bytes old new
Writes false bytes old new = PrintedPart bytes old new

-- After a fault of the sink nothing more is written.
abbrev pub WritesMore : Bool → Bool → List ℕ → Option Sunk → Option Sunk → Type 0
WritesMore true broken bytes old new = (broken ≡ true) × (new ≡ old)
WritesMore false broken bytes old new = Writes (not broken) bytes old new

-- Where all calls went well the count is the one before them; where one failed it rose.
-- Example: all messages were written and handed on: the count is the one before.
abbrev pub CountAfter : Bool → ℕ → ℕ → Type 0
CountAfter true before now = now ≡ before
CountAfter false before now = Rose before now

-- After a fault of the sink it is asked no more, and the count stays.
abbrev pub CountSince : Bool → Bool → ℕ → ℕ → Type 0
CountSince true broken before now = (broken ≡ true) × (now ≡ before)
CountSince false broken before now = CountAfter (not broken) before now
