-- What the workers of the rota hold, as a reporter keeps it. A choice of this project.
use Rattle.std.specs.Prelude.{false}
use Rattle.xd_run.specs.declared.seat.Seat.{Seat}
use Rattle.xd_held.specs.declared.holder.Holder.{Holder}

-- the bare seat that a holder stands for
abbrev pub seat_of_holder : Holder → Seat
seat_of_holder h = record { worker = h.worker; held = h.held; shut = false }
