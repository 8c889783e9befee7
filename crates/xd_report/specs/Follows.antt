-- What a reporter keeps of the state of a run.
use Rattle.std.specs.Prelude.{◌≡◌, false, [], map}
use Rattle.xd_run.specs.declared.seat.Seat.{Seat}
use Rattle.xd_run.specs.Books.{Books}
use Rattle.xd_run.specs.Sharing.{State}
use Rattle.xd_run.specs.Table.{fresh_table}
use Rattle.xd_held.specs.Holders.{seat_of_holder}
use Rattle.xd_report.specs.declared.reporter.Reporter.{Reporter}

-- the books but for where the tests stand, and for whether something is left to hand out
abbrev pub apart : Books → Books
apart b = record b { table = fresh_table []; shutting = false }

-- of a worker in the rota what it holds
abbrev pub bare_seat : Seat → Seat
bare_seat s = record s { shut = false }

-- it keeps the parts of this state that reports depend on
-- Example: after a Run of 0 and 1 to gw0 it keeps that gw0 holds them, and not what their outcomes will be.
pub record Follows (r : Reporter) (s : State) : Type 0 where
  pub books : apart s.books ≡ r.books
  pub mode : s.plan.mode ≡ r.books.settings.mode
  pub rota : map bare_seat s.books.table.rota ≡ map seat_of_holder r.rota.items
  pub sizes : s.plan.sizes ≡ r.sizes.items
