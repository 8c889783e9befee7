use Rattle.std.proofs.Common.{◌≡◌, ap, sym, false, ◌∙◌}
use Rattle.xd_run.specs.Table.{Table, in_rota}
use Rattle.xd_ledger.proofs.Seats.{no_seat-kept, no_seat-of_any}
use Rattle.xd_session_books.proofs.seats.leave_seat.Goals as goal

pub returns-else-in_rota : goal.returns-else-in_rota
returns-else-in_rota c =
    let t : Table = c.args.ledger.now in
    let f : in_rota c.args.worker t ≡ false = sym c.in_rota.ensures ∙ c.if-in_rota.false in
    let k = no_seat-kept c.args.worker t.rota (no_seat-of_any c.args.worker t.rota f) in
    ap (λ ss. record t { rota = ss }) (sym k)
