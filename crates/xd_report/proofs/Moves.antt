-- What a reporter keeps of a state, it keeps of each state that differs in other parts alone.
use Rattle.std.proofs.Common.{◌≡◌, ℕ, true, false, Option, Some, None, is_some, refl, if◌then◌else◌}
use Rattle.xd_journal.specs.declared.entry.Entry.{Entry}
use Rattle.xd_journal.specs.declared.entry.RunStop.{RunStop}
use Rattle.xd_run.specs.Sharing.{State, in_books, joining}
use Rattle.xd_run.specs.Collecting.{collecting}
use Rattle.xd_run.specs.State.{is_input, reached, settled}
use Rattle.xd_run.specs.Stops.{stopped_by}
use Rattle.xd_run.specs.Workers.{is_shut}
use Rattle.xd_report.specs.declared.reporter.Reporter.{Reporter}
use Rattle.xd_report.specs.Follows.{Follows}

pub settle : (r : Reporter) (s : State) → Follows r s → Follows r (settled s)
settle r s f = record { books = f.books; mode = f.mode; rota = f.rota; sizes = f.sizes }

-- a worker that was told to shut down does not join
pub stays : (w : ℕ) (how : Option RunStop) (s : State) → is_shut w s.books ≡ true → collecting w how s ≡ s
stays w (Some h) s shut = rw shut refl
stays w None s shut = rw shut refl

pub stops : (w : ℕ) (how : Option RunStop) (s : State) → is_shut w s.books ≡ false → is_some how ≡ true → collecting w how s ≡ in_books (stopped_by how) s
stops w (Some h) s shut some = rw shut refl
stops w None s shut some = absurd (cc)

pub joins : (w : ℕ) (how : Option RunStop) (s : State) → is_shut w s.books ≡ false → is_some how ≡ false → collecting w how s ≡ joining w s
joins w None s shut none = rw shut refl
joins w (Some h) s shut none = absurd (cc)

-- the mark that is set before an input
pub reach : (r : Reporter) (s : State) (e : Entry) → Follows r s → Follows r (reached s e)
reach r s e f = elim (is_input e) as (λ b. Follows r (if b then settled s else s)) [ true ↦ settle r s f | false ↦ f ]
