-- The failures that the books of a whole journal keep are its failed reports.
use Rattle.std.proofs.Common.{◌≡◌, length, sym, ◌∙◌, ap}
use Rattle.std.proofs.lemmas.List.{length-map}
use Rattle.xd_journal.specs.declared.journal.Journal.{Journal}
use Rattle.xd_run.specs.Reports.{item_of, reports_in}
use Rattle.xd_run.specs.Sharing.{State}
use Rattle.xd_run.specs.State.{after_entries, no_one}
use Rattle.xd_run_laws.specs.Whole.{IsWhole}
use Rattle.xd_run_laws.proofs.Laws.{lawful}
use Rattle.xd_run_laws.proofs.Told.{items_told}
use Rattle.xd_run_laws.proofs.Whole.{reports-whole, state-whole}
use Rattle.xd_report.specs.Summary.{counts}
use Rattle.xd_report.proofs.Failures.{failures-told}

pub failures-whole : (j : Journal) → IsWhole j → (after_entries (no_one j.settings) j.entries.items).books.failures ≡ (counts j.settings j.entries.items).failed
failures-whole j w =
    failures-told j.settings j.entries.items
    (sym (length-map (reports_in j) item_of)
    ∙ ap length (ap items_told (reports-whole j w) ∙ (lawful j.settings w.inputs w.proper).told ∙ ap (λ (s : State). s.books.table.reported) (sym (state-whole j w))))
