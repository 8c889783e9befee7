-- A small journal that the laws speak of, and lines that they rule out.
use Rattle.std.specs.Prelude.{◌≡◌, ℕ, List, [], ◌∷◌, true, None, slice_index}
use Rattle.std.proofs.Common.{ap, arith, refl}
use Rattle.xd_edge.specs.declared.mode.ModeKind.TheVariants.{Each}
use Rattle.xd_journal.specs.declared.settings.Settings.{Settings}
use Rattle.xd_journal.specs.declared.entry.Ids.TheVariants as ids
use Rattle.xd_journal.specs.declared.entry.Outcome.TheVariants.{Passed}
use Rattle.xd_journal.specs.declared.entry.Entry.{Entry}
use Rattle.xd_journal.specs.declared.entry.Entry.TheVariants.{Ready, Collected, Done}
use Rattle.xd_run.specs.Histories.{after_starts, journal_of, after_inputs}
use Rattle.xd_run.specs.Proper.{IsProper}
use Rattle.xd_run.specs.Reports.{Result, reports}
use Rattle.xd_report.specs.EachReport.{Names, Of, Retried, id_in}
use Rattle.xd_drive.specs.ItemIds.{item_ids}

-- mode each with two slots
abbrev two_slots : Settings
two_slots = record { mode = Each; workers = 2; maxfail = 0; restarts = 8; chunk = None; reorder = true; retries = 0 }

-- slot 0 has the tests a and b, and slot 1 has c, which passes
abbrev a_run : List Entry
a_run = Ready 0 ∷ Collected 0 (ids.List ((97 ∷ []) ∷ (98 ∷ []) ∷ [])) ∷ Ready 1 ∷ Collected 1 (ids.List ((99 ∷ []) ∷ [])) ∷ Done 1 0 Passed 5 [] ∷ []

a_run-proper : IsProper two_slots a_run
a_run-proper = record { mode = refl; some_worker = refl; few_workers = refl; few_restarts = refl; follow = refl }

-- so it is item 2, after the two of slot 0
a_run-reports : reports two_slots (journal_of two_slots a_run) ≡ Result 1 2 Passed ∷ []
a_run-reports = refl

abbrev the_ids : List (List ℕ)
the_ids = (97 ∷ []) ∷ (98 ∷ []) ∷ (99 ∷ []) ∷ []

a_run-ids : item_ids (after_inputs (after_starts two_slots) a_run).books ≡ the_ids
a_run-ids = refl

-- its line gives c
a_run-named : Names (id_in the_ids) (Of (Result 1 2 Passed) (99 ∷ []) ∷ [])
a_run-named = (refl, tt)

-- its line gives a, which is the first test of the other slot
of_the_other_slot : Names (id_in the_ids) (Of (Result 1 2 Passed) (97 ∷ []) ∷ []) → ⊥
of_the_other_slot h =
    let one : 97 ≡ 99 = ap (λ (id : List ℕ). slice_index id 0) h.0 in
    omega (one, arith)

-- nor does the line of its retry give that test
of_the_other_slot_again : Names (id_in the_ids) (Retried 1 2 (97 ∷ []) ∷ []) → ⊥
of_the_other_slot_again h =
    let one : 97 ≡ 99 = ap (λ (id : List ℕ). slice_index id 0) h.0 in
    omega (one, arith)
