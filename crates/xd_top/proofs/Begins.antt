-- A run that words ask for can begin.
use Rattle.std.proofs.Common.{◌≡◌, ◌≢◌, ℕ, List, true, refl}
use Rattle.std.proofs.lemmas.Bool.{le-leb}
use Rattle.xd_edge.specs.declared.mode.ModeKind.{ModeKind}
use Rattle.xd_edge.specs.declared.mode.ModeKind.TheVariants.{Each, Load, LoadFile, LoadGroup, LoadScope, Local, WorkSteal}
use Rattle.xd_journal.specs.declared.settings.Settings.{Settings}
use Rattle.xd_run.specs.Proper.{has_workers, most_restarts, most_workers}
use Rattle.xd_link.specs.declared.place.Place.{Place}
use Rattle.xd_session.specs.Stands.{CanBegin}
use Rattle.xd_words.specs.Words.{FitsRun}

with_workers : (mode : ModeKind) → mode ≢ Local → has_workers mode ≡ true
with_workers Local differs = absurd (differs refl)
with_workers Each differs = refl
with_workers Load differs = refl
with_workers LoadScope differs = refl
with_workers LoadFile differs = refl
with_workers LoadGroup differs = refl
with_workers WorkSteal differs = refl

pub can_begin : (suite : List ℕ) (s : Settings) (places : List Place) → FitsRun suite s places → CanBegin s
can_begin suite s places fits = record {
  mode = with_workers s.mode fits.shared;
  some_worker = le-leb 1 s.workers fits.some;
  few_workers = le-leb s.workers most_workers fits.few;
  few_restarts = le-leb s.restarts most_restarts fits.restarts;
}
