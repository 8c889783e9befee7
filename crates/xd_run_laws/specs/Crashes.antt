-- What a crash among the reports stands for.
use Rattle.std.specs.Prelude.{◌≡◌, ℕ, List, ◌∷◌, ◌++◌, Some, false}
use Rattle.xd_journal.specs.declared.settings.Settings.{Settings}
use Rattle.xd_journal.specs.declared.entry.Cause.{Cause}
use Rattle.xd_journal.specs.declared.entry.Entry.{Entry}
use Rattle.xd_journal.specs.declared.entry.Entry.TheVariants.{Down}
use Rattle.xd_run.specs.Numbers.{first_of}
use Rattle.xd_run.specs.Table.{held}
use Rattle.xd_run.specs.Retry.{is_retry}
use Rattle.xd_run.specs.State.{state_at}
use Rattle.xd_run.specs.Reports.{Report, reports}

-- At a place of the journal the worker went down, the item was the first that it held there, it was not to be tried again,
-- and the reports of the entries before that place are these.
-- Example: gw0 holds 0 and 2 and dies: the crash is of 0.
pub record IsDeath (settings : Settings) (es : List Entry) (earlier : List Report) (worker item : ℕ) : Type 0 where
  pub before : List Entry
  pub cause : Cause
  pub output : List ℕ
  pub after : List Entry
  pub are : es ≡ before ++ Down worker cause output ∷ after
  pub head : first_of (held worker (state_at settings before).books.table) ≡ Some item
  pub final : is_retry worker (state_at settings before).books ≡ false
  pub reported : reports settings before ≡ earlier
