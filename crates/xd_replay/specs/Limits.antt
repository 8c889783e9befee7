-- The limits that the settings of a run keep.
use Rattle.std.specs.Prelude.{ℕ, ◌==◌, Bool, ◌&&◌, nat_le}
use Rattle.xd_edge.specs.declared.mode.ModeKind.{ModeKind}
use Rattle.xd_edge.specs.declared.mode.ModeKind.TheVariants.{Local}
use Rattle.xd_journal.specs.declared.settings.Settings.{Settings}
use Rattle.xd_run.specs.Proper.{most_restarts, most_workers}
use Rattle.xd_replay.specs.Alone.{most_retries}

-- how many workers a run in this mode may have: none without workers, and else some
abbrev pub may_have : ModeKind → ℕ → Bool
may_have Local workers = workers == 0
may_have _ workers = nat_le 1 workers && nat_le workers most_workers

-- a run can have these settings
-- Example: with 33 workers there is none.
abbrev pub are_within : Settings → Bool
are_within settings = may_have settings.mode settings.workers && nat_le settings.restarts most_restarts && nat_le settings.retries most_retries
