-- Why a run stops. The limits are pytest's --maxfail and pytest-xdist's --max-worker-restart; that a crash counts as a
-- failure is a choice of this project.
use Rattle.std.specs.Prelude.{ℕ, nat_lt, Bool, ◌||◌, Option, Some, None, is_some, if◌then◌else◌}
use Rattle.xd_journal.specs.declared.entry.RunStop.{RunStop}
use Rattle.xd_journal.specs.declared.entry.RunStop.TheVariants.{MaxFail, Restarts}
use Rattle.xd_journal.specs.Stop.{reaches}
use Rattle.xd_run.specs.Books.{Books}

-- the run was stopped
abbrev pub is_stopped : Books → Bool
is_stopped b = is_some b.stop

-- no tests are handed out any more
abbrev pub is_shutting : Books → Bool
is_shutting b = is_stopped b || b.shutting

-- the first of two
abbrev pub or_stop : Option RunStop → Option RunStop → Option RunStop
or_stop None later = later
or_stop (Some first) later = Some first

-- only the first stop counts
abbrev pub stopped_by : Option RunStop → Books → Books
stopped_by how b = record b { stop = or_stop b.stop how }

-- the failures reach their limit
abbrev pub at_limit : Books → Option RunStop
at_limit b = if reaches b.settings.maxfail b.failures then Some (MaxFail b.failures) else None

-- the worker's death is one too many
-- A retry is a death and no failure. Example: with no restarts one death stops the run.
abbrev pub out_of_restarts : ℕ → Books → Option RunStop
out_of_restarts worker b = if nat_lt b.settings.restarts b.deaths then Some (Restarts worker b.settings.restarts) else None
