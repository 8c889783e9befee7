-- With which stop a journal ends.
use Rattle.std.specs.Prelude.{Bool, true, false}
use Rattle.xd_journal.specs.declared.entry.RunStop.{RunStop}
use Rattle.xd_journal.specs.declared.entry.RunStop.TheVariants.{OutFault}
use Rattle.xd_run.specs.Books.{Books}
use Rattle.xd_run.specs.Histories.{run_end_of}

-- the report could not be written
abbrev pub is_out_fault : RunStop → Bool
is_out_fault OutFault = true
is_out_fault _ = false

-- where the output failed that, else the first stop, or that all was done
-- Example: gw0 died once too often and then the output failed: OutFault; the line of the stop is still that of the restarts.
abbrev pub last_stop : Bool → Books → RunStop
last_stop true b = OutFault
last_stop false b = run_end_of b
