-- How the journal of a run ends. A choice of this project: a run of pytest-xdist has no journal.
use Rattle.std.specs.Prelude.{Bool, true, false, ◌||◌, List, [], ◌∷◌, ◌++◌, map, filter}
use Rattle.xd_journal.specs.declared.settings.Settings.{Settings}
use Rattle.xd_journal.specs.declared.entry.RunStop.{RunStop}
use Rattle.xd_journal.specs.declared.entry.RunStop.TheVariants.{OutFault}
use Rattle.xd_journal.specs.declared.entry.Entry.{Entry}
use Rattle.xd_journal.specs.declared.entry.Entry.TheVariants.{Kill, Over}
use Rattle.xd_journal.specs.declared.journal.Journal.{Journal}
use Rattle.xd_run.specs.declared.member.Member.{Member}
use Rattle.xd_run.specs.Books.{Books}
use Rattle.xd_run.specs.State.{state_at}
use Rattle.xd_run.specs.Histories.{is_over, run_end_of}

-- a Kill of each active worker, in order of worker numbers
abbrev pub kills : List Member → List Entry
kills ms = map (λ m. Kill m.worker) (filter (λ m. m.active) ms)

-- a run may end where it is over, or where the output failed
abbrev pub may_close : Bool → Books → Bool
may_close out_failed b = out_failed || is_over b

-- its last entries: where the output failed, whoever is active is killed first
-- Example: of two workers one finished, and the output fails: Kill gw1, Over OutFault.
abbrev pub ending : Bool → Books → List Entry
ending true b = kills b.members ++ Over OutFault ∷ []
ending false b = Over (run_end_of b) ∷ []

-- what the first Over among the entries says, else the other stop
abbrev pub over_in : List Entry → RunStop → RunStop
over_in [] other = other
over_in (Over how ∷ es) other = how
over_in (e ∷ es) other = over_in es other

-- how a run ended: as its Over says, and without one as its entries have decided so far
abbrev pub stop_in : Settings → List Entry → RunStop
stop_in settings es = over_in es (run_end_of (state_at settings es).books)

-- how the run of this journal ended
abbrev pub stop_of : Journal → RunStop
stop_of j = stop_in j.settings j.entries.items
