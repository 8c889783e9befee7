-- The line of a stop. The words are pytest's and pytest-xdist's; the line of a collection that failed is a choice of
-- this project.
use Rattle.std.specs.Prelude.{ℕ, ◌==◌, List, [], ◌∷◌, ◌++◌, Option, Some, None, codes, if◌then◌else◌}
use Rattle.std.specs.Fmt.{decimal}
use Rattle.xd_edge.specs.declared.mode.ModeKind.{ModeKind}
use Rattle.xd_journal.specs.declared.entry.RunStop.{RunStop}
use Rattle.xd_journal.specs.declared.entry.RunStop.TheVariants.{Completed, MaxFail, Restarts, Unequal, CollectError, OutFault}
use Rattle.xd_journal.specs.declared.entry.Entry.{Entry}
use Rattle.xd_journal.specs.declared.entry.Entry.TheVariants.{Refused}
use Rattle.xd_report_phrases.specs.Names.{name, plain}

-- the text with which the worker first refused to collect
abbrev pub refusal : ℕ → List Entry → List ℕ
refusal worker [] = []
refusal worker (Refused w text ∷ es) = if w == worker then text else refusal worker es
refusal worker (e ∷ es) = refusal worker es

-- the line of a run whose failures reached the limit; the words are pytest's
unfoldable pub limit_line : ℕ → List ℕ
limit_line count = codes "stopping after " ++ (decimal count ++ (codes " failures" ++ 10 ∷ []))

-- the line of a run that may replace no worker and lost one; the words are pytest-xdist's
unfoldable pub disabled_line : ModeKind → ℕ → List ℕ
disabled_line mode worker = codes "worker " ++ (name mode worker ++ (codes " crashed and worker restarting disabled" ++ 10 ∷ []))

-- the line of a run that lost one worker more than it may replace; the words are pytest-xdist's
unfoldable pub most_line : ℕ → List ℕ
most_line limit = codes "maximum crashed workers reached: " ++ (decimal limit ++ 10 ∷ [])

-- the line of a run that was stopped by the death of a worker
abbrev pub restarts_line : ModeKind → ℕ → ℕ → List ℕ
restarts_line mode worker limit = if limit == 0 then disabled_line mode worker else most_line limit

-- the end of a line that says where two collections first differ
unfoldable pub place_text : ℕ → List ℕ
place_text place = codes ", first at place " ++ (decimal place ++ 10 ∷ [])

-- the line of a run in which two workers collected different tests
abbrev pub unequal_line : ModeKind → ℕ → ℕ → ℕ → List ℕ
unequal_line mode other worker place = codes "different tests collected by " ++ (name mode other ++ (codes " and " ++ (name mode worker ++ place_text place)))

-- the end of a line that gives the text with which a worker refused to collect
unfoldable pub refusal_text : List ℕ → List ℕ
refusal_text text = codes ": " ++ (plain text ++ 10 ∷ [])

-- the line of a run in which a worker refused to collect
abbrev pub refused_line : ModeKind → ℕ → List ℕ → List ℕ
refused_line mode worker text = codes "collection failed on " ++ (name mode worker ++ refusal_text text)

-- the line of a stop among these entries
-- Example: `worker gw0 crashed and worker restarting disabled`.
abbrev pub stop_line : ModeKind → List Entry → RunStop → List ℕ
stop_line mode es (MaxFail count) = limit_line count
stop_line mode es (Restarts worker limit) = restarts_line mode worker limit
stop_line mode es (Unequal worker other place) = unequal_line mode other worker place
stop_line mode es (CollectError worker) = refused_line mode worker (refusal worker es)
stop_line mode es Completed = []
stop_line mode es OutFault = []

-- the line of the first stop, where there is one
abbrev pub line_of_stop : ModeKind → List Entry → Option RunStop → List ℕ
line_of_stop mode es None = []
line_of_stop mode es (Some how) = stop_line mode es how
