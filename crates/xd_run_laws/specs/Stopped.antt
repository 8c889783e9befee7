-- What the stop of a run says of its journal. The limits are pytest's and pytest-xdist's.
use Rattle.std.specs.Prelude.{◌≡◌, ℕ, ◌+◌, ◌==◌, Bool, true, false, List, [], ◌∷◌, ◌++◌, length, filter, Some}
use Rattle.xd_journal.specs.declared.settings.Settings.{Settings}
use Rattle.xd_journal.specs.declared.entry.Ids.TheVariants as ids
use Rattle.xd_journal.specs.declared.entry.Outcome.TheVariants.{Failed}
use Rattle.xd_journal.specs.declared.entry.RunStop.{RunStop}
use Rattle.xd_journal.specs.declared.entry.RunStop.TheVariants.{MaxFail, Restarts, Unequal, CollectError}
use Rattle.xd_journal.specs.declared.entry.Entry.{Entry}
use Rattle.xd_journal.specs.declared.entry.Entry.TheVariants.{Collected, Refused, Down, NotStarted}
use Rattle.xd_journal.specs.Stop.{reaches}
use Rattle.xd_run.specs.Collections.{differ_at}
use Rattle.xd_run.specs.Reports.{Report, Result, Crash, reports}

-- a test that failed, or at which a worker went down
abbrev pub fails : Report → Bool
fails (Result worker item (Failed code)) = true
fails (Crash worker item) = true
fails _ = false

-- how many of these reports are failures
abbrev pub failures : List Report → ℕ
failures rs = length (filter fails rs)

-- a worker went down, or could not be started
abbrev pub is_death : Entry → Bool
is_death (Down worker cause output) = true
is_death (NotStarted worker) = true
is_death _ = false

-- this worker went down, or could not be started
abbrev pub is_death_of : ℕ → Entry → Bool
is_death_of worker (Down w cause output) = w == worker
is_death_of worker (NotStarted w) = w == worker
is_death_of worker _ = false

-- how many workers were lost
abbrev pub deaths : List Entry → ℕ
deaths es = length (filter is_death es)

-- the worker collected these ids
pub record Collects (es : List Entry) (worker : ℕ) (own : List (List ℕ)) : Type 0 where
  pub before : List Entry
  pub after : List Entry
  pub are : es ≡ before ++ Collected worker (ids.List own) ∷ after

-- the failures reach the limit with this entry, and not before it
pub record ReachesLimit (settings : Settings) (before : List Entry) (last : Entry) (count : ℕ) : Type 0 where
  pub counted : count ≡ failures (reports settings (before ++ last ∷ []))
  pub now : reaches settings.maxfail count ≡ true
  pub not_before : reaches settings.maxfail (failures (reports settings before)) ≡ false

-- the entry is the worker's death, and the first that is beyond the limit
pub record IsTooMany (settings : Settings) (before : List Entry) (last : Entry) (worker limit : ℕ) : Type 0 where
  pub limit_is : limit ≡ settings.restarts
  pub one_more : deaths (before ++ last ∷ []) ≡ limit + 1
  pub its_death : is_death_of worker last ≡ true

-- the entry is the worker's collection, which differs at this place from the one that the other gave before it
pub record DiffersFrom (before : List Entry) (last : Entry) (worker other place : ℕ) : Type 0 where
  pub own : List (List ℕ)
  pub last_is : last ≡ Collected worker (ids.List own)
  pub first : List (List ℕ)
  pub collected : Collects before other first
  pub differ : differ_at first own ≡ Some place

-- the entry is the worker's refusal
pub record IsWorkerRefusal (last : Entry) (worker : ℕ) : Type 0 where
  pub text : List ℕ
  pub last_is : last ≡ Refused worker text

-- the entry brings this stop, after these entries
-- Example: with a limit of 1 the first Done with Failed brings MaxFail of 1.
abbrev pub Brings : Settings → List Entry → Entry → RunStop → Type 0
Brings settings before last (MaxFail count) = ReachesLimit settings before last count
Brings settings before last (Restarts worker limit) = IsTooMany settings before last worker limit
Brings settings before last (Unequal worker other place) = DiffersFrom before last worker other place
Brings settings before last (CollectError worker) = IsWorkerRefusal last worker
Brings settings before last _ = ⊥

-- one of these entries brings the stop
pub record StopsBy (settings : Settings) (es : List Entry) (how : RunStop) : Type 0 where
  pub before : List Entry
  pub last : Entry
  pub after : List Entry
  pub are : es ≡ before ++ last ∷ after
  pub brings : Brings settings before last how
