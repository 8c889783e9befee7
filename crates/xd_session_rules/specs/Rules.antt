-- What a rule of the session leaves.
use Rattle.std.specs.Prelude.{◌≡◌, ℕ, ◌≤◌, false, true, List, ◌∷◌, ◌++◌, fold, map}
use Rattle.xd_journal.specs.declared.settings.Settings.{Settings}
use Rattle.xd_journal.specs.declared.entry.Entry.{Entry}
use Rattle.xd_journal.specs.declared.entry.Entry.TheVariants.{Shutdown}
use Rattle.xd_journal.specs.Kept.{most_of_all}
use Rattle.xd_run.specs.declared.member.Member.{Member}
use Rattle.xd_run.specs.Plan.{Plan}
use Rattle.xd_run.specs.Modes.{ModeCall}
use Rattle.xd_run.specs.Modes.ModeCall.{Died, Joined, Share}
use Rattle.xd_run.specs.Books.{Books}
use Rattle.xd_run.specs.Workers.{made_shut, slot_of}
use Rattle.xd_run.specs.Stops.{is_stopped}
use Rattle.xd_run.specs.Sharing.{State, joining, shared_now}
use Rattle.xd_run.specs.State.{settled, after_entries, state_at}
use Rattle.xd_run.specs.Outputs.{closing, outputs, slots_of_rota, after_input}
use Rattle.xd_run.specs.Histories.{journal_of}
use Rattle.xd_run.specs.Proper.{IsProper, may_follow}
use Rattle.xd_run.specs.Meaning.{spent_by}
use Rattle.xd_run_laws.specs.Called.{Called, Reached}
use Rattle.xd_session_books.specs.declared.logs.WorkerLog.{WorkerLog}
use Rattle.xd_session_books.specs.Kept.{log_in, shortened}
use Rattle.xd_session_books.specs.Known.{Known, known_plan}

-- what is kept of a run and its mode stand for the state; after a stop the mode is not called, and stands for nothing
pub record At (s : State) (b : Books) (k : Known) (stands : Plan → Type 0) : Type 0 where
  pub books_are : b ≡ s.books
  pub known_is : k ≡ known_plan s.plan
  pub stands_for : is_stopped s.books ≡ false → stands s.plan

-- the mode stands for the plan as it was before this change
abbrev pub Before : (Plan → Plan) → (Plan → Type 0) → Plan → Type 0
Before change stands p = (q : Plan) × (stands q × (p ≡ change q))

-- so they stand where the input comes that may follow the state of a proper run
pub record Comes (e : Entry) (s : State) (b : Books) (k : Known) (stands : Plan → Type 0) : Type 0 where
  pub at : At s b k stands
  pub reached : Reached s
  pub follows : may_follow s e ≡ true

-- so they stand where the mode is called
pub record Calls (c : ModeCall) (s : State) (b : Books) (k : Known) (stands : Plan → Type 0) : Type 0 where
  pub at : At s b k stands
  pub going : is_stopped s.books ≡ false
  pub called : Called c s

-- the worker may join: what the mode finds where it hears of it, or where it shares the tests
pub record MayJoin (worker : ℕ) (s : State) : Type 0 where
  pub going : is_stopped s.books ≡ false
  pub hears : s.books.shared ≡ true → Called (Joined worker (slot_of worker s.books)) (joining worker s)
  pub shares : (joining worker s).books.shared ≡ true → s.books.shared ≡ false → Called (Share (slots_of_rota (joining worker s).books)) (joining worker s)

-- the tests may be shared: what the mode finds
pub record MayShare (s : State) : Type 0 where
  pub going : is_stopped s.books ≡ false
  pub deals : Called (Share (slots_of_rota s.books)) (shared_now s)

-- a death where no stop came: what the mode finds where it hears of it, and before the share it goes on as it was
pub record MayDie (s : State) (stands : Plan → Type 0) : Type 0 where
  pub going : is_stopped s.books ≡ false
  pub hears : s.books.shared ≡ true → Called Died s
  pub stays : s.books.shared ≡ false → stands s.plan

-- these outputs were said
pub record Acted (acts : List Entry) (s : State) (b : Books) (k : Known) (old new : List Entry) (stands : Plan → Type 0) : Type 0 where
  pub at : At (after_entries s acts) b k stands
  pub entries_are : new ≡ old ++ acts

-- where nothing is left to hand out, all are shut, and the run is marked
pub record DidClosing (s : State) (b : Books) (k : Known) (old new : List Entry) (stands : Plan → Type 0) : Type 0 where
  pub at : At (settled (after_entries s (closing s))) b k stands
  pub entries_are : new ≡ old ++ closing s

-- the input came, with all that follows it
pub record Ruled (s : State) (e : Entry) (b : Books) (k : Known) (old new : List Entry) (stands : Plan → Type 0) : Type 0 where
  pub at : At (after_input s e) b k stands
  pub entries_are : new ≡ old ++ e ∷ outputs s e

-- the marks of the workers after an output of a mode
abbrev pub told_by : List Member → Entry → List Member
told_by ms (Shutdown w) = map (made_shut w) ms
told_by ms _ = ms

-- the marks of the workers after these outputs of a mode
abbrev pub members_told : List Entry → List Member → List Member
members_told es ms = fold told_by ms es

-- the entries are the journal of a proper run, for whose state the books and the mode stand, and of each log as much is
-- kept as can be asked for
pub record InStep (settings : Settings) (entries : List Entry) (logs : List WorkerLog) (spent : ℕ) (b : Books) (k : Known) (stands : Plan → Type 0) : Type 0 where
  pub inputs : List Entry
  pub proper : IsProper settings inputs
  pub journal : entries ≡ journal_of settings inputs
  pub at : At (state_at settings entries) b k stands
  pub spent_is : spent ≡ spent_by entries
  pub spent_low : spent ≤ most_of_all
  pub short : (worker : ℕ) → log_in worker logs ≡ shortened (log_in worker logs)
