-- What a piece of news leaves.
use Rattle.std.specs.Prelude.{◌≡◌, ℕ, ◌+◌, ◌≤◌, ◌==◌, List, [], ◌∷◌, Option, Some, None, if◌then◌else◌}
use Rattle.xd_journal.specs.declared.entry.Entry.{Entry}
use Rattle.xd_journal.specs.declared.news.What.{What}
use Rattle.xd_journal.specs.Kept.{most_of_all}
use Rattle.xd_run.specs.Books.{Books}
use Rattle.xd_run.specs.Meaning.{meaning_of, spent_by, with_news}
use Rattle.xd_run.specs.Plan.{Plan}
use Rattle.xd_run.specs.Sharing.{State}
use Rattle.xd_run_laws.specs.Called.{Reached}
use Rattle.xd_session_books.specs.declared.logs.WorkerLog.{WorkerLog}
use Rattle.xd_session.specs.History.{entries_with, state_with}
use Rattle.xd_session_books.specs.Kept.{log_in, shortened}
use Rattle.xd_session_books.specs.Known.{Known}
use Rattle.xd_session_rules.specs.Rules.{At}

-- what is kept of a run stands for a state of a proper run
pub record Steady (s : State) (b : Books) (k : Known) (stands : Plan → Type 0) : Type 0 where
  pub at : At s b k stands
  pub reached : Reached s

-- how many bytes the input keeps
abbrev pub spent_in : Option Entry → ℕ
spent_in None = 0
spent_in (Some e) = spent_by (e ∷ [])

-- the input, where there is one, came with all that follows it
pub record Told (input : Option Entry) (s : State) (entries entries_now : List Entry) (spent spent_now : ℕ) (b : Books) (k : Known) (stands : Plan → Type 0) : Type 0 where
  pub at : At (state_with input s) b k stands
  pub entries_are : entries_now ≡ entries_with input entries s
  pub spent_is : spent_now ≡ spent + spent_in input
  pub spent_low : spent_now ≤ most_of_all

-- the news of a worker was taken, and the logs are kept by it
pub record TookNews (worker : ℕ) (what : What) (s : State) (logs logs_now : List WorkerLog) (entries entries_now : List Entry) (spent spent_now : ℕ) (b : Books) (k : Known) (stands : Plan → Type 0) : Type 0 where
  pub told : Told (meaning_of worker (log_in worker logs) spent s what) s entries entries_now spent spent_now b k stands
  pub logs_are : (v : ℕ) → log_in v logs_now ≡ (if v == worker then shortened (with_news (log_in v logs) what) else log_in v logs)
