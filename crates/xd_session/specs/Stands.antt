-- A session as its callers see it, and the news that it stands for.
use Rattle.std.specs.Prelude.{◌≡◌, ℕ, Bool, true, nat_le, List}
use Rattle.xd_journal.specs.declared.settings.Settings.{Settings}
use Rattle.xd_journal.specs.declared.entry.Entry.{Entry}
use Rattle.xd_journal.specs.declared.news.News.{News}
use Rattle.xd_run.specs.Sharing.{State}
use Rattle.xd_run.specs.State.{state_at}
use Rattle.xd_run.specs.Proper.{has_workers, most_workers, most_restarts}
use Rattle.xd_run.specs.Meaning.{log_of}
use Rattle.xd_session_books.specs.declared.logs.WorkerLog.{WorkerLog}
use Rattle.xd_session_books.specs.Kept.{log_in, shortened}
use Rattle.xd_session.specs.History.{run_of, said_by}

-- what callers see of a session
pub record SessionSeen : Type 0 where
  pub settings : Settings
  pub entries : List Entry  -- the journal so far
  pub logs : List WorkerLog  -- the last log of each worker that started one
  pub whole : Bool  -- no call of it ran out of memory

-- the state after the journal so far
abbrev pub state_of : SessionSeen → State
state_of s = state_at s.settings s.entries

-- settings that a session can be made with
-- Example: with 33 workers none can begin.
pub record CanBegin (settings : Settings) : Type 0 where
  pub mode : has_workers settings.mode ≡ true
  pub some_worker : nat_le 1 settings.workers ≡ true
  pub few_workers : nat_le settings.workers most_workers ≡ true
  pub few_restarts : nat_le settings.restarts most_restarts ≡ true

-- the session took these news: its settings are such, its journal is that of these news, and it keeps the last log of each
-- worker
pub record StandsForNews (taken : List News) (s : SessionSeen) : Type 0 where
  pub whole : s.whole ≡ true
  pub can_begin : CanBegin s.settings
  pub entries : s.entries ≡ (run_of s.settings taken).entries
  pub logs : (worker : ℕ) → log_in worker s.logs ≡ shortened (log_of (said_by worker taken))
