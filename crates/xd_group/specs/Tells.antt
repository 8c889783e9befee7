-- What a hub over links tells: the calls and the news that were noted.
use Rattle.std.specs.Prelude.{◌≡◌, ℕ, ◌==◌, ◌&&◌, true, List, Option, Some, None}
use Rattle.std.specs.List.{filter_map, list_any}
use Rattle.xd_journal.specs.declared.entry.Entry.{Entry}
use Rattle.xd_journal.specs.declared.entry.Entry.TheVariants.{Start}
use Rattle.xd_journal.specs.declared.news.News.{News}
use Rattle.xd_drive.specs.Listed.{was_killed}
use Rattle.xd_journal.specs.Said.{is_ready, is_end}
use Rattle.xd_drive.specs.Marks.{Marks}
use Rattle.xd_drive.specs.Performing.{was_started}

-- the marks of the worker, by the calls, the starts among them, and the news that were given
abbrev pub marks_told : List Entry → List News → ℕ → Marks
marks_told calls given w = record {
  started = was_started w calls;
  killed = was_killed w calls;
  ready = list_any (λ n. n.worker == w && is_ready n.what) given;
  ended = list_any (λ n. n.worker == w && is_end n.what) given;
}

-- the worker was started
abbrev pub IsStarted : List Entry → ℕ → Type 0
IsStarted calls w = was_started w calls ≡ true

-- the worker whose start this is
abbrev pub worker_of_start : Entry → Option ℕ
worker_of_start (Start w slot) = Some w
worker_of_start _ = None

-- the workers of the starts, in order
abbrev pub workers_started : List Entry → List ℕ
workers_started calls = filter_map worker_of_start calls
