-- Where in the report the output failed.
use Rattle.std.specs.Prelude.{◌≡◌, ℕ, ◌⊎◌, true, List, [], ◌∷◌, ◌++◌, take, drop, Option}
use Rattle.xd_edge.specs.Sink.{Sunk}
use Rattle.xd_journal.specs.declared.settings.Settings.{Settings}
use Rattle.xd_journal.specs.declared.entry.Entry.{Entry}
use Rattle.xd_journal.specs.declared.news.News.{News}
use Rattle.xd_run.specs.Histories.{is_over}
use Rattle.xd_report.specs.Breaking.{BrokeAtEnd, BrokeAtLines}
use Rattle.xd_session.specs.History.{run_of}

-- At the lines of the last news: the first `count` entries are those before it.
pub record AtLines (settings : Settings) (taken : List News) (count : ℕ) (es : List Entry) (old new : Option Sunk) : Type 0 where
  pub before : (earlier : List News) × (n : News) × (taken ≡ earlier ++ n ∷ []) × (take count es ≡ (run_of settings earlier).entries)
  pub shows : BrokeAtLines settings (take count es) (drop count es) old new

-- At the end of a run that is over: the first `count` entries are all of the run.
pub record AtEnd (settings : Settings) (taken : List News) (count : ℕ) (es : List Entry) (old new : Option Sunk) : Type 0 where
  pub over : is_over (run_of settings taken).state.books ≡ true
  pub all : take count es ≡ (run_of settings taken).entries
  pub shows : BrokeAtEnd settings (take count es) es old new

-- At the lines of the last news, or at the end of a run that is over.
-- Example: the close fails after the whole report: at the end.
abbrev pub FailedAt : Settings → List News → ℕ → List Entry → Option Sunk → Option Sunk → Type 0
FailedAt settings taken count es old new = AtLines settings taken count es old new ⊎ AtEnd settings taken count es old new
