-- One worker's part of a run: what the journal has of it, and by which of its news.
use Rattle.std.specs.Prelude.{◌≡◌, ℕ, ◌==◌, ◌⊎◌, Bool, true, false, List, [], ◌∷◌, ◌++◌, filter, Option, Some, None, if◌then◌else◌}
use Rattle.std.specs.List.{list_any}
use Rattle.xd_journal.specs.declared.settings.Settings.{Settings}
use Rattle.xd_journal.specs.declared.entry.Cause.{Cause}
use Rattle.xd_journal.specs.declared.entry.Cause.TheVariants.{Breach}
use Rattle.xd_journal.specs.declared.entry.Entry.{Entry}
use Rattle.xd_journal.specs.declared.entry.Entry.TheVariants.{Ready, Collected, Done, Back, Finished, Refused, Down}
use Rattle.xd_journal.specs.declared.news.News.{News}
use Rattle.xd_journal.specs.declared.news.What.{What}
use Rattle.xd_journal.specs.declared.news.What.TheVariants.{LogStart, Piece, LogClosed, Gone}
use Rattle.xd_run.specs.Workers.{has_member}
use Rattle.xd_run_laws.specs.Stopped.{is_death_of}
use Rattle.xd_session.specs.History.{input_of, run_of}

-- the entry ends the worker: it finished, it could not collect, it went down, or it could not be started
abbrev pub is_end_of : ℕ → Entry → Bool
is_end_of worker (Finished w) = w == worker
is_end_of worker (Refused w text) = w == worker
is_end_of worker e = is_death_of worker e

-- the entry is an input of the worker
abbrev pub is_said_by : ℕ → Entry → Bool
is_said_by worker (Ready w) = w == worker
is_said_by worker (Collected w given) = w == worker
is_said_by worker (Done w index outcome ms output) = w == worker
is_said_by worker (Back w indices) = w == worker
is_said_by worker e = is_end_of worker e

-- the inputs of the worker among these entries, in order
abbrev pub inputs_by : ℕ → List Entry → List Entry
inputs_by worker es = filter (is_said_by worker) es

-- one of these entries ends the worker
abbrev pub is_ended : ℕ → List Entry → Bool
is_ended worker es = list_any (is_end_of worker) es

-- the entry alone, or none where there is none
abbrev pub as_list : Option Entry → List Entry
as_list None = []
as_list (Some e) = e ∷ []

-- the inputs that the worker's news mean which come after those of `before`, each by all that came before it
abbrev pub meant_after : Settings → ℕ → List News → List News → List Entry
meant_after settings worker before [] = []
meant_after settings worker before (n ∷ ns) =
    (if n.worker == worker then as_list (input_of (run_of settings before) n) else []) ++ meant_after settings worker (before ++ n ∷ []) ns

-- the inputs that the worker's news among these mean, in order
-- Example: gw0 says that it is ready and starts a log, and its link is gone: Ready and Down.
abbrev pub meant_by : Settings → ℕ → List News → List Entry
meant_by settings worker taken = meant_after settings worker [] taken

-- news of a test's output, of which a journal has no more than what is kept of it
abbrev pub is_of_log : What → Bool
is_of_log (LogStart index number) = true
is_of_log (Piece number bytes) = true
is_of_log (LogClosed number) = true
is_of_log _ = false

-- From its start on each piece of the worker's news means an input, but for news of a log.
abbrev pub MeansEach : Settings → ℕ → List News → Type 0
MeansEach settings worker heard =
    (before : List News) (n : News) (after : List News) → heard ≡ before ++ n ∷ after → n.worker ≡ worker
    → has_member worker (λ m. true) (run_of settings before).state.books ≡ true → input_of (run_of settings before) n ≡ None → is_of_log n.what ≡ true

-- The last of these news ended the worker, and none before it did. Where it went down for another cause than a breach, that
-- last piece of news is that its link is gone.
pub record EndsWorker (settings : Settings) (worker : ℕ) (heard : List News) : Type 0 where
  pub before : List News
  pub last : News
  pub are : heard ≡ before ++ last ∷ []
  pub own : last.worker ≡ worker
  pub not_before : is_ended worker (run_of settings before).entries ≡ false
  pub entry : Entry
  pub meant : input_of (run_of settings before) last ≡ Some entry
  pub ended : is_end_of worker entry ≡ true
  pub gone : (cause : Cause) (output : List ℕ) → entry ≡ Down worker cause output → (cause ≡ Breach → ⊥) → last.what ≡ Gone cause

-- The worker's inputs in the journal are what its news mean, in order: up to the piece of news that ended it, and all of them
-- where none did. The entry that ended it is the last of them.
-- Example: gw0 is gone, and then a result of gw0 comes: the Down is its last.
pub record HasPart (settings : Settings) (worker : ℕ) (taken : List News) : Type 0 where
  pub heard : List News
  pub unheard : List News
  pub are : taken ≡ heard ++ unheard
  pub inputs : inputs_by worker (run_of settings taken).entries ≡ meant_by settings worker heard
  pub each : MeansEach settings worker heard
  pub none_later : (before after : List Entry) (e : Entry) → inputs_by worker (run_of settings taken).entries ≡ before ++ e ∷ after → is_end_of worker e ≡ true → after ≡ []
  pub up_to : ((is_ended worker (run_of settings taken).entries ≡ false) × (unheard ≡ [])) ⊎ EndsWorker settings worker heard
