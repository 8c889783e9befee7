-- The start of a run.
use Rattle.std.proofs.Common.{[], ◌≡◌, List, refl, sym, subst, arith}
use Rattle.xd_journal.specs.declared.settings.Settings.{Settings}
use Rattle.xd_journal.specs.declared.entry.Entry.{Entry}
use Rattle.xd_run.specs.Books.{Books}
use Rattle.xd_run.specs.Plan.{Plan}
use Rattle.xd_run.specs.State.{after_entries, no_one, state_at}
use Rattle.xd_run.specs.Histories.{starts_from, first_starts}
use Rattle.xd_run.specs.Proper.{IsProper}
use Rattle.std.proofs.lemmas.List.{append-nil}
use Rattle.xd_session_books.specs.Known.{Known, known_plan}
use Rattle.xd_session_rules.specs.Rules.{At, InStep}
use Rattle.xd_session.specs.Stands.{CanBegin}
use Rattle.xd_session_rules.proofs.Starts.{begun-at, starts-spend}

pub begun-proper : (settings : Settings) → CanBegin settings → IsProper settings []
begun-proper settings c = record {
  mode = c.mode;
  some_worker = c.some_worker;
  few_workers = c.few_workers;
  few_restarts = c.few_restarts;
  follow = refl;
}

pub begun-step : (settings kept : Settings) (entries : List Entry) (b : Books) (k : Known) (stands : Plan → Type 0) → kept ≡ settings → k ≡ known_plan (no_one settings).plan → CanBegin settings → stands (no_one settings).plan → b ≡ (after_entries (no_one settings) (starts_from 0 settings.workers)).books
    → entries ≡ starts_from 0 settings.workers → InStep kept entries [] 0 b k stands
begun-step settings kept entries b kn stands same known c f e k =
    subst (λ s. InStep s entries [] 0 b kn stands) (sym same)
    (subst (λ es. InStep settings es [] 0 b kn stands) (sym k) (record {
      inputs = [];
      proper = begun-proper settings c;
      journal = sym (append-nil (first_starts settings));
      at = subst (λ q. At (state_at settings (starts_from 0 settings.workers)) b q stands) (sym known) (begun-at settings settings.workers b stands f e);
      spent_is = sym (starts-spend 0 settings.workers);
      spent_low = omega arith;
      short = λ v. refl;
    }))
