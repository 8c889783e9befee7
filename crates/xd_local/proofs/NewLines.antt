-- The entries of one test, and their lines.
use Rattle.std.proofs.Common.{◌≡◌, ℕ, Bool, true, List, ◌++◌, length, drop, Option, sym, ◌∙◌, ap, subst}
use Rattle.std.proofs.lemmas.List.{drop_at}
use Rattle.xd_edge.specs.Sink.{Sunk}
use Rattle.xd_journal.specs.declared.entry.Entry.{Entry}
use Rattle.xd_journal.specs.declared.journal.Journal.{Journal}
use Rattle.xd_journal.specs.declared.settings.Settings.{Settings}
use Rattle.xd_journal.specs.Local.{round}
use Rattle.xd_run.specs.State.{after_entries, no_one}
use Rattle.xd_report.specs.declared.reporter.Reporter.{Reporter}
use Rattle.xd_report.specs.Follows.{Follows}
use Rattle.xd_report.specs.Lines.{lines_from}
use Rattle.xd_report.specs.Printing.{ShowsLines}
use Rattle.xd_report.proofs.Texts.{after_effect-more}
use Rattle.xd_local.specs.inner.Running.{IsNoted, NotesTest, RanTest, Running, FollowsJournal, after_journal}
use Rattle.xd_edge.specs.Clock.{Ticking}

-- the entries that came last
new_ones : (old added new : List Entry) (from : ℕ) → new ≡ old ++ added → from ≡ length old → drop from new ≡ added
new_ones old added new from is at = ap (λ (l : List Entry). drop from l) is ∙ drop_at old added from (sym at)

module _ (test : ℕ) (args : List (List ℕ)) (from : ℕ) (before now : Ticking) (old mid new : Running) (n : NotesTest test args before now old mid) (from_is : from ≡ length old.journal.entries.items) (same : new ≡ record mid { reporter = new.reporter }) where
  added : drop from mid.journal.entries.items ≡ round test n.result
  added = new_ones old.journal.entries.items (round test n.result) mid.journal.entries.items from n.noted.entries from_is

  -- the reporter that has seen nothing of it
  pub preceding : FollowsJournal old → Follows mid.reporter (after_journal old.journal)
  preceding told = subst (λ (r : Reporter). Follows r (after_journal old.journal)) (sym n.unseen) told

  noted : IsNoted test args n.result old new
  noted = subst (λ (r : Running). IsNoted test args n.result old r) (sym same) (record {
    entries = n.noted.entries;
    settings = n.noted.settings;
    ran = n.noted.ran;
    spent = n.noted.spent;
    faults = n.noted.faults;
    still = n.noted.still;
    later = n.noted.later;
  })

  followed : Follows new.reporter (after_entries (after_journal old.journal) (drop from mid.journal.entries.items)) → FollowsJournal new
  followed follows =
      let is : after_journal mid.journal ≡ after_entries (after_journal old.journal) (drop from mid.journal.entries.items) =
      ap (λ (st : Settings). after_entries (no_one st) mid.journal.entries.items) n.noted.settings ∙ ap (after_entries (no_one old.journal.settings)) n.noted.entries ∙ after_effect-more (no_one old.journal.settings) old.journal.entries.items (round test n.result)
      ∙ ap (after_entries (after_journal old.journal)) (sym added) in
      subst (λ (j : Journal). Follows new.reporter (after_journal j)) (sym (ap (λ (r : Running). r.journal) same)) (subst (Follows new.reporter) (sym is) follows)

  pub ran_test : (shown : Bool) (out_old out_new : Option Sunk) → ShowsLines shown (lines_from (after_journal old.journal) (drop from mid.journal.entries.items)) out_old out_new
      → (shown ≡ true → Follows new.reporter (after_entries (after_journal old.journal) (drop from mid.journal.entries.items)))
      → RanTest shown test args (record { run = old; sunk = out_old; clock = before }) (record { run = new; sunk = out_new; clock = now })
  ran_test shown out_old out_new shows follows = record {
    result = n.result;
    noted = noted;
    timed = n.timed;
    shows = subst (λ (l : List Entry). ShowsLines shown (lines_from (after_journal old.journal) l) out_old out_new) added shows;
    told = λ is. followed (follows is);
  }
