-- The journal of a session is legal, so far and with its end.
use Rattle.std.proofs.Common.{◌≡◌, ℕ, List, [], ◌++◌, Bool, true, refl, ap, sym, ◌∙◌, subst, inl, inr}
use Rattle.std.specs.List.{list_all}
use Rattle.xd_journal.specs.declared.settings.Settings.{Settings}
use Rattle.xd_journal.specs.declared.journal.Journal.{Journal}
use Rattle.xd_journal.specs.declared.entry.Entry.{Entry}
use Rattle.xd_journal.specs.declared.news.News.{News}
use Rattle.xd_run.specs.Books.{Books}
use Rattle.xd_run.specs.Plan.{Plan}
use Rattle.xd_run.specs.Sharing.{State}
use Rattle.xd_run.specs.State.{is_input, state_at}
use Rattle.xd_run.specs.Histories.{after_starts, journal_of}
use Rattle.xd_run.specs.Ending.{ending, may_close, stop_of}
use Rattle.xd_run.specs.Legal.{EndsWith, IsLegal}
use Rattle.xd_run.specs.Proper.{IsProper}
use Rattle.xd_run_laws.proofs.NoOver.{no-over-journal}
use Rattle.xd_run_laws.proofs.Walk.{all-inputs, journal-state}
use Rattle.xd_session_books.specs.declared.logs.WorkerLog.{WorkerLog}
use Rattle.xd_session.specs.Ends.{is_out_fault, last_stop}
use Rattle.xd_session_books.specs.Known.{Known}
use Rattle.xd_session_rules.specs.Rules.{InStep}
use Rattle.xd_session.specs.Stands.{SessionSeen, StandsForNews, state_of}
use Rattle.xd_session.proofs.Begin.{begun-proper}
use Rattle.xd_session_rules.proofs.Closing.{append-nil}
use Rattle.xd_session.proofs.Ends.{ending-stop, told-so}

-- whoever stands for news has settings of a proper run
pub stands-proper : (taken : List News) (s : SessionSeen) → StandsForNews taken s → IsProper s.settings []
stands-proper taken s st = begun-proper s.settings st.can_begin

module _ (settings : Settings) (entries : List Entry) (logs : List WorkerLog) (spent : ℕ) (b : Books) (kn : Known) (st : Plan → Type 0) (k : InStep settings entries logs spent b kn st) (j : Journal) (same : j.settings ≡ settings) where
  inputs-are : list_all is_input k.inputs ≡ true
  inputs-are = all-inputs (after_starts settings) k.inputs k.proper.follow

  legal-by : (last : List Entry) → j.entries.items ≡ entries ++ last → EndsWith (state_at settings entries).books last → IsLegal j
  legal-by last is e =
      let following = ap (state_at settings) k.journal ∙ journal-state settings k.inputs k.proper.follow in
      inr (record {
        mode = subst (λ (x : Settings). Rattle.xd_run.specs.Proper.has_workers x.mode ≡ true) (sym same) k.proper.mode;
        inputs = k.inputs;
        are_inputs = inputs-are;
        last = last;
        entries = is ∙ ap (λ (es : List Entry). es ++ last) k.journal ∙ ap (λ (x : Settings). journal_of x k.inputs ++ last) (sym same);
        ends = subst (λ (x : Settings). EndsWith (Rattle.xd_run.specs.Histories.after_inputs (after_starts x) k.inputs).books last) (sym same) (subst (λ (x : State). EndsWith x.books last) following e);
      })

  pub legal-so-far : j.entries.items ≡ entries → IsLegal j
  legal-so-far is = legal-by [] (is ∙ sym (append-nil entries)) (inl refl)

  module _ (failed : Bool) (is : j.entries.items ≡ entries ++ ending failed (state_at settings entries).books) where
    pub legal-ended : may_close failed (state_at settings entries).books ≡ true → IsLegal j
    legal-ended may = legal-by (ending failed (state_at settings entries).books) is (inr (failed, may, refl))

    pub stop-ended : stop_of j ≡ last_stop failed (state_at settings entries).books
    stop-ended =
        let none = no-over-journal settings k.inputs inputs-are in
        let over = λ (es : List Entry). Rattle.xd_run.specs.Ending.over_in es (Rattle.xd_run.specs.Histories.run_end_of (state_at j.settings j.entries.items).books) in
        ap over (is ∙ ap (λ (es : List Entry). es ++ ending failed (state_at settings entries).books) k.journal)
        ∙ ending-stop failed (state_at settings entries).books (journal_of settings k.inputs) _ none

    pub told-ended : is_out_fault (stop_of j) ≡ failed
    told-ended = ap is_out_fault stop-ended ∙ told-so failed settings entries

pub record Closed (failed : Bool) (v : SessionSeen) (j : Journal) : Type 0 where
  pub stop : stop_of j ≡ last_stop failed (state_of v).books
  pub told : is_out_fault (stop_of j) ≡ failed
  pub legal : IsLegal j

-- in the words of the call
pub closed : (settings : Settings) (entries : List Entry) (logs : List WorkerLog) (spent : ℕ) (b : Books) (kn : Known) (st : Plan → Type 0) → InStep settings entries logs spent b kn st
    → (j : Journal) (failed whole : Bool) (v : SessionSeen) → record { settings = settings; entries = entries; logs = logs; whole = whole } ≡ v → j.settings ≡ settings → j.entries.items ≡ entries ++ ending failed b
    → may_close failed (state_of v).books ≡ true → Closed failed v j
closed settings entries logs spent b kn st k j failed whole v e same is may =
    let own : j.entries.items ≡ entries ++ ending failed (state_at settings entries).books = is ∙ ap (λ (c : Books). entries ++ ending failed c) k.at.books_are in
    let seen : (state_at settings entries).books ≡ (state_of v).books = ap (λ (u : SessionSeen). (state_of u).books) e in
    record {
      stop = stop-ended settings entries logs spent b kn st k j same failed own ∙ ap (last_stop failed) seen;
      told = told-ended settings entries logs spent b kn st k j same failed own;
      legal = legal-ended settings entries logs spent b kn st k j same failed own (ap (may_close failed) seen ∙ may);
    }
