-- A session keeps in step with the news that it takes.
use Rattle.std.proofs.Common.{[], ◌≡◌, ℕ, ◌+◌, List, ◌∷◌, ◌++◌, refl, ap, sym, subst, ◌∙◌, Bool, true, false, add-zero}
use Rattle.std.specs.Prelude.{if◌then◌else◌, ◌==◌, Option, Some, None}
use Rattle.xd_journal.specs.declared.settings.Settings.{Settings}
use Rattle.xd_journal.specs.declared.entry.Entry.{Entry}
use Rattle.xd_journal.specs.declared.news.News.{News}
use Rattle.xd_journal.specs.declared.news.What.{What}
use Rattle.xd_run.specs.Books.{Books}
use Rattle.xd_run.specs.Histories.{after_starts, is_over, journal_of, after_inputs}
use Rattle.xd_run.specs.Meaning.{Log, log_of, meaning_of, spent_by, with_news}
use Rattle.xd_run.specs.Outputs.{outputs}
use Rattle.xd_run.specs.Owes.{someone_owes}
use Rattle.xd_run.specs.Plan.{Plan}
use Rattle.xd_run.specs.Proper.{may_follow}
use Rattle.xd_run.specs.Sharing.{State}
use Rattle.xd_run.specs.State.{state_at}
use Rattle.xd_run.specs.Workers.{has_collected, is_active, was_ready}
use Rattle.xd_run_laws.proofs.OwingRuns.{owed}
use Rattle.xd_run_laws.proofs.Walk.{journal-state}
use Rattle.xd_session_books.specs.declared.logs.WorkerLog.{WorkerLog}
use Rattle.xd_session.specs.History.{Run as SoFar, entries_with, input_of, run_of, said_by}
use Rattle.xd_session_rules.specs.Joining.{IsToJoin}
use Rattle.xd_session_books.specs.Kept.{log_in, shortened}
use Rattle.xd_session_books.specs.Known.{Known}
use Rattle.xd_session_rules.specs.Rules.{At, InStep}
use Rattle.xd_session.specs.Stands.{SessionSeen, StandsForNews}
use Rattle.xd_session.specs.inner.Told.{Steady, Told, TookNews}
use Rattle.xd_session.proofs.Steps.{logs-more, meaning-follows, meaning-short, run-more, run-taken, short-twice, sound-run}
use Rattle.xd_session_rules.proofs.Growing.{journal-more, orderly-next, proper-more, spent-more, state-next}
use Rattle.xd_session_rules.proofs.Newcomers.{newcomer}

-- a session in step stands for a state of a proper run
module _ (settings : Settings) (entries : List Entry) (logs : List WorkerLog) (spent : ℕ) (b : Books) (kn : Known) (st : Plan → Type 0) (k : InStep settings entries logs spent b kn st) where
  pub following : state_at settings entries ≡ after_inputs (after_starts settings) k.inputs
  following = ap (state_at settings) k.journal ∙ journal-state settings k.inputs k.proper.follow

  pub steady : Steady (state_at settings entries) b kn st
  steady = record { at = k.at; reached = record { settings = settings; inputs = k.inputs; proper = k.proper; state = following } }

  -- where it is not over some worker owes the next step
  pub owed-following : is_over (state_at settings entries).books ≡ false → someone_owes (state_at settings entries) ≡ true
  owed-following = subst (λ (u : State). is_over u.books ≡ false → someone_owes u ≡ true) (sym following) (owed settings k.inputs k.proper)

-- whoever gives its collection is new
pub step-new : (settings : Settings) (entries : List Entry) (logs : List WorkerLog) (spent : ℕ) (b : Books) (kn : Known) (st : Plan → Type 0) → InStep settings entries logs spent b kn st → (w : ℕ) → is_active w b ≡ true → has_collected w b ≡ false
    → was_ready w b ≡ true → IsToJoin w b
step-new settings entries logs spent b kn st k w a h r =
    let e : (state_at settings entries).books ≡ b = sym k.at.books_are in
    subst (λ (d : Books). IsToJoin w d) e
    (newcomer (state_at settings entries) (steady settings entries logs spent b kn st k).reached w
    (ap (λ (d : Books). is_active w d) e ∙ a) (ap (λ (d : Books). has_collected w d) e ∙ h) (ap (λ (d : Books). was_ready w d) e ∙ r))

next-by : (settings : Settings) (entries now : List Entry) (logs logs_now : List WorkerLog) (spent spent_now : ℕ) (b c : Books) (kn kc : Known) (st st_now : Plan → Type 0) (o : Option Entry) → InStep settings entries logs spent b kn st
    → ((e : Entry) → o ≡ Some e → may_follow (state_at settings entries) e ≡ true) → ((v : ℕ) → log_in v logs_now ≡ shortened (log_in v logs_now)) → Told o (state_at settings entries) entries now spent spent_now c kc st_now
    → InStep settings now logs_now spent_now c kc st_now
next-by settings entries now logs logs_now spent spent_now b c kn kc st st_now None k h short t = record {
  inputs = k.inputs;
  proper = k.proper;
  journal = t.entries_are ∙ k.journal;
  at = subst (λ es. At (state_at settings es) c kc st_now) (sym t.entries_are) t.at;
  spent_is = t.spent_is ∙ add-zero spent ∙ k.spent_is ∙ ap spent_by (sym t.entries_are);
  spent_low = t.spent_low;
  short = short;
}
next-by settings entries now logs logs_now spent spent_now b c kn kc st st_now (Some e) k h short t =
    let s0 = state_at settings entries in
    let m : may_follow s0 e ≡ true = h e refl in
    let after = following settings entries logs spent b kn st k in
    record {
      inputs = k.inputs ++ e ∷ [];
      proper = proper-more settings k.inputs e k.proper (ap (λ u. may_follow u e) (sym after) ∙ m);
      journal = t.entries_are ∙ ap (λ es. es ++ (e ∷ outputs s0 e)) k.journal ∙ ap (λ u. journal_of settings k.inputs ++ (e ∷ outputs u e)) after ∙ sym (journal-more settings k.inputs e);
      at = subst (λ u. At u c kc st_now) (sym (ap (state_at settings) t.entries_are ∙ state-next settings entries e m)) t.at;
      spent_is = t.spent_is ∙ ap (λ n. n + spent_by (e ∷ [])) k.spent_is ∙ sym (spent-more s0 entries e (orderly-next settings k.inputs s0 e k.proper after m)) ∙ ap spent_by (sym t.entries_are);
      spent_low = t.spent_low;
      short = short;
    }

short-if : (b : Bool) (x y : Option Log) → y ≡ shortened y → (if b then shortened x else y) ≡ shortened (if b then shortened x else y)
short-if true x y h = sym (short-twice x)
short-if false x y h = h

pub step-next : (settings : Settings) (entries now : List Entry) (logs logs_now : List WorkerLog) (spent spent_now : ℕ) (b c : Books) (kn kc : Known) (st st_now : Plan → Type 0) (w : ℕ) (n : What) → InStep settings entries logs spent b kn st
    → is_active w b ≡ true → TookNews w n (state_at settings entries) logs logs_now entries now spent spent_now c kc st_now → InStep settings now logs_now spent_now c kc st_now
step-next settings entries now logs logs_now spent spent_now b c kn kc st st_now w n k a t =
    let s0 = state_at settings entries in
    let act : is_active w s0.books ≡ true = ap (λ (d : Books). is_active w d) (sym k.at.books_are) ∙ a in
    next-by settings entries now logs logs_now spent spent_now b c kn kc st st_now (meaning_of w (log_in w logs) spent s0 n) k (λ e h. meaning-follows w (log_in w logs) spent s0 n e act h)
    (λ v. (let r = t.logs_are v in r ∙ short-if (v == w) (with_news (log_in v logs) n) (log_in v logs) (k.short v) ∙ ap shortened (sym r))) t.told

pub stands-next : (settings : Settings) (entries now : List Entry) (logs logs_now : List WorkerLog) (spent spent_now : ℕ) (b c : Books) (kn kc : Known) (st st_now : Plan → Type 0) (n : News) (taken : List News) → InStep settings entries logs spent b kn st
    → is_active n.worker b ≡ true → TookNews n.worker n.what (state_at settings entries) logs logs_now entries now spent spent_now c kc st_now
    → StandsForNews taken (record { settings = settings; entries = entries; logs = logs; whole = true }) → StandsForNews (taken ++ n ∷ []) (record { settings = settings; entries = now; logs = logs_now; whole = true })
stands-next settings entries now logs logs_now spent spent_now b c kn kc st st_now n taken k a t f =
    let s0 = state_at settings entries in
    let w = n.worker in
    let r : SoFar = run_of settings taken in
    let sd = sound-run settings taken (record { mode = k.proper.mode; some_worker = k.proper.some_worker; few_workers = k.proper.few_workers; few_restarts = k.proper.few_restarts; follow = refl }) in
    let same : r.state ≡ s0 = sd.state ∙ sym (journal-state settings r.inputs sd.proper.follow) ∙ ap (state_at settings) (sym sd.journal ∙ sym f.entries) in
    let act : is_active w r.state.books ≡ true = ap (λ (u : State). is_active w u.books) same ∙ ap (λ (d : Books). is_active w d) (sym k.at.books_are) ∙ a in
    let said = said_by w taken in
    let m1 : input_of r n ≡ meaning_of w (log_of (said_by w r.taken)) (spent_by r.entries) r.state n.what = ap (λ q. if q then meaning_of w (log_of (said_by w r.taken)) (spent_by r.entries) r.state n.what else None) act in
    let m2 : meaning_of w (log_of (said_by w r.taken)) (spent_by r.entries) r.state n.what ≡ meaning_of w (log_of said) spent s0 n.what =
    ap (λ ts. meaning_of w (log_of (said_by w ts)) (spent_by r.entries) r.state n.what) (run-taken settings taken)
    ∙ ap (λ m. meaning_of w (log_of said) m r.state n.what) (ap spent_by (sym f.entries) ∙ sym k.spent_is)
    ∙ ap (λ u. meaning_of w (log_of said) spent u n.what) same in
    let m3 : meaning_of w (log_in w logs) spent s0 n.what ≡ meaning_of w (log_of said) spent s0 n.what = ap (λ o. meaning_of w o spent s0 n.what) (f.logs w) ∙ meaning-short w (log_of said) spent s0 n.what in
    let inp : meaning_of w (log_in w logs) spent s0 n.what ≡ input_of r n = m3 ∙ sym (m1 ∙ m2) in
    record {
      whole = refl;
      can_begin = f.can_begin;
      entries = t.told.entries_are ∙ ap (λ o. entries_with o entries s0) inp ∙ ap (λ es. entries_with (input_of r n) es s0) f.entries ∙ ap (λ u. entries_with (input_of r n) r.entries u) (sym same)
          ∙ ap (λ (x : SoFar). x.entries) (sym (run-more settings taken n));
      logs = logs-more taken n logs logs_now f.logs t.logs_are;
    }

pub stands-inside : (settings : Settings) (entries : List Entry) (logs : List WorkerLog) (whole : Bool) (v : SessionSeen) (taken : List News) → record { settings = settings; entries = entries; logs = logs; whole = whole } ≡ v → v.whole ≡ true
    → StandsForNews taken v → StandsForNews taken (record { settings = settings; entries = entries; logs = logs; whole = true })
stands-inside settings entries logs whole v taken e h f =
    let w : whole ≡ true = ap (λ (u : SessionSeen). u.whole) e ∙ h in
    subst (λ q. StandsForNews taken (record { settings = settings; entries = entries; logs = logs; whole = q })) w (subst (λ u. StandsForNews taken u) (sym e) f)
