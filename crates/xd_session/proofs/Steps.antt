-- A session that took news, and takes one more.
use Rattle.std.proofs.Common.{[], ◌≡◌, ℕ, zero, suc, ◌+◌, ◌-◌, ◌≤◌, List, ◌∷◌, ◌++◌, take, map, min, refl, ap, sym, ◌∙◌, arith, Bool, true, false, not, ◌&&◌, append_assoc}
use Rattle.std.specs.Prelude.{if◌then◌else◌, ◌==◌, filter, fold, Option, Some, None}
use Rattle.std.proofs.lemmas.Grind.{fold-append}
use Rattle.std.proofs.lemmas.List.{append-nil}
use Rattle.std.proofs.lemmas.Bool.Decides.{nat_tests}
use Rattle.xd_journal.specs.declared.settings.Settings.{Settings}
use Rattle.xd_journal.specs.declared.entry.Entry.{Entry}
use Rattle.xd_journal.specs.declared.entry.Entry.TheVariants.{Ready, Collected, Done, Back, Finished, Refused, Down, NotStarted}
use Rattle.xd_journal.specs.declared.entry.Cause.TheVariants.{Breach}
use Rattle.xd_journal.specs.declared.entry.Outcome.{Outcome}
use Rattle.xd_journal.specs.declared.entry.Outcome.TheVariants.{Failed, Passed, Skipped}
use Rattle.xd_journal.specs.declared.news.News.{News}
use Rattle.xd_journal.specs.declared.news.What.{What}
use Rattle.xd_journal.specs.declared.news.What.TheVariants as what
use Rattle.xd_journal.specs.Kept.{output_room, most_of_all, most_of_one}
use Rattle.xd_run.specs.Histories.{after_starts, first_starts, journal_of}
use Rattle.xd_run.specs.Meaning.{Log, given_ids, head_bytes, is_of, any_open, kept_at_death, log_of, may_start_log, meaning_of, output_of, is_open_log, spent_by, with_news}
use Rattle.xd_run.specs.Orderly.{all_orderly}
use Rattle.xd_run.specs.Outputs.{outputs, after_input}
use Rattle.xd_run.specs.Proper.{IsProper, may_follow, names_head}
use Rattle.xd_run.specs.Retry.{is_retry}
use Rattle.xd_run.specs.Sharing.{State}
use Rattle.xd_run.specs.State.{after_effect}
use Rattle.xd_run.specs.Workers.{is_active}
use Rattle.xd_run_laws.proofs.Logic.{and}
use Rattle.xd_session_books.specs.declared.logs.WorkerLog.{WorkerLog}
use Rattle.xd_session.specs.History.{IsProperRun, Run as SoFar, after_news, begun_run, entries_with, input_of, inputs_with, run_of, said_by, state_with}
use Rattle.xd_session_books.specs.Kept.{log_in, shortened}
use Rattle.xd_session_rules.proofs.Growing.{after_input-more, journal-more, orderly-next, proper-more}

-- what news mean may follow

pub same-entry : (x y : Entry) → Some x ≡ Some y → x ≡ y
same-entry x y h = cc

or-by : (s : State) (e x d : Entry) (b : Bool) → may_follow s x ≡ b → may_follow s d ≡ true → (if b then Some x else Some d) ≡ Some e → may_follow s e ≡ true
or-by s e x d true m k h = ap (may_follow s) (sym (same-entry x e h)) ∙ m
or-by s e x d false m k h = ap (may_follow s) (sym (same-entry d e h)) ∙ k

pub none-some : (e : Entry) (P : Type 0) → None ≡ Some e → P
none-some e P h = absurd cc

silent-by : (s : State) (e d : Entry) (b : Bool) → may_follow s d ≡ true → (if b then None else Some d) ≡ Some e → may_follow s e ≡ true
silent-by s e d true k h = none-some e (may_follow s e ≡ true) h
silent-by s e d false k h = ap (may_follow s) (sym (same-entry d e h)) ∙ k

done-by : (s : State) (w i : ℕ) (o : Outcome) (m : ℕ) (out : List ℕ) (e d : Entry) (a b c : Bool) → names_head w i s ≡ a → is_active w s.books ≡ true → may_follow s d ≡ true
    → (if a && b && c then Some (Done w i o m out) else Some d) ≡ Some e → may_follow s e ≡ true
done-by s w i o m out e d true true true n act k h = ap (may_follow s) (sym (same-entry (Done w i o m out) e h)) ∙ and act n
done-by s w i o m out e d true true false n act k h = ap (may_follow s) (sym (same-entry d e h)) ∙ k
done-by s w i o m out e d true false c n act k h = ap (may_follow s) (sym (same-entry d e h)) ∙ k
done-by s w i o m out e d false b c n act k h = ap (may_follow s) (sym (same-entry d e h)) ∙ k

pub meaning-follows : (w : ℕ) (log : Option Log) (spent : ℕ) (s : State) (n : What) (e : Entry) → is_active w s.books ≡ true → meaning_of w log spent s n ≡ Some e → may_follow s e ≡ true
meaning-follows w log spent s what.Ready e a h = or-by s e (Ready w) (Down w Breach (kept_at_death w log spent s)) (may_follow s (Ready w)) refl a h
meaning-follows w log spent s (what.Collected own) e a h = or-by s e (given_ids w own s) (Down w Breach (kept_at_death w log spent s)) (may_follow s (given_ids w own s)) refl a h
meaning-follows w log spent s (what.LogStart i n) e a h = silent-by s e (Down w Breach (kept_at_death w log spent s)) (may_start_log w i n log s) a h
meaning-follows w log spent s (what.Piece n bs) e a h = silent-by s e (Down w Breach (kept_at_death w log spent s)) (is_open_log n log) a h
meaning-follows w log spent s (what.LogClosed n) e a h = silent-by s e (Down w Breach (kept_at_death w log spent s)) (is_open_log n log) a h
meaning-follows w log spent s (what.Done i o m) e a h = done-by s w i o m (output_of w o log spent s) e (Down w Breach (kept_at_death w log spent s)) (names_head w i s) (is_of i log) (not (any_open log)) refl a a h
meaning-follows w log spent s (what.Back is) e a h = or-by s e (Back w is) (Down w Breach (kept_at_death w log spent s)) (may_follow s (Back w is)) refl a h
meaning-follows w log spent s what.Finished e a h = or-by s e (Finished w) (Down w Breach (kept_at_death w log spent s)) (may_follow s (Finished w)) refl a h
meaning-follows w log spent s (what.Closed None) e a h = ap (may_follow s) (sym (same-entry (Down w Breach (kept_at_death w log spent s)) e h)) ∙ a
meaning-follows w log spent s (what.Closed (Some text)) e a h = or-by s e (Refused w text) (Down w Breach (kept_at_death w log spent s)) (may_follow s (Refused w text)) refl a h
meaning-follows w log spent s what.Stray e a h = ap (may_follow s) (sym (same-entry (Down w Breach (kept_at_death w log spent s)) e h)) ∙ a
meaning-follows w log spent s (what.Gone c) e a h = ap (may_follow s) (sym (same-entry (Down w c (kept_at_death w log spent s)) e h)) ∙ a
meaning-follows w log spent s what.NotStarted e a h = or-by s e (NotStarted w) (Down w Breach (kept_at_death w log spent s)) (may_follow s (NotStarted w)) refl a h

-- the first bytes of a log are enough

take-shorter : (m n : ℕ) (bs : List ℕ) → m ≤ n → take m (take n bs) ≡ take m bs
take-shorter zero n bs h = refl
take-shorter (suc m) zero bs h = absurd (omega arith)
take-shorter (suc m) (suc n) [] h = refl
take-shorter (suc m) (suc n) (b ∷ bs) h = ap (λ xs. b ∷ xs) (take-shorter m n bs (omega arith))

take-within : (m n : ℕ) (b : Bool) (bs : List ℕ) → m ≤ n → take m (if b then take n bs else []) ≡ take m (if b then bs else [])
take-within m n true bs h = take-shorter m n bs h
take-within m n false bs h = refl

head-short : (w spent : ℕ) (log : Option Log) (s : State) → take (output_room spent) (head_bytes w (shortened log) s) ≡ take (output_room spent) (head_bytes w log s)
head-short w spent None s = refl
head-short w spent (Some l) s = take-within (min most_of_one (most_of_all - spent)) most_of_one (names_head w l.index s) l.bytes (omega arith)

pub kept-short : (w spent : ℕ) (log : Option Log) (s : State) → kept_at_death w (shortened log) spent s ≡ kept_at_death w log spent s
kept-short w spent log s = ap (λ (bs : List ℕ). if is_retry w s.books then [] else bs) (head-short w spent log s)

pub meaning-short : (w : ℕ) (log : Option Log) (spent : ℕ) (s : State) (n : What) → meaning_of w (shortened log) spent s n ≡ meaning_of w log spent s n
meaning-short w log spent s what.Ready = ap (λ k. if may_follow s (Ready w) then Some (Ready w) else Some (Down w Breach k)) (kept-short w spent log s)
meaning-short w log spent s (what.Collected own) = ap (λ k. if may_follow s (given_ids w own s) then Some (given_ids w own s) else Some (Down w Breach k)) (kept-short w spent log s)
meaning-short w None spent s (what.LogStart i n) = refl
meaning-short w (Some l) spent s (what.LogStart i n) = ap (λ k. if may_start_log w i n (Some l) s then None else Some (Down w Breach k)) (kept-short w spent (Some l) s)
meaning-short w None spent s (what.Piece n bs) = refl
meaning-short w (Some l) spent s (what.Piece n bs) = ap (λ k. if is_open_log n (Some l) then None else Some (Down w Breach k)) (kept-short w spent (Some l) s)
meaning-short w None spent s (what.LogClosed n) = refl
meaning-short w (Some l) spent s (what.LogClosed n) = ap (λ k. if is_open_log n (Some l) then None else Some (Down w Breach k)) (kept-short w spent (Some l) s)
meaning-short w None spent s (what.Done i o m) = refl
meaning-short w (Some l) spent s (what.Done i (Failed c) m) =
    let fine = names_head w i s && is_of i (Some l) && not (any_open (Some l)) in
    ap (λ o. if fine then Some (Done w i (Failed c) m o) else Some (Down w Breach (kept_at_death w (shortened (Some l)) spent s))) (head-short w spent (Some l) s)
    ∙ ap (λ k. if fine then Some (Done w i (Failed c) m (output_of w (Failed c) (Some l) spent s)) else Some (Down w Breach k)) (kept-short w spent (Some l) s)
meaning-short w (Some l) spent s (what.Done i Passed m) = ap (λ k. if names_head w i s && is_of i (Some l) && not (any_open (Some l)) then Some (Done w i Passed m []) else Some (Down w Breach k)) (kept-short w spent (Some l) s)
meaning-short w (Some l) spent s (what.Done i Skipped m) = ap (λ k. if names_head w i s && is_of i (Some l) && not (any_open (Some l)) then Some (Done w i Skipped m []) else Some (Down w Breach k)) (kept-short w spent (Some l) s)
meaning-short w log spent s (what.Back is) = ap (λ k. if may_follow s (Back w is) then Some (Back w is) else Some (Down w Breach k)) (kept-short w spent log s)
meaning-short w log spent s what.Finished = ap (λ k. if may_follow s (Finished w) then Some (Finished w) else Some (Down w Breach k)) (kept-short w spent log s)
meaning-short w log spent s (what.Closed None) = ap (λ k. Some (Down w Breach k)) (kept-short w spent log s)
meaning-short w log spent s (what.Closed (Some text)) = ap (λ k. if may_follow s (Refused w text) then Some (Refused w text) else Some (Down w Breach k)) (kept-short w spent log s)
meaning-short w log spent s what.Stray = ap (λ k. Some (Down w Breach k)) (kept-short w spent log s)
meaning-short w log spent s (what.Gone c) = ap (λ k. Some (Down w c k)) (kept-short w spent log s)
meaning-short w log spent s what.NotStarted = ap (λ k. if may_follow s (NotStarted w) then Some (NotStarted w) else Some (Down w Breach k)) (kept-short w spent log s)

-- logs, by what a worker said

take-joined : (n : ℕ) (xs ys : List ℕ) → take n (take n xs ++ ys) ≡ take n (xs ++ ys)
take-joined zero xs ys = refl
take-joined (suc n) [] ys = refl
take-joined (suc n) (x ∷ xs) ys = ap (λ zs. x ∷ zs) (take-joined n xs ys)

pub short-twice : (log : Option Log) → shortened (shortened log) ≡ shortened log
short-twice None = refl
short-twice (Some l) = ap (λ (xs : List ℕ). Some (record l { bytes = xs })) (take-shorter most_of_one most_of_one l.bytes (omega arith))

pub news-short : (log : Option Log) (n : What) → shortened (with_news (shortened log) n) ≡ shortened (with_news log n)
news-short log (what.LogStart i n) = refl
news-short None (what.Piece n bs) = refl
news-short (Some l) (what.Piece n bs) = ap (λ (xs : List ℕ). Some (record l { bytes = xs })) (take-joined most_of_one l.bytes bs)
news-short None (what.LogClosed n) = refl
news-short (Some l) (what.LogClosed n) = ap (λ (xs : List ℕ). Some (record l { is_open = false; bytes = xs })) (take-shorter most_of_one most_of_one l.bytes (omega arith))
news-short log what.Ready = short-twice log
news-short log (what.Collected own) = short-twice log
news-short log (what.Done i o m) = short-twice log
news-short log (what.Back is) = short-twice log
news-short log what.Finished = short-twice log
news-short log (what.Closed t) = short-twice log
news-short log what.Stray = short-twice log
news-short log (what.Gone c) = short-twice log
news-short log what.NotStarted = short-twice log

said-by : (v : ℕ) (m : News) (taken : List News) (n : News) (a b : Bool) → said_by v (taken ++ n ∷ []) ≡ (if b then said_by v taken ++ n.what ∷ [] else said_by v taken)
    → map (λ (x : News). x.what) (if a then m ∷ filter (λ (x : News). x.worker == v) (taken ++ n ∷ []) else filter (λ (x : News). x.worker == v) (taken ++ n ∷ []))
    ≡ (if b then map (λ (x : News). x.what) (if a then m ∷ filter (λ (x : News). x.worker == v) taken else filter (λ (x : News). x.worker == v) taken) ++ n.what ∷ [] else map (λ (x : News). x.what) (if a then m ∷ filter (λ (x : News). x.worker == v) taken else filter (λ (x : News). x.worker == v) taken))
said-by v m taken n true true k = ap (λ xs. m.what ∷ xs) k
said-by v m taken n true false k = ap (λ xs. m.what ∷ xs) k
said-by v m taken n false true k = k
said-by v m taken n false false k = k

said-more : (v : ℕ) (taken : List News) (n : News) → said_by v (taken ++ n ∷ []) ≡ (if n.worker == v then said_by v taken ++ n.what ∷ [] else said_by v taken)
said-more v [] n = elim (n.worker == v) as (λ b. map (λ (x : News). x.what) (if b then n ∷ [] else []) ≡ (if b then [] ++ n.what ∷ [] else [])) [ true ↦ refl | false ↦ refl ]
said-more v (m ∷ taken) n = (let k = said-more v taken n in said-by v m taken n (m.worker == v) (n.worker == v) k)

said-log : (v : ℕ) (taken : List News) (n : News) (b : Bool) → said_by v (taken ++ n ∷ []) ≡ (if b then said_by v taken ++ n.what ∷ [] else said_by v taken)
    → log_of (said_by v (taken ++ n ∷ [])) ≡ (if b then with_news (log_of (said_by v taken)) n.what else log_of (said_by v taken))
said-log v taken n true e = ap log_of e ∙ fold-append with_news None (said_by v taken) (n.what ∷ [])
said-log v taken n false e = ap log_of e

choose : (b : Bool) (log : Option Log) (n : What) → (if b then shortened (with_news (shortened log) n) else shortened log) ≡ shortened (if b then with_news log n else log)
choose true log n = news-short log n
choose false log n = refl

pub logs-more : (taken : List News) (n : News) (logs now : List WorkerLog) → ((v : ℕ) → log_in v logs ≡ shortened (log_of (said_by v taken)))
    → ((v : ℕ) → log_in v now ≡ (if v == n.worker then shortened (with_news (log_in v logs) n.what) else log_in v logs)) → (v : ℕ) → log_in v now ≡ shortened (log_of (said_by v (taken ++ n ∷ [])))
logs-more taken n logs now h k v =
    let said = log_of (said_by v taken) in
    let same : (n.worker == v) ≡ (v == n.worker) = grind (arith, nat_tests) in
    let e = said-log v taken n (n.worker == v) (said-more v taken n) in
    k v ∙ ap (λ o. if v == n.worker then shortened (with_news o n.what) else o) (h v) ∙ choose (v == n.worker) said n.what ∙ sym (ap (λ o. shortened o) (e ∙ ap (λ b. if b then with_news said n.what else said) same))

-- the runs

pub run-more : (settings : Settings) (taken : List News) (n : News) → run_of settings (taken ++ n ∷ []) ≡ after_news (run_of settings taken) n
run-more settings taken n = fold-append after_news (begun_run settings) taken (n ∷ [])

sound-input : (settings : Settings) (r : SoFar) (n : News) (o : Option Entry) → ((e : Entry) → o ≡ Some e → may_follow r.state e ≡ true) → IsProperRun settings r
    → IsProperRun settings (record { entries = entries_with o r.entries r.state; state = state_with o r.state; inputs = inputs_with o r.inputs; taken = r.taken ++ n ∷ [] })
sound-input settings r n None h k = record { proper = k.proper; journal = k.journal; state = k.state }
sound-input settings r n (Some e) h k = record {
  proper = proper-more settings r.inputs e k.proper (ap (λ u. may_follow u e) (sym k.state) ∙ h e refl);
  journal = ap (λ es. es ++ (e ∷ outputs r.state e)) k.journal ∙ ap (λ u. journal_of settings r.inputs ++ (e ∷ outputs u e)) k.state ∙ sym (journal-more settings r.inputs e);
  state = ap (λ u. after_input u e) k.state ∙ sym (after_input-more (after_starts settings) r.inputs e);
}

meant : (w : ℕ) (b : Bool) (o : Option Entry) (s : State) (e : Entry) → (b ≡ true → o ≡ Some e → may_follow s e ≡ true) → (if b then o else None) ≡ Some e → may_follow s e ≡ true
meant w true o s e h k = h refl k
meant w false o s e h k = none-some e (may_follow s e ≡ true) k

-- the input that a piece of news means may follow, and what follows it is in order
pub input-follows : (r : SoFar) (n : News) (e : Entry) → input_of r n ≡ Some e → may_follow r.state e ≡ true
input-follows r n e h =
    let w = n.worker in
    let log = log_of (said_by w r.taken) in
    meant w (is_active w r.state.books) (meaning_of w log (spent_by r.entries) r.state n.what) r.state e (λ a m. meaning-follows w log (spent_by r.entries) r.state n.what e a m) h

pub outputs-orderly : (settings : Settings) (r : SoFar) (n : News) (e : Entry) → IsProperRun settings r → input_of r n ≡ Some e → all_orderly (after_effect r.state e) (outputs r.state e) ≡ true
outputs-orderly settings r n e k h = orderly-next settings r.inputs r.state e k.proper k.state (input-follows r n e h)

pub sound-next : (settings : Settings) (r : SoFar) (n : News) → IsProperRun settings r → IsProperRun settings (after_news r n)
sound-next settings r n k = sound-input settings r n (input_of r n) (input-follows r n) k

sound-fold : (settings : Settings) (r : SoFar) (taken : List News) → IsProperRun settings r → IsProperRun settings (fold after_news r taken)
sound-fold settings r [] k = k
sound-fold settings r (n ∷ taken) k = sound-fold settings (after_news r n) taken (sound-next settings r n k)

pub sound-run : (settings : Settings) (taken : List News) → IsProper settings [] → IsProperRun settings (run_of settings taken)
sound-run settings taken p = sound-fold settings (begun_run settings) taken (record { proper = p; journal = sym (append-nil (first_starts settings)); state = refl })

taken-fold : (r : SoFar) (taken : List News) → (fold after_news r taken).taken ≡ r.taken ++ taken
taken-fold r [] = sym (append-nil r.taken)
taken-fold r (n ∷ taken) = taken-fold (after_news r n) taken ∙ append_assoc r.taken (n ∷ []) taken

pub run-taken : (settings : Settings) (taken : List News) → (run_of settings taken).taken ≡ taken
run-taken settings taken = taken-fold (begun_run settings) taken
