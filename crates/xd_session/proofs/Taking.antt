-- What the verdict on a piece of news says of its meaning.
use Rattle.std.proofs.Common.{[], ◌≡◌, ℕ, ◌+◌, ◌≤◌, List, ◌∷◌, refl, ap, sym, subst, ◌∙◌, Bool, true, false, not, ◌&&◌, arith}
use Rattle.std.specs.Prelude.{if◌then◌else◌, ◌==◌, Option, Some, None}
use Rattle.xd_journal.specs.declared.entry.Entry.{Entry}
use Rattle.xd_journal.specs.declared.entry.Entry.TheVariants.{Ready, Collected, Done, Back, Finished, Refused, NotStarted}
use Rattle.xd_journal.specs.declared.entry.Outcome.{Outcome}
use Rattle.xd_journal.specs.declared.news.What.{What}
use Rattle.xd_journal.specs.declared.news.What.TheVariants as what
use Rattle.xd_journal.specs.Kept.{most_of_all}
use Rattle.xd_run.specs.Books.{Books}
use Rattle.xd_run.specs.Meaning.{Log, any_open, breach, given_ids, is_of, is_open_log, may_start_log, meaning_of, output_of, spent_by, with_news}
use Rattle.xd_run.specs.Plan.{Plan}
use Rattle.xd_run.specs.Proper.{may_follow, names_head}
use Rattle.xd_run.specs.Sharing.{State}
use Rattle.xd_run.specs.Workers.{is_active}
use Rattle.xd_run_laws.proofs.Logic.{and, split-and}
use Rattle.xd_session_rules.specs.declared.judge.Verdict.TheVariants.{Silent, Follows, Breach}
use Rattle.xd_session_books.specs.declared.logs.WorkerLog.{WorkerLog}
use Rattle.xd_session_rules.specs.Judged.{follows_where, judged, silent_where}
use Rattle.xd_session_books.specs.Kept.{log_in, shortened}
use Rattle.xd_session_books.specs.Known.{Known}
use Rattle.xd_session_rules.specs.Rules.{At, Comes, Ruled}
use Rattle.xd_session.specs.inner.Told.{Steady, Told, TookNews}

-- verdicts

pub follows-fine : (b : Bool) → follows_where b ≡ Follows → b ≡ true
follows-fine true h = refl
follows-fine false h = cc

follows-bad : (b : Bool) → follows_where b ≡ Breach → b ≡ false
follows-bad true h = cc
follows-bad false h = refl

never-silent : (P : Type 0) (b : Bool) → follows_where b ≡ Silent → P
never-silent P true h = cc
never-silent P false h = cc

silent-fine : (b : Bool) → silent_where b ≡ Silent → b ≡ true
silent-fine true h = refl
silent-fine false h = cc

silent-bad : (b : Bool) → silent_where b ≡ Breach → b ≡ false
silent-bad true h = cc
silent-bad false h = refl

pub never-follows : (P : Type 0) (b : Bool) → silent_where b ≡ Follows → P
never-follows P true h = cc
never-follows P false h = cc

choose : (b c : Bool) (x y : Option Entry) → b ≡ c → (if b then x else y) ≡ (if c then x else y)
choose b c x y h = ap (λ q. if q then x else y) h

-- what they say of the meaning

pub meaning-silent : (w : ℕ) (log : Option Log) (spent : ℕ) (s : State) (n : What) → judged w log s n ≡ Silent → meaning_of w log spent s n ≡ None
meaning-silent w log spent s what.Ready h = never-silent _ (may_follow s (Ready w)) h
meaning-silent w log spent s (what.Collected own) h = never-silent _ (may_follow s (given_ids w own s)) h
meaning-silent w log spent s (what.LogStart i n) h = choose (may_start_log w i n log s) true None (Some (breach w log spent s)) (silent-fine (may_start_log w i n log s) h)
meaning-silent w log spent s (what.Piece n bs) h = choose (is_open_log n log) true None (Some (breach w log spent s)) (silent-fine (is_open_log n log) h)
meaning-silent w log spent s (what.LogClosed n) h = choose (is_open_log n log) true None (Some (breach w log spent s)) (silent-fine (is_open_log n log) h)
meaning-silent w log spent s (what.Done i o m) h = never-silent _ (names_head w i s && is_of i log && not (any_open log)) h
meaning-silent w log spent s (what.Back is) h = never-silent _ (may_follow s (Back w is)) h
meaning-silent w log spent s what.Finished h = never-silent _ (may_follow s (Finished w)) h
meaning-silent w log spent s (what.Closed None) h = cc
meaning-silent w log spent s (what.Closed (Some text)) h = never-silent _ (may_follow s (Refused w text)) h
meaning-silent w log spent s what.Stray h = cc
meaning-silent w log spent s (what.Gone c) h = cc
meaning-silent w log spent s what.NotStarted h = never-silent _ (may_follow s (NotStarted w)) h

pub meaning-breach : (w : ℕ) (log : Option Log) (spent : ℕ) (s : State) (n : What) → judged w log s n ≡ Breach → meaning_of w log spent s n ≡ Some (breach w log spent s)
meaning-breach w log spent s what.Ready h = choose (may_follow s (Ready w)) false (Some (Ready w)) (Some (breach w log spent s)) (follows-bad (may_follow s (Ready w)) h)
meaning-breach w log spent s (what.Collected own) h =
    choose (may_follow s (given_ids w own s)) false (Some (given_ids w own s)) (Some (breach w log spent s)) (follows-bad (may_follow s (given_ids w own s)) h)
meaning-breach w log spent s (what.LogStart i n) h = choose (may_start_log w i n log s) false None (Some (breach w log spent s)) (silent-bad (may_start_log w i n log s) h)
meaning-breach w log spent s (what.Piece n bs) h = choose (is_open_log n log) false None (Some (breach w log spent s)) (silent-bad (is_open_log n log) h)
meaning-breach w log spent s (what.LogClosed n) h = choose (is_open_log n log) false None (Some (breach w log spent s)) (silent-bad (is_open_log n log) h)
meaning-breach w log spent s (what.Done i o m) h =
    let fine = names_head w i s && is_of i log && not (any_open log) in
    choose fine false (Some (Done w i o m (output_of w o log spent s))) (Some (breach w log spent s)) (follows-bad fine h)
meaning-breach w log spent s (what.Back is) h = choose (may_follow s (Back w is)) false (Some (Back w is)) (Some (breach w log spent s)) (follows-bad (may_follow s (Back w is)) h)
meaning-breach w log spent s what.Finished h = choose (may_follow s (Finished w)) false (Some (Finished w)) (Some (breach w log spent s)) (follows-bad (may_follow s (Finished w)) h)
meaning-breach w log spent s (what.Closed None) h = refl
meaning-breach w log spent s (what.Closed (Some text)) h = choose (may_follow s (Refused w text)) false (Some (Refused w text)) (Some (breach w log spent s)) (follows-bad (may_follow s (Refused w text)) h)
meaning-breach w log spent s what.Stray h = refl
meaning-breach w log spent s (what.Gone c) h = cc
meaning-breach w log spent s what.NotStarted h = choose (may_follow s (NotStarted w)) false (Some (NotStarted w)) (Some (breach w log spent s)) (follows-bad (may_follow s (NotStarted w)) h)

-- an input that may follow is the meaning
pub meaning-fine : (b : Bool) (e d : Entry) → follows_where b ≡ Follows → (if b then Some e else Some d) ≡ Some e
meaning-fine b e d h = ap (λ q. if q then Some e else Some d) (follows-fine b h)

-- news that brings an input is none of a log
pub log-same : (w : ℕ) (log : Option Log) (s : State) (n : What) (l : Option Log) → judged w log s n ≡ Follows → with_news l n ≡ l
log-same w log s what.Ready l h = refl
log-same w log s (what.Collected own) l h = refl
log-same w log s (what.LogStart i n) l h = never-follows _ (may_start_log w i n log s) h
log-same w log s (what.Piece n bs) l h = never-follows _ (is_open_log n log) h
log-same w log s (what.LogClosed n) l h = never-follows _ (is_open_log n log) h
log-same w log s (what.Done i o m) l h = refl
log-same w log s (what.Back is) l h = refl
log-same w log s what.Finished l h = refl
log-same w log s (what.Closed t) l h = refl
log-same w log s what.Stray l h = refl
log-same w log s (what.Gone c) l h = refl
log-same w log s what.NotStarted l h = refl

-- what a rule leaves, in the words of a piece of news

pub told-ruled : (input : Option Entry) (e : Entry) (s : State) (b : Books) (k : Known) (es fs : List Entry) (spent now : ℕ) (st : Plan → Type 0) → input ≡ Some e → Ruled s e b k es fs st → now ≡ spent + spent_by (e ∷ []) → now ≤ most_of_all
    → Told input s es fs spent now b k st
told-ruled input e s b k es fs spent now st h r q l = subst (λ o. Told o s es fs spent now b k st) (sym h) (record { at = r.at; entries_are = r.entries_are; spent_is = q; spent_low = l })

pub told-as : (x y : Option Entry) (s : State) (es fs : List Entry) (m n : ℕ) (b : Books) (k : Known) (st : Plan → Type 0) → x ≡ y → Told x s es fs m n b k st → Told y s es fs m n b k st
told-as x y s es fs m n b k st e t = subst (λ z. Told z s es fs m n b k st) e t

logs-same : (w v : ℕ) (log l : Option Log) (s : State) (n : What) (b : Bool) → judged w log s n ≡ Follows → l ≡ shortened l → l ≡ (if b then shortened (with_news l n) else l)
logs-same w v log l s n true h k = k ∙ ap shortened (sym (log-same w log s n l h))
logs-same w v log l s n false h k = refl

-- where the input followed the logs stay
pub took-follows : (w : ℕ) (n : What) (s : State) (logs : List WorkerLog) (es fs : List Entry) (spent now : ℕ) (b : Books) (k : Known) (st : Plan → Type 0) → judged w (log_in w logs) s n ≡ Follows
    → ((v : ℕ) → log_in v logs ≡ shortened (log_in v logs)) → Told (meaning_of w (log_in w logs) spent s n) s es fs spent now b k st → TookNews w n s logs logs es fs spent now b k st
took-follows w n s logs es fs spent now b k st h short t = record { told = t; logs_are = λ v. logs-same w v (log_in w logs) (log_in v logs) s n (v == w) h (short v) }

-- the input of the news may follow

pub comes : (e : Entry) (s : State) (b : Books) (k : Known) (st : Plan → Type 0) → Steady s b k st → may_follow s e ≡ true → Comes e s b k st
comes e s b k st a h = record { at = a.at; reached = a.reached; follows = h }

pub active-in : (w : ℕ) (s : State) (b : Books) (k : Known) (st : Plan → Type 0) → Steady s b k st → is_active w b ≡ true → is_active w s.books ≡ true
active-in w s b k st a h = ap (is_active w) (sym a.at.books_are) ∙ h

pub done-follows : (w i : ℕ) (o : Outcome) (m : ℕ) (out : List ℕ) (log : Option Log) (s : State) → is_active w s.books ≡ true → judged w log s (what.Done i o m) ≡ Follows → may_follow s (Done w i o m out) ≡ true
done-follows w i o m out log s a h =
    let fine = follows-fine (names_head w i s && is_of i log && not (any_open log)) h in
    and a (split-and (names_head w i s) (is_of i log) (split-and (names_head w i s && is_of i log) (not (any_open log)) fine).0).0

pub done-meant : (w i : ℕ) (o : Outcome) (m : ℕ) (log : Option Log) (spent : ℕ) (s : State) → judged w log s (what.Done i o m) ≡ Follows → meaning_of w log spent s (what.Done i o m) ≡ Some (Done w i o m (output_of w o log spent s))
done-meant w i o m log spent s h = meaning-fine (names_head w i s && is_of i log && not (any_open log)) (Done w i o m (output_of w o log spent s)) (breach w log spent s) h

-- where the news means nothing all is as before
pub told-none : (input : Option Entry) (s : State) (es : List Entry) (spent : ℕ) (b : Books) (k : Known) (st : Plan → Type 0) → At s b k st → input ≡ None → spent ≤ most_of_all → Told input s es es spent spent b k st
told-none input s es spent b k st a h l = subst (λ o. Told o s es es spent spent b k st) (sym h) (record { at = a; entries_are = refl; spent_is = omega arith; spent_low = l })
