-- The entry that a piece of news of a worker makes. Which news are a breach is a choice of this project.
use Rattle.std.specs.Prelude.{ℕ, ◌+◌, ◌%◌, ◌==◌, Bool, true, false, not, ◌&&◌, nat_lt, List, [], ◌∷◌, ◌++◌, length, take, fold, Option, Some, None, is_none, if◌then◌else◌}
use Rattle.xd_journal.specs.declared.news.What.{What}
use Rattle.xd_journal.specs.declared.news.What.TheVariants as what
use Rattle.xd_journal.specs.declared.entry.Outcome.{Outcome}
use Rattle.xd_journal.specs.declared.entry.Cause.TheVariants.{Breach}
use Rattle.xd_journal.specs.declared.entry.Ids.TheVariants as ids
use Rattle.xd_journal.specs.declared.entry.Entry.{Entry}
use Rattle.xd_journal.specs.declared.entry.Entry.TheVariants.{Ready, Collected, Done, Back, Finished, Refused, Down, NotStarted}
use Rattle.xd_journal.specs.Kept.{output_room, kept_of}
use Rattle.xd_run.specs.Workers.{is_active}
use Rattle.xd_run.specs.Collections.{listed, differ_at}
use Rattle.xd_run.specs.Retry.{is_retry}
use Rattle.xd_run.specs.Sharing.{State}
use Rattle.xd_run.specs.Proper.{may_follow, names_head}

-- the last log that the worker told of: whose test it is, whether it is open, and its bytes so far
pub record Log : Type 0 where
  pub number : ℕ
  pub index : ℕ
  pub is_open : Bool
  pub bytes : List ℕ

-- the last log after one more piece of news: a new one, more bytes of it, or its end
abbrev pub with_news : Option Log → What → Option Log
with_news log (what.LogStart index number) = Some (record { number = number; index = index; is_open = true; bytes = [] })
with_news (Some log) (what.Piece number bytes) = Some (record log { bytes = log.bytes ++ bytes })
with_news (Some log) (what.LogClosed number) = Some (record log { is_open = false })
with_news log _ = log

-- the last log, by the earlier news of the worker
abbrev pub log_of : List What → Option Log
log_of earlier = fold with_news None earlier

-- the number of the log's channel; 0 where there is no log
abbrev pub number_of : Option Log → ℕ
number_of None = 0
number_of (Some log) = log.number

-- there is a log, and it is of the test with this index
abbrev pub is_of : ℕ → Option Log → Bool
is_of index None = false
is_of index (Some log) = log.index == index

-- there is a log, it has this number, and it is open
abbrev pub is_open_log : ℕ → Option Log → Bool
is_open_log number None = false
is_open_log number (Some log) = log.is_open && (log.number == number)

-- there is a log, and it is open
abbrev pub any_open : Option Log → Bool
any_open None = false
any_open (Some log) = log.is_open

-- the output so far of the test at the worker's head
abbrev pub head_bytes : ℕ → Option Log → State → List ℕ
head_bytes worker None s = []
head_bytes worker (Some log) s = if names_head worker log.index s then log.bytes else []

-- what a Down of the worker keeps of it, where the entries so far keep `spent` bytes: nothing where the test is tried
-- again
abbrev pub kept_at_death : ℕ → Option Log → ℕ → State → List ℕ
kept_at_death worker log spent s = if is_retry worker s.books then [] else take (output_room spent) (head_bytes worker log s)

-- how many bytes these entries keep
abbrev pub spent_by : List Entry → ℕ
spent_by [] = 0
spent_by (Done w i o m output ∷ es) = length output + spent_by es
spent_by (Down w c output ∷ es) = length output + spent_by es
spent_by (e ∷ es) = spent_by es

-- a collection that equals the one it is compared with is not listed again
abbrev pub given_ids : ℕ → List (List ℕ) → State → Entry
given_ids worker own s = elim (listed worker s.books) [
  | None ↦ Collected worker (ids.List own)
  | Some l ↦ (if is_none (differ_at l.ids own) then Collected worker ids.Same else Collected worker (ids.List own))
]

-- the Down of a worker that broke a rule, with what is kept of the output of its head
abbrev pub breach : ℕ → Option Log → ℕ → State → Entry
breach worker log spent s = Down worker Breach (kept_at_death worker log spent s)

-- the entry of the news where it may follow, else a breach
abbrev pub or_breach : ℕ → Option Log → ℕ → State → Entry → Option Entry
or_breach worker log spent s e = if may_follow s e then Some e else Some (breach worker log spent s)

-- no entry where all is well, else a breach
abbrev pub silent_or_breach : Bool → ℕ → Option Log → ℕ → State → Option Entry
silent_or_breach fine worker log spent s = if fine then None else Some (breach worker log spent s)

-- output is kept of a failed test alone
abbrev pub output_of : ℕ → Outcome → Option Log → ℕ → State → List ℕ
output_of worker outcome log spent s = kept_of outcome (output_room spent) (head_bytes worker log s)

-- the Done of the worker's head where its log has come and is closed, else a breach
abbrev pub done_or_breach : ℕ → ℕ → Outcome → ℕ → Option Log → ℕ → State → Option Entry
done_or_breach worker index outcome ms log spent s =
    if names_head worker index s && is_of index log && not (any_open log)
    then Some (Done worker index outcome ms (output_of worker outcome log spent s))
    else Some (breach worker log spent s)

-- the log of the head starts once, on a number of the worker's own that is above its earlier ones
abbrev pub may_start_log : ℕ → ℕ → ℕ → Option Log → State → Bool
may_start_log worker index number log s = names_head worker index s && not (is_of index log) && (number % 2 == 0) && nat_lt (number_of log) number

-- the entry that the news make, by the last log of the worker, the bytes that the journal's entries keep, and its state
abbrev pub meaning_of : ℕ → Option Log → ℕ → State → What → Option Entry
meaning_of w log spent s what.Ready = or_breach w log spent s (Ready w)
meaning_of w log spent s (what.Collected own) = or_breach w log spent s (given_ids w own s)
meaning_of w log spent s (what.LogStart index number) = silent_or_breach (may_start_log w index number log s) w log spent s
meaning_of w log spent s (what.Piece number bytes) = silent_or_breach (is_open_log number log) w log spent s
meaning_of w log spent s (what.LogClosed number) = silent_or_breach (is_open_log number log) w log spent s
meaning_of w log spent s (what.Done index outcome ms) = done_or_breach w index outcome ms log spent s
meaning_of w log spent s (what.Back indices) = or_breach w log spent s (Back w indices)
meaning_of w log spent s what.Finished = or_breach w log spent s (Finished w)
meaning_of w log spent s (what.Closed None) = Some (breach w log spent s)
meaning_of w log spent s (what.Closed (Some text)) = or_breach w log spent s (Refused w text)
meaning_of w log spent s what.Stray = Some (breach w log spent s)
meaning_of w log spent s (what.Gone cause) = Some (Down w cause (kept_at_death w log spent s))
meaning_of w log spent s what.NotStarted = or_breach w log spent s (NotStarted w)

-- the entry that the news make, by the journal so far, its state, and the earlier news of the worker; news of a worker that
-- is not active make none
-- Example: gw0 holds 0 and 1 and says that 1 ended: Down of gw0 with Breach, with the output so far of test 0.
abbrev pub meaning : ℕ → List Entry → State → List What → What → Option Entry
meaning worker entries s earlier news =
    if is_active worker s.books then meaning_of worker (log_of earlier) (spent_by entries) s news else None
