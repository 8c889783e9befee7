-- What is to be done with a piece of news.
use Rattle.std.specs.Prelude.{ℕ, Bool, not, ◌&&◌, Option, Some, None, if◌then◌else◌}
use Rattle.xd_journal.specs.declared.news.What.{What}
use Rattle.xd_journal.specs.declared.news.What.TheVariants as what
use Rattle.xd_journal.specs.declared.entry.Entry.TheVariants.{Ready, Back, Finished, Refused, NotStarted}
use Rattle.xd_run.specs.Meaning.{Log, any_open, given_ids, is_of, is_open_log, may_start_log}
use Rattle.xd_run.specs.Proper.{may_follow, names_head}
use Rattle.xd_run.specs.Sharing.{State}
use Rattle.xd_session_rules.specs.declared.judge.Verdict.{Verdict}
use Rattle.xd_session_rules.specs.declared.judge.Verdict.TheVariants.{Silent, Follows, Breach}

-- its input follows where it breaks no rule, else it is a breach
abbrev pub follows_where : Bool → Verdict
follows_where fine = if fine then Follows else Breach

-- no input follows where it breaks no rule, else it is a breach
abbrev pub silent_where : Bool → Verdict
silent_where fine = if fine then Silent else Breach

-- by the last log of the worker and the state: its input follows, or it is news of a log where nothing does, or a breach
-- Example: gw0 holds 0 and 1 and says that 1 ended: a breach.
abbrev pub judged : ℕ → Option Log → State → What → Verdict
judged w log s what.Ready = follows_where (may_follow s (Ready w))
judged w log s (what.Collected own) = follows_where (may_follow s (given_ids w own s))
judged w log s (what.LogStart index number) = silent_where (may_start_log w index number log s)
judged w log s (what.Piece number bytes) = silent_where (is_open_log number log)
judged w log s (what.LogClosed number) = silent_where (is_open_log number log)
judged w log s (what.Done index outcome ms) = follows_where (names_head w index s && is_of index log && not (any_open log))
judged w log s (what.Back indices) = follows_where (may_follow s (Back w indices))
judged w log s what.Finished = follows_where (may_follow s (Finished w))
judged w log s (what.Closed None) = Breach
judged w log s (what.Closed (Some text)) = follows_where (may_follow s (Refused w text))
judged w log s what.Stray = Breach
judged w log s (what.Gone cause) = Follows
judged w log s what.NotStarted = follows_where (may_follow s (NotStarted w))
