-- What is asked of the log that a worker started last.
use Rattle.std.specs.Prelude.{ℕ, zero, suc, ◌==◌, List, [], ◌∷◌, take, Option, Some, None, if◌then◌else◌}
use Rattle.xd_journal.specs.Kept.{most_of_one}
use Rattle.xd_run.specs.Meaning.{Log}
use Rattle.xd_session_books.specs.declared.logs.WorkerLog.{WorkerLog}

-- the place of the worker's log, or the count of all
abbrev pub place_of : ℕ → List WorkerLog → ℕ
place_of worker [] = zero
place_of worker (l ∷ ls) = if l.worker == worker then zero else suc (place_of worker ls)

-- the test that the log is of, where there is a log
abbrev pub log_index_of : Option Log → Option ℕ
log_index_of None = None
log_index_of (Some log) = Some log.index

-- the bytes of the log; none where there is no log
abbrev pub bytes_of : Option Log → List ℕ
bytes_of None = []
bytes_of (Some log) = log.bytes

-- the log of the definitions for which the session's own one stands
abbrev pub log_of_item : WorkerLog → Log
log_of_item l = record { number = l.number; index = l.index; is_open = l.is_open; bytes = l.bytes }

-- the log of the worker among these
abbrev pub log_in : ℕ → List WorkerLog → Option Log
log_in worker [] = None
log_in worker (l ∷ ls) = if l.worker == worker then Some (log_of_item l) else log_in worker ls

-- of a log no more bytes are kept than can be asked for
abbrev pub shortened : Option Log → Option Log
shortened None = None
shortened (Some log) = Some (record log { bytes = take most_of_one log.bytes })
