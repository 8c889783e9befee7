-- No event says that a link is down.
use Rattle.std.proofs.Common.{◌≡◌, ℕ, List, Bool, true, false, Option, Some, None, sym, subst}
use Rattle.std.specs.Prelude.{option_and_then, option_map, codes, if◌then◌else◌}
use Rattle.std.specs.Str.{bytes_eq}
use Rattle.xd_value.specs.Tree.{Tree}
use Rattle.xd_journal.specs.declared.entry.Outcome.{Outcome}
use Rattle.xd_journal.specs.declared.news.What.{What}
use Rattle.xd_journal.specs.declared.news.What.TheVariants.{Ready, Collected, LogStart, Done, Back, Finished}
use Rattle.xd_commands.specs.Calls.{Call, call_in}
use Rattle.xd_commands.specs.Kwargs.{both, indices_at}
use Rattle.xd_commands.specs.Events.{called_event, done_at, duration_at, ids_under_key, index_at, log_at, outcome_at, tree_event}
use Rattle.xd_gateway.specs.Stands.{IsOfMessage}

of_ids : (o : Option (List (List ℕ))) → IsOfMessage (option_map Collected o)
of_ids None = tt
of_ids (Some ids) = tt

of_back : (o : Option (List ℕ)) → IsOfMessage (option_map Back o)
of_back None = tt
of_back (Some ns) = tt

of_log : (n log : Option ℕ) → IsOfMessage (both LogStart n log)
of_log None log = tt
of_log (Some n) None = tt
of_log (Some n) (Some log) = tt

of_done_at : (n : ℕ) (o : Option Outcome) (ms : Option ℕ) → IsOfMessage (both (Done n) o ms)
of_done_at n None ms = tt
of_done_at n (Some o) None = tt
of_done_at n (Some o) (Some ms) = tt

of_done : (n : Option ℕ) (o : Option Outcome) (ms : Option ℕ) → IsOfMessage (option_and_then (λ k. both (Done k) o ms) n)
of_done None o ms = tt
of_done (Some n) o ms = of_done_at n o ms

first_of : (b1 b2 b3 b4 b5 b6 : Bool) (x1 x2 x3 x4 x5 x6 : Option What) → IsOfMessage x1 → IsOfMessage x2 → IsOfMessage x3 → IsOfMessage x4 → IsOfMessage x5 → IsOfMessage x6
    → IsOfMessage (if b1 then x1 else (if b2 then x2 else (if b3 then x3 else (if b4 then x4 else (if b5 then x5 else (if b6 then x6 else None))))))
first_of true b2 b3 b4 b5 b6 x1 x2 x3 x4 x5 x6 p1 p2 p3 p4 p5 p6 = p1
first_of false true b3 b4 b5 b6 x1 x2 x3 x4 x5 x6 p1 p2 p3 p4 p5 p6 = p2
first_of false false true b4 b5 b6 x1 x2 x3 x4 x5 x6 p1 p2 p3 p4 p5 p6 = p3
first_of false false false true b5 b6 x1 x2 x3 x4 x5 x6 p1 p2 p3 p4 p5 p6 = p4
first_of false false false false true b6 x1 x2 x3 x4 x5 x6 p1 p2 p3 p4 p5 p6 = p5
first_of false false false false false true x1 x2 x3 x4 x5 x6 p1 p2 p3 p4 p5 p6 = p6
first_of false false false false false false x1 x2 x3 x4 x5 x6 p1 p2 p3 p4 p5 p6 = tt

of_call : (c : Call) → IsOfMessage (called_event c)
of_call c =
    first_of (bytes_eq c.name (codes "workerready")) (bytes_eq c.name (codes "collectionfinish")) (bytes_eq c.name (codes "logstart")) (bytes_eq c.name (codes "runtest_protocol_complete")) (bytes_eq c.name (codes "unscheduled")) (bytes_eq c.name (codes "workerfinished"))
    (Some Ready) (option_map Collected (ids_under_key c.kwargs)) (both LogStart (index_at c.kwargs) (log_at c.kwargs)) (done_at c.kwargs) (option_map Back (indices_at c.kwargs)) (Some Finished)
    tt (of_ids (ids_under_key c.kwargs)) (of_log (index_at c.kwargs) (log_at c.kwargs)) (of_done (index_at c.kwargs) (outcome_at c.kwargs) (duration_at c.kwargs)) (of_back (indices_at c.kwargs)) tt

of_called : (o : Option Call) → IsOfMessage (option_and_then called_event o)
of_called None = tt
of_called (Some c) = of_call c

pub event_kind : (v : Tree) (o : Option What) → o ≡ tree_event v → IsOfMessage o
event_kind v o e = subst IsOfMessage (sym e) (of_called (call_in v))
