-- What the controller says after an input. pytest-xdist's DSession: `worker_workerready`, `worker_collectionfinish`,
-- `worker_runtest_protocol_complete`, `worker_unscheduled`, `worker_errordown` and `triggershutdown`.
use Rattle.std.specs.Prelude.{ℕ, not, ◌&&◌, List, [], ◌∷◌, ◌++◌, length, map, if◌then◌else◌}
use Rattle.xd_journal.specs.declared.entry.Entry.{Entry}
use Rattle.xd_journal.specs.declared.entry.Entry.TheVariants.{Ready, Collected, Done, Back, Refused, Down, NotStarted, Start, Shutdown, Kill}
use Rattle.xd_run.specs.declared.member.Member.{Member}
use Rattle.xd_run.specs.Table.{workers_of}
use Rattle.xd_run.specs.Turn.{Turn}
use Rattle.xd_run.specs.Modes.{ModeCall, turned}
use Rattle.xd_run.specs.Modes.ModeCall.{Share, Joined, TestDone, TestsBack, Died}
use Rattle.xd_run.specs.Books.{Books}
use Rattle.xd_run.specs.Workers.{is_shut, slot_of, waiting}
use Rattle.xd_run.specs.Stops.{is_stopped, is_shutting}
use Rattle.xd_run.specs.Sharing.{State}
use Rattle.xd_run.specs.State.{after_effect, after_entries, settles, settled}

-- a Shutdown for each active worker that was ready and to which none was sent, in order of worker numbers
abbrev pub shut_all : List Member → List Entry
shut_all ms = map (λ w. Shutdown w) (waiting ms)

-- the turn with which a call of the mode begins: nothing was said yet
abbrev pub turn_of : State → Turn
turn_of s = record { table = s.books.table; plan = s.plan; acts = [] }

-- what the mode says at this call
abbrev pub acts_of : ModeCall → State → List Entry
acts_of c s = (turned s.plan.mode c (turn_of s)).acts

-- a stop shuts all, after a stop nothing follows, and else this
abbrev pub unless_stopped : Books → Books → List Entry → List Entry
unless_stopped before now outs = if is_stopped before then [] else if is_stopped now then shut_all now.members else outs

-- the slots of the rota's workers, in rota order
abbrev pub slots_of_rota : Books → List ℕ
slots_of_rota b = map (λ w. slot_of w b) (workers_of b.table)

-- a worker joined: after the share the mode hears of it, and the last one that was missing brings the share
abbrev pub outputs_of_joining : ℕ → Books → State → List Entry
outputs_of_joining worker before s =
    if before.shared then acts_of (Joined worker (slot_of worker s.books)) s
    else if s.books.shared then acts_of (Share (slots_of_rota s.books)) s
    else []

-- the mode hears of a death after the share; then a new worker is started at the same slot
abbrev pub outputs_of_death : ℕ → State → List Entry
outputs_of_death worker s =
    (if s.books.shared then acts_of Died s else []) ++ Start (length s.books.members) (slot_of worker s.books) ∷ []

-- what the entry itself brings: s before it, and t after it
abbrev pub own_outputs : State → Entry → State → List Entry
own_outputs s (Ready worker) t = if is_shutting t.books then Shutdown worker ∷ [] else []
own_outputs s (Collected worker given) t = if is_shut worker s.books then [] else unless_stopped s.books t.books (outputs_of_joining worker s.books t)
own_outputs s (Done worker index outcome ms output) t = unless_stopped s.books t.books (acts_of (TestDone worker ms) t)
own_outputs s (Back worker indices) t = unless_stopped s.books t.books (acts_of TestsBack t)
own_outputs s (Refused worker text) t = unless_stopped s.books t.books []
own_outputs s (Down worker cause output) t = Kill worker ∷ unless_stopped s.books t.books (outputs_of_death worker t)
own_outputs s (NotStarted worker) t = unless_stopped s.books t.books (outputs_of_death worker t)
own_outputs s _ t = []

-- where nothing is left to hand out after it, all are shut
abbrev pub closing : State → List Entry
closing s = if not (is_shutting s.books) && settles s then shut_all s.books.members else []

-- what follows the input e after the state s
-- Example: gw0 of two dies with 0 and 2 in mode load, and gw1 waits: Kill gw0, Run gw1 with 2, Start gw2 at slot 0.
abbrev pub outputs : State → Entry → List Entry
outputs s e =
    let t = after_effect s e in
    let own = own_outputs s e t in
    own ++ closing (after_entries t own)

-- the state after the input and its outputs
abbrev pub after_input : State → Entry → State
after_input s e = settled (after_entries (after_effect s e) (outputs s e))
