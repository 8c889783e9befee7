-- Where each item of a run stands: in the pool, held by a worker, or reported; and the moves between these places.
-- An item is a test, in mode each a test of one slot. A worker joins the rota with its collection, and has a seat there
-- until it finishes or goes down. pytest-xdist keeps the pool in `pending` and what a worker holds in `node2pending`; that
-- reported items are kept is a choice of this project.
use Rattle.std.specs.Prelude.{ℕ, ◌==◌, Bool, true, false, not, List, [], ◌∷◌, ◌++◌, take, drop, map, filter, if◌then◌else◌}
use Rattle.std.specs.List.{list_any}
use Rattle.xd_run.specs.declared.seat.Seat.{Seat}
use Rattle.xd_run.specs.Numbers.{among, without}

-- where the items of a run stand, and who joined its rota
pub record Table : Type 0 where
  pub pool : List ℕ  -- the next one first
  pub rota : List Seat  -- in order of joining
  pub reported : List ℕ
  pub who_joined : List ℕ  -- whoever joined the rota, in order

-- who is in the rota, in order of joining
abbrev pub workers_of : Table → List ℕ
workers_of t = map (λ s. s.worker) t.rota

-- the worker is in the rota: it joined and has not left
abbrev pub in_rota : ℕ → Table → Bool
in_rota worker t = list_any (λ s. s.worker == worker) t.rota

-- the worker joined, also where it has left
abbrev pub has_joined : ℕ → Table → Bool
has_joined worker t = among worker t.who_joined

-- the worker of the rota was told to shut down
abbrev pub seat_shut : ℕ → Table → Bool
seat_shut worker t = list_any (λ s. if s.worker == worker then s.shut else false) t.rota

-- what the worker holds in these seats: nothing where it has none
abbrev pub held_in : ℕ → List Seat → List ℕ
held_in worker [] = []
held_in worker (s ∷ ss) = if s.worker == worker then s.held else held_in worker ss

-- what the worker holds, its head first
abbrev pub held : ℕ → Table → List ℕ
held worker t = held_in worker t.rota

-- what all of them hold
abbrev pub held_by_all : List Seat → List ℕ
held_by_all [] = []
held_by_all (s ∷ ss) = s.held ++ held_by_all ss

-- the items of all three places
abbrev pub all_items : Table → List ℕ
all_items t = t.pool ++ (held_by_all t.rota ++ t.reported)

-- the seats with the worker's changed
abbrev pub at_seat : ℕ → (Seat → Seat) → List Seat → List Seat
at_seat worker change ss = map (λ s. if s.worker == worker then change s else s) ss

-- the seats but for the worker's
abbrev pub without_seat : ℕ → List Seat → List Seat
without_seat worker ss = filter (λ s. not (s.worker == worker)) ss

-- these items in the pool, and nobody there
abbrev pub fresh_table : List ℕ → Table
fresh_table pool = record { pool = pool; rota = []; reported = []; who_joined = [] }

-- the worker joins the rota at its end
abbrev pub joined : ℕ → Table → Table
joined worker t = record t { rota = t.rota ++ record { worker = worker; held = []; shut = false } ∷ []; who_joined = t.who_joined ++ worker ∷ [] }

-- the items go from the pool to the end of what the worker holds
abbrev pub assigned : ℕ → List ℕ → Table → Table
assigned worker items t = record t { pool = without items t.pool; rota = at_seat worker (λ s. record s { held = s.held ++ items }) t.rota }

-- the item that the worker held is reported
abbrev pub completed : ℕ → ℕ → Table → Table
completed worker item t = record t { rota = at_seat worker (λ s. record s { held = without (item ∷ []) s.held }) t.rota; reported = t.reported ++ item ∷ [] }

-- the items that the worker held go to the pool's end
abbrev pub given_back : ℕ → List ℕ → Table → Table
given_back worker items t = record t { pool = t.pool ++ items; rota = at_seat worker (λ s. record s { held = without items s.held }) t.rota }

-- the worker leaves the rota
abbrev pub left_rota : ℕ → Table → Table
left_rota worker t = record t { rota = without_seat worker t.rota }

-- the first of these items of a worker that went down, where it is tried again
abbrev pub retried_item : Bool → List ℕ → List ℕ
retried_item retry items = if retry then take 1 items else []

-- the first of these items, where it is not tried again and so is reported: pytest-xdist's crash item
abbrev pub crash_item : Bool → List ℕ → List ℕ
crash_item retry items = if retry then [] else take 1 items

-- the worker's head is reported, or comes to the pool's front where it is tried again; what it held after it goes to
-- the pool's end, and it leaves the rota
-- Example: gw0 holds 0 and 2 and dies: 0 is reported, 2 goes to the end of the pool; a retry takes 0 to its front.
abbrev pub died : ℕ → Bool → Table → Table
died worker retry t = record t {
  pool = retried_item retry (held worker t) ++ (t.pool ++ drop 1 (held worker t));
  rota = without_seat worker t.rota;
  reported = t.reported ++ crash_item retry (held worker t);
}

-- the worker is told to shut down
abbrev pub shut_down : ℕ → Table → Table
shut_down worker t = record t { rota = at_seat worker (λ s. record s { shut = true }) t.rota }
