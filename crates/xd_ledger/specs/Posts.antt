-- The seats that the ledger's own posts stand for, and when the ledger is in order.
use Rattle.std.specs.Prelude.{ℕ, zero, suc, ◌≤◌, ◌<◌, ◌==◌, Bool, List, [], ◌∷◌, ◌++◌, drop, map, if◌then◌else◌}
use Rattle.xd_ledger.specs.declared.post.Post.{Post}
use Rattle.xd_run.specs.declared.seat.Seat.{Seat}
use Rattle.xd_ledger.specs.Chains.{Lists, chain_at, chains_of, changed}
use Rattle.xd_run.specs.Numbers.{times}
use Rattle.xd_ledger.specs.Sound.{IsSound}
use Rattle.xd_run.specs.Table.{Table, retried_item}

-- the seat that a post stands for: the worker holds what its list has
abbrev pub seat_of : (ℕ → List ℕ) → Post → Seat
seat_of lists q = record { worker = q.worker; held = lists q.chain; shut = q.shut }

-- the seats that these posts stand for, in rota order
abbrev pub seats : (ℕ → List ℕ) → List Post → List Seat
seats lists posts = map (seat_of lists) posts

-- the numbers of the posts' lists, in rota order
abbrev pub chains_in : List Post → List ℕ
chains_in posts = map (λ q. q.chain) posts

-- the list of what the worker holds; 0, the pool's, where it has no post
abbrev pub chain_in : ℕ → List Post → ℕ
chain_in worker [] = 0
chain_in worker (q ∷ posts) = if q.worker == worker then q.chain else chain_in worker posts

-- the worker's place, or the length of the rota
abbrev pub place_in : ℕ → List Post → ℕ
place_in worker [] = zero
place_in worker (q ∷ posts) = if q.worker == worker then zero else suc (place_in worker posts)

-- the table that the lists and the posts stand for; list 0 is the pool
abbrev pub table_of : (ℕ → List ℕ) → List Post → List ℕ → List ℕ → Table
table_of lists posts reported who_joined = record { pool = lists 0; rota = seats lists posts; reported = reported; who_joined = who_joined }

-- the lists once the first item of list k has left it: to the pool's front, where it is tried again
abbrev pub released : Bool → ℕ → (ℕ → List ℕ) → ℕ → List ℕ
released retry k lists = changed 0 (retried_item retry (lists k) ++ lists 0) (changed k (drop 1 (lists k)) lists)

-- the table is sound, and each post has a list of its own after the pool's
pub record IsKept (l : Lists) (posts : List Post) (reported who_joined : List ℕ) (room : ℕ) : Type 0 where
  pub sound : IsSound (table_of (chain_at l) posts reported who_joined) room
  pub pool_there : 0 < chains_of l
  pub once : (k : ℕ) → times k (chains_in posts) ≤ 1
  pub known : (k : ℕ) → 1 ≤ times k (chains_in posts) → (0 < k) × (k < chains_of l)
