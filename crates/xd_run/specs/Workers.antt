-- The workers of a run, and their marks. pytest-xdist's DSession keeps the active ones in `_active_nodes`.
use Rattle.std.specs.Prelude.{ℕ, ◌==◌, Bool, true, false, not, ◌&&◌, ◌||◌, List, [], ◌∷◌, ◌++◌, map, filter, if◌then◌else◌}
use Rattle.std.specs.List.{list_any}
use Rattle.xd_run.specs.declared.member.Mark.{Mark}
use Rattle.xd_run.specs.declared.member.Mark.TheVariants.{Ready, Collected, Shut, Gone}
use Rattle.xd_run.specs.declared.member.Member.{Member}
use Rattle.xd_run.specs.Books.{Books}

-- the worker was started, and this is so of it
abbrev pub has_member : ℕ → (Member → Bool) → Books → Bool
has_member worker test b = list_any (λ m. m.worker == worker && test m) b.members

-- the worker was started, and has neither finished nor gone
abbrev pub is_active : ℕ → Books → Bool
is_active worker b = has_member worker (λ m. m.active) b

-- the worker said that it is ready
abbrev pub was_ready : ℕ → Books → Bool
was_ready worker b = has_member worker (λ m. m.ready) b

-- the worker gave its collection
abbrev pub has_collected : ℕ → Books → Bool
has_collected worker b = has_member worker (λ m. m.collected) b

-- the worker was told to shut down
abbrev pub is_shut : ℕ → Books → Bool
is_shut worker b = has_member worker (λ m. m.shut) b

-- some worker is active
abbrev pub some_active : Books → Bool
some_active b = list_any (λ m. m.active) b.members

-- the worker's slot
abbrev pub slot_in : ℕ → List Member → ℕ
slot_in worker [] = 0
slot_in worker (m ∷ ms) = if m.worker == worker then m.slot else slot_in worker ms

-- the slot of the worker, or 0 where it was not started
abbrev pub slot_of : ℕ → Books → ℕ
slot_of worker b = slot_in worker b.members

-- a new worker
abbrev pub started : ℕ → ℕ → Member
started worker slot = record { worker = worker; slot = slot; active = true; ready = false; collected = false; shut = false }

-- the new worker is noted, and there is work for it
abbrev pub begun_at : ℕ → ℕ → Books → Books
begun_at worker slot b = record b { members = b.members ++ started worker slot ∷ []; shutting = false }

-- the member, which is ready where it is the worker
abbrev pub made_ready : ℕ → Member → Member
made_ready worker m = record m { ready = m.ready || (m.worker == worker) }

-- the member, which has collected where it is the worker
abbrev pub made_collected : ℕ → Member → Member
made_collected worker m = record m { collected = m.collected || (m.worker == worker) }

-- the member, which was told to shut down where it is the worker
abbrev pub made_shut : ℕ → Member → Member
made_shut worker m = record m { shut = m.shut || (m.worker == worker) }

-- the member, which is active no more where it is the worker
abbrev pub made_gone : ℕ → Member → Member
made_gone worker m = record m { active = m.active && not (m.worker == worker) }

-- the member with the mark, where it is the worker
abbrev pub made : Mark → ℕ → Member → Member
made Ready worker m = made_ready worker m
made Collected worker m = made_collected worker m
made Shut worker m = made_shut worker m
made Gone worker m = made_gone worker m

-- active, ready, and not yet told to shut down
abbrev pub is_waiting : Member → Bool
is_waiting m = m.active && m.ready && not m.shut

-- the workers of which that is so, in order of their numbers
abbrev pub waiting : List Member → List ℕ
waiting ms = map (λ m. m.worker) (filter is_waiting ms)
