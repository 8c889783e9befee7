-- Links that are changed, and lists of links.
use Rattle.std.proofs.Common.{◌≡◌, ℕ, zero, suc, ◌<◌, ◌≤◌, List, [], ◌∷◌, length, get_or, refl, ap, subst, arith}
use Rattle.std.specs.Prelude.{slice_index_or}
use Rattle.std.proofs.Math.ListN.{set}
use Rattle.xd_link.specs.declared.starter.LinkRun.{LinkRun}
use Rattle.xd_memory.specs.declared.mem_source.MemSource.{MemSource}
use Rattle.xd_memory.specs.declared.mem_sink.MemSink.{MemSink}
use Rattle.xd_memory.specs.FreshPair.{IsFresh}
use Rattle.xd_link.specs.Starter.{link_changed}

pub link_changed_set : (k : ℕ) (f : LinkRun → LinkRun) (l : List LinkRun) (d : LinkRun) → k < length l → link_changed k f l ≡ set l k (f (get_or l k d))
link_changed_set k f [] d h = absurd (omega arith)
link_changed_set zero f (r ∷ rs) d h = refl
link_changed_set (suc k) f (r ∷ rs) d h = ap (λ (l : List LinkRun). r ∷ l) (link_changed_set k f rs d (omega arith))

pub link_changed_past : (k : ℕ) (f : LinkRun → LinkRun) (l : List LinkRun) → length l ≤ k → link_changed k f l ≡ l
link_changed_past k f [] h = refl
link_changed_past zero f (r ∷ rs) h = absurd (omega arith)
link_changed_past (suc k) f (r ∷ rs) h = ap (λ (l : List LinkRun). r ∷ l) (link_changed_past k f rs (omega arith))

-- the links after a fresh one are fresh
pub rest_fresh : (l rest : List (MemSource × MemSink)) (x : MemSource × MemSink) → l ≡ x ∷ rest
    → ((k : ℕ) (d : MemSource × MemSink) → k < length l → IsFresh (slice_index_or l k d).0 (slice_index_or l k d).1)
    → (k : ℕ) (d : MemSource × MemSink) → k < length rest → IsFresh (slice_index_or rest k d).0 (slice_index_or rest k d).1
rest_fresh l rest x e h k d lt = let g : (i : ℕ) (y : MemSource × MemSink) → i < length (x ∷ rest) → IsFresh (slice_index_or (x ∷ rest) i y).0 (slice_index_or (x ∷ rest) i y).1 = subst (λ (m : List (MemSource × MemSink)). (i : ℕ) (y : MemSource × MemSink) → i < length m → IsFresh (slice_index_or m i y).0 (slice_index_or m i y).1) e h in g (suc k) d (omega arith)
