-- The first unit of a queue that is in the pool, and the rest of it.
use Rattle.std.proofs.Common.{◌≡◌, ℕ, List, [], ◌∷◌, true, false, not, refl, subst, arith}
use Rattle.std.proofs.lemmas.Bool.Decides.{nat_tests}
use Rattle.xd_run.specs.Numbers.{among, without, all_among, all_distinct}
use Rattle.xd_run.specs.Suits.{AreInPool, tests_of_units}
use Rattle.xd_ledger.proofs.Lists.{among-filter, apart, distinct-back, distinct-front, within-back, within-front}

pub left-within : (c a ys : List ℕ) → all_among c ys ≡ true → ((x : ℕ) → among x c ≡ true → among x a ≡ false) → all_among c (without a ys) ≡ true
left-within [] a ys h k = refl
left-within (x ∷ xs) a ys h k =
    let p : among x a ≡ false = k x (grind (arith, nat_tests)) in
    let q = left-within xs a ys (grind (arith, nat_tests)) (λ z i. k z (grind (arith, nat_tests))) in
    let r = among-filter x (λ y. not (among y a)) ys in
    grind (arith, nat_tests)

pub rest-in_pool : (u : List ℕ) (us : List (List ℕ)) (pool : List ℕ) → AreInPool (u ∷ us) pool → AreInPool us (without u pool)
rest-in_pool u us pool f = record {
  distinct = distinct-back u (tests_of_units us) f.distinct;
  within = left-within (tests_of_units us) u pool (within-back u (tests_of_units us) pool f.within) (λ x i. apart x u (tests_of_units us) f.distinct i);
  filled = grind (arith, f.filled);
}

-- the unit may be handed out
pub record IsNext (u : List ℕ) (us : List (List ℕ)) (pool : List ℕ) : Type 0 where
  pub distinct : all_distinct u ≡ true
  pub within : all_among u pool ≡ true
  pub rest : AreInPool us (without u pool)

pub is-next : (q : List (List ℕ)) (u : List ℕ) (us : List (List ℕ)) (pool : List ℕ) → q ≡ u ∷ us → AreInPool q pool → IsNext u us pool
is-next q u us pool e f =
    let g = subst (λ (vs : List (List ℕ)). AreInPool vs pool) e f in
    record {
      distinct = distinct-front u (tests_of_units us) g.distinct;
      within = within-front u (tests_of_units us) pool g.within;
      rest = rest-in_pool u us pool g;
    }
