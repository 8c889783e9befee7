use Rattle.std.proofs.Common.{◌≡◌, ℕ, zero, suc, ◌+◌, ◌++◌, ◌∷◌, [], List, sym, ap, ◌∙◌, arith, add-one, zero-add}
use Rattle.std.specs.List.{range_with_len}
use Rattle.xd_worker_tests.proofs.run_tests.RunTests.all_tests.Goals as goal

longer : (a n : ℕ) → range_with_len a (suc n) ≡ range_with_len a n ++ (a + n) ∷ []
longer a zero = ap (λ (x : ℕ). x ∷ []) (omega arith)
longer a (suc n) = ap (λ (l : List ℕ). a ∷ l) (longer (a + 1) n ∙ ap (λ (x : ℕ). range_with_len (a + 1) n ++ x ∷ []) (omega arith))

pub loop-test-preserved : goal.loop-test-preserved
loop-test-preserved c =
    c.in_ok-push.ensures.items ∙ ap (λ (l : List ℕ). l ++ c.loop-test.test ∷ []) c.loop-test.invariant
    ∙ sym (ap (range_with_len 0) (add-one c.loop-test.test) ∙ longer 0 c.loop-test.test ∙ ap (λ (x : ℕ). range_with_len 0 c.loop-test.test ++ x ∷ []) (zero-add c.loop-test.test))
