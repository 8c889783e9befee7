-- No bytes are both a suite file and faulty.
use Rattle.std.proofs.Common.{◌≡◌, ℕ, inl, inr, List, Option, Some, None, sym, ◌∙◌, ap, arith}
use Rattle.std.specs.Prelude.{unwrap_or}
use Rattle.toml.specs.Data.{Members, no_members}
use Rattle.xd_suite.specs.declared.fault.SuiteFault.{SuiteFault}
use Rattle.xd_suite.specs.declared.test.Test.{Test}
use Rattle.xd_suite.specs.Faults.{broken_rule}
use Rattle.xd_suite.specs.Suite.{IsFaulty, IsSuiteOf}

pub not_both : (bytes : List ℕ) (fault : SuiteFault) (tests : List Test) → IsFaulty bytes fault → IsSuiteOf bytes tests → ⊥
not_both bytes fault tests (inl large) s = let small = s.toml.small in let more = large.0 in omega (arith, small, more)
not_both bytes fault tests (inr (inl other)) s = let none = other.0.not_toml s.toml.utf8 in let some = s.toml.parsed in absurd (cc)
not_both bytes fault tests (inr (inr has)) s =
    let same : has.members ≡ s.members = ap (λ (o : Option Members). unwrap_or o no_members) (sym has.toml.parsed ∙ s.toml.parsed) in
    let contrary : Some fault ≡ None = sym has.first ∙ ap broken_rule same ∙ s.good in
    absurd (cc)
