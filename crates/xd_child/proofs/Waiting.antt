-- A program that was waited for.
use Rattle.std.proofs.Common.{◌≡◌, ℕ, ◌≤◌, List, Bool, true, false, Option, Some, None, refl, ap, sym, ◌∙◌, arith}
use Rattle.xd_edge.specs.declared.children.ChildEnd.{ChildEnd}
use Rattle.xd_edge.specs.declared.children.Fate.TheVariants.{Ended, NotWaited}
use Rattle.xd_edge.specs.Children.{ChildRun, ChangesRun, with_end, with_wait_fault}
use Rattle.xd_edge.specs.Faults.{Counted, RoseBy}
use Rattle.xd_journal.specs.declared.entry.Outcome.{Outcome}
use Rattle.xd_journal.specs.declared.entry.Outcome.TheVariants.{Passed, Skipped, Failed}
use Rattle.xd_child.specs.Ending.{Waited, fault_count, outcome_of_end}
use lib.IntN.{negsuc}

unread : (place : ℕ) (outcome : Outcome) (old new : Option (List ChildRun)) → Waited false place outcome old new → fault_count outcome ≡ 1
unread place Passed old new w = let e = w.outcome_is in cc
unread place Skipped old new w = let e = w.outcome_is in cc
unread place (Failed code) old new w = sym (ap count w.outcome_is)
  where
    count : Option Outcome → ℕ
    count (Some o) = fault_count o
    count None = 0

-- what the wait told
module _ (place : ℕ) (old new : Option (List ChildRun)) where
  pub by_fault : (whole : Bool) → ChangesRun place with_wait_fault old new → Waited whole place (Failed (negsuc 2)) old new
  by_fault true c = record { last = NotWaited; outcome_is = refl; changes = c }
  by_fault false c = record { last = NotWaited; outcome_is = refl; changes = c }

  pub by_end : (whole : Bool) (end : ChildEnd) → whole ≡ true → ChangesRun place (with_end end) old new → Waited whole place (outcome_of_end end) old new
  by_end true end e c = record { last = Ended end; outcome_is = refl; changes = c }
  by_end false end e c = cc

  pub by_end_unread : (whole : Bool) (end : ChildEnd) → whole ≡ false → ChangesRun place (with_end end) old new → Waited whole place (Failed (negsuc 2)) old new
  by_end_unread true end e c = cc
  by_end_unread false end e c = record { last = Ended end; outcome_is = refl; changes = c }

-- how often the count of faults rose from the start of a program to its end
pub faults_to_end : (whole : Bool) (place : ℕ) (outcome : Outcome) (old new : Option (List ChildRun)) (first read now : ℕ) → Waited whole place outcome old new → Counted whole first read → read ≤ now
    → (whole ≡ true → RoseBy (fault_count outcome) read now) → RoseBy (fault_count outcome) first now
faults_to_end true place outcome old new first read now w count later waited = λ below. let x = waited refl below in omega (arith, count.later, x)
faults_to_end false place outcome old new first read now w count later waited = λ below.
    let x = count.rose refl (omega (arith, below, later)) in
    let e = unread place outcome old new w in
    omega (arith, x, later, e)

-- from the start of a program to its end, where its outcome stands for no fault
pub still_to_end : (whole : Bool) (place : ℕ) (outcome : Outcome) (old new : Option (List ChildRun)) (first read now : ℕ) → Waited whole place outcome old new → Counted whole first read
    → (fault_count outcome ≡ 0 → now ≡ read) → fault_count outcome ≡ 0 → now ≡ first
still_to_end true place outcome old new first read now w count waited none = waited none ∙ count.still refl
still_to_end false place outcome old new first read now w count waited none = let e = unread place outcome old new w in absurd (omega (arith, e, none))
