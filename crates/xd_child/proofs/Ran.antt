-- A start, and what became of it.
use Rattle.std.proofs.Common.{◌≡◌, ℕ, ◌+◌, ◌-◌, ◌≤◌, min, List, [], ◌++◌, take, length, Option, Some, None, option_map, refl, sym, ◌∙◌, ap, arith, append_assoc}
use Rattle.std.proofs.lemmas.List.{append-nil}
use Rattle.std.proofs.Math.Seq.{take-append-add}
use Rattle.std.proofs.lemmas.Grind.{common_steps}
use Rattle.std.specs.Prelude.{Bool, true, false}
use Rattle.std.specs.Bool.{OnTrue, OnFalse}
use Rattle.xd_edge.specs.Children.{ChildRun, AddsRun, ChangesRun, IsNext, change_at, not_started, running, with_last, with_output, with_read_fault}
use Rattle.xd_edge.proofs.ChildLemmas.{change_at_end, change_at_not, change_at_twice}
use Rattle.xd_child.specs.Ending.{Waited}
use Rattle.xd_child.specs.Running.{RanChildFirst, Drained, DrainedPart, RanChild}
use Rattle.xd_journal.specs.declared.entry.Outcome.{Outcome}
use Rattle.xd_journal.specs.declared.entry.Outcome.TheVariants.{Passed, Skipped, Failed}
use Rattle.xd_journal.specs.Kept.{kept_of}
use lib.IntN.{negsuc}

module _ (k : ℕ) (f : ChildRun → ChildRun) (run : ChildRun) where
  pub changed : (old mid new : Option (List ChildRun)) → IsNext k old → AddsRun run old mid → ChangesRun k f mid new → AddsRun (f run) old new
  changed None mid new next added changes = changes ∙ ap (option_map (change_at k f)) added
  changed (Some l) mid new next added changes = changes ∙ ap (option_map (change_at k f)) added ∙ ap Some (change_at_end f l run k next)

module _ (args : List (List ℕ)) (room k : ℕ) (first : List ℕ) (old mid : Option (List ChildRun)) (next : IsNext k old) (added : AddsRun (running args) old mid) where
  then_changed : (f g : ChildRun → ChildRun) (read new : Option (List ChildRun)) → ChangesRun k f mid read → ChangesRun k g read new → AddsRun (g (f (running args))) old new
  then_changed f g read new a b = changed k g (f (running args)) old read new next (changed k f (running args) old mid read next added a) b

  -- read to its end, or else until a read failed, and waited for
  pub came_to : (whole : Bool) (outcome : Outcome) (read new : Option (List ChildRun)) → OnTrue whole (Drained room k first mid read) → OnFalse whole (DrainedPart room k first mid read) → Waited whole k outcome read new → RanChildFirst args room (record { outcome = outcome; output = first }) old new
  came_to true outcome read new d part w = record {
    run = with_last w.last (with_output d.gave (running args));
    args_are = refl;
    came_to = w.outcome_is;
    first_is = d.kept_is;
    added = then_changed (with_output d.gave) (with_last w.last) read new d.changes w.changes;
  }
  came_to false outcome read new whole d w = record {
    run = with_last w.last (with_read_fault (with_output d.gave (running args)));
    args_are = refl;
    came_to = w.outcome_is;
    first_is = d.kept_is;
    added = then_changed (λ run. with_read_fault (with_output d.gave run)) (with_last w.last) read new d.changes w.changes;
  }

-- never started
pub never_started : (args : List (List ℕ)) (room : ℕ) (first : List ℕ) (old new : Option (List ChildRun)) → first ≡ [] → AddsRun (not_started args) old new → RanChildFirst args room (record { outcome = Failed (negsuc 1); output = first }) old new
never_started args room first old new none added = record { run = not_started args; args_are = refl; came_to = refl; first_is = none ∙ grind (arith, common_steps); added = added }

-- what is kept of it
pub kept : (args : List (List ℕ)) (room : ℕ) (o : Outcome) (first bytes : List ℕ) (old new : Option (List ChildRun)) → RanChildFirst args room (record { outcome = o; output = first }) old new → ((r : ℕ) → length first ≤ r → bytes ≡ kept_of o r first) → RanChild args room (record { outcome = o; output = bytes }) old new
kept args room o first bytes old new c k = record { run = c.run; args_are = c.args_are; came_to = c.came_to; kept_is = by_outcome o k; added = c.added }
  where
    short : length first ≤ room
    short = let l = ap length c.first_is in grind (arith, common_steps)

    again : take room first ≡ take room c.run.output
    again = let e = c.first_is in grind (arith, common_steps)

    by_outcome : (o : Outcome) → ((r : ℕ) → length first ≤ r → bytes ≡ kept_of o r first) → bytes ≡ kept_of o room c.run.output
    by_outcome Passed k = k room short
    by_outcome Skipped k = k room short
    by_outcome (Failed s) k = k room short ∙ again

-- nothing was read yet
pub nothing_drained : (room place : ℕ) (runs : Option (List ChildRun)) → Drained room place [] runs runs
nothing_drained room place None = record { gave = []; kept_is = grind (arith, common_steps); changes = refl }
nothing_drained room place (Some l) = record { gave = []; kept_is = grind (arith, common_steps); changes = ap Some (sym (change_at_not place (with_output []) l (λ r. no_more r))) }
  where
    no_more : (r : ChildRun) → with_output [] r ≡ r
    no_more r = ap (λ (l : List ℕ). record r { output = l }) (append-nil r.output)

changes_twice : (place : ℕ) (f g h : ChildRun → ChildRun) (old mid new : Option (List ChildRun)) → ((r : ChildRun) → f (g r) ≡ h r) → ChangesRun place g old mid → ChangesRun place f mid new → ChangesRun place h old new
changes_twice place f g h None mid new e a b = b ∙ ap (option_map (change_at place f)) a
changes_twice place f g h (Some l) mid new e a b = b ∙ (ap (option_map (change_at place f)) a ∙ ap Some (change_at_twice place f g h l e))

more_output : (a b : List ℕ) (r : ChildRun) → with_output b (with_output a r) ≡ with_output (a ++ b) r
more_output a b r = ap (λ (l : List ℕ). record r { output = l }) (append_assoc r.output a b)

-- some bytes more
pub drained_more : (room place : ℕ) (kept now more : List ℕ) (old mid new : Option (List ChildRun)) → Drained room place kept old mid → ChangesRun place (with_output more) mid new → now ≡ take room (kept ++ more) → Drained room place now old new
drained_more room place kept now more old mid new d changes is = record {
  gave = d.gave ++ more;
  kept_is = is ∙ (let e = d.kept_is in grind (arith, common_steps));
  changes = changes_twice place (with_output more) (with_output d.gave) (with_output (d.gave ++ more)) old mid new (more_output d.gave more) d.changes changes;
}

pub drained_end : (room place : ℕ) (kept more : List ℕ) (old mid new : Option (List ChildRun)) → Drained room place kept old mid → more ≡ [] → ChangesRun place (with_output more) mid new → Drained room place kept old new
drained_end room place kept more old mid new d none changes = drained_more room place kept kept more old mid new d changes (let e = d.kept_is in grind (arith, common_steps))

pub drained_part : (room place : ℕ) (kept : List ℕ) (old mid new : Option (List ChildRun)) → Drained room place kept old mid → ChangesRun place with_read_fault mid new → DrainedPart room place kept old new
drained_part room place kept old mid new d changes = record {
  gave = d.gave;
  kept_is = d.kept_is;
  changes = changes_twice place with_read_fault (with_output d.gave) (λ run. with_read_fault (with_output d.gave run)) old mid new (λ r. refl) d.changes changes;
}

-- the first bytes, as far as there is room
pub kept_front : (old bytes : List ℕ) (room count i : ℕ) → length old ≤ room → count ≡ min (length bytes) (room - length old) → i ≡ count → old ++ take i bytes ≡ take room (old ++ bytes)
kept_front old bytes room count i low is at =
    let split : length old + (room - length old) ≡ room = omega arith in
    let few : take i bytes ≡ take (room - length old) bytes = grind (arith, common_steps) in
    ap (λ (l : List ℕ). old ++ l) few ∙ (sym (take-append-add old bytes (room - length old)) ∙ ap (λ (n : ℕ). take n (old ++ bytes)) split)

pub kept_short : (room : ℕ) (kept all : List ℕ) → kept ≡ take room all → length kept ≤ room
kept_short room kept all e = let l = ap length e in grind (arith, common_steps)
