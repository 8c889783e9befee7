-- Whole runs, in a mode that keeps its rule.
use Rattle.std.proofs.Common.{◌≡◌, ℕ, zero, suc, ◌+◌, ◌≤◌, List, [], ◌∷◌, ◌++◌, length, true, refl, ap, sym, ◌∙◌, subst, arith, length-append, not, ◌&&◌, inl, inr}
use Rattle.xd_journal.specs.declared.settings.Settings.{Settings}
use Rattle.xd_journal.specs.declared.entry.Entry.{Entry}
use Rattle.xd_journal.specs.declared.entry.Entry.TheVariants.{Start}
use Rattle.xd_run.specs.declared.member.Member.{Member}
use Rattle.xd_run.specs.Workers.{started}
use Rattle.xd_run.specs.Stops.{is_stopped}
use Rattle.xd_run.specs.Sharing.{State}
use Rattle.xd_run.specs.State.{settles, is_handed_out, after_effect, after_entries, settled, no_one}
use Rattle.xd_run.specs.Outputs.{outputs, after_input}
use Rattle.xd_run.specs.Histories.{starts_from, first_starts, after_starts, after_inputs}
use Rattle.xd_run.specs.Proper.{may_follow, all_may_follow}
use Rattle.xd_run.specs.Orderly.{is_orderly, is_orderly_run}
use Rattle.xd_run_laws.proofs.Logic.{split-or, differ, split-and, and}
use Rattle.xd_run_laws.proofs.Members.{has-member, none-next}
use Rattle.xd_run_laws.proofs.Placed.{Placed, placed-output}
use Rattle.xd_run_laws.proofs.MembersFit.{MembersFit, members-start}
use Rattle.xd_run_laws.proofs.Turns.{Calm, Tidy}
use Rattle.xd_run_laws.proofs.Rule.{Rule, calm-start}
use Rattle.xd_run_laws.proofs.Outputs.{outputs-fit}

-- the state is tidy, and this holds of it
pub record Holds (X : State → Type 0) (s : State) : Type 0 where
  pub tidy : Tidy s
  pub also : X s

calm-settled : (s : State) → Calm s → Calm (settled s)
calm-settled s c = record {
  late = λ h. elim (split-or s.books.shutting (settles s) h) [
    | inl k ↦ c.late k
    | inr k ↦ (split-and (not (is_stopped s.books)) s.books.shared (split-and (not (is_stopped s.books) && s.books.shared) (is_handed_out s.books.table s.plan) k).0).1
  ];
  unshut = c.unshut;
}

holds-settled : (X : State → Type 0) → Rule X → (s : State) → Tidy s → X s → Holds X (settled s)
holds-settled X rule s d x = record {
  tidy = record { placed = d.placed; members = d.members; calm = calm-settled s d.calm };
  also = rule.settled s x;
}

-- the first starts

pub placed-none : (settings : Settings) → Placed (no_one settings)
placed-none settings = record {
  fits = record { seats = λ w. omega arith; active = λ w h. absurd (differ h); ready = λ w h. absurd (differ h); collected = λ w h. absurd (differ h); marks = λ w h. refl };
  whole = λ x. refl;
  steals = tt;
}

members-none : MembersFit [] 0
members-none = record { numbered = refl; shut_ready = λ v h. absurd (differ h); apart = λ v w a b e. absurd (differ a); below = λ v h. absurd (differ h) }

calm-none : (settings : Settings) → Calm (no_one settings)
calm-none settings = record { late = λ h. absurd (differ h); unshut = λ a b v. refl }

members-wider : (ms : List Member) (n k : ℕ) → n ≤ k → MembersFit ms n → MembersFit ms k
members-wider ms n k h c = record { numbered = c.numbered; shut_ready = c.shut_ready; apart = c.apart; below = λ v m. (let b = c.below v m in omega (arith, h, b)) }

-- the slot of the next number is free where each slot is below it
members-next : (ms : List Member) (w : ℕ) → w ≡ length ms → MembersFit ms w → MembersFit (ms ++ started w w ∷ []) (w + 1)
members-next ms w e c = subst (λ (v : ℕ). MembersFit ms v → MembersFit (ms ++ started v v ∷ []) (v + 1)) (sym e)
    (λ k. members-start ms (length ms + 1) (length ms) (members-wider ms (length ms) (length ms + 1) (omega arith) k)
    (λ v a q. (let b = k.below v (has-member v (λ m. m.active) ms a) in omega (arith, b, q))) (omega arith)) c

orderly-start : (s : State) (w : ℕ) → w ≡ length s.books.members → MembersFit s.books.members w → is_orderly s (Start w w) ≡ true
orderly-start s w e c = subst (λ (v : ℕ). is_orderly s (Start v w) ≡ true) (sym e) (rw (none-next s.books.members c.numbered))

starts-hold : (X : State → Type 0) → Rule X → (s : State) (w n : ℕ) → w ≡ length s.books.members → w + n ≡ s.books.settings.workers → Placed s → MembersFit s.books.members w → Calm s → X s
    → Holds X (after_entries s (starts_from w n))
starts-hold X rule s w zero e l p c k x = record { tidy = record { placed = p; members = subst (λ (k : ℕ). MembersFit s.books.members k) (omega (arith, l)) c; calm = k }; also = x }
starts-hold X rule s w (suc n) e l p c k x =
    starts-hold X rule (after_effect s (Start w w)) (w + 1) n (ap (λ (k : ℕ). k + 1) e ∙ sym (length-append s.books.members (started w w ∷ []))) (omega (arith, l))
    (placed-output s (Start w w) (orderly-start s w e c) p) (members-next s.books.members w e c) (calm-start s w w k) (rule.start s w w x)

pub begun-holds : (X : State → Type 0) → Rule X → (settings : Settings) → X (no_one settings) → Holds X (after_starts settings)
begun-holds X rule settings x =
    let h = starts-hold X rule (no_one settings) 0 settings.workers refl (omega arith) (placed-none settings) members-none (calm-none settings) x in
    holds-settled X rule (after_entries (no_one settings) (first_starts settings)) h.tidy h.also

-- the inputs

pub after_input-holds : (X : State → Type 0) → Rule X → (s : State) (e : Entry) → may_follow s e ≡ true → Holds X s → Holds X (after_input s e)
after_input-holds X rule s e h k =
    let f = outputs-fit X rule s e h k.tidy k.also in
    holds-settled X rule (after_entries (after_effect s e) (outputs s e)) f.tidy f.also

pub all-hold : (X : State → Type 0) → Rule X → (s : State) (es : List Entry) → all_may_follow s es ≡ true → Holds X s → Holds X (after_inputs s es)
all-hold X rule s [] h k = k
all-hold X rule s (e ∷ es) h k =
    let p = split-and (may_follow s e) (all_may_follow (after_input s e) es) h in
    all-hold X rule (after_input s e) es p.1 (after_input-holds X rule s e p.0 k)

pub all-orderly : (X : State → Type 0) → Rule X → (s : State) (es : List Entry) → all_may_follow s es ≡ true → Holds X s → is_orderly_run s es ≡ true
all-orderly X rule s [] h k = refl
all-orderly X rule s (e ∷ es) h k =
    let p = split-and (may_follow s e) (all_may_follow (after_input s e) es) h in
    and (outputs-fit X rule s e p.0 k.tidy k.also).orderly (all-orderly X rule (after_input s e) es p.1 (after_input-holds X rule s e p.0 k))
