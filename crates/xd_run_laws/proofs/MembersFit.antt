-- The numbers, slots and marks of the workers, whatever happens to one of them.
use Rattle.std.proofs.Common.{◌≡◌, ℕ, ◌<◌, List, [], ◌∷◌, ◌++◌, length, map, Bool, true, false, not, ◌&&◌, ◌||◌, refl, ap, sym, ◌∙◌, subst, arith, inl, inr}
use Rattle.std.specs.Prelude.{if◌then◌else◌, ◌==◌, ◌⊎◌}
use Rattle.std.proofs.lemmas.Bool.Decides.{nat_tests}
use Rattle.xd_run.specs.declared.member.Member.{Member}
use Rattle.xd_run.specs.Workers.{slot_in, started, made_ready, made_collected, made_shut, made_gone}
use Rattle.xd_run_laws.proofs.Logic.{differ, cases_of, split-and, not_true, or-left}
use Rattle.xd_run_laws.proofs.Members.{has, is_member, has-member, has-same, has-set, has-kept, has-cleared, has-more, numbers, Numbered, numbers-marked, numbered-same, numbered-more, length-numbers, none-next}

-- slots

pub slot-marked : (v : ℕ) (change : Member → Member) (ms : List Member) → ((m : Member) → (change m).worker ≡ m.worker) → ((m : Member) → (change m).slot ≡ m.slot)
    → slot_in v (map change ms) ≡ slot_in v ms
slot-marked v change [] a b = refl
slot-marked v change (m ∷ ms) a b = grind (arith, nat_tests, slot-marked v change ms a b, a m, b m)

pub slot-old : (v : ℕ) (ms : List Member) (m : Member) → is_member v ms ≡ true → slot_in v (ms ++ m ∷ []) ≡ slot_in v ms
slot-old v [] m h = absurd (differ h)
slot-old v (x ∷ ms) m h = grind (arith, nat_tests, slot-old v ms m)

pub slot-new : (v : ℕ) (ms : List Member) (m : Member) → is_member v ms ≡ false → (m.worker == v) ≡ true → slot_in v (ms ++ m ∷ []) ≡ m.slot
slot-new v [] m h k = grind (arith, nat_tests)
slot-new v (x ∷ ms) m h k = grind (arith, nat_tests, slot-new v ms m)

-- no active worker has the slot
abbrev pub IsFree : ℕ → List Member → Type 0
IsFree slot ms = (v : ℕ) → has v (λ m. m.active) ms ≡ true → slot_in v ms ≡ slot → ⊥

-- workers are numbered in order, whoever was told to shut down was ready, and each slot below the limit has at most one
-- active worker
pub record MembersFit (ms : List Member) (limit : ℕ) : Type 0 where
  pub numbered : Numbered ms
  pub shut_ready : (v : ℕ) → has v (λ m. m.shut) ms ≡ true → has v (λ m. m.ready) ms ≡ true
  pub apart : (v w : ℕ) → has v (λ m. m.active) ms ≡ true → has w (λ m. m.active) ms ≡ true → slot_in v ms ≡ slot_in w ms → v ≡ w
  pub below : (v : ℕ) → is_member v ms ≡ true → slot_in v ms < limit

-- a change that keeps numbers, slots, who is active and who has collected
pub record Kin (ms ns : List Member) : Type 0 where
  pub numbers_same : numbers ns ≡ numbers ms
  pub slots_same : (v : ℕ) → slot_in v ns ≡ slot_in v ms
  pub active_same : (v : ℕ) → has v (λ m. m.active) ns ≡ has v (λ m. m.active) ms
  pub collected_same : (v : ℕ) → has v (λ m. m.collected) ns ≡ has v (λ m. m.collected) ms

pub kin-same : (ms : List Member) → Kin ms ms
kin-same ms = record { numbers_same = refl; slots_same = λ v. refl; active_same = λ v. refl; collected_same = λ v. refl }

pub kin-then : (ms ns os : List Member) → Kin ms ns → Kin ns os → Kin ms os
kin-then ms ns os a b = record {
  numbers_same = b.numbers_same ∙ a.numbers_same;
  slots_same = λ v. b.slots_same v ∙ a.slots_same v;
  active_same = λ v. b.active_same v ∙ a.active_same v;
  collected_same = λ v. b.collected_same v ∙ a.collected_same v;
}

pub kin-shut : (w : ℕ) (ms : List Member) → Kin ms (map (made_shut w) ms)
kin-shut w ms = record {
  numbers_same = numbers-marked (made_shut w) ms (λ m. refl);
  slots_same = λ v. slot-marked v (made_shut w) ms (λ m. refl) (λ m. refl);
  active_same = λ v. has-same v (λ m. m.active) (made_shut w) ms (λ m. refl) (λ m. refl);
  collected_same = λ v. has-same v (λ m. m.collected) (made_shut w) ms (λ m. refl) (λ m. refl);
}

pub kin-length : (ms ns : List Member) → Kin ms ns → length ns ≡ length ms
kin-length ms ns k = sym (length-numbers ns) ∙ ap length k.numbers_same ∙ length-numbers ms

pub kin-free : (slot : ℕ) (ms ns : List Member) → Kin ms ns → IsFree slot ms → IsFree slot ns
kin-free slot ms ns k f = λ v a e. f v (sym (k.active_same v) ∙ a) (sym (k.slots_same v) ∙ e)

-- marks

member-marked : (v : ℕ) (change : Member → Member) (ms : List Member) → ((m : Member) → (change m).worker ≡ m.worker) → is_member v (map change ms) ≡ is_member v ms
member-marked v change ms a = has-same v (λ m. true) change ms a (λ m. refl)

pub members-ready : (ms : List Member) (n w : ℕ) → MembersFit ms n → MembersFit (map (made_ready w) ms) n
members-ready ms n w c =
    let f = made_ready w in
    let active : (v : ℕ) → has v (λ m. m.active) (map f ms) ≡ has v (λ m. m.active) ms = λ v. has-same v (λ m. m.active) f ms (λ m. refl) (λ m. refl) in
    let slot : (v : ℕ) → slot_in v (map f ms) ≡ slot_in v ms = λ v. slot-marked v f ms (λ m. refl) (λ m. refl) in
    record {
      numbered = numbered-same ms (map f ms) (numbers-marked f ms (λ m. refl)) c.numbered;
      shut_ready = λ v h. has-kept v w (λ m. m.ready) f ms (λ m. refl) (λ m. refl) (c.shut_ready v (sym (has-same v (λ m. m.shut) f ms (λ m. refl) (λ m. refl)) ∙ h));
      apart = λ v u a b e. c.apart v u (sym (active v) ∙ a) (sym (active u) ∙ b) (sym (slot v) ∙ e ∙ slot u);
      below = λ v h. subst (λ (x : ℕ). x < n) (sym (slot v)) (c.below v (sym (member-marked v f ms (λ m. refl)) ∙ h));
    }

pub members-collected : (ms : List Member) (n w : ℕ) → MembersFit ms n → MembersFit (map (made_collected w) ms) n
members-collected ms n w c =
    let f = made_collected w in
    let active : (v : ℕ) → has v (λ m. m.active) (map f ms) ≡ has v (λ m. m.active) ms = λ v. has-same v (λ m. m.active) f ms (λ m. refl) (λ m. refl) in
    let slot : (v : ℕ) → slot_in v (map f ms) ≡ slot_in v ms = λ v. slot-marked v f ms (λ m. refl) (λ m. refl) in
    record {
      numbered = numbered-same ms (map f ms) (numbers-marked f ms (λ m. refl)) c.numbered;
      shut_ready = λ v h. has-same v (λ m. m.ready) f ms (λ m. refl) (λ m. refl) ∙ c.shut_ready v (sym (has-same v (λ m. m.shut) f ms (λ m. refl) (λ m. refl)) ∙ h);
      apart = λ v u a b e. c.apart v u (sym (active v) ∙ a) (sym (active u) ∙ b) (sym (slot v) ∙ e ∙ slot u);
      below = λ v h. subst (λ (x : ℕ). x < n) (sym (slot v)) (c.below v (sym (member-marked v f ms (λ m. refl)) ∙ h));
    }

pub was_active : (v w : ℕ) (ms : List Member) → has v (λ m. m.active) (map (made_gone w) ms) ≡ true → ((v == w) ≡ false) × (has v (λ m. m.active) ms ≡ true)
was_active v w ms h =
    let p = split-and (not (v == w)) (has v (λ m. m.active) ms) (sym (has-cleared v w (λ m. m.active) (made_gone w) ms (λ m. refl) (λ m. refl)) ∙ h) in
    (not_true (v == w) p.0, p.1)

pub members-gone : (ms : List Member) (n w : ℕ) → MembersFit ms n → MembersFit (map (made_gone w) ms) n
members-gone ms n w c =
    let f = made_gone w in
    let slot : (v : ℕ) → slot_in v (map f ms) ≡ slot_in v ms = λ v. slot-marked v f ms (λ m. refl) (λ m. refl) in
    record {
      numbered = numbered-same ms (map f ms) (numbers-marked f ms (λ m. refl)) c.numbered;
      shut_ready = λ v h. has-same v (λ m. m.ready) f ms (λ m. refl) (λ m. refl) ∙ c.shut_ready v (sym (has-same v (λ m. m.shut) f ms (λ m. refl) (λ m. refl)) ∙ h);
      apart = λ v u a b e. c.apart v u (was_active v w ms a).1 (was_active u w ms b).1 (sym (slot v) ∙ e ∙ slot u);
      below = λ v h. subst (λ (x : ℕ). x < n) (sym (slot v)) (c.below v (sym (member-marked v f ms (λ m. refl)) ∙ h));
    }

-- the slot of a worker that goes is free
pub free-gone : (ms : List Member) (n w : ℕ) → MembersFit ms n → has w (λ m. m.active) ms ≡ true → IsFree (slot_in w (map (made_gone w) ms)) (map (made_gone w) ms)
free-gone ms n w c h v a e =
    let f = made_gone w in
    let slot : (u : ℕ) → slot_in u (map f ms) ≡ slot_in u ms = λ u. slot-marked u f ms (λ m. refl) (λ m. refl) in
    let p = was_active v w ms a in
    let same : v ≡ w = c.apart v w p.1 h (sym (slot v) ∙ e ∙ slot w) in
    grind (arith, nat_tests, p.0, same)

same_ready : (v w : ℕ) (ms : List Member) → (v == w) ≡ true → has w (λ m. m.ready) ms ≡ true → has v (λ m. m.ready) ms ≡ true
same_ready v w ms e h = let q : v ≡ w = grind (arith, nat_tests) in subst (λ u. has u (λ m. m.ready) ms ≡ true) (sym q) h

pub members-shut : (ms : List Member) (n w : ℕ) → MembersFit ms n → has w (λ m. m.ready) ms ≡ true → MembersFit (map (made_shut w) ms) n
members-shut ms n w c r =
    let f = made_shut w in
    let k = kin-shut w ms in
    record {
      numbered = numbered-same ms (map f ms) k.numbers_same c.numbered;
      shut_ready = λ v h. has-same v (λ m. m.ready) f ms (λ m. refl) (λ m. refl) ∙ (elim (cases_of (v == w)) [
        | inl e ↦ same_ready v w ms e r
        | inr e ↦ c.shut_ready v (sym (ap (λ (q : Bool). if q then is_member v ms else has v (λ m. m.shut) ms) e) ∙ sym (has-set v w (λ m. m.shut) f ms (λ m. refl) (λ m. refl)) ∙ h)
      ]);
      apart = λ v u a b e. c.apart v u (sym (k.active_same v) ∙ a) (sym (k.active_same u) ∙ b) (sym (k.slots_same v) ∙ e ∙ k.slots_same u);
      below = λ v h. subst (λ (x : ℕ). x < n) (sym (k.slots_same v)) (c.below v (sym (member-marked v f ms (λ m. refl)) ∙ h));
    }

-- a worker is started

new-only : (v w : ℕ) (mark : Bool) (ms : List Member) (b : Bool) → b || (w == v && mark) ≡ true → (b ≡ true) ⊎ ((w == v) ≡ true)
new-only v w mark ms true h = inl refl
new-only v w mark ms false h = inr (split-and (w == v) mark h).0

not_shut : (a b : Bool) → a || (b && false) ≡ true → a ≡ true
not_shut true b h = refl
not_shut false true h = cc
not_shut false false h = cc

same_number : (w v : ℕ) (ms : List Member) → (w == v) ≡ true → is_member w ms ≡ false → is_member v ms ≡ false
same_number w v ms e h = let q : w ≡ v = grind (arith, nat_tests) in subst (λ u. is_member u ms ≡ false) q h

pub members-start : (ms : List Member) (n slot : ℕ) → MembersFit ms n → IsFree slot ms → slot < n → MembersFit (ms ++ started (length ms) slot ∷ []) n
members-start ms n slot c free low =
    let w = length ms in
    let new = started w slot in
    let none = none-next ms c.numbered in
    let active : (v : ℕ) → has v (λ m. m.active) (ms ++ new ∷ []) ≡ true → (has v (λ m. m.active) ms ≡ true) ⊎ ((w == v) ≡ true) =
    λ v h. new-only v w true ms (has v (λ m. m.active) ms) (sym (has-more v (λ m. m.active) ms new) ∙ h) in
    let old_slot : (v : ℕ) → has v (λ m. m.active) ms ≡ true → slot_in v (ms ++ new ∷ []) ≡ slot_in v ms = λ v h. slot-old v ms new (has-member v (λ m. m.active) ms h) in
    let new_slot : (v : ℕ) → (w == v) ≡ true → slot_in v (ms ++ new ∷ []) ≡ slot = λ v h. slot-new v ms new (same_number w v ms h none) h in
    record {
      numbered = numbered-more ms new refl c.numbered;
      shut_ready = λ v h. has-more v (λ m. m.ready) ms new ∙ or-left (has v (λ m. m.ready) ms) (w == v && false)
          (c.shut_ready v (not_shut (has v (λ m. m.shut) ms) (w == v) (sym (has-more v (λ m. m.shut) ms new) ∙ h)));
      apart = λ v u a b e. elim (active v a) [
        | inl p ↦ (elim (active u b) [
          | inl q ↦ c.apart v u p q (sym (old_slot v p) ∙ e ∙ old_slot u q)
          | inr q ↦ absurd (free v p (sym (old_slot v p) ∙ e ∙ new_slot u q))
        ])
        | inr p ↦ (elim (active u b) [
          | inl q ↦ absurd (free u q (sym (old_slot u q) ∙ sym e ∙ new_slot v p))
          | inr q ↦ grind (arith, nat_tests, p, q)
        ])
      ];
      below = λ v h. elim (new-only v w true ms (is_member v ms) (sym (has-more v (λ m. true) ms new) ∙ h)) [
        | inl p ↦ subst (λ (x : ℕ). x < n) (sym (slot-old v ms new p)) (c.below v p)
        | inr p ↦ subst (λ (x : ℕ). x < n) (sym (new_slot v p)) low
      ];
    }
