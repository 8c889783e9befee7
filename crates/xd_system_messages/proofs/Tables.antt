-- The channels of each end of a link on which a worker runs tests: channel 1 until its function ends, and one log at a
-- time.
use Rattle.std.proofs.Common.{◌≡◌, ℕ, ◌+◌, ◌*◌, ◌<◌, ◌≤◌, List, [], ◌∷◌, length, Bool, true, false, None, refl, ap, sym, subst, ◌∙◌, arith}
use Rattle.std.specs.Prelude.{◌==◌, ◌||◌, if◌then◌else◌}
use Rattle.std.specs.Ordering.{nat_cmp}
use Rattle.std.specs.declared.cmp.Ordering.TheVariants.{Less}
use Rattle.std.specs.List.Sorted.{IsStrictlySortedBy}
use Rattle.std.proofs.lemmas.Bool.{eq-eqb, eqb-true}
use Rattle.std.proofs.lemmas.Bool.Decides.{nat_tests}
use Rattle.xd_value.specs.Tree.{Tree}
use Rattle.xd_channel.specs.State.{EndState}
use Rattle.xd_factory.specs.Numbers.{is_in}
use Rattle.xd_factory.specs.Slot.{Slot, Unseen, Here, Gone, is_here}
use Rattle.xd_factory.specs.SideTable.{Counts}
use Rattle.xd_worker_tests.specs.Line.{number_of_log}

-- an end that is open in both directions, with a callback or without one
abbrev pub open_end : Bool → EndState Tree
open_end hook = record { waiting = []; marker = None; sending = true; callback = hook; given = false }

-- the number of the log that opened last, of so many
abbrev pub last_log : ℕ → ℕ
last_log n = 2 * n

-- the numbers in the table: channel 1 until the function is over, and the log that is open
abbrev pub numbers_of : Bool → ℕ → Bool → List ℕ
numbers_of true n true = last_log n ∷ []
numbers_of true n false = []
numbers_of false n true = 1 ∷ last_log n ∷ []
numbers_of false n false = 1 ∷ []

-- What stands at each number of an end: n logs opened, of which the last may be open. The worker's logs have no
-- callback, and the controller's have one.
pub record Channels (hook over : Bool) (n : ℕ) (o : Bool) (slot : ℕ → Slot Tree) : Type 0 where
  pub one : over ≡ false → slot 1 ≡ Here (open_end true)
  pub closed : over ≡ true → slot 1 ≡ Gone
  pub log : o ≡ true → slot (last_log n) ≡ Here (open_end hook)
  pub begun : o ≡ true → 0 < n
  pub here : (c : ℕ) → is_here (slot c) ≡ is_in c (numbers_of over n o)
  pub new : (m : ℕ) → n ≤ m → slot (number_of_log m) ≡ Unseen

-- the same but at one number
abbrev pub put_at : ℕ → Slot Tree → (ℕ → Slot Tree) → ℕ → Slot Tree
put_at k x slot c = if k == c then x else slot c

pub put_there : (k : ℕ) (x : Slot Tree) (slot : ℕ → Slot Tree) → put_at k x slot k ≡ x
put_there k x slot = rw (eq-eqb k k refl) refl

pub put_elsewhere : (k c : ℕ) (x : Slot Tree) (slot : ℕ → Slot Tree) → (k == c) ≡ false → put_at k x slot c ≡ slot c
put_elsewhere k c x slot h = rw h refl

pub stay : (hook over : Bool) (n : ℕ) (o : Bool) (a b : ℕ → Slot Tree) → ((c : ℕ) → b c ≡ a c) → Channels hook over n o a → Channels hook over n o b
stay hook over n o a b e s = record {
  one = λ q. e 1 ∙ s.one q;
  closed = λ q. e 1 ∙ s.closed q;
  log = λ q. e (last_log n) ∙ s.log q;
  begun = s.begun;
  here = λ c. ap is_here (e c) ∙ s.here c;
  new = λ m h. e (number_of_log m) ∙ s.new m h;
}

next_log : (n : ℕ) → last_log (n + 1) ≡ number_of_log n
next_log n = omega arith

not_one : (n : ℕ) → (number_of_log n == 1) ≡ false
not_one n = grind (arith, nat_tests)

pub last_not_one : (n : ℕ) → 0 < n → (last_log n == 1) ≡ false
last_not_one n h = grind (arith, nat_tests)

log_apart : (n m : ℕ) → n + 1 ≤ m → (number_of_log n == number_of_log m) ≡ false
log_apart n m h = grind (arith, nat_tests)

last_apart : (n m : ℕ) → n ≤ m → (last_log n == number_of_log m) ≡ false
last_apart n m h = grind (arith, nat_tests)

one_apart : (m : ℕ) → (1 == number_of_log m) ≡ false
one_apart m = grind (arith, nat_tests)

-- ---- a log opens

pub opens : (hook : Bool) (n : ℕ) (a b : ℕ → Slot Tree) → ((c : ℕ) → b c ≡ put_at (number_of_log n) (Here (open_end hook)) a c) → Channels hook false n false a → Channels hook false (n + 1) true b
opens hook n a b e s =
    let x = Here (open_end hook) in
    record {
      one = λ q. e 1 ∙ (put_elsewhere (number_of_log n) 1 x a (not_one n) ∙ s.one refl);
      closed = λ q. absurd (let z : false ≡ true = q in cc);
      log = λ q. subst (λ (k : ℕ). b k ≡ x) (sym (next_log n)) (e (number_of_log n) ∙ put_there (number_of_log n) x a);
      begun = λ q. omega arith;
      here = λ c. ap is_here (e c) ∙ by_test c (number_of_log n == c) refl;
      new = λ m h. e (number_of_log m) ∙ (put_elsewhere (number_of_log n) (number_of_log m) x a (log_apart n m h) ∙ s.new m (omega (arith, h)));
    }
  where
    counted : (c : ℕ) (v : Bool) → (number_of_log n == c) ≡ v → is_in c (numbers_of false (n + 1) true) ≡ (is_in c (numbers_of false n false) || v)
    counted c v h = ap (λ (k : ℕ). (1 == c) || ((k == c) || false)) (next_log n) ∙ (ap (λ (w : Bool). (1 == c) || (w || false)) h ∙ move (1 == c) v)
      where
        move : (p q : Bool) → (p || (q || false)) ≡ ((p || false) || q)
        move true q = refl
        move false true = refl
        move false false = refl

    last : (p : Bool) → (p || true) ≡ true
    last true = refl
    last false = refl

    none : (p : Bool) → (p || false) ≡ p
    none true = refl
    none false = refl

    by_test : (c : ℕ) (v : Bool) → (number_of_log n == c) ≡ v → is_here (if v then Here (open_end hook) else a c) ≡ is_in c (numbers_of false (n + 1) true)
    by_test c true h = sym (counted c true h ∙ last (is_in c (numbers_of false n false)))
    by_test c false h = s.here c ∙ sym (counted c false h ∙ none (is_in c (numbers_of false n false)))

-- ---- a log closes

pub closes : (hook : Bool) (n : ℕ) (a b : ℕ → Slot Tree) → ((c : ℕ) → b c ≡ put_at (last_log n) Gone a c) → Channels hook false n true a → Channels hook false n false b
closes hook n a b e s = record {
  one = λ q. e 1 ∙ (put_elsewhere (last_log n) 1 Gone a (last_not_one n (s.begun refl)) ∙ s.one refl);
  closed = λ q. absurd (let z : false ≡ true = q in cc);
  log = λ q. absurd (let z : false ≡ true = q in cc);
  begun = λ q. absurd (let z : false ≡ true = q in cc);
  here = λ c. ap is_here (e c) ∙ by_test c (last_log n == c) refl;
  new = λ m h. e (number_of_log m) ∙ (put_elsewhere (last_log n) (number_of_log m) Gone a (last_apart n m h) ∙ s.new m h);
}
  where
    by_test : (c : ℕ) (v : Bool) → (last_log n == c) ≡ v → is_here (if v then Gone else a c) ≡ is_in c (1 ∷ [])
    by_test c true h =
        let same : last_log n ≡ c = eqb-true (last_log n) c h in
        let apart : (1 == last_log n) ≡ false = (let z = s.begun refl in grind (arith, nat_tests, z)) in
        sym (subst (λ (k : ℕ). is_in k (1 ∷ []) ≡ false) same (rw apart refl))
    by_test c false h = s.here c ∙ rw h refl

-- ---- the function ends

pub ends : (hook : Bool) (n : ℕ) (a b : ℕ → Slot Tree) → ((c : ℕ) → b c ≡ put_at 1 Gone a c) → Channels hook false n false a → Channels hook true n false b
ends hook n a b e s = record {
  one = λ q. absurd (let z : true ≡ false = q in cc);
  closed = λ q. e 1;
  log = λ q. absurd (let z : false ≡ true = q in cc);
  begun = λ q. absurd (let z : false ≡ true = q in cc);
  here = λ c. ap is_here (e c) ∙ by_test c (1 == c) refl;
  new = λ m h. e (number_of_log m) ∙ (put_elsewhere 1 (number_of_log m) Gone a (one_apart m) ∙ s.new m h);
}
  where
    by_test : (c : ℕ) (v : Bool) → (1 == c) ≡ v → is_here (if v then Gone else a c) ≡ false
    by_test c true h = refl
    by_test c false h = s.here c ∙ rw h refl

-- ---- how many there are

rising : (over : Bool) (n : ℕ) (o : Bool) → (o ≡ true → 0 < n) → IsStrictlySortedBy nat_cmp (numbers_of over n o)
unfolding IsStrictlySortedBy
rising true n true h = (tt, tt)
rising true n false h = tt
rising false n true h = ((less (last_log n) (let z = h refl in omega (arith, z)), tt), (tt, tt))
  where
    less : (k : ℕ) → 1 < k → nat_cmp 1 k ≡ Less
    less k q = grind (arith, nat_tests)
rising false n false h = (tt, tt)

pub counts : (hook over : Bool) (n : ℕ) (o : Bool) (slot : ℕ → Slot Tree) → Channels hook over n o slot → Counts slot (length (numbers_of over n o))
counts hook over n o slot s = record { numbers = numbers_of over n o; rising = rising over n o s.begun; here = s.here; count = refl }

pub few : (over : Bool) (n : ℕ) (o : Bool) → length (numbers_of over n o) ≤ 2
few true n true = omega arith
few true n false = omega arith
few false n true = omega arith
few false n false = omega arith

-- ---- before any log

pub begins : (hook : Bool) (a : ℕ → Slot Tree) → ((c : ℕ) → a c ≡ put_at 1 (Here (open_end true)) (λ k. Unseen) c) → Channels hook false 0 false a
begins hook a e = record {
  one = λ q. e 1;
  closed = λ q. absurd (let z : false ≡ true = q in cc);
  log = λ q. absurd (let z : false ≡ true = q in cc);
  begun = λ q. absurd (let z : false ≡ true = q in cc);
  here = λ c. ap is_here (e c) ∙ by_test c (1 == c);
  new = λ m h. e (number_of_log m) ∙ put_elsewhere 1 (number_of_log m) (Here (open_end true)) (λ k. Unseen) (one_apart m);
}
  where
    by_test : (c : ℕ) (v : Bool) → is_here (if v then Here (open_end true) else Unseen) ≡ (v || false)
    by_test c true = refl
    by_test c false = refl
