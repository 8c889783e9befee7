-- The numbers in the table are those that have an end there.
use Rattle.std.proofs.Common.{◌≡◌, ℕ, List, [], ◌∷◌, Bool, true, false, Option, Some, None, refl, sym, ap, subst, ◌∙◌, arith}
use Rattle.std.specs.Prelude.{◌||◌, ◌==◌, cond, is_some, if◌then◌else◌}
use Rattle.std.specs.Ordering.{nat_cmp}
use Rattle.std.specs.Map.{keys_of, lookup}
use Rattle.std.specs.BTreeMap.{is_at}
use Rattle.std.proofs.lemmas.Bool.Decides.{nat_tests}
use Rattle.xd_value.specs.declared.value.Value.{Value}
use Rattle.xd_channel.specs.State.{EndState, put_gives}
use Rattle.std.proofs.lemmas.Bool.{eqb-true}
use Rattle.xd_value.specs.Tree.{Tree}
use Rattle.xd_channel.specs.declared.end.End.{End}
use Rattle.xd_factory.specs.declared.parity.Parity.{Parity}
use Rattle.xd_factory.specs.declared.taken.Taken.{Taken}
use Rattle.xd_factory.specs.declared.taken.Taken.TheVariants as taken
use Rattle.xd_factory.specs.Numbers.{is_in, is_mine}
use Rattle.xd_factory.specs.Table.{ended_answer, end_answer}
use Rattle.xd_factory.specs.Slot.{Slot, Unseen, Here, Gone, is_here, shut_slot, peer_closed_slot, peer_last_slot}
use Rattle.xd_factory.specs.Trees.{trees_at}
use Rattle.xd_factory.specs.View.{slot_at}

same_test : (a b : ℕ) → is_at (nat_cmp b) a ≡ (a == b)
same_test a b = grind (arith, nat_tests)

found_more : {X : Type 0} (v : X) (more : Option X) (ns : List ℕ) (q : ℕ) (a b : Bool) → a ≡ b → is_some more ≡ is_in q ns → is_some (cond a (Some v) more) ≡ b || is_in q ns
found_more v more ns q true true h k = refl
found_more v more ns q true false h k = absurd (let z = h in cc)
found_more v more ns q false true h k = absurd (let z = h in cc)
found_more v more ns q false false h k = k

found : {X : Type 0} (es : List (ℕ × X)) (q : ℕ) → is_some (lookup (is_at (nat_cmp q)) es) ≡ is_in q (keys_of es)
found [] q = refl
found (e ∷ es) q = found_more e.1 (lookup (is_at (nat_cmp q)) es) (keys_of es) q (is_at (nat_cmp q) e.0) (e.0 == q) (same_test e.0 q) (found es q)

here : (o : Option (EndState Value)) (k : Bool) → is_here (slot_at (trees_at o) k) ≡ is_some o
here (Some s) k = refl
here None true = refl
here None false = refl

pub here_entries : (es : List (ℕ × EndState Value)) (q : ℕ) (k : Bool) → is_here (slot_at (trees_at (lookup (is_at (nat_cmp q)) es)) k) ≡ is_in q (keys_of es)
here_entries es q k = here (lookup (is_at (nat_cmp q)) es) k ∙ found es q

-- an end comes on a number that is not in the table
pub absent : (o : Option (EndState Value)) (k : Bool) → o ≡ None → is_here (slot_at (trees_at o) k) ≡ false
absent o k e = here o k ∙ ap is_some e

pub absent_answer : (n : ℕ) (s : Slot Tree) (end : End) → is_here s ≡ false → taken.Dropped ≡ end_answer n s end
absent_answer n Unseen end h = refl
absent_answer n (Here s) end h = absurd (let z = h in cc)
absent_answer n Gone end h = refl

absent_closed : (mine : Bool) (s : Slot Tree) (end : End) → is_here s ≡ false → shut_slot mine s ≡ peer_closed_slot mine s end
absent_closed mine Unseen end h = refl
absent_closed mine (Here s) end h = absurd (let z = h in cc)
absent_closed mine Gone end h = refl

absent_last : (mine : Bool) (s : Slot Tree) → is_here s ≡ false → shut_slot mine s ≡ peer_last_slot mine s
absent_last mine Unseen h = refl
absent_last mine (Here s) h = absurd (let z = h in cc)
absent_last mine Gone h = refl

-- at one number the slot is this one, elsewhere as it was
at_number : (n c : ℕ) (slot : ℕ → Slot Tree) (f g : Slot Tree → Slot Tree) (new : Slot Tree) → f (slot n) ≡ g (slot n)
    → new ≡ (if n == c then f (slot c) else slot c) → new ≡ (if n == c then g (slot c) else slot c)
at_number n c slot f g new e h = by_test (n == c) (λ q. subst (λ (x : ℕ). f (slot x) ≡ g (slot x)) (eqb-true n c q) e) h
  where
    by_test : (b : Bool) → (b ≡ true → f (slot c) ≡ g (slot c)) → new ≡ (if b then f (slot c) else slot c) → new ≡ (if b then g (slot c) else slot c)
    by_test true k h = h ∙ k refl
    by_test false k h = h

pub shut_closed : (parity : Parity) (n c : ℕ) (slot : ℕ → Slot Tree) (end : End) (new : Slot Tree) → is_here (slot n) ≡ false
    → new ≡ (if n == c then shut_slot (is_mine parity c) (slot c) else slot c) → new ≡ (if n == c then peer_closed_slot (is_mine parity c) (slot c) end else slot c)
shut_closed parity n c slot end new h k = at_number n c slot (shut_slot (is_mine parity c)) (λ s. peer_closed_slot (is_mine parity c) s end) new (absent_closed (is_mine parity c) (slot n) end h) k

pub shut_last : (parity : Parity) (n c : ℕ) (slot : ℕ → Slot Tree) (new : Slot Tree) → is_here (slot n) ≡ false
    → new ≡ (if n == c then shut_slot (is_mine parity c) (slot c) else slot c) → new ≡ (if n == c then peer_last_slot (is_mine parity c) (slot c) else slot c)
shut_last parity n c slot new h k = at_number n c slot (shut_slot (is_mine parity c)) (peer_last_slot (is_mine parity c)) new (absent_last (is_mine parity c) (slot n) h) k

-- an end comes at an entry
pub here_answer : (o : Option (EndState Value)) (k : Bool) (n : ℕ) (s : EndState Value) (hooked : Bool) (handed : Option End) (end : End) (t : Taken Tree)
    → o ≡ Some s → hooked ≡ s.callback → handed ≡ put_gives s end → t ≡ ended_answer n hooked handed → t ≡ end_answer n (slot_at (trees_at o) k) end
here_answer o k n s hooked handed end t e p q h =
    subst (λ (x : Option (EndState Value)). t ≡ end_answer n (slot_at (trees_at x) k) end) (sym e)
    (h ∙ ap (λ x. ended_answer n x handed) p ∙ ap (λ (x : Option End). ended_answer n s.callback x) q)
