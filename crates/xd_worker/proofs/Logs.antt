-- One log at a time is in the table, and each can open.
use Rattle.std.proofs.Common.{◌≡◌, ℕ, ◌+◌, ◌≤◌, List, [], ◌∷◌, length, Bool, true, false, ◌&&◌, ◌||◌, Option, Some, None, refl, sym, ap, subst, ◌∙◌, arith, eq-eqb, eqb-true, Less}
use Rattle.std.specs.Prelude.{◌==◌, ◌%◌, not, is_none, if◌then◌else◌}
use Rattle.std.specs.Ordering.{nat_cmp}
use Rattle.std.specs.List.Sorted.{IsStrictlySortedBy}
use Rattle.std.specs.List.{AllByRecursion}
use Rattle.std.proofs.lemmas.Map.Keys.{sorted_head, sorted_tail}
use Rattle.std.proofs.lemmas.Bool.Decides.{nat_tests}
use Rattle.xd_value.specs.Tree.{Tree}
use Rattle.xd_channel.specs.State.{EndState, fresh_end, after_put, end_of}
use Rattle.xd_channel.specs.declared.end.End.{End}
use Rattle.xd_channel.specs.declared.end.End.TheVariants.{LastMessage, Lost}
use Rattle.xd_factory.specs.declared.parity.Parity.{Parity}
use Rattle.xd_factory.specs.declared.parity.Parity.TheVariants.{Even}
use Rattle.xd_factory.specs.Numbers.{is_mine, is_in}
use Rattle.xd_factory.specs.Said.{Said, Status, Exec, Data, Close, Last, Terminate, names_of}
use Rattle.xd_factory.specs.Slot.{Slot, Unseen, Here, Gone, is_here, item_slot, peer_closed_slot, peer_last_slot, lost_slot, gone_where_done, function_ended_slot}
use Rattle.xd_factory.specs.Table.{named_in, told_slot}
use Rattle.xd_worker_tests.specs.Line.{number_of_log}
use Rattle.xd_worker_tests.proofs.Once.{and_last}
use Rattle.xd_factory.specs.SideTable.{ChannelTable, Counts, changed_at, opened, heard_of_message, lost}

-- ---- numbers that are in a list once

abbrev pub once_in : List ℕ → Bool
once_in [] = true
once_in (n ∷ ns) = not (is_in n ns) && once_in ns

differs : (x y : ℕ) → nat_cmp x y ≡ Less → (y == x) ≡ false
differs x y h = grind (arith, nat_tests)

neither : (a b : Bool) → a ≡ false → b ≡ false → (a || b) ≡ false
neither a b e f = rw (e, f) refl

both : (a b : Bool) → a ≡ true → b ≡ true → (a && b) ≡ true
both a b e f = rw (e, f) refl

first : (a b : Bool) → (a && b) ≡ true → a ≡ true
first true b e = refl
first false b e = e

not_true : (a : Bool) → not a ≡ true → a ≡ false
not_true true e = sym e
not_true false e = refl

abbrev drop_one : ℕ → List ℕ → List ℕ
drop_one x [] = []
drop_one x (y ∷ ys) = if y == x then ys else y ∷ drop_one x ys

dropped_length : (x : ℕ) (ys : List ℕ) → is_in x ys ≡ true → length ys ≡ length (drop_one x ys) + 1
dropped_length x [] h = cc
dropped_length x (y ∷ ys) h = go (dropped_length x ys) (y == x) h
  where
    go : (is_in x ys ≡ true → length ys ≡ length (drop_one x ys) + 1) → (b : Bool) → (b || is_in x ys) ≡ true → length (y ∷ ys) ≡ length (if b then ys else y ∷ drop_one x ys) + 1
    go more true h = omega arith
    go more false h = let k = more h in omega (arith, k)

still_in : (x c : ℕ) (ys : List ℕ) → (x == c) ≡ false → is_in c ys ≡ true → is_in c (drop_one x ys) ≡ true
still_in x c [] n h = h
still_in x c (y ∷ ys) n h = go (still_in x c ys n) (y == x) refl h
  where
    or_last : (a b : Bool) → a ≡ false → (a || b) ≡ true → b ≡ true
    or_last true b e k = let z : true ≡ false = e in cc
    or_last false b e k = k

    more : (is_in c ys ≡ true → is_in c (drop_one x ys) ≡ true) → (v : Bool) → (v || is_in c ys) ≡ true → (v || is_in c (drop_one x ys)) ≡ true
    more f true z = refl
    more f false z = f z

    go : (is_in c ys ≡ true → is_in c (drop_one x ys) ≡ true) → (b : Bool) → (y == x) ≡ b → ((y == c) || is_in c ys) ≡ true → is_in c (if b then ys else y ∷ drop_one x ys) ≡ true
    go f true e k = or_last (y == c) (is_in c ys) (subst (λ (z : ℕ). (z == c) ≡ false) (sym (eqb-true y x e)) n) k
    go f false e k = more f (y == c) k

fewer : (xs ys : List ℕ) → once_in xs ≡ true → ((c : ℕ) → is_in c xs ≡ true → is_in c ys ≡ true) → length xs ≤ length ys
fewer [] ys o f = omega arith
fewer (x ∷ xs) ys o f =
    let here : is_in x ys ≡ true = f x (or_first (x == x) (is_in x xs) (eq-eqb x x refl)) in
    let k : length xs ≤ length (drop_one x ys) = fewer xs (drop_one x ys) (and_last (not (is_in x xs)) (once_in xs) o) (λ c i. still_in x c ys (apart c i) (f c (or_second (x == c) (is_in c xs) i))) in
    let l = dropped_length x ys here in
    omega (arith, k, l)
  where
    or_first : (a b : Bool) → a ≡ true → (a || b) ≡ true
    or_first a b e = rw e refl

    or_second : (a b : Bool) → b ≡ true → (a || b) ≡ true
    or_second true b e = refl
    or_second false b e = e

    apart : (c : ℕ) → is_in c xs ≡ true → (x == c) ≡ false
    apart c i = go (x == c) refl
      where
        go : (b : Bool) → (x == c) ≡ b → b ≡ false
        go true e = let z : is_in x xs ≡ true = subst (λ (y : ℕ). is_in y xs ≡ true) (sym (eqb-true x c e)) i in let y : true ≡ false = sym z ∙ not_true (is_in x xs) (first (not (is_in x xs)) (once_in xs) o) in y
        go false e = refl

absent_from : (x : ℕ) (ys : List ℕ) → AllByRecursion (λ y. nat_cmp x y ≡ Less) ys → is_in x ys ≡ false
absent_from x [] a = refl
absent_from x (y ∷ ys) a = neither (y == x) (is_in x ys) (differs x y a.0) (absent_from x ys a.1)

sorted_once : (xs : List ℕ) → IsStrictlySortedBy nat_cmp xs → once_in xs ≡ true
sorted_once [] s = refl
sorted_once (x ∷ xs) s = both (not (is_in x xs)) (once_in xs) (ap not (absent_from x xs (sorted_head nat_cmp x xs s))) (sorted_once xs (sorted_tail nat_cmp x xs s))

pub counted_once : {slot : ℕ → Slot Tree} {n : ℕ} (k : Counts slot n) → once_in k.numbers ≡ true
counted_once k = sorted_once k.numbers k.rising

-- at most n numbers are in the table
abbrev pub Short : (ℕ → Slot Tree) → ℕ → Type 0
Short slot n = (xs : List ℕ) → once_in xs ≡ true → ((c : ℕ) → is_in c xs ≡ true → is_here (slot c) ≡ true) → length xs ≤ n

pub counted_short : (slot : ℕ → Slot Tree) (n : ℕ) → Counts slot n → Short slot n
counted_short slot n k = λ xs o f. let z = fewer xs k.numbers o (λ c i. sym (k.here c) ∙ f c i) in let e = k.count in omega (arith, z, e)

-- ---- own numbers

abbrev pub Plain : Slot Tree → Type 0
Plain Unseen = Unit {0}
Plain (Here s) = (s.callback ≡ false) × (s.given ≡ false)
Plain Gone = Unit {0}

abbrev Keeps : Slot Tree → Slot Tree → Type 0
Keeps s u = Plain s → Plain u × (is_here u ≡ is_here s)

settled_keeps : (s : EndState Tree) → s.callback ≡ false → s.given ≡ false → Plain (gone_where_done s) × (is_here (gone_where_done s) ≡ true)
settled_keeps s e f = go (not s.sending && s.given) refl
  where
    go : (b : Bool) → (not s.sending && s.given) ≡ b → Plain (if b then Gone else Here s) × (is_here (if b then Gone else Here s) ≡ true)
    go true q = let z : true ≡ false = sym (and_last (not s.sending) s.given q) ∙ f in cc
    go false q = ((e, f), refl)

given_still : (m : Option End) (b g : Bool) → b ≡ false → g ≡ false → ((is_none m && b) || g) ≡ false
given_still None b g e f = rw (e, f) refl
given_still (Some x) b g e f = f

put_keeps : (s : EndState Tree) (end : End) → s.callback ≡ false → s.given ≡ false → Plain (gone_where_done (after_put s end)) × (is_here (gone_where_done (after_put s end)) ≡ true)
put_keeps s end e f = settled_keeps (after_put s end) e (given_still s.marker s.callback s.given e f)

item_keeps : (s : Slot Tree) (v : Tree) → Keeps s (item_slot s v)
item_keeps Unseen v = λ p. (tt, refl)
item_keeps (Here s) v = λ p. (p, refl)
item_keeps Gone v = λ p. (tt, refl)

closed_keeps : (s : Slot Tree) (end : End) → Keeps s (peer_closed_slot true s end)
closed_keeps Unseen end = λ p. (tt, refl)
closed_keeps (Here s) end = λ p. put_keeps (record s { sending = false }) end p.0 p.1
closed_keeps Gone end = λ p. (tt, refl)

last_keeps : (s : Slot Tree) → Keeps s (peer_last_slot true s)
last_keeps Unseen = λ p. (tt, refl)
last_keeps (Here s) = λ p. put_keeps s LastMessage p.0 p.1
last_keeps Gone = λ p. (tt, refl)

lost_keeps : (s : Slot Tree) → Keeps s (lost_slot s)
lost_keeps Unseen = λ p. (tt, refl)
lost_keeps (Here s) = λ p. put_keeps s Lost p.0 p.1
lost_keeps Gone = λ p. (tt, refl)

told_keeps : (c : ℕ) (said : Said) (s : Slot Tree) → Keeps s (told_slot true c said s)
told_keeps c (Status n) s = λ p. (p, refl)
told_keeps c (Exec n v) s = λ p. (p, refl)
told_keeps c (Data n v) s = go (n == c)
  where
    go : (b : Bool) → Keeps s (if b then item_slot s v else s)
    go true = item_keeps s v
    go false = λ p. (p, refl)
told_keeps c (Close n e) s = go (n == c)
  where
    go : (b : Bool) → Keeps s (if b then peer_closed_slot true s (end_of e) else s)
    go true = closed_keeps s (end_of e)
    go false = λ p. (p, refl)
told_keeps c (Last n) s = go (n == c)
  where
    go : (b : Bool) → Keeps s (if b then peer_last_slot true s else s)
    go true = last_keeps s
    go false = λ p. (p, refl)
told_keeps c Terminate s = λ p. (p, refl)

named_same : (b : Bool) (s : Slot Tree) → named_in true b s ≡ s
named_same false s = refl
named_same true Unseen = refl
named_same true (Here s) = refl
named_same true Gone = refl

heard_keeps : (mine : Bool) (c : ℕ) (said : Said) (s : Slot Tree) → mine ≡ true → Keeps s (told_slot mine c said (named_in mine (is_in c (names_of said)) s))
heard_keeps mine c said s e = subst (λ (m : Bool). Keeps s (told_slot m c said (named_in m (is_in c (names_of said)) s))) (sym e) (subst (λ (x : Slot Tree). Keeps s (told_slot true c said x)) (sym (named_same (is_in c (names_of said)) s)) (told_keeps c said s))

even_log : (n c : ℕ) → c + 2 ≡ number_of_log n → is_mine Even c ≡ true
even_log n c e = let z : c % 2 ≡ 0 = omega (arith, e) in rw z refl

-- n logs opened, and the last one is in the table, or none is
pub record Evens (t : ChannelTable) (n : ℕ) (o : Bool) : Type 0 where
  pub even : t.parity ≡ Even
  pub next_is : t.next ≡ number_of_log n
  pub plain : (c : ℕ) → is_mine Even c ≡ true → Plain (t.slot c)
  pub last : (c : ℕ) → is_mine Even c ≡ true → is_here (t.slot c) ≡ true → c + 2 ≡ number_of_log n
  pub idle : o ≡ false → (c : ℕ) → is_mine Even c ≡ true → is_here (t.slot c) ≡ false
  pub held : o ≡ true → (c : ℕ) → c + 2 ≡ number_of_log n → is_here (t.slot c) ≡ true

same_evens : (t u : ChannelTable) (n : ℕ) (o : Bool) → u.parity ≡ t.parity → u.next ≡ t.next → ((c : ℕ) → is_mine Even c ≡ true → Keeps (t.slot c) (u.slot c)) → Evens t n o → Evens u n o
same_evens t u n o p q k e = record {
  even = p ∙ e.even;
  next_is = q ∙ e.next_is;
  plain = λ c m. (k c m (e.plain c m)).0;
  last = λ c m h. e.last c m (sym (k c m (e.plain c m)).1 ∙ h);
  idle = λ z c m. (k c m (e.plain c m)).1 ∙ e.idle z c m;
  held = λ z c h. let m = even_log n c h in (k c m (e.plain c m)).1 ∙ e.held z c h;
}

pub heard_evens : (said : Said) (t : ChannelTable) (n : ℕ) (o : Bool) → Evens t n o → Evens (heard_of_message said t) n o
heard_evens said t n o e = same_evens t (heard_of_message said t) n o refl refl (λ c m. heard_keeps (is_mine t.parity c) c said (t.slot c) (ap (λ (p : Parity). is_mine p c) e.even ∙ m)) e

pub lost_evens : (t : ChannelTable) (n : ℕ) (o : Bool) → Evens t n o → Evens (lost t) n o
lost_evens t n o e = same_evens t (lost t) n o refl refl (λ c m. lost_keeps (t.slot c)) e

pub odd_evens : (k : ℕ) (f : Slot Tree → Slot Tree) (t : ChannelTable) (n : ℕ) (o : Bool) → is_mine Even k ≡ false → Evens t n o → Evens (changed_at k f t) n o
odd_evens k f t n o odd e = same_evens t (changed_at k f t) n o refl refl keeps e
  where
    keeps : (c : ℕ) → is_mine Even c ≡ true → Keeps (t.slot c) (if k == c then f (t.slot c) else t.slot c)
    keeps c m = go (k == c) refl
      where
        go : (b : Bool) → (k == c) ≡ b → Keeps (t.slot c) (if b then f (t.slot c) else t.slot c)
        go true q = let z : true ≡ false = sym m ∙ subst (λ (x : ℕ). is_mine Even x ≡ false) (eqb-true k c q) odd in cc
        go false q = λ p. (p, refl)

-- a log opens
pub open_evens : (t : ChannelTable) (n : ℕ) → Evens t n false → Evens (opened t) (n + 1) true
open_evens t n e = record {
  even = e.even;
  next_is = let z = e.next_is in omega (arith, z);
  plain = λ c m. plain_at c m (t.next == c);
  last = λ c m h. last_at c m (t.next == c) refl h;
  idle = λ z. cc;
  held = λ z c h. held_at c (t.next == c) refl h;
}
  where
    plain_at : (c : ℕ) → is_mine Even c ≡ true → (b : Bool) → Plain (if b then Here fresh_end else t.slot c)
    plain_at c m true = (refl, refl)
    plain_at c m false = e.plain c m

    last_at : (c : ℕ) → is_mine Even c ≡ true → (b : Bool) → (t.next == c) ≡ b → is_here (if b then Here fresh_end else t.slot c) ≡ true → c + 2 ≡ number_of_log (n + 1)
    last_at c m true q h = let x = eqb-true t.next c q in let z = e.next_is in omega (arith, x, z)
    last_at c m false q h = let z : true ≡ false = sym h ∙ e.idle refl c m in cc

    held_at : (c : ℕ) (b : Bool) → (t.next == c) ≡ b → c + 2 ≡ number_of_log (n + 1) → is_here (if b then Here fresh_end else t.slot c) ≡ true
    held_at c true q h = refl
    held_at c false q h = let z = e.next_is in let s : t.next ≡ c = omega (arith, z, h) in let y : true ≡ false = sym (eq-eqb t.next c s) ∙ q in cc

pub ended_here : (s : Slot Tree) → is_here (function_ended_slot s) ≡ false
ended_here Unseen = refl
ended_here (Here s) = refl
ended_here Gone = refl

ended_plain : (s : Slot Tree) → Plain (function_ended_slot s)
ended_plain Unseen = tt
ended_plain (Here s) = tt
ended_plain Gone = tt

-- it is closed
pub close_evens : (t : ChannelTable) (n log : ℕ) → log + 2 ≡ number_of_log n → Evens t n true → Evens (changed_at log function_ended_slot t) n false
close_evens t n log l e = record {
  even = e.even;
  next_is = e.next_is;
  plain = λ c m. plain_at c m (log == c);
  last = λ c m h. let z : true ≡ false = sym h ∙ none c m (log == c) refl in cc;
  idle = λ z c m. none c m (log == c) refl;
  held = λ z. cc;
}
  where
    plain_at : (c : ℕ) → is_mine Even c ≡ true → (b : Bool) → Plain (if b then function_ended_slot (t.slot c) else t.slot c)
    plain_at c m true = ended_plain (t.slot c)
    plain_at c m false = e.plain c m

    none : (c : ℕ) → is_mine Even c ≡ true → (b : Bool) → (log == c) ≡ b → is_here (if b then function_ended_slot (t.slot c) else t.slot c) ≡ false
    none c m true q = ended_here (t.slot c)
    none c m false q = go (is_here (t.slot c)) refl
      where
        go : (v : Bool) → is_here (t.slot c) ≡ v → v ≡ false
        go true h = let x = e.last c m h in let s : log ≡ c = omega (arith, x, l) in let y : true ≡ false = sym (eq-eqb log c s) ∙ q in y
        go false h = refl

-- an entry leaves the table
pub ended_short : (t : ChannelTable) (k n : ℕ) → Short t.slot n → Short (changed_at k function_ended_slot t).slot n
ended_short t k n s = λ xs o f. s xs o (λ c i. was c (k == c) (f c i))
  where
    was : (c : ℕ) (b : Bool) → is_here (if b then function_ended_slot (t.slot c) else t.slot c) ≡ true → is_here (t.slot c) ≡ true
    was c true h = let z : true ≡ false = sym h ∙ ended_here (t.slot c) in cc
    was c false h = h

pub close_short : (t : ChannelTable) (n log : ℕ) → is_here (t.slot log) ≡ true → Short t.slot (n + 1) → Short (changed_at log function_ended_slot t).slot n
close_short t n log here s = λ xs o f. let z = s (log ∷ xs) (both (not (is_in log xs)) (once_in xs) (absent xs f) o) (λ c i. was xs f c i) in omega (arith, z)
  where
    absent : (xs : List ℕ) → ((c : ℕ) → is_in c xs ≡ true → is_here ((changed_at log function_ended_slot t).slot c) ≡ true) → not (is_in log xs) ≡ true
    absent xs f = go (is_in log xs) refl
      where
        gone : (b : Bool) → b ≡ true → is_here (if b then function_ended_slot (t.slot log) else t.slot log) ≡ false
        gone b e = rw e (ended_here (t.slot log))

        go : (v : Bool) → is_in log xs ≡ v → not v ≡ true
        go true e = let z : true ≡ false = sym (f log e) ∙ gone (log == log) (eq-eqb log log refl) in cc
        go false e = refl

    kept : (c : ℕ) (b : Bool) → is_here (if b then function_ended_slot (t.slot c) else t.slot c) ≡ true → is_here (t.slot c) ≡ true
    kept c true h = let z : true ≡ false = sym h ∙ ended_here (t.slot c) in cc
    kept c false h = h

    was : (xs : List ℕ) → ((c : ℕ) → is_in c xs ≡ true → is_here ((changed_at log function_ended_slot t).slot c) ≡ true) → (c : ℕ) → ((log == c) || is_in c xs) ≡ true → is_here (t.slot c) ≡ true
    was xs f c i = go (log == c) refl i
      where
        go : (b : Bool) → (log == c) ≡ b → (b || is_in c xs) ≡ true → is_here (t.slot c) ≡ true
        go true q z = subst (λ (x : ℕ). is_here (t.slot x) ≡ true) (eqb-true log c q) here
        go false q z = kept c (log == c) (f c z)
