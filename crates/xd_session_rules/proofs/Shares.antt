-- A collection, a worker that joins, and the share.
use Rattle.std.proofs.Common.{◌≡◌, ℕ, zero, suc, ◌+◌, ◌*◌, ◌≤◌, List, [], ◌∷◌, ◌++◌, take, length, refl, ap, sym, subst, ◌∙◌, arith, Bool, true, false, not, ◌&&◌, inl, inr}
use Rattle.std.specs.Prelude.{if◌then◌else◌, ◌==◌, Option, Some, None, is_none, sum, nat_le}
use Rattle.std.specs.List.{list_all}
use Rattle.std.proofs.lemmas.Bool.Decides.{nat_tests}
use Rattle.std.proofs.lemmas.Grind.{common_steps}
use Rattle.xd_edge.specs.declared.mode.ModeKind.{ModeKind}
use Rattle.xd_journal.specs.declared.entry.Entry.{Entry}
use Rattle.xd_journal.specs.declared.entry.Entry.TheVariants.{Collected}
use Rattle.xd_journal.specs.declared.entry.Ids.{Ids}
use Rattle.xd_journal.specs.declared.entry.Ids.TheVariants as ids
use Rattle.xd_journal.specs.declared.entry.RunStop.{RunStop}
use Rattle.xd_journal.specs.declared.entry.RunStop.TheVariants.{Unequal}
use Rattle.xd_run.specs.declared.member.Listed.{Listed}
use Rattle.xd_run.specs.Books.{Books, marked, on_table}
use Rattle.xd_run.specs.Collections.{differ_at, listed, unequal, with_list}
use Rattle.xd_run.specs.Meaning.{given_ids}
use Rattle.xd_run.specs.Modes.ModeCall.{Joined, Share}
use Rattle.xd_run.specs.Outputs.{acts_of, outputs_of_joining, own_outputs, shut_all, slots_of_rota, unless_stopped}
use Rattle.xd_run.specs.Plan.{Plan, is_each}
use Rattle.xd_edge.specs.Limits.{most_tests}
use Rattle.xd_run.specs.Proper.{may_follow, most_workers}
use Rattle.xd_run.specs.Sharing.{State, ids_at, in_books, is_full, joining, shared_now, sizes_from}
use Rattle.xd_run.specs.Collecting.{collecting}
use Rattle.xd_run.specs.State.{after_effect}
use Rattle.xd_ledger.specs.Sound.{most_items}
use Rattle.xd_run.specs.Stops.{is_stopped}
use Rattle.xd_run.specs.Table.{joined}
use Rattle.xd_run.specs.Workers.{is_shut, made_collected, slot_of}
use Rattle.xd_run_laws.specs.Called.{Called, Reached}
use Rattle.xd_run_laws.proofs.Calls.{Joins, joined-called, shared-called}
use Rattle.xd_run_laws.proofs.Members.{has-same}
use Rattle.xd_run_laws.proofs.Logic.{cases_of, differ, in_both}
use Rattle.xd_session_books.specs.declared.lists.Comparison.{Comparison}
use Rattle.xd_session_books.specs.Compared.{compared, comparison, ids_to_list, stop_of_comparison}
use Rattle.xd_session_rules.specs.Joining.{TakenIn, filled, shared_in, sizes_in, taken_in}
use Rattle.xd_session_books.specs.Known.{Known, known_plan}
use Rattle.xd_session_rules.specs.Rules.{Acted, At, Before, Calls, Comes, MayJoin, MayShare}
use Rattle.xd_session_rules.proofs.Acts.{acted-by, acted-none, choose-third}

pub few-at : (n slot : ℕ) (ls : List Listed) → list_all (λ l. nat_le (length l.ids) n) ls ≡ true → length (ids_at slot ls) ≤ n
few-at n slot [] h = omega arith
few-at n slot (l ∷ ls) h = grind (arith, nat_tests, few-at n slot ls)

pub take-end : (n : ℕ) (xs : List ℕ) → length xs ≤ n → take n xs ≡ xs
take-end zero [] h = refl
take-end (suc n) [] h = refl
take-end zero (x ∷ xs) h = absurd (omega arith)
take-end (suc n) (x ∷ xs) h = ap (λ ys. x ∷ ys) (take-end n xs (omega arith))

-- few tests

sum-few : (ls : List Listed) (slot n : ℕ) → list_all (λ l. nat_le (length l.ids) most_tests) ls ≡ true → sum (sizes_from ls slot n) ≤ most_tests * n
sum-few ls slot zero h = omega arith
sum-few ls slot (suc n) h =
    let one : length (ids_at slot ls) ≤ most_tests = few-at most_tests slot ls h in
    let r = sum-few ls (slot + 1) n h in
    let all : sum (sizes_from ls slot (suc n)) ≡ length (ids_at slot ls) + sum (sizes_from ls (slot + 1) n) = grind (arith, common_steps) in
    omega (arith, one, r, all)

slots-few : (b : Bool) (workers : ℕ) → nat_le workers most_workers ≡ true → (if b then workers else 1) ≤ most_workers
slots-few true workers h = grind (arith, nat_tests, h)
slots-few false workers h = omega arith

pub few_in_all : (mode : ModeKind) (workers : ℕ) (ls : List Listed) → nat_le workers most_workers ≡ true → list_all (λ l. nat_le (length l.ids) most_tests) ls ≡ true → sum (sizes_from ls 0 (if is_each mode then workers else 1)) ≤ most_items
few_in_all mode workers ls w h =
    let a = sum-few ls 0 (if is_each mode then workers else 1) h in
    let c = slots-few (is_each mode) workers w in
    omega (arith, a, c)

-- the share

-- what is kept where the mode shares
abbrev pub with_pool : List ℕ → Books → Books
with_pool sizes b = record b { table = filled sizes b.table; shared = true }

pub calls-share : (s : State) (b : Books) (k : Known) (stands : Plan → Type 0) → At s b k stands → MayShare s
    → (let sizes = sizes_in k.mode b in
    Calls (Share (slots_of_rota s.books)) (shared_now s) (with_pool sizes b) (record k { sizes = sizes }) (Before (shared_in k.mode b) stands))
calls-share s b k stands a m =
    let counts : Known → Books → List ℕ = λ x d. sizes_in x.mode d in
    let plan_in : Known → Books → Plan = λ x d. shared_in x.mode d s.plan in
    let sizes : counts k b ≡ (shared_now s).plan.sizes = ap (λ (x : Known). counts x b) a.known_is ∙ ap (λ (d : Books). counts (known_plan s.plan) d) a.books_are in
    let plan : plan_in k b ≡ (shared_now s).plan = ap (λ (x : Known). plan_in x b) a.known_is ∙ ap (λ (d : Books). plan_in (known_plan s.plan) d) a.books_are in
    let pooled : Books → Books = λ d. with_pool (counts k b) d in
    let sized : List ℕ → Books = λ ns. with_pool ns s.books in
    let known : Known → Known = λ x. record x { sizes = counts k b } in
    let known_sizes : List ℕ → Known = λ ns. record (known_plan s.plan) { sizes = ns } in
    record {
      at = record {
        books_are = ap pooled a.books_are ∙ ap sized sizes;
        known_is = ap known a.known_is ∙ ap known_sizes sizes;
        stands_for = λ h. (s.plan, (a.stands_for m.going, sym plan));
      };
      going = m.going;
      called = m.deals;
    }

-- the worker joins
abbrev pub seated_in : ℕ → State → State
seated_in w s = in_books (on_table (joined w)) s

pub at-seated : (s : State) (w : ℕ) (b c : Books) (k : Known) (stands : Plan → Type 0) → At s b k stands → c ≡ on_table (joined w) b → At (seated_in w s) c k stands
at-seated s w b c k stands a e =
    let f : Books → Books = λ d. on_table (joined w) d in
    record { books_are = e ∙ ap f a.books_are; known_is = a.known_is; stands_for = a.stands_for }

no-full : (shared m : Bool) → (not shared && m) ≡ true → shared ≡ false
no-full true m h = cc
no-full false m h = refl

pub full-unshared : (w : ℕ) (s : State) → is_full (seated_in w s).books ≡ true → s.books.shared ≡ false
full-unshared w s h = no-full s.books.shared (length (joined w s.books.table).rota == s.books.settings.workers) h

not-full : (w : ℕ) (s : State) (shared : Bool) → s.books.shared ≡ shared → shared ≡ true → joining w s ≡ seated_in w s
not-full w s true e h = rw e
not-full w s false e h = absurd (differ h)

-- after the share the mode hears of the worker
pub calls-joined : (w : ℕ) (s : State) (b : Books) (k : Known) (stands : Plan → Type 0) → At (seated_in w s) b k stands → MayJoin w s → s.books.shared ≡ true
    → Calls (Joined w (slot_of w (seated_in w s).books)) (seated_in w s) b k stands
calls-joined w s b k stands a m h = record { at = a; going = m.going; called = subst (λ (u : State). Called (Joined w (slot_of w s.books)) u) (not-full w s true h refl) (m.hears h) }

-- the last one that was missing brings the share
pub may-share : (w : ℕ) (s : State) → MayJoin w s → is_full (seated_in w s).books ≡ true → MayShare (seated_in w s)
may-share w s m f =
    let e : joining w s ≡ shared_now (seated_in w s) = rw f in
    record {
      going = m.going;
      deals = subst (λ (u : State). Called (Share (slots_of_rota u.books)) u) e (m.shares (ap (λ (u : State). u.books.shared) e) (full-unshared w s f));
    }

pub joined-by : (s : State) (w : ℕ) (full shared : Bool) (outs : List Entry) (b : Books) (k : Known) (es fs : List Entry) (st : Plan → Type 0) → is_full (seated_in w s).books ≡ full → s.books.shared ≡ shared
    → Acted outs (if full then shared_now (seated_in w s) else seated_in w s) b k es fs st
    → outs ≡ (let u = (if full then shared_now (seated_in w s) else seated_in w s) in if shared then acts_of (Joined w (slot_of w u.books)) u else if u.books.shared then acts_of (Share (slots_of_rota u.books)) u else [])
    → Acted (outputs_of_joining w s.books (joining w s)) (joining w s) b k es fs st
joined-by s w full shared outs b k es fs st f h a o =
    let after : Bool → Bool → List Entry = λ q r. (let u = (if q then shared_now (seated_in w s) else seated_in w s) in if r then acts_of (Joined w (slot_of w u.books)) u else if u.books.shared then acts_of (Share (slots_of_rota u.books)) u else []) in
    let a1 = acted-by outs (after full shared) (if full then shared_now (seated_in w s) else seated_in w s) b k es fs st o a in
    let P : Bool → Type 0 = λ q. Acted (after q shared) (if q then shared_now (seated_in w s) else seated_in w s) b k es fs st in
    let a2 = subst P (sym f) a1 in
    let Q : Bool → Type 0 = λ r. Acted (after (is_full (seated_in w s).books) r) (joining w s) b k es fs st in
    subst Q (sym h) a2

-- the collection goes into the books

given-one : (w : ℕ) (own : List (List ℕ)) (other : ℕ) (d : Option ℕ) → (if is_none d then Collected w ids.Same else Collected w (ids.List own)) ≡ Collected w (ids_to_list (compared other d) own)
given-one w own other None = refl
given-one w own other (Some n) = refl

given-by : (w : ℕ) (own : List (List ℕ)) (o : Option Listed)
    → (elim o as (λ _. Entry) [ None ↦ Collected w (ids.List own) | Some l ↦ (if is_none (differ_at l.ids own) then Collected w ids.Same else Collected w (ids.List own)) ]) ≡ Collected w (ids_to_list (comparison own o) own)
given-by w own None = refl
given-by w own (Some l) = given-one w own l.worker (differ_at l.ids own)

pub given-is : (w : ℕ) (own : List (List ℕ)) (s : State) → given_ids w own s ≡ Collected w (ids_to_list (comparison own (listed w s.books)) own)
given-is w own s = given-by w own (listed w s.books)

unequal-by : (w : ℕ) (own : List (List ℕ)) (l : Listed) (d : Option ℕ) → d ≡ differ_at l.ids own → unequal w (ids_to_list (compared l.worker d) own) (Some l) ≡ stop_of_comparison w (compared l.worker d)
unequal-by w own l None h = refl
unequal-by w own l (Some n) h = ap (λ o. elim o as (λ _. Option RunStop) [ None ↦ None | Some place ↦ Some (Unequal w l.worker place) ]) (sym h)

pub unequal-is : (w : ℕ) (own : List (List ℕ)) (o : Option Listed) → unequal w (ids_to_list (comparison own o) own) o ≡ stop_of_comparison w (comparison own o)
unequal-is w own None = refl
unequal-is w own (Some l) = unequal-by w own l (differ_at l.ids own) refl

-- the state with the collection, before it joins
abbrev pub noted : ℕ → Ids → State → State
noted w g s = in_books (λ b. marked (made_collected w) (with_list w g b)) s

pub shut-noted : (w : ℕ) (g : Ids) (s : State) → is_shut w (noted w g s).books ≡ is_shut w s.books
shut-noted w g s = has-same w (λ m. m.shut) (made_collected w) s.books.members (λ m. refl) (λ m. refl)

pub at-noted : (w : ℕ) (own : List (List ℕ)) (s : State) (b c d : Books) (k : Known) (stands : Plan → Type 0) → At s b k stands → c ≡ with_list w (ids_to_list (comparison own (listed w b)) own) b → d ≡ marked (made_collected w) c
    → At (noted w (ids_to_list (comparison own (listed w s.books)) own) s) d k stands
at-noted w own s b c d k stands a e f =
    let g : Books → Books = λ x. marked (made_collected w) (with_list w (ids_to_list (comparison own (listed w x)) own) x) in
    record { books_are = f ∙ ap (λ (x : Books). marked (made_collected w) x) e ∙ ap g a.books_are; known_is = a.known_is; stands_for = a.stands_for }

-- who joins stops nothing
pub stop-joining : (w : ℕ) (s : State) → is_stopped (joining w s).books ≡ is_stopped s.books
stop-joining w s = in_both (λ (x : State). is_stopped x.books ≡ is_stopped s.books) (is_full (seated_in w s).books) (shared_now (seated_in w s)) (seated_in w s) (λ e. refl) (λ e. refl)

-- with any other collection the worker joins
pub taken-joined : (w : ℕ) (s : State) (b : Books) (k : Known) (es fs : List Entry) (st : Plan → Type 0) → is_stopped s.books ≡ false → Acted (outputs_of_joining w s.books (joining w s)) (joining w s) b k es fs st → TakenIn w None s b k es fs st
taken-joined w s b k es fs st h a =
    acted-by (outputs_of_joining w s.books (joining w s)) _ (joining w s) b k es fs st
    (choose-third (is_stopped s.books) (is_stopped (joining w s).books) [] (shut_all (joining w s).books.members) (outputs_of_joining w s.books (joining w s)) h (stop-joining w s ∙ h)) a

-- a worker that may give its collection, was not told to shut down, and whose collection differs from none, may join
pub may-join : (w : ℕ) (g : Ids) (s : State) → Reached s → may_follow s (Collected w g) ≡ true → is_shut w s.books ≡ false → is_stopped s.books ≡ false → unequal w g (listed w s.books) ≡ None → MayJoin w (noted w g s)
may-join w g s r f u h n =
    let m = noted w g s in
    let same : after_effect s (Collected w g) ≡ joining w m = ap (λ (o : Option RunStop). collecting w o m) n ∙ joined-unless (is_shut w m.books) w m refl (shut-noted w g s ∙ u) in
    let still : is_stopped (joining w m).books ≡ false = stop-joining w m ∙ h in
    let j : Joins s w g = record { follows = f; unshut = u; before = h; going = ap (λ (t : State). is_stopped t.books) same ∙ still } in
    record {
      going = h;
      hears = λ q. subst (λ (n : ℕ). Called (Joined w n) (joining w m)) (slot-joining w m) (subst (λ (t : State). Called (Joined w (slot_of w t.books)) t) same (joined-called s w g r j q));
      shares = λ q v. subst (λ (t : State). Called (Share (slots_of_rota t.books)) t) same (shared-called s w g r j v (ap (λ (t : State). t.books.shared) same ∙ q));
    }
  where
    joined-unless : (b : Bool) (v : ℕ) (t : State) → is_shut v t.books ≡ b → b ≡ false → collecting v None t ≡ joining v t
    joined-unless true v t e k = absurd (differ (sym k))
    joined-unless false v t e k = rw e

    slot-joining : (v : ℕ) (t : State) → slot_of v (joining v t).books ≡ slot_of v t.books
    slot-joining v t = in_both (λ (x : State). slot_of v x.books ≡ slot_of v t.books) (is_full (seated_in v t).books) (shared_now (seated_in v t)) (seated_in v t) (λ e. refl) (λ e. refl)

collecting-is : (w : ℕ) (o : Option RunStop) (s : State) → collecting w o s ≡ (if is_shut w s.books then s else taken_in w o s)
collecting-is w None s = refl
collecting-is w (Some how) s = refl

-- a collection that differs from none lets its worker join
pub may-take_in : (w : ℕ) (own : List (List ℕ)) (s : State) (c : Comparison) (b : Books) (k : Known) (stands : Plan → Type 0) → Comes (given_ids w own s) s b k stands → c ≡ comparison own (listed w s.books) → is_shut w s.books ≡ false
    → is_stopped s.books ≡ false → stop_of_comparison w c ≡ None → MayJoin w (noted w (ids_to_list (comparison own (listed w s.books)) own) s)
may-take_in w own s c b k stands a e u h n =
    let o : Option Listed = listed w s.books in
    let g : Ids = ids_to_list (comparison own o) own in
    may-join w g s a.reached (ap (may_follow s) (sym (given-is w own s)) ∙ a.follows) u h (unequal-is w own o ∙ ap (stop_of_comparison w) (sym e) ∙ n)

-- after a stop whoever may give its collection was told to shut down
pub going-on : (w : ℕ) (b : Books) → (is_stopped b ≡ true → is_shut w b ≡ true) → is_shut w b ≡ false → is_stopped b ≡ false
going-on w b told u = elim (cases_of (is_stopped b)) [
  | inl h ↦ absurd (differ (sym u ∙ told h))
  | inr h ↦ h
]

-- what a collection brings
pub acted-collected : (w : ℕ) (own : List (List ℕ)) (s : State) (c : Comparison) (b : Books) (k : Known) (es fs : List Entry) (st : Plan → Type 0) → c ≡ comparison own (listed w s.books) → is_shut w s.books ≡ false
    → (let m = noted w (ids_to_list (comparison own (listed w s.books)) own) s in TakenIn w (stop_of_comparison w c) m b k es fs st)
    → (let e = Collected w (ids_to_list (comparison own (listed w s.books)) own) in Acted (own_outputs s e (after_effect s e)) (after_effect s e) b k es fs st)
acted-collected w own s c b k es fs st ce sh a =
    let o : Option Listed = listed w s.books in
    let g : Ids = ids_to_list (comparison own o) own in
    let m : State = noted w g s in
    let outs : State → List Entry = λ v. unless_stopped s.books v.books (outputs_of_joining w s.books v) in
    let stops : stop_of_comparison w c ≡ unequal w g o = ap (stop_of_comparison w) ce ∙ sym (unequal-is w own o) in
    let P : Option RunStop → Type 0 = λ h. Acted (outs (taken_in w h m)) (taken_in w h m) b k es fs st in
    let a1 : P (unequal w g o) = subst P stops a in
    let Q : Bool → Type 0 = λ q. Acted (if is_shut w s.books then [] else outs (if q then m else taken_in w (unequal w g o) m)) (if q then m else taken_in w (unequal w g o) m) b k es fs st in
    let R : Bool → Type 0 = λ q. Acted (if q then [] else outs (taken_in w (unequal w g o) m)) (taken_in w (unequal w g o) m) b k es fs st in
    let a2 : Q false = subst R (sym sh) a1 in
    let a3 : Q (is_shut w m.books) = subst Q (sym (shut-noted w g s ∙ sh)) a2 in
    subst (λ v. Acted (if is_shut w s.books then [] else outs v) v b k es fs st) (sym (collecting-is w (unequal w g o) m)) a3

-- one that was told to shut down brings nothing
pub acted-shut-off : (w : ℕ) (own : List (List ℕ)) (s : State) (b : Books) (k : Known) (es : List Entry) (st : Plan → Type 0) → is_shut w s.books ≡ true
    → (let m = noted w (ids_to_list (comparison own (listed w s.books)) own) s in At m b k st)
    → (let e = Collected w (ids_to_list (comparison own (listed w s.books)) own) in Acted (own_outputs s e (after_effect s e)) (after_effect s e) b k es es st)
acted-shut-off w own s b k es st sh a =
    let o : Option Listed = listed w s.books in
    let g : Ids = ids_to_list (comparison own o) own in
    let m : State = noted w g s in
    let outs : State → List Entry = λ v. unless_stopped s.books v.books (outputs_of_joining w s.books v) in
    let Q : Bool → Type 0 = λ q. Acted (if is_shut w s.books then [] else outs (if q then m else taken_in w (unequal w g o) m)) (if q then m else taken_in w (unequal w g o) m) b k es es st in
    let R : Bool → Type 0 = λ q. Acted (if q then [] else outs m) m b k es es st in
    let a2 : Q true = subst R (sym sh) (acted-none m b k es st a) in
    let a3 : Q (is_shut w m.books) = subst Q (sym (shut-noted w g s ∙ sh)) a2 in
    subst (λ v. Acted (if is_shut w s.books then [] else outs v) v b k es es st) (sym (collecting-is w (unequal w g o) m)) a3

-- one slot more
sizes-more : (ls : List Listed) (slot n : ℕ) → sizes_from ls slot (n + 1) ≡ sizes_from ls slot n ++ length (ids_at (slot + n) ls) ∷ []
sizes-more ls slot zero = grind (arith, common_steps)
sizes-more ls slot (suc n) = let k = sizes-more ls (slot + 1) n in grind (arith, common_steps)

pub sizes_next : (ls : List Listed) (n : ℕ) → sizes_from ls 0 (n + 1) ≡ sizes_from ls 0 n ++ length (ids_at n ls) ∷ []
sizes_next ls n = sizes-more ls 0 n ∙ ap (λ k. sizes_from ls 0 n ++ length (ids_at k ls) ∷ []) (omega arith)
