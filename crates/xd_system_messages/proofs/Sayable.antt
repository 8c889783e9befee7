-- Each order of a run has a message: it names tests of a suite, each at most once.
use Rattle.std.proofs.Common.{◌≡◌, ℕ, ◌≤◌, List, [], ◌∷◌, ◌++◌, length, Bool, true, false, not, ◌&&◌, refl, ap, sym, subst, ◌∙◌, arith, inl, inr}
use Rattle.std.specs.Prelude.{◌==◌, nat_lt, filter, slice_index, Option, Some, None, if◌then◌else◌}
use Rattle.std.specs.List.{cons_option, list_all, range_with_len}
use Rattle.std.proofs.lemmas.Bool.{ltb-true}
use Rattle.std.proofs.lemmas.Bool.Decides.{nat_tests}
use Rattle.std.proofs.lemmas.List.Elements.{filter_map-append}
use Rattle.std.proofs.lemmas.Slice.Eq.{bytes_eq-Decides}
use Rattle.xd_edge.specs.Limits.{most_tests}
use Rattle.xd_journal.specs.declared.entry.Entry.{Entry}
use Rattle.xd_journal.specs.declared.entry.Entry.TheVariants.{Ready, Collected, Done, Back, Finished, Refused, Down, NotStarted, Start, Run, RunAll, Steal, Shutdown, Kill, Over}
use Rattle.xd_journal.specs.declared.settings.Settings.{Settings}
use Rattle.xd_commands.specs.Kwargs.{AreIndices}
use Rattle.xd_commands.specs.declared.order.Order.{Order}
use Rattle.xd_commands.specs.declared.order.Order.TheVariants as order
use Rattle.xd_run.specs.Numbers.{all_distinct, among}
use Rattle.xd_run.specs.Orderly.{is_in_order, is_orderly}
use Rattle.xd_run.specs.Plan.{is_each, total}
use Rattle.xd_run.specs.Proper.{IsProper, may_follow}
use Rattle.xd_run.specs.Sharing.{State}
use Rattle.xd_run.specs.State.{after_effect, no_one, settled}
use Rattle.xd_run.specs.Table.{in_rota}
use Rattle.xd_run.specs.Workers.{is_active, slot_of}
use Rattle.xd_run_laws.proofs.Logic.{cases_of, differ, split-and}
use Rattle.xd_run_laws.proofs.Placed.{Placed}
use Rattle.xd_run_laws.proofs.Walk.{Keeps}
use Rattle.xd_drive.proofs.Bounds.{Bounded, bounded-input}
use Rattle.xd_drive.proofs.Outs.{bounded-output}
use Rattle.xd_session.specs.History.{run_of}
use Rattle.xd_session.proofs.Steps.{sound-run}
use Rattle.xd_journal.specs.declared.news.News.{News}
use Rattle.xd_system.specs.LineGiven.{answers_left, are_fair, are_new, line_after, may_be_told}
use Rattle.xd_system.specs.Own.{answers_by, order_told, told_to}
use Rattle.xd_system.proofs.Asked.{steal-rota}
use Rattle.xd_system.proofs.Deal.{Deals, size_at}
use Rattle.xd_system.proofs.Given.{gives-run}
use Rattle.xd_system.proofs.Keeping.{deals-none, keeps_deals}
use Rattle.xd_system.proofs.Lines.{distinct-more}
use Rattle.xd_system.proofs.Lists.{length-low}
use Rattle.xd_system.proofs.Walks.{at-run}
use Rattle.xd_system_messages.specs.Bridge.{AreSayable}

-- ---- lines

abbrev are_below : ℕ → List ℕ → Bool
are_below size ns = list_all (λ n. nat_lt n size) ns

below_more : (size : ℕ) (xs ys : List ℕ) → are_below size xs ≡ true → are_below size ys ≡ true → are_below size (xs ++ ys) ≡ true
below_more size [] ys h k = k
below_more size (x ∷ xs) ys h k = (let p = split-and (nat_lt x size) (are_below size xs) h in rw (p.0, below_more size xs ys p.1 k) refl)

new_below : (size : ℕ) (line ns : List ℕ) → list_all (λ n. nat_lt n size && not (among n line)) ns ≡ true → are_below size ns ≡ true
new_below size line [] h = refl
new_below size line (n ∷ ns) h =
    let p = split-and (nat_lt n size && not (among n line)) (list_all (λ m. nat_lt m size && not (among m line)) ns) h in
    rw ((split-and (nat_lt n size) (not (among n line)) p.0).0, new_below size line ns p.1) refl

below_filter : (size : ℕ) (p : ℕ → Bool) (xs : List ℕ) → are_below size xs ≡ true → are_below size (filter p xs) ≡ true
below_filter size p [] h = refl
below_filter size p (x ∷ xs) h = go (p x) (split-and (nat_lt x size) (are_below size xs) h) (below_filter size p xs)
  where
    go : (b : Bool) → (nat_lt x size ≡ true) × (are_below size xs ≡ true) → (are_below size xs ≡ true → are_below size (filter p xs) ≡ true) → are_below size (if b then x ∷ filter p xs else filter p xs) ≡ true
    go true q more = rw (q.0, more q.1) refl
    go false q more = more q.1

not_filtered : (p : ℕ → Bool) (x : ℕ) (xs : List ℕ) → among x xs ≡ false → among x (filter p xs) ≡ false
not_filtered p x [] h = refl
not_filtered p x (y ∷ xs) h = go (p y) (not_filtered p x xs)
  where
    go : (b : Bool) → (among x xs ≡ false → among x (filter p xs) ≡ false) → among x (if b then y ∷ filter p xs else filter p xs) ≡ false
    go true more = grind (arith, nat_tests, more, h)
    go false more = grind (arith, nat_tests, more, h)

distinct_filter : (p : ℕ → Bool) (xs : List ℕ) → all_distinct xs ≡ true → all_distinct (filter p xs) ≡ true
distinct_filter p [] h = refl
distinct_filter p (x ∷ xs) h = go (p x) (split-and (not (among x xs)) (all_distinct xs) h) (distinct_filter p xs)
  where
    alone : not (among x xs) ≡ true → among x (filter p xs) ≡ false
    alone q = not_filtered p x xs (let z = q in grind (arith, nat_tests, z))

    go : (b : Bool) → (not (among x xs) ≡ true) × (all_distinct xs ≡ true) → (all_distinct xs ≡ true → all_distinct (filter p xs) ≡ true) → all_distinct (if b then x ∷ filter p xs else filter p xs) ≡ true
    go true q more = rw (alone q.0, more q.1) refl
    go false q more = more q.1

length_filter : (p : ℕ → Bool) (xs : List ℕ) → length (filter p xs) ≤ length xs
length_filter p [] = omega arith
length_filter p (x ∷ xs) = go (p x) (length_filter p xs)
  where
    go : (b : Bool) → length (filter p xs) ≤ length xs → length (if b then x ∷ filter p xs else filter p xs) ≤ length (x ∷ xs)
    go true h = omega (arith, h)
    go false h = omega (arith, h)

below_indices : (size : ℕ) (ns : List ℕ) → size ≤ most_tests → are_below size ns ≡ true → AreIndices ns
below_indices size [] small h = tt
below_indices size (n ∷ ns) small h =
    let p = split-and (nat_lt n size) (are_below size ns) h in
    let low = ltb-true n size p.0 in
    (omega (arith, low, small), below_indices size ns small p.1)

sayable_new : (size : ℕ) (ns : List ℕ) → size ≤ most_tests → are_below size ns ≡ true → all_distinct ns ≡ true → AreIndices ns × (length ns ≤ most_tests)
sayable_new size ns small low once = (below_indices size ns small low, (let few = length-low size ns once low in omega (arith, few, small)))

-- ---- fair orders

fair_sayable : (size : ℕ) (line : List ℕ) (orders : List Order) (answers : List (List ℕ)) → size ≤ most_tests → are_below size line ≡ true → all_distinct line ≡ true → are_fair size line orders answers ≡ true → AreSayable orders
fair_sayable size line [] answers small low once h = tt
fair_sayable size line (order.RunTests ns ∷ orders) answers small low once h =
    let p = split-and (are_new size line ns) (are_fair size (line ++ ns) orders answers) h in
    let q = split-and (list_all (λ n. nat_lt n size && not (among n line)) ns) (all_distinct ns) p.0 in
    let below = new_below size line ns q.0 in
    (sayable_new size ns small below q.1, fair_sayable size (line ++ ns) orders answers small (below_more size line ns low below) (distinct-more line ns size once p.0) p.1)
fair_sayable size line (order.RunAll ∷ orders) answers small low once h =
    let all = range_with_len 0 size in
    let p = split-and (are_new size line all) (are_fair size (line ++ all) orders answers) h in
    let q = split-and (list_all (λ n. nat_lt n size && not (among n line)) all) (all_distinct all) p.0 in
    ((tt, tt), fair_sayable size (line ++ all) orders answers small (below_more size line all low (new_below size line all q.0)) (distinct-more line all size once p.0) p.1)
fair_sayable size line (order.Steal ns ∷ orders) answers small low once h =
    let p = split-and (may_be_told size line (order.Steal ns) answers) (are_fair size (line_after size line (order.Steal ns) answers) orders (answers_left (order.Steal ns) answers)) h in
    let part = filter (λ y. among y ns) line in
    let is : ns ≡ part = (bytes_eq-Decides ns part).0 (split-and (is_in_order ns line) _ p.0).0 in
    let below : are_below size part ≡ true = below_filter size (λ y. among y ns) line low in
    let few = length_filter (λ y. among y ns) line in
    let all = length-low size line once low in (
      subst (λ (l : List ℕ). AreIndices l × (length l ≤ most_tests)) (sym is) (below_indices size part small below, omega (arith, few, all, small)),
      fair_sayable size (line_after size line (order.Steal ns) answers) orders (answers_left (order.Steal ns) answers) small (below_filter size _ line low) (distinct_filter _ line once) p.1,
    )
fair_sayable size line (order.Shutdown ∷ orders) answers small low once h = ((tt, tt), fair_sayable size line orders answers small low once h)

-- ---- a run

-- what each entry of a run keeps of a worker and its orders
record Tells (settings : Settings) (w : ℕ) (s : State) (es : List Entry) : Type 0 where
  bounded : Bounded settings s
  deals : Deals w s es
  sayable : AreSayable (told_to w es)

size_small : (settings : Settings) (w : ℕ) (s : State) → Bounded settings s → size_at w s ≤ most_tests
size_small settings w s b = go (is_each s.plan.mode) refl
  where
    go : (v : Bool) → is_each s.plan.mode ≡ v → (if v then slice_index s.plan.sizes (slot_of w s.books) else total s.plan) ≤ most_tests
    go true e = b.sizes (slot_of w s.books)
    go false e = b.whole e

-- an active worker's orders
active_sayable : (settings : Settings) (w : ℕ) (s : State) (es : List Entry) → Bounded settings s → Deals w s es → is_active w s.books ≡ true → AreSayable (told_to w es)
active_sayable settings w s es b d a = fair_sayable (size_at w s) [] (told_to w es) (answers_by w es) (size_small settings w s b) refl refl (d.active a).fair

sayable_more : (xs ys : List Order) → AreSayable xs → AreSayable ys → AreSayable (xs ++ ys)
sayable_more [] ys h k = k
sayable_more (x ∷ xs) ys h k = (h.0, sayable_more xs ys h.1 k)

-- an entry that tells the worker nothing, or what always has a message
with_entry : (w : ℕ) (es : List Entry) (e : Entry) → AreSayable (told_to w es) → AreSayable (cons_option (order_told w e) []) → AreSayable (told_to w (es ++ e ∷ []))
with_entry w es e h k = subst AreSayable (sym (filter_map-append (order_told w) es (e ∷ []))) (sayable_more (told_to w es) (told_to w (e ∷ [])) h k)

said_nothing : (w : ℕ) (s : State) (e : Entry) → may_follow s e ≡ true → AreSayable (cons_option (order_told w e) [])
said_nothing w s (Ready v) h = tt
said_nothing w s (Collected v g) h = tt
said_nothing w s (Done v n o ms b) h = tt
said_nothing w s (Back v ns) h = tt
said_nothing w s (Finished v) h = tt
said_nothing w s (Refused v text) h = tt
said_nothing w s (Down v c b) h = tt
said_nothing w s (NotStarted v) h = tt
said_nothing w s (Start v slot) h = absurd (differ h)
said_nothing w s (Run v ns) h = absurd (differ h)
said_nothing w s (RunAll v) h = absurd (differ h)
said_nothing w s (Steal v ns) h = absurd (differ h)
said_nothing w s (Shutdown v) h = absurd (differ h)
said_nothing w s (Kill v) h = absurd (differ h)
said_nothing w s (Over how) h = absurd (differ h)

bare : (b : Bool) (o : Order) → AreSayable (o ∷ []) → AreSayable (cons_option (if b then Some o else None) [])
bare true o h = h
bare false o h = tt

module _ (settings : Settings) (w : ℕ) (s : State) (es : List Entry) (k : Placed s) (t : Tells settings w s es) where
  abbrev Then_ : Entry → Type 0
  Then_ e = is_orderly s e ≡ true → Deals w (after_effect s e) (es ++ e ∷ []) → Bounded settings (after_effect s e) → AreSayable (told_to w (es ++ e ∷ []))

  -- an order with tests, of this worker or of another
  with_tests : (v : ℕ) (o : Order) (e : Entry) → order_told w e ≡ (if v == w then Some o else None) → (in_rota v s.books.table ≡ true) → (is_active v (after_effect s e).books ≡ is_active v s.books) → Deals w (after_effect s e) (es ++ e ∷ []) → Bounded settings (after_effect s e) → AreSayable (told_to w (es ++ e ∷ []))
  with_tests v o e told rota same d b = elim (cases_of (v == w)) [
    | inl h ↦ (let own : v ≡ w = grind (arith, nat_tests, h) in active_sayable settings w (after_effect s e) (es ++ e ∷ []) b d (subst (λ (u : ℕ). is_active u (after_effect s e).books ≡ true) own (same ∙ k.fits.active v rota)))
    | inr h ↦ with_entry w es e t.sayable (subst (λ (x : Option Order). AreSayable (cons_option x [])) (sym (told ∙ ap (λ (q : Bool). if q then Some o else None) h)) tt)
  ]

  told_then : (e : Entry) → Then_ e
  told_then (Start v slot) h d b = with_entry w es (Start v slot) t.sayable tt
  told_then (Run v ns) h d b = with_tests v (order.RunTests ns) (Run v ns) refl (gives-run v ns s k h).rota refl d b
  told_then (RunAll v) h d b = with_entry w es (RunAll v) t.sayable (bare (v == w) order.RunAll ((tt, tt), tt))
  told_then (Steal v ns) h d b = with_tests v (order.Steal ns) (Steal v ns) refl (steal-rota v ns s h) refl d b
  told_then (Shutdown v) h d b = with_entry w es (Shutdown v) t.sayable (bare (v == w) order.Shutdown ((tt, tt), tt))
  told_then (Kill v) h d b = with_entry w es (Kill v) t.sayable tt
  told_then (Over how) h d b = with_entry w es (Over how) t.sayable tt
  told_then (Ready v) h d b = absurd (differ h)
  told_then (Collected v g) h d b = absurd (differ h)
  told_then (Done v n o ms x) h d b = absurd (differ h)
  told_then (Back v ns) h d b = absurd (differ h)
  told_then (Finished v) h d b = absurd (differ h)
  told_then (Refused v text) h d b = absurd (differ h)
  told_then (Down v c x) h d b = absurd (differ h)
  told_then (NotStarted v) h d b = absurd (differ h)

keeps_tells : (settings : Settings) (w : ℕ) → Keeps settings (Tells settings w)
keeps_tells settings w = record {
  said = λ s es e t m at x. record {
    bounded = bounded-input settings s e m x.bounded;
    deals = (keeps_deals settings w).said s es e t m at x.deals;
    sayable = with_entry w es e x.sayable (said_nothing w s e m);
  };
  told = λ s es e p m at x. (let d = (keeps_deals settings w).told s es e p m at x.deals in let b = bounded-output settings s e m x.bounded in record {
    bounded = b;
    deals = d;
    sayable = told_then settings w s es p x e m d b;
  });
  settled = λ s es x. record {
    bounded = record { settings_are = x.bounded.settings_are; sizes = x.bounded.sizes; whole = x.bounded.whole; lists = x.bounded.lists };
    deals = (keeps_deals settings w).settled s es x.deals;
    sayable = x.sayable;
  };
}

-- Each order of a run has a message.
pub run_sayable : (settings : Settings) (taken : List News) (w : ℕ) → IsProper settings [] → AreSayable (told_to w (run_of settings taken).entries)
run_sayable settings taken w proper = (at-run settings (run_of settings taken) (Tells settings w) (keeps_tells settings w) (sound-run settings taken proper) first).sayable
  where
    first : Tells settings w (no_one settings) []
    first = record {
      bounded = record { settings_are = refl; sizes = λ slot. omega arith; whole = λ h. omega arith; lists = λ slot. omega arith };
      deals = deals-none settings w;
      sayable = tt;
    }
