-- The counts of a run and its stop are those that its journal tells.
use Rattle.std.proofs.Common.{◌≡◌, ℕ, suc, ◌+◌, ◌≤◌, ◌<◌, List, [], ◌∷◌, ◌++◌, length, map, Bool, true, false, not, ◌&&◌, refl, ap, sym, ◌∙◌, subst, arith, inl, inr, append_assoc}
use Rattle.std.specs.Prelude.{◌==◌, ◌⊎◌, if◌then◌else◌, filter, nat_lt, Option, Some, None, is_some}
use Rattle.std.proofs.lemmas.Bool.Decides.{nat_tests}
use Rattle.std.proofs.lemmas.List.{append-nil}
use Rattle.xd_journal.specs.declared.settings.Settings.{Settings}
use Rattle.xd_journal.specs.declared.entry.Ids.{Ids}
use Rattle.xd_journal.specs.declared.entry.Ids.TheVariants as ids
use Rattle.xd_journal.specs.declared.entry.Outcome.{Outcome}
use Rattle.xd_journal.specs.declared.entry.Outcome.TheVariants.{Passed, Skipped, Failed}
use Rattle.xd_journal.specs.declared.entry.RunStop.{RunStop}
use Rattle.xd_journal.specs.declared.entry.RunStop.TheVariants.{MaxFail, Restarts, Unequal, CollectError}
use Rattle.xd_journal.specs.declared.entry.Entry.{Entry}
use Rattle.xd_journal.specs.declared.entry.Entry.TheVariants.{Ready, Collected, Done, Back, Finished, Refused, Down, NotStarted, Start, Run, RunAll, Steal, Shutdown, Kill, Over}
use Rattle.xd_journal.specs.Stop.{reaches}
use Rattle.xd_run.specs.declared.member.Listed.{Listed}
use Rattle.xd_run.specs.Table.{crash_item, held, joined}
use Rattle.xd_run.specs.Plan.{base, is_each, items_named}
use Rattle.xd_run.specs.Books.{Books, marked}
use Rattle.xd_run.specs.Workers.{has_collected, is_active, made_collected, slot_of, was_ready}
use Rattle.xd_run.specs.Collections.{differ_at, ids_of, key, listed, listed_in, lists_with, unequal, with_list}
use Rattle.xd_run.specs.Stops.{at_limit, or_stop, out_of_restarts, stopped_by}
use Rattle.xd_run.specs.Retry.{is_retry}
use Rattle.xd_run.specs.Sharing.{State, in_books, shared_now}
use Rattle.xd_run.specs.Deaths.{buried, gone}
use Rattle.xd_run.specs.Results.{completed_first, done_stop, failing}
use Rattle.xd_run.specs.State.{after_effect, no_one}
use Rattle.xd_run.specs.Proper.{are_ids, may_follow}
use Rattle.xd_run.specs.Orderly.{is_orderly}
use Rattle.xd_run.specs.Reports.{Report, Result, Crash, reports, reports_of}
use Rattle.xd_run_laws.specs.Stopped.{Brings, Collects, StopsBy, deaths, fails, failures, is_death, is_death_of}
use Rattle.xd_run_laws.proofs.Logic.{differ, split-and}
use Rattle.xd_run_laws.proofs.Turns.{Tidy}
use Rattle.xd_run_laws.proofs.Inputs.{collecting-keeps}
use Rattle.xd_run_laws.proofs.Places.{no-crash}
use Rattle.xd_run_laws.proofs.Told.{none-held}
use Rattle.xd_run_laws.proofs.Walk.{Keeps, reports-more}

count-append : {A : Type 0} (test : A → Bool) (xs ys : List A) → length (filter test (xs ++ ys)) ≡ length (filter test xs) + length (filter test ys)
count-append test [] ys = omega arith
count-append test (x ∷ xs) ys = elim (test x) as (λ b. length (if b then x ∷ filter test (xs ++ ys) else filter test (xs ++ ys)) ≡ length (if b then x ∷ filter test xs else filter test xs) + length (filter test ys)) [
  | true ↦ omega (arith, count-append test xs ys)
  | false ↦ count-append test xs ys
]

-- neither limit is reached
pub record Under (settings : Settings) (es : List Entry) : Type 0 where
  failed : reaches settings.maxfail (failures (reports settings es)) ≡ false
  lost : deaths es ≤ settings.restarts

-- the state tells what the entries tell
pub record Tells (settings : Settings) (s : State) (es : List Entry) : Type 0 where
  settings_are : s.books.settings ≡ settings
  failures_are : s.books.failures ≡ failures (reports settings es)
  deaths_are : s.books.deaths ≡ deaths es
  lists : (k : ℕ) (l : Listed) → listed_in k s.books.lists ≡ Some l → Collects es l.worker l.ids
  under : s.books.stop ≡ None → Under settings es
  pub stops : (how : RunStop) → s.books.stop ≡ Some how → StopsBy settings es how

-- one entry more

collects-more : (es : List Entry) (e : Entry) (w : ℕ) (own : List (List ℕ)) → Collects es w own → Collects (es ++ e ∷ []) w own
collects-more es e w own c = record {
  before = c.before;
  after = c.after ++ e ∷ [];
  are = ap (λ (xs : List Entry). xs ++ e ∷ []) c.are ∙ append_assoc c.before (Collected w (ids.List own) ∷ c.after) (e ∷ []);
}

pub stops-following : (settings : Settings) (es more : List Entry) (how : RunStop) → StopsBy settings es how → StopsBy settings (es ++ more) how
stops-following settings es more how c = record {
  before = c.before;
  last = c.last;
  after = c.after ++ more;
  are = ap (λ (xs : List Entry). xs ++ more) c.are ∙ append_assoc c.before (c.last ∷ c.after) more;
  brings = c.brings;
}

-- of two stops the first counts

or-none : (a b : Option RunStop) → or_stop a b ≡ None → (a ≡ None) × (b ≡ None)
or-none None b h = (refl, h)
or-none (Some how) b h = absurd cc

or-some : (a b : Option RunStop) (how : RunStop) → or_stop a b ≡ Some how → (a ≡ Some how) ⊎ ((a ≡ None) × (b ≡ Some how))
or-some None b how h = inr (refl, h)
or-some (Some first) b how h = inl h

or-nothing : (a : Option RunStop) → or_stop a None ≡ a
or-nothing None = refl
or-nothing (Some how) = refl

-- the stop that an entry brings comes after those before it
record Adds (settings : Settings) (s t : State) (es : List Entry) (e : Entry) : Type 0 where
  new : Option RunStop
  stop_is : t.books.stop ≡ or_stop s.books.stop new
  under : s.books.stop ≡ None → new ≡ None → Under settings (es ++ e ∷ [])
  brings : (how : RunStop) → s.books.stop ≡ None → new ≡ Some how → Brings settings es e how

tells-more : (settings : Settings) (s t : State) (es : List Entry) (e : Entry) → t.books.settings ≡ s.books.settings
    → t.books.failures ≡ failures (reports settings (es ++ e ∷ [])) → t.books.deaths ≡ deaths (es ++ e ∷ [])
    → ((k : ℕ) (l : Listed) → listed_in k t.books.lists ≡ Some l → Collects (es ++ e ∷ []) l.worker l.ids) → Adds settings s t es e → Tells settings s es → Tells settings t (es ++ e ∷ [])
tells-more settings s t es e same f d ls a k = record {
  settings_are = same ∙ k.settings_are;
  failures_are = f;
  deaths_are = d;
  lists = ls;
  under = λ h. (let p = or-none s.books.stop a.new (sym a.stop_is ∙ h) in a.under p.0 p.1);
  stops = λ how h. elim (or-some s.books.stop a.new how (sym a.stop_is ∙ h)) [
    | inl p ↦ stops-following settings es (e ∷ []) how (k.stops how p)
    | inr p ↦ record { before = es; last = e; after = []; are = refl; brings = a.brings how p.0 p.1 }
  ];
}

-- an entry that reports nothing and is no death

failures-more : (settings : Settings) (es : List Entry) (e : Entry) (rs : List Report) → reports settings (es ++ e ∷ []) ≡ reports settings es ++ rs
    → failures (reports settings (es ++ e ∷ [])) ≡ failures (reports settings es) + failures rs
failures-more settings es e rs h = ap failures h ∙ count-append fails (reports settings es) rs

deaths-more : (es : List Entry) (e : Entry) → deaths (es ++ e ∷ []) ≡ deaths es + deaths (e ∷ [])
deaths-more es e = count-append is_death es (e ∷ [])

under-same : (settings : Settings) (es : List Entry) (e : Entry) → failures (reports settings (es ++ e ∷ [])) ≡ failures (reports settings es) → deaths (es ++ e ∷ []) ≡ deaths es
    → Under settings es → Under settings (es ++ e ∷ [])
under-same settings es e f d u = record {
  failed = ap (λ (n : ℕ). reaches settings.maxfail n) f ∙ u.failed;
  lost = subst (λ (n : ℕ). n ≤ settings.restarts) (sym d) u.lost;
}

-- it reports no failure
record IsMild (settings : Settings) (es : List Entry) (e : Entry) : Type 0 where
  failed : failures (reports settings (es ++ e ∷ [])) ≡ failures (reports settings es)
  lost : deaths (es ++ e ∷ []) ≡ deaths es

same-stop : (x y : RunStop) → Some x ≡ Some y → x ≡ y
same-stop x y h = cc

mild-of : (settings : Settings) (es : List Entry) (e : Entry) → reports settings (es ++ e ∷ []) ≡ reports settings es ++ [] → deaths (e ∷ []) ≡ 0 → IsMild settings es e
mild-of settings es e r d = record {
  failed = ap failures (r ∙ append-nil (reports settings es));
  lost = (let a = deaths-more es e in omega (arith, a, d));
}

-- it may bring a stop, and leaves the collections
tells-mild : (settings : Settings) (s t : State) (es : List Entry) (e : Entry) (new : Option RunStop) → t.books.settings ≡ s.books.settings → t.books.failures ≡ s.books.failures → t.books.deaths ≡ s.books.deaths
    → t.books.lists ≡ s.books.lists → t.books.stop ≡ or_stop s.books.stop new → ((how : RunStop) → new ≡ Some how → Brings settings es e how) → IsMild settings es e → Tells settings s es → Tells settings t (es ++ e ∷ [])
tells-mild settings s t es e new same f d ls stop b m k =
    tells-more settings s t es e same (f ∙ k.failures_are ∙ sym m.failed) (d ∙ k.deaths_are ∙ sym m.lost)
    (λ i l h. collects-more es e l.worker l.ids (k.lists i l (ap (λ (xs : List Listed). listed_in i xs) (sym ls) ∙ h)))
    (record { new = new; stop_is = stop; under = λ p q. under-same settings es e m.failed m.lost (k.under p); brings = λ how p q. b how q }) k

tells-quiet : (settings : Settings) (s t : State) (es : List Entry) (e : Entry) → t.books.settings ≡ s.books.settings → t.books.failures ≡ s.books.failures → t.books.deaths ≡ s.books.deaths
    → t.books.lists ≡ s.books.lists → t.books.stop ≡ s.books.stop → IsMild settings es e → Tells settings s es → Tells settings t (es ++ e ∷ [])
tells-quiet settings s t es e same f d ls stop m k = tells-mild settings s t es e None same f d ls (stop ∙ sym (or-nothing s.books.stop)) (λ how h. absurd cc) m k

-- a test ends

result-fails : (b : Bool) (i j w : ℕ) (u : Outcome) → failures (map (λ item. Result w item u) (if b then i ∷ [] else j ∷ [])) ≡ failing u
result-fails true i j w (Failed code) = refl
result-fails true i j w Passed = refl
result-fails true i j w Skipped = refl
result-fails false i j w (Failed code) = refl
result-fails false i j w Passed = refl
result-fails false i j w Skipped = refl

-- the limit on failures, after an entry that brings n in all

limit-none : (b : Books) → at_limit b ≡ None → reaches b.settings.maxfail b.failures ≡ false
limit-none b h = by (reaches b.settings.maxfail b.failures) h
  where
    by : (c : Bool) → (if c then Some (MaxFail b.failures) else None) ≡ None → c ≡ false
    by true q = absurd cc
    by false q = refl

limit-some : (b : Books) (how : RunStop) → at_limit b ≡ Some how → (how ≡ MaxFail b.failures) × (reaches b.settings.maxfail b.failures ≡ true)
limit-some b how h = by (reaches b.settings.maxfail b.failures) h
  where
    by : (c : Bool) → (if c then Some (MaxFail b.failures) else None) ≡ Some how → (how ≡ MaxFail b.failures) × (c ≡ true)
    by true q = (cc, refl)
    by false q = absurd cc

-- what the limit says where the state after the entry counts these failures
limit-brings : (settings : Settings) (es : List Entry) (e : Entry) (b : Books) (how : RunStop) → b.settings ≡ settings → b.failures ≡ failures (reports settings (es ++ e ∷ [])) → Under settings es
    → at_limit b ≡ Some how → Brings settings es e how
limit-brings settings es e b how same f u h =
    let p = limit-some b how h in
    subst (λ (x : RunStop). Brings settings es e x) (sym p.0) (record {
      counted = f;
      now = ap (λ (x : Settings). reaches x.maxfail b.failures) (sym same) ∙ p.1;
      not_before = u.failed;
    })

limit-under : (settings : Settings) (es : List Entry) (e : Entry) (b : Books) → b.settings ≡ settings → b.failures ≡ failures (reports settings (es ++ e ∷ []))
    → at_limit b ≡ None → reaches settings.maxfail (failures (reports settings (es ++ e ∷ []))) ≡ false
limit-under settings es e b same f h = ap (λ (n : ℕ). reaches settings.maxfail n) (sym f) ∙ ap (λ (x : Settings). reaches x.maxfail b.failures) (sym same) ∙ limit-none b h

done-under : (settings : Settings) (es : List Entry) (e : Entry) (u : Outcome) (b : Books) → b.settings ≡ settings → b.failures ≡ failures (reports settings (es ++ e ∷ []))
    → failures (reports settings (es ++ e ∷ [])) ≡ failures (reports settings es) + failing u → Under settings es → done_stop u b ≡ None
    → reaches settings.maxfail (failures (reports settings (es ++ e ∷ []))) ≡ false
done-under settings es e (Failed code) b same f g u h = limit-under settings es e b same f h
done-under settings es e Passed b same f g u h = (let z : failures (reports settings (es ++ e ∷ [])) ≡ failures (reports settings es) = omega (arith, g) in ap (λ (n : ℕ). reaches settings.maxfail n) z ∙ u.failed)
done-under settings es e Skipped b same f g u h = (let z : failures (reports settings (es ++ e ∷ [])) ≡ failures (reports settings es) = omega (arith, g) in ap (λ (n : ℕ). reaches settings.maxfail n) z ∙ u.failed)

done-brings : (settings : Settings) (es : List Entry) (e : Entry) (u : Outcome) (b : Books) → b.settings ≡ settings → b.failures ≡ failures (reports settings (es ++ e ∷ []))
    → Under settings es → (how : RunStop) → done_stop u b ≡ Some how → Brings settings es e how
done-brings settings es e (Failed code) b same f u how h = limit-brings settings es e b how same f u h
done-brings settings es e Passed b same f u how h = absurd cc
done-brings settings es e Skipped b same f u how h = absurd cc

tells-done : (settings : Settings) (s : State) (es : List Entry) (w i : ℕ) (u : Outcome) (m : ℕ) (o : List ℕ) → reports settings (es ++ Done w i u m o ∷ []) ≡ reports settings es ++ reports_of s (Done w i u m o)
    → Tells settings s es → Tells settings (after_effect s (Done w i u m o)) (es ++ Done w i u m o ∷ [])
tells-done settings s es w i u m o rs k =
    let e = Done w i u m o in
    let items = items_named (slot_of w s.books) (i ∷ []) s.plan in
    let c : Books = record (s.books) { table = completed_first w items s.books.table; failures = s.books.failures + failing u } in
    let added = failures-more settings es e (reports_of s e) rs in
    let one : failures (reports_of s e) ≡ failing u = result-fails (is_each s.plan.mode) (base (slot_of w s.books) s.plan + i) i w u in
    let g : failures (reports settings (es ++ e ∷ [])) ≡ failures (reports settings es) + failing u = omega (arith, added, one) in
    let old = k.failures_are in
    let f : s.books.failures + failing u ≡ failures (reports settings (es ++ e ∷ [])) = omega (arith, g, old) in
    let more : deaths (es ++ e ∷ []) ≡ deaths es + 0 = deaths-more es e in
    let d : deaths (es ++ e ∷ []) ≡ deaths es = omega (arith, more) in
    tells-more settings s (after_effect s e) es e refl f (k.deaths_are ∙ sym d) (λ j l h. collects-more es e l.worker l.ids (k.lists j l h))
    (record {
      new = done_stop u c;
      stop_is = refl;
      under = λ p q. record { failed = done-under settings es e u c k.settings_are f g (k.under p) q; lost = subst (λ (n : ℕ). n ≤ settings.restarts) (sym d) (k.under p).lost };
      brings = λ how p q. done-brings settings es e u c k.settings_are f (k.under p) how q;
    }) k

-- a worker is lost

crash-fails : (w : ℕ) (items : List ℕ) → failures (map (λ item. Crash w item) items) ≡ length items
crash-fails w [] = refl
crash-fails w (i ∷ is) = ap (λ (n : ℕ). suc n) (crash-fails w is)

restarts-none : (w : ℕ) (b : Books) → out_of_restarts w b ≡ None → b.deaths ≤ b.settings.restarts
restarts-none w b h = by (nat_lt b.settings.restarts b.deaths) refl h
  where
    by : (c : Bool) → nat_lt b.settings.restarts b.deaths ≡ c → (if c then Some (Restarts w b.settings.restarts) else None) ≡ None → b.deaths ≤ b.settings.restarts
    by true e q = absurd cc
    by false e q = grind (arith, nat_tests, e)

restarts-some : (w : ℕ) (b : Books) (how : RunStop) → out_of_restarts w b ≡ Some how → (how ≡ Restarts w b.settings.restarts) × (b.settings.restarts < b.deaths)
restarts-some w b how h = by (nat_lt b.settings.restarts b.deaths) refl h
  where
    by : (c : Bool) → nat_lt b.settings.restarts b.deaths ≡ c → (if c then Some (Restarts w b.settings.restarts) else None) ≡ Some how → (how ≡ Restarts w b.settings.restarts) × (b.settings.restarts < b.deaths)
    by true e q = (cc, grind (arith, nat_tests, e))
    by false e q = absurd cc

-- the entry is a death of the worker
record IsDeath (settings : Settings) (s : State) (es : List Entry) (e : Entry) (w : ℕ) : Type 0 where
  its : is_death_of w e ≡ true
  one : deaths (e ∷ []) ≡ 1
  crash : failures (reports settings (es ++ e ∷ [])) ≡ failures (reports settings es) + length (crash_item (is_retry w s.books) (held w s.books.table))

tells-lost : (settings : Settings) (s : State) (es : List Entry) (e : Entry) (w : ℕ) → IsDeath settings s es e w → Tells settings s es → Tells settings (after_effect s (NotStarted w)) (es ++ e ∷ [])
tells-lost settings s es e w x k =
    let c : Books = gone w (buried w (is_retry w s.books) s.books) in
    let added = x.crash in
    let old = k.failures_are in
    let f : s.books.failures + length (crash_item (is_retry w s.books) (held w s.books.table)) ≡ failures (reports settings (es ++ e ∷ [])) = omega (arith, added, old) in
    let more = deaths-more es e in
    let one = x.one in
    let lost = k.deaths_are in
    let d : s.books.deaths + 1 ≡ deaths (es ++ e ∷ []) = omega (arith, more, one, lost) in
    let limit : c.settings.restarts ≡ settings.restarts = ap (λ (y : Settings). y.restarts) k.settings_are in
    tells-more settings s (after_effect s (NotStarted w)) es e refl f d (λ j l h. collects-more es e l.worker l.ids (k.lists j l h))
    (record {
      new = or_stop (at_limit c) (out_of_restarts w c);
      stop_is = refl;
      under = λ p q.
          (let r = or-none (at_limit c) (out_of_restarts w c) q in
          let few : s.books.deaths + 1 ≤ c.settings.restarts = restarts-none w c r.1 in
          record { failed = limit-under settings es e c k.settings_are f r.0; lost = omega (arith, few, limit, d) });
      brings = λ how p q. elim (or-some (at_limit c) (out_of_restarts w c) how q) [
        | inl r ↦ limit-brings settings es e c how k.settings_are f (k.under p) r
        | inr r ↦
            (let a = restarts-some w c how r.1 in
            let many : c.settings.restarts < s.books.deaths + 1 = a.1 in
            let before = (k.under p).lost in
            let exact : deaths (es ++ e ∷ []) ≡ c.settings.restarts + 1 = omega (arith, many, before, limit, d, lost) in
            subst (λ (y : RunStop). Brings settings es e y) (sym a.0) (record { limit_is = limit; one_more = exact; its_death = x.its }))
      ];
    }) k

same-worker : (w : ℕ) → (w == w) ≡ true
same-worker w = grind (arith, nat_tests)

down-lost : (settings : Settings) (s : State) (es : List Entry) (w : ℕ) (e : Entry) → is_death_of w e ≡ true → deaths (e ∷ []) ≡ 1
    → reports settings (es ++ e ∷ []) ≡ reports settings es ++ map (λ item. Crash w item) (crash_item (is_retry w s.books) (held w s.books.table)) → IsDeath settings s es e w
down-lost settings s es w e its one rs =
    let items = crash_item (is_retry w s.books) (held w s.books.table) in
    let a = failures-more settings es e (map (λ item. Crash w item) items) rs in
    let b = crash-fails w items in
    record { its = its; one = one; crash = omega (arith, a, b) }

-- a worker collects

abbrev Absent : Option Listed → Type 0
Absent o = o ≡ None

listed-from : (k : ℕ) (o : Option Listed) (l x : Listed) (ls : List Listed) → listed_in k (lists_with o l ls) ≡ Some x → (listed_in k ls ≡ Some x) ⊎ (Absent o × (l ≡ x))
listed-from k (Some first) l x ls h = inl h
listed-from k None l x [] h = inr (refl, by (l.slot == k) h)
  where
    by : (b : Bool) → (if b then Some l else None) ≡ Some x → l ≡ x
    by true q = cc
    by false q = absurd cc
listed-from k None l x (y ∷ ls) h =
    (elim (y.slot == k) as (λ b. (if b then Some y else listed_in k (ls ++ l ∷ [])) ≡ Some x → ((if b then Some y else listed_in k ls) ≡ Some x) ⊎ (Absent None × (l ≡ x)))
    [ true ↦ λ q. inl q | false ↦ λ q. listed-from k None l x ls q ]) h

-- the ids that come in first are listed as such
own-ids : (s : State) (es : List Entry) (w : ℕ) (g : Ids) → are_ids g w s ≡ true → listed w s.books ≡ None → Collects (es ++ Collected w g ∷ []) w (ids_of g)
own-ids s es w ids.Same h o = absurd (differ (sym (ap (λ (x : Option Listed). is_some x) o) ∙ h))
own-ids s es w (ids.List own) h o = record { before = es; after = []; are = refl }

place-is : (w v : ℕ) (o : Option ℕ) (how : RunStop) → (elim o as (λ _. Option RunStop) [ None ↦ None | Some place ↦ Some (Unequal w v place) ]) ≡ Some how → (place : ℕ) × (o ≡ Some place) × (how ≡ Unequal w v place)
place-is w v None how h = absurd cc
place-is w v (Some place) how h = (place, refl, cc)

unequal-brings : (settings : Settings) (es : List Entry) (w : ℕ) (g : Ids) (o : Option Listed) → ((l : Listed) → o ≡ Some l → Collects es l.worker l.ids) → (how : RunStop) → unequal w g o ≡ Some how
    → Brings settings es (Collected w g) how
unequal-brings settings es w g None c how h = absurd (by g h)
  where
    by : (x : Ids) → unequal w x None ≡ Some how → ⊥
    by ids.Same q = absurd cc
    by (ids.List own) q = absurd cc
unequal-brings settings es w ids.Same (Some l) c how h = absurd cc
unequal-brings settings es w (ids.List own) (Some l) c how h =
    let p = place-is w l.worker (differ_at l.ids own) how h in
    subst (λ (y : RunStop). Brings settings es (Collected w (ids.List own)) y) (sym p.2)
    (record { own = own; last_is = refl; first = l.ids; collected = c l refl; differ = p.1 })

tells-collected : (settings : Settings) (s : State) (es : List Entry) (w : ℕ) (g : Ids) → may_follow s (Collected w g) ≡ true → IsMild settings es (Collected w g) → Tells settings s es
    → Tells settings (after_effect s (Collected w g)) (es ++ Collected w g ∷ [])
tells-collected settings s es w g h m k =
    let e = Collected w g in
    let now = in_books (λ b. marked (made_collected w) (with_list w g b)) s in
    let o = listed w s.books in
    let stop = unequal w g o in
    let new : Listed = record { slot = key w s.books; worker = w; ids = ids_of g } in
    let fits = (split-and (is_active w s.books && was_ready w s.books && not (has_collected w s.books)) (are_ids g w s) h).1 in
    let lists : (i : ℕ) (l : Listed) → listed_in i now.books.lists ≡ Some l → Collects (es ++ e ∷ []) l.worker l.ids =
    λ i l q. elim (listed-from i o new l s.books.lists q) [
      | inl r ↦ collects-more es e l.worker l.ids (k.lists i l r)
      | inr r ↦ subst (λ (x : Listed). Collects (es ++ e ∷ []) x.worker x.ids) r.1 (own-ids s es w g fits r.0)
    ] in
    let by : (t : State) (how : Option RunStop) → t.books.settings ≡ s.books.settings → t.books.failures ≡ s.books.failures → t.books.deaths ≡ s.books.deaths → t.books.lists ≡ now.books.lists
    → t.books.stop ≡ or_stop s.books.stop how → ((x : RunStop) → how ≡ Some x → Brings settings es e x) → Tells settings t (es ++ e ∷ []) =
    λ t how a f d ls st b. tells-more settings s t es e a (f ∙ k.failures_are ∙ sym m.failed) (d ∙ k.deaths_are ∙ sym m.lost)
    (λ i l q. lists i l (ap (λ (xs : List Listed). listed_in i xs) (sym ls) ∙ q))
    (record { new = how; stop_is = st; under = λ p q. under-same settings es e m.failed m.lost (k.under p); brings = λ x p q. b x q }) k in
    let quiet : s.books.stop ≡ or_stop s.books.stop None = sym (or-nothing s.books.stop) in
    let nothing : (x : RunStop) → None ≡ Some x → Brings settings es e x = λ x q. absurd cc in
    let j = in_books (λ b. record b { table = joined w b.table }) now in
    collecting-keeps (λ (u : State). Tells settings u (es ++ e ∷ [])) now w stop
    (by now None refl refl refl refl quiet nothing)
    (by (in_books (stopped_by stop) now) stop refl refl refl refl refl (λ x q. unequal-brings settings es w g o (λ l r. k.lists (key w s.books) l r) x q))
    (by j None refl refl refl refl quiet nothing)
    (λ n. by (shared_now j) None refl refl refl refl quiet nothing)

-- each entry

tells-said : (settings : Settings) (s : State) (es : List Entry) (e : Entry) → Tidy s → may_follow s e ≡ true → reports settings (es ++ e ∷ []) ≡ reports settings es ++ reports_of s e → Tells settings s es
    → Tells settings (after_effect s e) (es ++ e ∷ [])
tells-said settings s es (Ready w) d h rs k = tells-quiet settings s (after_effect s (Ready w)) es (Ready w) refl refl refl refl refl (mild-of settings es (Ready w) rs refl) k
tells-said settings s es (Collected w g) d h rs k = tells-collected settings s es w g h (mild-of settings es (Collected w g) rs refl) k
tells-said settings s es (Done w i u m o) d h rs k = tells-done settings s es w i u m o rs k
tells-said settings s es (Back w is) d h rs k = tells-quiet settings s (after_effect s (Back w is)) es (Back w is) refl refl refl refl refl (mild-of settings es (Back w is) rs refl) k
tells-said settings s es (Finished w) d h rs k = tells-quiet settings s (after_effect s (Finished w)) es (Finished w) refl refl refl refl refl (mild-of settings es (Finished w) rs refl) k
tells-said settings s es (Refused w t) d h rs k =
    tells-mild settings s (after_effect s (Refused w t)) es (Refused w t) (Some (CollectError w)) refl refl refl refl refl
    (λ how q. subst (λ (y : RunStop). Brings settings es (Refused w t) y) (same-stop (CollectError w) how q) (record { text = t; last_is = refl })) (mild-of settings es (Refused w t) rs refl) k
tells-said settings s es (Down w c o) d h rs k =
    (let t = tells-lost settings s es (Down w c o) w (down-lost settings s es w (Down w c o) (same-worker w) refl rs) k in
    record { settings_are = t.settings_are; failures_are = t.failures_are; deaths_are = t.deaths_are; lists = t.lists; under = t.under; stops = t.stops })
tells-said settings s es (NotStarted w) d h rs k =
    tells-lost settings s es (NotStarted w) w
    (down-lost settings s es w (NotStarted w) (same-worker w) refl
    (rs ∙ ap (λ (xs : List ℕ). reports settings es ++ map (λ item. Crash w item) xs) (sym (ap (λ (xs : List ℕ). crash_item (is_retry w s.books) xs) (none-held s w d.placed h) ∙ no-crash (is_retry w s.books))))) k
tells-said settings s es (Start w slot) d h rs k = absurd (differ h)
tells-said settings s es (Run w is) d h rs k = absurd (differ h)
tells-said settings s es (RunAll w) d h rs k = absurd (differ h)
tells-said settings s es (Steal w is) d h rs k = absurd (differ h)
tells-said settings s es (Shutdown w) d h rs k = absurd (differ h)
tells-said settings s es (Kill w) d h rs k = absurd (differ h)
tells-said settings s es (Over how) d h rs k = absurd (differ h)

tells-told : (settings : Settings) (s : State) (es : List Entry) (e : Entry) → is_orderly s e ≡ true → reports settings (es ++ e ∷ []) ≡ reports settings es ++ reports_of s e → Tells settings s es
    → Tells settings (after_effect s e) (es ++ e ∷ [])
tells-told settings s es (Start w slot) h rs k = tells-quiet settings s (after_effect s (Start w slot)) es (Start w slot) refl refl refl refl refl (mild-of settings es (Start w slot) rs refl) k
tells-told settings s es (Run w is) h rs k = tells-quiet settings s (after_effect s (Run w is)) es (Run w is) refl refl refl refl refl (mild-of settings es (Run w is) rs refl) k
tells-told settings s es (RunAll w) h rs k = tells-quiet settings s (after_effect s (RunAll w)) es (RunAll w) refl refl refl refl refl (mild-of settings es (RunAll w) rs refl) k
tells-told settings s es (Steal w is) h rs k = tells-quiet settings s (after_effect s (Steal w is)) es (Steal w is) refl refl refl refl refl (mild-of settings es (Steal w is) rs refl) k
tells-told settings s es (Shutdown w) h rs k = tells-quiet settings s (after_effect s (Shutdown w)) es (Shutdown w) refl refl refl refl refl (mild-of settings es (Shutdown w) rs refl) k
tells-told settings s es (Kill w) h rs k = tells-quiet settings s (after_effect s (Kill w)) es (Kill w) refl refl refl refl refl (mild-of settings es (Kill w) rs refl) k
tells-told settings s es (Over how) h rs k = tells-quiet settings s (after_effect s (Over how)) es (Over how) refl refl refl refl refl (mild-of settings es (Over how) rs refl) k
tells-told settings s es (Ready w) h rs k = absurd (differ h)
tells-told settings s es (Collected w g) h rs k = absurd (differ h)
tells-told settings s es (Done w i u m o) h rs k = absurd (differ h)
tells-told settings s es (Back w is) h rs k = absurd (differ h)
tells-told settings s es (Finished w) h rs k = absurd (differ h)
tells-told settings s es (Refused w t) h rs k = absurd (differ h)
tells-told settings s es (Down w c o) h rs k = absurd (differ h)
tells-told settings s es (NotStarted w) h rs k = absurd (differ h)

pub keeps_tells : (settings : Settings) → Keeps settings (Tells settings)
keeps_tells settings = record {
  said = λ s es e d h at k. tells-said settings s es e d h (reports-more settings es e s at) k;
  told = λ s es e p h at k. tells-told settings s es e h (reports-more settings es e s at) k;
  settled = λ s es k. record { settings_are = k.settings_are; failures_are = k.failures_are; deaths_are = k.deaths_are; lists = k.lists; under = k.under; stops = k.stops };
}

no-limit : (limit : ℕ) → reaches limit 0 ≡ false
no-limit limit = grind (arith, nat_tests)

pub tells-none : (settings : Settings) → Tells settings (no_one settings) []
tells-none settings = record {
  settings_are = refl;
  failures_are = refl;
  deaths_are = refl;
  lists = λ k l h. absurd cc;
  under = λ h. record { failed = no-limit settings.maxfail; lost = omega arith };
  stops = λ how h. absurd cc;
}
