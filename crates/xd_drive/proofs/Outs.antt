-- What follows an input can be performed at a hub, and keeps the agreement of its marks with the run.
use Rattle.std.proofs.Common.{◌≡◌, ℕ, ◌≤◌, ◌<◌, List, [], ◌∷◌, ◌++◌, drop, length, map, Bool, true, false, not, ◌&&◌, ◌||◌, refl, ap, sym, ◌∙◌, subst, arith, inl, inr}
use Rattle.std.specs.Prelude.{◌==◌, nat_lt, nat_le, is_none, if◌then◌else◌}
use Rattle.std.specs.List.{list_all}
use Rattle.std.proofs.lemmas.Bool.Decides.{nat_tests}
use Rattle.std.proofs.lemmas.List.Folds.{list_all-append}
use Rattle.xd_journal.specs.declared.settings.Settings.{Settings}
use Rattle.xd_journal.specs.declared.entry.Entry.{Entry}
use Rattle.xd_journal.specs.declared.entry.Entry.TheVariants.{Ready, Collected, Done, Back, Finished, Refused, Down, NotStarted, Start, Run, RunAll, Steal, Shutdown, Kill, Over}
use Rattle.xd_run.specs.declared.member.Member.{Member}
use Rattle.xd_run.specs.Numbers.{all_distinct, all_among}
use Rattle.xd_edge.specs.declared.mode.ModeKind.{ModeKind}
use Rattle.xd_edge.specs.declared.mode.ModeKind.TheVariants.{Local, Each, Load, LoadScope, LoadFile, LoadGroup, WorkSteal}
use Rattle.xd_run.specs.Table.{assigned, held, in_rota, seat_shut, workers_of}
use Rattle.xd_run.specs.Plan.{is_each, items_named, slot_items}
use Rattle.xd_run.specs.Turn.{Turn, shut}
use Rattle.xd_run.specs.Each as each
use Rattle.xd_run.specs.Modes.{ModeCall, turned, each_turn}
use Rattle.xd_run.specs.Modes.ModeCall.{Share, Joined, TestDone, TestsBack, Died}
use Rattle.xd_run.specs.Books.{Books}
use Rattle.xd_run.specs.Workers.{has_member, is_active, was_ready, is_shut, slot_of, started, waiting, made_shut}
use Rattle.xd_run.specs.Stops.{is_stopped, is_shutting}
use Rattle.xd_run.specs.Sharing.{State}
use Rattle.xd_run.specs.State.{after_effect, after_entries, settles}
use Rattle.xd_run.specs.Outputs.{acts_of, outputs_of_death, outputs_of_joining, closing, outputs, own_outputs, shut_all, slots_of_rota, turn_of, unless_stopped}
use Rattle.xd_edge.specs.Limits.{most_tests}
use Rattle.xd_run.specs.Proper.{may_follow}
use Rattle.xd_run.specs.Orderly.{is_in_order, all_orderly, is_orderly, may_run, not_empty}
use Rattle.xd_run_laws.proofs.Logic.{and, cases_of, differ, in_both, not_true, split-and, split-or}
use Rattle.xd_run_laws.proofs.Members.{has, has-more, has-same}
use Rattle.xd_run_laws.proofs.Counts.{all_among-drop}
use Rattle.xd_run_laws.proofs.Placed.{Placed, placed-output}
use Rattle.xd_run_laws.proofs.Turns.{after_entries-first}
use Rattle.xd_drive.specs.Agrees.{Agrees}
use Rattle.xd_drive.specs.Marks.{Marks, may_tell}
use Rattle.xd_drive.specs.Performing.{marks_after, marks_after_entry, all_possible, possible}
use Rattle.xd_drive.proofs.Bounds.{Bounded, few-of_held, few-of_pool, few-of_slot, named-few}
use Rattle.xd_session_rules.proofs.Orders.{Tells, tells, tells-acts}

-- an order, or a start at a slot below the limit
abbrev pub plain : Bool → ℕ → Entry → Bool
plain steals limit (Run w indices) = true
plain steals limit (RunAll w) = true
plain steals limit (Steal w indices) = steals
plain steals limit (Shutdown w) = true
plain steals limit (Start w slot) = nat_lt slot limit
plain steals limit _ = false

abbrev pub Plain : Bool → ℕ → List Entry → Type 0
Plain steals limit es = list_all (plain steals limit) es ≡ true

plain-told : (limit : ℕ) (e : Entry) → tells e ≡ true → plain true limit e ≡ true
plain-told limit (Run w is) h = refl
plain-told limit (RunAll w) h = refl
plain-told limit (Steal w is) h = refl
plain-told limit (Shutdown w) h = refl
plain-told limit (Start w slot) h = absurd (differ h)
plain-told limit (Kill w) h = absurd (differ h)
plain-told limit (Over how) h = absurd (differ h)
plain-told limit (Ready w) h = absurd (differ h)
plain-told limit (Collected w g) h = absurd (differ h)
plain-told limit (Done w i u m o) h = absurd (differ h)
plain-told limit (Back w is) h = absurd (differ h)
plain-told limit (Finished w) h = absurd (differ h)
plain-told limit (Refused w t) h = absurd (differ h)
plain-told limit (Down w c o) h = absurd (differ h)
plain-told limit (NotStarted w) h = absurd (differ h)

plain-all : (limit : ℕ) (es : List Entry) → Tells es → Plain true limit es
plain-all limit [] h = refl
plain-all limit (e ∷ es) h = (let p = split-and (tells e) (list_all tells es) h in and (plain-told limit e p.0) (plain-all limit es p.1))

plain-join : (steals : Bool) (limit : ℕ) (xs ys : List Entry) → Plain steals limit xs → Plain steals limit ys → Plain steals limit (xs ++ ys)
plain-join steals limit xs ys a b = list_all-append (plain steals limit) xs ys ∙ and a b

plain-shut : (steals : Bool) (limit : ℕ) (ws : List ℕ) → Plain steals limit (map (λ w. Shutdown w) ws)
plain-shut steals limit [] = refl
plain-shut steals limit (w ∷ ws) = plain-shut steals limit ws

plain-closing : (steals : Bool) (limit : ℕ) (s : State) → Plain steals limit (closing s)
plain-closing steals limit s = in_both (Plain steals limit) (not (is_shutting s.books) && settles s) (shut_all s.books.members) [] (λ h. plain-shut steals limit (waiting s.books.members)) (λ h. refl)

plain-unless : (steals : Bool) (limit : ℕ) (b n : Books) (es : List Entry) → Plain steals limit es → Plain steals limit (unless_stopped b n es)
plain-unless steals limit b n es h =
    in_both (Plain steals limit) (is_stopped b) [] (if is_stopped n then shut_all n.members else es) (λ k. refl)
    (λ k. in_both (Plain steals limit) (is_stopped n) (shut_all n.members) es (λ l. plain-shut steals limit (waiting n.members)) (λ l. h))

abbrev steals_in : State → Bool
steals_in s = not (is_each s.plan.mode)

-- mode each asks nobody to give tests back

module _ (limit : ℕ) where
  abbrev InEach : Turn → Type 0
  InEach t = Plain false limit t.acts

  each-more : (t : Turn) (e : Entry) → InEach t → plain false limit e ≡ true → Plain false limit (t.acts ++ e ∷ [])
  each-more t e a b = plain-join false limit t.acts (e ∷ []) a (and b refl)

  each-shut : (w : ℕ) (t : Turn) → InEach t → InEach (shut w t)
  each-shut w t a = in_both InEach (seat_shut w t.table) t _ (λ h. a) (λ h. each-more t (Shutdown w) a refl)

  each-all : (w slot : ℕ) (t : Turn) → InEach t → InEach (each.give_all w slot t)
  each-all w slot t a = each-shut w (record t { table = assigned w (slot_items slot t.plan) t.table; acts = t.acts ++ RunAll w ∷ [] }) (each-more t (RunAll w) a refl)

  each-slots : (ws slots : List ℕ) (t : Turn) → InEach t → InEach (each.give_slots ws slots t)
  each-slots [] slots t a = a
  each-slots (w ∷ ws) [] t a = a
  each-slots (w ∷ ws) (s ∷ ss) t a = each-slots ws ss (each.give_all w s t) (each-all w s t a)

  each-left : (w slot : ℕ) (items : List ℕ) (t : Turn) → InEach t → InEach (each.give_of_slot w slot items t)
  each-left w slot [] t a = a
  each-left w slot (i ∷ is) t a = each-more t (Run w _) a refl

  each-turn : (c : ModeCall) (t : Turn) → InEach t → InEach (each_turn c t)
  each-turn (Share slots) t a = each-slots (workers_of t.table) slots t a
  each-turn (Joined w slot) t a = each-shut w (each.give_of_slot w slot (each.remainder slot t) t) (each-left w slot (each.remainder slot t) t a)
  each-turn (TestDone w ms) t a = a
  each-turn TestsBack t a = a
  each-turn Died t a = a

plain-acts : (limit : ℕ) (c : ModeCall) (s : State) → Plain (steals_in s) limit (acts_of c s)
plain-acts limit c s = by_mode s.plan.mode refl
  where
    others : Plain true limit (acts_of c s)
    others = plain-all limit (acts_of c s) (tells-acts c s)

    by_mode : (k : ModeKind) → s.plan.mode ≡ k → Plain (not (is_each k)) limit (acts_of c s)
    by_mode Each e = subst (λ (k : ModeKind). Plain false limit (turned k c (turn_of s)).acts) (sym e) (each-turn limit c (turn_of s) refl)
    by_mode Local e = others
    by_mode Load e = others
    by_mode LoadScope e = others
    by_mode LoadFile e = others
    by_mode LoadGroup e = others
    by_mode WorkSteal e = others

lower : (a b : ℕ) → a < b → nat_lt a b ≡ true
lower a b h = grind (arith, nat_tests)

plain-death : (limit w : ℕ) (t : State) → slot_of w t.books < limit → Plain (steals_in t) limit (outputs_of_death w t)
plain-death limit w t low =
    plain-join (steals_in t) limit (if t.books.shared then acts_of Died t else []) (Start (length t.books.members) (slot_of w t.books) ∷ [])
    (in_both (Plain (steals_in t) limit) t.books.shared (acts_of Died t) [] (λ h. plain-acts limit Died t) (λ h. refl))
    (and (lower (slot_of w t.books) limit low) refl)

plain-joining : (limit w : ℕ) (b : Books) (t : State) → Plain (steals_in t) limit (outputs_of_joining w b t)
plain-joining limit w b t =
    let joined = acts_of (Joined w (slot_of w t.books)) t in
    let shared = acts_of (Share (slots_of_rota t.books)) t in
    in_both (Plain (steals_in t) limit) b.shared joined (if t.books.shared then shared else []) (λ h. plain-acts limit (Joined w (slot_of w t.books)) t)
    (λ h. in_both (Plain (steals_in t) limit) t.books.shared shared [] (λ k. plain-acts limit (Share (slots_of_rota t.books)) t) (λ k. refl))

-- the outputs of an input: after the end of a worker its kill, and then, as after any other, orders and starts
abbrev pub kills_first : Entry → List Entry
kills_first (Down w cause output) = Kill w ∷ []
kills_first _ = []

pub record Follow (s : State) (e : Entry) (limit : ℕ) : Type 0 where
  pub rest : List Entry
  pub outs : outputs s e ≡ kills_first e ++ rest
  pub plain_rest : Plain (steals_in (after_effect s e)) limit rest

follow-plain : (s : State) (e : Entry) (limit : ℕ) → kills_first e ≡ [] → Plain (steals_in (after_effect s e)) limit (own_outputs s e (after_effect s e)) → Follow s e limit
follow-plain s e limit none own = record {
  rest = outputs s e;
  outs = ap (λ (k : List Entry). k ++ outputs s e) (sym none);
  plain_rest = plain-join (steals_in (after_effect s e)) limit (own_outputs s e (after_effect s e)) (closing (after_entries (after_effect s e) (own_outputs s e (after_effect s e)))) own (plain-closing (steals_in (after_effect s e)) limit (after_entries (after_effect s e) (own_outputs s e (after_effect s e))));
}

pub follow : (s : State) (e : Entry) (limit : ℕ) → may_follow s e ≡ true → ((w : ℕ) → is_active w s.books ≡ true → slot_of w (after_effect s e).books < limit) → Follow s e limit
follow s (Ready w) limit h low = follow-plain s (Ready w) limit refl (in_both (Plain (steals_in (after_effect s (Ready w))) limit) (is_shutting (after_effect s (Ready w)).books) (Shutdown w ∷ []) [] (λ k. refl) (λ k. refl))
follow s (Collected w g) limit h low =
    let t = after_effect s (Collected w g) in
    follow-plain s (Collected w g) limit refl (in_both (Plain (steals_in t) limit) (is_shut w s.books) [] (unless_stopped s.books t.books (outputs_of_joining w s.books t)) (λ k. refl)
    (λ k. plain-unless (steals_in t) limit s.books t.books (outputs_of_joining w s.books t) (plain-joining limit w s.books t)))
follow s (Done w i u m o) limit h low =
    let t = after_effect s (Done w i u m o) in
    follow-plain s (Done w i u m o) limit refl (plain-unless (steals_in t) limit s.books t.books (acts_of (TestDone w m) t) (plain-acts limit (TestDone w m) t))
follow s (Back w is) limit h low =
    let t = after_effect s (Back w is) in
    follow-plain s (Back w is) limit refl (plain-unless (steals_in t) limit s.books t.books (acts_of TestsBack t) (plain-acts limit TestsBack t))
follow s (Finished w) limit h low = follow-plain s (Finished w) limit refl refl
follow s (Refused w x) limit h low = (let t = after_effect s (Refused w x) in follow-plain s (Refused w x) limit refl (plain-unless (steals_in t) limit s.books t.books [] refl))
follow s (Down w c o) limit h low =
    let t = after_effect s (Down w c o) in
    let own = unless_stopped s.books t.books (outputs_of_death w t) in
    record {
      rest = own ++ closing (after_entries t (Kill w ∷ own));
      outs = refl;
      plain_rest = plain-join (steals_in t) limit own (closing (after_entries t (Kill w ∷ own))) (plain-unless (steals_in t) limit s.books t.books (outputs_of_death w t) (plain-death limit w t (low w h))) (plain-closing (steals_in t) limit (after_entries t (Kill w ∷ own)));
    }
follow s (NotStarted w) limit h low =
    let t = after_effect s (NotStarted w) in
    follow-plain s (NotStarted w) limit refl (plain-unless (steals_in t) limit s.books t.books (outputs_of_death w t) (plain-death limit w t (low w (split-and (is_active w s.books) (not (was_ready w s.books)) h).0)))
follow s (Start w slot) limit h low = absurd (differ h)
follow s (Run w is) limit h low = absurd (differ h)
follow s (RunAll w) limit h low = absurd (differ h)
follow s (Steal w is) limit h low = absurd (differ h)
follow s (Shutdown w) limit h low = absurd (differ h)
follow s (Kill w) limit h low = absurd (differ h)
follow s (Over how) limit h low = absurd (differ h)

-- one output

not_member : (b : Books) (marks : ℕ → Marks) (w : ℕ) → Agrees b marks → not (has_member w (λ m. true) b) ≡ true → (marks w).started ≡ false
not_member b marks w a h = a.started w ∙ not_true (has_member w (λ m. true) b) h

tell-of : (b : Books) (marks : ℕ → Marks) (w : ℕ) → Agrees b marks → is_active w b ≡ true → was_ready w b ≡ true → may_tell (marks w) ≡ true
tell-of b marks w a h k = elim (cases_of (marks w).ended) [
  | inl e ↦ absurd (differ (sym (a.ended w e).1 ∙ h))
  | inr e ↦ and (a.ready w k) (ap not e)
]

few : (n : ℕ) → n ≤ most_tests → nat_le n most_tests ≡ true
few n h = grind (arith, nat_tests)

run-few : (settings : Settings) (t : State) (w : ℕ) (indices : List ℕ) → Bounded settings t → Placed t → is_orderly t (Run w indices) ≡ true → (in_rota w t.books.table ≡ true) × (length indices ≤ most_tests)
run-few settings t w indices b k h =
    let slot = slot_of w t.books in
    let items = items_named slot indices t.plan in
    let e = split-and (may_run w t && not_empty indices && all_distinct items && all_among items t.books.table.pool) (if is_each t.plan.mode then all_among items (slot_items slot t.plan) else true) h in
    let d = split-and (may_run w t && not_empty indices && all_distinct items) (all_among items t.books.table.pool) e.0 in
    let c = split-and (may_run w t && not_empty indices) (all_distinct items) d.0 in
    let r = split-and (may_run w t) (not_empty indices) c.0 in
    let a = split-and (in_rota w t.books.table) (not (is_shut w t.books)) r.0 in (
      a.0,
      named-few slot indices t.plan (elim (cases_of (is_each t.plan.mode)) [
        | inl y ↦ few-of_slot settings t slot items b c.1 (sym (ap (λ (q : Bool). if q then all_among items (slot_items slot t.plan) else true) y) ∙ e.1)
        | inr y ↦ (let all = b.whole y in omega (arith, few-of_pool t items k c.1 d.1, all))
      ]),
    )

steal-few : (settings : Settings) (t : State) (w : ℕ) (indices : List ℕ) → Bounded settings t → Placed t → is_each t.plan.mode ≡ false → is_orderly t (Steal w indices) ≡ true → (in_rota w t.books.table ≡ true) × (length indices ≤ most_tests)
steal-few settings t w indices b k y h =
    let d = split-and (may_run w t && is_in_order (items_named (slot_of w t.books) indices t.plan) (held w t.books.table) && is_none t.plan.steal && not_empty indices && all_distinct indices) (all_among indices (drop 2 (held w t.books.table))) h in
    let c = split-and (may_run w t && is_in_order (items_named (slot_of w t.books) indices t.plan) (held w t.books.table) && is_none t.plan.steal && not_empty indices) (all_distinct indices) d.0 in
    let r = split-and (may_run w t && is_in_order (items_named (slot_of w t.books) indices t.plan) (held w t.books.table) && is_none t.plan.steal) (not_empty indices) c.0 in
    let q = split-and (may_run w t && is_in_order (items_named (slot_of w t.books) indices t.plan) (held w t.books.table)) (is_none t.plan.steal) r.0 in
    let a = split-and (in_rota w t.books.table) (not (is_shut w t.books)) (split-and (may_run w t) (is_in_order (items_named (slot_of w t.books) indices t.plan) (held w t.books.table)) q.0).0 in
    let all = b.whole y in
    (a.0, omega (arith, few-of_held t w indices k c.1 (all_among-drop 2 indices (held w t.books.table) d.1), all))

rota-tell : (t : State) (marks : ℕ → Marks) (w : ℕ) → Placed t → Agrees t.books marks → in_rota w t.books.table ≡ true → may_tell (marks w) ≡ true
rota-tell t marks w k a r = tell-of t.books marks w a (k.fits.active w r) (k.fits.ready w r)

-- what is performed, and what it leaves
pub record Goes (slots : ℕ) (marks : ℕ → Marks) (e : Entry) (following : State) : Type 0 where
  pub possible : possible slots marks e ≡ true
  pub agrees : Agrees following.books (marks_after_entry e marks)

goes-same : (slots : ℕ) (marks : ℕ → Marks) (e : Entry) (t u : State) → u.books.members ≡ t.books.members → ((w : ℕ) → marks_after_entry e marks w ≡ marks w) → possible slots marks e ≡ true → Agrees t.books marks → Goes slots marks e u
goes-same slots marks e t u c m p a = record {
  possible = p;
  agrees = record {
    started = λ w. ap (λ (x : Marks). x.started) (m w) ∙ a.started w ∙ ap (λ (ms : List Member). has w (λ x. true) ms) (sym c);
    killed = λ w h. (let q = a.killed w (sym (ap (λ (x : Marks). x.killed) (m w)) ∙ h) in (ap (λ (ms : List Member). has w (λ x. true) ms) c ∙ q.0, ap (λ (ms : List Member). has w (λ x. x.active) ms) c ∙ q.1));
    ended = λ w h. (let q = a.ended w (sym (ap (λ (x : Marks). x.ended) (m w)) ∙ h) in (ap (λ (ms : List Member). has w (λ x. true) ms) c ∙ q.0, ap (λ (ms : List Member). has w (λ x. x.active) ms) c ∙ q.1));
    ready = λ w h. ap (λ (x : Marks). x.ready) (m w) ∙ a.ready w (sym (ap (λ (ms : List Member). has w (λ x. x.ready) ms) c) ∙ h);
  };
}

goes-shutdown : (slots : ℕ) (marks : ℕ → Marks) (t : State) (w : ℕ) → may_tell (marks w) ≡ true → Agrees t.books marks → Goes slots marks (Shutdown w) (after_effect t (Shutdown w))
goes-shutdown slots marks t w p a =
    let ms = t.books.members in
    let f = made_shut w in
    let members : (v : ℕ) → has v (λ m. true) (map f ms) ≡ has v (λ m. true) ms = λ v. has-same v (λ m. true) f ms (λ m. refl) (λ m. refl) in
    let active : (v : ℕ) → has v (λ m. m.active) (map f ms) ≡ has v (λ m. m.active) ms = λ v. has-same v (λ m. m.active) f ms (λ m. refl) (λ m. refl) in
    record {
      possible = p;
      agrees = record {
        started = λ v. a.started v ∙ sym (members v);
        killed = λ v h. (let q = a.killed v h in (members v ∙ q.0, active v ∙ q.1));
        ended = λ v h. (let q = a.ended v h in (members v ∙ q.0, active v ∙ q.1));
        ready = λ v h. a.ready v (sym (has-same v (λ m. m.ready) f ms (λ m. refl) (λ m. refl)) ∙ h);
      };
    }

or-yes : (b : Bool) → b ≡ (b && true)
or-yes true = refl
or-yes false = refl

pub started-more : (ms : List Member) (w slot v : ℕ) → has v (λ m. true) (ms ++ started w slot ∷ []) ≡ (has v (λ m. true) ms || (w == v))
started-more ms w slot v = has-more v (λ m. true) ms (started w slot) ∙ ap (λ (b : Bool). has v (λ m. true) ms || b) (sym (or-yes (w == v)))

old-member : (ms : List Member) (w slot v : ℕ) → has w (λ m. true) ms ≡ false → (has v (λ m. true) ms ≡ true) × (has v (λ m. m.active) ms ≡ false)
    → (has v (λ m. true) (ms ++ started w slot ∷ []) ≡ true) × (has v (λ m. m.active) (ms ++ started w slot ∷ []) ≡ false)
old-member ms w slot v new old =
    let other : (w == v) ≡ false = elim (cases_of (w == v)) [
      | inl e ↦ (let same : w ≡ v = grind (arith, nat_tests) in absurd (differ (sym (subst (λ (u : ℕ). has u (λ m. true) ms ≡ false) same new) ∙ old.0)))
      | inr e ↦ e
    ] in (
      started-more ms w slot v ∙ ap (λ (b : Bool). b || (w == v)) old.0,
      has-more v (λ m. m.active) ms (started w slot) ∙ ap (λ (b : Bool). b || (w == v && true)) old.1 ∙ ap (λ (b : Bool). b && true) other,
    )

pub goes-start : (slots : ℕ) (marks : ℕ → Marks) (t : State) (w slot : ℕ) → nat_lt slot slots ≡ true → is_orderly t (Start w slot) ≡ true → Agrees t.books marks → Goes slots marks (Start w slot) (after_effect t (Start w slot))
goes-start slots marks t w slot low h a =
    let ms = t.books.members in
    let new : has w (λ m. true) ms ≡ false = not_true (has w (λ m. true) ms) h in
    record {
      possible = and (ap not (not_member t.books marks w a h)) low;
      agrees = record {
        started = λ v. ap (λ (b : Bool). b || (w == v)) (a.started v) ∙ sym (started-more ms w slot v);
        killed = λ v k. old-member ms w slot v new (a.killed v k);
        ended = λ v k. old-member ms w slot v new (a.ended v k);
        ready = λ v k. a.ready v (no-ready (has v (λ m. m.ready) ms) (w == v) (sym (has-more v (λ m. m.ready) ms (started w slot)) ∙ k));
      };
    }
  where
    no-ready : (b c : Bool) → (b || (c && false)) ≡ true → b ≡ true
    no-ready true c k = refl
    no-ready false true k = k
    no-ready false false k = k

goes : (settings : Settings) (slots limit : ℕ) (marks : ℕ → Marks) (t : State) (e : Entry) → limit ≤ slots → plain (steals_in t) limit e ≡ true → is_orderly t e ≡ true → Bounded settings t → Placed t → Agrees t.books marks
    → Goes slots marks e (after_effect t e)
goes settings slots limit marks t (Run w is) l p h b k a = (let r = run-few settings t w is b k h in goes-same slots marks (Run w is) t (after_effect t (Run w is)) refl (λ v. refl) (and (rota-tell t marks w k a r.0) (few (length is) r.1)) a)
goes settings slots limit marks t (RunAll w) l p h b k a =
    let d = split-and (is_each t.plan.mode && t.books.shared && may_run w t) (all_among (slot_items (slot_of w t.books) t.plan) t.books.table.pool) h in
    let c = split-and (is_each t.plan.mode && t.books.shared) (may_run w t) d.0 in
    let r = split-and (in_rota w t.books.table) (not (is_shut w t.books)) c.1 in
    goes-same slots marks (RunAll w) t (after_effect t (RunAll w)) refl (λ v. refl) (rota-tell t marks w k a r.0) a
goes settings slots limit marks t (Steal w is) l p h b k a =
    (let r = steal-few settings t w is b k (not_true (is_each t.plan.mode) p) h in goes-same slots marks (Steal w is) t (after_effect t (Steal w is)) refl (λ v. refl) (and (rota-tell t marks w k a r.0) (few (length is) r.1)) a)
goes settings slots limit marks t (Shutdown w) l p h b k a =
    let q = split-and (is_active w t.books && was_ready w t.books) (not (is_shut w t.books)) h in
    let r = split-and (is_active w t.books) (was_ready w t.books) q.0 in
    goes-shutdown slots marks t w (tell-of t.books marks w a r.0 r.1) a
goes settings slots limit marks t (Start w slot) l p h b k a = goes-start slots marks t w slot (wider slot limit slots p l) h a
  where
    wider : (x y z : ℕ) → nat_lt x y ≡ true → y ≤ z → nat_lt x z ≡ true
    wider x y z m n = grind (arith, nat_tests)
goes settings slots limit marks t (Kill w) l p h b k a = absurd (differ p)
goes settings slots limit marks t (Over how) l p h b k a = absurd (differ p)
goes settings slots limit marks t (Ready w) l p h b k a = absurd (differ p)
goes settings slots limit marks t (Collected w g) l p h b k a = absurd (differ p)
goes settings slots limit marks t (Done w i u m o) l p h b k a = absurd (differ p)
goes settings slots limit marks t (Back w is) l p h b k a = absurd (differ p)
goes settings slots limit marks t (Finished w) l p h b k a = absurd (differ p)
goes settings slots limit marks t (Refused w x) l p h b k a = absurd (differ p)
goes settings slots limit marks t (Down w c o) l p h b k a = absurd (differ p)
goes settings slots limit marks t (NotStarted w) l p h b k a = absurd (differ p)

pub bounded-output : (settings : Settings) (t : State) (e : Entry) → is_orderly t e ≡ true → Bounded settings t → Bounded settings (after_effect t e)
bounded-output settings t (Start w slot) h k = record { settings_are = k.settings_are; sizes = k.sizes; whole = k.whole; lists = k.lists }
bounded-output settings t (Run w is) h k = record { settings_are = k.settings_are; sizes = k.sizes; whole = k.whole; lists = k.lists }
bounded-output settings t (RunAll w) h k = record { settings_are = k.settings_are; sizes = k.sizes; whole = k.whole; lists = k.lists }
bounded-output settings t (Steal w is) h k = record { settings_are = k.settings_are; sizes = k.sizes; whole = k.whole; lists = k.lists }
bounded-output settings t (Shutdown w) h k = record { settings_are = k.settings_are; sizes = k.sizes; whole = k.whole; lists = k.lists }
bounded-output settings t (Kill w) h k = k
bounded-output settings t (Over how) h k = k
bounded-output settings t (Ready w) h k = absurd (differ h)
bounded-output settings t (Collected w g) h k = absurd (differ h)
bounded-output settings t (Done w i u m o) h k = absurd (differ h)
bounded-output settings t (Back w is) h k = absurd (differ h)
bounded-output settings t (Finished w) h k = absurd (differ h)
bounded-output settings t (Refused w x) h k = absurd (differ h)
bounded-output settings t (Down w c o) h k = absurd (differ h)
bounded-output settings t (NotStarted w) h k = absurd (differ h)

pub bounded-all : (settings : Settings) (t : State) (es : List Entry) → all_orderly t es ≡ true → Bounded settings t → Bounded settings (after_entries t es)
bounded-all settings t [] h k = k
bounded-all settings t (e ∷ es) h k =
    let p = split-and (is_orderly t e) (all_orderly (after_effect t e) es) h in
    subst (Bounded settings) (sym (after_entries-first t e es p.0)) (bounded-all settings (after_effect t e) es p.1 (bounded-output settings t e p.0 k))

plain-same : (t : State) (e : Entry) → is_orderly t e ≡ true → steals_in (after_effect t e) ≡ steals_in t
plain-same t (Start w slot) h = refl
plain-same t (Run w is) h = refl
plain-same t (RunAll w) h = refl
plain-same t (Steal w is) h = refl
plain-same t (Shutdown w) h = refl
plain-same t (Kill w) h = refl
plain-same t (Over how) h = refl
plain-same t (Ready w) h = absurd (differ h)
plain-same t (Collected w g) h = absurd (differ h)
plain-same t (Done w i u m o) h = absurd (differ h)
plain-same t (Back w is) h = absurd (differ h)
plain-same t (Finished w) h = absurd (differ h)
plain-same t (Refused w x) h = absurd (differ h)
plain-same t (Down w c o) h = absurd (differ h)
plain-same t (NotStarted w) h = absurd (differ h)

-- one output after another
pub record AllGo (slots : ℕ) (marks : ℕ → Marks) (es : List Entry) (following : State) : Type 0 where
  pub possible : all_possible slots marks es ≡ true
  pub agrees : Agrees following.books (marks_after es marks)

pub all-go : (settings : Settings) (slots limit : ℕ) (marks : ℕ → Marks) (t : State) (es : List Entry) → limit ≤ slots → Plain (steals_in t) limit es → all_orderly t es ≡ true → Bounded settings t → Placed t → Agrees t.books marks
    → AllGo slots marks es (after_entries t es)
all-go settings slots limit marks t [] l p h b k a = record { possible = refl; agrees = a }
all-go settings slots limit marks t (e ∷ es) l p h b k a =
    let q = split-and (is_orderly t e) (all_orderly (after_effect t e) es) h in
    let r = split-and (plain (steals_in t) limit e) (list_all (plain (steals_in t) limit) es) p in
    let one = goes settings slots limit marks t e l r.0 q.0 b k a in
    let more = all-go settings slots limit (marks_after_entry e marks) (after_effect t e) es l (ap (λ (st : Bool). list_all (plain st limit) es) (plain-same t e q.0) ∙ r.1) q.1 (bounded-output settings t e q.0 b) (placed-output t e q.0 k) one.agrees in
    record { possible = and one.possible more.possible; agrees = subst (λ (u : State). Agrees u.books (marks_after es (marks_after_entry e marks))) (sym (after_entries-first t e es q.0)) more.agrees }

-- the kill of a worker that is not active, and then the rest
pub kill-goes : (slots : ℕ) (marks : ℕ → Marks) (t : State) (w : ℕ) → has_member w (λ m. true) t.books ≡ true → is_active w t.books ≡ false → (marks w).killed ≡ false → Agrees t.books marks → Goes slots marks (Kill w) t
kill-goes slots marks t w m n k a = record {
  possible = and (a.started w ∙ m) (ap not k);
  agrees = record {
    started = a.started;
    killed = λ v h. elim (split-or (marks v).killed (w == v) h) [
      | inl old ↦ a.killed v old
      | inr new ↦ (let same : w ≡ v = grind (arith, nat_tests) in subst (λ (u : ℕ). (has_member u (λ x. true) t.books ≡ true) × (is_active u t.books ≡ false)) same (m, n))
    ];
    ended = a.ended;
    ready = a.ready;
  };
}
