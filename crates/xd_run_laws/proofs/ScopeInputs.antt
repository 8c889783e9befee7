-- In the modes with scopes the queue fits the table after each input.
use Rattle.std.proofs.Common.{◌≡◌, ℕ, List, [], ◌∷◌, ◌++◌, drop, length, map, Bool, true, false, not, ◌&&◌, ◌||◌, refl, ap, sym, ◌∙◌, subst, arith, inl, inr}
use Rattle.std.specs.Prelude.{◌==◌, None, sum}
use Rattle.std.specs.List.{range_with_len}
use Rattle.xd_journal.specs.declared.entry.Ids.{Ids}
use Rattle.xd_journal.specs.declared.entry.Entry.{Entry}
use Rattle.xd_journal.specs.declared.entry.Entry.TheVariants.{Ready, Collected, Done, Back, Finished, Refused, Down, NotStarted, Start, Run, RunAll, Steal, Shutdown, Kill, Over}
use Rattle.xd_run.specs.declared.member.Member.{Member}
use Rattle.xd_run.specs.declared.member.Listed.{Listed}
use Rattle.xd_run.specs.Numbers.{times}
use Rattle.xd_run.specs.Table.{Table, held, died, joined, retried_item}
use Rattle.xd_run.specs.Plan.{Plan, is_each, is_scope, items_named}
use Rattle.xd_run.specs.Units.{units}
use Rattle.xd_run.specs.Books.{marked}
use Rattle.xd_run.specs.Workers.{is_active, was_ready, has_collected, slot_of, started, made_ready, made_collected, made_shut, made_gone}
use Rattle.xd_run.specs.Collections.{unequal, listed, with_list}
use Rattle.xd_run.specs.Retry.{is_retry}
use Rattle.xd_run.specs.Sharing.{State, in_books, ids_at, planned, shared_now}
use Rattle.xd_run.specs.Deaths.{down_plan}
use Rattle.xd_run.specs.Results.{completed_first}
use Rattle.xd_run.specs.State.{after_effect}
use Rattle.xd_run.specs.Proper.{may_follow, are_ids}
use Rattle.xd_run.specs.Suits.{tests_of_units}
use Rattle.xd_run_laws.proofs.Logic.{differ, cases_of, split-and, not_true}
use Rattle.xd_run_laws.proofs.Places.{AtMostOnce}
use Rattle.xd_run_laws.proofs.Members.{has, has-same, has-kept, has-more}
use Rattle.xd_run_laws.proofs.Placed.{at_most_once, no_back}
use Rattle.xd_run_laws.proofs.Turns.{Tidy}
use Rattle.xd_run_laws.proofs.Inputs.{collecting-keeps}
use Rattle.xd_run_laws.proofs.Units.{none_empty, tests-units, none_empty-units, given_to}
use Rattle.xd_run_laws.proofs.Queue.{QueueFits, buried_plan, queue-members, queue-shut, queue-completed, queue-left, queue-died, queue-joined}
use Rattle.xd_run_laws.proofs.ScopeTurns.{IsScoped}

-- the mode has scopes, and its queue fits the table
pub record Scoped (s : State) : Type 0 where
  pub mode : IsScoped s
  pub queue : QueueFits s.books.table s.plan s.books.members

same_collected : (change : Member → Member) (ms : List Member) → ((m : Member) → (change m).worker ≡ m.worker) → ((m : Member) → (change m).collected ≡ m.collected)
    → (v : ℕ) → has v (λ m. m.collected) (map change ms) ≡ false → has v (λ m. m.collected) ms ≡ false
same_collected change ms a b v h = sym (has-same v (λ m. m.collected) change ms a b) ∙ h

before_collected : (w : ℕ) (ms : List Member) (v : ℕ) → has v (λ m. m.collected) (map (made_collected w) ms) ≡ false → has v (λ m. m.collected) ms ≡ false
before_collected w ms v h = elim (cases_of (has v (λ m. m.collected) ms)) [
  | inl k ↦ absurd (differ (sym h ∙ has-kept v w (λ m. m.collected) (made_collected w) ms (λ m. refl) (λ m. refl) k))
  | inr k ↦ k
]

-- the tests are shared

pub planned-queue : (ls : List Listed) (n : ℕ) (p : Plan) → is_scope p.mode ≡ true → (planned ls n p).queue ≡ units p.mode p.reorder (ids_at 0 ls)
planned-queue ls n p h = rw h

pub planned-sizes : (ls : List Listed) (n : ℕ) (p : Plan) → is_each p.mode ≡ false → (planned ls n p).sizes ≡ length (ids_at 0 ls) ∷ []
planned-sizes ls n p h = rw h

queue-shared : (s : State) → Scoped s → QueueFits (shared_now s).books.table (shared_now s).plan (shared_now s).books.members
queue-shared s k =
    let ls = s.books.lists in
    let n = s.books.settings.workers in
    let ids = ids_at 0 ls in
    let queue = planned-queue ls n s.plan k.mode.scope in
    let total_ : sum (planned ls n s.plan).sizes ≡ length ids = ap sum (planned-sizes ls n s.plan k.mode.each) ∙ omega arith in
    record {
      whole = λ x. (let a : times x (tests_of_units (planned ls n s.plan).queue) ≡ times x (range_with_len 0 (length ids)) = ap (λ (q : List (List ℕ)). times x (tests_of_units q)) queue ∙ tests-units x s.plan.mode s.plan.reorder ids in
          let b : times x (range_with_len 0 (sum (planned ls n s.plan).sizes)) ≡ times x (range_with_len 0 (length ids)) = ap (λ (t : ℕ). times x (range_with_len 0 t)) total_ in
          omega (arith, a, b));
      filled = ap none_empty queue ∙ none_empty-units s.plan.mode s.plan.reorder ids;
      given = k.queue.given;
      late = k.queue.late;
      steal = k.queue.steal;
    }

scoped-collected : (s : State) (w : ℕ) (g : Ids) → may_follow s (Collected w g) ≡ true → Scoped s → Scoped (after_effect s (Collected w g))
scoped-collected s w g h k =
    let ms = s.books.members in
    let now = in_books (λ b. marked (made_collected w) (with_list w g b)) s in
    let j = in_books (λ b. record b { table = joined w b.table }) now in
    let c = split-and (is_active w s.books && was_ready w s.books && not (has_collected w s.books)) (are_ids g w s) h in
    let b = split-and (is_active w s.books && was_ready w s.books) (not (has_collected w s.books)) c.0 in
    let none : given_to w s.plan.given ≡ [] = k.queue.late w (not_true (has_collected w s.books) b.1) in
    let mode : IsScoped now = record { scope = k.mode.scope; each = k.mode.each } in
    let queue = queue-members s.books.table s.plan ms (map (made_collected w) ms) (before_collected w ms) k.queue in
    let in_rota : Scoped j = record { mode = record { scope = k.mode.scope; each = k.mode.each }; queue = queue-joined s.books.table s.plan (map (made_collected w) ms) w none queue } in
    collecting-keeps Scoped now w (unequal w g (listed w s.books))
    (record { mode = mode; queue = queue })
    (record { mode = record { scope = k.mode.scope; each = k.mode.each }; queue = queue })
    in_rota
    (λ n. record { mode = record { scope = k.mode.scope; each = k.mode.each }; queue = queue-shared j in_rota })

-- a test ends

queue-first : (t : Table) (p : Plan) (ms : List Member) (w : ℕ) (items : List ℕ) → AtMostOnce t → QueueFits t p ms → QueueFits (completed_first w items t) p ms
queue-first t p ms w [] once q = q
queue-first t p ms w (i ∷ is) once q = queue-completed t p ms w i once q

-- a worker goes

plan-down : (w : ℕ) (retried rest : List ℕ) (p : Plan) → is_scope p.mode ≡ true → p.steal ≡ None → down_plan w retried rest p ≡ buried_plan w retried rest p
plan-down w retried rest p h k = rw (h, k)

scoped-down : (s : State) (w : ℕ) → Tidy s → Scoped s → Scoped (after_effect s (NotStarted w))
scoped-down s w d k =
    let ms = s.books.members in
    let t = s.books.table in
    let retry = is_retry w s.books in
    let first = retried_item retry (held w t) in
    let rest = drop 1 (held w t) in
    record {
      mode = record { scope = k.mode.scope; each = k.mode.each };
      queue = subst (λ (p : Plan). QueueFits (died w retry t) p (map (made_gone w) ms)) (sym (plan-down w first rest s.plan k.mode.scope k.queue.steal))
          (queue-members (died w retry t) (buried_plan w first rest s.plan) ms (map (made_gone w) ms) (same_collected (made_gone w) ms (λ m. refl) (λ m. refl)) (queue-died t s.plan ms w retry (at_most_once s d.placed) k.queue));
    }

pub scoped-input : (s : State) (e : Entry) → may_follow s e ≡ true → Tidy s → Scoped s → Scoped (after_effect s e)
scoped-input s (Ready w) h d k = record {
  mode = record { scope = k.mode.scope; each = k.mode.each };
  queue = queue-members s.books.table s.plan s.books.members (map (made_ready w) s.books.members) (same_collected (made_ready w) s.books.members (λ m. refl) (λ m. refl)) k.queue;
}
scoped-input s (Collected w g) h d k = scoped-collected s w g h k
scoped-input s (Done w i u m o) h d k = record {
  mode = record { scope = k.mode.scope; each = k.mode.each };
  queue = queue-first s.books.table s.plan s.books.members w (items_named (slot_of w s.books) (i ∷ []) s.plan) (at_most_once s d.placed) k.queue;
}
scoped-input s (Back w is) h d k = absurd (no_back s w is k.queue.steal h)
scoped-input s (Finished w) h d k = record {
  mode = record { scope = k.mode.scope; each = k.mode.each };
  queue = queue-left s.books.table s.plan (map (made_gone w) s.books.members) w
      (queue-members s.books.table s.plan s.books.members (map (made_gone w) s.books.members) (same_collected (made_gone w) s.books.members (λ m. refl) (λ m. refl)) k.queue);
}
scoped-input s (Refused w t) h d k = record {
  mode = record { scope = k.mode.scope; each = k.mode.each };
  queue = queue-members s.books.table s.plan s.books.members (map (made_gone w) s.books.members) (same_collected (made_gone w) s.books.members (λ m. refl) (λ m. refl)) k.queue;
}
scoped-input s (Down w r o) h d k = (let n = scoped-down s w d k in record { mode = record { scope = k.mode.scope; each = k.mode.each }; queue = n.queue })
scoped-input s (NotStarted w) h d k = scoped-down s w d k
scoped-input s (Start w slot) h d k = absurd (differ h)
scoped-input s (Run w is) h d k = absurd (differ h)
scoped-input s (RunAll w) h d k = absurd (differ h)
scoped-input s (Steal w is) h d k = absurd (differ h)
scoped-input s (Shutdown w) h d k = absurd (differ h)
scoped-input s (Kill w) h d k = absurd (differ h)
scoped-input s (Over how) h d k = absurd (differ h)

pub scoped-start : (s : State) (w slot : ℕ) → Scoped s → Scoped (after_effect s (Start w slot))
scoped-start s w slot k =
    let ms = s.books.members in
    let new = started w slot in
    record {
      mode = record { scope = k.mode.scope; each = k.mode.each };
      queue = queue-members s.books.table s.plan ms (ms ++ new ∷ []) (λ v h. old_false (has v (λ m. m.collected) ms) ((w == v) && false) (sym (has-more v (λ m. m.collected) ms new) ∙ h)) k.queue;
    }
  where
    old_false : (a b : Bool) → (a || b) ≡ false → a ≡ false
    old_false true b h = h
    old_false false b h = refl

pub scoped-shutdown : (s : State) (w : ℕ) → Scoped s → Scoped (after_effect s (Shutdown w))
scoped-shutdown s w k = record {
  mode = record { scope = k.mode.scope; each = k.mode.each };
  queue = queue-members (after_effect s (Shutdown w)).books.table s.plan s.books.members (map (made_shut w) s.books.members) (same_collected (made_shut w) s.books.members (λ m. refl) (λ m. refl))
      (queue-shut s.books.table s.plan s.books.members w k.queue);
}
