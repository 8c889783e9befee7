-- What the moves of a turn keep, the rule of each mode keeps.
use Rattle.std.proofs.Common.{ℕ, zero, suc, List, [], ◌∷◌, ◌++◌, drop, length, take, reverse}
use Rattle.std.specs.Prelude.{Option, Some, None, nat_lt, ◌*◌, ◌==◌}
use Rattle.xd_edge.specs.declared.mode.ModeKind.{ModeKind}
use Rattle.xd_edge.specs.declared.mode.ModeKind.TheVariants.{Local, Each, Load, LoadScope, LoadFile, LoadGroup, WorkSteal}
use Rattle.xd_journal.specs.declared.entry.Entry.TheVariants.{RunAll, Shutdown}
use Rattle.xd_run.specs.declared.seat.Seat.{Seat}
use Rattle.xd_run.specs.Table.{seat_shut, workers_of, held, assigned, shut_down}
use Rattle.xd_run.specs.Plan.{UnansweredSteal, chunk_of, slot_items}
use Rattle.xd_run.specs.Turn.{Turn, enough, give, shut, in_turn, shut_each, shut_where_empty}
use Rattle.xd_run.specs.Load as load
use Rattle.xd_run.specs.Each as each
use Rattle.xd_run.specs.Worksteal as worksteal
use Rattle.xd_run.specs.ScopeModes as scopes
use Rattle.xd_run.specs.Modes.{ModeCall, turned, load_turn, each_turn, worksteal_turn, scope_turn}
use Rattle.xd_run.specs.Modes.ModeCall.{Share, Joined, TestDone, TestsBack, Died}
use Rattle.xd_run_laws.proofs.Logic.{in_both}

-- the moves of the rules, and that they keep a fact
pub record Kept (T : Turn → Type 0) : Type 0 where
  pub gives : (w i : ℕ) (is : List ℕ) (t : Turn) → T t → T (give w (i ∷ is) t)
  pub gives_all : (w slot : ℕ) (t : Turn) → T t → T (record t { table = assigned w (slot_items slot t.plan) t.table; acts = t.acts ++ RunAll w ∷ [] })
  pub gives_of_slot : (w slot i : ℕ) (is : List ℕ) (t : Turn) → T t → T (each.give_of_slot w slot (i ∷ is) t)
  pub gives_unit : (w : ℕ) (t : Turn) → T t → T (scopes.give_unit w t)
  pub asks : (s : Seat) (n : ℕ) (t : Turn) → T t → T (worksteal.asks s n t)
  pub shuts : (w : ℕ) (t : Turn) → T t → T (record t { table = shut_down w t.table; acts = t.acts ++ Shutdown w ∷ [] })

module _ (T : Turn → Type 0) (k : Kept T) where
  t-give : (w : ℕ) (items : List ℕ) (t : Turn) → T t → T (give w items t)
  t-give w [] t a = a
  t-give w (i ∷ is) t a = k.gives w i is t a

  t-shut : (w : ℕ) (t : Turn) → T t → T (shut w t)
  t-shut w t a = in_both T (seat_shut w t.table) t _ (λ h. a) (λ h. k.shuts w t a)

  t-in_turn : (f : ℕ → Turn → Turn) → ((w : ℕ) (t : Turn) → T t → T (f w t)) → (ws : List ℕ) (t : Turn) → T t → T (in_turn f ws t)
  t-in_turn f q [] t a = a
  t-in_turn f q (w ∷ ws) t a = t-in_turn f q ws (f w t) (q w t a)

  t-shut_each : (ws : List ℕ) (t : Turn) → T t → T (shut_each ws t)
  t-shut_each ws t a = t-in_turn shut t-shut ws t a

  -- what holds of both branches, by whether a list is empty
  by_list : {A : Type 0} (xs : List A) (t : Turn) (u : A → List A → Turn) → T t → ((x : A) (ys : List A) → T (u x ys)) → T (elim xs as (λ _. Turn) [ [] ↦ t | y ∷ ys ↦ u y ys ])
  by_list [] t u a b = a
  by_list (x ∷ xs) t u a b = b x xs

  t-shut_where_empty : (t : Turn) → T t → T (shut_where_empty t)
  t-shut_where_empty t a = by_list t.table.pool (shut_each (workers_of t.table) t) (λ x xs. t) (t-shut_each (workers_of t.table) t a) (λ x xs. a)

  -- mode load

  t-refill : (ms w : ℕ) (t : Turn) → T t → T (load.load_refill ms w t)
  t-refill ms w t a = in_both T (seat_shut w t.table) t _ (λ h. a) (λ h. by_list t.table.pool (shut w t) (λ x xs. load.topped_up ms w t) (t-shut w t a)
      (λ x xs. in_both T (load.is_due (length t.table.pool) (length (workers_of t.table)) (length (held w t.table)) ms) _ t (λ h2. t-give w _ t a) (λ h2. a)))

  t-give_unless_shut : (count w : ℕ) (t : Turn) → T t → T (load.give_unless_shut count w t)
  t-give_unless_shut count w t a = in_both T (seat_shut w t.table) t _ (λ h. a) (λ h. t-give w _ t a)

  t-dealt : (t : Turn) → T t → T (load.dealt_singly t)
  t-dealt t a =
      let ws = workers_of t.table in
      in_both T (nat_lt (length t.table.pool) (enough * length ws)) _ _
      (λ h. t-in_turn (load.give_unless_shut 1) (t-give_unless_shut 1) (ws ++ ws) t a)
      (λ h. t-in_turn (load.give_unless_shut (load.first_batch (length t.table.pool) (length ws) (chunk_of t.plan))) (t-give_unless_shut _) ws t a)

  t-load : (c : ModeCall) (t : Turn) → T t → T (load_turn c t)
  t-load (Share slots) t a = t-shut_where_empty (load.dealt_singly t) (t-dealt t a)
  t-load (Joined w slot) t a = t-in_turn (load.load_refill 0) (t-refill 0) (workers_of t.table) t a
  t-load (TestDone w ms) t a = t-refill ms w t a
  t-load TestsBack t a = a
  t-load Died t a = t-in_turn (load.load_refill 0) (t-refill 0) (workers_of t.table) t a

  -- mode each

  t-give_all : (w slot : ℕ) (t : Turn) → T t → T (each.give_all w slot t)
  t-give_all w slot t a = t-shut w (record t { table = assigned w (slot_items slot t.plan) t.table; acts = t.acts ++ RunAll w ∷ [] }) (k.gives_all w slot t a)

  t-give_slots : (ws slots : List ℕ) (t : Turn) → T t → T (each.give_slots ws slots t)
  t-give_slots [] slots t a = a
  t-give_slots (w ∷ ws) [] t a = a
  t-give_slots (w ∷ ws) (s ∷ ss) t a = t-give_slots ws ss (each.give_all w s t) (t-give_all w s t a)

  t-give_of_slot : (w slot : ℕ) (items : List ℕ) (t : Turn) → T t → T (each.give_of_slot w slot items t)
  t-give_of_slot w slot [] t a = a
  t-give_of_slot w slot (i ∷ is) t a = k.gives_of_slot w slot i is t a

  t-each : (c : ModeCall) (t : Turn) → T t → T (each_turn c t)
  t-each (Share slots) t a = t-give_slots (workers_of t.table) slots t a
  t-each (Joined w slot) t a = t-shut w (each.give_of_slot w slot (each.remainder slot t) t) (t-give_of_slot w slot (each.remainder slot t) t a)
  t-each (TestDone w ms) t a = a
  t-each TestsBack t a = a
  t-each Died t a = a

  -- mode worksteal

  t-steal_dealt : (ws : List ℕ) (t : Turn) → T t → T (worksteal.dealt ws t)
  t-steal_dealt [] t a = a
  t-steal_dealt (w ∷ ws) t a = t-steal_dealt ws _ (t-give w _ t a)

  t-asks_or_shuts : (ws : List ℕ) (s : Option Seat) (t : Turn) → T t → T (worksteal.asks_or_shuts ws s t)
  t-asks_or_shuts ws None t a = t-shut_each ws t a
  t-asks_or_shuts ws (Some s) t a = in_both T (worksteal.steal_count s == 0) (shut_each ws t) (worksteal.asks s (worksteal.steal_count s) t) (λ h. t-shut_each ws t a) (λ h. k.asks s (worksteal.steal_count s) t a)

  by_steal : (o : Option UnansweredSteal) (t u : Turn) → T t → T u → T (elim o as (λ _. Turn) [ None ↦ t | Some a ↦ u ])
  by_steal None t u a b = a
  by_steal (Some x) t u a b = b

  t-after_dealing : (t : Turn) → T t → T (worksteal.after_dealing t)
  t-after_dealing t a = by_list (worksteal.idle t.table) t (λ w ws. elim t.plan.steal as (λ _. Turn) [ None ↦ worksteal.asks_or_shuts (w ∷ ws) (worksteal.victim t.table) t | Some x ↦ t ]) a
      (λ w ws. by_steal t.plan.steal (worksteal.asks_or_shuts (w ∷ ws) (worksteal.victim t.table) t) t (t-asks_or_shuts (w ∷ ws) (worksteal.victim t.table) t a) a)

  t-rule : (t : Turn) → T t → T (worksteal.rule t)
  t-rule t a = by_list (worksteal.idle t.table) t (λ w ws. worksteal.after_dealing (worksteal.dealt (w ∷ ws) t)) a (λ w ws. t-after_dealing (worksteal.dealt (w ∷ ws) t) (t-steal_dealt (w ∷ ws) t a))

  t-worksteal : (c : ModeCall) (t : Turn) → T t → T (worksteal_turn c t)
  t-worksteal (Share slots) t a = by_list t.table.pool t (λ x xs. worksteal.rule t) a (λ x xs. t-rule t a)
  t-worksteal (Joined w slot) t a = t-rule t a
  t-worksteal (TestDone w ms) t a = t-rule t a
  t-worksteal TestsBack t a = t-rule t a
  t-worksteal Died t a = t-rule t a

  -- the modes by scope

  t-give_unit : (w : ℕ) (t : Turn) → T t → T (scopes.give_unit w t)
  t-give_unit w t a = k.gives_unit w t a

  t-give_more : (n w : ℕ) (t : Turn) → T t → T (scopes.give_more n w t)
  t-give_more zero w t a = a
  t-give_more (suc n) w t a = in_both T (nat_lt (length (held w t.table)) enough) (scopes.give_more n w (scopes.give_unit w t)) t (λ h. t-give_more n w (scopes.give_unit w t) (t-give_unit w t a)) (λ h. a)

  t-scope_refill : (w : ℕ) (t : Turn) → T t → T (scopes.scope_refill w t)
  t-scope_refill w t a = in_both T (seat_shut w t.table) t _ (λ h. a) (λ h. by_list t.plan.queue (shut w t) _ (t-shut w t a)
      (λ u us. in_both T (nat_lt enough (length (held w t.table))) t (scopes.give_more enough w (scopes.give_unit w t)) (λ h2. a) (λ h2. t-give_more enough w (scopes.give_unit w t) (t-give_unit w t a))))

  t-shut_where_spent : (t : Turn) → T t → T (scopes.shut_where_spent t)
  t-shut_where_spent t a = by_list t.plan.queue (shut_each (workers_of t.table) t) (λ u us. t) (t-shut_each (workers_of t.table) t a) (λ u us. a)

  t-scope_dealt : (n : ℕ) (ws : List ℕ) (t : Turn) → T t → T (scopes.shut_where_spent (in_turn scopes.scope_refill (take n ws) (in_turn scopes.give_unit (take n ws) (shut_each (reverse (drop n ws)) t))))
  t-scope_dealt n ws t a =
      let shut_off = shut_each (reverse (drop n ws)) t in
      let given = in_turn scopes.give_unit (take n ws) shut_off in
      let b = t-in_turn scopes.give_unit t-give_unit (take n ws) shut_off (t-shut_each (reverse (drop n ws)) t a) in
      t-shut_where_spent (in_turn scopes.scope_refill (take n ws) given) (t-in_turn scopes.scope_refill t-scope_refill (take n ws) given b)

  t-scope_share : (t : Turn) → T t → T (scopes.scope_share t)
  t-scope_share t a = by_list t.table.pool t _ a (λ x xs. t-scope_dealt (length t.plan.queue) (workers_of t.table) t a)

  t-scope : (c : ModeCall) (t : Turn) → T t → T (scope_turn c t)
  t-scope (Share slots) t a = t-scope_share t a
  t-scope (Joined w slot) t a = t-in_turn scopes.scope_refill t-scope_refill (workers_of t.table) t a
  t-scope (TestDone w ms) t a = t-scope_refill w t a
  t-scope TestsBack t a = a
  t-scope Died t a = t-in_turn scopes.scope_refill t-scope_refill (workers_of t.table) t a

  -- what the moves keep, the rule of each mode keeps
  pub turned-keeps : (m : ModeKind) (c : ModeCall) (t : Turn) → T t → T (turned m c t)
  turned-keeps Local c t a = a
  turned-keeps Each c t a = t-each c t a
  turned-keeps Load c t a = t-load c t a
  turned-keeps LoadScope c t a = t-scope c t a
  turned-keeps LoadFile c t a = t-scope c t a
  turned-keeps LoadGroup c t a = t-scope c t a
  turned-keeps WorkSteal c t a = t-worksteal c t a
