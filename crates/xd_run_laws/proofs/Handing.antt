-- A mode tells nobody to shut down but where the pool is empty and no steal is open.
use Rattle.std.proofs.Common.{◌≡◌, ℕ, List, [], ◌∷◌, ◌++◌, length, take, drop, ◌-◌, ◌+◌, ◌/◌, Bool, true, false, refl, ap, sym, ◌∙◌, subst, inl, inr}
use Rattle.std.specs.Prelude.{◌==◌, ◌⊎◌, ◌*◌, nat_lt, Option, Some, None}
use Rattle.std.specs.List.{list_all}
use Rattle.xd_journal.specs.declared.entry.Entry.{Entry}
use Rattle.xd_journal.specs.declared.entry.Entry.TheVariants.{Run, RunAll, Steal, Shutdown}
use Rattle.xd_run.specs.declared.seat.Seat.{Seat}
use Rattle.xd_run.specs.Numbers.{among, without}
use Rattle.xd_run.specs.Table.{held, seat_shut, shut_down, workers_of}
use Rattle.xd_run.specs.Plan.{Plan, UnansweredSteal, chunk_of}
use Rattle.xd_run.specs.Turn.{Turn, enough, give, give_front, shut, in_turn, shut_each}
use Rattle.xd_run.specs.Load as load
use Rattle.xd_run.specs.Worksteal as steal
use Rattle.xd_run.specs.Sharing.{State}
use Rattle.xd_run.specs.Outputs.{turn_of}
use Rattle.xd_run_laws.proofs.Logic.{and, in_both, split-and}
use Rattle.xd_run_laws.proofs.Rota.{has_seat}
use Rattle.xd_run_laws.proofs.EachTurns.{pool-shut}
use Rattle.xd_run_laws.proofs.Turns.{Good, IsPlain}
use Rattle.xd_run_laws.proofs.StealTurns.{IsOpen, good-dealt, idle-open, one_seat-turn, victim-of}
use Rattle.xd_run_laws.proofs.Busy.{shut_each-pool}
use Rattle.xd_run_laws.proofs.StealBusy.{dealt-spent}

-- the output hands tests out, or asks for some
abbrev pub hands_out : Entry → Bool
hands_out (Run w is) = true
hands_out (RunAll w) = true
hands_out (Steal w is) = true
hands_out _ = false

abbrev pub all_hand : List Entry → Bool
all_hand es = list_all hands_out es

pub hand-more : (es : List Entry) (e : Entry) → all_hand es ≡ true → hands_out e ≡ true → all_hand (es ++ e ∷ []) ≡ true
hand-more [] e h k = and k refl
hand-more (x ∷ es) e h k = let p = split-and (hands_out x) (all_hand es) h in and p.0 (hand-more es e p.1 k)

-- nobody is told to shut down, or nothing is left to hand out
abbrev pub IsFair : Turn → Type 0
IsFair t = (all_hand t.acts ≡ true) ⊎ ((t.table.pool ≡ []) × (t.plan.steal ≡ None))

-- so it is where no steal is ever open
pub record Fair (t : Turn) : Type 0 where
  pub steal : t.plan.steal ≡ None
  pub fair : (t.table.pool ≡ []) ⊎ (all_hand t.acts ≡ true)

pub fair-is : (t : Turn) → Fair t → IsFair t
fair-is t f = elim f.fair [ inl e ↦ inr (e, f.steal) | inr h ↦ inl h ]

pub in_turn-all : (P : Turn → Type 0) (f : ℕ → Turn → Turn) → ((w : ℕ) (t : Turn) → P t → P (f w t)) → (ws : List ℕ) (t : Turn) → P t → P (in_turn f ws t)
in_turn-all P f k [] t p = p
in_turn-all P f k (w ∷ ws) t p = in_turn-all P f k ws (f w t) (k w t p)

pub fair-give : (w : ℕ) (items : List ℕ) (t : Turn) → Fair t → Fair (give w items t)
fair-give w [] t f = f
fair-give w (i ∷ is) t f = record {
  steal = f.steal;
  fair = elim f.fair [ inl e ↦ inl (ap (λ (xs : List ℕ). without (i ∷ is) xs) e) | inr h ↦ inr (hand-more t.acts (Run w (i ∷ is)) h refl) ];
}

pub fair-shut : (w : ℕ) (t : Turn) → t.table.pool ≡ [] → Fair t → Fair (shut w t)
fair-shut w t e f = in_both Fair (seat_shut w t.table) t (record t { table = shut_down w t.table; acts = t.acts ++ Shutdown w ∷ [] }) (λ h. f) (λ h. record { steal = f.steal; fair = inl e })

pub fair-shut_each : (ws : List ℕ) (t : Turn) → t.table.pool ≡ [] → Fair t → Fair (shut_each ws t)
fair-shut_each [] t e f = f
fair-shut_each (w ∷ ws) t e f = fair-shut_each ws (shut w t) (pool-shut w t ∙ e) (fair-shut w t e f)

-- load

fair-topped : (ms w : ℕ) (t : Turn) → Fair t → Fair (load.topped_up ms w t)
fair-topped ms w t f =
    let pool = length t.table.pool in
    let workers = length (workers_of t.table) in
    let holds = length (held w t.table) in
    let n = load.more pool workers (chunk_of t.plan) holds in
    in_both Fair (load.is_due pool workers holds ms) (give_front w n t) t (λ h. fair-give w (take n t.table.pool) t f) (λ h. f)

pub fair-refill : (ms w : ℕ) (t : Turn) → Fair t → Fair (load.load_refill ms w t)
fair-refill ms w t f = in_both Fair (seat_shut w t.table) t (elim t.table.pool as (λ _. Turn) [ [] ↦ shut w t | x ∷ xs ↦ load.topped_up ms w t ]) (λ h. f) (λ h. by t.table.pool refl)
  where
    by : (pool : List ℕ) → t.table.pool ≡ pool → Fair (elim pool as (λ _. Turn) [ [] ↦ shut w t | x ∷ xs ↦ load.topped_up ms w t ])
    by [] e = fair-shut w t e f
    by (x ∷ xs) e = fair-topped ms w t f

pub fair-refill_all : (t : Turn) → Fair t → Fair (load.load_refill_all t)
fair-refill_all t f = in_turn-all Fair (load.load_refill 0) (λ w u g. fair-refill 0 w u g) (workers_of t.table) t f

fair-guarded : (n w : ℕ) (t : Turn) → Fair t → Fair (load.give_unless_shut n w t)
fair-guarded n w t f = in_both Fair (seat_shut w t.table) t (give_front w n t) (λ h. f) (λ h. fair-give w (take n t.table.pool) t f)

fair-dealt : (t : Turn) → Fair t → Fair (load.dealt_singly t)
fair-dealt t f =
    let tests = length t.table.pool in
    let ws = workers_of t.table in
    let n = load.first_batch tests (length ws) (chunk_of t.plan) in
    in_both Fair (nat_lt tests (enough * length ws)) (in_turn (load.give_unless_shut 1) (ws ++ ws) t) (in_turn (load.give_unless_shut n) ws t)
    (λ h. in_turn-all Fair (load.give_unless_shut 1) (λ w u g. fair-guarded 1 w u g) (ws ++ ws) t f)
    (λ h. in_turn-all Fair (load.give_unless_shut n) (λ w u g. fair-guarded n w u g) ws t f)

pub fair-share : (t : Turn) → Fair t → Fair (load.load_share t)
fair-share t f = by (load.dealt_singly t).table.pool refl
  where
    by : (pool : List ℕ) → (load.dealt_singly t).table.pool ≡ pool → Fair (elim pool as (λ _. Turn) [ [] ↦ shut_each (workers_of (load.dealt_singly t).table) (load.dealt_singly t) | x ∷ xs ↦ load.dealt_singly t ])
    by [] e = fair-shut_each (workers_of (load.dealt_singly t).table) (load.dealt_singly t) e (fair-dealt t f)
    by (x ∷ xs) e = fair-dealt t f

-- worksteal

-- so far tests were dealt alone
record Dealt (s : State) (t : Turn) : Type 0 where
  hand : all_hand t.acts ≡ true
  same : t.plan ≡ s.plan

dealt-give : (s : State) (w : ℕ) (items : List ℕ) (t : Turn) → Dealt s t → Dealt s (give w items t)
dealt-give s w [] t d = d
dealt-give s w (i ∷ is) t d = record { hand = hand-more t.acts (Run w (i ∷ is)) d.hand refl; same = d.same }

dealt-all : (s : State) (ws : List ℕ) (t : Turn) → Dealt s t → Dealt s (steal.dealt ws t)
dealt-all s [] t d = d
dealt-all s (w ∷ ws) t d = (let n = length t.table.pool / (length ws + 1) in dealt-all s ws (give_front w n t) (dealt-give s w (take n t.table.pool) t d))

-- the open steal is the earlier one, or is of a worker of the rota that was told nothing
abbrev pub AsksOpen : State → Turn → Type 0
AsksOpen s t = (a : UnansweredSteal) → t.plan.steal ≡ Some a → (s.plan.steal ≡ Some a) ⊎ ((has_seat a.worker t.table.rota ≡ true) × (seat_shut a.worker t.table ≡ false))

pub record Serves (s : State) (t : Turn) : Type 0 where
  pub fair : IsFair t
  pub asks : AsksOpen s t

earlier : (s : State) (t : Turn) → t.plan ≡ s.plan → AsksOpen s t
earlier s t e a h = inl (ap (λ (p : Plan). p.steal) (sym e) ∙ h)

pub plan-shut_each : (ws : List ℕ) (t : Turn) → (shut_each ws t).plan ≡ t.plan
plan-shut_each [] t = refl
plan-shut_each (w ∷ ws) t = plan-shut_each ws (shut w t)
    ∙ in_both (λ (u : Turn). u.plan ≡ t.plan) (seat_shut w t.table) t (record t { table = shut_down w t.table; acts = t.acts ++ Shutdown w ∷ [] }) (λ h. refl) (λ h. refl)

serves-shuts : (s : State) (ws : List ℕ) (t : Turn) → Dealt s t → t.table.pool ≡ [] → t.plan.steal ≡ None → Serves s (shut_each ws t)
serves-shuts s ws t d e none = record {
  fair = inr (shut_each-pool ws t ∙ e, ap (λ (p : Plan). p.steal) (plan-shut_each ws t) ∙ none);
  asks = earlier s (shut_each ws t) (plan-shut_each ws t ∙ d.same);
}

serves-asks : (s : State) (v : Seat) (n : ℕ) (t : Turn) → Dealt s t → has_seat v.worker t.table.rota ≡ true → seat_shut v.worker t.table ≡ false → Serves s (steal.asks v n t)
serves-asks s v n t d seat untold = record {
  fair = inl (hand-more t.acts (Steal v.worker (drop (length v.held - n) v.held)) d.hand refl);
  asks = λ a h. (let same : v.worker ≡ a.worker = cc in
      inr (subst (λ (w : ℕ). has_seat w t.table.rota ≡ true) same seat, subst (λ (w : ℕ). seat_shut w t.table ≡ false) same untold));
}

serves-asks_or_shuts : (s : State) (ws : List ℕ) (o : Option Seat) (t : Turn) → Good s t → Dealt s t → t.table.pool ≡ [] → t.plan.steal ≡ None → steal.victim t.table ≡ o → Serves s (steal.asks_or_shuts ws o t)
serves-asks_or_shuts s ws None t g d e none h = serves-shuts s ws t d e none
serves-asks_or_shuts s ws (Some v) t g d e none h =
    let k = victim-of (steal.most (steal.open_seats t.table)) t.table.rota v (one_seat-turn s t g) h in
    in_both (Serves s) (steal.steal_count v == 0) (shut_each ws t) (steal.asks v (steal.steal_count v) t) (λ z. serves-shuts s ws t d e none) (λ z. serves-asks s v (steal.steal_count v) t d k.open_.there k.open_.untold)

serves-dealt : (s : State) (t : Turn) → Dealt s t → Serves s t
serves-dealt s t d = record { fair = inl d.hand; asks = earlier s t d.same }

serves-after : (s : State) (t : Turn) → Good s t → Dealt s t → t.table.pool ≡ [] → Serves s (steal.after_dealing t)
serves-after s t g d e = by (steal.idle t.table)
  where
    on_steal : (ws : List ℕ) (o : Option UnansweredSteal) → t.plan.steal ≡ o → Serves s (elim o as (λ _. Turn) [ None ↦ steal.asks_or_shuts ws (steal.victim t.table) t | Some a ↦ t ])
    on_steal ws None h = serves-asks_or_shuts s ws (steal.victim t.table) t g d e h refl
    on_steal ws (Some a) h = serves-dealt s t d

    by : (ws : List ℕ) → Serves s (elim ws as (λ _. Turn) [ [] ↦ t | v ∷ vs ↦ (elim t.plan.steal as (λ _. Turn) [ None ↦ steal.asks_or_shuts (v ∷ vs) (steal.victim t.table) t | Some a ↦ t ]) ])
    by [] = serves-dealt s t d
    by (v ∷ vs) = on_steal (v ∷ vs) t.plan.steal refl

pub serves-rule : (s : State) → IsPlain s.plan.mode → Good s (turn_of s) → Serves s (steal.rule (turn_of s))
serves-rule s plain g = by (steal.idle t.table) refl
  where
    t : Turn
    t = turn_of s

    first : Dealt s t
    first = record { hand = refl; same = refl }

    by : (ws : List ℕ) → steal.idle t.table ≡ ws → Serves s (elim ws as (λ _. Turn) [ [] ↦ t | v ∷ vs ↦ steal.after_dealing (steal.dealt (v ∷ vs) t) ])
    by [] e = serves-dealt s t first
    by (v ∷ vs) e =
        (let idle : (w : ℕ) → among w (v ∷ vs) ≡ true → IsOpen w t.table.rota = λ w a. idle-open w t.table.rota (one_seat-turn s t g) (ap (λ (xs : List ℕ). among w xs) e ∙ a) in
        serves-after s (steal.dealt (v ∷ vs) t) (good-dealt s (v ∷ vs) t plain g idle) (dealt-all s (v ∷ vs) t first) (dealt-spent v vs t))

pub serves-share : (s : State) → IsPlain s.plan.mode → Good s (turn_of s) → Serves s (steal.steal_share (turn_of s))
serves-share s plain g = by s.books.table.pool
  where
    by : (pool : List ℕ) → Serves s (elim pool as (λ _. Turn) [ [] ↦ turn_of s | x ∷ xs ↦ steal.rule (turn_of s) ])
    by [] = serves-dealt s (turn_of s) (record { hand = refl; same = refl })
    by (x ∷ xs) = serves-rule s plain g

pub serves-fair : (s : State) (t : Turn) → Fair t → Serves s t
serves-fair s t f = record { fair = fair-is t f; asks = λ a h. absurd (let z : None ≡ Some a = sym f.steal ∙ h in cc) }
