-- The rule of worksteal, step by step.
use Rattle.std.proofs.Common.{◌≡◌, ℕ, zero, suc, subst, ◌+◌, ◌-◌, ◌/◌, ◌<◌, List, [], ◌∷◌, ◌++◌, drop, length, get_or, true, false, refl, ap, sym, ◌∙◌, arith}
use Rattle.std.specs.Prelude.{if◌then◌else◌, ◌==◌, min, Option, Some, option_map}
use Rattle.std.proofs.lemmas.Bool.Decides.{nat_tests}
use Rattle.xd_journal.specs.declared.entry.Entry.{Entry}
use Rattle.xd_journal.specs.declared.entry.Entry.TheVariants.{Steal}
use Rattle.xd_run.specs.declared.seat.Seat.{Seat}
use Rattle.xd_run.specs.Numbers.{all_distinct}
use Rattle.xd_run.specs.Table.{Table, workers_of, held, in_rota}
use Rattle.xd_run.specs.Plan.{Plan}
use Rattle.xd_ledger.specs.Calls.{turn, Turned}
use Rattle.xd_run.specs.Modes.{turned}
use Rattle.xd_run.specs.Modes.ModeCall.{Share}
use Rattle.xd_run.specs.Turn.{Turn, give_front, shut, shut_each}
use Rattle.xd_run.specs.Worksteal.{kept_part, idle, most, open_seats, dealt, victim, steal_count, asks, asks_or_shuts, after_dealing, rule}
use Rattle.xd_run.specs.Turn.{enough}
use Rattle.xd_steal.specs.Stands.{StandsForSteal, MatchesTurn}
use Rattle.xd_steal.proofs.Rota.{first_is}

pub dealt-next : (ws : List ℕ) (i : ℕ) (t u : Turn) → i < length ws → u ≡ give_front (get_or ws i 0) (length t.table.pool / (length ws - i)) t → dealt (drop (i + 1) ws) u ≡ dealt (drop i ws) t
dealt-next [] i t u h e = absurd (omega arith)
dealt-next (w ∷ ws) zero t u h e =
    let n : suc (length ws) - 0 ≡ length ws + 1 = omega arith in
    ap (dealt ws) (e ∙ ap (λ k. give_front w (length t.table.pool / k) t) n)
dealt-next (w ∷ ws) (suc i) t u h e =
    let j : suc i + 1 ≡ suc (i + 1) = omega arith in
    let n : suc (length ws) - suc i ≡ length ws - i = omega arith in
    ap (λ k. dealt (drop k (w ∷ ws)) u) j ∙ dealt-next ws i t u (omega arith) (e ∙ ap (λ k. give_front (get_or ws i 0) (length t.table.pool / k) t) n)

pub shuts-next : (ws : List ℕ) (i : ℕ) (t u : Turn) → i < length ws → u ≡ shut (get_or ws i 0) t → shut_each (drop (i + 1) ws) u ≡ shut_each (drop i ws) t
shuts-next [] i t u h e = absurd (omega arith)
shuts-next (w ∷ ws) zero t u h e = ap (shut_each ws) e
shuts-next (w ∷ ws) (suc i) t u h e =
    let j : suc i + 1 ≡ suc (i + 1) = omega arith in
    ap (λ k. shut_each (drop k (w ∷ ws)) u) j ∙ shuts-next ws i t u (omega arith) e

pub record VictimIs (w : ℕ) (t : Table) : Type 0 where
  pub seat : Seat
  pub is : victim t ≡ Some seat
  pub named : seat.worker ≡ w
  pub seated : in_rota w t ≡ true
  pub holds : held w t ≡ seat.held

pub victim_is : (w : ℕ) (t : Table) → all_distinct (workers_of t) ≡ true → Some w ≡ option_map (λ s. s.worker) (victim t) → VictimIs w t
victim_is w t d h =
    let r = first_is (most (open_seats t)) w t.rota d h in
    record { seat = r.seat; is = r.is; named = r.named; seated = r.seated; holds = r.holds }

-- how many are asked of a worker that holds n
abbrev pub number_for : ℕ → ℕ
number_for n = min (n / kept_part) (n - enough)

follows : (t : Table) (p : Plan) (acts : List Entry) (asked : Option ℕ) (u : Turn) → turn t p acts ≡ u → StandsForSteal asked p → MatchesTurn u t acts asked
follows t p acts asked u e s = record {
  table_is = ap (λ (v : Turn). v.table) e;
  acts_are = ap (λ (v : Turn). v.acts) e;
  stands_for = subst (StandsForSteal asked) (ap (λ (v : Turn). v.plan) e) s;
}

shuts-at_zero : (ws : List ℕ) (w : ℕ) (t : Table) (u : Turn) → VictimIs w t → number_for (length (held w t)) ≡ 0 → asks_or_shuts ws (victim t) u ≡ shut_each ws u
shuts-at_zero ws w t u v z =
    let n : (steal_count v.seat == 0) ≡ true = ap (λ xs. number_for (length xs) == 0) (sym v.holds) ∙ ap (λ n. n == 0) z in
    ap (λ s. asks_or_shuts ws s u) v.is ∙ ap (λ b. if b then shut_each ws u else asks v.seat (steal_count v.seat) u) n

asks-else : (ws : List ℕ) (w : ℕ) (t : Table) (u : Turn) → VictimIs w t → (number_for (length (held w t)) == 0) ≡ false
    → asks_or_shuts ws (victim t) u ≡ record u {
      plan = record (u.plan) { steal = Some (record { worker = w; tests = drop (length (held w t) - number_for (length (held w t))) (held w t) }) };
      acts = u.acts ++ Steal w (drop (length (held w t) - number_for (length (held w t))) (held w t)) ∷ [];
    }
asks-else ws w t u v z =
    let n : (steal_count v.seat == 0) ≡ false = ap (λ xs. number_for (length xs) == 0) (sym v.holds) ∙ z in
    ap (λ s. asks_or_shuts ws s u) v.is ∙ ap (λ b. if b then shut_each ws u else asks v.seat (steal_count v.seat) u) n
    ∙ ap (λ xs. asks (record v.seat { held = xs }) (number_for (length xs)) u) (sym v.holds)
    ∙ ap (λ x. asks (record { worker = x; held = held w t; shut = v.seat.shut }) (number_for (length (held w t))) u) v.named

pub rule-deals : (ws : List ℕ) (t : Turn) → ws ≡ idle t.table → (length ws == 0) ≡ false → rule t ≡ after_dealing (dealt ws t)
rule-deals [] t e n = absurd (cc)
rule-deals (w ∷ ws) t e n = ap (λ (vs : List ℕ). elim vs as (λ _. Turn) [ [] ↦ t | v ∷ vs ↦ after_dealing (dealt (v ∷ vs) t) ]) (sym e)

pub follows_shut : (ws : List ℕ) (w n : ℕ) (t now : Table) (p : Plan) (acts acts_now : List Entry) (asked : Option ℕ) → VictimIs w t → n ≡ number_for (length (held w t)) → n ≡ 0
    → turn now p acts_now ≡ shut_each ws (turn t p acts) → StandsForSteal asked p → MatchesTurn (asks_or_shuts ws (victim t) (turn t p acts)) now acts_now asked
follows_shut ws w n t now p acts acts_now asked v e z h s =
    follows now p acts_now asked (asks_or_shuts ws (victim t) (turn t p acts)) (h ∙ sym (shuts-at_zero ws w t (turn t p acts) v (sym e ∙ z))) s

pub follows_asked : (ws : List ℕ) (w n : ℕ) (t : Table) (p : Plan) (acts acts_now : List Entry) (asked asked_now : Option ℕ) → VictimIs w t → n ≡ number_for (length (held w t)) → (n ≡ 0 → ⊥)
    → asked_now ≡ Some w → acts_now ≡ acts ++ Steal w (drop (length (held w t) - n) (held w t)) ∷ [] → StandsForSteal asked p
    → MatchesTurn (asks_or_shuts ws (victim t) (turn t p acts)) t acts_now asked_now
follows_asked ws w n t p acts acts_now asked asked_now v e z o h s =
    let some : (n == 0) ≡ false = grind (arith, nat_tests) in
    let u = asks-else ws w t (turn t p acts) v (ap (λ m. m == 0) (sym e) ∙ some) in
    record {
      table_is = sym (ap (λ (u : Turn). u.table) u);
      acts_are = h ∙ ap (λ m. acts ++ Steal w (drop (length (held w t) - m) (held w t)) ∷ []) e ∙ sym (ap (λ (u : Turn). u.acts) u);
      stands_for = subst (StandsForSteal asked_now) (sym (ap (λ (u : Turn). u.plan) u)) (record { mode = s.mode; steal = sym o });
    }

shares-by : (pool : List ℕ) (t : Turn) → (length pool ≡ 0 → ⊥) → (elim pool as (λ _. Turn) [ [] ↦ t | x ∷ xs ↦ rule t ]) ≡ rule t
shares-by [] t h = absurd (h refl)
shares-by (x ∷ xs) t h = refl

pub shares : (slots : List ℕ) (p : Plan) (t now : Table) (acts acts_now : List Entry) (asked asked_now : Option ℕ) → StandsForSteal asked p → (length t.pool ≡ 0 → ⊥)
    → MatchesTurn (rule (turn t p acts)) now acts_now asked_now → Turned (Share slots) p t acts now acts_now (StandsForSteal asked_now)
shares slots p t now acts acts_now asked asked_now s some f =
    let e = ap (λ m. turned m (Share slots) (turn t p acts)) s.mode ∙ shares-by t.pool (turn t p acts) some in
    record {
      table_is = f.table_is ∙ sym (ap (λ (u : Turn). u.table) e);
      acts_are = f.acts_are ∙ sym (ap (λ (u : Turn). u.acts) e);
      stands_for = subst (StandsForSteal asked_now) (sym (ap (λ (u : Turn). u.plan) e)) f.stands_for;
    }
