-- A worker that ends, or refuses, leaves someone who owes the next step.
use Rattle.std.proofs.Common.{◌≡◌, ℕ, ◌≤◌, List, [], ◌∷◌, length, map, Bool, true, false, not, ◌&&◌, ◌||◌, refl, ap, sym, ◌∙◌, arith, inl, inr}
use Rattle.std.specs.Prelude.{if◌then◌else◌, ◌==◌, nat_le}
use Rattle.std.specs.List.{list_any}
use Rattle.std.proofs.lemmas.Bool.Decides.{nat_tests}
use Rattle.xd_journal.specs.declared.entry.Entry.TheVariants.{Finished, Refused}
use Rattle.xd_journal.specs.declared.entry.RunStop.TheVariants.{CollectError}
use Rattle.xd_run.specs.declared.member.Member.{Member}
use Rattle.xd_run.specs.declared.seat.Seat.{Seat}
use Rattle.xd_run.specs.Numbers.{among}
use Rattle.xd_run.specs.Table.{Table, held, seat_shut, without_seat}
use Rattle.xd_run.specs.Workers.{has_collected, is_active, is_shut, made_gone}
use Rattle.xd_run.specs.Stops.{is_stopped}
use Rattle.xd_run.specs.Sharing.{State}
use Rattle.xd_run.specs.State.{after_entries, after_effect}
use Rattle.xd_run.specs.Outputs.{own_outputs}
use Rattle.xd_run.specs.Proper.{may_follow}
use Rattle.xd_run_laws.proofs.Logic.{cases_of, clash, differ, not_true, split-and}
use Rattle.xd_run_laws.proofs.Members.{has, has-same}
use Rattle.xd_run_laws.proofs.MembersFit.{slot-marked, was_active}
use Rattle.xd_run_laws.proofs.Fits.{still_active}
use Rattle.xd_run_laws.proofs.Rota.{has_seat, seat-among, seat-left, told-left}
use Rattle.xd_run_laws.proofs.Queue.{held-left}
use Rattle.xd_run_laws.proofs.Turns.{InRota, Tidy}
use Rattle.xd_run_laws.proofs.Rule.{Rule}
use Rattle.xd_run_laws.proofs.Inputs.{shut-gone, some-stop}
use Rattle.xd_run_laws.proofs.Busy.{has_work}
use Rattle.xd_run_laws.proofs.Owing.{Going, Owing, Seated}
use Rattle.xd_run_laws.proofs.Going.{StillOpen, asked-by, awaited-by, fewer-gone, owing-unless, told-fewer}

-- who is left in the rota
pub rota-left : (v w : ℕ) (ss : List Seat) → (v == w) ≡ false → among v (map (λ s. s.worker) ss) ≡ true → among v (map (λ s. s.worker) (without_seat w ss)) ≡ true
rota-left v w ss n h = sym (seat-among v (without_seat w ss)) ∙ seat-left v w ss ∙ rw (n, seat-among v ss ∙ h) refl

pub was-in_rota : (v w : ℕ) (ss : List Seat) → among v (map (λ s. s.worker) (without_seat w ss)) ≡ true → ((v == w) ≡ false) × (among v (map (λ s. s.worker) ss) ≡ true)
was-in_rota v w ss h =
    let p = split-and (not (v == w)) (has_seat v ss) (sym (seat-left v w ss) ∙ seat-among v (without_seat w ss) ∙ h) in
    (not_true (v == w) p.0, sym (seat-among v ss) ∙ p.1)

pub fewer-seats : (w : ℕ) (ss : List Seat) → length (without_seat w ss) ≤ length ss
fewer-seats w [] = omega arith
fewer-seats w (s ∷ ss) = grind (arith, nat_tests, fewer-seats w ss)

-- another worker than one that has a mark is who has it not
pub other-by : (v w : ℕ) (f : ℕ → Bool) → f w ≡ true → f v ≡ false → (v == w) ≡ false
other-by v w f h n = elim (cases_of (v == w)) [
  | inl k ↦ (let same : v ≡ w = grind (arith, nat_tests, k) in absurd (differ (sym n ∙ ap f same ∙ h)))
  | inr k ↦ k
]

-- after a worker's end whoever has collected and was told nothing is in the rota
pub seated-gone : (s t : State) (w : ℕ) → t.books.members ≡ map (made_gone w) s.books.members → t.books.table.rota ≡ without_seat w s.books.table.rota → Seated s → Seated t
seated-gone s t w members rota k v a c n =
    let p = was_active v w s.books.members (ap (λ (ms : List Member). has v (λ m. m.active) ms) (sym members) ∙ a) in
    let c_before = sym (has-same v (λ m. m.collected) (made_gone w) s.books.members (λ m. refl) (λ m. refl)) ∙ ap (λ (ms : List Member). has v (λ m. m.collected) ms) (sym members) ∙ c in
    let n_before = sym (shut-gone w v s.books.members) ∙ ap (λ (ms : List Member). has v (λ m. m.shut) ms) (sym members) ∙ n in
    ap (λ (ss : List Seat). among v (map (λ x. x.worker) ss)) rota ∙ rota-left v w s.books.table.rota p.0 (k v p.1 c_before n_before)

-- in mode each whoever is left was told
pub told-gone : (s t : State) (w : ℕ) → t.books.table.rota ≡ without_seat w s.books.table.rota → ((v : ℕ) → InRota s v → seat_shut v s.books.table ≡ true) → (v : ℕ) → InRota t v → seat_shut v t.books.table ≡ true
told-gone s t w rota k v h =
    let p = was-in_rota v w s.books.table.rota (ap (λ (ss : List Seat). among v (map (λ x. x.worker) ss)) (sym rota) ∙ h) in
    ap (λ (ss : List Seat). list_any (λ x. if x.worker == v then x.shut else false) ss) rota ∙ told-left v w s.books.table.rota p.0 ∙ k v p.1

pub same-work : (v : ℕ) (t u : Table) → seat_shut v u ≡ seat_shut v t → held v u ≡ held v t → has_work v t ≡ true → has_work v u ≡ true
same-work v t u a b h = ap (λ (q : Bool). q || nat_le 2 (length (held v u))) a ∙ ap (λ (xs : List ℕ). seat_shut v t || nat_le 2 (length xs)) b ∙ h

-- a worker ends

pub finished-owing : (s : State) (w : ℕ) → may_follow s (Finished w) ≡ true → Tidy s → Owing s → Owing (after_effect s (Finished w))
finished-owing s w h d o = record { told = λ q. told-fewer s now (fewer-gone s now w refl) (o.told q); going = λ z. goes z (o.going z) }
  where
    now : State
    now = after_effect s (Finished w)

    ms : List Member
    ms = s.books.members

    is_told : has w (λ m. m.shut) ms ≡ true
    is_told = (split-and (is_active w s.books) (is_shut w s.books) (split-and (is_active w s.books && is_shut w s.books) (has_collected w s.books)
        (split-and (is_active w s.books && is_shut w s.books && has_collected w s.books) (length (held w s.books.table) == 0) h).0).0).1

    still_open : StillOpen s now
    still_open v a n = (still_active v w ms (other-by v w (λ u. has u (λ m. m.shut) ms) is_told n) a, shut-gone w v ms ∙ n)

    shared : is_stopped s.books ≡ false → s.books.shared ≡ true
    shared z = elim (cases_of s.books.shared) [ inl k ↦ k | inr k ↦ absurd (clash (has w (λ m. m.shut) ms) (d.calm.unshut z k w) is_told) ]

    goes : is_stopped s.books ≡ false → Going s → Going now
    goes z g = record {
      seated = seated-gone s now w refl refl g.seated;
      work = λ q. elim (g.work q) [
        | inl e ↦ inl e
        | inr f ↦ inr (λ v b. (let p = was-in_rota v w s.books.table.rota b in
            same-work v s.books.table now.books.table (told-left v w s.books.table.rota p.0) (held-left v w s.books.table.rota p.0) (f v p.1)))
      ];
      told = λ q e. told-gone s now w refl (g.told q e);
      awaited = awaited-by s now (λ x a. a) still_open (λ v. slot-marked v (made_gone w) ms (λ m. refl) (λ m. refl)) refl refl g.awaited;
      asked = asked-by s now (λ a e. e) still_open g.asked;
      slots = λ q. absurd (clash s.books.shared q (shared z));
      room = λ q. absurd (clash s.books.shared q (shared z));
    }

pub refused-owing : (X : State → Type 0) → Rule X → (s : State) (w : ℕ) (t : List ℕ) → Tidy (after_effect s (Refused w t)) → X (after_effect s (Refused w t)) → Owing s
    → Owing (after_entries (after_effect s (Refused w t)) (own_outputs s (Refused w t) (after_effect s (Refused w t))))
refused-owing X rule s w t d x o =
    let now = after_effect s (Refused w t) in
    owing-unless X rule s now [] (λ q. told-fewer s now (fewer-gone s now w refl) (o.told q)) d x (λ q. some-stop s.books.stop (CollectError w))
    (λ n z. absurd (clash (is_stopped now.books) z (some-stop s.books.stop (CollectError w))))
