-- The rota's workers and their marks agree, whatever happens to one of them.
use Rattle.std.proofs.Common.{◌≡◌, ℕ, ◌≤◌, List, [], ◌∷◌, ◌++◌, map, true, false, not, ◌&&◌, refl, ap, sym, ◌∙◌, subst, arith, inl, inr}
use Rattle.std.specs.Prelude.{if◌then◌else◌, ◌==◌, ◌⊎◌}
use Rattle.std.proofs.lemmas.Bool.Decides.{nat_tests}
use Rattle.xd_run.specs.declared.seat.Seat.{Seat}
use Rattle.xd_run.specs.declared.member.Member.{Member}
use Rattle.xd_run.specs.Table.{Table, in_rota, seat_shut, at_seat, without_seat, joined, shut_down}
use Rattle.xd_run.specs.Workers.{started, made_ready, made_collected, made_shut, made_gone}
use Rattle.xd_run_laws.proofs.Logic.{split-and, split-or, not_true, or-left, or-unset}
use Rattle.xd_run_laws.proofs.Rota.{seats_of, has_seat, is_told, one-of_seat, none-of_seat, untold-of_seat, seats-change, seat-change, told-change, told-shut, seat-left, told-left, seats-left, seat-joined, told-joined, seats-joined}
use Rattle.xd_run_laws.proofs.Members.{has, is_member, has-member, has-same, has-set, has-kept, has-cleared, has-more}

-- each worker of the rota has one seat, is active, ready and collected, and both marks of a Shutdown agree
pub record Fits (t : Table) (ms : List Member) : Type 0 where
  pub seats : (w : ℕ) → seats_of w t.rota ≤ 1
  pub active : (w : ℕ) → in_rota w t ≡ true → has w (λ m. m.active) ms ≡ true
  pub ready : (w : ℕ) → in_rota w t ≡ true → has w (λ m. m.ready) ms ≡ true
  pub collected : (w : ℕ) → in_rota w t ≡ true → has w (λ m. m.collected) ms ≡ true
  pub marks : (w : ℕ) → in_rota w t ≡ true → has w (λ m. m.shut) ms ≡ seat_shut w t

pub one_seat : (t : Table) (ms : List Member) (w : ℕ) → Fits t ms → in_rota w t ≡ true → seats_of w t.rota ≡ 1
one_seat t ms w c h = omega (arith, c.seats w, one-of_seat w t.rota h)

-- what a seat holds changes
pub fits-change : (t u : Table) (ms : List Member) (w : ℕ) (f : Seat → Seat) → u.rota ≡ at_seat w f t.rota
    → ((s : Seat) → (f s).worker ≡ s.worker) → ((s : Seat) → (f s).shut ≡ s.shut) → Fits t ms → Fits u ms
fits-change t u ms w f e k l c =
    let r : (v : ℕ) → in_rota v u ≡ in_rota v t = λ v. ap (λ (ss : List Seat). has_seat v ss) e ∙ seat-change v w f t.rota k in
    record {
      seats = λ v. (let h : seats_of v u.rota ≡ seats_of v t.rota = ap (λ (ss : List Seat). seats_of v ss) e ∙ seats-change v w f t.rota k in omega (arith, c.seats v));
      active = λ v h. c.active v (sym (r v) ∙ h);
      ready = λ v h. c.ready v (sym (r v) ∙ h);
      collected = λ v h. c.collected v (sym (r v) ∙ h);
      marks = λ v h. c.marks v (sym (r v) ∙ h) ∙ sym (ap (λ (ss : List Seat). is_told v ss) e ∙ told-change v w f t.rota k l);
    }

-- whoever is left is another worker
in_left : (t u : Table) (v w : ℕ) → u.rota ≡ without_seat w t.rota → in_rota v u ≡ true → ((v == w) ≡ false) × (in_rota v t ≡ true)
in_left t u v w e h =
    let k : (not (v == w) && in_rota v t) ≡ true = sym (ap (λ (ss : List Seat). has_seat v ss) e ∙ seat-left v w t.rota) ∙ h in
    let p = split-and (not (v == w)) (in_rota v t) k in
    (not_true (v == w) p.0, p.1)

pub still_active : (v w : ℕ) (ms : List Member) → (v == w) ≡ false → has v (λ m. m.active) ms ≡ true → has v (λ m. m.active) (map (made_gone w) ms) ≡ true
still_active v w ms h k = has-cleared v w (λ m. m.active) (made_gone w) ms (λ m. refl) (λ m. refl) ∙ rw (h, k)

-- a worker of the rota goes
pub fits-gone : (t u : Table) (ms : List Member) (w : ℕ) → u.rota ≡ without_seat w t.rota → Fits t ms → Fits u (map (made_gone w) ms)
fits-gone t u ms w e c = record {
  seats = λ v. (let h : seats_of v u.rota ≡ seats_of v (without_seat w t.rota) = ap (λ (ss : List Seat). seats_of v ss) e in omega (arith, c.seats v, seats-left v w t.rota));
  active = λ v h. (let p = in_left t u v w e h in still_active v w ms p.0 (c.active v p.1));
  ready = λ v h. has-same v (λ m. m.ready) (made_gone w) ms (λ m. refl) (λ m. refl) ∙ c.ready v (in_left t u v w e h).1;
  collected = λ v h. has-same v (λ m. m.collected) (made_gone w) ms (λ m. refl) (λ m. refl) ∙ c.collected v (in_left t u v w e h).1;
  marks = λ v h. (let p = in_left t u v w e h in has-same v (λ m. m.shut) (made_gone w) ms (λ m. refl) (λ m. refl) ∙ c.marks v p.1
      ∙ sym (ap (λ (ss : List Seat). is_told v ss) e ∙ told-left v w t.rota p.0));
}

other_seat : (t : Table) (v w : ℕ) → in_rota v t ≡ true → in_rota w t ≡ false → (v == w) ≡ false
other_seat t v w a b = grind (arith, nat_tests)

-- a worker that is not in the rota goes
pub fits-refused : (t : Table) (ms : List Member) (w : ℕ) → in_rota w t ≡ false → Fits t ms → Fits t (map (made_gone w) ms)
fits-refused t ms w n c = record {
  seats = c.seats;
  active = λ v h. still_active v w ms (other_seat t v w h n) (c.active v h);
  ready = λ v h. has-same v (λ m. m.ready) (made_gone w) ms (λ m. refl) (λ m. refl) ∙ c.ready v h;
  collected = λ v h. has-same v (λ m. m.collected) (made_gone w) ms (λ m. refl) (λ m. refl) ∙ c.collected v h;
  marks = λ v h. has-same v (λ m. m.shut) (made_gone w) ms (λ m. refl) (λ m. refl) ∙ c.marks v h;
}

pub fits-ready : (t : Table) (ms : List Member) (w : ℕ) → Fits t ms → Fits t (map (made_ready w) ms)
fits-ready t ms w c = record {
  seats = c.seats;
  active = λ v h. has-same v (λ m. m.active) (made_ready w) ms (λ m. refl) (λ m. refl) ∙ c.active v h;
  ready = λ v h. has-kept v w (λ m. m.ready) (made_ready w) ms (λ m. refl) (λ m. refl) (c.ready v h);
  collected = λ v h. has-same v (λ m. m.collected) (made_ready w) ms (λ m. refl) (λ m. refl) ∙ c.collected v h;
  marks = λ v h. has-same v (λ m. m.shut) (made_ready w) ms (λ m. refl) (λ m. refl) ∙ c.marks v h;
}

pub fits-collected : (t : Table) (ms : List Member) (w : ℕ) → Fits t ms → Fits t (map (made_collected w) ms)
fits-collected t ms w c = record {
  seats = c.seats;
  active = λ v h. has-same v (λ m. m.active) (made_collected w) ms (λ m. refl) (λ m. refl) ∙ c.active v h;
  ready = λ v h. has-same v (λ m. m.ready) (made_collected w) ms (λ m. refl) (λ m. refl) ∙ c.ready v h;
  collected = λ v h. has-kept v w (λ m. m.collected) (made_collected w) ms (λ m. refl) (λ m. refl) (c.collected v h);
  marks = λ v h. has-same v (λ m. m.shut) (made_collected w) ms (λ m. refl) (λ m. refl) ∙ c.marks v h;
}

pub fits-start : (t : Table) (ms : List Member) (w slot : ℕ) → Fits t ms → Fits t (ms ++ started w slot ∷ [])
fits-start t ms w slot c =
    let new = started w slot in
    record {
      seats = c.seats;
      active = λ v h. has-more v (λ m. m.active) ms new ∙ or-left (has v (λ m. m.active) ms) (w == v && true) (c.active v h);
      ready = λ v h. has-more v (λ m. m.ready) ms new ∙ or-left (has v (λ m. m.ready) ms) (w == v && false) (c.ready v h);
      collected = λ v h. has-more v (λ m. m.collected) ms new ∙ or-left (has v (λ m. m.collected) ms) (w == v && false) (c.collected v h);
      marks = λ v h. has-more v (λ m. m.shut) ms new ∙ or-unset (has v (λ m. m.shut) ms) (w == v) ∙ c.marks v h;
    }

pub fits-shutdown : (t : Table) (ms : List Member) (w : ℕ) → Fits t ms → Fits (shut_down w t) (map (made_shut w) ms)
fits-shutdown t ms w c =
    let f : Seat → Seat = λ s. record s { shut = true } in
    let r : (v : ℕ) → in_rota v (shut_down w t) ≡ in_rota v t = λ v. seat-change v w f t.rota (λ s. refl) in
    record {
      seats = λ v. (let h = seats-change v w f t.rota (λ s. refl) in omega (arith, c.seats v, h));
      active = λ v h. has-same v (λ m. m.active) (made_shut w) ms (λ m. refl) (λ m. refl) ∙ c.active v (sym (r v) ∙ h);
      ready = λ v h. has-same v (λ m. m.ready) (made_shut w) ms (λ m. refl) (λ m. refl) ∙ c.ready v (sym (r v) ∙ h);
      collected = λ v h. has-same v (λ m. m.collected) (made_shut w) ms (λ m. refl) (λ m. refl) ∙ c.collected v (sym (r v) ∙ h);
      marks = λ v h. (let k = sym (r v) ∙ h in
          has-set v w (λ m. m.shut) (made_shut w) ms (λ m. refl) (λ m. refl)
          ∙ (elim (v == w) as (λ q. (if q then is_member v ms else has v (λ m. m.shut) ms) ≡ (if q then in_rota v t else seat_shut v t))
          [ true ↦ has-member v (λ m. m.active) ms (c.active v k) ∙ sym k | false ↦ c.marks v k ]) ∙ sym (told-shut v w t.rota));
    }

same_worker : (w v : ℕ) (P : ℕ → Type 0) → (w == v) ≡ true → P w → P v
same_worker w v P h p = let e : w ≡ v = grind (arith, nat_tests) in subst P e p

pub fits-joined : (t : Table) (ms : List Member) (w : ℕ) → Fits t ms → in_rota w t ≡ false
    → has w (λ m. m.active) ms ≡ true → has w (λ m. m.ready) ms ≡ true → has w (λ m. m.collected) ms ≡ true → has w (λ m. m.shut) ms ≡ false
    → Fits (joined w t) ms
fits-joined t ms w c n a r d s =
    let new : Seat = record { worker = w; held = []; shut = false } in
    let cases : (v : ℕ) → in_rota v (joined w t) ≡ true → (in_rota v t ≡ true) ⊎ ((w == v) ≡ true) = λ v h. split-or (in_rota v t) (w == v) (sym (seat-joined v t.rota new) ∙ h) in
    record {
      seats = λ v. (let h = seats-joined v t.rota new in grind (arith, nat_tests, c.seats v, h, none-of_seat w t.rota n));
      active = λ v h. elim (cases v h) [ inl k ↦ c.active v k | inr k ↦ same_worker w v (λ u. has u (λ m. m.active) ms ≡ true) k a ];
      ready = λ v h. elim (cases v h) [ inl k ↦ c.ready v k | inr k ↦ same_worker w v (λ u. has u (λ m. m.ready) ms ≡ true) k r ];
      collected = λ v h. elim (cases v h) [ inl k ↦ c.collected v k | inr k ↦ same_worker w v (λ u. has u (λ m. m.collected) ms ≡ true) k d ];
      marks = λ v h. (elim (cases v h) [
        | inl k ↦ c.marks v k
        | inr k ↦ same_worker w v (λ u. has u (λ m. m.shut) ms ≡ seat_shut u t) k (s ∙ sym (untold-of_seat w t.rota n))
      ]) ∙ sym (told-joined v t.rota new refl);
    }
