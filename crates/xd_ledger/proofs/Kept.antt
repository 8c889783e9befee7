-- What the ledger's calls make of its lists and posts is what the moves say, and it stays in order.
use Rattle.std.proofs.Common.{◌≡◌, ℕ, ◌≤◌, ◌<◌, List, [], ◌∷◌, ◌++◌, append_assoc, take, drop, length, get_or, set, Bool, true, false, not, refl, ap, sym, subst, ◌∙◌, arith}
use Rattle.std.specs.Prelude.{◌==◌, filter}
use Rattle.std.specs.List.{list_any}
use Rattle.std.proofs.lemmas.Bool.Decides.{nat_tests}
use Rattle.xd_ledger.specs.declared.post.Post.{Post}
use Rattle.xd_run.specs.declared.seat.Seat.{Seat}
use Rattle.xd_ledger.specs.Chains.{Lists, chain_at, chains_of, changed, shifted, poured}
use Rattle.xd_run.specs.Numbers.{among, without, all_among, all_distinct, times}
use Rattle.xd_ledger.specs.Posts.{seats, chains_in, chain_in, place_in, table_of, released, IsKept}
use Rattle.xd_ledger.specs.Sound.{IsSound, seats_of}
use Rattle.xd_run.specs.Table.{Table, held, retried_item, crash_item, in_rota, assigned, completed, given_back, died, left_rota, shut_down}
use Rattle.xd_ledger.proofs.ChainMoves.{changed-here, changed-else}
use Rattle.xd_ledger.proofs.ChainCalls.{shifted-to, shifted-from, shifted-else, poured-to, poured-else}
use Rattle.xd_ledger.proofs.Links.{same, swapped}
use Rattle.xd_ledger.proofs.Posts.{any-posts, held-posts, chain-there, Marks, marks, SameOthers, seats-moved, seats-left, chains-left, place-in, place-shut, chains-shut}
use Rattle.xd_ledger.proofs.Sizes.{length-table, length-held, length-among, taken_distinct}
use Rattle.xd_ledger.proofs.Sounds.{assigned_sound, completed_sound, given_back_sound, died_sound, left_sound, shut_sound}

-- the worker's list is none of the pool's
pub record Has (w : ℕ) (l : Lists) (ps : List Post) (reported who_joined : List ℕ) : Type 0 where
  pub after_pool : (0 == chain_in w ps) ≡ false
  pub preceding : (chain_in w ps == 0) ≡ false
  pub below : chain_in w ps < chains_of l
  pub marked : Marks w (chain_in w ps) ps
  pub holds : held w (table_of (chain_at l) ps reported who_joined) ≡ chain_at l (chain_in w ps)

pub has : (w : ℕ) (l : Lists) (ps : List Post) (reported who : List ℕ) (room : ℕ) → IsKept l ps reported who room → in_rota w (table_of (chain_at l) ps reported who) ≡ true → Has w l ps reported who
has w l ps reported who room k h =
    let i : list_any (λ q. q.worker == w) ps ≡ true = sym (any-posts w (chain_at l) ps) ∙ h in
    let t = k.known (chain_in w ps) (chain-there w ps i) in
    record {
      after_pool = (let a = t.0 in grind (arith, nat_tests));
      preceding = (let a = t.0 in grind (arith, nat_tests));
      below = t.1;
      marked = marks w (chain_at l) ps (k.sound.seated_once w) k.once (λ j e. (k.known j e).0) i;
      holds = held-posts w (chain_at l) ps i;
    }

pub kept_again : (l now : Lists) (ps : List Post) (reported reported2 who : List ℕ) (t : Table) (room room2 : ℕ) → IsKept l ps reported who room → table_of (chain_at now) ps reported2 who ≡ t → IsSound t room2 → chains_of now ≡ chains_of l → IsKept now ps reported2 who room2
kept_again l now ps reported reported2 who t room room2 k e s c = record {
  sound = subst (λ u. IsSound u room2) (sym e) s;
  pool_there = (let a = k.pool_there in omega arith);
  once = k.once;
  known = λ j h. (let a = k.known j h in (a.0, (let b = a.1 in omega arith)));
}

pub table-eq : (p p2 : List ℕ) (ss ss2 : List Seat) (r r2 who : List ℕ) → p ≡ p2 → ss ≡ ss2 → r ≡ r2 → ◌≡◌ {A = Table} (record { pool = p; rota = ss; reported = r; who_joined = who }) (record { pool = p2; rota = ss2; reported = r2; who_joined = who })
table-eq p p2 ss ss2 r r2 who a b c = cc

-- assign

pub assign_table : (w : ℕ) (items : List ℕ) (l : Lists) (now : ℕ → List ℕ) (ps : List Post) (reported who : List ℕ) → Has w l ps reported who → ((j : ℕ) → now j ≡ shifted 0 (chain_in w ps) items (chain_at l) j)
    → table_of now ps reported who ≡ assigned w items (table_of (chain_at l) ps reported who)
assign_table w items l now ps reported who h a =
    let r = chain_in w ps in
    table-eq _ _ _ _ _ _ who
    (a 0 ∙ shifted-from 0 r items (chain_at l) 0 h.preceding (same 0))
    (seats-moved w r (λ xs. xs ++ items) (chain_at l) now ps h.marked (a r ∙ shifted-to 0 r items (chain_at l) r (same r)) (λ j d f. a j ∙ shifted-else 0 r items (chain_at l) j (swapped j r d) (swapped j 0 f)))
    refl

-- give back

pub give_back_table : (w : ℕ) (items : List ℕ) (l : Lists) (now : ℕ → List ℕ) (ps : List Post) (reported who : List ℕ) → Has w l ps reported who → ((j : ℕ) → now j ≡ shifted (chain_in w ps) 0 items (chain_at l) j)
    → table_of now ps reported who ≡ given_back w items (table_of (chain_at l) ps reported who)
give_back_table w items l now ps reported who h a =
    let r = chain_in w ps in
    table-eq _ _ _ _ _ _ who
    (a 0 ∙ shifted-to r 0 items (chain_at l) 0 (same 0))
    (seats-moved w r (without items) (chain_at l) now ps h.marked (a r ∙ shifted-from r 0 items (chain_at l) r h.after_pool (same r)) (λ j d f. a j ∙ shifted-else r 0 items (chain_at l) j (swapped j 0 f) (swapped j r d)))
    refl

-- complete

pub complete_table : (w item : ℕ) (l : Lists) (now : ℕ → List ℕ) (ps : List Post) (reported reported2 who : List ℕ) → Has w l ps reported who → reported2 ≡ reported ++ item ∷ []
    → ((j : ℕ) → now j ≡ changed (chain_in w ps) (without (item ∷ []) (chain_at l (chain_in w ps))) (chain_at l) j)
    → table_of now ps reported2 who ≡ completed w item (table_of (chain_at l) ps reported who)
complete_table w item l now ps reported reported2 who h e a =
    let r = chain_in w ps in
    let xs = without (item ∷ []) (chain_at l r) in
    table-eq _ _ _ _ _ _ who
    (a 0 ∙ changed-else r xs (chain_at l) 0 h.preceding)
    (seats-moved w r (without (item ∷ [])) (chain_at l) now ps h.marked (a r ∙ changed-here r xs (chain_at l) r (same r)) (λ j d f. a j ∙ changed-else r xs (chain_at l) j (swapped j r d)))
    e

-- leave and die

pub leave_table : (w : ℕ) (l : Lists) (ps : List Post) (reported who : List ℕ) → Has w l ps reported who
    → table_of (chain_at l) (filter (λ q. not (q.worker == w)) ps) reported who ≡ left_rota w (table_of (chain_at l) ps reported who)
leave_table w l ps reported who h = table-eq _ _ _ _ _ _ who refl (seats-left w (chain_in w ps) (chain_at l) (chain_at l) ps h.marked (λ j d f. refl)) refl

-- after the worker's head, where it has one, and the pouring of the rest into the pool
pub die_table : (w : ℕ) (retry : Bool) (l : Lists) (now : ℕ → List ℕ) (ps : List Post) (reported reported2 who : List ℕ) → Has w l ps reported who → reported2 ≡ reported ++ crash_item retry (chain_at l (chain_in w ps))
    → now 0 ≡ retried_item retry (chain_at l (chain_in w ps)) ++ (chain_at l 0 ++ drop 1 (chain_at l (chain_in w ps))) → SameOthers (chain_in w ps) (chain_at l) now
    → table_of now (filter (λ q. not (q.worker == w)) ps) reported2 who ≡ died w retry (table_of (chain_at l) ps reported who)
die_table w retry l now ps reported reported2 who h e a o =
    table-eq _ _ _ _ _ _ who
    (a ∙ ap (λ (xs : List ℕ). retried_item retry xs ++ (chain_at l 0 ++ drop 1 xs)) (sym h.holds))
    (seats-left w (chain_in w ps) (chain_at l) now ps h.marked o)
    (e ∙ ap (λ (xs : List ℕ). reported ++ crash_item retry xs) (sym h.holds))

pub kept_left : (l now : Lists) (w : ℕ) (ps : List Post) (reported reported2 who : List ℕ) (t : Table) (room room2 : ℕ) → IsKept l ps reported who room → table_of (chain_at now) (filter (λ q. not (q.worker == w)) ps) reported2 who ≡ t → IsSound t room2 → chains_of now ≡ chains_of l
    → IsKept now (filter (λ q. not (q.worker == w)) ps) reported2 who room2
kept_left l now w ps reported reported2 who t room room2 k e s c = record {
  sound = subst (λ u. IsSound u room2) (sym e) s;
  pool_there = (let a = k.pool_there in omega arith);
  once = λ j. (let a = k.once j in let b = chains-left w j ps in omega arith);
  known = λ j h. (let b = chains-left w j ps in let a = k.known j (omega arith) in (a.0, (let d = a.1 in omega arith)));
}

-- the calls, at the ledger's value

pub has_at : (w : ℕ) (l : Lists) (ps : List Post) (reported who : List ℕ) (room : ℕ) (now : Table) → table_of (chain_at l) ps reported who ≡ now → IsKept l ps reported who room → in_rota w now ≡ true → Has w l ps reported who
has_at w l ps reported who room now e k h = has w l ps reported who room k (ap (in_rota w) e ∙ h)

pub assign_kept : (w : ℕ) (items : List ℕ) (l now : Lists) (ps : List Post) (reported who : List ℕ) (room : ℕ) (t : Table) → table_of (chain_at l) ps reported who ≡ t → IsKept l ps reported who room → in_rota w t ≡ true → all_distinct items ≡ true → all_among items t.pool ≡ true
    → ((j : ℕ) → chain_at now j ≡ shifted 0 (chain_in w ps) items (chain_at l) j) → chains_of now ≡ chains_of l → IsKept now ps reported who room
assign_kept w items l now ps reported who room t e k h d a s c =
    let h2 = ap (in_rota w) e ∙ h in
    let a2 : all_among items (chain_at l 0) ≡ true = ap (λ u. all_among items u.pool) e ∙ a in
    kept_again l now ps reported reported who (assigned w items (table_of (chain_at l) ps reported who)) room room k
    (assign_table w items l (chain_at now) ps reported who (has w l ps reported who room k h2) s)
    (assigned_sound w items (table_of (chain_at l) ps reported who) room room k.sound refl h2 d a2) c

pub give_back_kept : (w : ℕ) (items : List ℕ) (l now : Lists) (ps : List Post) (reported who : List ℕ) (room : ℕ) (t : Table) → table_of (chain_at l) ps reported who ≡ t → IsKept l ps reported who room → in_rota w t ≡ true → all_distinct items ≡ true → all_among items (held w t) ≡ true
    → ((j : ℕ) → chain_at now j ≡ shifted (chain_in w ps) 0 items (chain_at l) j) → chains_of now ≡ chains_of l → IsKept now ps reported who room
give_back_kept w items l now ps reported who room t e k h d a s c =
    let h2 = ap (in_rota w) e ∙ h in
    let a2 : all_among items (held w (table_of (chain_at l) ps reported who)) ≡ true = ap (λ u. all_among items (held w u)) e ∙ a in
    kept_again l now ps reported reported who (given_back w items (table_of (chain_at l) ps reported who)) room room k
    (give_back_table w items l (chain_at now) ps reported who (has w l ps reported who room k h2) s)
    (given_back_sound w items (table_of (chain_at l) ps reported who) room room k.sound refl h2 d a2) c

pub held_room_at : (w item : ℕ) (l : Lists) (ps : List Post) (reported who : List ℕ) (room : ℕ) (t : Table) → table_of (chain_at l) ps reported who ≡ t → IsKept l ps reported who room → among item (held w t) ≡ true → length reported < room
held_room_at w item l ps reported who room t e k h =
    let a : among item (held w (table_of (chain_at l) ps reported who)) ≡ true = ap (λ u. among item (held w u)) e ∙ h in
    let b = length-among item (held w (table_of (chain_at l) ps reported who)) a in
    let f = k.sound.few in
    omega (arith, length-table (table_of (chain_at l) ps reported who), length-held w (seats (chain_at l) ps))

pub complete_kept : (w item : ℕ) (l now : Lists) (ps : List Post) (reported reported2 who : List ℕ) (room room2 : ℕ) (t : Table) → table_of (chain_at l) ps reported who ≡ t → IsKept l ps reported who room → room2 ≡ room → in_rota w t ≡ true → among item (held w t) ≡ true
    → reported2 ≡ reported ++ item ∷ [] → ((j : ℕ) → chain_at now j ≡ changed (chain_in w ps) (without (item ∷ []) (chain_at l (chain_in w ps))) (chain_at l) j) → chains_of now ≡ chains_of l → IsKept now ps reported2 who room2
complete_kept w item l now ps reported reported2 who room room2 t e k g h a r s c =
    let h2 = ap (in_rota w) e ∙ h in
    let a2 : among item (held w (table_of (chain_at l) ps reported who)) ≡ true = ap (λ u. among item (held w u)) e ∙ a in
    kept_again l now ps reported reported2 who (completed w item (table_of (chain_at l) ps reported who)) room room2 k
    (complete_table w item l (chain_at now) ps reported reported2 who (has w l ps reported who room k h2) r s)
    (completed_sound w item (table_of (chain_at l) ps reported who) room room2 k.sound g h2 a2) c

pub leave_kept : (w : ℕ) (l : Lists) (ps ps2 : List Post) (reported who : List ℕ) (room : ℕ) (t : Table) → table_of (chain_at l) ps reported who ≡ t → IsKept l ps reported who room → in_rota w t ≡ true → held w t ≡ [] → ps2 ≡ filter (λ q. not (q.worker == w)) ps → IsKept l ps2 reported who room
leave_kept w l ps ps2 reported who room t e k h a f =
    let h2 = ap (in_rota w) e ∙ h in
    let a2 : held w (table_of (chain_at l) ps reported who) ≡ [] = ap (held w) e ∙ a in
    subst (λ qs. IsKept l qs reported who room) (sym f)
    (kept_left l l w ps reported reported who (left_rota w (table_of (chain_at l) ps reported who)) room room k (leave_table w l ps reported who (has w l ps reported who room k h2)) (left_sound w (table_of (chain_at l) ps reported who) room room k.sound refl a2) refl)

pub leave_is : (w : ℕ) (l : Lists) (ps ps2 : List Post) (reported who : List ℕ) (room : ℕ) (t : Table) → table_of (chain_at l) ps reported who ≡ t → IsKept l ps reported who room → in_rota w t ≡ true → ps2 ≡ filter (λ q. not (q.worker == w)) ps → table_of (chain_at l) ps2 reported who ≡ left_rota w t
leave_is w l ps ps2 reported who room t e k h f =
    let h2 = ap (in_rota w) e ∙ h in
    ap (λ qs. table_of (chain_at l) qs reported who) f ∙ leave_table w l ps reported who (has w l ps reported who room k h2) ∙ ap (left_rota w) e

-- a death: the head leaves the worker's list, what is left is poured, and the post goes
pub record Dies (w : ℕ) (retry : Bool) (l mid now : Lists) (ps ps2 : List Post) (reported reported2 : List ℕ) : Type 0 where
  pub reported_is : reported2 ≡ reported ++ crash_item retry (chain_at l (chain_in w ps))
  pub head_gone : (j : ℕ) → chain_at mid j ≡ released retry (chain_in w ps) (chain_at l) j
  pub poured_is : (j : ℕ) → chain_at now j ≡ poured (length (chain_at mid (chain_in w ps))) (chain_in w ps) 0 (chain_at mid) j
  pub posts_are : ps2 ≡ filter (λ q. not (q.worker == w)) ps

take-whole : (xs : List ℕ) → take (length xs) xs ≡ xs
take-whole [] = refl
take-whole (x ∷ xs) = ap (λ (ys : List ℕ). x ∷ ys) (take-whole xs)

pub released-pool : (retry : Bool) (k : ℕ) (lists : ℕ → List ℕ) → released retry k lists 0 ≡ retried_item retry (lists k) ++ lists 0
released-pool retry k lists = changed-here 0 (retried_item retry (lists k) ++ lists 0) (changed k (drop 1 (lists k)) lists) 0 (same 0)

pub released-else : (retry : Bool) (k : ℕ) (lists : ℕ → List ℕ) (j : ℕ) → (0 == j) ≡ false → released retry k lists j ≡ changed k (drop 1 (lists k)) lists j
released-else retry k lists j d = changed-else 0 (retried_item retry (lists k) ++ lists 0) (changed k (drop 1 (lists k)) lists) j d

pub released-rest : (retry : Bool) (k : ℕ) (lists : ℕ → List ℕ) → (0 == k) ≡ false → released retry k lists k ≡ drop 1 (lists k)
released-rest retry k lists d = released-else retry k lists k d ∙ changed-here k (drop 1 (lists k)) lists k (same k)

pub dies_table : (w : ℕ) (retry : Bool) (l mid now : Lists) (ps ps2 : List Post) (reported reported2 who : List ℕ) → Has w l ps reported who → Dies w retry l mid now ps ps2 reported reported2 → table_of (chain_at now) ps2 reported2 who ≡ died w retry (table_of (chain_at l) ps reported who)
dies_table w retry l mid now ps ps2 reported reported2 who h d =
    let r = chain_in w ps in
    let xs = drop 1 (chain_at l r) in
    let head : List ℕ = retried_item retry (chain_at l r) in
    let m : chain_at mid r ≡ xs = d.head_gone r ∙ released-rest retry r (chain_at l) h.after_pool in
    let z : chain_at mid 0 ≡ head ++ chain_at l 0 = d.head_gone 0 ∙ released-pool retry r (chain_at l) in
    ap (λ qs. table_of (chain_at now) qs reported2 who) d.posts_are ∙ die_table w retry l (chain_at now) ps reported reported2 who h d.reported_is
    (d.poured_is 0 ∙ poured-to (length (chain_at mid r)) r 0 (chain_at mid) 0 (same 0) ∙ ap (λ (ys : List ℕ). chain_at mid 0 ++ ys) (take-whole (chain_at mid r)) ∙ ap (λ (ys : List ℕ). ys ++ chain_at mid r) z ∙ ap (λ (ys : List ℕ). (head ++ chain_at l 0) ++ ys) m ∙ append_assoc head (chain_at l 0) xs)
    (λ j e f. d.poured_is j ∙ poured-else (length (chain_at mid r)) r 0 (chain_at mid) j (swapped j 0 f) (swapped j r e) ∙ d.head_gone j ∙ released-else retry r (chain_at l) j (swapped j 0 f) ∙ changed-else r xs (chain_at l) j (swapped j r e))

pub dies_kept : (w : ℕ) (retry : Bool) (l mid now : Lists) (ps ps2 : List Post) (reported reported2 who : List ℕ) (room room2 : ℕ) (t : Table) → table_of (chain_at l) ps reported who ≡ t → IsKept l ps reported who room → room2 ≡ room → in_rota w t ≡ true → Dies w retry l mid now ps ps2 reported reported2 → chains_of now ≡ chains_of l → IsKept now ps2 reported2 who room2
dies_kept w retry l mid now ps ps2 reported reported2 who room room2 t e k g h d c =
    let h2 = ap (in_rota w) e ∙ h in
    let b = dies_table w retry l mid now ps ps2 reported reported2 who (has w l ps reported who room k h2) d in
    subst (λ qs. IsKept now qs reported2 who room2) (sym d.posts_are)
    (kept_left l now w ps reported reported2 who (died w retry (table_of (chain_at l) ps reported who)) room room2 k (ap (λ qs. table_of (chain_at now) qs reported2 who) (sym d.posts_are) ∙ b) (died_sound w retry (table_of (chain_at l) ps reported who) room room2 k.sound g) c)

-- shut

pub shut_table : (w : ℕ) (l : Lists) (ps : List Post) (reported who : List ℕ) (x : Post) → seats_of w (seats (chain_at l) ps) ≤ 1 → in_rota w (table_of (chain_at l) ps reported who) ≡ true → x ≡ get_or ps (place_in w ps) x
    → table_of (chain_at l) (set ps (place_in w ps) (record x { shut = true })) reported who ≡ shut_down w (table_of (chain_at l) ps reported who)
shut_table w l ps reported who x one h e =
    let i : list_any (λ q. q.worker == w) ps ≡ true = sym (any-posts w (chain_at l) ps) ∙ h in
    let k = place-shut w (chain_at l) ps x (place-in w ps i) one in
    table-eq _ _ _ _ _ _ who refl (ap (λ y. seats (chain_at l) (set ps (place_in w ps) (record y { shut = true }))) e ∙ k) refl

pub shut_kept : (w : ℕ) (l : Lists) (ps : List Post) (reported who : List ℕ) (room : ℕ) (x : Post) → IsKept l ps reported who room → in_rota w (table_of (chain_at l) ps reported who) ≡ true → x ≡ get_or ps (place_in w ps) x
    → IsKept l (set ps (place_in w ps) (record x { shut = true })) reported who room
shut_kept w l ps reported who room x k h e =
    let c = chains-shut ps (place_in w ps) x e in
    record {
      sound = subst (λ u. IsSound u room) (sym (shut_table w l ps reported who x (k.sound.seated_once w) h e)) (shut_sound w (table_of (chain_at l) ps reported who) room room k.sound refl);
      pool_there = k.pool_there;
      once = λ j. (let a = k.once j in let b : times j (chains_in (set ps (place_in w ps) (record x { shut = true }))) ≡ times j (chains_in ps) = ap (times j) c in omega arith);
      known = λ j g. (let b : times j (chains_in (set ps (place_in w ps) (record x { shut = true }))) ≡ times j (chains_in ps) = ap (times j) c in k.known j (omega arith));
    }

pub front_distinct : (xs : List ℕ) (now : Table) (l : Lists) (ps : List Post) (reported who : List ℕ) (room : ℕ) → table_of (chain_at l) ps reported who ≡ now → IsKept l ps reported who room → all_distinct (take (length xs) now.pool) ≡ true
front_distinct xs now l ps reported who room e k = ap (λ u. all_distinct (take (length xs) u.pool)) (sym e) ∙ taken_distinct (length xs) (table_of (chain_at l) ps reported who) room k.sound
