-- A death's room, and a ledger that is new, filled or joined.
use Rattle.std.proofs.Common.{◌≡◌, ℕ, ◌+◌, ◌≤◌, ◌<◌, ◌^◌, List, [], ◌∷◌, ◌++◌, take, drop, length, nat_lt, Bool, true, false, refl, ap, sym, subst, ◌∙◌, arith, Some}
use Rattle.std.specs.Prelude.{◌==◌, unwrap_or}
use Rattle.std.specs.List.{range_with_len}
use Rattle.std.proofs.lemmas.List.{length-map}
use Rattle.std.proofs.lemmas.Bool.Decides.{nat_tests}
use Rattle.xd_ledger.specs.declared.post.Post.{Post}
use Rattle.xd_ledger.specs.Chains.{Lists, chain_at, chains_of, changed}
use Rattle.xd_run.specs.Numbers.{times, without, first_of}
use Rattle.xd_ledger.specs.Posts.{seat_of, seats, chains_in, chain_in, table_of, released, IsKept}
use Rattle.xd_ledger.specs.Sound.{IsSound}
use Rattle.xd_run.specs.Table.{Table, fresh_table, held_in, held_by_all, all_items, retried_item, has_joined, joined}
use Rattle.xd_ledger.proofs.ChainMoves.{by_cases, equals, changed-here, changed-else}
use Rattle.xd_run.proofs.Counts.{few_of-kind}
use Rattle.xd_ledger.proofs.Kept.{Has, kept_again, table-eq, released-pool, released-else, released-rest}
use Rattle.xd_ledger.proofs.Links.{same, without-around}
use Rattle.xd_ledger.proofs.Places.{times-table, held_within}
use Rattle.xd_ledger.proofs.Posts.{pair, seats-same, seats-joined, chains-joined}
use Rattle.xd_ledger.proofs.Sizes.{length-table, length-held, fresh_sound, filled_sound, none_reported}
use Rattle.xd_ledger.proofs.Sounds.{joined_sound}

pub held_once : (w : ℕ) (l : Lists) (ps : List Post) (reported who : List ℕ) (room : ℕ) → IsKept l ps reported who room → Has w l ps reported who → (x : ℕ) → times x (chain_at l (chain_in w ps)) ≤ 1
held_once w l ps reported who room k h x =
    let o = k.sound.once x in
    let m : times x (held_in w (seats (chain_at l) ps)) ≡ times x (chain_at l (chain_in w ps)) = ap (times x) h.holds in
    omega (arith, times-table x (table_of (chain_at l) ps reported who), held_within x w (seats (chain_at l) ps))

pub held_fits : (w : ℕ) (l : Lists) (ps : List Post) (reported who : List ℕ) (room : ℕ) → IsKept l ps reported who room → Has w l ps reported who → length reported + length (chain_at l (chain_in w ps)) ≤ room
held_fits w l ps reported who room k h =
    let f = k.sound.few in
    let m : length (held_in w (seats (chain_at l) ps)) ≡ length (chain_at l (chain_in w ps)) = ap length h.holds in
    omega (arith, length-table (table_of (chain_at l) ps reported who), length-held w (seats (chain_at l) ps))

-- the rest of a death, as the call tells it
pub rest_is : (retry : Bool) (r r2 n : ℕ) (l mid : Lists) → r ≡ r2 → (0 == r) ≡ false → ((j : ℕ) → chain_at mid j ≡ released retry r (chain_at l) j) → n ≡ length (chain_at mid r) → n ≡ length (drop 1 (chain_at l r2))
rest_is retry r r2 n l mid e d a h = h ∙ ap length (a r ∙ released-rest retry r (chain_at l) d) ∙ ap (λ i. length (drop 1 (chain_at l i))) e

-- a new ledger, and one that is filled

pub new_kept : (l : Lists) (room items : ℕ) → items ≡ room → items ≤ 1600000 → ((j : ℕ) → chain_at l j ≡ changed 0 (range_with_len 0 items) (λ _. []) j) → chains_of l ≡ 1 → IsKept l [] [] [] room
new_kept l room items e h a c = record {
  sound = subst (λ xs. IsSound (fresh_table xs) room) (sym (a 0 ∙ changed-here 0 (range_with_len 0 items) (λ _. []) 0 (same 0))) (fresh_sound items room e h);
  pool_there = omega arith;
  once = λ k. omega arith;
  known = λ k i. absurd (omega arith);
}

parts-empty : (xs ys : List ℕ) → xs ++ ys ≡ [] → (xs ≡ []) × (ys ≡ [])
parts-empty [] ys h = (refl, h)
parts-empty (x ∷ xs) ys h = absurd (let m : length (x ∷ (xs ++ ys)) ≡ 0 = ap length h in omega arith)

seats-empty : (now old : ℕ → List ℕ) (ps : List Post) → held_by_all (seats old ps) ≡ [] → ((k : ℕ) → 1 ≤ times k (chains_in ps) → now k ≡ []) → seats now ps ≡ seats old ps
seats-empty now old [] e f = refl
seats-empty now old (q ∷ ps) e f =
    let s = same q.chain in
    let here : 1 ≤ times q.chain (q.chain ∷ chains_in ps) = grind (arith, nat_tests) in
    let none = parts-empty (old q.chain) (held_by_all (seats old ps)) e in
    let u : now q.chain ≡ old q.chain = f q.chain here ∙ sym none.0 in
    pair (seat_of now q) (seat_of old q) (seats now ps) (seats old ps) (ap (λ (hs : List ℕ). record { worker = q.worker; held = hs; shut = q.shut }) u) (seats-empty now old ps none.1 (λ k i. f k (omega arith)))

pub fill_table : (l now : Lists) (ps : List Post) (reported who : List ℕ) (room items : ℕ) (t : Table) → table_of (chain_at l) ps reported who ≡ t → IsKept l ps reported who room → all_items t ≡ [] → ((j : ℕ) → chain_at now j ≡ changed 0 (range_with_len 0 items) (λ _. []) j)
    → table_of (chain_at now) ps [] who ≡ record t { pool = range_with_len 0 items }
fill_table l now ps reported who room items t e k none a =
    let z : all_items (table_of (chain_at l) ps reported who) ≡ [] = ap all_items e ∙ none in
    let refilled : Table → Table = λ u. record u { pool = range_with_len 0 items } in
    let p = parts-empty (chain_at l 0) (held_by_all (seats (chain_at l) ps) ++ reported) z in
    let q = parts-empty (held_by_all (seats (chain_at l) ps)) reported p.1 in
    let ss : seats (chain_at now) ps ≡ seats (chain_at l) ps = seats-empty (chain_at now) (chain_at l) ps q.0 (λ j i. (let g = (k.known j i).0 in let d : (0 == j) ≡ false = grind (arith, nat_tests) in a j ∙ changed-else 0 (range_with_len 0 items) (λ _. []) j d)) in
    table-eq _ _ _ _ _ _ who (a 0 ∙ changed-here 0 (range_with_len 0 items) (λ _. []) 0 (same 0)) ss (sym q.1) ∙ ap refilled e

pub fill_kept : (l now : Lists) (ps : List Post) (reported who : List ℕ) (room room2 items : ℕ) (t : Table) → table_of (chain_at l) ps reported who ≡ t → IsKept l ps reported who room → all_items t ≡ [] → items ≡ room2 → items ≤ 1600000 → ((j : ℕ) → chain_at now j ≡ changed 0 (range_with_len 0 items) (λ _. []) j) → chains_of now ≡ chains_of l
    → IsKept now ps [] who room2
fill_kept l now ps reported who room room2 items t e k none r few a c =
    let z : all_items (table_of (chain_at l) ps reported who) ≡ [] = ap all_items e ∙ none in
    let with_reported : List ℕ → Table = λ rs. record { pool = range_with_len 0 items; rota = seats (chain_at l) ps; reported = rs; who_joined = who } in
    kept_again l now ps reported [] who (record { pool = range_with_len 0 items; rota = seats (chain_at l) ps; reported = []; who_joined = who }) room room2 k
    (fill_table l now ps reported who room items (table_of (chain_at l) ps reported who) refl k z a ∙ ap with_reported (none_reported (table_of (chain_at l) ps reported who) z))
    (filled_sound items room room2 (table_of (chain_at l) ps reported who) k.sound r few z) c

-- a worker joins with a new list

pub join_table : (w : ℕ) (l now : Lists) (ps : List Post) (reported who : List ℕ) → ((j : ℕ) → chain_at now j ≡ chain_at l j) → chain_at l (chains_of l) ≡ []
    → table_of (chain_at now) (ps ++ record { worker = w; chain = chains_of l; shut = false } ∷ []) reported (who ++ w ∷ []) ≡ joined w (table_of (chain_at l) ps reported who)
join_table w l now ps reported who a none =
    let q : Post = record { worker = w; chain = chains_of l; shut = false } in
    let ss : seats (chain_at now) (ps ++ q ∷ []) ≡ seats (chain_at l) ps ++ record { worker = w; held = []; shut = false } ∷ [] =
    seats-same (chain_at l) (chain_at now) (ps ++ q ∷ []) a ∙ seats-joined (chain_at l) ps q ∙ ap (λ (hs : List ℕ). seats (chain_at l) ps ++ record { worker = w; held = hs; shut = false } ∷ []) none in
    table-eq _ _ _ _ _ _ (who ++ w ∷ []) (a 0) ss refl

few-posts : (l : Lists) (ps : List Post) (reported who : List ℕ) (room : ℕ) → IsKept l ps reported who room → length ps ≤ chains_of l
few-posts l ps reported who room k =
    let n : length (chains_in ps) ≤ chains_of l = few_of-kind (λ z. nat_lt 0 (times z (chains_in ps))) (chains_of l) (chains_in ps) (λ z. (let o = k.once z in let f = k.known z in by_cases (nat_lt 0 (times z (chains_in ps)))
    (λ t. (let i : 1 ≤ times z (chains_in ps) = grind (arith, nat_tests) in let g = (f i).1 in grind (arith, nat_tests)))
    (λ d. grind (arith, nat_tests)))) in
    omega (arith, length-map ps (λ q. q.chain))

absent : (n j m : ℕ) → (1 ≤ n → j < m) → j ≡ m → n ≡ 0
absent n j m f e = by_cases (nat_lt 0 n) (λ t. absurd (let i : 1 ≤ n = grind (arith, nat_tests) in let g = f i in omega arith)) (λ d. grind (arith, nat_tests))

pub join_kept : (w : ℕ) (l now : Lists) (ps : List Post) (reported who : List ℕ) (room : ℕ) (t : Table) → table_of (chain_at l) ps reported who ≡ t → IsKept l ps reported who room → has_joined w t ≡ false → chains_of l < 4000000000 → ((j : ℕ) → chain_at now j ≡ chain_at l j) → chains_of now ≡ chains_of l + 1 → chain_at l (chains_of l) ≡ []
    → IsKept now (ps ++ record { worker = w; chain = chains_of l; shut = false } ∷ []) reported (who ++ w ∷ []) room
join_kept w l now ps reported who room t e k h few a c none =
    let q : Post = record { worker = w; chain = chains_of l; shut = false } in
    let h2 : has_joined w (table_of (chain_at l) ps reported who) ≡ false = ap (has_joined w) e ∙ h in
    let n = few-posts l ps reported who room k in
    let m : length (seats (chain_at l) ps) ≡ length ps = length-map ps (seat_of (chain_at l)) in
    let room_left : length (seats (chain_at l) ps) + 1 < 2 ^ 32 = grind arith in
    record {
      sound = subst (λ u. IsSound u room) (sym (join_table w l now ps reported who a none)) (joined_sound w (table_of (chain_at l) ps reported who) room room k.sound refl h2 room_left);
      pool_there = (let p = k.pool_there in omega arith);
      once = λ j. (let o = k.once j in let f = k.known j in let g = chains-joined j ps q in by_cases (j == chains_of l)
          (λ t2. (let i = equals j (chains_of l) t2 in let z : times j (chains_in ps) ≡ 0 = absent (times j (chains_in ps)) j (chains_of l) (λ v. (f v).1) i in grind (arith, nat_tests)))
          (λ d. grind (arith, nat_tests)));
      known = λ j i. (let g = chains-joined j ps q in let p = k.pool_there in by_cases (j == chains_of l)
          (λ t2. (let v = equals j (chains_of l) t2 in ((omega arith), (omega arith))))
          (λ d. (let v : 1 ≤ times j (chains_in ps) = grind (arith, nat_tests) in let f = k.known j v in (f.0, (let x = f.1 in omega arith)))));
    }

-- as the calls build them

pub new_at : (l : Lists) (ps : List Post) (reported who : List ℕ) (room items : ℕ) → ps ≡ [] → reported ≡ [] → who ≡ [] → items ≡ room → items ≤ 1600000 → ((j : ℕ) → chain_at l j ≡ changed 0 (range_with_len 0 items) (λ _. []) j) → chains_of l ≡ 1 → IsKept l ps reported who room
new_at l ps reported who room items ep er ew e h a c =
    subst (λ qs. IsKept l qs reported who room) (sym ep) (subst (λ rs. IsKept l [] rs who room) (sym er) (subst (λ ws. IsKept l [] [] ws room) (sym ew) (new_kept l room items e h a c)))

pub new_is : (l : Lists) (ps : List Post) (reported who : List ℕ) (items : ℕ) → ps ≡ [] → reported ≡ [] → who ≡ [] → ((j : ℕ) → chain_at l j ≡ changed 0 (range_with_len 0 items) (λ _. []) j) → table_of (chain_at l) ps reported who ≡ fresh_table (range_with_len 0 items)
new_is l ps reported who items ep er ew a =
    let pool : chain_at l 0 ≡ range_with_len 0 items = a 0 ∙ changed-here 0 (range_with_len 0 items) (λ _. []) 0 (same 0) in
    let f : List Post → List ℕ → List ℕ → List ℕ → Table = λ qs rs ws xs. record { pool = xs; rota = seats (chain_at l) qs; reported = rs; who_joined = ws } in
    ap (λ qs. f qs reported who (chain_at l 0)) ep ∙ ap (λ rs. f [] rs who (chain_at l 0)) er ∙ ap (λ ws. f [] [] ws (chain_at l 0)) ew ∙ ap (λ xs. f [] [] [] xs) pool

pub fill_at : (l now : Lists) (ps : List Post) (reported reported2 who : List ℕ) (room room2 items : ℕ) (t : Table) → table_of (chain_at l) ps reported who ≡ t → IsKept l ps reported who room → all_items t ≡ [] → reported2 ≡ [] → items ≡ room2 → items ≤ 1600000 → ((j : ℕ) → chain_at now j ≡ changed 0 (range_with_len 0 items) (λ _. []) j) → chains_of now ≡ chains_of l
    → IsKept now ps reported2 who room2
fill_at l now ps reported reported2 who room room2 items t e k none er r few a c = subst (λ rs. IsKept now ps rs who room2) (sym er) (fill_kept l now ps reported who room room2 items t e k none r few a c)

pub fill_is : (l now : Lists) (ps : List Post) (reported reported2 who : List ℕ) (room items : ℕ) (t : Table) → table_of (chain_at l) ps reported who ≡ t → IsKept l ps reported who room → all_items t ≡ [] → reported2 ≡ [] → ((j : ℕ) → chain_at now j ≡ changed 0 (range_with_len 0 items) (λ _. []) j)
    → table_of (chain_at now) ps reported2 who ≡ record t { pool = range_with_len 0 items }
fill_is l now ps reported reported2 who room items t e k none er a = ap (λ rs. table_of (chain_at now) ps rs who) er ∙ fill_table l now ps reported who room items t e k none a

pub same_table : (l now : Lists) (ps : List Post) (reported who : List ℕ) → ((j : ℕ) → chain_at now j ≡ chain_at l j) → table_of (chain_at now) ps reported who ≡ table_of (chain_at l) ps reported who
same_table l now ps reported who a = table-eq _ _ _ _ _ _ who (a 0) (seats-same (chain_at l) (chain_at now) ps a) refl

pub same_kept : (l now : Lists) (ps : List Post) (reported who : List ℕ) (room : ℕ) → IsKept l ps reported who room → ((j : ℕ) → chain_at now j ≡ chain_at l j) → chains_of now ≡ chains_of l → IsKept now ps reported who room
same_kept l now ps reported who room k a c = kept_again l now ps reported reported who (table_of (chain_at l) ps reported who) room room k (same_table l now ps reported who a) k.sound c

pub join_at : (w : ℕ) (l now : Lists) (ps ps2 : List Post) (reported who who2 : List ℕ) (room n : ℕ) (t : Table) → table_of (chain_at l) ps reported who ≡ t → IsKept l ps reported who room → has_joined w t ≡ false → n ≡ chains_of l → n < 4000000000 → ((j : ℕ) → chain_at now j ≡ chain_at l j) → chains_of now ≡ chains_of l + 1 → chain_at l (chains_of l) ≡ []
    → ps2 ≡ ps ++ record { worker = w; chain = n; shut = false } ∷ [] → who2 ≡ who ++ w ∷ [] → IsKept now ps2 reported who2 room
join_at w l now ps ps2 reported who who2 room n t e k h en few a c none ep ew =
    let post : ℕ → Post = λ i. record { worker = w; chain = i; shut = false } in
    let f : chains_of l < 4000000000 = omega arith in
    subst (λ ws. IsKept now ps2 reported ws room) (sym ew) (subst (λ qs. IsKept now qs reported (who ++ w ∷ []) room) (sym ep) (subst (λ i. IsKept now (ps ++ post i ∷ []) reported (who ++ w ∷ []) room) (sym en) (join_kept w l now ps reported who room t e k h f a c none)))

pub join_is : (w : ℕ) (l now : Lists) (ps ps2 : List Post) (reported who who2 : List ℕ) (n : ℕ) (t : Table) → table_of (chain_at l) ps reported who ≡ t → n ≡ chains_of l → ((j : ℕ) → chain_at now j ≡ chain_at l j) → chain_at l (chains_of l) ≡ []
    → ps2 ≡ ps ++ record { worker = w; chain = n; shut = false } ∷ [] → who2 ≡ who ++ w ∷ [] → table_of (chain_at now) ps2 reported who2 ≡ joined w t
join_is w l now ps ps2 reported who who2 n t e en a none ep ew =
    let post : ℕ → Post = λ i. record { worker = w; chain = i; shut = false } in
    ap (λ ws. table_of (chain_at now) ps2 reported ws) ew ∙ ap (λ qs. table_of (chain_at now) qs reported (who ++ w ∷ [])) ep ∙ ap (λ i. table_of (chain_at now) (ps ++ post i ∷ []) reported (who ++ w ∷ [])) en
    ∙ join_table w l now ps reported who a none ∙ ap (joined w) e

pub head_cut : (x : ℕ) (xs : List ℕ) → first_of xs ≡ Some x → times x xs ≤ 1 → without (x ∷ []) xs ≡ drop 1 xs
head_cut x [] e h = cc
head_cut x (y ∷ ys) e h =
    let g : y ≡ x = ap (λ o. unwrap_or o 0) e in
    subst (λ z. times z (y ∷ ys) ≤ 1 → without (z ∷ []) (y ∷ ys) ≡ ys) g (λ k. without-around y [] ys k) h

-- the head of a worker leaves its list

head_one : (x : ℕ) (xs : List ℕ) → first_of xs ≡ Some x → take 1 xs ≡ x ∷ []
head_one x [] e = cc
head_one x (y ∷ ys) e = ap (λ (z : ℕ). z ∷ []) (ap (λ o. unwrap_or o 0) e)

-- it is tried again
pub released_again : (retry : Bool) (k x : ℕ) (old mid now : ℕ → List ℕ) → retry ≡ true → (k == 0) ≡ false → first_of (old k) ≡ Some x → times x (old k) ≤ 1
    → ((j : ℕ) → mid j ≡ changed k (without (x ∷ []) (old k)) old j) → ((j : ℕ) → now j ≡ changed 0 (x ∷ mid 0) mid j) → (j : ℕ) → now j ≡ released retry k old j
released_again retry k x old mid now is d h one a b j =
    let head : retried_item retry (old k) ≡ x ∷ [] = ap (λ (r : Bool). retried_item r (old k)) is ∙ head_one x (old k) h in
    by_cases (0 == j)
    (λ t. (let e = equals 0 j t in
    b j ∙ changed-here 0 (x ∷ mid 0) mid j t ∙ ap (λ (ys : List ℕ). x ∷ ys) (a 0 ∙ changed-else k (without (x ∷ []) (old k)) old 0 d) ∙ ap (λ (ys : List ℕ). ys ++ old 0) (sym head) ∙ sym (released-pool retry k old) ∙ ap (released retry k old) e))
    (λ f. b j ∙ changed-else 0 (x ∷ mid 0) mid j f ∙ a j ∙ ap (λ (xs : List ℕ). changed k xs old j) (head_cut x (old k) h one) ∙ sym (released-else retry k old j f))

-- it is reported
pub released_once : (retry : Bool) (k x : ℕ) (old mid : ℕ → List ℕ) → retry ≡ false → (k == 0) ≡ false → first_of (old k) ≡ Some x → times x (old k) ≤ 1
    → ((j : ℕ) → mid j ≡ changed k (without (x ∷ []) (old k)) old j) → (j : ℕ) → mid j ≡ released retry k old j
released_once retry k x old mid is d h one a j =
    let none : retried_item retry (old k) ≡ [] = ap (λ (r : Bool). retried_item r (old k)) is in
    by_cases (0 == j)
    (λ t. (let e = equals 0 j t in
    ap mid (sym e) ∙ a 0 ∙ changed-else k (without (x ∷ []) (old k)) old 0 d ∙ ap (λ (ys : List ℕ). ys ++ old 0) (sym none) ∙ sym (released-pool retry k old) ∙ ap (released retry k old) e))
    (λ f. a j ∙ ap (λ (xs : List ℕ). changed k xs old j) (head_cut x (old k) h one) ∙ sym (released-else retry k old j f))
