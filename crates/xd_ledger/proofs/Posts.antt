-- The posts of a rota, and the seats that they stand for after a move of lists.
use Rattle.std.proofs.Common.{◌≡◌, ℕ, zero, suc, ◌+◌, ◌≤◌, ◌<◌, List, [], ◌∷◌, ◌++◌, drop, length, get_or, set, Bool, true, false, not, refl, ap, sym, subst, ◌∙◌, arith}
use Rattle.std.specs.Prelude.{if◌then◌else◌, ◌==◌, filter, map}
use Rattle.std.specs.List.{list_any}
use Rattle.std.proofs.lemmas.Bool.Decides.{nat_tests}
use Rattle.std.proofs.lemmas.Grind.{common_steps}
use Rattle.xd_ledger.specs.declared.post.Post.{Post}
use Rattle.xd_run.specs.declared.seat.Seat.{Seat}
use Rattle.xd_run.specs.Numbers.{times}
use Rattle.xd_ledger.specs.Posts.{seat_of, seats, chains_in, chain_in, place_in}
use Rattle.xd_ledger.specs.Sound.{seats_of}
use Rattle.xd_run.specs.Table.{held_in, at_seat, without_seat}
use Rattle.xd_ledger.proofs.ChainMoves.{by_cases, equals}
use Rattle.xd_ledger.proofs.Links.{same, swapped}
use Rattle.xd_ledger.proofs.Seats.{no_seat-same}

-- a worker's post

pub any-posts : (w : ℕ) (lists : ℕ → List ℕ) (ps : List Post) → list_any (λ s. s.worker == w) (seats lists ps) ≡ list_any (λ q. q.worker == w) ps
any-posts w lists [] = refl
any-posts w lists (q ∷ ps) = (let k = any-posts w lists ps in grind (arith, nat_tests))

pub held-posts : (w : ℕ) (lists : ℕ → List ℕ) (ps : List Post) → list_any (λ q. q.worker == w) ps ≡ true → held_in w (seats lists ps) ≡ lists (chain_in w ps)
held-posts w lists [] h = cc
held-posts w lists (q ∷ ps) h = by_cases (q.worker == w) (λ t. grind (arith, nat_tests)) (λ f. (let k = held-posts w lists ps (grind (arith, nat_tests)) in grind (arith, nat_tests)))

pub chain-there : (w : ℕ) (ps : List Post) → list_any (λ q. q.worker == w) ps ≡ true → 1 ≤ times (chain_in w ps) (chains_in ps)
chain-there w [] h = cc
chain-there w (q ∷ ps) h = by_cases (q.worker == w)
    (λ t. (let e : chain_in w (q ∷ ps) ≡ q.chain = grind (arith, nat_tests) in let s = same q.chain in subst (λ i. 1 ≤ times i (q.chain ∷ chains_in ps)) (sym e) (grind (arith, nat_tests))))
    (λ f. (let e : chain_in w (q ∷ ps) ≡ chain_in w ps = grind (arith, nat_tests) in let k = chain-there w ps (grind (arith, nat_tests)) in subst (λ i. 1 ≤ times i (q.chain ∷ chains_in ps)) (sym e) (omega arith)))

-- the list is the worker's alone, and none is the pool's
abbrev pub Marks : ℕ → ℕ → List Post → Type 0
Marks w r [] = Unit {0}
Marks w r (q ∷ ps) = (((q.worker == w) ≡ (q.chain == r)) × ((q.chain == 0) ≡ false)) × Marks w r ps

not-pool : (k : ℕ) → 0 < k → (k == 0) ≡ false
not-pool k h = grind (arith, nat_tests)

marks-none : (w r : ℕ) (lists : ℕ → List ℕ) (ps : List Post) → seats_of w (seats lists ps) ≡ 0 → times r (chains_in ps) ≡ 0 → ((k : ℕ) → 1 ≤ times k (chains_in ps) → 0 < k) → Marks w r ps
marks-none w r lists [] a b p = tt
marks-none w r lists (q ∷ ps) a b p =
    let s = same q.chain in
    let here : 1 ≤ times q.chain (q.chain ∷ chains_in ps) = grind (arith, nat_tests) in
    let f : (q.worker == w) ≡ false = grind (arith, nat_tests) in
    let g : (r == q.chain) ≡ false = grind (arith, nat_tests) in
    ((f ∙ sym (swapped r q.chain g), not-pool q.chain (p q.chain here)), marks-none w r lists ps (omega arith) (omega arith) (λ k h. p k (omega arith)))

pub marks : (w : ℕ) (lists : ℕ → List ℕ) (ps : List Post) → seats_of w (seats lists ps) ≤ 1 → ((k : ℕ) → times k (chains_in ps) ≤ 1) → ((k : ℕ) → 1 ≤ times k (chains_in ps) → 0 < k) → list_any (λ q. q.worker == w) ps ≡ true → Marks w (chain_in w ps) ps
marks w lists [] a b p h = cc
marks w lists (q ∷ ps) a b p h =
    let s = same q.chain in
    let one = b q.chain in
    let here : 1 ≤ times q.chain (q.chain ∷ chains_in ps) = grind (arith, nat_tests) in
    let good = not-pool q.chain (p q.chain here) in
    by_cases (q.worker == w)
    (λ t. (let e : chain_in w (q ∷ ps) ≡ q.chain = grind (arith, nat_tests) in
    let none : seats_of w (seats lists ps) ≡ 0 = grind (arith, nat_tests) in
    let away : times q.chain (chains_in ps) ≡ 0 = grind (arith, nat_tests) in
    subst (λ r. Marks w r (q ∷ ps)) (sym e) ((t ∙ sym s, good), marks-none w q.chain lists ps none away (λ k i. p k (omega arith)))))
    (λ f. (let e : chain_in w (q ∷ ps) ≡ chain_in w ps = grind (arith, nat_tests) in
    let i : list_any (λ u. u.worker == w) ps ≡ true = grind (arith, nat_tests) in
    let m = chain-there w ps i in
    let d : (q.chain == chain_in w ps) ≡ false = by_cases (q.chain == chain_in w ps) (λ t. absurd (let g = equals q.chain (chain_in w ps) t in let v : times q.chain (chains_in ps) ≡ times (chain_in w ps) (chains_in ps) = ap (λ z. times z (chains_in ps)) g in grind (arith, nat_tests))) (λ n. n) in
    subst (λ r. Marks w r (q ∷ ps)) (sym e) ((f ∙ sym d, good), marks w lists ps (omega arith) (λ k. (let o = b k in omega arith)) (λ k j. p k (omega arith)) i)))

pub pair : (x y : Seat) (xs ys : List Seat) → x ≡ y → xs ≡ ys → x ∷ xs ≡ y ∷ ys
pair x y xs ys e f = ap (λ (z : Seat). z ∷ xs) e ∙ ap (λ (zs : List Seat). y ∷ zs) f

-- the lists but the worker's and the pool's are as they were
abbrev pub SameOthers : ℕ → (ℕ → List ℕ) → (ℕ → List ℕ) → Type 0
SameOthers r old now = (j : ℕ) → (j == r) ≡ false → (j == 0) ≡ false → now j ≡ old j

pub seats-moved : (w r : ℕ) (f : List ℕ → List ℕ) (old now : ℕ → List ℕ) (ps : List Post) → Marks w r ps → now r ≡ f (old r) → SameOthers r old now → seats now ps ≡ at_seat w (λ s. record s { held = f s.held }) (seats old ps)
seats-moved w r f old now [] m h o = refl
seats-moved w r f old now (q ∷ ps) m h o =
    let rest = seats-moved w r f old now ps m.1 h o in
    let case : (b : Bool) → (q.worker == w) ≡ b → seat_of now q ≡ (if b then record (seat_of old q) { held = f (old q.chain) } else seat_of old q) = λ b e. by_cases b
    (λ t. (let g = equals q.chain r (sym m.0.0 ∙ e ∙ t) in let u : now q.chain ≡ f (old q.chain) = ap now g ∙ h ∙ ap (λ i. f (old i)) (sym g) in
    ap (λ (hs : List ℕ). record { worker = q.worker; held = hs; shut = q.shut }) u ∙ sym (ap (λ c. if c then record (seat_of old q) { held = f (old q.chain) } else seat_of old q) t)))
    (λ t. (let g : (q.chain == r) ≡ false = sym m.0.0 ∙ e ∙ t in let u : now q.chain ≡ old q.chain = o q.chain g m.0.1 in
    ap (λ (hs : List ℕ). record { worker = q.worker; held = hs; shut = q.shut }) u ∙ sym (ap (λ c. if c then record (seat_of old q) { held = f (old q.chain) } else seat_of old q) t))) in
    pair _ _ _ _ (case (q.worker == w) refl) rest

pub seats-left : (w r : ℕ) (old now : ℕ → List ℕ) (ps : List Post) → Marks w r ps → SameOthers r old now → seats now (filter (λ q. not (q.worker == w)) ps) ≡ without_seat w (seats old ps)
seats-left w r old now [] m o = refl
seats-left w r old now (q ∷ ps) m o =
    let rest = seats-left w r old now ps m.1 o in
    by_cases (q.worker == w)
    (λ t. grind (arith, nat_tests))
    (λ f. (let g : (q.chain == r) ≡ false = sym m.0.0 ∙ f in let u : now q.chain ≡ old q.chain = o q.chain g m.0.1 in
    let v : seat_of now q ≡ seat_of old q = ap (λ (hs : List ℕ). record { worker = q.worker; held = hs; shut = q.shut }) u in grind (arith, nat_tests)))

pub seats-same : (old now : ℕ → List ℕ) (ps : List Post) → ((j : ℕ) → now j ≡ old j) → seats now ps ≡ seats old ps
seats-same old now [] o = refl
seats-same old now (q ∷ ps) o = pair _ _ _ _ (ap (λ (hs : List ℕ). record { worker = q.worker; held = hs; shut = q.shut }) (o q.chain)) (seats-same old now ps o)

pub seats-joined : (lists : ℕ → List ℕ) (ps : List Post) (q : Post) → seats lists (ps ++ q ∷ []) ≡ seats lists ps ++ seat_of lists q ∷ []
seats-joined lists [] q = refl
seats-joined lists (p ∷ ps) q = ap (λ (ss : List Seat). seat_of lists p ∷ ss) (seats-joined lists ps q)

pub chains-left : (w k : ℕ) (ps : List Post) → times k (chains_in (filter (λ q. not (q.worker == w)) ps)) ≤ times k (chains_in ps)
chains-left w k [] = omega arith
chains-left w k (q ∷ ps) = grind (arith, nat_tests, chains-left w k ps)

pub chains-joined : (k : ℕ) (ps : List Post) (q : Post) → times k (chains_in (ps ++ q ∷ [])) ≡ times k (chains_in ps) + (if k == q.chain then 1 else 0)
chains-joined k [] q = omega arith
chains-joined k (p ∷ ps) q = omega (arith, chains-joined k ps q)

-- the worker's place

pub place-in : (w : ℕ) (ps : List Post) → list_any (λ q. q.worker == w) ps ≡ true → place_in w ps < length ps
place-in w [] h = cc
place-in w (q ∷ ps) h = grind (arith, nat_tests, place-in w ps)

pub place-shut : (w : ℕ) (lists : ℕ → List ℕ) (ps : List Post) (d : Post) → place_in w ps < length ps → seats_of w (seats lists ps) ≤ 1
    → seats lists (set ps (place_in w ps) (record (get_or ps (place_in w ps) d) { shut = true })) ≡ at_seat w (λ s. record s { shut = true }) (seats lists ps)
place-shut w lists [] d h e = absurd (omega arith)
place-shut w lists (q ∷ ps) d h e = by_cases (q.worker == w)
    (λ t. (let none : seats_of w (seats lists ps) ≡ 0 = grind (arith, nat_tests) in let k = no_seat-same w (λ s. record s { shut = true }) (seats lists ps) none in grind (arith, nat_tests, common_steps)))
    (λ f. (let i : place_in w ps < length ps = grind (arith, nat_tests) in let one : seats_of w (seats lists ps) ≤ 1 = omega arith in let k = place-shut w lists ps d i one in grind (arith, nat_tests, common_steps)))

pub chains-shut : (ps : List Post) (i : ℕ) (x : Post) → x ≡ get_or ps i x → chains_in (set ps i (record x { shut = true })) ≡ chains_in ps
chains-shut [] i x e = refl
chains-shut (q ∷ ps) zero x e = ap (λ (k : ℕ). k ∷ chains_in ps) (ap (λ y. y.chain) e)
chains-shut (q ∷ ps) (suc i) x e = ap (λ (ks : List ℕ). q.chain ∷ ks) (chains-shut ps i x e)

pub place_more : (w : ℕ) (ps : List Post) (i : ℕ) (x : Post) → i < length ps → x ≡ get_or ps i x → (x.worker ≡ w → ⊥) → i + place_in w (drop i ps) ≡ i + 1 + place_in w (drop (i + 1) ps)
place_more w [] i x h g e = absurd (omega arith)
place_more w (q ∷ ps) zero x h g e = grind (arith, nat_tests)
place_more w (q ∷ ps) (suc i) x h g e = grind (arith, nat_tests, place_more w ps i x)

no-shut : (w : ℕ) (lists : ℕ → List ℕ) (ps : List Post) → seats_of w (seats lists ps) ≡ 0 → list_any (λ s. if s.worker == w then s.shut else false) (seats lists ps) ≡ false
no-shut w lists [] h = refl
no-shut w lists (q ∷ ps) h = grind (arith, nat_tests, no-shut w lists ps)

pub shut-posts : (w : ℕ) (lists : ℕ → List ℕ) (ps : List Post) (d : Post) → place_in w ps < length ps → seats_of w (seats lists ps) ≤ 1 → list_any (λ s. if s.worker == w then s.shut else false) (seats lists ps) ≡ (get_or ps (place_in w ps) d).shut
shut-posts w lists [] d h e = absurd (omega arith)
shut-posts w lists (q ∷ ps) d h e = grind (arith, nat_tests, shut-posts w lists ps d, no-shut w lists ps)

pub workers-at : (lists : ℕ → List ℕ) (ps : List Post) (k : ℕ) (d : Post) → k < length ps → get_or (map (λ s. s.worker) (seats lists ps)) k 0 ≡ (get_or ps k d).worker
workers-at lists [] k d h = absurd (omega arith)
workers-at lists (q ∷ ps) zero d h = refl
workers-at lists (q ∷ ps) (suc k) d h = workers-at lists ps k d (omega arith)
