-- What the rota tells of a worker, and of each list.
use Rattle.std.proofs.Common.{◌≡◌, ℕ, ◌≤◌, ◌<◌, List, [], ◌∷◌, length, get_or, set, nat_lt, true, false, not, refl, ap, sym, subst, ◌∙◌, arith}
use Rattle.std.specs.Prelude.{◌==◌}
use Rattle.std.specs.List.{list_any, list_all}
use Rattle.std.proofs.lemmas.Bool.Decides.{nat_tests}
use Rattle.xd_ledger.specs.declared.post.Post.{Post}
use Rattle.xd_ledger.specs.Chains.{Lists, chain_at}
use Rattle.xd_run.specs.Numbers.{times}
use Rattle.xd_ledger.specs.Posts.{seats, chains_in, chain_in, place_in, table_of, IsKept}
use Rattle.xd_run.specs.Table.{Table, in_rota, seat_shut, shut_down}
use Rattle.xd_ledger.proofs.ChainMoves.{by_cases}
use Rattle.xd_ledger.proofs.Kept.{has, shut_table, shut_kept}
use Rattle.xd_ledger.proofs.Links.{same}
use Rattle.xd_ledger.proofs.Posts.{any-posts, place-in, shut-posts}

chain-none : (w : ℕ) (ps : List Post) → list_any (λ q. q.worker == w) ps ≡ false → chain_in w ps ≡ 0
chain-none w [] h = refl
chain-none w (q ∷ ps) h = grind (arith, nat_tests, chain-none w ps)

pub in_rota_is : (w : ℕ) (l : Lists) (ps : List Post) (reported who : List ℕ) (room : ℕ) (t : Table) → table_of (chain_at l) ps reported who ≡ t → IsKept l ps reported who room → not (chain_in w ps == 0) ≡ in_rota w t
in_rota_is w l ps reported who room t e k = by_cases (in_rota w (table_of (chain_at l) ps reported who))
    (λ h. (let g = (has w l ps reported who room k h).preceding in ap not g ∙ sym h ∙ ap (in_rota w) e))
    (λ f. (let z : chain_in w ps ≡ 0 = chain-none w ps (sym (any-posts w (chain_at l) ps) ∙ f) in let s : (chain_in w ps == 0) ≡ true = ap (λ i. i == 0) z in ap not s ∙ sym f ∙ ap (in_rota w) e))

pub place_fits : (w n : ℕ) (l : Lists) (ps : List Post) (reported who : List ℕ) (t : Table) → table_of (chain_at l) ps reported who ≡ t → in_rota w t ≡ true → n ≡ place_in w ps → n < length ps
place_fits w n l ps reported who t e h p = (let i : list_any (λ q. q.worker == w) ps ≡ true = sym (any-posts w (chain_at l) ps) ∙ ap (in_rota w) e ∙ h in let b = place-in w ps i in omega arith)

pub is_shut_is : (w n : ℕ) (l : Lists) (ps : List Post) (reported who : List ℕ) (room : ℕ) (t : Table) (x : Post) → table_of (chain_at l) ps reported who ≡ t → IsKept l ps reported who room → in_rota w t ≡ true → n ≡ place_in w ps → x ≡ get_or ps n x → x.shut ≡ seat_shut w t
is_shut_is w n l ps reported who room t x e k h p g =
    let i : list_any (λ q. q.worker == w) ps ≡ true = sym (any-posts w (chain_at l) ps) ∙ ap (in_rota w) e ∙ h in
    ap (λ q. q.shut) (g ∙ ap (λ m. get_or ps m x) p) ∙ sym (shut-posts w (chain_at l) ps x (place-in w ps i) (k.sound.seated_once w)) ∙ ap (seat_shut w) e

pub shut_is : (w n : ℕ) (l : Lists) (ps : List Post) (reported who : List ℕ) (room : ℕ) (t : Table) (x : Post) → table_of (chain_at l) ps reported who ≡ t → IsKept l ps reported who room → in_rota w t ≡ true → n ≡ place_in w ps → x ≡ get_or ps n x
    → table_of (chain_at l) (set ps n (record x { shut = true })) reported who ≡ shut_down w t
shut_is w n l ps reported who room t x e k h p g =
    ap (λ m. table_of (chain_at l) (set ps m (record x { shut = true })) reported who) p ∙ shut_table w l ps reported who x (k.sound.seated_once w) (ap (in_rota w) e ∙ h) (g ∙ ap (λ m. get_or ps m x) p) ∙ ap (shut_down w) e

pub shut_keeps : (w n : ℕ) (l : Lists) (ps : List Post) (reported who : List ℕ) (room : ℕ) (t : Table) (x : Post) → table_of (chain_at l) ps reported who ≡ t → IsKept l ps reported who room → in_rota w t ≡ true → n ≡ place_in w ps → x ≡ get_or ps n x
    → IsKept l (set ps n (record x { shut = true })) reported who room
shut_keeps w n l ps reported who room t x e k h p g =
    subst (λ m. IsKept l (set ps m (record x { shut = true })) reported who room) (sym p) (shut_kept w l ps reported who room x k (ap (in_rota w) e ∙ h) (g ∙ ap (λ m. get_or ps m x) p))

pub all_known : (n : ℕ) (ps : List Post) → ((k : ℕ) → 1 ≤ times k (chains_in ps) → k < n) → list_all (λ q. nat_lt q.chain n) ps ≡ true
all_known n [] f = refl
all_known n (q ∷ ps) f =
    let s = same q.chain in
    let here : 1 ≤ times q.chain (q.chain ∷ chains_in ps) = grind (arith, nat_tests) in
    let b = f q.chain here in
    let rest = all_known n ps (λ k i. f k (omega arith)) in
    grind (arith, nat_tests)

pub all-posts : (lists : ℕ → List ℕ) (count : ℕ) (ps : List Post) → list_all (λ q. nat_lt (length (lists q.chain)) count) ps ≡ list_all (λ s. nat_lt (length s.held) count) (seats lists ps)
all-posts lists count [] = refl
all-posts lists count (q ∷ ps) = (let k = all-posts lists count ps in grind (arith, nat_tests))
