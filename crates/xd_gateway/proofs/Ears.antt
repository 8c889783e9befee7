-- The messages of a link are heard in one way.
use Rattle.std.proofs.Common.{◌≡◌, ℕ, List, [], ◌∷◌, ◌++◌, Bool, true, false, refl, sym, ap, subst, ◌∙◌}
use Rattle.xd_frame.specs.Message.{MessageView}
use Rattle.xd_factory.specs.declared.faults.SideFault.{SideFault}
use Rattle.xd_factory.specs.Said.{Said as Word, Means}
use Rattle.xd_factory.specs.Table.{Refused as IsFaulty}
use Rattle.xd_factory.specs.SideTable.{ChannelTable, Counts}
use Rattle.xd_factory.proofs.SideTables.{new_in}
use Rattle.xd_factory.proofs.Meanings.{not_refused, one_meaning}
use Rattle.xd_gateway.proofs.Counted.{one_count}
use Rattle.xd_journal.specs.declared.news.What.{What}
use Rattle.xd_gateway.specs.News.{AreHeard, CameAs, Ear, HasRoom, Heard, IsCame, IsNewsOf, SideRefuses, Refused, Said, all_messages, all_news, ear_after}

-- ---- lists with a last item

not_empty : {A : Type 0} (ys : List A) (b : A) → [] ≡ ys ++ b ∷ [] → ⊥
not_empty [] b h = let z = h in cc
not_empty (y ∷ ys) b h = let z = h in cc

last_is : {A : Type 0} (xs ys : List A) (a b : A) → xs ++ a ∷ [] ≡ ys ++ b ∷ [] → (xs ≡ ys) × (a ≡ b)
last_is [] [] a b h = (refl, let z = h in cc)
last_is [] (y ∷ ys) a b h = absurd (not_empty ys b (let z = h in cc))
last_is (x ∷ xs) [] a b h = absurd (not_empty xs a (let z = h in cc))
last_is (x ∷ xs) (y ∷ ys) a b h =
    let z : x ∷ (xs ++ a ∷ []) ≡ y ∷ (ys ++ b ∷ []) = h in
    let first : x ≡ y = cc in
    let t : xs ++ a ∷ [] ≡ ys ++ b ∷ [] = cc in
    let r = last_is xs ys a b t in
    (rw (first, r.0) refl, r.1)

-- ---- a message that is taken is not refused

taken_is_not_refused : (t : ChannelTable) (m : MessageView) (said : Word) → Means m said → HasRoom t said → (fault : SideFault) (n : ℕ) → Counts t.slot n → IsFaulty n (new_in t) m fault → ⊥
taken_is_not_refused t m said h room fault n c r =
    let e : room.0 ≡ n = one_count t.slot room.0 n room.1 c in
    not_refused n (new_in t) m said h (rw e at room.2) fault r

not_both : (failed : Bool) (t : ChannelTable) (m : MessageView) (said : Word) → failed ≡ false → Means m said → HasRoom t said → SideRefuses failed t m → ⊥
not_both true t m said g h room r = let z = g in cc
not_both false t m said g h room r = taken_is_not_refused t m said h room r.0 r.1.0 r.1.1 r.1.2

one_came : (e : Ear) (m : MessageView) (a b : CameAs) → IsCame e m a → IsCame e m b → a ≡ b
one_came e m (Said x) (Said y) p q = ap Said (one_meaning m x y p.means q.means)
one_came e m (Said x) Refused p q = absurd (not_both e.failed e.table m x p.good p.means p.room q)
one_came e m Refused (Said y) p q = absurd (not_both e.failed e.table m y q.good q.means q.room p)
one_came e m Refused Refused p q = refl

-- ---- all messages

one_heard : (x y : Heard) (g h : List Heard) → x.message ≡ y.message → x.came ≡ y.came → g ≡ h → ◌≡◌ {A = List Heard} (x ∷ g) (y ∷ h)
one_heard x y g h a b c = rw c (ap (λ (k : Heard). k ∷ h) (same x.message y.message x.came y.came a b))
  where
    same : (m n : MessageView) (d e : CameAs) → m ≡ n → d ≡ e → ◌≡◌ {A = Heard} (record { message = m; came = d }) (record { message = n; came = e })
    same m n d e p q = rw (p, q) refl

all_heard : (g h : List Heard) → AreHeard g → AreHeard h → all_messages g ≡ all_messages h → g ≡ h
all_heard [] [] p q e = refl
all_heard [] (y ∷ h) p q e = absurd (not_empty (all_messages h) y.message e)
all_heard (x ∷ g) [] p q e = absurd (not_empty (all_messages g) x.message (sym e))
all_heard (x ∷ g) (y ∷ h) p q e =
    let s = last_is (all_messages g) (all_messages h) x.message y.message e in
    let r : g ≡ h = all_heard g h p.0 q.0 s.0 in
    let k : IsCame (ear_after g) x.message y.came =
    subst (λ (l : List Heard). IsCame (ear_after l) x.message y.came) (sym r) (subst (λ (m : MessageView). IsCame (ear_after h) m y.came) (sym s.1) q.1) in
    one_heard x y g h s.1 (one_came (ear_after g) x.message x.came y.came p.1 k) r

pub one_news : (messages : List MessageView) (a b : List What) → IsNewsOf messages a → IsNewsOf messages b → a ≡ b
one_news messages a b p q = sym p.news_are ∙ ap all_news (all_heard p.heard q.heard p.are q.are (p.messages_are ∙ sym q.messages_are)) ∙ q.news_are
