-- The news of a first part of some messages are a first part of their news.
use Rattle.std.proofs.Common.{◌≡◌, ◌⊎◌, List, [], ◌∷◌, ◌++◌, refl, ap, sym, subst, ◌∙◌, append_assoc, append-nil, inl, inr}
use Rattle.std.specs.Prelude.{option_to_list}
use Rattle.xd_frame.specs.Message.{MessageView}
use Rattle.xd_journal.specs.declared.news.What.{What}
use Rattle.xd_gateway.specs.News.{AreHeard, Heard, IsNewsOf, all_messages, all_news, came_news, ear_after}
use Rattle.xd_gateway.proofs.Ears.{one_news}
use Rattle.xd_system.specs.Moment.{IsFirstPart}

-- a first part of what ends with one more is that without it, or all
pub last_or_less : {A : Type 0} (first xs later : List A) (x : A) → xs ++ x ∷ [] ≡ first ++ later → IsFirstPart first xs ⊎ (first ≡ xs ++ x ∷ [])
last_or_less [] xs later x e = inl (xs, refl)
last_or_less (y ∷ first) [] later x e = by_first first (let z = e in cc) (let z = e in cc)
  where
    by_first : (f : List _) → x ≡ y → [] ≡ f ++ later → IsFirstPart (y ∷ f) [] ⊎ (y ∷ f ≡ x ∷ [])
    by_first [] s r = inr (ap (λ z. z ∷ []) (sym s))
    by_first (z ∷ f) s r = absurd cc
last_or_less (y ∷ first) (z ∷ xs) later x e = by_rest (last_or_less first xs later x (let q = e in cc)) (let q = e in cc)
  where
    by_rest : IsFirstPart first xs ⊎ (first ≡ xs ++ x ∷ []) → z ≡ y → IsFirstPart (y ∷ first) (z ∷ xs) ⊎ (y ∷ first ≡ (z ∷ xs) ++ x ∷ [])
    by_rest (inl p) s = inl (p.0, ap (λ l. z ∷ l) p.1 ∙ ap (λ q. q ∷ (first ++ p.0)) s)
    by_rest (inr p) s = inr (ap (λ l. y ∷ l) p ∙ ap (λ q. q ∷ (xs ++ x ∷ [])) (sym s))

-- what a first part was heard as
record HeardPart (first : List MessageView) (heard : List Heard) : Type 0 where
  part : List Heard
  are : AreHeard part
  messages_are : all_messages part ≡ first
  begins : IsFirstPart (all_news part) (all_news heard)

heard_part : (first : List MessageView) (heard : List Heard) → AreHeard heard → IsFirstPart first (all_messages heard) → HeardPart first heard
heard_part first [] are p = record { part = []; are = tt; messages_are = none first p.0 p.1; begins = ([], refl) }
  where
    none : (f l : List MessageView) → [] ≡ f ++ l → [] ≡ f
    none [] l e = refl
    none (m ∷ f) l e = absurd cc
heard_part first (g ∷ heard) are p = by_last (heard_part first heard are.0) (last_or_less first (all_messages heard) p.0 g.message p.1)
  where
    more : List What
    more = option_to_list (came_news (ear_after heard) g.came)

    by_last : (IsFirstPart first (all_messages heard) → HeardPart first heard) → IsFirstPart first (all_messages heard) ⊎ (first ≡ all_messages heard ++ g.message ∷ []) → HeardPart first (g ∷ heard)
    by_last less (inl q) =
        let r = less q in
        record { part = r.part; are = r.are; messages_are = r.messages_are; begins = (r.begins.0 ++ more, ap (λ (l : List What). l ++ more) r.begins.1 ∙ append_assoc (all_news r.part) r.begins.0 more) }
    by_last less (inr q) = record { part = g ∷ heard; are = are; messages_are = sym q; begins = ([], sym (append-nil (all_news heard ++ more))) }

pub news_begin : (first said : List MessageView) (some all : List What) → IsFirstPart first said → IsNewsOf first some → IsNewsOf said all → IsFirstPart some all
news_begin first said some all p a b =
    let part = heard_part first b.heard b.are (subst (IsFirstPart first) (sym b.messages_are) p) in
    let same : some ≡ all_news part.part = one_news first some (all_news part.part) a (record { heard = part.part; are = part.are; messages_are = part.messages_are; news_are = refl }) in
    (part.begins.0, sym b.news_are ∙ (part.begins.1 ∙ ap (λ (l : List What). l ++ part.begins.0) (sym same)))
