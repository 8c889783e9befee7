-- News, and one piece more.
use Rattle.std.proofs.Common.{◌≡◌, ℕ, List, [], ◌∷◌, ◌++◌, Bool, true, false, ◌||◌, refl, ap, sym, ◌∙◌, subst, append_assoc, inl, inr}
use Rattle.std.specs.Prelude.{◌⊎◌, None}
use Rattle.std.specs.List.{list_any}
use Rattle.std.proofs.lemmas.Grind.{fold-append}
use Rattle.std.proofs.lemmas.List.Elements.{filter_map-append}
use Rattle.std.proofs.lemmas.List.Folds.{list_any-append}
use Rattle.xd_journal.specs.declared.news.What.{What}
use Rattle.xd_commands.specs.declared.order.Order.{Order}
use Rattle.xd_run.specs.Meaning.{log_of, with_news}
use Rattle.xd_worker_tests.specs.declared.ask.Ask.{Ask}
use Rattle.xd_system.specs.Fits.{FitsNext, is_collected}
use Rattle.xd_system.specs.Moment.{IsFirstPart}
use Rattle.xd_system.specs.Own.{answers_in, answer_of_news, ends_in, end_of_news}
use Rattle.xd_system.specs.Tells.{news_of_ask, news_of_asks}
use Rattle.xd_system.proofs.Call.{AllFit, is_last_told}

pub asks-append : (xs ys : List Ask) → news_of_asks (xs ++ ys) ≡ news_of_asks xs ++ news_of_asks ys
asks-append [] ys = refl
asks-append (b ∷ xs) ys = ap (λ (l : List What). news_of_ask b ++ l) (asks-append xs ys)
    ∙ sym (append_assoc (news_of_ask b) (news_of_asks xs) (news_of_asks ys))

-- what was told before and in a turn, and further asks
pub told-more : (before : List What) (xs ys : List Ask)
    → before ++ news_of_asks (xs ++ ys) ≡ (before ++ news_of_asks xs) ++ news_of_asks ys
told-more before xs ys = ap (λ (l : List What). before ++ l) (asks-append xs ys)
    ∙ sym (append_assoc before (news_of_asks xs) (news_of_asks ys))

-- a split of a list that ends with this
pub last-split : {A : Type 0} (xs : List A) (n : A) (before after : List A) (m : A)
    → xs ++ n ∷ [] ≡ before ++ m ∷ after → ((before ≡ xs) × (m ≡ n)) ⊎ ((rest : List A) × (xs ≡ before ++ m ∷ rest))
last-split [] n [] after m h = (let e : n ≡ m = cc in inl (refl, sym e))
last-split [] n (y ∷ before) after m h = (let e : [] ≡ before ++ m ∷ after = cc in absurd (empty before e))
  where
    empty : (bs : List _) → [] ≡ bs ++ m ∷ after → ⊥
    empty [] e = cc
    empty (b ∷ bs) e = cc
last-split (x ∷ xs) n [] after m h = (let e : x ≡ m = cc in inr (xs, ap (λ (y : _). y ∷ xs) e))
last-split (x ∷ xs) n (y ∷ before) after m h =
    let e : x ≡ y = cc in
    let rest : xs ++ n ∷ [] ≡ before ++ m ∷ after = cc in
    elim (last-split xs n before after m rest) [
      | inl k ↦ inl (ap (λ (z : _). z ∷ before) (sym e) ∙ ap (λ (bs : List _). x ∷ bs) k.0, k.1)
      | inr k ↦ inr (k.0, ap (λ (z : _). z ∷ xs) e ∙ ap (λ (bs : List _). y ∷ bs) k.1)
    ]

pub fit-more : (size : ℕ) (all : List Order) (news : List What) (x : What) → AllFit size all news
    → FitsNext size all news x → AllFit size all (news ++ x ∷ [])
fit-more size all news x f k before m after is = elim (last-split news x before after m is) [
  | inl e ↦ subst (λ (b : List What). FitsNext size all b m) (sym e.0) (subst (λ (y : What). FitsNext size all news y) (sym e.1) k)
  | inr e ↦ f before m e.0 e.1
]

pub answers-more : (news : List What) (x : What)
    → answers_in (news ++ x ∷ []) ≡ answers_in news ++ answers_in (x ∷ [])
answers-more news x = filter_map-append answer_of_news news (x ∷ [])

pub ended-more : (news : List What) (x : What) → ends_in (news ++ x ∷ []) ≡ ends_in news ++ ends_in (x ∷ [])
ended-more news x = filter_map-append end_of_news news (x ∷ [])

pub log-more : (news : List What) (x : What) → log_of (news ++ x ∷ []) ≡ with_news (log_of news) x
log-more news x = fold-append with_news None news (x ∷ [])

pub collected-more : (news : List What) (x : What) → list_any is_collected news ≡ true
    → list_any is_collected (news ++ x ∷ []) ≡ true
collected-more news x h = list_any-append is_collected news (x ∷ [])
    ∙ ap (λ (b : Bool). b || (is_collected x || false)) h

pub begins-less : {A : Type 0} (xs ys all : List A) → IsFirstPart (xs ++ ys) all → IsFirstPart xs all
begins-less xs ys all b = (ys ++ b.0, b.1 ∙ append_assoc xs ys b.0)

pub last-more : (news : List What) (x : What) → is_last_told x ≡ false → list_any is_last_told news ≡ false
    → list_any is_last_told (news ++ x ∷ []) ≡ false
last-more news x a h = list_any-append is_last_told news (x ∷ [])
    ∙ ap (λ (b : Bool). b || (is_last_told x || false)) h ∙ ap (λ (b : Bool). b || false) a
