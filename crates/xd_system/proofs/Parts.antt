-- What a worker told, and took, after a part of its inputs.
use Rattle.std.proofs.Common.{◌≡◌, List, [], ◌∷◌, ◌++◌, true, ap, sym, ◌∙◌, append_assoc}
use Rattle.std.specs.List.{list_all}
use Rattle.std.proofs.lemmas.List.{append-nil}
use Rattle.xd_journal.specs.declared.news.What.{What}
use Rattle.xd_journal.specs.declared.news.What.TheVariants as what
use Rattle.xd_commands.specs.declared.order.Order.{Order}
use Rattle.xd_worker_tests.specs.History.{Given, all_asks, turn_after}
use Rattle.xd_worker_tests.specs.Turns.{CallTurn}
use Rattle.xd_run_laws.proofs.Logic.{split-and}
use Rattle.xd_system.specs.Moment.{IsFirstPart}
use Rattle.xd_system.specs.Tells.{is_of_run, news_of_asks, order_in, orders_of, tells}
use Rattle.xd_system.proofs.Told.{asks-append}

abbrev pub told_in : List What → CallTurn → List What
told_in before t = before ++ news_of_asks t.asks

pub tells-more : (g : Given) (gs : List Given) → tells (g ∷ gs) ≡ told_in (tells gs) (turn_after gs g)
tells-more g gs = ap (λ (l : List What). what.Ready ∷ l) (asks-append (all_asks gs) (turn_after gs g).asks)

pub tells-part : (later gs : List Given) → IsFirstPart (tells gs) (tells (later ++ gs))
tells-part [] gs = ([], sym (append-nil (tells gs)))
tells-part (g ∷ later) gs =
    let k = tells-part later gs in
    (k.0 ++ news_of_asks (turn_after (later ++ gs) g).asks, tells-more g (later ++ gs) ∙ ap (λ (l : List What). l ++ news_of_asks (turn_after (later ++ gs) g).asks) k.1 ∙ append_assoc (tells gs) k.0 (news_of_asks (turn_after (later ++ gs) g).asks))

pub orders-part : (later gs : List Given) → IsFirstPart (orders_of gs) (orders_of (later ++ gs))
orders-part [] gs = ([], sym (append-nil (orders_of gs)))
orders-part (g ∷ later) gs =
    (let k = orders-part later gs in (k.0 ++ order_in g.input, ap (λ (l : List Order). l ++ order_in g.input) k.1 ∙ append_assoc (orders_of gs) k.0 (order_in g.input)))

pub run-part : (later gs : List Given) → list_all is_of_run (later ++ gs) ≡ true → list_all is_of_run gs ≡ true
run-part [] gs h = h
run-part (g ∷ later) gs h = run-part later gs (split-and (is_of_run g) (list_all is_of_run (later ++ gs)) h).1

pub begins-then : {A : Type 0} (xs ys zs : List A) → IsFirstPart xs ys → IsFirstPart ys zs → IsFirstPart xs zs
begins-then xs ys zs a b = (a.0 ++ b.0, b.1 ∙ ap (λ (l : List _). l ++ b.0) a.1 ∙ append_assoc xs a.0 b.0)
