use Rattle.std.proofs.Common.{◌≡◌, ◌≤◌, [], ap, sym, ◌∙◌, subst, List, ℕ, length}
use Rattle.std.specs.Prelude.{Some, None}
use Rattle.xd_run.specs.declared.member.Listed.{Listed}
use Rattle.xd_run.specs.Collections.{listed_in}
use Rattle.xd_edge.specs.Limits.{most_tests}
use Rattle.xd_run.specs.Sharing.{ids_at}
use Rattle.xd_session_books.proofs.Compares.{list-found, list-missing}
use Rattle.xd_session_rules.proofs.Shares.{few-at}
use Rattle.xd_session_rules.proofs.collecting.ids_of.Goals as goal

pub returns-then-place-lists : goal.returns-then-place-lists
returns-then-place-lists c =
    let ls = c.args.lists.now in
    let x = c.index-lists-place.result in
    let f : listed_in c.args.slot ls ≡ Some x = list-found c.args.slot c.place_of-place.result ls x c.place_of-place.ensures c.if-place-lists.true c.index-lists-place.is in
    let e = ap (λ (l : Listed). l.ids) (sym c.index-lists-place.is) ∙ ap (λ o. elim o as (λ _. List (List ℕ)) [ None ↦ [] | Some l ↦ l.ids ]) (sym f) in
    record { ids = e; few = subst (λ (is : List (List ℕ)). length is ≤ most_tests) (sym e) (few-at most_tests c.args.slot ls c.requires.few) }

pub returns : goal.returns
returns c =
    let ls = c.args.lists.now in
    let f : listed_in c.args.slot ls ≡ None = list-missing c.args.slot c.place_of-place.result ls c.place_of-place.ensures c.if-place-lists.false in
    let e : c.args.none.now ≡ ids_at c.args.slot ls = c.requires.none ∙ ap (λ o. elim o as (λ _. List (List ℕ)) [ None ↦ [] | Some l ↦ l.ids ]) (sym f) in
    record { ids = e; few = subst (λ (is : List (List ℕ)). length is ≤ most_tests) (sym e) (few-at most_tests c.args.slot ls c.requires.few) }
