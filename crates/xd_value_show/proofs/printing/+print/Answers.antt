use Rattle.std.proofs.Common.{ap, sym, [], ◌++◌, ◌∙◌, List, ℕ, rules, arith}
use Rattle.std.specs.Prelude.{codes}
use Rattle.xd_value_show.specs.Show.{shown_items, between}
use Rattle.xd_value.specs.View.{views}
use Rattle.xd_value_show.proofs.Prints.{tuple_end_one, tuple_end_other, set_without, set_with, in_turn, with_words}
use Rattle.xd_value_show.proofs.printing.+print.Goals as goal

pub print_frozenset-returns-in_ok-put : goal.print_frozenset-returns-in_ok-put
print_frozenset-returns-in_ok-put t c =
    c.in_ok-put.ensures ∙ ap (λ (x : List ℕ). c.args.out.now ++ x) (sym (set_without c.args.items.now (codes "frozenset()") (codes "frozenset({") (shown_items [] (views c.args.items.now)) (codes "})") (search rules)))

pub print_frozenset-returns-in_ok-put_char : goal.print_frozenset-returns-in_ok-put_char
print_frozenset-returns-in_ok-put_char t c =
    let out = c.args.out.now in
    let inner = shown_items [] (views c.args.items.now) in
    c.in_ok-put_char.ensures ∙ ap (λ (x : List ℕ). x ++ codes ")") (c.in_ok-print_between.ensures ∙ ap (λ (x : List ℕ). x ++ between (codes "{") inner (codes "}")) c.in_ok-put-2.ensures)
    ∙ with_words out (codes "frozenset(") (codes "{") inner (codes "}") (codes ")")
    ∙ ap (λ (x : List ℕ). out ++ x) (sym (set_with c.args.items.now (codes "frozenset()") (codes "frozenset({") inner (codes "})") (search rules)))

pub print_set-returns-in_ok-print_between : goal.print_set-returns-in_ok-print_between
print_set-returns-in_ok-print_between t c =
    c.in_ok-print_between.ensures ∙ ap (λ (x : List ℕ). c.args.out.now ++ x) (sym (set_with c.args.items.now (codes "set()") (codes "{") (shown_items [] (views c.args.items.now)) (codes "}") (search rules)))

pub print_tuple-returns-in_ok-put : goal.print_tuple-returns-in_ok-put
print_tuple-returns-in_ok-put t c =
    let out = c.args.out.now in
    let inner = shown_items [] (views c.args.items.now) in
    c.in_ok-put.ensures ∙ ap (λ (x : List ℕ). x ++ codes ",)") (c.in_ok-print_items.ensures ∙ ap (λ (x : List ℕ). x ++ inner) c.in_ok-put_char.ensures)
    ∙ in_turn out (codes "(") inner (codes ",)")
    ∙ ap (λ (x : List ℕ). out ++ between (codes "(") inner x) (sym (tuple_end_one c.args.items.now (omega arith)))

pub print_tuple-returns-in_ok-put_char-2 : goal.print_tuple-returns-in_ok-put_char-2
print_tuple-returns-in_ok-put_char-2 t c =
    let out = c.args.out.now in
    let inner = shown_items [] (views c.args.items.now) in
    c.in_ok-put_char-2.ensures ∙ ap (λ (x : List ℕ). x ++ codes ")") (c.in_ok-print_items.ensures ∙ ap (λ (x : List ℕ). x ++ inner) c.in_ok-put_char.ensures)
    ∙ in_turn out (codes "(") inner (codes ")")
    ∙ ap (λ (x : List ℕ). out ++ between (codes "(") inner x) (sym (tuple_end_other c.args.items.now (λ e. omega arith)))
