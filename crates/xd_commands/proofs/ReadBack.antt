-- What is written is read back.
use Rattle.std.proofs.Common.{◌≡◌, ℕ, suc, ◌<◌, Bool, List, [], ◌∷◌, Option, Some, None, option_map, option_and_then, map, refl, ap, ap₂, sym, ◌∙◌, if◌then◌else◌}
use Rattle.std.specs.Prelude.{pos, slice_index}
use Rattle.std.proofs.lemmas.Bool.{lt-ltb}
use Rattle.std.proofs.lemmas.Option.{same_Some}
use Rattle.xd_value.specs.Tree.{Tree, int, text}
use Rattle.xd_value.specs.View.{trees_of}
use Rattle.xd_journal.specs.declared.entry.Outcome.{Outcome}
use Rattle.xd_journal.specs.declared.entry.Outcome.TheVariants.{Passed, Skipped, Failed}
use Rattle.xd_journal.specs.declared.news.What.{What}
use Rattle.xd_journal.specs.declared.news.What.TheVariants.{Ready, Collected, LogStart, Piece, LogClosed, Done, Back, Finished, Closed, Stray, Gone, NotStarted}
use Rattle.xd_commands.specs.declared.order.Order.{Order}
use Rattle.xd_commands.specs.declared.order.Order.TheVariants.{RunTests, RunAll, Steal, Shutdown}
use Rattle.xd_commands.specs.Kwargs.{AreIndices, both, each_of, test_index_of, text_in_tree, number_below}
use Rattle.xd_commands.specs.Orders.{order_tree, tree_order, IsOrder}
use Rattle.xd_commands.specs.Events.{event_tree, tree_event, IsEvent, is_failure_code}

pub texts_read : (ts : List (List ℕ)) → each_of text_in_tree (trees_of (map text ts)) ≡ Some ts
texts_read [] = refl
texts_read (t ∷ ts) = ap (both (λ x xs. x ∷ xs) (Some t)) (texts_read ts)

pub number_read : (n limit : ℕ) → n < limit → number_below limit (pos n) ≡ Some n
number_read n limit lt = ap (λ (b : Bool). if b then Some n else None) (lt-ltb n limit lt)

pub indices_read : (ns : List ℕ) → AreIndices ns → each_of test_index_of (trees_of (map (λ n. int (pos n)) ns)) ≡ Some ns
indices_read [] h = refl
indices_read (n ∷ ns) h = ap₂ (both (λ x xs. x ∷ xs)) (number_read n 4294967296 h.0) (indices_read ns h.1)

pub order_read : (o : Order) → IsOrder o → tree_order (order_tree o) ≡ Some o
order_read (RunTests ns) h = ap (option_map RunTests) (indices_read ns h)
order_read RunAll h = refl
order_read (Steal ns) h = ap (option_map Steal) (indices_read ns h)
order_read Shutdown h = refl

done_read : (n ms : ℕ) (o : Outcome) (found : Option Outcome) → n < 4294967296 → ms < 18446744073709551616 → found ≡ Some o
    → option_and_then (λ k. both (Done k) found (number_below 18446744073709551616 (pos ms))) (number_below 4294967296 (pos n)) ≡ Some (Done n o ms)
done_read n ms o found lt small e = rw (lt-ltb n 4294967296 lt, lt-ltb ms 18446744073709551616 small, e) refl

again : (t : Option Tree) (u : Tree) (e : Option What) → t ≡ Some u → option_and_then tree_event t ≡ e → tree_event u ≡ e
again t u e is read = ap (option_and_then tree_event) (sym is) ∙ read

written_read : (e : What) → IsEvent e → (t : Tree) → event_tree e ≡ Some t → option_and_then tree_event (event_tree e) ≡ Some e
written_read Ready h t is = refl
written_read (Collected ids) h t is = ap (option_map Collected) (texts_read ids)
written_read (LogStart n log) h t is = ap (λ (o : Option ℕ). both LogStart o (Some log)) (number_read n 4294967296 h)
written_read (Done n Passed ms) h t is = done_read n ms Passed (Some Passed) h.0 h.2 refl
written_read (Done n Skipped ms) h t is = done_read n ms Skipped (Some Skipped) h.0 h.2 refl
written_read (Done n (Failed z) ms) h t is = done_read n ms (Failed z) (if is_failure_code z then Some (Failed z) else None) h.0 h.2 (ap (λ (b : Bool). if b then Some (Failed z) else None) h.1)
written_read (Back ns) h t is = ap (option_map Back) (indices_read ns h)
written_read Finished h t is = refl
written_read (Piece log b) h t is = absurd cc
written_read (LogClosed log) h t is = absurd cc
written_read (Closed x) h t is = absurd cc
written_read Stray h t is = absurd cc
written_read (Gone c) h t is = absurd cc
written_read NotStarted h t is = absurd cc

pub event_read : (e : What) → (t : Tree) → IsEvent e → event_tree e ≡ Some t → tree_event t ≡ Some e
event_read e t h is = again (event_tree e) t (Some e) is (written_read e h t is)

pub order_back : (e : Option Order) (t : Tree) → ((o : Order) → e ≡ Some o → IsOrder o) → Some t ≡ option_map order_tree e → tree_order t ≡ e
order_back None t fits is = absurd cc
order_back (Some o) t fits is = ap tree_order (same_Some _ _ is) ∙ order_read o (fits o refl)

pub indices_below : (ns : List ℕ) → ((k : ℕ) → slice_index ns k < 4294967296) → AreIndices ns
indices_below [] below = tt
indices_below (n ∷ ns) below = (below 0, indices_below ns (λ k. below (suc k)))
