-- The items of an array, looked at one by one.
use Rattle.std.proofs.Common.{◌≡◌, ℕ, ◌+◌, ◌<◌, Bool, ◌&&◌, List, [], ◌∷◌, ◌++◌, length, get_or, drop, Option, Some, None, option_map, refl, sym, ◌∙◌, ap, arith, append_assoc}
use Rattle.std.proofs.lemmas.List.{append-nil, drop_all}
use Rattle.std.specs.List.{list_all}
use Rattle.std.specs.Option.{option_or}
use Rattle.toml.specs.Data.{Data, no_items, item}
use Rattle.toml.specs.View.{view, items_view}
use Rattle.toml.specs.declared.value.Value.{Value}
use Rattle.toml.proofs.Views.{items_view-drop}
use Rattle.xd_suite.specs.declared.test.Test.{Test}
use Rattle.xd_suite.specs.declared.fault.SuiteWhat.{SuiteWhat}
use Rattle.xd_suite.specs.Faults.{each_item_holds, count_items, fault_of_test, fault_of_tests, of_test}
use Rattle.xd_suite.specs.Tests.{members_of, test_of, tests_of}

pub all_items-view : (p : Data → Bool) (vs : List Value) → list_all (λ v. p (view v)) vs ≡ each_item_holds p (items_view vs)
all_items-view p [] = refl
all_items-view p (v ∷ vs) = ap (λ b. p (view v) && b) (all_items-view p vs)

pub count_items-view : (vs : List Value) → length vs ≡ count_items (items_view vs)
count_items-view [] = refl
count_items-view (v ∷ vs) = let more = count_items-view vs in omega (arith, more)

module _ (all : List Value) where
  -- the first i items have no fault, and these tests
  pub record SoFar (i : ℕ) (done : List Test) : Type 0 where
    pub tests : tests_of (items_view all) ≡ done ++ tests_of (items_view (drop i all))
    pub good : fault_of_tests 0 (items_view all) ≡ fault_of_tests i (items_view (drop i all))

  pub so_far_none : SoFar 0 []
  so_far_none = record { tests = refl; good = refl }

  none_left : items_view (drop (length all) all) ≡ no_items
  none_left = ap items_view (drop_all (length all) all (omega arith))

  pub all_tests : (done : List Test) → SoFar (length all) done → done ≡ tests_of (items_view all)
  all_tests done s = sym (s.tests ∙ ap (λ ds. done ++ tests_of ds) none_left ∙ append-nil done)

  pub all_good : (done : List Test) → SoFar (length all) done → fault_of_tests 0 (items_view all) ≡ None
  all_good done s = s.good ∙ ap (fault_of_tests (length all)) none_left

  module _ (i : ℕ) (d : Value) (done : List Test) (within : i < length all) (before : SoFar i done) where
    here : items_view (drop i all) ≡ item (view (get_or all i d)) (items_view (drop (i + 1) all))
    here = items_view-drop all i d within

    pub so_far_next : (t : Test) → t ≡ test_of (members_of (view (get_or all i d))) → fault_of_test (members_of (view (get_or all i d))) ≡ None → SoFar (i + 1) (done ++ t ∷ [])
    so_far_next t is good = record {
      tests = before.tests ∙ ap (λ ds. done ++ tests_of ds) here ∙ ap (λ (u : Test). done ++ u ∷ tests_of (items_view (drop (i + 1) all))) (sym is)
          ∙ sym (append_assoc done (t ∷ []) (tests_of (items_view (drop (i + 1) all))));
      good = before.good ∙ ap (fault_of_tests i) here ∙ ap (λ (o : Option SuiteWhat). option_or (option_map (of_test i) o) (fault_of_tests (i + 1) (items_view (drop (i + 1) all)))) good;
    }

    pub so_far_stop : (what : SuiteWhat) → fault_of_test (members_of (view (get_or all i d))) ≡ Some what → fault_of_tests 0 (items_view all) ≡ Some (of_test i what)
    so_far_stop what bad = before.good ∙ ap (fault_of_tests i) here ∙ ap (λ (o : Option SuiteWhat). option_or (option_map (of_test i) o) (fault_of_tests (i + 1) (items_view (drop (i + 1) all)))) bad
