-- A test without a fault runs something.
use Rattle.std.proofs.Common.{◌≡◌, ◌<◌, Bool, true, false, ◌&&◌, ◌||◌, not, length, Option, Some, None, is_some, if◌then◌else◌, refl, arith, codes}
use Rattle.std.specs.Prelude.{unwrap_or}
use Rattle.toml.specs.Data.{Items, no_items, item, Members, get_member}
use Rattle.xd_suite.specs.declared.fault.SuiteWhat.{SuiteWhat}
use Rattle.xd_suite.specs.declared.fault.SuiteWhat.TheVariants.{UnknownKey, WrongKind, Missing, BadId}
use Rattle.xd_suite.specs.Faults.{each_item_holds, fault_of_test, has_good_ids, has_group_kind, has_kinds, has_only_keys, is_array_with, is_empty, is_test_key, is_toml_text, lacks_key}
use Rattle.xd_suite.specs.Tests.{array_at, text_at, texts_of}

last_false : (a b c : Bool) → (a || b || c) ≡ false → c ≡ false
last_false a b false e = refl
last_false true b true e = e
last_false false true true e = e
last_false false false true e = e

middle_true : (a b c : Bool) → (a && b && c) ≡ true → b ≡ true
middle_true a true c e = refl
middle_true true false c e = e
middle_true false false c e = e

abbrev first_broken : Bool → Bool → Bool → Bool → Option SuiteWhat
first_broken a b c d = if not a then Some UnknownKey else if b then Some Missing else if not c then Some WrongKind else if not d then Some BadId else None

none_broken : (a b c d : Bool) → first_broken a b c d ≡ None → (b ≡ false) × (c ≡ true)
none_broken true false true d e = (refl, refl)
none_broken true false false d e = absurd (cc)
none_broken true true c d e = absurd (cc)
none_broken false b c d e = absurd (cc)

some_texts : (o : Option Items) → is_array_with is_empty o ≡ false → is_array_with (each_item_holds is_toml_text) o ≡ true → 0 < length (texts_of (unwrap_or o no_items))
some_texts None e f = absurd (cc)
some_texts (Some no_items) e f = absurd (cc)
some_texts (Some (item d ds)) e f = omega arith

pub runs_something : (ms : Members) → fault_of_test ms ≡ None → 0 < length (texts_of (unwrap_or (array_at (codes "run") ms) no_items))
runs_something ms good =
    let parts = none_broken (has_only_keys is_test_key ms) (lacks_key ms) (has_kinds ms) (has_good_ids ms) good in
    some_texts (array_at (codes "run") ms)
    (last_false (not (is_some (get_member (codes "id") ms))) (not (is_some (get_member (codes "run") ms))) (is_array_with is_empty (array_at (codes "run") ms)) parts.0)
    (middle_true (is_some (text_at (codes "id") ms)) (is_array_with (each_item_holds is_toml_text) (array_at (codes "run") ms)) (has_group_kind ms) parts.1)
