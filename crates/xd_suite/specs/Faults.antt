-- What is wrong with the data of a suite file: each rule, and the first that is broken. A choice of this project.
use Rattle.std.specs.Prelude.{ℕ, ◌+◌, ◌==◌, nat_le, Bool, true, false, ◌&&◌, ◌||◌, not, List, [], ◌∷◌, ◌++◌, Option, Some, None, is_some, option_map, if◌then◌else◌, codes}
use Rattle.std.specs.List.{list_any}
use Rattle.std.specs.Option.{option_or}
use Rattle.std.specs.Str.{bytes_eq, chars}
use Rattle.toml.specs.Data.{Data, Items, no_items, item, Members, no_members, member, get_member, as_str, as_table}
use Rattle.xd_edge.specs.declared.mode.ModeKind.TheVariants.{Load, LoadGroup}
use Rattle.xd_edge.specs.Ids.{is_id}
use Rattle.xd_edge.specs.Limits.{most_tests}
use Rattle.xd_suite.specs.declared.test.Test.{Test}
use Rattle.xd_suite.specs.declared.fault.SuiteWhat.{SuiteWhat}
use Rattle.xd_suite.specs.declared.fault.SuiteWhat.TheVariants.{UnknownKey, WrongKind, TooMany, Missing, BadId, Repeated}
use Rattle.xd_suite.specs.declared.fault.SuiteFault.{SuiteFault}
use Rattle.xd_suite.specs.Tests.{array_at, ids_by_mode, test_items, members_of, tests_of, text_at}

-- a fault of the whole file
abbrev pub of_file : SuiteWhat → SuiteFault
of_file what = record { test = None; what = what }

-- a fault of one test, counted from 0
abbrev pub of_test : ℕ → SuiteWhat → SuiteFault
of_test number what = record { test = Some number; what = what }

-- the keys are all among these
abbrev pub has_only_keys : (List ℕ → Bool) → Members → Bool
has_only_keys known no_members = true
has_only_keys known (member k d ms) = known k && has_only_keys known ms

-- a key that the file may have
abbrev pub is_suite_key : List ℕ → Bool
is_suite_key k = bytes_eq k (codes "test")

-- a key that the table of a test may have
abbrev pub is_test_key : List ℕ → Bool
is_test_key k = bytes_eq k (codes "id") || bytes_eq k (codes "run") || bytes_eq k (codes "group")

-- this holds of each item
abbrev pub each_item_holds : (Data → Bool) → Items → Bool
each_item_holds holds no_items = true
each_item_holds holds (item d ds) = holds d && each_item_holds holds ds

-- how many items there are
abbrev pub count_items : Items → ℕ
count_items no_items = 0
count_items (item d ds) = count_items ds + 1

-- the value is a text
abbrev pub is_toml_text : Data → Bool
is_toml_text d = is_some (as_str d)

-- the value is a table
abbrev pub is_table : Data → Bool
is_table d = is_some (as_table d)

-- there is an array, and this holds of its items
abbrev pub is_array_with : (Items → Bool) → Option Items → Bool
is_array_with holds None = false
is_array_with holds (Some ds) = holds ds

-- an array of nothing
abbrev pub is_empty : Items → Bool
is_empty ds = count_items ds == 0

-- `id` or `run` is absent, or `run` is an array of nothing
abbrev pub lacks_key : Members → Bool
lacks_key ms =
    not (is_some (get_member (codes "id") ms)) || not (is_some (get_member (codes "run") ms)) || is_array_with is_empty (array_at (codes "run") ms)

-- `group` is absent or a text
abbrev pub has_group_kind : Members → Bool
has_group_kind ms = not (is_some (get_member (codes "group") ms)) || is_some (text_at (codes "group") ms)

-- `id` is a text, `run` an array of texts, and `group`, where it stands, a text
abbrev pub has_kinds : Members → Bool
has_kinds ms = is_some (text_at (codes "id") ms) && is_array_with (each_item_holds is_toml_text) (array_at (codes "run") ms) && has_group_kind ms

-- a text that stands there is an id
abbrev pub is_id_if_any : Option (List ℕ) → Bool
is_id_if_any None = true
is_id_if_any (Some text) = is_id (chars text)

-- `id` and `group` are ids, as far as they are texts
abbrev pub has_good_ids : Members → Bool
has_good_ids ms = is_id_if_any (text_at (codes "id") ms) && is_id_if_any (text_at (codes "group") ms)

-- the first rule that the table of a test breaks
-- Example: a table with an unknown key and without `run` has an unknown key.
abbrev pub fault_of_test : Members → Option SuiteWhat
fault_of_test ms =
    if not (has_only_keys is_test_key ms) then Some UnknownKey
    else if lacks_key ms then Some Missing
    else if not (has_kinds ms) then Some WrongKind
    else if not (has_good_ids ms) then Some BadId
    else None

-- the first test that breaks a rule of its own; the tests are counted from `number`
abbrev pub fault_of_tests : ℕ → Items → Option SuiteFault
fault_of_tests number no_items = None
fault_of_tests number (item d ds) = option_or (option_map (of_test number) (fault_of_test (members_of d))) (fault_of_tests (number + 1) ds)

-- the first text that stood before; `before` are those before the first, and `number` counts on from there
abbrev pub repeat_from : ℕ → List (List ℕ) → List (List ℕ) → Option ℕ
repeat_from number before [] = None
repeat_from number before (text ∷ texts) = if list_any (bytes_eq text) before then Some number else repeat_from (number + 1) (before ++ text ∷ []) texts

-- the first text that stood before, counted from 0
abbrev pub repeat_of : List (List ℕ) → Option ℕ
repeat_of texts = repeat_from 0 [] texts

-- the earlier of two numbers that may be there
abbrev pub earlier : Option ℕ → Option ℕ → Option ℕ
earlier None n = n
earlier (Some m) None = Some m
earlier (Some m) (Some n) = Some (if nat_le m n then m else n)

-- the first test whose id, or id by its group, stood before in the list of these
abbrev pub fault_of_ids : List Test → Option SuiteFault
fault_of_ids ts = option_map (λ number. of_test number Repeated) (earlier (repeat_of (ids_by_mode Load ts)) (repeat_of (ids_by_mode LoadGroup ts)))

-- `test` is absent or an array of tables
abbrev pub has_test_kind : Members → Bool
has_test_kind ms = not (is_some (get_member (codes "test") ms)) || is_array_with (each_item_holds is_table) (array_at (codes "test") ms)

-- the first rule that the file breaks
-- Example: where the second test repeats the first one's id and the third has no `run` it is `missing key` of test 2.
abbrev pub broken_rule : Members → Option SuiteFault
broken_rule ms =
    if not (has_only_keys is_suite_key ms) then Some (of_file UnknownKey)
    else if not (has_test_kind ms) then Some (of_file WrongKind)
    else if not (nat_le (count_items (test_items ms)) most_tests) then Some (of_file TooMany)
    else option_or (fault_of_tests 0 (test_items ms)) (fault_of_ids (tests_of (test_items ms)))
