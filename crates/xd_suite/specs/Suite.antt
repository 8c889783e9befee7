-- Which bytes are a suite file, and why others are none. A choice of this project.
use Rattle.std.specs.Prelude.{ℕ, ◌≡◌, ◌<◌, ◌≤◌, ◌⊎◌, List, length, Option, Some, None}
use Rattle.std.specs.Str.{IsUtf8}
use Rattle.toml.specs.Data.{Members}
use Rattle.toml.specs.Parse.{parse_document}
use Rattle.xd_edge.specs.Limits.{most_suite_bytes}
use Rattle.xd_suite.specs.declared.test.Test.{Test}
use Rattle.xd_suite.specs.declared.fault.SuiteWhat.TheVariants.{TooLarge, NotToml}
use Rattle.xd_suite.specs.declared.fault.SuiteFault.{SuiteFault}
use Rattle.xd_suite.specs.declared.fault.SuiteRefusal.{SuiteRefusal}
use Rattle.xd_suite.specs.declared.fault.SuiteRefusal.TheVariants.{Bad, OutOfMemory}
use Rattle.xd_suite.specs.Faults.{broken_rule, of_file}
use Rattle.xd_suite.specs.Tests.{test_items, tests_of}

-- The bytes are those of a TOML file that is small enough, with this data.
pub record HasData (bytes : List ℕ) (ms : Members) : Type 0 where
  pub small : length bytes ≤ most_suite_bytes
  pub utf8 : IsUtf8 bytes
  pub parsed : parse_document bytes ≡ Some ms

-- These bytes are a suite file with these tests: no rule is broken.
-- Example: the empty file is a suite without tests.
pub record IsSuiteOf (bytes : List ℕ) (tests : List Test) : Type 0 where
  pub members : Members
  pub toml : HasData bytes members
  pub good : broken_rule members ≡ None
  pub listed : tests ≡ tests_of (test_items members)

-- These bytes are TOML whose first fault is this.
pub record HasFault (bytes : List ℕ) (fault : SuiteFault) : Type 0 where
  pub members : Members
  pub toml : HasData bytes members
  pub first : broken_rule members ≡ Some fault

-- These bytes are small enough, and no TOML.
pub record IsNotToml (bytes : List ℕ) : Type 0 where
  pub small : length bytes ≤ most_suite_bytes
  pub not_toml : IsUtf8 bytes → parse_document bytes ≡ None

-- why these bytes are no suite file: there are too many, they are no TOML, or their data breaks a rule
-- Example: `[[test` is no TOML.
abbrev pub IsFaulty : List ℕ → SuiteFault → Type 0
IsFaulty bytes fault =
    ((most_suite_bytes < length bytes) × (fault ≡ of_file TooLarge)) ⊎ ((IsNotToml bytes × (fault ≡ of_file NotToml)) ⊎ HasFault bytes fault)

-- These bytes are refused so; where memory ran out the cause is not in them.
abbrev pub IsSuiteRefused : List ℕ → SuiteRefusal → Type 0
IsSuiteRefused bytes (Bad fault) = IsFaulty bytes fault
IsSuiteRefused bytes OutOfMemory = Unit {0}

-- a refusal for the fault that is there, or because memory ran out
abbrev pub NamesFault : Option SuiteFault → SuiteRefusal → Type 0
NamesFault found (Bad fault) = found ≡ Some fault
NamesFault found OutOfMemory = Unit {0}
