-- A suite's fault in words. A choice of this project.
use Rattle.std.specs.Prelude.{ℕ, List, ◌++◌, Option, Some, None, codes}
use Rattle.std.specs.Fmt.{decimal}
use Rattle.xd_suite.specs.declared.fault.SuiteWhat.{SuiteWhat}
use Rattle.xd_suite.specs.declared.fault.SuiteWhat.TheVariants.{TooLarge, NotToml, UnknownKey, WrongKind, TooMany, Missing, BadId, Repeated}
use Rattle.xd_suite.specs.declared.fault.SuiteFault.{SuiteFault}

-- what is wrong with a file, or with the test that was named before
abbrev pub what_text : SuiteWhat → List ℕ
what_text TooLarge = codes "is too large"
what_text NotToml = codes "is not TOML"
what_text TooMany = codes "has too many tests"
what_text UnknownKey = codes "unknown key"
what_text WrongKind = codes "wrong kind"
what_text Missing = codes "missing key"
what_text BadId = codes "bad id"
what_text Repeated = codes "repeated id"

-- what is to blame, up to what is wrong with it
unfoldable pub blamed_text : Option ℕ → SuiteWhat → List ℕ
blamed_text (Some number) what = codes "test " ++ (decimal number ++ codes ": ")
blamed_text None TooLarge = codes "suite "
blamed_text None NotToml = codes "suite "
blamed_text None TooMany = codes "suite "
blamed_text None what = codes "suite: "

-- the fault, without a newline
-- Example: `test 3: repeated id`.
abbrev pub fault_text : SuiteFault → List ℕ
fault_text fault = blamed_text fault.test fault.what ++ what_text fault.what
