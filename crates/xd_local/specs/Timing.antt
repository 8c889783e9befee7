-- How long the tests of a run took, by the moments that a clock gives, in milliseconds. A choice of this project.
use Rattle.std.specs.Prelude.{◌≡◌, List, [], ◌∷◌}
use Rattle.xd_edge.specs.Clock.{Lasts, Ticking}
use Rattle.xd_journal.specs.Local.{TestResult}

-- For each of these results the clock gave two moments that lie as far apart as the result says that its test took, one
-- result after another, and no other moment.
-- Example: a clock gives 3, 5, 9 and 9; of two tests the first took 2 milliseconds and the second none.
abbrev pub AreTimed : List TestResult → Ticking → Ticking → Type 0
AreTimed [] old new = new ≡ old
AreTimed (r ∷ rs) old new = (mid : Ticking) × Lasts r.ms old mid × AreTimed rs mid new
