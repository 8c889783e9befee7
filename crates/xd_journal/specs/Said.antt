-- What the news of a worker say of it. The orders that pytest-xdist's workermanage.py still sends to a worker that is
-- down go nowhere; here none is sent.
use Rattle.std.specs.Prelude.{Bool, true, false}
use Rattle.xd_journal.specs.declared.entry.Cause.TheVariants.{Breach}
use Rattle.xd_journal.specs.declared.news.What.{What}
use Rattle.xd_journal.specs.declared.news.What.TheVariants.{Ready, Finished, Closed, Stray, Gone, NotStarted}

-- the news that a worker is ready
abbrev pub is_ready : What → Bool
is_ready Ready = true
is_ready _ = false

-- after this a worker takes no orders
abbrev pub is_end : What → Bool
is_end Finished = true
is_end (Closed text) = true
is_end Stray = true
is_end (Gone cause) = true
is_end NotStarted = true
is_end _ = false

-- that a worker broke the rules is judged from its news, and is no news itself
abbrev pub is_breach : What → Bool
is_breach (Gone Breach) = true
is_breach _ = false
