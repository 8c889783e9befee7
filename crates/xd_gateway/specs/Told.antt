-- Where a worker may still be told what to do.
use Rattle.std.specs.Prelude.{Bool, true, false, List}
use Rattle.std.specs.List.{list_any}
use Rattle.xd_journal.specs.declared.news.What.{What}
use Rattle.xd_journal.specs.declared.news.What.TheVariants.{Finished, Closed, Stray}

-- with this a worker has ended, or broke the rules
abbrev pub is_last : What → Bool
is_last Finished = true
is_last (Closed text) = true
is_last Stray = true
is_last _ = false

-- with one of these news the worker has ended, or broke the rules
abbrev pub has_last : List What → Bool
has_last news = list_any is_last news
