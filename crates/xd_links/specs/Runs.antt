-- What links show.
use Rattle.std.specs.Prelude.{◌≡◌, Bool, true, false, not, List, [], ◌++◌, Option, Some, None, IfSome, map}
use Rattle.std.specs.List.{list_any}
use Rattle.xd_link.specs.Spring.{Spring}
use Rattle.xd_reader.specs.Reads.{PutsAll}
use Rattle.xd_reader.specs.declared.news.LinkNews.{LinkNews}
use Rattle.xd_reader.specs.declared.news.LinkNews.TheVariants as news
use Rattle.xd_post.specs.Post.{Ring}

-- what was taken of an inbox; a closed one is None
abbrev pub news_of_mail : Option (Ring × List LinkNews) → Option (List LinkNews)
news_of_mail None = None
news_of_mail (Some mail) = Some mail.1

-- what was taken of each link, by its number
abbrev pub news_of : List (Option (Ring × List LinkNews)) → List (Option (List LinkNews))
news_of inboxes = map news_of_mail inboxes

-- the last that comes of a link
abbrev pub is_stop_news : LinkNews → Bool
is_stop_news (news.Message m) = false
is_stop_news (news.End stop) = true
is_stop_news (news.Output piece) = false
is_stop_news (news.ChildDone outcome) = false

-- more may come of a link: it is not closed, and its end was not taken
-- Example: of a link that was opened and gave two messages more may come, and after its end nothing.
abbrev pub is_going : Option (List LinkNews) → Bool
is_going None = false
is_going (Some got) = not (list_any is_stop_news got)

-- What was taken of a link begins what its reader put: the messages of its source's bytes after the greeting, in order,
-- and then one stop. The source had given nothing before.
pub record LinkRead (now : Spring) (got : List LinkNews) : Type 0 where
  pub first : Spring
  pub fresh : IfSome first.supply (λ s. s.given ≡ [])
  pub sent : List LinkNews
  pub later : List LinkNews
  pub puts : PutsAll true first now [] sent
  pub begins : sent ≡ got ++ later
