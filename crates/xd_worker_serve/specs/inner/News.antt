-- What the runner of a worker's programs put, as it stands among the inputs. The last input stands first.
use Rattle.std.specs.Prelude.{ℕ, ◌+◌, List, [], ◌∷◌, ◌++◌}
use Rattle.xd_reader.specs.declared.news.LinkNews.{LinkNews}
use Rattle.xd_reader.specs.declared.news.LinkNews.TheVariants as news
use Rattle.xd_worker.specs.declared.input.WorkerInput.{WorkerInput}
use Rattle.xd_worker.specs.declared.input.WorkerInput.TheVariants.{Message, SuiteBytes, SuiteTooLarge, SuiteUnread, Output, ChildDone, LinkEnd}

-- the item of the runner that an input is: a piece of output, or the end of a program
abbrev pub news_of_input : WorkerInput → List LinkNews
news_of_input (Message m) = []
news_of_input (SuiteBytes b) = []
news_of_input SuiteTooLarge = []
news_of_input SuiteUnread = []
news_of_input (Output b) = news.Output b ∷ []
news_of_input (ChildDone outcome ms) = news.ChildDone outcome ∷ []
news_of_input LinkEnd = []

-- the pieces of output and the ends of programs among them, in order
abbrev pub news_in : List WorkerInput → List LinkNews
news_in [] = []
news_in (i ∷ is) = news_in is ++ news_of_input i

-- how many programs ended
abbrev pub dones : List LinkNews → ℕ
dones [] = 0
dones (news.Message m ∷ ns) = dones ns
dones (news.End why ∷ ns) = dones ns
dones (news.Output b ∷ ns) = dones ns
dones (news.ChildDone outcome ∷ ns) = dones ns + 1
