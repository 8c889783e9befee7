-- What was taken of a mailbox against what was put into it.
use Rattle.std.proofs.Common.{◌≡◌, List, [], ◌∷◌, ◌++◌, map, Option, Some, None, refl, ap, sym, ◌∙◌}
use Rattle.std.proofs.lemmas.List.{append-nil}
use Rattle.xd_frame.specs.Message.{MessageView}
use Rattle.xd_post.specs.Post.{Empties}
use Rattle.xd_reader.specs.declared.news.LinkNews.{LinkNews}
use Rattle.xd_reader.specs.declared.news.LinkNews.TheVariants as news
use Rattle.xd_reader.specs.declared.news.LinkStop.{LinkStop}

-- what was put is what was taken, and more
pub put_more : {T : Type 0} (rest : Option T) (got all : List T) → Empties rest got all → (more : List T) × (all ≡ got ++ more)
put_more None got all e = ([], sym e ∙ sym (append-nil got))
put_more (Some next) got all e = (next ∷ e.0, e.1)

tail_is : {T : Type 0} (a b : T) (xs ys : List T) → a ∷ xs ≡ b ∷ ys → xs ≡ ys
tail_is a b xs ys e = cc

message_is : (m n : MessageView) (xs ys : List LinkNews) → news.Message m ∷ xs ≡ news.Message n ∷ ys → m ≡ n
message_is m n xs ys e = cc

-- Messages and what is after them, against messages and one end.
pub record Fronts (ms all : List MessageView) (following : List LinkNews) (why : LinkStop) : Type 0 where
  pub rest : List MessageView
  pub all_is : all ≡ ms ++ rest
  pub following_is : following ≡ map news.Message rest ++ news.End why ∷ []

pub fronts : (ms all : List MessageView) (following : List LinkNews) (why : LinkStop) → map news.Message all ++ news.End why ∷ [] ≡ map news.Message ms ++ following → Fronts ms all following why
fronts [] all following why e = record { rest = all; all_is = refl; following_is = sym e }
fronts (m ∷ ms) [] following why e = cc
fronts (m ∷ ms) (n ∷ all) following why e =
    let f = fronts ms all following why (tail_is (news.Message n) (news.Message m) (map news.Message all ++ news.End why ∷ []) (map news.Message ms ++ following) e) in
    let s = message_is n m (map news.Message all ++ news.End why ∷ []) (map news.Message ms ++ following) e in
    record { rest = f.rest; all_is = ap (λ (x : MessageView). x ∷ all) s ∙ ap (λ (l : List MessageView). m ∷ l) f.all_is; following_is = f.following_is }

-- after the messages stands an end
pub end_is_there : (ms all : List MessageView) (later : List LinkNews) (stop why : LinkStop) → map news.Message all ++ news.End why ∷ [] ≡ map news.Message ms ++ (news.End stop ∷ later) → (all ≡ ms) × (stop ≡ why)
end_is_there ms all later stop why e = by f.rest f.all_is f.following_is
  where
    f : Fronts ms all (news.End stop ∷ later) why
    f = fronts ms all (news.End stop ∷ later) why e

    by : (rest : List MessageView) → all ≡ ms ++ rest → news.End stop ∷ later ≡ map news.Message rest ++ news.End why ∷ [] → (all ≡ ms) × (stop ≡ why)
    by [] a b = (a ∙ append-nil ms, (let z = b in cc))
    by (m ∷ rest) a b = cc

-- after the messages stands another
pub message_is_there : (ms all : List MessageView) (m : MessageView) (later : List LinkNews) (why : LinkStop) → map news.Message all ++ news.End why ∷ [] ≡ map news.Message ms ++ (news.Message m ∷ later) → (rest : List MessageView) × (all ≡ ms ++ m ∷ rest)
message_is_there ms all m later why e = by f.rest f.all_is f.following_is
  where
    f : Fronts ms all (news.Message m ∷ later) why
    f = fronts ms all (news.Message m ∷ later) why e

    by : (rest : List MessageView) → all ≡ ms ++ rest → news.Message m ∷ later ≡ map news.Message rest ++ news.End why ∷ [] → (rest : List MessageView) × (all ≡ ms ++ m ∷ rest)
    by [] a b = cc
    by (n ∷ rest) a b = (rest, a ∙ ap (λ (x : MessageView). ms ++ x ∷ rest) (sym (message_is m n later (map news.Message rest ++ news.End why ∷ []) b)))

-- an end among them is the one
pub end_among : (all : List MessageView) (earlier later : List LinkNews) (stop why : LinkStop) → map news.Message all ++ news.End why ∷ [] ≡ earlier ++ (news.End stop ∷ later) → stop ≡ why
end_among [] [] later stop why e = cc
end_among [] (x ∷ []) later stop why e = cc
end_among [] (x ∷ (y ∷ earlier)) later stop why e = cc
end_among (m ∷ all) [] later stop why e = cc
end_among (m ∷ all) (x ∷ earlier) later stop why e = end_among all earlier later stop why (tail_is (news.Message m) x (map news.Message all ++ news.End why ∷ []) (earlier ++ (news.End stop ∷ later)) e)
