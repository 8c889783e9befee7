-- Worked calls on one end of a channel: what receives give after items and an end.
use Rattle.std.specs.Prelude.{ℕ, zero, suc, List, [], ◌∷◌, Option, Some, None, Result, Ok, Err, codes}
use Rattle.std.proofs.Common.{◌≡◌, refl}
use Rattle.xd_channel.specs.declared.answers.Got.{Got}
use Rattle.xd_channel.specs.declared.answers.Got.TheVariants.{Item, Ended, NotYet}
use Rattle.xd_channel.specs.declared.answers.HasCallback.{HasCallback}
use Rattle.xd_channel.specs.declared.answers.Closing.TheVariants as closing
use Rattle.xd_channel.specs.declared.end.End.TheVariants.{Closed, LastMessage, Error}
use Rattle.xd_channel.specs.State.{EndState, fresh_end, after_arrive, after_peer_close, after_put, after_close, close_gives, may_send_gives, receive_gives, after_receive, end_of}

-- what n receives give, one after another
abbrev receives : ℕ → EndState ℕ → List (Result (Got ℕ) HasCallback)
receives zero s = []
receives (suc n) s = receive_gives s ∷ receives n (after_receive s)

-- nothing came yet
nothing_yet : receives 1 fresh_end ≡ Ok NotYet ∷ []
nothing_yet = refl

-- the items 1, 2 and 3 came
abbrev three_came : EndState ℕ
three_came = after_arrive (after_arrive (after_arrive fresh_end 1) 2) 3

-- then the peer closed the channel: the items come in order, and then the end, each time
closed_after_three : receives 5 (after_peer_close three_came (end_of None)) ≡ Ok (Item 1) ∷ Ok (Item 2) ∷ Ok (Item 3) ∷ Ok (Ended Closed) ∷ Ok (Ended Closed) ∷ []
closed_after_three = refl

-- or it closed it with an error, which is told once
error_after_three : receives 5 (after_peer_close three_came (end_of (Some (codes "x")))) ≡ Ok (Item 1) ∷ Ok (Item 2) ∷ Ok (Item 3) ∷ Ok (Ended (Error (codes "x"))) ∷ Ok (Ended Closed) ∷ []
error_after_three = refl

-- the peer sent its last message
abbrev last_came : EndState ℕ
last_came = after_put fresh_end LastMessage

last_each_time : receives 3 last_came ≡ Ok (Ended LastMessage) ∷ Ok (Ended LastMessage) ∷ Ok (Ended LastMessage) ∷ []
last_each_time = refl

-- this side may still send
sends_after_last : may_send_gives last_came ≡ Ok tt
sends_after_last = refl

-- its own close says nothing then, and ends its sending
close_after_last : close_gives last_came ≡ closing.Nothing
close_after_last = refl

sends_no_more : may_send_gives (after_close last_came) ≡ Err (record {})
sends_no_more = refl
