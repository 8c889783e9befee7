-- Histories that compute: two channels, one of them named in a value; and what the law rules out.
use Rattle.std.proofs.Common.{◌≡◌, List, [], ◌∷◌, ◌++◌, length, true, false, None, refl, ap, arith}
use Rattle.std.specs.Prelude.{pos}
use Rattle.xd_value.specs.Tree.{int, channel}
use Rattle.xd_factory.specs.Slot.{Gone}
use Rattle.xd_pair.specs.Notes.{all_notes, Lasts, Item, Ends}
use Rattle.xd_pair.specs.Pair.{Law, untouched, Open_channel, Send, Ask, Answer, Close, Give_up, Receive, Set_callback, Take_message, Finish_receiving, Step, Odd, Even, run, start}

abbrev two_channels : List Step
two_channels = Odd Open_channel ∷ Odd Open_channel ∷ Odd (Send 1 (channel 3)) ∷ Odd (Send 3 (int (pos 7))) ∷ Even Take_message ∷ Even Take_message ∷ Even (Receive 1) ∷ Even (Receive 3) ∷ Even (Receive 3) ∷ []

named_comes : ((run two_channels start).even.part 1).got ≡ channel 3 ∷ []
named_comes = refl

item_comes : ((run two_channels start).even.part 3).got ≡ int (pos 7) ∷ []
item_comes = refl

abbrev closed_there : List Step
closed_there = two_channels ++ Even (Close 3 None) ∷ Odd Take_message ∷ Odd (Receive 3) ∷ Odd (Send 3 (int (pos 8))) ∷ []

end_comes : ((run closed_there start).odd.part 3).ended ≡ true
end_comes = refl

nothing_sent : (run closed_there start).odd.sent 3 ≡ int (pos 7) ∷ []
nothing_sent = refl

leaves : ((run closed_there start).odd.part 3).slot ≡ Gone
leaves = refl

-- a STATUS, an item that opens the number, a callback that is given up, and then the answer to the STATUS
abbrev late_answer : List Step
late_answer = Odd Open_channel ∷ Odd (Ask 1) ∷ Odd (Send 1 (int (pos 5))) ∷ Even Take_message ∷ Even Take_message ∷ Even (Set_callback 1) ∷ Even (Give_up 1) ∷ Even (Answer 1 (int (pos 9)))
    ∷ Odd Take_message ∷ Odd Take_message ∷ Odd Take_message ∷ Odd (Receive 1) ∷ Odd (Receive 1) ∷ []

answer_sent : (run late_answer start).even.sent 1 ≡ int (pos 9) ∷ []
answer_sent = refl

answer_dropped : ((run late_answer start).odd.part 1).got ≡ []
answer_dropped = refl

answer_closed : ((run late_answer start).odd.part 1).slot ≡ Gone
answer_closed = refl

not_let_go : ((run late_answer start).odd.part 1).let_go ≡ false
not_let_go = refl

-- the items before the CHANNEL_CLOSE, which stands last
all_said : all_notes 1 (run late_answer start).odd.taken ≡ Lasts ∷ Item (int (pos 9)) ∷ Ends None ∷ []
all_said = refl

-- two items and a close, and a callback that is set twice
abbrev set_twice : List Step
set_twice = Odd Open_channel ∷ Odd (Send 1 (int (pos 1))) ∷ Odd (Send 1 (int (pos 2))) ∷ Odd (Close 1 None) ∷ Even Take_message ∷ Even Take_message ∷ Even Take_message ∷ Even (Set_callback 1) ∷ Even (Set_callback 1) ∷ []

both_come : ((run set_twice start).even.part 1).got ≡ int (pos 1) ∷ int (pos 2) ∷ []
both_come = refl

close_comes : ((run set_twice start).even.part 1).ended ≡ true
close_comes = refl

has_left : ((run set_twice start).even.part 1).slot ≡ Gone
has_left = refl

-- the link is lost at two channels, one with a callback
abbrev link_lost : List Step
link_lost = Odd Open_channel ∷ Odd Open_channel ∷ Odd (Set_callback 1) ∷ Odd Finish_receiving ∷ []

callback_told : ((run link_lost start).odd.part 1).lost ≡ true
callback_told = refl

not_told_yet : ((run link_lost start).odd.part 3).lost ≡ false
not_told_yet = refl

told_then : ((run (link_lost ++ Odd (Receive 3) ∷ []) start).odd.part 3).lost ≡ true
told_then = refl

none_opens : (run (link_lost ++ Odd Open_channel ∷ []) start).odd.next ≡ 5
none_opens = refl

-- what the law rules out

-- one item more was handed out than was sent
handed_twice : Law (record untouched { got = int (pos 7) ∷ int (pos 7) ∷ [] }) (int (pos 7) ∷ []) (Item (int (pos 7)) ∷ []) → ⊥
handed_twice law =
    let more = law.prefix.0 in
    let one : length (int (pos 7) ∷ int (pos 7) ∷ more) ≡ 1 = ap length law.prefix.1 in
    omega (one, arith)

-- an orderly end came, and an item that was sent before it did not
item_lost : Law (record untouched { ended = true }) (int (pos 7) ∷ []) (Item (int (pos 7)) ∷ Ends None ∷ []) → ⊥
item_lost law =
    let one : 0 ≡ 1 = ap length (law.whole refl refl refl) in
    omega (one, arith)

-- an orderly end came that the peer did not say
end_from_nowhere : Law (record untouched { ended = true }) [] [] → ⊥
end_from_nowhere law =
    let said : false ≡ true = law.end_came refl refl refl in
    cc
