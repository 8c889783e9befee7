-- The end of a link with two channels: what callbacks are owed, and what a receive gives then.
use Rattle.std.specs.Prelude.{ℕ, ◌==◌, [], ◌∷◌, Ok, if◌then◌else◌}
use Rattle.std.proofs.Common.{◌≡◌, refl}
use Rattle.xd_value.specs.Tree.{Tree}
use Rattle.xd_channel.specs.declared.answers.Got.TheVariants.{Ended}
use Rattle.xd_channel.specs.declared.end.End.TheVariants.{Lost}
use Rattle.xd_channel.specs.State.{fresh_end, after_hook}
use Rattle.xd_factory.specs.Slot.{Slot, Unseen, Here, lost_slot, receive_answer}
use Rattle.xd_factory.specs.Table.{owed_of}

-- the channels 1, with a callback, and 3, without one
abbrev one_callback : ℕ → Slot Tree
one_callback c = if c == 1 then Here (after_hook fresh_end) else (if c == 3 then Here fresh_end else Unseen)

-- the callback is owed one end, that the link is lost
one_is_owed : owed_of one_callback (1 ∷ 3 ∷ []) ≡ (1, Lost) ∷ []
one_is_owed = refl

-- a receive gives it at the other channel
lost_is_received : receive_answer (lost_slot (one_callback 3)) ≡ Ok (Ended Lost)
lost_is_received = refl
