-- Where the words of the law are the messages of the program: what a list of messages means.
use Rattle.std.specs.Prelude.{◌≡◌, List, [], ◌∷◌, ◌++◌}
use Rattle.xd_frame.specs.Message.{MessageView}
use Rattle.xd_factory.specs.Said.{Said, Means}

-- the messages mean these words, one each
abbrev pub AllMean : List MessageView → List Said → Type 0
AllMean [] [] = Unit {0}
AllMean [] (w ∷ ws) = ⊥
AllMean (m ∷ ms) [] = ⊥
AllMean (m ∷ ms) (w ∷ ws) = Means m w × AllMean ms ws

-- after the old messages come some that mean these words
pub record AddsMessages (old new : List MessageView) (words : List Said) : Type 0 where
  pub more : List MessageView
  pub following : new ≡ old ++ more
  pub mean : AllMean more words
