-- What a worker wrote to its link.
use Rattle.std.specs.Prelude.{ℕ, List, [], ◌∷◌, ◌++◌}
use Rattle.xd_frame.specs.Message.{MessageView, frames}

-- the byte by which a worker is known, as in execnet's gateway_base.py
abbrev pub greeting : List ℕ
greeting = 49 ∷ []

-- all that a worker writes that says these messages
-- Example: of a link without a message it is the byte `1` alone.
abbrev pub written : List MessageView → List ℕ
written messages = greeting ++ frames messages
