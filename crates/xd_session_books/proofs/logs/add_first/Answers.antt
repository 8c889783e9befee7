use Rattle.std.proofs.Common.{◌++◌, ◌∙◌, List, ℕ, ap, take, arith}
use Rattle.std.proofs.lemmas.Grind.{common_steps}
use Rattle.xd_journal.specs.Kept.{most_of_one}
use Rattle.xd_session_books.proofs.Places.{first-added}
use Rattle.xd_session_books.proofs.logs.add_first.Goals as goal

pub returns : goal.returns
returns c =
    first-added most_of_one c.saturating_sub-room.result c.min-count.result c.bytes.inside.bytes.items c.args.piece.now c.extend_from_slice.new.self.items c.truncate.new.self.items (grind (arith, common_steps)) (grind (arith, common_steps)) c.in_ok-extend_from_slice.ensures.items c.truncate.ensures.items
    ∙ ap (λ (bs : List ℕ). take most_of_one (bs ++ c.args.piece.now)) c.bytes.view_is
