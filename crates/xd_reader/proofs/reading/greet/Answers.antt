use Rattle.std.proofs.Common.{refl, rules, slice_index_or, ◌≡◌, ◌∷◌, [], false}
use Rattle.std.specs.Prelude.{◌==◌}
use Rattle.xd_link.specs.Source.{Gave}
use Rattle.xd_link.specs.Spring.{spring}
use Rattle.xd_reader.specs.Judged.{greeting_byte}
use Rattle.xd_reader.proofs.Listening.{greets_bad}
use Rattle.xd_reader.proofs.reading.greet.Goals as goal

pub returns-else-byte-eq-GREETING : goal.returns-else-byte-eq-GREETING
returns-else-byte-eq-GREETING g c =
    let byte = slice_index_or c.read.new.into 0 0 in
    let gave : Gave (byte ∷ []) (g.S.Source.supply c.args.source.now) (g.S.Source.supply c.read.new.self) = search rules in
    let other : (byte == greeting_byte) ≡ false = search rules in
    record {
      greets = greets_bad (spring (g.S.Source.supply c.args.source.now) (g.S.Source.is_ended c.args.source.now) (g.S.Source.faults c.args.source.now)) (spring (g.S.Source.supply c.read.new.self) (g.S.Source.is_ended c.read.new.self) (g.S.Source.faults c.read.new.self)) byte other gave (c.in-Ok.ensures.counted.still refl);
    }
