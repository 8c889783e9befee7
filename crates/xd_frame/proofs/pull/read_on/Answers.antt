use Rattle.std.proofs.Common.{refl, ◌≡◌, ◌≤◌, ◌+◌, ◌-◌, ◌∙◌, not, true, ap, arith, drop, length, sym, take}
use Rattle.std.specs.Prelude.{is_ok}
use Rattle.std.proofs.lemmas.List.{length-take-le}
use borrow.Rule.Slice.PartMut.{post_of}
use Rattle.xd_link.proofs.SpringLemmas.{met_end}
use Rattle.xd_frame.proofs.ReadAfter.{read_after, resized, room_is, small_all}
use Rattle.xd_frame.proofs.pull.read_on.Goals as goal

pub returns-in-Ok-clause-read : goal.returns-in-Ok-clause-read
returns-in-Ok-clause-read g c =
    let old = c.args.held.now.items in
    let lent = c.deref_mut.result.now in
    let into = c.read.new.into in
    let begun = c.len-begun.result in
    let ok : is_ok c.resize.result ≡ true = c.is_err.ensures.negation ∙ ap not c.if-is_err.false in
    let at : begun ≡ length old = omega (arith, c.len-begun.ensures, c.args.held.now.ok.0) in
    let room = resized old c.resize.new.self.items lent begun c.args.size _ (is_ok c.resize.result) ok at (omega (arith, c.args.held.now.ok.0)) c.resize.ensures.items c.deref_mut.ensures.value in
    let size : length (take (length lent - begun) (drop begun lent)) ≡ c.args.size = room_is lent begun c.args.size room.1 in
    let filled : length into ≡ c.args.size = omega (arith, c.read.auto.into, size) in
    let within : c.in-Ok.n ≤ c.args.size = omega (arith, c.in-Ok.ensures.count, size) in
    let fits : begun + c.in-Ok.n ≤ c.resize.new.self.len = omega (arith, room.1, ap length c.deref_mut.ensures.value, c.resize.new.self.ok.0) in
    record {
      piece = take c.in-Ok.n into;
      gave = c.in-Ok.ensures.gave;
      new_is = read_after old lent into (post_of begun (length lent - begun) lent) _ c.truncate.new.self.items begun c.in-Ok.n c.resize.new.self.len room.0 (sym at) (omega arith) fits c.truncate.ensures.items;
      length_is = length-take-le c.in-Ok.n into (omega arith);
      asked = within;
      bytes = small_all c.truncate.new.self.items c.type_inv.held;
      count = c.in-Ok.ensures.counted.still refl;
      end = λ z some. met_end c.in-Ok.n (length (take (length lent - begun) (drop begun lent))) into (g.S.Source.supply c.args.source.now) (g.S.Source.supply c.read.new.self) (g.S.Source.is_ended c.args.source.now) (g.S.Source.is_ended c.read.new.self) (g.S.Source.faults c.read.new.self) z (omega arith) c.in-Ok.ensures.gave c.in-Ok.ensures.none_left c.in-Ok.ensures.end;
    }
