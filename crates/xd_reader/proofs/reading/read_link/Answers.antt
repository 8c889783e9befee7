use Rattle.std.proofs.Common.{◌≡◌, Bool, true, sym, subst}
use Rattle.xd_post.specs.Post.{put}
use Rattle.xd_link.specs.Spring.{spring}
use Rattle.xd_reader.specs.Reads.{Puts}
use Rattle.xd_reader.proofs.Listening.{greeted_reads}
use Rattle.xd_reader.proofs.reading.read_link.Goals as goal

pub returns-in-None-clause-puts : goal.returns-in-None-clause-puts
returns-in-None-clause-puts g c =
    let s0 = spring (g.S.Source.supply c.args.source.now) (g.S.Source.is_ended c.args.source.now) (g.S.Source.faults c.args.source.now) in
    let s1 = spring (g.S.Source.supply c.greet.new.source) (g.S.Source.is_ended c.greet.new.source) (g.S.Source.faults c.greet.new.source) in
    let s2 = spring (g.S.Source.supply c.read_messages-in-None.new.source) (g.S.Source.is_ended c.read_messages-in-None.new.source) (g.S.Source.faults c.read_messages-in-None.new.source) in
    let e : c.args.greeted ≡ true = c.if-not-greeted.false in
    subst (λ (b : Bool). Puts b s0 s2 (put c.args.sender.now) (put c.read_messages-in-None.new.sender) c.read_messages-in-None.result) (sym e)
    (greeted_reads s0 s1 s2 (put c.args.sender.now) (put c.read_messages-in-None.new.sender) c.read_messages-in-None.result c.in-None.ensures.greets.0 c.in-None.ensures.greets.1 c.read_messages-in-None.ensures.puts)
