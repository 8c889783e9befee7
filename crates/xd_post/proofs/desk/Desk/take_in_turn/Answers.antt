use Rattle.std.proofs.Common.{◌≤◌, length, arith}
use Rattle.std.proofs.lemmas.List.{length-map}
use Rattle.xd_post.specs.Mails.{known_of, knows, next_inbox}
use Rattle.xd_post.proofs.Turns.{none_before, none_before_around, none_at_all}
use Rattle.xd_post.proofs.desk.Desk.take_in_turn.Goals as goal

pub returns-in-Some-clause-passed : goal.returns-in-Some-clause-passed
returns-in-Some-clause-passed g c =
    none_before (knows c.args.self.now) (next_inbox c.args.self.now) c.in-Some.found.0 c.in-Some.ensures.place.0 c.in-Some.ensures.passed

pub returns-clause-knew : goal.returns-clause-knew
returns-clause-knew g c =
    let size : length (knows c.args.self.now) ≤ c.len-count.result = omega (arith, length-map c.args.self.now.inboxes.items known_of, c.args.self.now.inboxes.ok.0, c.len-count.ensures) in
    none_at_all (knows c.args.self.now) (knows c.take_between.new.self) (knows c.take_between-2.new.self) (next_inbox c.args.self.now) c.len-count.result c.take_between-2.result size c.in_default.ensures.knew c.in_default.ensures.kept c.take_between-2.ensures.knew c.take_between-2.ensures.kept

pub returns-clause-passed : goal.returns-clause-passed
returns-clause-passed g c =
    let size : length (knows c.args.self.now) ≤ c.len-count.result = omega (arith, length-map c.args.self.now.inboxes.items known_of, c.args.self.now.inboxes.ok.0, c.len-count.ensures) in
    none_before_around (knows c.args.self.now) (knows c.take_between.new.self) (next_inbox c.args.self.now) c.len-count.result c.take_between-2.result size c.in_default.ensures.knew c.in_default.ensures.kept c.take_between-2.ensures.place c.take_between-2.ensures.passed
