use Rattle.std.proofs.Common.{◌∙◌, ap}
use Rattle.xd_memory.specs.MemChildren.{all_told}
use Rattle.xd_memory.proofs.MemLemmas.{told_begun, told_refused, whole_begun}
use Rattle.xd_memory.proofs.mem_children.MemChildrenChildren.start.Goals as goal

pub returns-in_default-clause-failed : goal.returns-in_default-clause-failed
returns-in_default-clause-failed c = λ _.
    ap (all_told c.args.self.now.children.items) c.push_reserved.ensures.items
    ∙ told_refused c.args.self.now.children.items c.args.self.now.runs.items c.reserve.new.self.items _ c.args.args.now c.len.result c.in_ok-reserve.ensures.items c.in_ok-args_kept.ensures

pub returns-clause-running : goal.returns-clause-running
returns-clause-running c =
    ap (all_told c.args.self.now.children.items) c.push_reserved-2.ensures.items
    ∙ told_begun c.args.self.now.children.items c.args.self.now.runs.items c.reserve.new.self.items _ c.args.args.now c.in-Some.child c.in_ok-reserve.ensures.items c.in_ok-args_kept.ensures

pub returns-in_default-clause-same_whole : goal.returns-in_default-clause-same_whole
returns-in_default-clause-same_whole c = λ k low.
    whole_begun c.args.self.now.children.items k c.args.self.now.runs.items c.reserve.new.self.items c.push_reserved.new.self.items _ c.push_reserved.ensures.items c.in_ok-reserve.ensures.items low

pub returns-clause-same_whole : goal.returns-clause-same_whole
returns-clause-same_whole c = λ k low.
    whole_begun c.args.self.now.children.items k c.args.self.now.runs.items c.reserve.new.self.items c.push_reserved-2.new.self.items _ c.push_reserved-2.ensures.items c.in_ok-reserve.ensures.items low
