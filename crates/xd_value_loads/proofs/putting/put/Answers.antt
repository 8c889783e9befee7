use Rattle.std.proofs.Common.{◌-◌, arith, rules}
use Rattle.std.proofs.lemmas.Result.{err_from_is_err_and}
use Rattle.xd_value_loads.proofs.Seats.{none_there, one_there, two_there, fits_last, put_in_place, put_refused, put_seats}
use Rattle.xd_value_loads.proofs.putting.put.Goals as goal

pub returns-in_default-clause-gives : goal.returns-in_default-clause-gives
returns-in_default-clause-gives c = none_there _ c.in_default.ensures.cells

pub returns-in_default-pop-clause-gives : goal.returns-in_default-pop-clause-gives
returns-in_default-pop-clause-gives c = one_there _ _ _ c.in-Some.ensures.cells c.in_default-pop.ensures.cells

pub returns-then-below-eq0-clause-gives : goal.returns-then-below-eq0-clause-gives
returns-then-below-eq0-clause-gives c = two_there _ _ _ _ c.pop-2.new.self.values.items c.pop-2.new.self.marks.items c.in-Some.ensures.cells c.in-Some-pop.ensures.cells (omega (arith, c.if-below-eq0.true))

pub put_into-requires-clause-target : goal.put_into-requires-clause-target
put_into-requires-clause-target c = fits_last c.pop-2.new.self.values.items c.pop-2.new.self.marks.items (c.len-below.result - 1) c.index_mut.result.now c.index_mut-2.result.now c.pop-2.ensures.stack (omega (arith, c.if-below-eq0.false)) (search rules) (search rules)

pub returns-in_err-put_into-clause-gives : goal.returns-in_err-put_into-clause-gives
returns-in_err-put_into-clause-gives c =
    let refused = put_refused _ _ _ _ c.pop-2.new.self.values.items c.pop-2.new.self.marks.items (c.len-below.result - 1) c.index_mut.result.now c.index_mut-2.result.now _ c.in-Some.ensures.cells c.in-Some-pop.ensures.cells c.pop-2.ensures.stack (omega (arith, c.if-below-eq0.false)) (search rules) (search rules) c.in_err-put_into.ensures.gives in
    let failed = err_from_is_err_and c.from_residual.result c.from_residual.ensures.1 in
    rw (failed.1, failed.2) refused

pub returns-clause-gives : goal.returns-clause-gives
returns-clause-gives c = put_in_place _ _ _ _ c.pop-2.new.self.values.items c.pop-2.new.self.marks.items (c.len-below.result - 1) c.index_mut.result.now c.put_into.new.target c.index_mut-2.result.now c.put_into.new.mark c.in-Some.ensures.cells c.in-Some-pop.ensures.cells c.pop-2.ensures.stack (omega (arith, c.if-below-eq0.false)) (search rules) (search rules) c.in_ok-put_into.ensures.gives

pub returns-clause-stack : goal.returns-clause-stack
returns-clause-stack c = put_seats c.pop-2.new.self.values.items c.pop-2.new.self.marks.items (c.len-below.result - 1) c.put_into.new.target c.put_into.new.mark c.pop-2.ensures.stack c.in_ok-put_into.ensures.target
