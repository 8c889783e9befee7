use Rattle.std.proofs.Common.{Some, sym, arith}
use Rattle.std.proofs.lemmas.Map.Text.{btree_map_updates_str}
use Rattle.xd_scope.proofs.Grouped.{found-step, new-step, place-fits}
use Rattle.xd_scope.proofs.groups.add.Goals as goal

pub add_test-requires : goal.add_test-requires
add_test-requires c = place-fits c.requires.0 c.args.places.now c.args.units.now.items c.args.scope.now c.in-Some.place c.utf8.scope c.requires.1 (sym c.in-Some.ensures)

pub returns-in_ok-add_test-in-Some : goal.returns-in_ok-add_test-in-Some
returns-in_ok-add_test-in-Some c = λ gs a.
    found-step gs c.args.places.now c.args.units.now.items c.add_test.new.units.items c.args.scope.now c.args.test c.in-Some.place c.utf8.scope a (sym c.in-Some.ensures) c.in_ok-add_test-in-Some.ensures

pub returns-in_ok-add_unit-in-None : goal.returns-in_ok-add_unit-in-None
returns-in_ok-add_unit-in-None c = λ gs a.
    new-step gs c.args.places.now c.insert.new.self c.args.units.now.items c.add_unit.new.units.items c.args.scope.now c.args.test c.len.result c.utf8.scope a (sym c.in-None.ensures)
    (omega (arith, c.len.ensures, c.args.units.now.ok))
    (btree_map_updates_str c.args.scope.now c.args.places.now c.insert.new.self (Some c.len.result) c.in_ok-insert-in-None.ensures.updates)
    c.in_ok-add_unit-in-None.ensures
