use Rattle.std.proofs.Common.{◌≡◌, ◌∙◌, rules, Ok}
use Rattle.xd_value.specs.Reading.{put_one}
use Rattle.xd_value.specs.View.{view}
use Rattle.xd_value_loads.specs.inner.Seats.{cell_of, seat, dict_cell}
use Rattle.xd_value.specs.declared.value.Value.{the_lemmas}
use Rattle.xd_value.proofs.Walks.{view-Dict}
use Rattle.xd_value_loads.proofs.putting.put_into.Goals as goal

pub returns-in_err-put_pair-in-Dict-clause-gives : goal.returns-in_err-put_pair-in-Dict-clause-gives
returns-in_err-put_pair-in-Dict-clause-gives c = rw (c.in-Dict.is, view-Dict c.in-Dict.pairs) (search rules)

pub returns-in_ok-put_pair-in-Dict-clause-gives : goal.returns-in_ok-put_pair-in-Dict-clause-gives
returns-in_ok-put_pair-in-Dict-clause-gives c =
    let done : put_one (cell_of (seat c.args.value c.args.value_mark.now)) (cell_of (seat c.args.key c.args.key_mark.now)) (view c.args.target.now) c.args.mark.now.missing ≡ Ok (dict_cell c.put_pair.new.pairs c.put_pair.new.mark.missing) = rw (c.in-Dict.is, view-Dict c.in-Dict.pairs) (search rules) in
    done ∙ search (rules, the_lemmas)
