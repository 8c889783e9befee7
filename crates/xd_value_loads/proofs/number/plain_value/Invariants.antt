use Rattle.std.proofs.Common.{◌≡◌, ◌≤◌, drop}
use Rattle.std.specs.Str.{all_ascii_digits}
use Rattle.std.specs.Str.Parse.{digits_value_after}
use Rattle.xd_value_loads.proofs.number.plain_value.Given as goal

abbrev pub invariant-loop-b : goal.invariant-loop-b
invariant-loop-b l =
    record {
      digits : all_ascii_digits l.digits ≡ all_ascii_digits (drop l.b-index l.digits);
      value : digits_value_after 10 0 l.digits ≡ digits_value_after 10 l.n (drop l.b-index l.digits);
      small : l.n ≤ l.most;
    }
