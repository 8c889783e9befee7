use Rattle.std.proofs.Common.{◌≡◌, take, string_bytes}
use Rattle.std.specs.Str.{encode_utf8_all}
use Rattle.xd_value_loads.proofs.plain.latin_text.Given as goal

abbrev pub invariant-loop-b : goal.invariant-loop-b
invariant-loop-b l = string_bytes l.text ≡ encode_utf8_all (take l.b-index l.bytes)
