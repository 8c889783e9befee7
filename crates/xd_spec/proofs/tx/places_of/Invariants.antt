use Rattle.std.proofs.Common.{◌≡◌, [], map, drop}
use Rattle.std.specs.Prelude.{Ok}
use Rattle.std.specs.Str.{encode_utf8_all}
use Rattle.xd_spec.specs.Tx.{with_words}
use Rattle.xd_spec.proofs.tx.places_of.Given as goal

abbrev pub invariant-loop-text : goal.invariant-loop-text
invariant-loop-text l = with_words (Ok []) (map encode_utf8_all l.texts) ≡ with_words (Ok l.places.items) (map encode_utf8_all (drop l.text-index l.texts))
