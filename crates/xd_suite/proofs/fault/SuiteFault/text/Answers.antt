use Rattle.std.proofs.Common.{ap, ◌∙◌}
use Rattle.std.specs.Str.{encode_utf8_all}
use Rattle.std.proofs.lemmas.Str.{encodes-chars, IsUtf8-string_bytes}
use Rattle.xd_suite.proofs.fault.SuiteFault.text.Goals as goal

pub returns : goal.returns
returns c = ap encode_utf8_all c.from_string.ensures ∙ encodes-chars _ (IsUtf8-string_bytes c.in_ok-text.text) ∙ c.in_ok-text.ensures
