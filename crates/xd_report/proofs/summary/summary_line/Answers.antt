use Rattle.std.proofs.Common.{ap, ◌∙◌}
use Rattle.std.specs.Str.{encode_utf8_all}
use Rattle.std.proofs.lemmas.Str.{encodes-chars, IsUtf8-string_bytes}
use Rattle.xd_report.specs.Summary.{summary_text}
use Rattle.xd_report.proofs.summary.summary_line.Goals as goal

pub returns : goal.returns
returns c =
    ap encode_utf8_all c.from_string.ensures ∙ encodes-chars _ (IsUtf8-string_bytes c.in_ok-line.line) ∙ c.in_ok-line.ensures
    ∙ ap summary_text c.in_ok-counts.ensures
