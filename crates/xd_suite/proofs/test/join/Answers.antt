use Rattle.std.proofs.Common.{◌≡◌, ◌∷◌, ◌++◌, ◌∙◌, string_bytes, rules}
use Rattle.std.specs.Str.{encode_utf8_all}
use Rattle.std.proofs.lemmas.Str.{IsUtf8-string_bytes}
use Rattle.xd_suite.proofs.Texts.{joined}
use Rattle.xd_suite.proofs.test.join.Goals as goal

pub returns : goal.returns
returns c =
    let is : string_bytes c.in_ok-text.text ≡ encode_utf8_all c.args.id.now ++ 64 ∷ encode_utf8_all c.args.group.now = search rules in
    c.from_string.ensures ∙ joined c.args.id.now c.args.group.now _ (IsUtf8-string_bytes c.in_ok-text.text) is
