use Rattle.std.proofs.Common.{◌≡◌, length, IsUtf8, sym, ◌∙◌, rules}
use Rattle.std.specs.Str.{chars}
use Rattle.std.proofs.lemmas.Str.{chars_from_encodes, scalars-chars}
use Rattle.text.proofs.Units.{steps_are}
use Rattle.text.proofs.strings.iteration_steps.Goals as goal

pub returns : goal.returns
returns c =
    let text : IsUtf8 c.args.text.now = search rules in
    let count : c.count.result ≡ length (chars c.args.text.now) = search (rules, chars_from_encodes) in
    count ∙ sym (steps_are (chars c.args.text.now) (scalars-chars c.args.text.now text))
