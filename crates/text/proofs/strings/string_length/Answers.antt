use Rattle.std.proofs.Common.{◌∙◌, ◌<◌, ◌^◌, rules, tests, arith}
use Rattle.std.specs.Str.{chars}
use Rattle.std.specs.List.{sum_by}
use Rattle.std.proofs.lemmas.Iterator.{YieldsList-from_chars, YieldsList-from_map}
use Rattle.std.proofs.lemmas.Iterator.Consumers.{sum_by_from_yields_List, fits_by_from_yields_list}
use Rattle.text.proofs.Units.{units, units_are, sum_units, units_bytes}
use Rattle.text.proofs.strings.string_length.Goals as goal

pub sum-requires-clause-fits : goal.sum-requires-clause-fits
sum-requires-clause-fits c =
    let whole = units_bytes c.args.text.now c.utf8.text in
    let sum = sum_units (chars c.args.text.now) in
    let fits : sum_by units (chars c.args.text.now) < 2 ^ 64 = omega arith in
    fits_by_from_yields_list units (chars c.args.text.now) c.map.result _
    (YieldsList-from_map _ units (YieldsList-from_chars c.args.text.now c.utf8.text (cc)) c.map.ensures.closure (λ x r q k. search (rules, tests, units_are))) fits

pub returns : goal.returns
returns c =
    sum_by_from_yields_List units (chars c.args.text.now) c.map.result _ c.sum.ensures.ran
    (YieldsList-from_map _ units (YieldsList-from_chars c.args.text.now c.utf8.text (cc)) c.map.ensures.closure (λ x r q k. search (rules, tests, units_are)))
    ∙ sum_units (chars c.args.text.now)
