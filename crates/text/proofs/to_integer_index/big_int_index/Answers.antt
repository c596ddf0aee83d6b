use Rattle.std.proofs.Common.{◌∙◌, true≢false, arith, sym}
use Rattle.std.proofs.lemmas.Str.Pattern.{starts_char}
use Rattle.text.proofs.DigitIndices.{digits_index_is}
use Rattle.text.proofs.to_integer_index.big_int_index.Goals as goal

pub returns : goal.returns
returns c =
    let bs = c.args.text.now in
    let plus = starts_char 43 bs c.starts_with.result c.starts_with.ensures.cases (omega arith) (omega arith) in
    c.ok.ensures.value ∙ digits_index_is bs c.parse.result c.parse.ensures.value.0 (λ e. true≢false (sym (plus.1 e) ∙ c.if-starts_with.false))
