use Rattle.std.proofs.Common.{rules}
use Rattle.text.proofs.Bounds.{number_bits_from, literal_answer}
use Rattle.text.proofs.number.literal_of.Goals as goal

pub then-requires : goal.then-requires
then-requires c = search (rules, number_bits_from)

pub returns : goal.returns
returns c = literal_answer c.args.bits c.then.result c.then.ensures.variant (search rules)
