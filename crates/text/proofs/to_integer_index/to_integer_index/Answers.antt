use Rattle.std.proofs.Common.{◌∙◌}
use Rattle.text.proofs.FloatIndices.{holds, float_not_nan, index_tested}
use Rattle.text.proofs.to_integer_index.to_integer_index.Goals as goal

pub float_to_bits-from : goal.float_to_bits-from
float_to_bits-from c = float_not_nan c.saturating_f64_to_u32-n.result c.from.result c.saturating_f64_to_u32-n.type_inv c.from.ensures

pub returns : goal.returns
returns c =
    c.then_some.ensures
    ∙ index_tested c.args.x c.from.result c.saturating_f64_to_u32-n.result (holds _ c.well_formed.0.1) (holds _ c.from.type_inv)
    c.saturating_f64_to_u32-n.type_inv c.saturating_f64_to_u32-n.ensures c.from.ensures
