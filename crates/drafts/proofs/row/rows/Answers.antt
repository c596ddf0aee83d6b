use Rattle.std.proofs.Common.{refl}
use Rattle.drafts.specs.Table.{rows}
use Rattle.drafts.proofs.row.rows.Goals as goal

pub returns : goal.returns
unfolding rows
returns c = refl
