use Rattle.std.proofs.Common.{rules}
use Rattle.drafts.specs.Added.{stands}
use Rattle.drafts.proofs.waiting.Waiting.stands.Goals as goal

pub returns : goal.returns
unfolding stands
returns c = let e = c.is_ok_and.ensures in search rules
