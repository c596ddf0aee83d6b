use Rattle.std.proofs.Common.{ap, ◌∙◌, rules}
use Rattle.hosts.specs.Scopes.{highest}
use Rattle.hosts.proofs.Records.{highest_last}
use Rattle.hosts.proofs.scope_table.ScopeTable.top.Goals as goal

pub returns : goal.returns
returns c =
    highest_last c.deref.result.now c.last.result c.map_or.result c.last.ensures.item.0 c.last.ensures.item.1 (search rules)
    ∙ ap highest c.deref.ensures.value
