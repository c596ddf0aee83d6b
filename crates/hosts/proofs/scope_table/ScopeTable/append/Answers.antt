use Rattle.std.proofs.Common.{vec_items, ap, ◌∙◌, arith}
use Rattle.std.proofs.lemmas.Bool.{lt-ltb}
use Rattle.tables.specs.Order.{ascends}
use Rattle.hosts.specs.Scopes.{scope_keys, highest}
use Rattle.hosts.proofs.Records.{ascends_push}
use Rattle.hosts.proofs.scope_table.ScopeTable.append.Goals as goal

pub invariant_of-self : goal.invariant_of-self
invariant_of-self c =
    let before = c.args.self.now in
    let scopes = vec_items before.records in record {
      ascent =
          ap (λ xs. ascends (scope_keys xs)) c.push_reserved.ensures.items
          ∙ ascends_push scopes c.args.scope before.ascent (lt-ltb (highest scopes) c.args.scope.reference (omega (arith, c.top.ensures)));
    }
