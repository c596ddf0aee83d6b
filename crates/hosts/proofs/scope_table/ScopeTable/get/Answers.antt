use Rattle.std.proofs.Common.{[], ◌∷◌, vec_items, arith, rules}
use Rattle.std.proofs.lemmas.List.{length-map}
use Rattle.packed.specs.declared.field.Scope.{Scope}
use Rattle.hosts.specs.Scopes.{scope_keys}
use Rattle.tables.proofs.Ascent.{position_within}
use Rattle.hosts.proofs.Records.{lookup_found, lookup_none}
use Rattle.hosts.proofs.scope_table.ScopeTable.get.Goals as goal

pub index-requires : goal.index-requires
index-requires c =
    let v = c.args.self.now.records in
    omega (arith, position_within (scope_keys (vec_items v)) (c.args.reference ∷ []) c.in_ok-i.i c.in_ok-i.ensures.value, length-map (vec_items v) (λ (x : Scope). x.reference ∷ []), v.ok.0)

pub returns-in_err-i : goal.returns-in_err-i
returns-in_err-i c =
    let none = lookup_none (vec_items c.args.self.now.records) c.args.reference c.in_err-i.ensures.value in
    search rules

pub returns : goal.returns
returns c =
    lookup_found (vec_items c.args.self.now.records) c.args.reference c.in_ok-i.i c.index.result.now c.in_ok-i.ensures.value c.index.ensures
