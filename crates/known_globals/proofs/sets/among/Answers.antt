use Rattle.std.proofs.Common.{List, ℕ, ap, ◌∙◌, Bor, rules, tests}
use Rattle.std.proofs.lemmas.Iterator.{YieldsList-from_slice}
use Rattle.std.proofs.lemmas.Iterator.Search.{any_from_yields_List}
use Rattle.std.specs.List.{list_any}
use Rattle.std.specs.Str.{bytes_eq}
use Rattle.known_globals.proofs.Members.{any_listed}
use Rattle.known_globals.proofs.sets.among.Goals as goal

pub returns : goal.returns
returns c =
    let test = λ (t : Bor (List ℕ)). bytes_eq t.now c.args.name.now in
    any_from_yields_List {all = c.iter.result.rest.now} test _ _ _ c.any.ensures.ran (YieldsList-from_slice _ (cc)) (λ x b q k. search (rules, tests))
    ∙ ap (list_any test) c.iter.ensures.rest
    ∙ any_listed (λ t. t.now) c.args.names.now c.args.name.now
