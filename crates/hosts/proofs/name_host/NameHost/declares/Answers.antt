use Rattle.std.proofs.Common.{◌∙◌, rules, tests}
use Rattle.std.specs.Str.{bytes_eq}
use Rattle.std.proofs.lemmas.Iterator.Consumers.{YieldsList-from_first}
use Rattle.std.proofs.lemmas.Iterator.Search.{any_from_yields_List}
use Rattle.hosts.specs.NameMeaning.{names_left}
use Rattle.hosts.proofs.Naming.{listed_any}
use Rattle.hosts.proofs.name_host.NameHost.declares.Goals as goal

pub returns : goal.returns
returns c =
    any_from_yields_List (λ x. bytes_eq x c.args.name.now) c.any.new.self _ _ c.any.ensures.ran (YieldsList-from_first (λ y. y.now) names_left _ c.new.ensures)
    (λ x b q k. search (rules, tests))
    ∙ listed_any _ c.args.name.now
