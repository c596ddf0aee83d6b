use Rattle.std.proofs.Common.{Option, ap, ◌∙◌, rules, tests}
use Rattle.std.specs.Option.{unwrap_or}
use Rattle.std.proofs.lemmas.Iterator.Consumers.{YieldsList-from_first}
use Rattle.packed.specs.Listing.{said_field, fields_left}
use Rattle.marking.specs.declared.choice.HostKind.{HostKind}
use Rattle.marking.specs.declared.choice.HostKind.TheVariants.{Table}
use Rattle.marking.proofs.Finding.{found_first}
use Rattle.marking.proofs.Deciding.{decision, kind_listed}
use Rattle.marking.proofs.choice.host_kind.Goals as goal

pub returns : goal.returns
returns c =
    let found = found_first (YieldsList-from_first said_field fields_left _ c.new.ensures) _ decision (λ x o q k. search (rules, tests)) c.find_map.result c.find_map.ensures.runs in
    c.unwrap_or.ensures ∙ ap (λ (o : Option HostKind). unwrap_or o Table) found ∙ kind_listed c.args.file.now
