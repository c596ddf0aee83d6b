use Rattle.std.proofs.Common.{sym, ap}
use Rattle.tables.specs.Order.{listed}
use Rattle.known_globals.specs.Properties.{known_properties}
use Rattle.known_globals.proofs.Rows.{under_none}
use Rattle.known_globals.proofs.properties.is_known_global_property.Goals as goal

pub returns-in_default : goal.returns-in_default
unfolding known_properties
returns-in_default c =
    let w = c.in_default in
    sym (ap (λ row. listed row c.args.property.now) (under_none known_properties c.args.global.now
    (w.not-Math, (w.not-Number, (w.not-console, (w.not-Object, (w.not-Reflect, (w.not-Symbol, (w.not-JSON, tt)))))))))
