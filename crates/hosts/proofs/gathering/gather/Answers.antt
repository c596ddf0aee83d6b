use Rattle.std.proofs.Common.{refl, ap}
use Rattle.packed.specs.Listing.{fields_left}
use Rattle.hosts.specs.Gathering.{begun, host_takes}
use Rattle.hosts.proofs.Gatherings.{gathers_all}
use Rattle.hosts.proofs.gathering.gather.Goals as goal

pub loop-field-init : goal.loop-field-init
loop-field-init g c =
    let all = gathers_all (host_takes (g.G.Gathers.takes c.args.host.now)) c.args.file.now (begun (g.G.Gathers.records c.args.host.now)) in
    let first = ap fields_left c.into_iter-field-iterator.ensures.into_iter_gives in
    record { same = refl; left = cc }
