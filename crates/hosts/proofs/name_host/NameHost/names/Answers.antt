use Rattle.std.proofs.Common.{length, inl, ap, arith}
use Rattle.hosts.proofs.Naming.{few_names}
use Rattle.hosts.proofs.name_host.NameHost.names.Goals as goal

pub count-requires-clause-fits : goal.count-requires-clause-fits
count-requires-clause-fits c =
    let host = c.args.self.now in
    let few = few_names host.file.now host.end (length host.file.now) 0 in
    inl (omega (arith, ap length c.new.ensures))
