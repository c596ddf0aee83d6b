use Rattle.hosts.specs.Gathering.{name_takes}
use Rattle.hosts.proofs.Makings.{name_faithful, made_by_fields}
use Rattle.hosts.proofs.name_host.NameHost.make.Goals as goal

pub returns-clause-told : goal.returns-clause-told
returns-clause-told c = made_by_fields name_takes name_faithful c.args.file.now
