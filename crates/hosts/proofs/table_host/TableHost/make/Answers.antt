use Rattle.std.proofs.Common.{vec_capacity}
use Rattle.hosts.specs.Gathering.{table_takes}
use Rattle.hosts.proofs.Makings.{table_faithful, made_by_fields}
use Rattle.hosts.proofs.table_host.TableHost.make.Goals as goal

pub returns-clause-told : goal.returns-clause-told
returns-clause-told c = let limit = vec_capacity c.args.memory in made_by_fields (table_takes limit) (table_faithful limit) c.args.file.now
