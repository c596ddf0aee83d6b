use Rattle.std.proofs.Common.{ap, ◌∙◌}
use Rattle.hosts.specs.NameMeaning.{names_in}
use Rattle.hosts.proofs.Naming.{declared_list}
use Rattle.hosts.proofs.declared_names.DeclaredNames.new.Goals as goal

pub returns : goal.returns
returns c = ap (names_in c.args.end) c.new.ensures ∙ declared_list c.args.file.now c.args.end
