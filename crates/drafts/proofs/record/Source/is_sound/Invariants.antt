use Rattle.std.proofs.Common.{◌≡◌, true}
use Rattle.drafts.specs.Added.{sound}
use Rattle.drafts.proofs.record.Source.is_sound.Given as goal

abbrev pub invariant-loop-node : goal.invariant-loop-node
invariant-loop-node l = sound l.self.file.now l.self.records.now l.node ≡ true
