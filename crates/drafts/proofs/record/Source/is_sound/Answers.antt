use Rattle.std.proofs.Common.{◌∙◌, ap, arith}
use Rattle.drafts.specs.Tree.{SpannedIn}
use Rattle.drafts.specs.Added.{stands}
use Rattle.drafts.proofs.Standing.{spanned, sound_not}
use Rattle.drafts.proofs.record.Source.is_sound.Goals as goal

pub invariant_of-before : goal.invariant_of-before
invariant_of-before c =
    let whole : SpannedIn c.args.self c.from.result =
    rw c.from.ensures (spanned c.args.self.file.now c.args.self.records.now c.loop-node.node c.loop-node.invariant) in
    record { spanned = whole; within = omega (arith, c.from.ensures) }

pub returns-then-not-stands : goal.returns-then-not-stands
returns-then-not-stands c =
    let s = c.args.self in
    sound_not s.file.now s.records.now c.args.used c.loop-node.node (omega arith)
    (c.if-not-stands.ensures ∙ ap (stands s.file.now s.records.now) c.from.ensures)
