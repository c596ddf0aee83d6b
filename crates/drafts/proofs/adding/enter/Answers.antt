use Rattle.std.proofs.Common.{rules, sym, arith}
use Rattle.drafts.specs.Tree.{Spanned}
use Rattle.drafts.proofs.Entering.{accepted_taken}
use Rattle.drafts.proofs.Standing.{spanned}
use Rattle.drafts.proofs.adding.enter.Goals as goal

pub invariant_of-waiting : goal.invariant_of-waiting
invariant_of-waiting c =
    let whole : Spanned c.args.file.now c.args.table.now c.from-used.result =
    rw c.from-used.ensures (spanned c.args.file.now c.args.table.now c.args.draft.now.nodes c.requires.sound) in
    record { spanned = whole; within = omega (arith, c.from-used.ensures, c.requires.within) }

pub overflow_add-draft : goal.overflow_add-draft
overflow_add-draft c =
    let few = (accepted_taken c.args.file.now c.args.table.now c.from-used.result c.args.place _ (sym c.in_ok-made.ensures)).few in
    search rules
