use Rattle.std.proofs.Common.{◌≡◌, ℕ, Ok, refl, sym, ap, ◌∙◌, inl, arith}
use Rattle.std.proofs.lemmas.Iterator.Consumers.{count_from_yields_List, YieldsList-from_first}
use Rattle.drafts.specs.Tree.{Nodes, Spanned, many, waiting}
use Rattle.drafts.specs.Walk.{subtree, left}
use Rattle.drafts.proofs.Back.{length-back, back_few}
use Rattle.drafts.proofs.Standing.{spanned}
use Rattle.drafts.proofs.Leaving.{checked_ok}
use Rattle.drafts.proofs.lines.line_count.Goals as goal

pub invariant_of-lines : goal.invariant_of-lines
invariant_of-lines c =
    let ok = checked_ok c.args.file.now _ c.args.table.now _ (sym c.in_ok-check.ensures) in
    let whole : Spanned c.args.file.now c.args.table.now c.from.result =
    rw c.from.ensures (spanned c.args.file.now c.args.table.now _ ok.sound_so_far) in
    record { spanned = whole; within = omega (arith, c.from.ensures, ok.within) }

pub count-requires-clause-fits : goal.count-requires-clause-fits
count-requires-clause-fits c =
    inl (omega (arith, back_few (record { file = c.args.file; records = c.args.table }) c.from.result, c.from.type_inv))

pub returns-clause-count : goal.returns-clause-count
returns-clause-count c =
    let n = c.args.draft.now.nodes in
    let ns : Nodes = waiting c.args.file.now c.args.table.now n in
    let counted = count_from_yields_List _ c.count.result c.count.ensures.ran (YieldsList-from_first subtree left _ refl) in
    let all : c.count.result ≡ many ns =
    counted ∙ length-back (waiting c.args.file.now c.args.table.now c.from.result) ∙ ap (λ (k : ℕ). many (waiting c.args.file.now c.args.table.now k)) c.from.ensures in
    rw (← c.in_ok-check.ensures) (ap Ok all)
