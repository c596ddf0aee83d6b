use Rattle.std.proofs.Common.{[], refl, arith, le-leb}
use Rattle.drafts.specs.Tree.{many, waits}
use Rattle.drafts.specs.Walk.{last_nodes}
use Rattle.drafts.proofs.Walks.{many_last}
use Rattle.drafts.proofs.Fitting.{fits_nothing}
use Rattle.drafts.proofs.row.Children.allow.Goals as goal

pub returns-in-Leaf : goal.returns-in-Leaf
returns-in-Leaf c =
    let l = c.args.nodes in
    let all = many_last l.count (waits l.waiting.source l.waiting.end) l.enough in
    rw (c.in-Leaf.is, le-leb 0 (many (last_nodes l)) (omega arith)) (fits_nothing [] c.args.detail l.count (last_nodes l) refl all)

pub returns-then-nodes-ge2 : goal.returns-then-nodes-ge2
returns-then-nodes-ge2 c =
    let l = c.args.nodes in
    let all = many_last l.count (waits l.waiting.source l.waiting.end) l.enough in
    rw (c.in-AtLeastTwo.is, le-leb 2 (many (last_nodes l)) (omega (arith, all, c.if-nodes-ge2.true))) c.fit-then-nodes-ge2.ensures
