use Rattle.std.proofs.Common.{arith}
use Rattle.tables.proofs.Ascent.{below_more, above_more, position_found, position_missing, located}
use Rattle.tables.proofs.search.find.Goals as goal

pub loop-low-preserved-in-Less : goal.loop-low-preserved-in-Less
loop-low-preserved-in-Less g c =
    let ks = g.T.Ascending.keys c.args.table.now in
    let up = g.met.T.Ascending.ascent c.args.table.now in
    let k = g.T.OrderedTable.sought c.args.key in
    (c.loop-low.invariant.0, below_more ks up k _ (omega arith) c.in-Less.ensures, c.loop-low.invariant.2)

pub loop-low-preserved : goal.loop-low-preserved
loop-low-preserved g c =
    let ks = g.T.Ascending.keys c.args.table.now in
    let up = g.met.T.Ascending.ascent c.args.table.now in
    let k = g.T.OrderedTable.sought c.args.key in
    (omega arith, c.loop-low.invariant.1, above_more ks up k _ (omega arith) c.in-Greater.ensures)

pub returns-in-Equal : goal.returns-in-Equal
returns-in-Equal g c =
    let ks = g.T.Ascending.keys c.args.table.now in
    let up = g.met.T.Ascending.ascent c.args.table.now in
    let k = g.T.OrderedTable.sought c.args.key in
    let here = position_found ks up k _ (omega arith) c.in-Equal.ensures in
    record { value = here; located = located ks up k _ here }

pub returns : goal.returns
returns g c =
    let ks = g.T.Ascending.keys c.args.table.now in
    let up = g.met.T.Ascending.ascent c.args.table.now in
    let k = g.T.OrderedTable.sought c.args.key in
    let nowhere = position_missing ks k c.loop-low.low c.loop-low.high c.loop-low-test.false c.loop-low.invariant.1 c.loop-low.invariant.2 in
    record { value = nowhere; located = located ks up k _ nowhere }
