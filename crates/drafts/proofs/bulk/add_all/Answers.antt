use Rattle.std.proofs.Common.{rules, arith}
use Rattle.drafts.specs.Bulk.{ended}
use Rattle.drafts.proofs.Bulks.{long_stops, add_stops, add_moves}
use Rattle.drafts.proofs.bulk.add_all.Goals as goal

pub returns-then-file-gt-MAX_FILE : goal.returns-then-file-gt-MAX_FILE
returns-then-file-gt-MAX_FILE c = rw c.requires (long_stops c.args.file.now c.args.table.now c.args.place.now c.if-file-gt-MAX_FILE.true)

pub returns-in_err-place : goal.returns-in_err-place
returns-in_err-place c =
    let l = c.loop-place in
    let e = c.in_err-place.ensures in
    let stops = add_stops c.args.file.now l.draft.nodes l.table l.place c.loop-place-test.true c.enter.new.table c.enter.new.draft.nodes _ e.answers e.table e.draft in
    let all = l.invariant.3 _ _ _ _ stops in search rules

pub loop-place-smaller : goal.loop-place-smaller
loop-place-smaller c =
    let l = c.loop-place in
    let a = c.in_ok-place.ensures in
    let m = add_moves c.args.file.now l.draft.nodes l.table l.place c.loop-place-test.true c.enter.new.table c.enter.new.draft.nodes c.in_ok-place.field-0 a.answers a.table a.draft in
    omega (arith, m.on, m.inside)

pub loop-place-preserved : goal.loop-place-preserved
loop-place-preserved c =
    let l = c.loop-place in
    let a = c.in_ok-place.ensures in
    let m = add_moves c.args.file.now l.draft.nodes l.table l.place c.loop-place-test.true c.enter.new.table c.enter.new.draft.nodes c.in_ok-place.field-0 a.answers a.table a.draft in
    (l.invariant.0, m.within, m.still, λ k new q stop w. l.invariant.3 k new q stop (m.so k new q stop w))

pub returns : goal.returns
returns c = c.loop-place.invariant.3 _ _ _ _ (ended _ _ _ c.loop-place.invariant.0 c.loop-place-test.false)
