use Rattle.std.proofs.Common.{rules, arith}
use Rattle.drafts.specs.Table.{shape_of}
use Rattle.drafts.proofs.Entering.{refuses_text, refuses_few, refuses_children, refuses_full, accepts}
use Rattle.drafts.proofs.waiting.Waiting.accept.Goals as goal

pub returns-then-not-allows : goal.returns-then-not-allows
returns-then-not-allows c =
    let s = c.args.self.source in
    let n = c.in_ok-node.node in
    let e = refuses_text s.file.now s.records.now c.args.self.end c.args.place c.in_ok-node.next n.kind n.detail n.count n.reference n.text.now
    (shape_of c.in-Some.field-0) c.in_ok-node.ensures c.in-Some.ensures c.if-node.false c.if-not-allows.ensures in search rules

pub returns-in_default-last : goal.returns-in_default-last
returns-in_default-last c =
    let s = c.args.self.source in
    let n = c.in_ok-node.node in
    let e = refuses_few s.file.now s.records.now c.args.self.end c.args.place c.in_ok-node.next n.kind n.detail n.count n.reference n.text.now
    (shape_of c.in-Some.field-0) c.in_ok-node.ensures c.in-Some.ensures c.if-node.false c.if-not-allows.ensures c.in_default-last.ensures in search rules

pub returns-then-not-allow : goal.returns-then-not-allow
returns-then-not-allow c =
    let s = c.args.self.source in
    let n = c.in_ok-node.node in
    let last = c.in-Some-last.ensures in
    let e = refuses_children s.file.now s.records.now c.args.self.end c.args.place c.in_ok-node.next n.kind n.detail n.count n.reference n.text.now
    (shape_of c.in-Some.field-0) c.in_ok-node.ensures c.in-Some.ensures c.if-node.false c.if-not-allows.ensures last.enough
    (rw (← last.nodes) c.if-not-allow.ensures) in search rules

pub returns-then-self-from : goal.returns-then-self-from
returns-then-self-from c =
    let s = c.args.self.source in
    let n = c.in_ok-node.node in
    let last = c.in-Some-last.ensures in
    let e = refuses_full s.file.now s.records.now c.args.self.end c.args.place c.in_ok-node.next n.kind n.detail n.count n.reference n.text.now
    (shape_of c.in-Some.field-0) c.in_ok-node.ensures c.in-Some.ensures c.if-node.false c.if-not-allows.ensures last.enough
    (rw (← last.nodes) c.if-not-allow.ensures) (omega arith) in search rules

pub returns : goal.returns
returns c =
    let s = c.args.self.source in
    let n = c.in_ok-node.node in
    let last = c.in-Some-last.ensures in
    accepts s.file.now s.records.now c.args.self.end c.args.place c.in_ok-node.next n.kind n.detail n.count n.reference n.text.now
    (shape_of c.in-Some.field-0) c.in_ok-node.ensures c.in-Some.ensures c.if-node.false c.if-not-allows.ensures last.enough
    (rw (← last.nodes) c.if-not-allow.ensures) c.in-Some-last.start (omega arith) last.start
