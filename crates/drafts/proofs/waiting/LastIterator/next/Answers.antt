use Rattle.std.proofs.Common.{rules, length, ap, arith}
use Rattle.drafts.specs.Tree.{many, waits}
use Rattle.drafts.proofs.Back.{some_back, last_step}
use Rattle.drafts.proofs.waiting.LastIterator.next.Goals as goal

pub invariant_of-self : goal.invariant_of-self
invariant_of-self c =
    let l = c.args.self.now in
    let rest = c.next.new.self in
    let k = c.in_ok-count.ensures in
    record { enough = omega (arith, l.enough, k, ap many (some_back (waits l.waiting.source l.waiting.end) (waits rest.source rest.end) _ c.in_ok-node.ensures.steps)) }

pub returns-clause-steps : goal.returns-clause-steps
returns-clause-steps c =
    let l = c.args.self.now in
    let rest = c.next.new.self in
    let k = c.in_ok-count.ensures in
    rw k.1 (last_step l.count (waits l.waiting.source l.waiting.end) (waits rest.source rest.end) _ k.0 c.in_ok-node.ensures.steps)

pub returns-clause-goes : goal.returns-clause-goes
returns-clause-goes c =
    let l = c.args.self.now in
    let rest = c.next.new.self in
    let k = c.in_ok-count.ensures in
    let shorter = ap length (last_step l.count (waits l.waiting.source l.waiting.end) (waits rest.source rest.end) _ k.0 c.in_ok-node.ensures.steps) in search rules
