use Rattle.std.proofs.Common.{◌≡◌, ◌≤◌}
use Rattle.drafts.specs.Tree.{waits, many, before_of}
use Rattle.drafts.proofs.waiting.Waiting.last.Given as goal

-- the walk went back over so many nodes
abbrev pub invariant-loop : goal.invariant-loop
invariant-loop l =
    (l.counter ≤ many (waits l.self.source l.self.end)) × (before_of l.counter (waits l.self.source l.self.end) ≡ waits l.before.source l.before.end)
