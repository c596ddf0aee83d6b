use Rattle.std.proofs.Common.{◌≡◌, ◌≤◌, length}
use Rattle.drafts.specs.Grammar.{fits}
use Rattle.drafts.specs.Walk.{last_nodes}
use Rattle.drafts.proofs.Fitting.{tried}
use Rattle.drafts.proofs.waiting.Last.+fit.Given as goal

-- what is left to try decides
abbrev pub invariant-loop-taken : goal.invariant-loop-taken
invariant-loop-taken l = record {
  decides : fits l.items l.detail (last_nodes l.self) ≡ tried l.set l.detail (fits l.before l.detail) l.least l.taken-end l.taken (last_nodes l.rest);
  in_order : l.least ≤ l.taken-end;
}

abbrev pub decreases-fit : goal.decreases-fit
decreases-fit l = length l.items.now
