-- Walks over the nodes that wait, from the last one back.
use Rattle.std.specs.Prelude.{◌≡◌, ℕ, ◌+◌, ◌≤◌, List, [], ◌∷◌}
use Rattle.drafts.specs.declared.waiting.Subtree.{Subtree}
use Rattle.drafts.specs.declared.waiting.Waiting.{Waiting}
use Rattle.drafts.specs.declared.waiting.Last.{Last}
use Rattle.drafts.specs.Tree.{Node, Nodes, none, ◌▸◌, many, sizes, last_of, waits, tree_in}

-- the nodes from the last one back
abbrev pub back : Nodes → List Node
back none = []
back (before ▸ n) = n ∷ back before

-- the tree of a node
abbrev pub subtree : Subtree → Node
subtree s = tree_in s.source s.index

-- what is left of a walk
abbrev pub left : Waiting → List Node
left w = back (waits w.source w.end)

abbrev pub last_nodes : Last → Nodes
last_nodes l = last_of l.count (waits l.waiting.source l.waiting.end)

abbrev pub last_left : Last → List Node
last_left l = back (last_nodes l)

-- the last `count` nodes, and where their subtrees begin
pub record LastOf (w : Waiting) (count : ℕ) (r : Last × ℕ) : Type 0 where
  pub enough : count ≤ many (waits w.source w.end)
  pub nodes : last_nodes r.0 ≡ last_of count (waits w.source w.end)
  pub start : r.1 + sizes (last_of count (waits w.source w.end)) ≡ w.end
