-- The last of the nodes that wait.
use Rattle.std.proofs.Common.{◌≡◌, ℕ, zero, suc, ◌≤◌, refl, ap, arith}
use Rattle.drafts.specs.Tree.{Nodes, none, ◌▸◌, many, last_of}

pub many_last : (k : ℕ) (ns : Nodes) → k ≤ many ns → many (last_of k ns) ≡ k
many_last zero ns h = refl
many_last (suc k) none h = absurd (omega arith)
many_last (suc k) (ns ▸ n) h = ap suc (many_last k ns (omega arith))
