use Rattle.std.proofs.Common.{◌≡◌, ℕ, ◌-◌, ◌<◌, ◌≤◌, [], length, get_or, Less, Greater}
use Rattle.tables.specs.Order.{order}
use Rattle.tables.proofs.search.find.Given as goal

-- what lies before `low` is below the key, and what lies from `high` on is above it
abbrev pub invariant-loop-low : goal.invariant-loop-low
invariant-loop-low g l =
    let t = g.T.OrderedTable in
    let a = g.T.Ascending in
    (l.high ≤ length (a.keys l.table))
    × ((i : ℕ) → i < l.low → order (get_or (a.keys l.table) i []) (t.sought l.key) ≡ Less)
    × ((i : ℕ) → l.high ≤ i → i < length (a.keys l.table) → order (get_or (a.keys l.table) i []) (t.sought l.key) ≡ Greater)

abbrev pub decreases-loop-low : goal.decreases-loop-low
decreases-loop-low g l = l.high - l.low
