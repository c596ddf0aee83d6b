-- What children a row allows.
use Rattle.std.specs.Prelude.{ℕ, ◌-◌, Bool, true, false, cond, ◌&&◌, ◌||◌, List, [], ◌∷◌, ◌==◌, nat_le, nat_lt}
use Rattle.drafts.specs.declared.row.Set.{Set}
use Rattle.drafts.specs.declared.row.Set.TheVariants.{Any, Exactly, Expression, Pattern, Statement, Target, Assigned, Element, PatternOrHole, Property, ClassElement, Link, Declarator}
use Rattle.drafts.specs.declared.row.Item.{Item}
use Rattle.drafts.specs.declared.row.Item.TheVariants.{One, Maybe, Many, AtLeastOne, If}
use Rattle.drafts.specs.Flags.{set_in}
use Rattle.drafts.specs.Kinds.{number_of}
use Rattle.drafts.specs.Tree.{Node, Nodes, node, none, ◌▸◌}

abbrev pub within : ℕ → ℕ → ℕ → Bool
within low high k = nat_le low k && nat_le k high

-- whether the first of the nodes has this kind
abbrev pub first_is : ℕ → Nodes → Bool
first_is k none = false
first_is k (none ▸ node h below) = h.kind == k
first_is k (before ▸ m ▸ n) = first_is k (before ▸ m)

-- what an update writes: an identifier, a member, or a TypeScript wrapper that is no instantiation
abbrev pub target : ℕ → ℕ → Bool
target k e = k == 1 || (within 18 20 k || (k == 15 && nat_lt e 4))

-- what a chain holds: a member, a call or a non-null assertion
abbrev pub link : ℕ → ℕ → Bool
link k e = within 18 20 k || ((k == 23 && e == 0) || (k == 15 && e == 3))

-- whether a node belongs to the set, as a child of a node of detail d
abbrev pub has : Set → ℕ → Node → Bool
has Any d (node h below) = true
has (Exactly kind) d (node h below) = h.kind == number_of kind
has Expression d (node h below) = within 1 25 h.kind
has Pattern d (node h below) = within 42 45 h.kind
has Statement d (node h below) = within 50 62 h.kind
has Target d (node h below) = target h.kind h.detail
has Assigned d (node h below) = target h.kind h.detail || h.kind == 38
has Element d (node h below) = within 1 25 h.kind || within 30 31 h.kind
has PatternOrHole d (node h below) = within 42 45 h.kind || h.kind == 31
has Property d (node h below) = within 32 33 h.kind
has ClassElement d (node h below) = within 34 37 h.kind
has Link d (node h below) = link h.kind h.detail
has Declarator d (node h below) = h.kind == 39 && (nat_lt d 3 || first_is 42 below)

-- the set of an item, and how many nodes of it there are, at least and at most, under a node of detail d;
-- a node has at most 65,535 children, so that bounds nothing
abbrev pub set_of : Item → Set
set_of (One s) = s
set_of (Maybe s) = s
set_of (Many s) = s
set_of (AtLeastOne s) = s
set_of (If flag s) = s

abbrev pub least_of : Item → ℕ → ℕ
least_of (One s) d = 1
least_of (Maybe s) d = 0
least_of (Many s) d = 0
least_of (AtLeastOne s) d = 1
least_of (If flag s) d = cond (set_in flag d) 1 0

abbrev pub most_of : Item → ℕ → ℕ
most_of (One s) d = 1
most_of (Maybe s) d = 1
most_of (Many s) d = 65535
most_of (AtLeastOne s) d = 65535
most_of (If flag s) d = cond (set_in flag d) 1 0

-- whether the nodes end in `least` to `most` nodes of the set, and those before them are as `rest` says
abbrev pub ends_in : Set → ℕ → (Nodes → Bool) → ℕ → ℕ → Nodes → Bool
ends_in s d rest least most none = least == 0 && rest none
ends_in s d rest least most (ns ▸ n) =
    (least == 0 && rest (ns ▸ n)) || (nat_lt 0 most && (has s d n && ends_in s d rest (least - 1) (most - 1) ns))

abbrev pub empty : Nodes → Bool
empty none = true
empty (ns ▸ n) = false

-- whether the nodes are some for each item, in order, behind nodes as `front` says
abbrev pub fits_behind : (Nodes → Bool) → List Item → ℕ → Nodes → Bool
fits_behind front [] d = front
fits_behind front (item ∷ items) d = fits_behind (ends_in (set_of item) d front (least_of item d) (most_of item d)) items d

-- whether the nodes are what the items allow
abbrev pub fits : List Item → ℕ → Nodes → Bool
fits items d = fits_behind empty items d
