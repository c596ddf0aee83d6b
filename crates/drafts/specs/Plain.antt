-- What the grammar says, in plain words.
use Rattle.std.specs.Prelude.{◌≡◌, ℕ, ◌≤◌, Bool, true, ◌&&◌, List, [], ◌∷◌, ◌==◌}
use Rattle.drafts.specs.declared.row.Set.{Set}
use Rattle.drafts.specs.declared.row.Item.{Item}
use Rattle.drafts.specs.Tree.{Nodes, node, none, ◌▸◌, many}
use Rattle.drafts.specs.Grammar.{has, first_is, set_of, least_of, most_of, fits}
use Rattle.drafts.specs.Added.{allowed}

-- nodes followed by nodes
infixl 45 ◌⧺◌
abbrev pub ◌⧺◌ : Nodes → Nodes → Nodes
front ⧺ none = front
front ⧺ (part ▸ n) = (front ⧺ part) ▸ n

abbrev pub all_in : Set → ℕ → Nodes → Bool
all_in s d none = true
all_in s d (ns ▸ n) = all_in s d ns && has s d n

-- nodes of an item's set, as many as it allows, under a node of detail d
pub record Part (item : Item) (d : ℕ) (part : Nodes) : Type 0 where
  pub each : all_in (set_of item) d part ≡ true
  pub at_least : least_of item d ≤ many part
  pub at_most : many part ≤ most_of item d

-- the nodes are parts in a row, one for each item
abbrev pub Parts : List Item → ℕ → Nodes → Type 0
Parts [] d ns = ns ≡ none
Parts (item ∷ items) d ns =
    (part : Nodes) × ((rest : Nodes) × ((ns ≡ part ⧺ rest) × (Part item d part × Parts items d rest)))

-- items allow exactly the nodes that fall into such parts
pub record FallsIntoParts : Type 0 where
  pub splits : (items : List Item) (d : ℕ) (ns : Nodes) → fits items d ns ≡ true → Parts items d ns
  pub joins : (items : List Item) (d : ℕ) (ns : Nodes) → Parts items d ns → fits items d ns ≡ true

-- each of the nodes is a declarator (39) of a binding identifier (42)
abbrev pub names_only : Nodes → Bool
names_only none = true
names_only (ns ▸ node h below) = names_only ns && (h.kind == 39 && first_is 42 below)

-- some rows in words
pub record RowsSay : Type 0 where
  -- a sequence (13) has a child
  pub sequence : (d : ℕ) (ns : Nodes) → allowed 13 d ns ≡ true → 1 ≤ many ns
  -- a try (57) has two or three
  pub tries : (d : ℕ) (ns : Nodes) → allowed 57 d ns ≡ true → (2 ≤ many ns) × (many ns ≤ 3)
  -- a declaration (60) has one, and `using` (3) and `await using` (4) declare only names
  pub declaration : (d : ℕ) (ns : Nodes) → allowed 60 d ns ≡ true → 1 ≤ many ns
  pub uses : (d : ℕ) (ns : Nodes) → 3 ≤ d → allowed 60 d ns ≡ true → names_only ns ≡ true
