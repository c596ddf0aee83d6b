-- Trees of nodes, and how a list of records stands for them.
use Rattle.std.specs.Prelude.{◌≡◌, ℕ, zero, suc, ◌+◌, ◌<◌, ◌≤◌, List, drop, slice_index_or}
use Rattle.packed.specs.Fields.{payload_at}
use Rattle.drafts.specs.declared.record.Record.{Record}
use Rattle.drafts.specs.declared.record.Source.{Source}

-- what a node says of itself
pub record Header : Type 0 where
  pub kind : ℕ
  pub detail : ℕ
  pub reference : ℕ
  pub text : List ℕ

infixl 50 ◌▸◌
mutual
  -- a node of a tree, and its children
  pub data Node : Type 0 where
    node : Header → Nodes → Node

  -- nodes in order, the last one rightmost
  pub data Nodes : Type 0 where
    none : Nodes
    ◌▸◌ : Nodes → Node → Nodes

abbrev mutual
  -- how many nodes a tree has
  pub size : Node → ℕ
  size (node h below) = suc (sizes below)

  pub sizes : Nodes → ℕ
  sizes none = 0
  sizes (before ▸ n) = sizes before + size n

abbrev pub many : Nodes → ℕ
many none = 0
many (before ▸ n) = suc (many before)

-- the last k nodes, and the nodes before them
abbrev pub last_of : ℕ → Nodes → Nodes
last_of zero ns = none
last_of (suc k) none = none
last_of (suc k) (before ▸ n) = last_of k before ▸ n

abbrev pub before_of : ℕ → Nodes → Nodes
before_of zero ns = ns
before_of (suc k) none = none
before_of (suc k) (before ▸ n) = before_of k before

-- the record of node i
abbrev pub at : List Record → ℕ → Record
at rs i = slice_index_or rs i (record { place = 0; kind = 0; detail = 0; count = 0; reference = 0; span = 0 })

-- the text of the node whose field begins at p: what follows the six bytes of its header
abbrev pub text_at : List ℕ → ℕ → List ℕ
text_at file p = drop 6 (payload_at file p)

abbrev pub header_of : List ℕ → Record → Header
header_of file r = record { kind = r.kind; detail = r.detail; reference = r.reference; text = text_at file r.place }

-- a node takes the last `count` nodes that wait, in order, and then waits itself
abbrev pub grown : List ℕ → Record → Nodes → Node
grown file r ns = node (header_of file r) (last_of r.count ns)

-- the nodes that wait after the first n records; those of a whole draft are its lines
abbrev pub waiting : List ℕ → List Record → ℕ → Nodes
waiting file rs zero = none
waiting file rs (suc i) = before_of (at rs i).count (waiting file rs i) ▸ grown file (at rs i) (waiting file rs i)

-- the tree of node i
abbrev pub tree : List ℕ → List Record → ℕ → Node
tree file rs i = grown file (at rs i) (waiting file rs i)

-- the children of node i
abbrev pub below_of : List ℕ → List Record → ℕ → Nodes
below_of file rs i = last_of (at rs i).count (waiting file rs i)

-- the first n records have as many children as they say, and their trees' sizes
abbrev pub Spanned : List ℕ → List Record → ℕ → Type 0
Spanned file rs n = (i : ℕ) → i < n → ((at rs i).count ≤ many (waiting file rs i)) × ((at rs i).span ≡ size (tree file rs i))

-- the same of a source
abbrev pub waits : Source → ℕ → Nodes
waits s n = waiting s.file.now s.records.now n

abbrev pub tree_in : Source → ℕ → Node
tree_in s i = tree s.file.now s.records.now i

abbrev pub children_in : Source → ℕ → Nodes
children_in s i = below_of s.file.now s.records.now i

abbrev pub SpannedIn : Source → ℕ → Type 0
SpannedIn s n = Spanned s.file.now s.records.now n
