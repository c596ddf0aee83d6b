-- Trees with answers: each node with whether it has effects and what type it has.
use Rattle.std.specs.Prelude.{ℕ, Bool, true, false, ◌&&◌, ◌||◌, List, [], ◌∷◌, Some, None, codes, Option, ◌==◌}
use Prim.Native.String.{String}
use Rattle.std.specs.Str.{bytes_eq}
use Rattle.packed.specs.declared.value_type.ValueType.{ValueType}
use Rattle.packed.specs.declared.value_type.ValueType.TheVariants.{Undetermined}
use Rattle.drafts.specs.Tree.{Header}

infixl 50 ◌▹◌
mutual
  -- a node: its header, whether it has effects, its type, and its children
  pub data Mark : Type 0 where
    mark : Header → Bool → ValueType → Marks → Mark

  -- nodes in order, the last one rightmost
  pub data Marks : Type 0 where
    start : Marks
    ◌▹◌ : Marks → Mark → Marks

abbrev pub kind : Mark → ℕ
kind (mark h e t below) = h.kind

abbrev pub detail : Mark → ℕ
detail (mark h e t below) = h.detail

abbrev pub reference : Mark → ℕ
reference (mark h e t below) = h.reference

abbrev pub text : Mark → List ℕ
text (mark h e t below) = h.text

abbrev pub effect : Mark → Bool
effect (mark h e t below) = e

abbrev pub type : Mark → ValueType
type (mark h e t below) = t

abbrev pub children : Mark → Marks
children (mark h e t below) = below

-- whether the node is of this kind, and of this kind and detail
abbrev pub is : ℕ → Mark → Bool
is k m = kind m == k

abbrev pub is_as : ℕ → ℕ → Mark → Bool
is_as k d m = is k m && detail m == d

-- whether the text is this one
abbrev pub reads : String → List ℕ → Bool
reads name t = bytes_eq (codes name) t

abbrev pub one_of : List ℕ → ℕ → Bool
one_of [] k = false
one_of (x ∷ xs) k = k == x || one_of xs k

-- the only child, if there is one and no more; the only two; the only three
abbrev pub only : Marks → Option Mark
only start = None
only (start ▹ a) = Some a
only (before ▹ b ▹ a) = None

abbrev pub pair : Marks → Option (Mark × Mark)
pair start = None
pair (start ▹ b) = None
pair (start ▹ a ▹ b) = Some (a, b)
pair (before ▹ c ▹ a ▹ b) = None

abbrev pub three : Marks → Option (Mark × (Mark × Mark))
three start = None
three (start ▹ c) = None
three (start ▹ b ▹ c) = None
three (start ▹ a ▹ b ▹ c) = Some (a, (b, c))
three (before ▹ d ▹ a ▹ b ▹ c) = None

-- what f says of it, and z where there is none
abbrev pub on : {A B : Type 0} → B → Option A → (A → B) → B
on z None f = z
on z (Some a) f = f a

abbrev pub any_by : (Mark → Bool) → Marks → Bool
any_by f start = false
any_by f (before ▹ m) = any_by f before || f m

-- whether a child has effects
abbrev pub any : Marks → Bool
any below = any_by effect below

abbrev pub childless : Marks → Bool
childless start = true
childless (before ▹ m) = false

abbrev pub single : Marks → Bool
single start = false
single (before ▹ m) = childless before

-- the first child, and the last
abbrev pub first : Marks → Option Mark
first start = None
first (start ▹ a) = Some a
first (before ▹ b ▹ a) = first (before ▹ b)

abbrev pub last : Marks → Option Mark
last start = None
last (before ▹ m) = Some m

abbrev pub all_but_last : Marks → Marks
all_but_last start = start
all_but_last (before ▹ m) = before

-- the type of the last child
abbrev pub last_type : Marks → ValueType
last_type below = on Undetermined (last below) type
