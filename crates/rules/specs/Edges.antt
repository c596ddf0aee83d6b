-- Pairs of expressions that differ little: the first of each is free, the second has effects.
use Rattle.std.specs.Prelude.{◌≡◌, ℕ, true, false, List, [], ◌∷◌, None, codes}
use Prim.Native.String.{String}
use Rattle.hosts.specs.Host.{Host, all_counted}
use Rattle.drafts.specs.Tree.{Node, Nodes, node, none, ◌▸◌}
use Rattle.drafts.specs.Trees.{obeys}
use Rattle.rules.specs.Syntax.{identifier, number, string, unary, update, binary, logical, assignment, parenthesized, array, object, static_member, computed_member, class_expression, spread, object_spread, field, plus, typeof, strictly_equal, strictly_not_equal, instance_of, and_operator, assign, assign_addition}
use Rattle.rules.specs.Effects.{effects}

-- nodes of each kind that stands below

-- of this kind, detail and text
abbrev pub with : ℕ → ℕ → List ℕ → Nodes → Node
with k d text below = node (record { kind = k; detail = d; reference = 0; text = text }) below

-- without a text
abbrev pub plain : ℕ → ℕ → Nodes → Node
plain k d below = with k d [] below

abbrev pub one : Node → Nodes
one a = none ▸ a

abbrev pub two : Node → Node → Nodes
two a b = none ▸ a ▸ b

abbrev pub name : String → ℕ → Node
name word r = node (record { kind = identifier; detail = 0; reference = r; text = codes word }) none

-- of the UTF-8 of a string, and of the bytes of an f64
abbrev pub string_of : List ℕ → Node
string_of bytes = with string 0 bytes none

abbrev pub number_of : List ℕ → Node
number_of bytes = with number 0 bytes none

-- (a)
abbrev pub in_parentheses : Node → Node
in_parentheses a = plain parenthesized 0 (one a)

-- a++
abbrev pub updated : Node → Node
updated a = plain update 0 (one a)

-- an operator before a, and one between a and b
abbrev pub prefixed : ℕ → Node → Node
prefixed operator a = plain unary operator (one a)

abbrev pub between : ℕ → Node → Node → Node
between operator a b = plain binary operator (two a b)

-- a && b
abbrev pub both : Node → Node → Node
both a b = plain logical and_operator (two a b)

-- [..] and {..} of items
abbrev pub array_of : Nodes → Node
array_of items = plain array 0 items

abbrev pub object_of : Nodes → Node
object_of items = plain object 0 items

-- ...a in an array, and in an object
abbrev pub spread_of : Node → Node
spread_of a = plain spread 0 (one a)

abbrev pub copied : Node → Node
copied a = plain object_spread 0 (one a)

-- a.word and a[key]
abbrev pub member : Node → String → Node
member a word = with static_member 0 (codes word) (one a)

abbrev pub item : Node → Node → Node
item a key = plain computed_member 0 (two a key)

-- an assignment of b to a by this operator
abbrev pub assigned : ℕ → Node → Node → Node
assigned operator a b = plain assignment operator (two a b)

-- class { word = a } and class { static word = a }
abbrev pub class_of : Node → Node
class_of element = plain class_expression 0 (one element)

abbrev pub own_field : String → Node → Node
own_field word a = with field 8 (codes word) (one a)

abbrev pub static_field : String → Node → Node
static_field word a = with field 9 (codes word) (one a)

-- 1, 2 and 3
abbrev pub one_literal : Node
one_literal = number_of (0x3F ∷ 0xF0 ∷ 0 ∷ 0 ∷ 0 ∷ 0 ∷ 0 ∷ 0 ∷ [])

abbrev pub two_literal : Node
two_literal = number_of (0x40 ∷ 0 ∷ 0 ∷ 0 ∷ 0 ∷ 0 ∷ 0 ∷ 0 ∷ [])

abbrev pub three_literal : Node
three_literal = number_of (0x40 ∷ 0x08 ∷ 0 ∷ 0 ∷ 0 ∷ 0 ∷ 0 ∷ 0 ∷ [])

-- "undefined"
abbrev pub undefined_string : Node
undefined_string = string_of (codes "undefined")

-- "a😀": U+1F600 is four bytes, two code units and one step of iteration
abbrev pub with_emoji : Node
with_emoji = string_of (0x61 ∷ 0xF0 ∷ 0x9F ∷ 0x98 ∷ 0x80 ∷ [])

-- [..."a😀"]
abbrev pub spread_emoji : Node
spread_emoji = array_of (one (spread_of with_emoji))

-- []
abbrev pub empty_array : Node
empty_array = array_of none

-- both obey the grammar; the first is free, the second has effects
pub record Edge (h : Host) (first second : Node) : Type 0 where
  pub first_obeys : obeys first ≡ true
  pub second_obeys : obeys second ≡ true
  pub free : effects h first ≡ false
  pub acts : effects h second ≡ true

-- a host that counts every switch, where x by the reference r is declared by the hook and has no known type,
-- and y by s and Map by t are outer
pub record Answers (h : Host) (r s t : ℕ) : Type 0 where
  pub declared : h.outer (codes "x") r ≡ false
  pub no_type : h.typed r ≡ None
  pub outer : h.outer (codes "y") s ≡ true
  pub global : h.outer (codes "Map") t ≡ true
  pub switches : h.switches ≡ all_counted

-- a host that counts every switch but writes, where x by r is declared by the hook
pub record WritesAside (h : Host) (r : ℕ) : Type 0 where
  pub declared : h.outer (codes "x") r ≡ false
  pub switches : h.switches ≡ record { reads = true; writes = false; unknown_globals = true }

pub record EdgePairs (h : Host) (r s t : ℕ) : Type 0 where
  -- +[]   +([])
  pub parentheses : Edge h (prefixed plus empty_array) (prefixed plus (in_parentheses empty_array))
  -- "a😀"[2]   "a😀"[3]
  pub code_unit : Edge h (item with_emoji two_literal) (item with_emoji three_literal)
  -- [..."a😀"][1]   [..."a😀"][2]
  pub step : Edge h (item spread_emoji one_literal) (item spread_emoji two_literal)
  -- ({...{...x}})   ({...x})
  pub copy : Edge h
      (in_parentheses (object_of (one (copied (object_of (one (copied (name "x" r))))))))
      (in_parentheses (object_of (one (copied (name "x" r)))))
  -- typeof y !== "undefined" && y   typeof y === "undefined" && y
  pub guard : Edge h
      (both (between strictly_not_equal (prefixed typeof (name "y" s)) undefined_string) (name "y" s))
      (both (between strictly_equal (prefixed typeof (name "y" s)) undefined_string) (name "y" s))
  -- [x++] instanceof Map   x instanceof Map
  pub left_of_instanceof : Edge h
      (between instance_of (array_of (one (updated (name "x" r)))) (name "Map" t))
      (between instance_of (name "x" r) (name "Map" t))
  -- class { k = x++ }   class { static k = x++ }
  pub field_value : Edge h (class_of (own_field "k" (updated (name "x" r)))) (class_of (static_field "k" (updated (name "x" r))))

-- x.k = 1   x.k += 1
abbrev pub WritePair : Host → ℕ → Type 0
WritePair h r = Edge h (assigned assign (member (name "x" r) "k") one_literal) (assigned assign_addition (member (name "x" r) "k") one_literal)
