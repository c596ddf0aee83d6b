-- The rows: for each kind how many details there are, the rule of its text, and its children.
use Rattle.std.specs.Prelude.{ℕ, List, [], ◌∷◌, Option, Some, None, slice_index_or}
use Rattle.drafts.specs.declared.kind.Kind.TheVariants.{BindingProperty, BindingRestElement, BlockStatement, CatchClause, Decorator, Function, SwitchCase}
use Rattle.drafts.specs.declared.row.Set.TheVariants.{Any, Exactly, Expression, Pattern, Statement, Target, Assigned, Element, PatternOrHole, Property, ClassElement, Link, Declarator}
use Rattle.drafts.specs.declared.row.Flag.TheVariants.{Superclass, MethodKey, FieldKey, FieldValue, Test}
use Rattle.drafts.specs.declared.row.Item.{Item}
use Rattle.drafts.specs.declared.row.Item.TheVariants.{One, Maybe, Many, AtLeastOne, If}
use Rattle.drafts.specs.declared.row.TextRule.{TextRule}
use Rattle.drafts.specs.declared.row.TextRule.TheVariants.{Empty, Name, Number, BigInt, Childless, KeyByCount, KeyByFlag}
use Rattle.drafts.specs.declared.row.TextRule
use Rattle.drafts.specs.declared.row.Children.{Children}
use Rattle.drafts.specs.declared.row.Children.TheVariants.{Leaf, Only, Pair, Three, AtLeastTwo}
use Rattle.drafts.specs.declared.row.Row.{Row}

-- a row by its values: the fewest children, where the items alone would allow fewer, and the items
pub record Shape : Type 0 where
  pub details : ℕ
  pub text : TextRule
  pub fewest : ℕ
  pub items : List Item

abbrev pub row : ℕ → TextRule → List Item → Option Shape
row details text items = Some (record { details = details; text = text; fewest = 0; items = items })

abbrev pub two_or_more : ℕ → TextRule → List Item → Option Shape
two_or_more details text items = Some (record { details = details; text = text; fewest = 2; items = items })

unfoldable pub rows : List (Option Shape)
rows =
    None ∷  -- 0
    row 1 Name [] ∷  -- 1 identifier
    row 6 Empty [] ∷  -- 2 null, boolean, regular expression, import.meta, new.target, super
    row 1 Number [] ∷  -- 3 number
    row 1 BigInt [] ∷  -- 4 BigInt
    row 1 TextRule.TheVariants.Any [] ∷  -- 5 string
    row 1 Childless (Many Expression ∷ []) ∷  -- 6 template
    row 7 Empty (One Expression ∷ []) ∷  -- 7 unary
    row 1 Empty (One Target ∷ []) ∷  -- 8 update
    row 22 Empty (One Expression ∷ One Expression ∷ []) ∷  -- 9 binary
    row 3 Empty (One Expression ∷ One Expression ∷ []) ∷  -- 10 logical
    row 16 Empty (One Assigned ∷ One Expression ∷ []) ∷  -- 11 assignment
    row 1 Empty (One Expression ∷ One Expression ∷ One Expression ∷ []) ∷  -- 12 conditional
    row 1 Empty (AtLeastOne Expression ∷ []) ∷  -- 13 sequence
    row 1 Empty (One Expression ∷ []) ∷  -- 14 parenthesized
    row 5 Empty (One Expression ∷ []) ∷  -- 15 as, satisfies, assertion, non-null, instantiation
    row 1 Empty (Many Element ∷ []) ∷  -- 16 array
    row 1 Empty (Many Property ∷ []) ∷  -- 17 object
    row 1 Name (One Expression ∷ []) ∷  -- 18 static member
    row 1 Empty (One Expression ∷ One Expression ∷ []) ∷  -- 19 computed member
    row 1 Name (One Expression ∷ []) ∷  -- 20 private member
    row 1 Name (One Expression ∷ []) ∷  -- 21 #name in
    row 1 Empty (One Link ∷ []) ∷  -- 22 chain
    row 2 Empty (Many Any ∷ []) ∷  -- 23 call, others
    row 2 Empty (Many Any ∷ []) ∷  -- 24 function, arrow
    row 2 Empty (If Superclass Expression ∷ Many ClassElement ∷ []) ∷  -- 25 class expression
    None ∷  -- 26
    None ∷  -- 27
    None ∷  -- 28
    None ∷  -- 29
    row 1 Empty (One Expression ∷ []) ∷  -- 30 spread
    row 1 Empty [] ∷  -- 31 hole
    row 3 KeyByCount (Maybe Expression ∷ One Expression ∷ []) ∷  -- 32 property: init, get, set
    row 1 Empty (One Expression ∷ []) ∷  -- 33 object spread
    row 1 Empty (One Expression ∷ []) ∷  -- 34 decorator
    row 2 (KeyByFlag MethodKey) (If MethodKey Expression ∷ Many (Exactly Decorator) ∷ One (Exactly Function) ∷ []) ∷  -- 35 method
    row 16 (KeyByFlag FieldKey) (If FieldKey Expression ∷ Many (Exactly Decorator) ∷ If FieldValue Expression ∷ []) ∷  -- 36 field
    row 1 Empty (Many Statement ∷ []) ∷  -- 37 static block
    row 1 Empty (Many Any ∷ []) ∷  -- 38 destructuring target
    row 1 Empty (One Pattern ∷ Maybe Expression ∷ []) ∷  -- 39 declarator
    row 2 Empty (If Test Expression ∷ Many Statement ∷ []) ∷  -- 40 case
    row 1 Empty (Maybe Pattern ∷ One (Exactly BlockStatement) ∷ []) ∷  -- 41 catch
    row 1 Name [] ∷  -- 42 binding identifier
    row 1 Empty (Many PatternOrHole ∷ Maybe (Exactly BindingRestElement) ∷ []) ∷  -- 43 array pattern
    row 1 Empty (Many (Exactly BindingProperty) ∷ Maybe (Exactly BindingRestElement) ∷ []) ∷  -- 44 object pattern
    row 1 Empty (One Pattern ∷ One Expression ∷ []) ∷  -- 45 default
    row 1 KeyByCount (Maybe Expression ∷ One Pattern ∷ []) ∷  -- 46 pattern property
    row 1 Empty (One Pattern ∷ []) ∷  -- 47 rest
    None ∷  -- 48
    None ∷  -- 49
    row 1 Empty (Many Statement ∷ []) ∷  -- 50 block
    row 1 Empty (One Expression ∷ []) ∷  -- 51 expression statement
    row 2 Empty (One Expression ∷ One Statement ∷ []) ∷  -- 52 while, do
    row 1 Empty (One Expression ∷ One Statement ∷ Maybe Statement ∷ []) ∷  -- 53 if
    row 1 Empty (One Statement ∷ []) ∷  -- 54 label
    row 1 Empty (Maybe Expression ∷ []) ∷  -- 55 return
    row 1 Empty (One Expression ∷ Many (Exactly SwitchCase) ∷ []) ∷  -- 56 switch
    two_or_more 1 Empty (One (Exactly BlockStatement) ∷ Maybe (Exactly CatchClause) ∷ Maybe (Exactly BlockStatement) ∷ []) ∷  -- 57 try
    row 1 Empty [] ∷  -- 58 break, continue, empty
    row 1 Empty (Many Any ∷ []) ∷  -- 59 throw, loops, with, debugger, import, export
    row 5 Empty (AtLeastOne Declarator ∷ []) ∷  -- 60 variables: var, let, const, using, await using
    row 1 Empty (Many Any ∷ []) ∷  -- 61 function declaration
    row 2 Empty (If Superclass Expression ∷ Many ClassElement ∷ []) ∷  -- 62 class declaration
    None ∷  -- 63
    None ∷  -- 64
    None ∷  -- 65
    None ∷  -- 66
    None ∷  -- 67
    None ∷  -- 68
    None ∷  -- 69
    row 1 Empty [] ∷  -- 70 TypeScript-only declaration
    []

-- the row of a kind, if there is such a kind
abbrev pub row_of : ℕ → Option Shape
row_of kind = slice_index_or rows kind None

-- without a row there are no details, and no text and no children are allowed
abbrev pub details_of : Option Shape → ℕ
details_of (Some s) = s.details
details_of None = 0

abbrev pub text_of : Option Shape → TextRule
text_of (Some s) = s.text
text_of None = Empty

abbrev pub items_of : Option Shape → List Item
items_of (Some s) = s.items
items_of None = []

abbrev pub fewest_of : Option Shape → ℕ
fewest_of (Some s) = s.fewest
fewest_of None = 0

-- the values of a row that the program has
abbrev pub fewest_in : Children → ℕ
fewest_in Leaf = 0
fewest_in (Only a) = 0
fewest_in (Pair a b) = 0
fewest_in (Three a b c) = 0
fewest_in (AtLeastTwo a b c) = 2

abbrev pub items_in : Children → List Item
items_in Leaf = []
items_in (Only a) = a ∷ []
items_in (Pair a b) = a ∷ b ∷ []
items_in (Three a b c) = a ∷ b ∷ c ∷ []
items_in (AtLeastTwo a b c) = a ∷ b ∷ c ∷ []

abbrev pub shape_of : Row → Shape
shape_of r = record { details = r.0; text = r.1; fewest = fewest_in r.2; items = items_in r.2 }

abbrev pub shape_in : Option Row → Option Shape
shape_in (Some r) = Some (shape_of r)
shape_in None = None
