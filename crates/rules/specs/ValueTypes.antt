-- The types of expressions, and what ToPrimitive gives of them.
use Rattle.std.specs.Prelude.{ℕ, Bool, true, false, cond, not, ◌&&◌, ◌||◌, List, [], ◌∷◌, map, Some, None, codes, Option, ◌==◌, nat_le, nat_lt}
use Rattle.packed.specs.declared.value_type.ValueType.{ValueType}
use Rattle.packed.specs.declared.value_type.ValueType.TheVariants.{Undefined, Null, Number, BigInt, String, Boolean, Object, Undetermined}
use Rattle.tables.specs.Order.{listed}
use Rattle.hosts.specs.Host.{Host}
use Rattle.drafts.specs.Tree.{Header}
use Rattle.rules.specs.declared.to_primitive.ToPrimitiveResult.{ToPrimitiveResult}
use Rattle.rules.specs.declared.to_primitive.ToPrimitiveResult as primitive-type
use Rattle.rules.specs.declared.to_numeric.ToNumericResult.{ToNumericResult}
use Rattle.rules.specs.declared.to_numeric.ToNumericResult as class
use Rattle.rules.specs.Syntax.{identifier, leaf, number, big_int, string, template, unary, binary, logical, assignment, conditional, sequence, parenthesized, wrapper, array, object, static_member, private_in, function, class_expression, property, object_spread, null_literal, boolean, regular_expression, import_meta, negation, plus, logical_not, bitwise_not, typeof, void, delete, addition, unsigned_shift, subtraction, bitwise_and, coalesce, assign, assign_addition, assign_unsigned_shift, assign_logical}
use Rattle.rules.specs.Marks.{Mark, Marks, mark, start, ◌▹◌, reference, text, type, is, reads, one_of, only, pair, three, on, last_type, childless}
use Rattle.rules.specs.Primitives.{numeric_class, surely, is_string}

-- the number of a type, and whether two types are one
abbrev pub type_number : ValueType → ℕ
type_number Undefined = 1
type_number Null = 2
type_number Number = 3
type_number BigInt = 4
type_number String = 5
type_number Boolean = 6
type_number Object = 7
type_number Undetermined = 8

abbrev pub is_a : ValueType → ValueType → Bool
is_a a b = type_number a == type_number b

-- the node inside parentheses and TypeScript wrappers
abbrev mutual
  pub inner : Mark → Mark
  inner (mark h e t below) = cond (one_of (parenthesized ∷ wrapper ∷ []) h.kind) (inner_last (mark h e t below) below) (mark h e t below)

  pub inner_last : Mark → Marks → Mark
  inner_last m start = m
  inner_last m (before ▹ n) = inner n

-- whether the node is an outer name
abbrev pub is_outer : Host → Mark → Bool
is_outer h m = is identifier m && h.outer (text m) (reference m)

-- whether the node is this outer name, inside parentheses and wrappers
abbrev pub is_global : Host → List ℕ → Mark → Bool
is_global h name m = is_outer h (inner m) && listed (name ∷ []) (text (inner m))

-- the type of an outer name, and of a name that the hook declares
abbrev pub outer_type : List ℕ → ValueType
outer_type name = cond (reads "undefined" name) Undefined (cond (reads "NaN" name || reads "Infinity" name) Number Undetermined)

abbrev pub known_type : Option ValueType → ValueType
known_type None = Undetermined
known_type (Some t) = t

abbrev pub identifier_type : Host → List ℕ → ℕ → ValueType
identifier_type h name r = cond (h.outer name r) (outer_type name) (known_type (h.typed r))

abbrev pub leaf_type : ℕ → ValueType
leaf_type d =
    cond (d == null_literal) Null
    (cond (d == boolean) Boolean
    (cond (d == regular_expression || d == import_meta) Object Undetermined))

-- ToPrimitive goes by the type; the primitive of an object is known for some literals
abbrev pub primitive_of_type : ValueType → ToPrimitiveResult → ToPrimitiveResult
primitive_of_type Undefined otherwise = primitive-type.TheVariants.Undefined
primitive_of_type Null otherwise = primitive-type.TheVariants.Null
primitive_of_type Number otherwise = primitive-type.TheVariants.Number
primitive_of_type BigInt otherwise = primitive-type.TheVariants.BigInt
primitive_of_type String otherwise = primitive-type.TheVariants.String
primitive_of_type Boolean otherwise = primitive-type.TheVariants.Boolean
primitive_of_type Object otherwise = otherwise
primitive_of_type Undetermined otherwise = otherwise

-- the names of the methods that ToPrimitive calls
abbrev pub converts : List ℕ → Bool
converts name = reads "toString" name || reads "valueOf" name

-- a key child: the text of a string or of a template without expressions is the name; any other key may be any name
abbrev pub key_text : (List ℕ → Bool) → Mark → Bool
key_text f (mark h e t below) = cond (h.kind == string || (h.kind == template && childless below)) (f h.text) true

-- whether the property may be such a method; its key is the first of two children, or its text
abbrev pub is_conversion : List ℕ → Marks → Bool
is_conversion name below = on (converts name) (pair below) (λ p. key_text converts p.0)

-- whether a property sets the prototype: an init property named `__proto__`, by name or by a string
abbrev pub sets_prototype : Mark → Bool
sets_prototype (mark h e t below) =
    (h.kind == property) && (h.detail == 0 && on (reads "__proto__" h.text) (pair below) (λ p. is string p.0 && reads "__proto__" (text p.0)))

abbrev mutual
  -- whether a property of an object literal, or a spread in it, may bring in such a method
  pub overrides : Mark → Bool
  overrides (mark h e t below) =
      cond (h.kind == property) (is_conversion h.text below) (cond (h.kind == object_spread) (spread_overrides below) true)

  pub any_overrides : Marks → Bool
  any_overrides start = false
  any_overrides (before ▹ m) = any_overrides before || overrides m

  -- a spread object literal brings in what its own properties do; an array or a string has no such properties
  pub spread_overrides : Marks → Bool
  spread_overrides start = true
  spread_overrides (start ▹ m) = copies_override m
  spread_overrides (before ▹ n ▹ m) = true

  pub copies_override : Mark → Bool
  copies_override (mark h e t below) =
      cond (h.kind == object) (any_overrides below) (not (one_of (array ∷ string ∷ template ∷ []) h.kind))

abbrev pub any_sets_prototype : Marks → Bool
any_sets_prototype start = false
any_sets_prototype (before ▹ m) = any_sets_prototype before || sets_prototype m

-- the primitive of an object's value, where of-last is that of its last child
abbrev pub object_primitive : Header → Marks → ToPrimitiveResult → ToPrimitiveResult
object_primitive h below of-last =
    cond (h.kind == array || (h.kind == leaf && h.detail == regular_expression)) primitive-type.TheVariants.String
    (cond (h.kind == sequence) of-last
    (cond (h.kind == object && not (any_overrides below || any_sets_prototype below)) primitive-type.TheVariants.String
    primitive-type.TheVariants.Undetermined))

abbrev mutual
  -- what ToPrimitive gives of the node's value; it does not look through parentheses and wrappers
  pub primitive : Mark → ToPrimitiveResult
  primitive (mark h e t below) = primitive_of_type t (object_primitive h below (last_primitive below))

  pub last_primitive : Marks → ToPrimitiveResult
  last_primitive start = primitive-type.TheVariants.Undetermined
  last_primitive (before ▹ m) = primitive m

abbrev pub numeric : Mark → ToNumericResult
numeric m = numeric_class (primitive m)

abbrev pub is_number_class : ToNumericResult → Bool
is_number_class class.TheVariants.Number = true
is_number_class class.TheVariants.BigInt = false
is_number_class class.TheVariants.Undetermined = false

abbrev pub is_big_int_class : ToNumericResult → Bool
is_big_int_class class.TheVariants.Number = false
is_big_int_class class.TheVariants.BigInt = true
is_big_int_class class.TheVariants.Undetermined = false

abbrev pub is_true : Option Bool → Bool
is_true None = false
is_true (Some b) = b

abbrev pub surely_string : ToPrimitiveResult → Bool
surely_string p = is_true (surely is_string p)

-- unary operators
abbrev pub numeric_of_type : ValueType → ValueType
numeric_of_type t = cond (is_a BigInt t) BigInt (cond (is_a Object t || is_a Undetermined t) Undetermined Number)

abbrev pub unary_type : ℕ → ValueType → ValueType
unary_type d t =
    cond (d == negation || d == bitwise_not) (numeric_of_type t)
    (cond (d == plus) Number
    (cond (d == logical_not || d == delete) Boolean
    (cond (d == typeof) String
    (cond (d == void) Undefined Undetermined))))

-- binary operators
abbrev pub addition_type : ToPrimitiveResult → ToPrimitiveResult → ValueType
addition_type a b =
    cond (surely_string a || surely_string b) String
    (cond (is_number_class (numeric_class a) && is_number_class (numeric_class b)) Number
    (cond (is_big_int_class (numeric_class a) && is_big_int_class (numeric_class b)) BigInt Undetermined))

-- one Number makes the result a Number, since a BigInt beside it throws
abbrev pub arithmetic_type : ToNumericResult → ToNumericResult → ValueType
arithmetic_type a b =
    cond (is_number_class a || is_number_class b) Number (cond (is_big_int_class a || is_big_int_class b) BigInt Undetermined)

-- the arithmetic, shift and bitwise operators but addition
abbrev pub is_arithmetic : ℕ → Bool
is_arithmetic d = nat_le subtraction d && nat_le d bitwise_and

abbrev pub binary_type : ℕ → ToPrimitiveResult → ToPrimitiveResult → ValueType
binary_type d a b =
    cond (d == addition) (addition_type a b)
    (cond (d == unsigned_shift) Number
    (cond (is_arithmetic d) (arithmetic_type (numeric_class a) (numeric_class b)) Boolean))

-- logical operators, conditionals
abbrev pub same_type : ValueType → ValueType → ValueType
same_type a b = cond (is_a a b) a Undetermined

abbrev pub nullish : ValueType → Bool
nullish t = is_a Undefined t || is_a Null t

abbrev pub logical_type : ℕ → ValueType → ValueType → ValueType
logical_type d a b = cond (d == coalesce) (cond (nullish a) b a) (same_type a b)

-- assignments, from the type of the value
abbrev pub assignment_type : ℕ → ValueType → ValueType
assignment_type d t =
    cond (d == assign) t
    (cond (d == assign_addition) (cond (is_a String t) String Undetermined)
    (cond (d == assign_unsigned_shift) Number
    (cond (nat_lt d assign_logical) (numeric_of_type t) Undetermined)))

-- static members: the constants of Number and of Math
abbrev pub number_constants : List (List ℕ)
number_constants = map codes ("POSITIVE_INFINITY" ∷ "NEGATIVE_INFINITY" ∷ "EPSILON" ∷ "NaN" ∷ "MAX_VALUE" ∷ "MIN_VALUE" ∷ [])

abbrev pub math_constants : List (List ℕ)
math_constants = map codes ("E" ∷ "LN10" ∷ "LN2" ∷ "LOG10E" ∷ "LOG2E" ∷ "PI" ∷ "SQRT1_2" ∷ "SQRT2" ∷ [])

abbrev pub member_type : Host → List ℕ → Mark → ValueType
member_type h name m =
    cond ((listed number_constants name && is_global h (codes "Number") m) || (listed math_constants name && is_global h (codes "Math") m))
    Number Undetermined

-- the type of a node with these children
abbrev pub type_rule : Host → Header → Marks → ValueType
type_rule h n below =
    cond (n.kind == identifier) (identifier_type h n.text n.reference)
    (cond (n.kind == leaf) (leaf_type n.detail)
    (cond (n.kind == number) Number
    (cond (n.kind == big_int) BigInt
    (cond (n.kind == string || n.kind == template) String
    (cond (n.kind == unary) (unary_type n.detail (last_type below))
    (cond (n.kind == binary) (on Undetermined (pair below) (λ p. binary_type n.detail (primitive p.0) (primitive p.1)))
    (cond (n.kind == logical) (on Undetermined (pair below) (λ p. logical_type n.detail (type p.0) (type p.1)))
    (cond (n.kind == assignment) (assignment_type n.detail (last_type below))
    (cond (n.kind == conditional) (on Undetermined (three below) (λ p. same_type (type p.1.0) (type p.1.1)))
    (cond (n.kind == sequence || n.kind == parenthesized) (last_type below)
    (cond (one_of (array ∷ object ∷ function ∷ class_expression ∷ []) n.kind) Object
    (cond (n.kind == static_member) (on Undetermined (only below) (member_type h n.text))
    (cond (n.kind == private_in) Boolean Undetermined)))))))))))))
