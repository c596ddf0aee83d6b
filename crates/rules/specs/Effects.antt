-- Whether a node has effects.
use Rattle.std.specs.Prelude.{ℕ, ◌+◌, Bool, true, false, cond, not, ◌&&◌, ◌||◌, List, [], ◌∷◌, map, length, codes, Option, ◌==◌, nat_le, nat_lt}
use Rattle.std.specs.Str.{bytes_eq, chars}
use Rattle.packed.specs.declared.value_type.ValueType.{ValueType}
use Rattle.packed.specs.declared.value_type.ValueType.TheVariants.{String, Object, Undetermined}
use Rattle.tables.specs.Order.{listed}
use Rattle.text.specs.CodeUnits.{code_units, steps}
use Rattle.text.specs.Indices.{number_index, digits_index}
use Rattle.known_globals.specs.Identifiers.{known_names}
use Rattle.known_globals.specs.Constructors.{known_constructors}
use Rattle.known_globals.specs.Properties.{known_property, known_property_deep}
use Rattle.hosts.specs.Host.{Host}
use Rattle.drafts.specs.Tree.{Header, Node, Nodes, node, none, ◌▸◌}
use Rattle.rules.specs.Details.{has_bit}
use Rattle.rules.specs.Syntax.{identifier, leaf, number, big_int, string, template, unary, binary, logical, assignment, conditional, sequence, parenthesized, wrapper, array, object, static_member, computed_member, private_member, private_in, chain, function, class_expression, spread, hole, property, object_spread, decorator, method, field, static_block, declarator, switch_case, catch_clause, binding, array_pattern, object_pattern, default_pattern, pattern_property, rest, block, expression_statement, loop, if_statement, label, return_statement, switch_statement, try_statement, empty_statement, variables, function_declaration, class_declaration, boolean, import_meta, plus, typeof, delete, negation, bitwise_not, not_equal, strictly_not_equal, less, at_most, at_least, addition, division, remainder, exponential, unsigned_shift, instance_of, and_operator, coalesce, assign, getter, arrow, with_using, with_await_using}
use Rattle.rules.specs.Marks.{Mark, Marks, mark, start, ◌▹◌, kind, detail, text, effect, type, children, is, is_as, reads, one_of, only, pair, three, on, any_by, any, childless, single, first, all_but_last}
use Rattle.rules.specs.Primitives.{refuses, to_number, to_numeric, to_string}
use Rattle.rules.specs.ValueTypes.{is_a, nullish, inner, is_outer, primitive, numeric, surely_string, is_number_class, is_big_int_class, is_arithmetic, type_rule}

-- names

-- to read an outer name that is not known may call a getter or throw
abbrev pub identifier_effects : Host → List ℕ → ℕ → Bool
identifier_effects h name r =
    not (reads "NaN" name || (reads "Infinity" name || reads "undefined" name)) &&
    (h.switches.unknown_globals && (h.outer name r && not (listed known_names name)))

-- operators

-- ToString is called for each expression of a template
abbrev pub template_effects : Mark → Bool
template_effects m = refuses to_string (primitive m) || effect m

-- `typeof` of a name that is not there is no error
abbrev pub unary_effects : ℕ → Mark → Bool
unary_effects d m =
    cond (d == delete) true
    (cond (d == typeof) (not (is identifier m) && effect m)
    (cond (d == plus) (refuses to_number (primitive m) || effect m)
    (cond (d == negation || d == bitwise_not) (refuses to_numeric (primitive m) || effect m)
    (effect m))))

abbrev pub either : Mark → Mark → Bool
either a b = effect a || effect b

-- addition: with a String on a side, ToString of both; else ToNumeric of both, and both must be of one class
abbrev pub one_class : Mark → Mark → Bool
one_class a b =
    (is_number_class (numeric a) && is_number_class (numeric b)) || (is_big_int_class (numeric a) && is_big_int_class (numeric b))

abbrev pub addition_effects : Mark → Mark → Bool
addition_effects a b =
    cond (surely_string (primitive a) || surely_string (primitive b))
    (refuses to_string (primitive a) || (refuses to_string (primitive b) || either a b))
    (not (one_class a b) || either a b)

-- a BigInt is negative if it starts with `-`
abbrev pub starts_with_minus : List ℕ → Bool
starts_with_minus [] = false
starts_with_minus (c ∷ cs) = c == 45

-- two BigInts: `>>>` throws; `**` by a negative one, and `/` and `%` by zero
abbrev pub big_int_throws : ℕ → Mark → Bool
big_int_throws d b =
    cond (d == unsigned_shift) true
    (cond (d == exponential) (not (is big_int b) || starts_with_minus (text b))
    ((d == division || d == remainder) && (not (is big_int b) || reads "0" (text b))))

abbrev pub arithmetic_effects : ℕ → Mark → Mark → Bool
arithmetic_effects d a b =
    not (one_class a b) || ((is_big_int_class (numeric a) && big_int_throws d b) || either a b)

-- `instanceof` is free with a known constructor on the right and a left side of a known type, which is not judged further;
-- Proxy has no `prototype`, so that an object on its left throws
abbrev pub instance_effects : Host → Mark → Mark → Bool
instance_effects h a b =
    not (is_outer h b && (listed known_constructors (text b) && not (is_a Undetermined (type a) || (reads "Proxy" (text b) && is_a Object (type a)))))

abbrev pub binary_effects : Host → ℕ → Mark → Mark → Bool
binary_effects h d a b =
    cond (nat_lt d less) (either a b)
    (cond (nat_le d at_least) (refuses to_numeric (primitive a) || (refuses to_numeric (primitive b) || either a b))
    (cond (d == addition) (addition_effects a b)
    (cond (is_arithmetic d) (arithmetic_effects d a b)
    (cond (d == instance_of) (instance_effects h a b) true))))

-- the `typeof` guard

-- whether the node is `typeof name`, and whether it is this string
abbrev pub asks_type : List ℕ → Mark → Bool
asks_type name m = is_as unary typeof m && on false (only (children m)) (λ a. is identifier a && bytes_eq name (text a))

abbrev pub same : Bool → Bool → Bool
same true b = b
same false b = not b

-- `typeof name` beside the string s by this operator: whether the name is there in the branch taken if the comparison holds, or in the other
abbrev pub tells : ℕ → Bool → List ℕ → Bool
tells d taken s =
    cond (nat_lt d less) (same (same (reads "undefined" s) taken) (d == not_equal || d == strictly_not_equal))
    (nat_le d at_least && (reads "u" s && same taken (nat_le d at_most)))

abbrev pub compares : List ℕ → ℕ → Bool → Mark → Mark → Bool
compares name d taken asked s = asks_type name asked && (is string s && tells d taken (text s))

-- the string may stand first; an inequality is then turned round
abbrev pub tells_sides : List ℕ → ℕ → Bool → Mark → Mark → Bool
tells_sides name d taken a b = cond (is string a) (compares name d (same (nat_lt d less) taken) b a) (compares name d taken a b)

abbrev pub guards : List ℕ → Bool → Mark → Bool
guards name taken m = is binary m && on false (pair (children m)) (λ p. tells_sides name (detail m) taken p.0 p.1)

-- whether the value is an outer name that is there in this branch of the guard
abbrev pub guarded : Host → Bool → Mark → Mark → Bool
guarded h taken value guard = is_outer h (inner value) && guards (text (inner value)) taken guard

abbrev pub logical_effects : Host → ℕ → Mark → Mark → Bool
logical_effects h d a b = effect a || (not (not (d == coalesce) && guarded h (d == and_operator) b a) && effect b)

abbrev pub conditional_effects : Host → Mark → Mark → Mark → Bool
conditional_effects h test consequent alternate =
    effect test ||
    cond (guarded h false alternate test) (effect consequent)
    (cond (guarded h true consequent test) (effect alternate) (either consequent alternate))

-- arrays and objects

abbrev pub spread_effects : Host → Mark → Bool
spread_effects h m =
    cond (is array m || is template m) (effect m)
    (cond (is string m) false
    (not (is_outer h m && reads "arguments" (text m)) || effect m))

-- copied from a spread object literal: a getter is called; an object spread there is judged by its argument alone
abbrev pub copy_effects : Mark → Bool
copy_effects m = is_as property getter m || cond (is object_spread m) (on true (only (children m)) effect) (effect m)

abbrev pub object_spread_effects : Bool → Mark → Bool
object_spread_effects counted m =
    cond (not counted || (is array m || is template m)) (effect m)
    (cond (is object m) (any_by copy_effects (children m))
    (not (is string m)))

-- members

-- the least length of an array: a spread array adds its own, a spread string its steps of iteration
abbrev mutual
  pub least : Marks → ℕ
  least start = 0
  least (before ▹ m) = least before + elements m

  pub elements : Mark → ℕ
  elements (mark h e t below) = cond (h.kind == spread) (spread_steps below) 1

  pub spread_steps : Marks → ℕ
  spread_steps start = 0
  spread_steps (start ▹ m) = iterations m
  spread_steps (before ▹ n ▹ m) = 0

  pub iterations : Mark → ℕ
  iterations (mark h e t below) =
      cond (h.kind == array) (least below) (cond (h.kind == string) (steps (code_units (chars h.text))) 0)

-- a property of a known global, or of a known property of one
abbrev pub is_known : Host → List ℕ → Mark → Bool
is_known h name m =
    (is_outer h m && known_property (text m) name) ||
    (is static_member m && on false (only (children m)) (λ o. is_outer h o && known_property_deep (text o) (text m) name))

abbrev pub has_length : Mark → Bool
has_length m = is array m || is_a String (type m)

abbrev pub access_effects : Host → List ℕ → Mark → Bool
access_effects h name m =
    effect m || (h.switches.reads && not (is_known h name m || (reads "length" name && has_length m)))

-- whether the index is past the end, as far as is known
abbrev pub is_missing : Mark → ℕ → Bool
is_missing m i =
    cond (is string m) (nat_le (length (code_units (chars (text m)))) i) (cond (is array m) (nat_le (least (children m)) i) true)

-- what is no index has effects even where reads are not counted
abbrev pub index_effects : Host → Mark → Option ℕ → Bool
index_effects h m i = on true i (λ n. effect m || (h.switches.reads && is_missing m n))

abbrev pub computed_effects : Host → Mark → Mark → Bool
computed_effects h m key =
    cond (is string key) (access_effects h (text key) m)
    (cond (is template key) (not (childless (children key)) || access_effects h (text key) m)
    (cond (is number key) (index_effects h m (number_index (text key)))
    (cond (is big_int key) (index_effects h m (digits_index (text key)))
    (h.switches.reads || either key m))))

-- assignments: only a plain one to a member is free, where writes are not counted and its parts are free
abbrev pub is_member : Mark → Bool
is_member m = nat_le static_member (kind m) && nat_le (kind m) private_member

abbrev pub assignment_effects : Host → ℕ → Mark → Mark → Bool
assignment_effects h d target value =
    h.switches.writes || (not (d == assign && is_member target) || (any (children target) || effect value))

-- classes

-- the outer names that are known to be neither constructors nor null
abbrev pub no_constructors : List (List ℕ)
no_constructors =
    map codes (
    "undefined" ∷ "NaN" ∷ "Infinity" ∷ "Proxy" ∷ "Math" ∷ "JSON" ∷ "Reflect" ∷ "parseInt" ∷ "parseFloat" ∷ "isNaN" ∷ "isFinite" ∷
    "decodeURI" ∷ "decodeURIComponent" ∷ "encodeURI" ∷ "encodeURIComponent" ∷ "escape" ∷ "unescape" ∷ [])

abbrev pub never_extended : Host → Header → Bool
never_extended h n =
    one_of (number ∷ big_int ∷ string ∷ template ∷ unary ∷ binary ∷ array ∷ object ∷ private_in ∷ []) n.kind ||
    ((n.kind == leaf && (nat_le boolean n.detail && nat_le n.detail import_meta)) ||
    ((n.kind == function && n.detail == arrow) ||
    (n.kind == identifier && (h.outer n.text n.reference && listed no_constructors n.text))))

-- whether the node's value is seen to be neither a constructor nor null
abbrev mutual
  pub never : Host → Mark → Bool
  never h (mark n e t below) =
      cond (one_of (sequence ∷ parenthesized ∷ wrapper ∷ []) n.kind) (last_never h below)
      (cond (n.kind == conditional) (both_never h below) (never_extended h n))

  pub last_never : Host → Marks → Bool
  last_never h start = false
  last_never h (before ▹ m) = never h m

  -- both branches, behind the test
  pub both_never : Host → Marks → Bool
  both_never h start = false
  both_never h (before ▹ m) = branch_never h before && never h m

  pub branch_never : Host → Marks → Bool
  branch_never h start = false
  branch_never h (before ▹ m) = single before && never h m

-- a decorator is called
abbrev pub element_effects : Mark → Bool
element_effects m = is decorator m || effect m

abbrev pub class_effects : Host → ℕ → Marks → Bool
class_effects h d below = any_by element_effects below || (d == 1 && on true (first below) (never h))

-- a static key that is `prototype`, by a string or a template without expressions
abbrev pub is_prototype : Mark → Bool
is_prototype m = (is string m || (is template m && childless (children m))) && reads "prototype" (text m)

-- the value of a field that is neither static nor an accessor is not evaluated with the class
abbrev pub evaluated : ℕ → Marks → Marks
evaluated d below = cond (has_bit 8 d && (not (has_bit 1 d) && not (has_bit 2 d))) (all_but_last below) below

abbrev pub field_effects : ℕ → Marks → Bool
field_effects d below =
    any_by element_effects (evaluated d below) || (has_bit 1 d && (has_bit 4 d && on true (first below) (λ m. is_prototype (inner m))))

-- patterns and declarations

-- the rest of a pattern is not judged
abbrev pub pattern_effects : Mark → Bool
pattern_effects m = not (is rest m) && effect m

-- `using` calls a method of what it declares, but for null and undefined
abbrev pub using_effects : Mark → Bool
using_effects m = effect m || on true (pair (children m)) (λ p. not (nullish (type p.1)))

abbrev pub variables_effects : ℕ → Marks → Bool
variables_effects d below = cond (d == with_await_using) true (cond (d == with_using) (any_by using_effects below) (any below))

-- kinds without effects of their own

-- nodes without children
abbrev pub leaves : List ℕ
leaves = leaf ∷ number ∷ big_int ∷ string ∷ hole ∷ binding ∷ empty_statement ∷ []

-- nodes that have effects exactly if a child has
abbrev pub transparent : List ℕ
transparent =
    sequence ∷ parenthesized ∷ wrapper ∷ array ∷ object ∷ chain ∷ property ∷ decorator ∷ static_block ∷ declarator ∷ switch_case ∷
    catch_clause ∷ default_pattern ∷ pattern_property ∷ rest ∷ block ∷ expression_statement ∷ loop ∷ if_statement ∷ label ∷
    return_statement ∷ switch_statement ∷ try_statement ∷ []

-- whether a node with these children has effects; what is not of its row has
abbrev pub effects_rule : Host → Header → Marks → Bool
effects_rule h n below =
    cond (one_of leaves n.kind) false
    (cond (one_of transparent n.kind) (any below)
    (cond (n.kind == function || n.kind == function_declaration) false
    (cond (n.kind == identifier) (identifier_effects h n.text n.reference)
    (cond (n.kind == template) (any_by template_effects below)
    (cond (n.kind == unary) (on true (only below) (unary_effects n.detail))
    (cond (n.kind == binary) (on true (pair below) (λ p. binary_effects h n.detail p.0 p.1))
    (cond (n.kind == logical) (on true (pair below) (λ p. logical_effects h n.detail p.0 p.1))
    (cond (n.kind == conditional) (on true (three below) (λ p. conditional_effects h p.0 p.1.0 p.1.1))
    (cond (n.kind == spread) (on true (only below) (spread_effects h))
    (cond (n.kind == object_spread) (on true (only below) (object_spread_effects h.switches.reads))
    (cond (n.kind == static_member) (on true (only below) (access_effects h n.text))
    (cond (n.kind == computed_member) (on true (pair below) (λ p. computed_effects h p.0 p.1))
    (cond (n.kind == private_member) (h.switches.reads || any below)
    (cond (n.kind == private_in) (on true (only below) (λ m. effect m || not (is_a Object (type m))))
    (cond (n.kind == assignment) (on true (pair below) (λ p. assignment_effects h n.detail p.0 p.1))
    (cond (n.kind == class_expression || n.kind == class_declaration) (class_effects h n.detail below)
    (cond (n.kind == method) (any_by element_effects below)
    (cond (n.kind == field) (field_effects n.detail below)
    (cond (n.kind == array_pattern || n.kind == object_pattern) (h.switches.reads || any_by pattern_effects below)
    (cond (n.kind == variables) (variables_effects n.detail below) true))))))))))))))))))))

-- every node with its answers, from the leaves upwards
abbrev mutual
  pub judged : Host → Node → Mark
  judged h (node n below) = mark n (effects_rule h n (all_judged h below)) (type_rule h n (all_judged h below)) (all_judged h below)

  pub all_judged : Host → Nodes → Marks
  all_judged h none = start
  all_judged h (before ▸ n) = all_judged h before ▹ judged h n

-- whether the node has effects under the host, and the type of its value
abbrev pub effects : Host → Node → Bool
effects h n = effect (judged h n)

abbrev pub type_of : Host → Node → ValueType
type_of h n = type (judged h n)
