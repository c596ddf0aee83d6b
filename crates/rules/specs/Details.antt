-- The numbers of details: operators and the like, each list in the format's order, from 0 on.
use Rattle.std.specs.Prelude.{ℕ, ◌+◌, ◌*◌, Bool, true, false, not, List, [], ◌∷◌, Option, slice_get, ◌==◌, bit_and, nat_lt}
use Rattle.std.specs.Bool.{then_some}
use Rattle.rules.specs.declared.detail.UnaryOperator.{UnaryOperator}
use Rattle.rules.specs.declared.detail.UnaryOperator as unary
use Rattle.rules.specs.declared.detail.BinaryOperator.{BinaryOperator}
use Rattle.rules.specs.declared.detail.BinaryOperator as binary
use Rattle.rules.specs.declared.detail.LogicalOperator.{LogicalOperator}
use Rattle.rules.specs.declared.detail.LogicalOperator as logical
use Rattle.rules.specs.declared.detail.AssignmentOperator.{AssignmentOperator}
use Rattle.rules.specs.declared.detail.AssignmentOperator as assignment
use Rattle.rules.specs.declared.detail.TypeScriptWrapper.{TypeScriptWrapper}
use Rattle.rules.specs.declared.detail.TypeScriptWrapper as wrapper
use Rattle.rules.specs.declared.detail.PropertyKind.{PropertyKind}
use Rattle.rules.specs.declared.detail.PropertyKind as property
use Rattle.rules.specs.declared.detail.VariableDeclarationKind.{VariableDeclarationKind}
use Rattle.rules.specs.declared.detail.VariableDeclarationKind as declared
use Rattle.rules.specs.declared.detail.Modifiers.{Modifiers}

abbrev pub unary_operators : List UnaryOperator
unary_operators =
    unary.TheVariants.UnaryNegation ∷ unary.TheVariants.UnaryPlus ∷ unary.TheVariants.LogicalNot ∷
    unary.TheVariants.BitwiseNot ∷ unary.TheVariants.Typeof ∷ unary.TheVariants.Void ∷ unary.TheVariants.Delete ∷ []

abbrev pub unary_of : ℕ → Option UnaryOperator
unary_of n = slice_get unary_operators n

-- the number of each, by cases: as a place in the list it would need a test of equality for each type
abbrev pub unary_number : UnaryOperator → ℕ
unary_number unary.TheVariants.UnaryNegation = 0
unary_number unary.TheVariants.UnaryPlus = 1
unary_number unary.TheVariants.LogicalNot = 2
unary_number unary.TheVariants.BitwiseNot = 3
unary_number unary.TheVariants.Typeof = 4
unary_number unary.TheVariants.Void = 5
unary_number unary.TheVariants.Delete = 6

abbrev pub binary_operators : List BinaryOperator
binary_operators =
    binary.TheVariants.Equality ∷ binary.TheVariants.Inequality ∷ binary.TheVariants.StrictEquality ∷
    binary.TheVariants.StrictInequality ∷ binary.TheVariants.LessThan ∷ binary.TheVariants.LessEqualThan ∷
    binary.TheVariants.GreaterThan ∷ binary.TheVariants.GreaterEqualThan ∷ binary.TheVariants.Addition ∷
    binary.TheVariants.Subtraction ∷ binary.TheVariants.Multiplication ∷ binary.TheVariants.Division ∷
    binary.TheVariants.Remainder ∷ binary.TheVariants.Exponential ∷ binary.TheVariants.ShiftLeft ∷
    binary.TheVariants.ShiftRight ∷ binary.TheVariants.ShiftRightZeroFill ∷ binary.TheVariants.BitwiseOR ∷
    binary.TheVariants.BitwiseXOR ∷ binary.TheVariants.BitwiseAnd ∷ binary.TheVariants.In ∷ binary.TheVariants.Instanceof ∷ []

abbrev pub binary_of : ℕ → Option BinaryOperator
binary_of n = slice_get binary_operators n

abbrev pub binary_number : BinaryOperator → ℕ
binary_number binary.TheVariants.Equality = 0
binary_number binary.TheVariants.Inequality = 1
binary_number binary.TheVariants.StrictEquality = 2
binary_number binary.TheVariants.StrictInequality = 3
binary_number binary.TheVariants.LessThan = 4
binary_number binary.TheVariants.LessEqualThan = 5
binary_number binary.TheVariants.GreaterThan = 6
binary_number binary.TheVariants.GreaterEqualThan = 7
binary_number binary.TheVariants.Addition = 8
binary_number binary.TheVariants.Subtraction = 9
binary_number binary.TheVariants.Multiplication = 10
binary_number binary.TheVariants.Division = 11
binary_number binary.TheVariants.Remainder = 12
binary_number binary.TheVariants.Exponential = 13
binary_number binary.TheVariants.ShiftLeft = 14
binary_number binary.TheVariants.ShiftRight = 15
binary_number binary.TheVariants.ShiftRightZeroFill = 16
binary_number binary.TheVariants.BitwiseOR = 17
binary_number binary.TheVariants.BitwiseXOR = 18
binary_number binary.TheVariants.BitwiseAnd = 19
binary_number binary.TheVariants.In = 20
binary_number binary.TheVariants.Instanceof = 21

abbrev pub logical_operators : List LogicalOperator
logical_operators =
    logical.TheVariants.And ∷ logical.TheVariants.Or ∷ logical.TheVariants.Coalesce ∷ []

abbrev pub logical_of : ℕ → Option LogicalOperator
logical_of n = slice_get logical_operators n

abbrev pub logical_number : LogicalOperator → ℕ
logical_number logical.TheVariants.And = 0
logical_number logical.TheVariants.Or = 1
logical_number logical.TheVariants.Coalesce = 2

abbrev pub assignment_operators : List AssignmentOperator
assignment_operators =
    assignment.TheVariants.Assign ∷ assignment.TheVariants.Addition ∷ assignment.TheVariants.Subtraction ∷
    assignment.TheVariants.Multiplication ∷ assignment.TheVariants.Division ∷ assignment.TheVariants.Remainder ∷
    assignment.TheVariants.Exponential ∷ assignment.TheVariants.ShiftLeft ∷ assignment.TheVariants.ShiftRight ∷
    assignment.TheVariants.ShiftRightZeroFill ∷ assignment.TheVariants.BitwiseOR ∷ assignment.TheVariants.BitwiseXOR ∷
    assignment.TheVariants.BitwiseAnd ∷ assignment.TheVariants.LogicalAnd ∷ assignment.TheVariants.LogicalOr ∷
    assignment.TheVariants.LogicalNullish ∷ []

abbrev pub assignment_of : ℕ → Option AssignmentOperator
assignment_of n = slice_get assignment_operators n

abbrev pub assignment_number : AssignmentOperator → ℕ
assignment_number assignment.TheVariants.Assign = 0
assignment_number assignment.TheVariants.Addition = 1
assignment_number assignment.TheVariants.Subtraction = 2
assignment_number assignment.TheVariants.Multiplication = 3
assignment_number assignment.TheVariants.Division = 4
assignment_number assignment.TheVariants.Remainder = 5
assignment_number assignment.TheVariants.Exponential = 6
assignment_number assignment.TheVariants.ShiftLeft = 7
assignment_number assignment.TheVariants.ShiftRight = 8
assignment_number assignment.TheVariants.ShiftRightZeroFill = 9
assignment_number assignment.TheVariants.BitwiseOR = 10
assignment_number assignment.TheVariants.BitwiseXOR = 11
assignment_number assignment.TheVariants.BitwiseAnd = 12
assignment_number assignment.TheVariants.LogicalAnd = 13
assignment_number assignment.TheVariants.LogicalOr = 14
assignment_number assignment.TheVariants.LogicalNullish = 15

abbrev pub wrappers : List TypeScriptWrapper
wrappers =
    wrapper.TheVariants.As ∷ wrapper.TheVariants.Satisfies ∷ wrapper.TheVariants.TypeAssertion ∷ wrapper.TheVariants.NonNull ∷
    wrapper.TheVariants.Instantiation ∷ []

abbrev pub wrapper_of : ℕ → Option TypeScriptWrapper
wrapper_of n = slice_get wrappers n

abbrev pub wrapper_number : TypeScriptWrapper → ℕ
wrapper_number wrapper.TheVariants.As = 0
wrapper_number wrapper.TheVariants.Satisfies = 1
wrapper_number wrapper.TheVariants.TypeAssertion = 2
wrapper_number wrapper.TheVariants.NonNull = 3
wrapper_number wrapper.TheVariants.Instantiation = 4

abbrev pub property_kinds : List PropertyKind
property_kinds =
    property.TheVariants.Init ∷ property.TheVariants.Get ∷ property.TheVariants.Set ∷ []

abbrev pub property_of : ℕ → Option PropertyKind
property_of n = slice_get property_kinds n

abbrev pub property_number : PropertyKind → ℕ
property_number property.TheVariants.Init = 0
property_number property.TheVariants.Get = 1
property_number property.TheVariants.Set = 2

abbrev pub declaration_kinds : List VariableDeclarationKind
declaration_kinds =
    declared.TheVariants.Var ∷ declared.TheVariants.Let ∷ declared.TheVariants.Const ∷ declared.TheVariants.Using ∷
    declared.TheVariants.AwaitUsing ∷ []

abbrev pub declared_of : ℕ → Option VariableDeclarationKind
declared_of n = slice_get declaration_kinds n

abbrev pub declared_number : VariableDeclarationKind → ℕ
declared_number declared.TheVariants.Var = 0
declared_number declared.TheVariants.Let = 1
declared_number declared.TheVariants.Const = 2
declared_number declared.TheVariants.Using = 3
declared_number declared.TheVariants.AwaitUsing = 4

abbrev pub flags : List Bool
flags = false ∷ true ∷ []

abbrev pub flag_of : ℕ → Option Bool
flag_of n = slice_get flags n

abbrev pub flag : Bool → ℕ
flag false = 0
flag true = 1

-- the bits of a field
abbrev pub has_bit : ℕ → ℕ → Bool
has_bit bit d = not (bit_and d bit == 0)

-- a field has four bits
abbrev pub modifiers_of : ℕ → Option Modifiers
modifiers_of n =
    then_some (nat_lt n 16) (record { is_static = has_bit 1 n; is_accessor = has_bit 2 n; has_key = has_bit 4 n; has_value = has_bit 8 n })

abbrev pub modifiers_number : Modifiers → ℕ
modifiers_number m = flag m.is_static + 2 * flag m.is_accessor + 4 * flag m.has_key + 8 * flag m.has_value
