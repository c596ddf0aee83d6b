-- Conversions of primitive values, as ECMA-262 has them.
use Rattle.std.specs.Prelude.{Bool, true, false, cond, ◌||◌, List, [], ◌∷◌, Some, None, Option}
use Rattle.std.specs.List.{list_all, list_any}
use Rattle.rules.specs.declared.to_primitive.ToPrimitiveResult.{ToPrimitiveResult}
use Rattle.rules.specs.declared.to_primitive.ToPrimitiveResult.TheVariants.{Undefined, Null, Number, BigInt, String, Boolean, Symbol, Undetermined}
use Rattle.rules.specs.declared.to_primitive.Conversion.{Conversion}
use Rattle.rules.specs.declared.to_primitive.Conversion.TheVariants.{ToString, ToNumeric, ToNumber}
use Rattle.rules.specs.declared.to_numeric.ToNumericResult.{ToNumericResult}
use Rattle.rules.specs.declared.to_numeric.ToNumericResult as class

-- the language types other than Object (6.1)
pub data Primitive : Type 0 where
  undefined_type : Primitive
  null_type : Primitive
  boolean_type : Primitive
  string_type : Primitive
  symbol_type : Primitive
  number_type : Primitive
  big_int_type : Primitive

-- what a conversion of a value gives: a value of some type, or a TypeError
pub data Outcome : Type 0 where
  gives : Primitive → Outcome
  throws : Outcome

-- ToNumber (7.1.4) of a value of each type
abbrev pub to_number : Primitive → Outcome
to_number symbol_type = throws
to_number big_int_type = throws
to_number _ = gives number_type

-- ToNumeric (7.1.3): a BigInt stays as it is, and ToNumber converts the rest
abbrev pub to_numeric : Primitive → Outcome
to_numeric big_int_type = gives big_int_type
to_numeric p = to_number p

-- ToString (7.1.17)
abbrev pub to_string : Primitive → Outcome
to_string symbol_type = throws
to_string _ = gives string_type

abbrev pub outcome_of : Conversion → Primitive → Outcome
outcome_of ToString = to_string
outcome_of ToNumeric = to_numeric
outcome_of ToNumber = to_number

-- the types that a value may have
abbrev pub may_be : ToPrimitiveResult → List Primitive
may_be Undefined = undefined_type ∷ []
may_be Null = null_type ∷ []
may_be Number = number_type ∷ []
may_be BigInt = big_int_type ∷ []
may_be String = string_type ∷ []
may_be Boolean = boolean_type ∷ []
may_be Symbol = symbol_type ∷ []
may_be Undetermined =
    undefined_type ∷ null_type ∷ boolean_type ∷ string_type ∷ symbol_type ∷ number_type ∷ big_int_type ∷ []

-- whether each value that it may be is so, or none is; else it is not known
abbrev pub surely : (Primitive → Bool) → ToPrimitiveResult → Option Bool
surely f p = cond (list_all f (may_be p)) (Some true) (cond (list_any f (may_be p)) None (Some false))

-- the answer, where the type is known
abbrev pub if_known : ToPrimitiveResult → Bool → Option Bool
if_known Undetermined answer = None
if_known _ answer = Some answer

abbrev pub is_number : Primitive → Bool
is_number number_type = true
is_number _ = false

abbrev pub is_big_int : Primitive → Bool
is_big_int big_int_type = true
is_big_int _ = false

abbrev pub is_string : Primitive → Bool
is_string string_type = true
is_string _ = false

abbrev pub is_symbol : Primitive → Bool
is_symbol symbol_type = true
is_symbol _ = false

abbrev pub is_symbol_or_big_int : Primitive → Bool
is_symbol_or_big_int p = is_symbol p || is_big_int p

-- whether an outcome is a value of such a type
abbrev pub becomes : (Primitive → Bool) → Outcome → Bool
becomes f (gives p) = f p
becomes f throws = false

abbrev pub is_throw : Outcome → Bool
is_throw (gives p) = false
is_throw throws = true

-- whether the conversion of some value that it may be throws
abbrev pub refuses : (Primitive → Outcome) → ToPrimitiveResult → Bool
refuses convert p = list_any (λ v. is_throw (convert v)) (may_be p)

-- Number, or BigInt, exactly if ToNumeric converts every value that it may be to one
abbrev pub numeric_class : ToPrimitiveResult → ToNumericResult
numeric_class p =
    cond (list_all (λ v. becomes is_number (to_numeric v)) (may_be p)) class.TheVariants.Number
    (cond (list_all (λ v. becomes is_big_int (to_numeric v)) (may_be p)) class.TheVariants.BigInt class.TheVariants.Undetermined)
