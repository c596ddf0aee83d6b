-- The numbers of types in the format: 0 for none known.
use Rattle.std.specs.Prelude.{ℕ, cond, Some, None, Option, ◌==◌}
use Rattle.packed.specs.declared.value_type.ValueType.{ValueType}
use Rattle.packed.specs.declared.value_type.ValueType.TheVariants.{Undefined, Null, Number, BigInt, String, Boolean, Object, Undetermined}

abbrev pub type_of : ℕ → Option ValueType
type_of n =
    cond (n == 1) (Some Undefined)
    (cond (n == 2) (Some Null)
    (cond (n == 3) (Some Number)
    (cond (n == 4) (Some BigInt)
    (cond (n == 5) (Some String)
    (cond (n == 6) (Some Boolean)
    (cond (n == 7) (Some Object)
    (cond (n == 8) (Some Undetermined) None)))))))
