-- What a bit of a detail says.
use Rattle.std.specs.Prelude.{ℕ, Bool, not, ◌==◌, bit_and}
use Rattle.drafts.specs.declared.row.Flag.{Flag}
use Rattle.drafts.specs.declared.row.Flag.TheVariants.{Superclass, MethodKey, FieldKey, FieldValue, Test}

abbrev pub bit_of : Flag → ℕ
bit_of Superclass = 1
bit_of MethodKey = 1
bit_of FieldKey = 4
bit_of FieldValue = 8
bit_of Test = 1

-- whether the flag is set in this detail
abbrev pub set_in : Flag → ℕ → Bool
set_in flag d = not (bit_and d (bit_of flag) == 0)
