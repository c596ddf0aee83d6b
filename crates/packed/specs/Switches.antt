-- The numbers of switches in the format.
use Rattle.std.specs.Prelude.{ℕ, cond, Some, None, Option, ◌==◌}
use Rattle.packed.specs.declared.switch.Switch.{Switch}
use Rattle.packed.specs.declared.switch.Switch.TheVariants.{PropertyReads, PropertyWrites, UnknownGlobals}

abbrev pub switch_of : ℕ → Option Switch
switch_of n =
    cond (n == 1) (Some PropertyReads)
    (cond (n == 2) (Some PropertyWrites)
    (cond (n == 3) (Some UnknownGlobals) None))
