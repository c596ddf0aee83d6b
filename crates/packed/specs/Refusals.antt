-- The number of each reason to refuse, and the line that a program prints of a refusal.
use Rattle.std.specs.Prelude.{ℕ, List, ◌++◌, codes, decimal}
use Rattle.packed.specs.declared.refusal.Reason.{Reason}
use Rattle.packed.specs.declared.refusal.Reason.TheVariants.{CutField, WrongTag, BadHeader, TypeScriptOnly, BadText, BadChildren, Full, ForeignTable, BadSwitch, BadScope}

abbrev pub number_of : Reason → ℕ
number_of CutField = 1
number_of WrongTag = 2
number_of BadHeader = 3
number_of TypeScriptOnly = 4
number_of BadText = 5
number_of BadChildren = 6
number_of Full = 7
number_of ForeignTable = 8
number_of BadSwitch = 11
number_of BadScope = 13

abbrev pub line : ℕ → ℕ → List ℕ
line number place = codes "refused " ++ (decimal number ++ (codes " at " ++ decimal place))
