-- How switches are printed: each with `true` where it is counted.
use Rattle.std.specs.Prelude.{ℕ, Bool, cond, List, ◌++◌, codes}
use Rattle.hosts.specs.declared.switches.Switches.{Switches}

abbrev pub truth : Bool → List ℕ
truth b = cond b (codes "true") (codes "false")

abbrev pub switches_line : Switches → List ℕ
switches_line s =
    codes "reads " ++ (truth s.reads ++ (codes " writes " ++ (truth s.writes ++ (codes " globals " ++ truth s.unknown_globals))))
