-- Which host a file asks for.
use Rattle.std.specs.Prelude.{ℕ, zero, suc, cond, ◌||◌, List, length, Some, None, Ok, Err, codes, Option, Result, ◌==◌}
use Rattle.std.specs.Option.{unwrap_or}
use Rattle.packed.specs.declared.refusal.Refusal.{Refusal}
use Rattle.packed.specs.Fields.{Told, node, scope, switch, name, other}
use Rattle.packed.specs.Reading.{read_at}
use Rattle.marking.specs.declared.choice.HostKind.{HostKind}
use Rattle.marking.specs.declared.choice.HostKind.TheVariants.{Table, Names}

-- a field decides by its tag: a declared name for the name host, a scope record or a node for the table host, and any other for none
abbrev pub decides : Told → Option HostKind
decides (node kind detail count reference text) = Some Table
decides (scope s) = Some Table
decides (switch s) = None
decides (name text) = Some Names
decides (other tag payload) = cond (tag == 1 || tag == 2) (Some Table) None

abbrev pub kind_then : Result (Told × ℕ) Refusal → (ℕ → HostKind) → HostKind
kind_then (Ok a) rest = unwrap_or (decides a.0) (rest a.1)
kind_then (Err e) rest = Table

-- what `fields` fields or fewer from p on decide; where no field can be read, the table host
abbrev pub kind_from : ℕ → List ℕ → ℕ → HostKind
kind_from zero file p = Table
kind_from (suc fields) file p = kind_then (read_at file p) (kind_from fields file)

-- a field has three bytes at least, so there are no more than bytes
abbrev pub kind_of : List ℕ → HostKind
kind_of file = kind_from (length file) file 0

abbrev pub kind_word : HostKind → List ℕ
kind_word Table = codes "table"
kind_word Names = codes "names"
