-- What the table host means.
use Rattle.std.specs.Prelude.{ℕ, Bool, true, cond, List, Some, None, Ok, Err, vec_items, Option, Result, ◌==◌}
use Rattle.packed.specs.declared.field.Scope.{Scope}
use Rattle.packed.specs.declared.refusal.Refusal.{Refusal}
use Rattle.packed.specs.declared.value_type.ValueType.{ValueType}
use Rattle.hosts.specs.declared.table_host.TableHost.{TableHost}
use Rattle.hosts.specs.Host.{Host}
use Rattle.hosts.specs.Scopes.{lookup}
use Rattle.hosts.specs.Gathering.{Gathered}

-- the record of a reference number; 0 stands for no reference
abbrev pub record_of : List Scope → ℕ → Option Scope
record_of scopes r = cond (r == 0) None (lookup scopes r)

-- without a record a reference is outer and has no type
abbrev pub outer_by : Option Scope → Bool
outer_by (Some s) = s.outer
outer_by None = true

abbrev pub type_by : Option Scope → Option ValueType
type_by (Some s) = s.value_type
type_by None = None

-- what it was told
abbrev pub table_gathered : TableHost → Gathered
table_gathered t = record { scopes = vec_items t.scopes.records; switches = t.switches }

abbrev pub table_made : Result (TableHost × ℕ) Refusal → Result (Gathered × ℕ) Refusal
table_made (Ok a) = Ok (table_gathered a.0, a.1)
table_made (Err e) = Err e

-- the host of such records and switches
abbrev pub table_host : Gathered → Host
table_host g =
    record {
      outer = λ name r. outer_by (record_of g.scopes r);
      typed = λ r. type_by (record_of g.scopes r);
      switches = g.switches;
    }

abbrev pub table_view : TableHost → Host
table_view t = table_host (table_gathered t)
