-- What the fields before the first node tell of a host.
use Rattle.std.specs.Prelude.{ℕ, zero, suc, cond, ◌&&◌, List, [], length, Ok, Err, Result, ◌==◌, nat_lt}
use Rattle.packed.specs.declared.field.Scope.{Scope}
use Rattle.packed.specs.declared.refusal.Reason.{Reason}
use Rattle.packed.specs.declared.refusal.Reason.TheVariants.{WrongTag, BadText, BadSwitch, BadScope}
use Rattle.packed.specs.declared.refusal.Refusal.{Refusal}
use Rattle.packed.specs.Fields.{Told, node, scope, switch, name, other, has_node_tag}
use Rattle.packed.specs.Reading.{and_then, read_at}
use Rattle.text.specs.Utf8Test.{utf8}
use Rattle.hosts.specs.declared.switches.Switches.{Switches}
use Rattle.hosts.specs.Host.{all_counted, turned}
use Rattle.hosts.specs.Scopes.{scope_added}

-- what was told so far
pub record Gathered : Type 0 where
  pub scopes : List Scope
  pub switches : Switches

-- no switch yet: all are counted
abbrev pub begun : List Scope → Gathered
begun scopes = record { scopes = scopes; switches = all_counted }

-- nothing yet
abbrev pub fresh : Gathered
fresh = begun []

abbrev pub with_switches : Gathered → Switches → Gathered
with_switches g s = record { scopes = g.scopes; switches = s }

abbrev pub with_scopes : Gathered → Result (List Scope) Reason → Result Gathered Reason
with_scopes g (Ok scopes) = Ok (record { scopes = scopes; switches = g.switches })
with_scopes g (Err e) = Err e

-- one field more of a host, which takes fields into its records so: a switch is no more counted
abbrev pub host_takes : (List Scope → Told → Result (List Scope) Reason) → Gathered → Told → Result Gathered Reason
host_takes takes g (node kind detail count reference text) = with_scopes g (takes g.scopes (node kind detail count reference text))
host_takes takes g (scope s) = with_scopes g (takes g.scopes (scope s))
host_takes takes g (switch s) = Ok (with_switches g (turned s g.switches))
host_takes takes g (name text) = with_scopes g (takes g.scopes (name text))
host_takes takes g (other tag payload) = cond (tag == 3) (Err BadSwitch) (with_scopes g (takes g.scopes (other tag payload)))

-- one field more of a table, which has room for so many records: a scope record
abbrev pub record_takes : ℕ → List Scope → Told → Result (List Scope) Reason
record_takes limit scopes (node kind detail count reference text) = Err WrongTag
record_takes limit scopes (scope s) = scope_added limit scopes s
record_takes limit scopes (switch s) = Err WrongTag
record_takes limit scopes (name text) = Err WrongTag
record_takes limit scopes (other tag payload) = Err (cond (tag == 2) BadScope WrongTag)

-- one field more of declared names, which keep no records: a name, not empty and in UTF-8
abbrev pub declaration_takes : List Scope → Told → Result (List Scope) Reason
declaration_takes scopes (node kind detail count reference text) = Err WrongTag
declaration_takes scopes (scope s) = Err WrongTag
declaration_takes scopes (switch s) = Err WrongTag
declaration_takes scopes (name text) = cond (nat_lt 0 (length text) && utf8 text) (Ok scopes) (Err BadText)
declaration_takes scopes (other tag payload) = Err WrongTag

-- one field more of a table host: a scope record or a switch
abbrev pub table_takes : ℕ → Gathered → Told → Result Gathered Reason
table_takes limit = host_takes (record_takes limit)

-- one field more of a name host: a declared name or a switch
abbrev pub name_takes : Gathered → Told → Result Gathered Reason
name_takes = host_takes declaration_takes

-- a reason, with its place
abbrev pub placed : {A : Type 0} → ℕ → Result A Reason → Result A Refusal
placed p (Ok a) = Ok a
placed p (Err e) = Err (record { reason = e; place = p })

-- `fields` fields or fewer from p on, up to the first node or the end: what they tell, and the place reached
abbrev pub gathers : (Gathered → Told → Result Gathered Reason) → ℕ → List ℕ → ℕ → Gathered → Result (Gathered × ℕ) Refusal
gathers takes zero file p g = Ok (g, p)
gathers takes (suc fields) file p g =
    cond (p == length file) (Ok (g, p))
    (and_then (read_at file p) (λ a. cond (has_node_tag a.0) (Ok (g, p))
    (and_then (placed p (takes g a.0)) (λ more. gathers takes fields file a.1 more))))

-- what all fields before the first node tell: a field has three bytes at least, so there are no more than bytes
abbrev pub gathered_from : (Gathered → Told → Result Gathered Reason) → List ℕ → Result (Gathered × ℕ) Refusal
gathered_from takes file = gathers takes (length file) file 0 fresh

-- answered switches, with the records beside them
abbrev pub with_records : {E : Type 0} → Result Switches E → List Scope → Result Gathered E
with_records (Ok s) scopes = Ok (record { scopes = scopes; switches = s })
with_records (Err e) scopes = Err e

-- the same, with the place reached
abbrev pub reached : Result (Switches × ℕ) Refusal → List Scope → Result (Gathered × ℕ) Refusal
reached (Ok a) scopes = Ok (record { scopes = scopes; switches = a.0 }, a.1)
reached (Err e) scopes = Err e
