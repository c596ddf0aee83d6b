-- A host is what the fields before the first node say, and nothing else.
use Rattle.std.specs.Prelude.{◌≡◌, ℕ, true, false, ◌⊎◌, List, [], ◌∷◌, length, Ok, Result}
use Rattle.packed.specs.declared.field.Scope.{Scope}
use Rattle.packed.specs.declared.refusal.Reason.{Reason}
use Rattle.packed.specs.Fields.{Told, node, scope, switch, name, other, has_node_tag}
use Rattle.packed.specs.Reading.{read_at}
use Rattle.hosts.specs.declared.switches.Switches.{Switches}
use Rattle.hosts.specs.Host.{all_counted, turned}
use Rattle.hosts.specs.Gathering.{Gathered, gathered_from}
use Rattle.hosts.specs.NameMeaning.{named, declared}

-- `Stand file p fields q`: these fields, none of them a node, stand in the file one behind the other from p up to q
pub data Stand (file : List ℕ) : ℕ → List Told → ℕ → Type 0 where
  none : (p : ℕ) → Stand file p [] p
  one : (p : ℕ) (t : Told) (next : ℕ) (fields : List Told) (q : ℕ) → read_at file p ≡ Ok (t, next) → has_node_tag t ≡ false →
      Stand file next fields q → Stand file p (t ∷ fields) q

-- at q the file ends, or a node's field begins
abbrev pub Ends : List ℕ → ℕ → Type 0
Ends file q = (q ≡ length file) ⊎ ((a : Told × ℕ) × ((read_at file q ≡ Ok a) × (has_node_tag a.0 ≡ true)))

-- the scope records among fields, in order
abbrev pub scoped : Told → List Scope → List Scope
scoped (node kind detail count reference text) rest = rest
scoped (scope s) rest = s ∷ rest
scoped (switch s) rest = rest
scoped (name text) rest = rest
scoped (other tag payload) rest = rest

abbrev pub scopes_of : List Told → List Scope
scopes_of [] = []
scopes_of (t ∷ fields) = scoped t (scopes_of fields)

-- the switches once those that fields name are loosened
abbrev pub switched : Told → Switches → Switches
switched (node kind detail count reference text) s = s
switched (scope x) s = s
switched (switch x) s = turned x s
switched (name text) s = s
switched (other tag payload) s = s

abbrev pub switches_after : Switches → List Told → Switches
switches_after s [] = s
switches_after s (t ∷ fields) = switches_after (switched t s) fields

-- the names that fields declare, in order
abbrev pub names_of : List Told → List (List ℕ)
names_of [] = []
names_of (t ∷ fields) = named t (names_of fields)

pub record ByFields (file : List ℕ) (g : Gathered) (q : ℕ) : Type 0 where
  pub fields : List Told
  pub stand : Stand file 0 fields q
  pub ends : Ends file q
  pub scopes : g.scopes ≡ scopes_of fields
  pub switches : g.switches ≡ switches_after all_counted fields
  pub names : declared file q ≡ names_of fields

-- of whatever is made of a file
abbrev pub MadeByFields : (Gathered → Told → Result Gathered Reason) → List ℕ → Type 0
MadeByFields takes file = (g : Gathered) (q : ℕ) → gathered_from takes file ≡ Ok (g, q) → ByFields file g q
