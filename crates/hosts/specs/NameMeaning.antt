-- What the name host means.
use Rattle.std.specs.Prelude.{ℕ, zero, suc, cond, not, List, [], ◌∷◌, length, None, Ok, Err, Result, nat_lt}
use Rattle.packed.specs.declared.refusal.Refusal.{Refusal}
use Rattle.packed.specs.Fields.{Told, node, scope, switch, name, other}
use Rattle.packed.specs.Reading.{read_at}
use Rattle.tables.specs.Order.{listed}
use Rattle.packed.specs.Listing.{fields_left}
use Rattle.hosts.specs.declared.declared_names.DeclaredNames.{DeclaredNames}
use Rattle.hosts.specs.declared.name_host.NameHost.{NameHost}
use Rattle.hosts.specs.Host.{Host}
use Rattle.hosts.specs.Gathering.{Gathered}

-- a field, before the names of the fields behind it
abbrev pub named : Told → List (List ℕ) → List (List ℕ)
named (node kind detail count reference text) rest = rest
named (scope s) rest = rest
named (switch s) rest = rest
named (name text) rest = text ∷ rest
named (other tag payload) rest = rest

abbrev pub names_then : Result (Told × ℕ) Refusal → (ℕ → List (List ℕ)) → List (List ℕ)
names_then (Ok a) rest = named a.0 (rest a.1)
names_then (Err e) rest = []

-- the names of `fields` fields or fewer, from p up to the end
abbrev pub names_from : ℕ → List ℕ → ℕ → ℕ → List (List ℕ)
names_from zero file end p = []
names_from (suc fields) file end p = cond (nat_lt p end) (names_then (read_at file p) (names_from fields file end)) []

-- the declared names of a file, up to the end; a field has three bytes at least, so there are no more than bytes
abbrev pub declared : List ℕ → ℕ → List (List ℕ)
declared file end = names_from (length file) file end 0

-- the names that listed fields declare, up to the end
abbrev pub names_in : ℕ → List (Result (ℕ × Told) Refusal) → List (List ℕ)
names_in end [] = []
names_in end (Ok a ∷ fields) = cond (nat_lt a.0 end) (named a.1 (names_in end fields)) []
names_in end (Err e ∷ fields) = []

abbrev pub names_left : DeclaredNames → List (List ℕ)
names_left s = names_in s.end (fields_left s.fields)

-- what it was told, besides names
abbrev pub name_gathered : NameHost → Gathered
name_gathered h = record { scopes = []; switches = h.switches }

abbrev pub name_made : Result (NameHost × ℕ) Refusal → Result (Gathered × ℕ) Refusal
name_made (Ok a) = Ok (name_gathered a.0, a.1)
name_made (Err e) = Err e

abbrev pub name_view : NameHost → Host
name_view h =
    record {
      outer = λ text r. not (listed (declared h.file.now h.end) text);
      typed = λ r. None;
      switches = h.switches;
    }
