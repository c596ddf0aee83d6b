-- The fields of a file, one behind the other.
use Rattle.std.specs.Prelude.{ℕ, zero, suc, ◌-◌, cond, List, [], ◌∷◌, length, Ok, Err, Result, ◌==◌}
use Rattle.packed.specs.declared.field.Field.{Field}
use Rattle.packed.specs.declared.fields.Fields.{Fields}
use Rattle.packed.specs.declared.refusal.Refusal.{Refusal}
use Rattle.packed.specs.Fields.{Told, told}
use Rattle.packed.specs.Reading.{read_at}

-- a field with the place where it begins, by its values
abbrev pub said_field : Result (ℕ × Field) Refusal → Result (ℕ × Told) Refusal
said_field (Ok a) = Ok (a.0, told a.1)
said_field (Err e) = Err e

-- the field at p, before those behind it; nothing stands behind a refusal
abbrev pub read_then : ℕ → Result (Told × ℕ) Refusal → (ℕ → List (Result (ℕ × Told) Refusal)) → List (Result (ℕ × Told) Refusal)
read_then p (Ok a) rest = Ok (p, a.0) ∷ rest a.1
read_then p (Err e) rest = Err e ∷ []

-- `fields` fields or fewer from p on, up to the end of the file or the first refusal
abbrev pub fields_from : ℕ → List ℕ → ℕ → List (Result (ℕ × Told) Refusal)
fields_from zero file p = []
fields_from (suc fields) file p = cond (p == length file) [] (read_then p (read_at file p) (fields_from fields file))

-- all fields from p on: a field has three bytes at least, so there are no more than bytes, and a refusal
unfoldable pub fields_at : List ℕ → ℕ → List (Result (ℕ × Told) Refusal)
fields_at file p = fields_from (suc (length file - p)) file p

abbrev pub fields_left : Fields → List (Result (ℕ × Told) Refusal)
fields_left s = fields_at s.file.now s.place
