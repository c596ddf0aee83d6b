-- How a file holds a field: the law above the reader's definition.
use Rattle.std.specs.Prelude.{◌≡◌, ℕ, ◌+◌, ◌*◌, ◌≤◌, List, ◌∷◌, ◌++◌, length, IfOk, Ok, Result}
use Rattle.packed.specs.declared.refusal.Refusal.{Refusal}
use Rattle.packed.specs.Fields.{Told, field_of}

-- at the place p stands a tag, the payload's length in two bytes, the high one first, and the payload
pub record Holds (file : List ℕ) (p tag : ℕ) (payload : List ℕ) : Type 0 where
  pub before : List ℕ
  pub after : List ℕ
  pub high : ℕ
  pub low : ℕ
  pub cut : file ≡ before ++ (tag ∷ high ∷ low ∷ (payload ++ after))
  pub start : length before ≡ p
  pub size : high * 256 + low ≡ length payload

-- the answer a is a field that the file holds at p, and the place behind it
abbrev pub Found : List ℕ → ℕ → Told × ℕ → Type 0
Found file p a = (tag : ℕ) × (payload : List ℕ) × Holds file p tag payload × (a ≡ (field_of tag payload, p + 3 + length payload))

-- r answers the field that a file of at most 65,535 bytes holds at p, and no other
pub record Reads (file : List ℕ) (p : ℕ) (r : Result (Told × ℕ) Refusal) : Type 0 where
  pub all : (tag : ℕ) (payload : List ℕ) → Holds file p tag payload → length file ≤ 65535 → r ≡ Ok (field_of tag payload, p + 3 + length payload)
  pub only : IfOk r (Found file p)
