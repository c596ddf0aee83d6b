-- What accepted adds leave.
use Rattle.std.specs.Prelude.{◌≡◌, ℕ, ◌+◌, ◌≤◌, List, length, Ok, ◌≢◌, slice_set}
use Rattle.packed.specs.declared.refusal.Reason.TheVariants.{ForeignTable}
use Rattle.packed.specs.Reading.{refused}
use Rattle.drafts.specs.declared.record.Record.{Record}
use Rattle.drafts.specs.Added.{adds}

-- `Leads file rs n new m`: some accepted adds from the file, or none, lead from n nodes in the table rs to m nodes in the table new
pub data Leads (file : List ℕ) (rs : List Record) (n : ℕ) : List Record → ℕ → Type 0 where
  here : Leads file rs n rs n
  further : {new : List Record} {m : ℕ} → Leads file rs n new m → (p : ℕ) (a : Record × ℕ) → adds file m new p ≡ Ok a →
      Leads file rs n (slice_set new m a.0) (m + 1)

-- a chain of accepted adds from a draft just opened leaves these n nodes in the table rs
abbrev pub Left : List ℕ → List Record → ℕ → Type 0
Left file rs n = (start : List Record) × Leads file start 0 rs n

-- an add is not refused as to a foreign table exactly if the table is what such a chain leaves
pub record ForeignOnly (file : List ℕ) : Type 0 where
  pub honest : (rs : List Record) (n p : ℕ) → Left file rs n → adds file n rs p ≢ refused ForeignTable p
  pub foreign : (rs : List Record) (n p : ℕ) → length file ≤ 65535 → (adds file n rs p ≢ refused ForeignTable p) → Left file rs n
