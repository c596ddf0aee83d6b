-- What adding all fields from a place on answers and leaves.
use Rattle.std.specs.Prelude.{◌≡◌, ℕ, ◌+◌, ◌<◌, ◌≤◌, List, length, Ok, Err, Result, ◌≢◌, slice_set}
use Rattle.packed.specs.declared.refusal.Refusal.{Refusal}
use Rattle.drafts.specs.declared.record.Record.{Record}
use Rattle.drafts.specs.Added.{adds}

-- `AddsAll file n rs p m new q stop`: adds at p and then at each next place, up to the file's end or the first refusal,
-- lead from n nodes in the table rs to m nodes in the table new, and to the place q; `stop` is the refusal that stopped them, if one did
pub data AddsAll (file : List ℕ) : ℕ → List Record → ℕ → ℕ → List Record → ℕ → Result (Unit {0}) Refusal → Type 0 where
  ended : (n : ℕ) (rs : List Record) (p : ℕ) → length file ≤ 65535 → p ≡ length file → AddsAll file n rs p n rs p (Ok tt)
  more : (n : ℕ) (rs : List Record) (p : ℕ) (a : Record × ℕ) (m : ℕ) (new : List Record) (q : ℕ) (stop : Result (Unit {0}) Refusal) →
      (p ≢ length file) → adds file n rs p ≡ Ok a → AddsAll file (n + 1) (slice_set rs n a.0) a.1 m new q stop →
      AddsAll file n rs p m new q stop
  stopped : (n : ℕ) (rs : List Record) (p : ℕ) (e : Refusal) → (p ≡ length file → 65535 < length file) → adds file n rs p ≡ Err e →
      AddsAll file n rs p n rs p (Err e)

pub record SameEnd (m k : ℕ) (new old : List Record) (q o : ℕ) (stop halt : Result (Unit {0}) Refusal) : Type 0 where
  pub nodes : m ≡ k
  pub table : new ≡ old
  pub place : q ≡ o
  pub refusal : stop ≡ halt

-- such a run ends in one way
abbrev pub EndsOnce : List ℕ → Type 0
EndsOnce file =
    (n : ℕ) (rs : List Record) (p m k : ℕ) (new old : List Record) (q o : ℕ) (stop halt : Result (Unit {0}) Refusal) →
    AddsAll file n rs p m new q stop → AddsAll file n rs p k old o halt → SameEnd m k new old q o stop halt
