use Rattle.std.proofs.Common.{◌≡◌, ℕ, ◌-◌, ◌≤◌, true, List, length, Result}
use Rattle.packed.specs.declared.refusal.Refusal.{Refusal}
use Rattle.drafts.specs.declared.record.Record.{Record}
use Rattle.drafts.specs.Added.{sound}
use Rattle.drafts.specs.Bulk.{AddsAll}
use Rattle.drafts.proofs.bulk.add_all.Given as goal

-- the draft stays sound, and however the adds end from here, so they end from the start
abbrev pub invariant-loop-place : goal.invariant-loop-place
invariant-loop-place l =
    (length l.file ≤ 65535) × (l.draft.nodes ≤ length l.table) × (sound l.file l.table l.draft.nodes ≡ true) ×
    ((m : ℕ) (new : List Record) (q : ℕ) (stop : Result (Unit {0}) Refusal) → AddsAll l.file l.draft.nodes l.table l.place m new q stop →
    AddsAll l.file 0 l.initial.table l.initial.place m new q stop)

abbrev pub decreases-loop-place : goal.decreases-loop-place
decreases-loop-place l = length l.file - l.place
