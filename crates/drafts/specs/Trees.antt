-- What holds of the trees of a draft.
use Rattle.std.specs.Prelude.{◌≡◌, ℕ, zero, suc, ◌-◌, ◌<◌, Bool, true, not, ◌&&◌, List, length, Ok, Result, ◌==◌}
use Rattle.packed.specs.declared.refusal.Refusal.{Refusal}
use Rattle.packed.specs.Reading.{and_then}
use Rattle.drafts.specs.declared.record.Record.{Record}
use Rattle.drafts.specs.Tree.{Header, Node, Nodes, node, none, ◌▸◌, many, sizes, at, waiting, tree, below_of}
use Rattle.drafts.specs.Table.{row_of, text_of}
use Rattle.drafts.specs.TextRules.{text_fits}
use Rattle.drafts.specs.Added.{known, allowed, checked}
use Rattle.drafts.specs.Left.{Leads, Left}

-- a node is what its row says, and no TypeScript-only declaration
abbrev pub shaped : Header → Nodes → Bool
shaped h below =
    known h.kind h.detail h.reference && (not (h.kind == 70) &&
    (text_fits (text_of (row_of h.kind)) h.detail (many below) h.text && allowed h.kind h.detail below))

-- and so is every node below it
abbrev mutual
  pub obeys : Node → Bool
  obeys (node h below) = shaped h below && all_obey below

  pub all_obey : Nodes → Bool
  all_obey none = true
  all_obey (before ▸ n) = all_obey before && obeys n

-- k nodes, found by walking spans backwards from the end e: the last of them is node e - 1, and the one before it ends where its span begins
abbrev pub walked : List ℕ → List Record → ℕ → ℕ → Nodes
walked file rs e zero = none
walked file rs e (suc k) = walked file rs (e - (at rs (e - 1)).span) k ▸ tree file rs (e - 1)

-- of every draft that accepted adds leave
pub record TreesStand (file : List ℕ) : Type 0 where
  -- a node's children, and the lines, are found by walking spans backwards
  pub children : (rs : List Record) (n : ℕ) → Left file rs n → (i : ℕ) → i < n → below_of file rs i ≡ walked file rs i (at rs i).count
  pub lines : (rs : List Record) (n : ℕ) → Left file rs n → waiting file rs n ≡ walked file rs n (many (waiting file rs n))
  -- the lines have all nodes
  pub all : (rs : List Record) (n : ℕ) → Left file rs n → sizes (waiting file rs n) ≡ n
  -- later adds leave the trees of earlier nodes alone
  pub kept : (rs : List Record) (n : ℕ) (new : List Record) (m : ℕ) → Leads file rs n new m → (i : ℕ) → i < n → tree file new i ≡ tree file rs i
  -- every tree obeys the grammar
  pub obeyed : (rs : List Record) (n : ℕ) → Left file rs n → (i : ℕ) → i < n → obeys (tree file rs i) ≡ true

-- how many lines a draft of n nodes has; a foreign table is refused at the file's length
abbrev pub lines_counted : List ℕ → ℕ → List Record → Result ℕ Refusal
lines_counted file n rs = and_then (checked file n rs (length file)) (λ _. Ok (many (waiting file rs n)))
