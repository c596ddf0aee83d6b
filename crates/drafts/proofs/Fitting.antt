-- How items are tried from the last one back.
use Rattle.std.proofs.Common.{◌≡◌, ℕ, suc, ◌+◌, ◌-◌, ◌<◌, ◌≤◌, Bool, true, false, ◌&&◌, eqb, ltb, List, [], ◌∷◌, ◌++◌, length, sym, refl, ap, arith, lt-ltb, ne_eqb}
use mathlib.Core.Bool.{and-false}
use Rattle.std.proofs.Math.Bool.{or-false}
use Rattle.drafts.specs.declared.row.Item.{Item}
use Rattle.drafts.specs.declared.row.Item.TheVariants.{One, Maybe, Many, AtLeastOne, If}
use Rattle.drafts.specs.declared.row.Set.{Set}
use Rattle.drafts.specs.Tree.{Node, Nodes, none, ◌▸◌, many}
use Rattle.drafts.specs.Grammar.{has, ends_in, empty, fits_behind, fits, set_of, least_of, most_of}

pub empty_many : (ns : Nodes) → empty ns ≡ eqb (many ns) 0
empty_many none = refl
empty_many (ns ▸ n) = sym (ne_eqb (suc (many ns)) 0 (omega arith))

-- no items allow exactly no nodes
pub fits_nothing : (items : List Item) (d k : ℕ) (ns : Nodes) → length items ≡ 0 → many ns ≡ k → eqb k 0 ≡ fits items d ns
fits_nothing [] d k ns h e = rw (sym e) (sym (empty_many ns))
fits_nothing (i ∷ items) d k ns h e = absurd (omega arith)

-- one item behind others
behind_last : (front : Nodes → Bool) (items : List Item) (item : Item) (d : ℕ) →
    fits_behind front (items ++ item ∷ []) d ≡ ends_in (set_of item) d (fits_behind front items d) (least_of item d) (most_of item d)
behind_last front [] item d = refl
behind_last front (i ∷ items) item d = behind_last (ends_in (set_of i) d front (least_of i d) (most_of i d)) items item d

pub fits_last : (all items : List Item) (item : Item) (d : ℕ) (ns : Nodes) → all ≡ items ++ item ∷ [] →
    fits all d ns ≡ ends_in (set_of item) d (fits items d) (least_of item d) (most_of item d) ns
fits_last all items item d ns e = rw e (ap (λ (f : Nodes → Bool). f ns) (behind_last empty items item d))

pub least_most : (item : Item) (d : ℕ) → least_of item d ≤ most_of item d
least_most (One s) d = omega arith
least_most (Maybe s) d = omega arith
least_most (Many s) d = omega arith
least_most (AtLeastOne s) d = omega arith
least_most (If flag s) d = omega arith

-- no way to end here
abbrev pub NotHere : (Nodes → Bool) → ℕ → Nodes → Type 0
NotHere rest least ns = (eqb least 0 && rest ns) ≡ false

pub not_least : (rest : Nodes → Bool) (least : ℕ) (ns : Nodes) → (least ≡ 0 → ⊥) → NotHere rest least ns
not_least rest least ns h = rw (ne_eqb least 0 h)

pub not_rest : (rest : Nodes → Bool) (least : ℕ) (ns : Nodes) → false ≡ rest ns → NotHere rest least ns
not_rest rest least ns h = rw (sym h) (and-false _)

pub ends_here : (s : Set) (d : ℕ) (rest : Nodes → Bool) (least most : ℕ) (ns : Nodes) → least ≡ 0 → rest ns ≡ true → true ≡ ends_in s d rest least most ns
ends_here s d rest least most none z e = rw (z, e)
ends_here s d rest least most (ns ▸ n) z e = rw (z, e)

module _ (s : Set) (d : ℕ) (rest : Nodes → Bool) (least most : ℕ) where
  -- what is left to try when `taken` nodes were taken
  abbrev pub tried : ℕ → Nodes → Bool
  tried taken ns = ends_in s d rest (least - taken) (most - taken) ns

  module _ (t : ℕ) where
    pub tried_here : (ns : Nodes) → least ≤ t → rest ns ≡ true → true ≡ tried t ns
    tried_here ns l e = ends_here s d rest (least - t) (most - t) ns (omega arith) e

    pub tried_none : (ws : Nodes) → NotHere rest (least - t) ws → ws ≡ none → false ≡ tried t ws
    tried_none ws h e = sym (rw e (rw e at h))

    pub tried_other : (ws ns : Nodes) (n : Node) → NotHere rest (least - t) ws → ws ≡ ns ▸ n → has s d n ≡ false → false ≡ tried t ws
    tried_other ws ns n h e f =
        let there : NotHere rest (least - t) (ns ▸ n) = rw e at h in
        sym (rw (e, there, f) (and-false _))

    pub tried_more : (ws ns : Nodes) (n : Node) → t < most → NotHere rest (least - t) ws → ws ≡ ns ▸ n → has s d n ≡ true → tried t ws ≡ tried (t + 1) ns
    tried_more ws ns n room h e f =
        let there : NotHere rest (least - t) (ns ▸ n) = rw e at h in
        let one : least - t - 1 ≡ least - (t + 1) = omega arith in
        let two : most - t - 1 ≡ most - (t + 1) = omega arith in
        let more : ltb 0 (most - t) ≡ true = lt-ltb 0 (most - t) (omega arith) in
        rw (e, there, f, one, two, more) refl

    -- no more may be taken
    pub tried_all : (ns : Nodes) → least ≤ t → most ≤ t → rest ns ≡ tried t ns
    tried_all none l m = let z : least - t ≡ 0 = omega arith in rw z refl
    tried_all (ns ▸ n) l m =
        let z : least - t ≡ 0 = omega arith in
        let o : most - t ≡ 0 = omega arith in
        rw (z, o) (sym (or-false _))

  pub tried_start : (ns : Nodes) → ends_in s d rest least most ns ≡ tried 0 ns
  tried_start ns = let all : least - 0 ≡ least = omega arith in let most : most - 0 ≡ most = omega arith in rw (all, most) refl
