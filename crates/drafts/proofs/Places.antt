-- Where the children of a node stand among the records.
use Rattle.std.proofs.Common.{◌≡◌, ℕ, zero, suc, ◌+◌, ◌-◌, ◌<◌, ◌≤◌, List, refl, ap, ◌∙◌, suc-add, zero-add, arith}
use native.Mathlib.Nat.{sub-zero}
use Rattle.drafts.specs.declared.record.Record.{Record}
use Rattle.drafts.specs.Tree.{Node, Nodes, none, ◌▸◌, sizes, many, last_of, before_of, at, waiting, tree, Spanned}

pub before_before : (c k : ℕ) (ns : Nodes) → before_of k (before_of c ns) ≡ before_of (c + k) ns
before_before zero k ns = rw zero-add
before_before (suc c) zero none = rw suc-add
before_before (suc c) (suc k) none = rw suc-add
before_before (suc c) k (before ▸ n) = rw suc-add (before_before c k before)

last_last : (c k : ℕ) (ns : Nodes) → sizes (last_of (c + k) ns) ≡ sizes (last_of k (before_of c ns)) + sizes (last_of c ns)
last_last zero k ns = rw zero-add (omega arith)
last_last (suc c) zero none = rw suc-add (omega arith)
last_last (suc c) (suc k) none = rw suc-add (omega arith)
last_last (suc c) k (before ▸ n) = rw suc-add (omega (arith, last_last c k before))

pub sizes_split : (c : ℕ) (ns : Nodes) → sizes (before_of c ns) + sizes (last_of c ns) ≡ sizes ns
sizes_split zero ns = omega arith
sizes_split (suc c) none = refl
sizes_split (suc c) (before ▸ n) = omega (arith, sizes_split c before)

-- the nodes that wait have all nodes
pub all_wait : (file : List ℕ) (rs : List Record) (i : ℕ) → sizes (waiting file rs i) ≡ i
all_wait file rs zero = refl
all_wait file rs (suc i) = omega (arith, all_wait file rs i, sizes_split (at rs i).count (waiting file rs i))

-- what waits before the last k waiting nodes is what waited before the records of those
before_waits : (file : List ℕ) (rs : List Record) (i k : ℕ) → before_of k (waiting file rs i) ≡ waiting file rs (i - sizes (last_of k (waiting file rs i)))
before_waits file rs zero zero = refl
before_waits file rs zero (suc k) = refl
before_waits file rs (suc i) zero = rw sub-zero
before_waits file rs (suc i) (suc k) =
    before_before c k w ∙ before_waits file rs i (c + k) ∙ ap (waiting file rs) (omega (arith, last_last c k w))
  where
    c : ℕ
    c = (at rs i).count

    w : Nodes
    w = waiting file rs i

-- the last node that waits is the one added last, and the others are those that waited before its records
pub layout : (file : List ℕ) (rs : List Record) (e : ℕ) → Spanned file rs e → 0 < e →
    waiting file rs e ≡ waiting file rs (e - (at rs (e - 1)).span) ▸ tree file rs (e - 1)
layout file rs zero s p = absurd (omega arith)
layout file rs (suc c) s p =
    let back : suc c - 1 ≡ c = omega arith in
    rw back (ap (λ ns. ns ▸ tree file rs c) (before_waits file rs c (at rs c).count ∙ ap (waiting file rs) (omega (arith, (s c (omega arith)).1))))

pub span_fits : (file : List ℕ) (rs : List Record) (e : ℕ) → Spanned file rs e → 0 < e → ((at rs (e - 1)).span ≤ e) × (0 < (at rs (e - 1)).span)
span_fits file rs zero s p = absurd (omega arith)
span_fits file rs (suc c) s p =
    let back : suc c - 1 ≡ c = omega arith in
    rw back (omega (arith, (s c (omega arith)).1, all_wait file rs (suc c)))

-- the walk back over the last k waiting nodes

pub some_wait : (file : List ℕ) (rs : List Record) (e : ℕ) → 0 < many (waiting file rs e) → 0 < e
some_wait file rs zero h = h
some_wait file rs (suc c) h = omega arith

pub last_more : (k : ℕ) (ns : Nodes) (n : Node) → 0 < k → last_of k (ns ▸ n) ≡ last_of (k - 1) ns ▸ n
last_more zero ns n h = absurd (omega arith)
last_more (suc k) ns n h = let back : suc k - 1 ≡ k = omega arith in rw back

pub many_step : (file : List ℕ) (rs : List Record) (e : ℕ) → Spanned file rs e → 0 < e →
    many (waiting file rs e) ≡ suc (many (waiting file rs (e - (at rs (e - 1)).span)))
many_step file rs e s p = ap many (layout file rs e s p)

pub spanned_less : (file : List ℕ) (rs : List Record) (n m : ℕ) → Spanned file rs n → m ≤ n → Spanned file rs m
spanned_less file rs n m s h i l = s i (omega arith)
