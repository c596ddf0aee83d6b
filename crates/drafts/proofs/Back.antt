-- The walk back over the nodes that wait.
use Rattle.std.proofs.Common.{◌≡◌, ℕ, zero, suc, ◌+◌, ◌-◌, ◌<◌, ◌≤◌, false, eqb, List, [], ◌∷◌, length, map, Some, None, Option, sym, refl, ap, ◌∙◌, arith}
use Rattle.std.specs.List.{last_or}
use Rattle.std.specs.Option.{MatchOption}
use Rattle.drafts.specs.declared.record.Source.{Source}
use Rattle.drafts.specs.Tree.{Node, Nodes, node, none, ◌▸◌, many, sizes, last_of, before_of, at, waits, tree_in, SpannedIn}
use Rattle.drafts.specs.Grammar.{first_is}
use Rattle.drafts.specs.Walk.{back}
use Rattle.drafts.proofs.Places.{all_wait, before_before, layout, span_fits, last_more}

module _ (s : Source) (e i x : ℕ) (spanned : SpannedIn s e) (some : 0 < e) (last : i ≡ e - 1) (span : x ≡ (at s.records.now i).span) where
  pub walk_step : back (waits s e) ≡ tree_in s i ∷ back (waits s (e - x))
  walk_step = rw (span, last) (ap back (layout s.file.now s.records.now e spanned some))

  pub span_within : x ≤ e
  span_within = rw (span, last) (span_fits s.file.now s.records.now e spanned some).0

pub length-back : (ns : Nodes) → length (back ns) ≡ many ns
length-back none = refl
length-back (ns ▸ n) = ap suc (length-back ns)

many_sizes : (ns : Nodes) → many ns ≤ sizes ns
many_sizes none = omega arith
many_sizes (ns ▸ node h below) = omega (arith, many_sizes ns)

-- no more nodes wait than there are records
pub back_few : (s : Source) (e : ℕ) → length (back (waits s e)) ≤ e
back_few s e = omega (arith, length-back (waits s e), many_sizes (waits s e), all_wait s.file.now s.records.now e)

unback : List Node → Nodes
unback [] = none
unback (n ∷ ns) = unback ns ▸ n

unback_back : (ns : Nodes) → unback (back ns) ≡ ns
unfolding unback
unback_back none = refl
unback_back (ns ▸ n) = ap (λ (ms : Nodes). ms ▸ n) (unback_back ns)

-- the nodes, by the walk back over them
pub none_back : (ns : Nodes) → back ns ≡ [] → ns ≡ none
unfolding unback
none_back ns e = sym (unback_back ns) ∙ ap unback e

pub some_back : (ns rest : Nodes) (n : Node) → back ns ≡ n ∷ back rest → ns ≡ rest ▸ n
unfolding unback
some_back ns rest n e = sym (unback_back ns) ∙ ap unback e ∙ ap (λ (ms : Nodes). ms ▸ n) (unback_back rest)

-- one step of a walk over the last k nodes
pub last_step : (k : ℕ) (ns rest : Nodes) (n : Node) → 0 < k → back ns ≡ n ∷ back rest → back (last_of k ns) ≡ n ∷ back (last_of (k - 1) rest)
last_step k ns rest n p e = rw (some_back ns rest n e) (ap back (last_more k rest n p))

pub before_more : (k : ℕ) (ns rest : Nodes) (n : Node) → before_of k ns ≡ rest ▸ n → before_of (k + 1) ns ≡ rest
before_more k ns rest n e = sym (before_before k 1 ns) ∙ ap (before_of 1) e

pub many_before : (k : ℕ) (ns : Nodes) → k ≤ many ns → many (before_of k ns) + k ≡ many ns
many_before zero ns h = omega arith
many_before (suc k) none h = absurd (omega arith)
many_before (suc k) (ns ▸ n) h = omega (arith, many_before k ns (omega arith))

-- the first of the nodes is the last of the walk

no_cons : (n : Node) (ns : List Node) → n ∷ ns ≡ [] → ⊥
no_cons n ns e = let more = ap length e in omega arith

abbrev pub kind_in : Node → ℕ
kind_in (node h below) = h.kind

module _ {A : Type 0} (view : A → Node) (k : ℕ) where
  -- what the last item, if there is one, says of the first of the nodes
  abbrev pub First : Nodes → Option A → Type 0
  First ns o = MatchOption o (first_is k ns ≡ false) (λ x. first_is k ns ≡ eqb (kind_in (view x)) k)

  last_or_first : (ns : Nodes) (n : Node) (x : A) (xs : List A) → view x ≡ n → map view xs ≡ back ns → First (ns ▸ n) (last_or (Some x) xs)
  last_or_first none (node h below) x [] v e = rw v refl
  last_or_first none (node h below) x (y ∷ xs) v e = absurd (no_cons (view y) (map view xs) e)
  last_or_first (ns ▸ m) n x [] v e = absurd (no_cons m (back ns) (sym e))
  last_or_first (ns ▸ m) n x (y ∷ xs) v e = last_or_first ns m y xs (cc) (cc)

  pub last_first : (ns : Nodes) (xs : List A) → map view xs ≡ back ns → First ns (last_or None xs)
  last_first none [] e = refl
  last_first none (x ∷ xs) e = absurd (no_cons (view x) (map view xs) e)
  last_first (ns ▸ n) [] e = absurd (no_cons n (back ns) (sym e))
  last_first (ns ▸ n) (x ∷ xs) e = last_or_first ns n x xs (cc) (cc)
