-- What strict ascent says of any two entries, and of where a key stands.
use Rattle.std.proofs.Common.{◌≡◌, ℕ, zero, suc, ◌+◌, ◌<◌, ◌≤◌, Bool, true, false, cond, ◌⊎◌, List, [], ◌∷◌, length, get_or, Some, None, Option, Ordering, Less, Equal, Greater, sym, refl, ap, ◌∙◌, ⊎_elim, true≢false, le_of_suc-le-suc, not-suc-le-zero, arith}
use Rattle.std.specs.Cmp.{nat_cmp_total, alike_right}
use Rattle.std.specs.Cmp.Lexicographic.{lists_total}
use Rattle.std.specs.Option.{option_map}
use Rattle.std.specs.Ordering.{is_lt, is_eq, ordering_reverse}
use Rattle.std.specs.Str.{bytes_eq}
use Rattle.std.proofs.lemmas.Map.Text.{is_eq-slice_cmp}
use Rattle.std.proofs.lemmas.Slice.Eq.{bytes_eq-Decides}
use Rattle.std.proofs.lemmas.Bool.{and_parts, cases_eq, cases_lt}
use Rattle.tables.specs.Order.{order, above, ascends, position, Located}

is_less : (o : Ordering) → is_lt o ≡ true → o ≡ Less
is_less Less h = refl
is_less Equal h = absurd (true≢false (sym h))
is_less Greater h = absurd (true≢false (sym h))

chain : (x y z : List ℕ) → order x y ≡ Less → order y z ≡ Less → order x z ≡ Less
chain = (lists_total nat_cmp_total).trans

flip : (x y : List ℕ) (o : Ordering) → order x y ≡ o → order y x ≡ ordering_reverse o
flip x y o e = (lists_total nat_cmp_total).antisymm y x ∙ ap ordering_reverse e

-- the first key stands below each later one
head_below : (k : List ℕ) (ks : List (List ℕ)) → above k ks ≡ true → (j : ℕ) → j < length ks → order k (get_or ks j []) ≡ Less
head_below k [] h j l = absurd (not-suc-le-zero l)
head_below k (x ∷ ks) h zero l = is_less (order k x) (and_parts (is_lt (order k x)) (above x ks) h).0
head_below k (x ∷ ks) h (suc j) l =
    let both = and_parts (is_lt (order k x)) (above x ks) h in
    chain k x (get_or ks j []) (is_less (order k x) both.0) (head_below x ks both.1 j (le_of_suc-le-suc l))

tail : (k : List ℕ) (ks : List (List ℕ)) → above k ks ≡ true → ascends ks ≡ true
tail k [] h = refl
tail k (x ∷ ks) h = (and_parts (is_lt (order k x)) (above x ks) h).1

-- the test, lifted to any two entries
pub ascending : (ks : List (List ℕ)) → ascends ks ≡ true → (i j : ℕ) → i < j → j < length ks → order (get_or ks i []) (get_or ks j []) ≡ Less
ascending [] h i j l m = absurd (not-suc-le-zero m)
ascending (k ∷ ks) h i zero l m = absurd (not-suc-le-zero l)
ascending (k ∷ ks) h zero (suc j) l m = head_below k ks h j (le_of_suc-le-suc m)
ascending (k ∷ ks) h (suc i) (suc j) l m = ascending ks (tail k ks h) i j (le_of_suc-le-suc l) (le_of_suc-le-suc m)

-- a key that stands at no entry has no position
pub position_none : (ks : List (List ℕ)) (k : List ℕ) → ((i : ℕ) → i < length ks → is_eq (order (get_or ks i []) k) ≡ false) → position ks k ≡ None
position_none [] k h = refl
position_none (x ∷ ks) k h =
    rw (← is_eq-slice_cmp x k, h 0 (omega arith), position_none ks k (λ i l. h (suc i) (omega arith)))

-- the first entry that is the key is its position
pub position_at : (ks : List (List ℕ)) (k : List ℕ) (i : ℕ) → i < length ks → is_eq (order (get_or ks i []) k) ≡ true → ((j : ℕ) → j < i → is_eq (order (get_or ks j []) k) ≡ false) → position ks k ≡ Some i
position_at [] k i l e h = absurd (not-suc-le-zero l)
position_at (x ∷ ks) k zero l e h = rw (← is_eq-slice_cmp x k, e)
position_at (x ∷ ks) k (suc i) l e h =
    rw (← is_eq-slice_cmp x k, h 0 (omega arith), position_at ks k i (le_of_suc-le-suc l) e (λ j m. h (suc j) (omega arith)))

cases_le : (i m : ℕ) → i ≤ m → (i ≡ m) ⊎ (i < m)
cases_le i m l = grind (arith, cases_eq i m)

-- One step of the search: the entry m is compared with the key k.
module _ (ks : List (List ℕ)) (up : ascends ks ≡ true) (k : List ℕ) (m : ℕ) (within : m < length ks) where
  -- the entries up to one that is below the key are below it
  pub below_more : Less ≡ order (get_or ks m []) k → (i : ℕ) → i < m + 1 → order (get_or ks i []) k ≡ Less
  below_more e i l =
      ⊎_elim (λ (h : i ≡ m). ap (λ n. order (get_or ks n []) k) h ∙ sym e)
      (λ (h : i < m). chain (get_or ks i []) (get_or ks m []) k (ascending ks up i m h within) (sym e)) (cases_le i m (omega arith))

  -- the entries from one that is above the key are above it
  pub above_more : Greater ≡ order (get_or ks m []) k → (i : ℕ) → m ≤ i → i < length ks → order (get_or ks i []) k ≡ Greater
  above_more e i l w =
      ⊎_elim (λ (h : m ≡ i). ap (λ n. order (get_or ks n []) k) (sym h) ∙ sym e)
      (λ (h : m < i). flip k (get_or ks i []) Less (chain k (get_or ks m []) (get_or ks i []) (flip (get_or ks m []) k Greater (sym e)) (ascending ks up m i h w)))
      (cases_le m i l)

  -- an entry that is the key is its position
  pub position_found : Equal ≡ order (get_or ks m []) k → Some m ≡ position ks k
  position_found e =
      sym (position_at ks k m within (ap is_eq (sym e)) (λ i l. ap is_eq (sym (alike_right (lists_total nat_cmp_total) (get_or ks m []) k (get_or ks i []) (sym e)) ∙ ascending ks up i m l within)))

-- no entry is left between those below the key and those above it
pub position_missing : (ks : List (List ℕ)) (k : List ℕ) (low high : ℕ) → high ≤ low → ((i : ℕ) → i < low → order (get_or ks i []) k ≡ Less) → ((i : ℕ) → high ≤ i → i < length ks → order (get_or ks i []) k ≡ Greater) → None ≡ position ks k
position_missing ks k low high met below above =
    sym (position_none ks k (λ i l. ⊎_elim (λ (h : i < low). ap is_eq (below i h)) (λ (h : low ≤ i). ap is_eq (above i (omega arith) l)) (cases_lt i low)))

pub some_none : {X : Type 0} (x : X) → Some x ≡ None → ⊥
some_none x e = let z : ◌≡◌ {A = ℕ} 0 1 = cc in omega arith

within_step : (b : Bool) (o : Option ℕ) (i n : ℕ) → Some i ≡ cond b (Some 0) (option_map suc o) → ((j : ℕ) → Some j ≡ o → j < n) → i < suc n
within_step true o i n e rest = let here : i ≡ 0 = cc in omega arith
within_step false None i n e rest = absurd (some_none i e)
within_step false (Some j) i n e rest = let here : i ≡ suc j = cc in omega (arith, rest j refl)

-- a position is a place in the table
pub position_within : (ks : List (List ℕ)) (k : List ℕ) (i : ℕ) → Some i ≡ position ks k → i < length ks
position_within [] k i e = absurd (some_none i e)
position_within (x ∷ ks) k i e = within_step (bytes_eq x k) (position ks k) i (length ks) e (λ j h. position_within ks k j h)

is_level : (o : Ordering) → is_eq o ≡ true → Equal ≡ o
is_level Less h = absurd (true≢false (sym h))
is_level Equal h = refl
is_level Greater h = absurd (true≢false (sym h))

stands_step : (x : List ℕ) (ks : List (List ℕ)) (k : List ℕ) (b : Bool) (o : Option ℕ) (i : ℕ) → bytes_eq x k ≡ b → cond b (Some 0) (option_map suc o) ≡ Some i → ((j : ℕ) → o ≡ Some j → get_or ks j [] ≡ k) → get_or (x ∷ ks) i [] ≡ k
stands_step x ks k true o i s e rest =
    let here : 0 ≡ i = cc in
    ap (λ n. get_or (x ∷ ks) n []) (sym here) ∙ (bytes_eq-Decides x k).0 s
stands_step x ks k false None i s e rest = absurd (some_none i (sym e))
stands_step x ks k false (Some j) i s e rest =
    let here : suc j ≡ i = cc in
    ap (λ n. get_or (x ∷ ks) n []) (sym here) ∙ rest j refl

position_key : (ks : List (List ℕ)) (k : List ℕ) (i : ℕ) → position ks k ≡ Some i → get_or ks i [] ≡ k
position_key [] k i e = absurd (some_none i (sym e))
position_key (x ∷ ks) k i e = stands_step x ks k (bytes_eq x k) (position ks k) i refl e (λ j h. position_key ks k j h)

-- in a table that ascends, a position is the one place of the key
pub located : (ks : List (List ℕ)) → ascends ks ≡ true → (k : List ℕ) (r : Option ℕ) → r ≡ position ks k → Located ks k r
located ks up k r e = (
  λ i h. (position_within ks k i (sym h ∙ e), position_key ks k i (sym e ∙ h)),
  λ i h. e ∙ sym (position_found ks up k i h.0 (is_level (order (get_or ks i []) k) (is_eq-slice_cmp (get_or ks i []) k ∙ (bytes_eq-Decides (get_or ks i []) k).1 h.1))),
)
