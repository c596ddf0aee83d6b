-- Names by their first letter.
use Rattle.std.proofs.Common.{◌≡◌, ℕ, Bool, true, false, not, ◌||◌, List, [], ◌∷◌, ◌++◌, sym, refl, ap, ◌∙◌, true≢false}
use Rattle.std.specs.List.{list_all}
use Rattle.std.specs.Ordering.{is_lt}
use Rattle.std.specs.Str.{bytes_eq}
use Rattle.std.proofs.Math.Bool.{or_assoc, or-false}
use Rattle.std.proofs.lemmas.Bool.{and_parts, false_from_ne_true}
use Rattle.std.proofs.lemmas.Slice.Eq.{bytes_eq-Decides}
use Rattle.tables.specs.Order.{order, listed}

-- a name is in two lists together where it is in one of them
listed_both : (xs ys : List (List ℕ)) (k : List ℕ) → listed (xs ++ ys) k ≡ (listed xs k || listed ys k)
listed_both [] ys k = refl
listed_both (x ∷ xs) ys k = ap (λ b. bytes_eq x k || b) (listed_both xs ys k) ∙ sym (or_assoc (bytes_eq x k) (listed xs k) (listed ys k))

-- a name that fails a test is in no list whose names all pass it
apart : (test : List ℕ → Bool) (xs : List (List ℕ)) (k : List ℕ) → list_all test xs ≡ true → test k ≡ false → listed xs k ≡ false
apart test [] k h f = refl
apart test (x ∷ xs) k h f =
    let both = and_parts (test x) (list_all test xs) h in
    let other = false_from_ne_true (bytes_eq x k) (λ e. true≢false (sym both.0 ∙ ap test ((bytes_eq-Decides x k).0 e) ∙ f)) in
    ap (λ b. b || listed xs k) other ∙ apart test xs k both.1 f

-- a name is in two lists together as it is in the one that the other does not have
in_front : (xs ys : List (List ℕ)) (k : List ℕ) → listed ys k ≡ false → listed xs k ≡ listed (xs ++ ys) k
in_front xs ys k h = sym (listed_both xs ys k ∙ ap (λ b. listed xs k || b) h ∙ or-false (listed xs k))

behind : (xs ys : List (List ℕ)) (k : List ℕ) → listed xs k ≡ false → listed ys k ≡ listed (xs ++ ys) k
behind xs ys k h = sym (listed_both xs ys k ∙ ap (λ b. b || listed ys k) h)

-- the name k stands below the text x in byte order
abbrev pub below : List ℕ → List ℕ → Bool
below x k = is_lt (order k x)

-- Names xs that stand below a text, or names ys that do not: on which side of it the name is sought.
module _ (x : List ℕ) (xs ys : List (List ℕ)) (k : List ℕ) (b : Bool) (told : b ≡ below x k) where
  pub is_below : list_all (λ n. not (below x n)) ys ≡ true → b ≡ true → listed xs k ≡ listed (xs ++ ys) k
  is_below h t = in_front xs ys k (apart (λ n. not (below x n)) ys k h (ap not (sym told ∙ t)))

  pub is_above : list_all (below x) xs ≡ true → b ≡ false → listed ys k ≡ listed (xs ++ ys) k
  is_above h f = behind xs ys k (apart (below x) xs k h (sym told ∙ f))
