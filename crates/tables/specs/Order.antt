-- Ordered tables: their keys, byte order, and where a key stands.
--     order x y      x against y in byte order: the first number that differs decides, else the lengths
--     ascends ks     each key stands below the next
--     position ks k  where k stands first in ks
--     listed ks k    whether k is one of ks
use Rattle.std.specs.Prelude.{◌≡◌, ℕ, suc, ◌<◌, Bool, true, false, cond, ◌&&◌, ◌||◌, List, [], ◌∷◌, length, Some, None, Option, slice_index_or}
use Rattle.std.specs.declared.cmp.Ordering.{Ordering}
use Rattle.std.specs.Cmp.Lexicographic.{slice_cmp}
use Rattle.std.specs.Option.{option_map}
use Rattle.std.specs.Ordering.{is_lt, nat_cmp}
use Rattle.std.specs.Str.{bytes_eq}

abbrev pub order : List ℕ → List ℕ → Ordering
order xs ys = slice_cmp nat_cmp xs ys

abbrev pub above : List ℕ → List (List ℕ) → Bool
above k [] = true
above k (l ∷ ls) = is_lt (order k l) && above l ls

abbrev pub ascends : List (List ℕ) → Bool
ascends [] = true
ascends (k ∷ ks) = above k ks

abbrev pub position : List (List ℕ) → List ℕ → Option ℕ
position [] k = None
position (x ∷ ks) k = cond (bytes_eq x k) (Some 0) (option_map suc (position ks k))

abbrev pub listed : List (List ℕ) → List ℕ → Bool
listed [] k = false
listed (x ∷ ks) k = bytes_eq x k || listed ks k

-- the key k stands at place i
abbrev pub Stands : List (List ℕ) → ℕ → List ℕ → Type 0
Stands ks i k = (i < length ks) × (slice_index_or ks i [] ≡ k)

-- r is the place where k stands, and `None` where k stands nowhere
abbrev pub Located : List (List ℕ) → List ℕ → Option ℕ → Type 0
Located ks k r = ((i : ℕ) → r ≡ Some i → Stands ks i k) × ((i : ℕ) → Stands ks i k → r ≡ Some i)
