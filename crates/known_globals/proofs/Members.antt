-- Some text is the name exactly where the list of the texts has it.
use Rattle.std.proofs.Common.{◌≡◌, ℕ, ◌||◌, List, [], ◌∷◌, map, refl, ap}
use Rattle.std.specs.List.{list_any}
use Rattle.std.specs.Str.{bytes_eq}
use Rattle.tables.specs.Order.{listed}

pub any_listed : {R : Type 0} (f : R → List ℕ) (xs : List R) (k : List ℕ) → list_any (λ x. bytes_eq (f x) k) xs ≡ listed (map f xs) k
any_listed f [] k = refl
any_listed f (x ∷ xs) k = ap (λ b. bytes_eq (f x) k || b) (any_listed f xs k)
