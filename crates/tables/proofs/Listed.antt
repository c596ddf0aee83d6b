-- A key has a position exactly where it is listed.
use Rattle.std.proofs.Common.{◌≡◌, ℕ, suc, Bool, true, false, cond, ◌||◌, List, [], ◌∷◌, is_some, Some, None, Option, refl, ap, ◌∙◌}
use Rattle.std.specs.Option.{option_map}
use Rattle.std.specs.Str.{bytes_eq}
use Rattle.tables.specs.Order.{position, listed}

either : (b : Bool) (o : Option ℕ) → is_some (cond b (Some 0) (option_map suc o)) ≡ (b || is_some o)
either true o = refl
either false None = refl
either false (Some n) = refl

pub position_listed : (ks : List (List ℕ)) (k : List ℕ) → is_some (position ks k) ≡ listed ks k
position_listed [] k = refl
position_listed (x ∷ ks) k = either (bytes_eq x k) (position ks k) ∙ ap (λ b. bytes_eq x k || b) (position_listed ks k)
