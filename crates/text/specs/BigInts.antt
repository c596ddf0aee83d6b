-- BigInt literals: `0`, or an optional `-` and decimal digits of which the first is not `0`.
use Rattle.std.specs.Prelude.{ℕ, Bool, false, cond, not, ◌&&◌, ◌||◌, List, [], ◌∷◌, codes, ◌==◌}
use Rattle.std.specs.Str.{all_ascii_digits, bytes_eq}

-- digits, the first not `0`
abbrev pub positive : List ℕ → Bool
positive [] = false
positive (c ∷ cs) = not (c == 48) && all_ascii_digits (c ∷ cs)

-- what follows a `-`, if the text begins with one
abbrev pub after_minus : List ℕ → List ℕ
after_minus [] = []
after_minus (c ∷ cs) = cond (c == 45) cs (c ∷ cs)

abbrev pub big_int : List ℕ → Bool
big_int bs = bytes_eq bs (codes "0") || positive (after_minus bs)
