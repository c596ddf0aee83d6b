-- Number literals: the eight bytes of an f64, the high one first, that is neither NaN nor has its sign set.
use Rattle.std.specs.Prelude.{ℕ, ◌+◌, ◌*◌, ◌^◌, Bool, cond, not, ◌&&◌, List, [], ◌∷◌, length, Some, None, Option, ◌==◌, from_bits, is_nan, nat_lt, Float}
use Rattle.std.specs.Float.{binary64}

-- no NaN, and the sign, the highest bit, not set
abbrev pub number_bits : ℕ → Bool
number_bits bits = not (is_nan (from_bits binary64 bits)) && nat_lt bits (2 ^ 63)

abbrev pub literal : ℕ → Option Float
literal bits = cond (number_bits bits) (Some (from_bits binary64 bits)) None

-- the number that bytes write, the high one first, after the number so far
abbrev pub big_endian : ℕ → List ℕ → ℕ
big_endian n [] = n
big_endian n (b ∷ bs) = big_endian (256 * n + b) bs

abbrev pub literal_bytes : List ℕ → Option Float
literal_bytes bs = cond (length bs == 8) (literal (big_endian 0 bs)) None
