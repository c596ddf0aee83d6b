-- Integer indices: whole numbers from 0 to 4,294,967,295.
use Rattle.std.specs.Prelude.{ℕ, ◌+◌, ◌-◌, ◌*◌, ◌^◌, Bool, false, cond, ◌&&◌, List, [], ◌∷◌, Some, None, Option, nat_lt, Float}
use Rattle.std.specs.Float.{binary64}
use Rattle.std.specs.Float.Ieee.{in_unsigned, to_unsigned}
use Rattle.std.specs.Str.{all_ascii_digits}
use Rattle.text.specs.Numbers.{literal_bytes}

-- the number that a float is, where that is whole, not negative and below 2^32
abbrev pub float_index : Float → Option ℕ
float_index x = cond (in_unsigned binary64 32 x) (Some (to_unsigned 32 x)) None

abbrev pub index_then : Option Float → Option ℕ
index_then (Some x) = float_index x
index_then None = None

-- the index that the eight bytes of a number literal write
abbrev pub number_index : List ℕ → Option ℕ
number_index bs = index_then (literal_bytes bs)

-- the number that decimal digits write, after the number so far
abbrev pub decimal_from : ℕ → List ℕ → ℕ
decimal_from n [] = n
decimal_from n (c ∷ cs) = decimal_from (10 * n + (c - 48)) cs

-- one digit or more
abbrev pub digits : List ℕ → Bool
digits [] = false
digits (c ∷ cs) = all_ascii_digits (c ∷ cs)

-- the index that digits write: so a `-` writes none, and neither does a number from 2^32 on
abbrev pub digits_index : List ℕ → Option ℕ
digits_index bs = cond (digits bs && nat_lt (decimal_from 0 bs) (2 ^ 32)) (Some (decimal_from 0 bs)) None
