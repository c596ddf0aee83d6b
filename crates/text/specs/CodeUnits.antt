-- Strings as ECMA-262 has them: sequences of UTF-16 code units.
use Rattle.std.specs.Prelude.{ℕ, suc, ◌+◌, ◌-◌, ◌/◌, ◌%◌, Bool, cond, ◌&&◌, List, [], ◌∷◌, ◌++◌, nat_le}

-- UTF16EncodeCodePoint (11.1.1): one code unit up to 0xFFFF, else a leading and a trailing surrogate
abbrev pub encoded : ℕ → List ℕ
encoded c =
    cond (nat_le c 0xFFFF) (c ∷ []) (((c - 0x10000) / 0x400 + 0xD800) ∷ ((c - 0x10000) % 0x400 + 0xDC00) ∷ [])

-- CodePointsToString (11.1.2): the code units of each code point, joined; the length of a string is how many there are
abbrev pub code_units : List ℕ → List ℕ
code_units [] = []
code_units (c ∷ cs) = encoded c ++ code_units cs

abbrev pub leading : ℕ → Bool
leading u = nat_le 0xD800 u && nat_le u 0xDBFF

abbrev pub trailing : ℕ → Bool
trailing u = nat_le 0xDC00 u && nat_le u 0xDFFF

-- the steps of an iteration over a string: at each it goes on by what CodePointAt (11.1.4) takes,
-- two code units where a leading surrogate stands before a trailing one, and else one
abbrev pub steps : List ℕ → ℕ
steps [] = 0
steps (u ∷ []) = 1
steps (u ∷ (v ∷ us)) = cond (leading u && trailing v) (suc (steps us)) (suc (steps (v ∷ us)))
