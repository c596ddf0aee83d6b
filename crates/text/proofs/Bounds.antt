-- The bit patterns of number literals are those up to infinity's.
use Rattle.std.proofs.Common.{◌≡◌, ℕ, ◌%◌, ◌^◌, ◌<◌, ◌≤◌, Bool, true, false, not, T, ◌&&◌, ltb, leb, is_some, Some, None, Option, IfSome, sym, refl, ap, ◌∙◌, subst, arith, ltb-true, leb-true, leb-false, le-ltb, lt-ltb}
use Rattle.std.specs.Bool.{IsTrue}
use mathlib.Core.Bool.{and-false}
use lib.Ieee.{Float, binary64, of_bits, is_nan, nan_bits}
use lib.Ieee.Bits.{nan_bits_is, nan_bits_above}
use Rattle.text.specs.Numbers.{number_bits, literal}

-- a NaN's pattern, its sign taken off, is above infinity's
nan_test : (bits : ℕ) → is_nan (of_bits binary64 bits) ≡ ltb 0x7ff0_0000_0000_0000 (bits % 2 ^ 63)
nan_test bits = sym (nan_bits_is binary64 bits) ∙ nan_bits_above binary64 bits

pub no_nan : (bits : ℕ) → bits ≤ 0x7ff0_0000_0000_0000 → nan_bits binary64 bits ≡ false
no_nan bits h =
    let low : bits % 2 ^ 63 ≤ 0x7ff0_0000_0000_0000 = omega arith in
    nan_bits_above binary64 bits ∙ le-ltb 0x7ff0_0000_0000_0000 (bits % 2 ^ 63) low

pub up_to_infinity : (bits : ℕ) → bits ≤ 0x7ff0_0000_0000_0000 → number_bits bits ≡ true
up_to_infinity bits h =
    rw (sym (nan_bits_is binary64 bits) ∙ no_nan bits h, lt-ltb bits (2 ^ 63) (omega arith))

above : (bits : ℕ) (b : Bool) → ltb bits (2 ^ 63) ≡ b → 0x7ff0_0000_0000_0000 < bits → (not (is_nan (of_bits binary64 bits)) && b) ≡ false
above bits true e h =
    let small : bits < 2 ^ 63 = ltb-true bits (2 ^ 63) e in
    let high : 0x7ff0_0000_0000_0000 < bits % 2 ^ 63 = omega arith in
    rw (nan_test bits ∙ lt-ltb 0x7ff0_0000_0000_0000 (bits % 2 ^ 63) high)
above bits false e h = and-false _

pub above_infinity : (bits : ℕ) → 0x7ff0_0000_0000_0000 < bits → number_bits bits ≡ false
above_infinity bits h = above bits (ltb bits (2 ^ 63)) refl h

-- up to infinity's, a bit pattern is no NaN's
pub number_bits_from : (bits : ℕ) → IsTrue (leb bits 0x7ff0_0000_0000_0000) → T (not (nan_bits binary64 bits))
number_bits_from bits h = subst (λ (b : Bool). T (not b)) (sym (no_nan bits (leb-true bits 0x7ff0_0000_0000_0000 h))) tt

-- the float of a bit pattern, where the pattern is at most infinity's
pub literal_answer : (bits : ℕ) (o : Option Float) → is_some o ≡ leb bits 0x7ff0_0000_0000_0000 → IfSome o (λ x. x ≡ of_bits binary64 bits) → o ≡ literal bits
literal_answer bits (Some x) e h = rw (up_to_infinity bits (leb-true bits 0x7ff0_0000_0000_0000 (sym e))) (ap Some h)
literal_answer bits None e h = rw (above_infinity bits (leb-false bits 0x7ff0_0000_0000_0000 (sym e)))
