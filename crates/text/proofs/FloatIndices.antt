-- A float that is a `u32`, found by the bits of the nearest one.
use Rattle.std.proofs.Common.{◌≡◌, ℕ, ◌^◌, ◌<◌, Bool, true, false, cond, not, T, leb, eqb, pos, Some, None, sym, refl, ap, ◌∙◌, subst, arith}
use lib.Ieee.{Float, nan, inf, fin, binary64, fits, is_nan, to_bits, of_bits, of_int, in_float, in_unsigned, to_unsigned}
use lib.Ieee.Bits.{of_bits-to_bits, is_true}
use lib.Ieee.Back.{unsigned_back, Float-back_unsigned}
use Rattle.std.specs.Bool.{then_some}
use Rattle.std.proofs.lemmas.Bool.{le-leb, eqb-true, eqb-false}
use Rattle.text.specs.Indices.{float_index}

pub holds : (b : Bool) → b ≡ true → T b
holds true e = tt
holds false e = absurd (let z : ◌≡◌ {A = ℕ} 0 1 = cc in omega arith)

-- a `u32` is a float as it stands
small_in_float : (n : ℕ) → n < 2 ^ 32 → T (in_float binary64 (pos n))
unfolding in_float
small_in_float n l = holds (leb n (2 ^ 53)) (le-leb n (2 ^ 53) (omega arith))

not_nan : (x : Float) → T (in_unsigned binary64 32 x) → T (not (is_nan x))
unfolding in_unsigned is_nan
not_nan nan h = h
not_nan (inf s) h = tt
not_nan (fin s m e) h = tt

pub float_not_nan : (n : ℕ) (y : Float) → n < 2 ^ 32 → y ≡ of_int binary64 (pos n) → T (not (is_nan y))
float_not_nan n y l e = not_nan y (subst (λ (z : Float). T (in_unsigned binary64 32 z)) (sym e) (unsigned_back binary64 32 n (small_in_float n l) l).0)

same_from_bits : (x y : Float) → T (fits binary64 x) → T (fits binary64 y) → to_bits binary64 y ≡ to_bits binary64 x → x ≡ y
same_from_bits x y f g e = sym (of_bits-to_bits binary64 x f) ∙ ap (of_bits binary64) (sym e) ∙ of_bits-to_bits binary64 y g

index_at : (x : Float) (n : ℕ) → T (in_unsigned binary64 32 x) × (to_unsigned 32 x ≡ n) → Some n ≡ float_index x
index_at x n h = sym (ap (λ b. cond b (Some (to_unsigned 32 x)) None) (is_true (in_unsigned binary64 32 x) h.0) ∙ ap Some h.1)

index_found : (x y : Float) (n : ℕ) → T (fits binary64 x) → T (fits binary64 y) → n < 2 ^ 32 → y ≡ of_int binary64 (pos n) → to_bits binary64 y ≡ to_bits binary64 x → Some n ≡ float_index x
index_found x y n f g l e b =
    let same : of_int binary64 (pos n) ≡ x = sym (same_from_bits x y f g b ∙ e) in
    subst (λ (z : Float). Some n ≡ float_index z) same (index_at (of_int binary64 (pos n)) n (unsigned_back binary64 32 n (small_in_float n l) l))

missing : (b : Bool) (x : Float) → in_unsigned binary64 32 x ≡ b → (T (in_unsigned binary64 32 x) → ⊥) → None ≡ cond b (Some (to_unsigned 32 x)) None
missing false x e h = refl
missing true x e h = absurd (h (holds (in_unsigned binary64 32 x) e))

index_missing : (x y : Float) (n : ℕ) → T (fits binary64 x) → n ≡ to_unsigned 32 x → y ≡ of_int binary64 (pos n) → (to_bits binary64 y ≡ to_bits binary64 x → ⊥) → None ≡ float_index x
index_missing x y n f k e b =
    missing (in_unsigned binary64 32 x) x refl
    (λ u. b (ap (to_bits binary64) (e ∙ ap (λ m. of_int binary64 (pos m)) k ∙ (Float-back_unsigned binary64 32 x f u).1)))

-- the nearest `u32` is the index where its float has the same bits
pub index_tested : (x y : Float) (n : ℕ) → T (fits binary64 x) → T (fits binary64 y) → n < 2 ^ 32 → n ≡ to_unsigned 32 x → y ≡ of_int binary64 (pos n) → then_some (eqb (to_bits binary64 y) (to_bits binary64 x)) n ≡ float_index x
index_tested x y n f g l k e = answered (eqb (to_bits binary64 y) (to_bits binary64 x)) refl
  where
    answered : (b : Bool) → eqb (to_bits binary64 y) (to_bits binary64 x) ≡ b → then_some b n ≡ float_index x
    answered true h = index_found x y n f g l e (eqb-true (to_bits binary64 y) (to_bits binary64 x) h)
    answered false h = index_missing x y n f k e (eqb-false (to_bits binary64 y) (to_bits binary64 x) h)
