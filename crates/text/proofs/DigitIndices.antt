-- What `parse` reads, as an index.
use Rattle.std.proofs.Common.{◌≡◌, ℕ, ◌^◌, ◌<◌, Bool, true, false, cond, ◌&&◌, ltb, List, [], ◌∷◌, length, get_or, Some, None, Ok, Err, Result, sym, refl, ap, ◌∙◌, arith, rules}
use Rattle.std.specs.Result.{OkIff, result_ok}
use Rattle.std.specs.Str.Parse.{ParsesUnsigned}
use Rattle.std.specs.Str.{all_ascii_digits}
use Rattle.std.proofs.lemmas.Str.Parse.{IsNumeralModel, numerals_by_fold, parse_plain}
use Rattle.std.proofs.lemmas.Bool.{ltb-true, lt-ltb, and_parts, and_from}
use Rattle.text.specs.Indices.{decimal_from, digits, digits_index}

own : IsNumeralModel (λ ds. all_ascii_digits ds ≡ true) (decimal_from 0)
own = numerals_by_fold _ (search rules) decimal_from (search rules)

-- what `parse` asks of a text
abbrev Fits32 : List ℕ → Type 0
Fits32 bs = (all_ascii_digits bs ≡ true) × (0 < length bs) × (decimal_from 0 bs < 2 ^ 32)

tested : (bs : List ℕ) → Fits32 bs → (digits bs && ltb (decimal_from 0 bs) (2 ^ 32)) ≡ true
tested [] h = absurd (let z : 0 < length {A = ℕ} [] = h.1 in omega arith)
tested (c ∷ cs) h = and_from (digits (c ∷ cs)) (ltb (decimal_from 0 (c ∷ cs)) (2 ^ 32)) h.0 (lt-ltb (decimal_from 0 (c ∷ cs)) (2 ^ 32) h.2)

fits_from : (bs : List ℕ) → (digits bs && ltb (decimal_from 0 bs) (2 ^ 32)) ≡ true → Fits32 bs
fits_from [] h = absurd (let z : ◌≡◌ {A = ℕ} 0 1 = cc in omega arith)
fits_from (c ∷ cs) h =
    let parts = and_parts (digits (c ∷ cs)) (ltb (decimal_from 0 (c ∷ cs)) (2 ^ 32)) h in
    (parts.0, omega arith, ltb-true (decimal_from 0 (c ∷ cs)) (2 ^ 32) parts.1)

refused : (b : Bool) (v : ℕ) → (b ≡ true → ⊥) → None ≡ cond b (Some v) None
refused true v h = absurd (h refl)
refused false v h = refl

by_cases : {E : Type 0} (bs : List ℕ) (r : Result ℕ E) → OkIff r (Fits32 bs) (decimal_from 0 bs) → result_ok r ≡ digits_index bs
by_cases bs (Ok x) h = ap Some h.1 ∙ sym (ap (λ b. cond b (Some (decimal_from 0 bs)) None) (tested bs h.0))
by_cases bs (Err e) h = refused (digits bs && ltb (decimal_from 0 bs) (2 ^ 32)) (decimal_from 0 bs) (λ t. h (fits_from bs t))

pub digits_index_is : {E : Type 0} (bs : List ℕ) (r : Result ℕ E) → ParsesUnsigned 32 10 bs r → (get_or bs 0 0 ≡ 43 → ⊥) → result_ok r ≡ digits_index bs
digits_index_is bs r h plain = by_cases bs r (parse_plain own 32 bs r h plain)
