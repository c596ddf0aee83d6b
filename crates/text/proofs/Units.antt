-- Code units, character by character.
use Rattle.std.proofs.Common.{◌≡◌, ℕ, suc, ◌+◌, ◌-◌, ◌/◌, ◌%◌, ◌<◌, ◌≤◌, true, false, ◌⊎◌, List, [], ◌∷◌, ◌++◌, length, IsUtf8, sym, refl, ap, ◌∙◌, ⊎_elim, arith, le-leb}
use lib.Utf8.{encode, encodes, scalar, scalars, scalar_cases}
use borrow.Author.Tests.{lt-leb}
use Rattle.std.specs.Char.{len_utf8}
use Rattle.std.specs.List.{sum_by}
use Rattle.std.specs.Str.{chars}
use Rattle.std.proofs.lemmas.List.Sums.{sum_by-cons}
use Rattle.std.proofs.lemmas.List.{length-append}
use Rattle.std.proofs.lemmas.Bool.{and_parts}
use Rattle.std.proofs.lemmas.Str.{length-encode, encodes-chars}
use Rattle.std.proofs.lemmas.Bool.Decides.{nat_tests}
use Rattle.text.specs.CodeUnits.{encoded, code_units, leading, trailing, steps}

-- how many code units a code point has
abbrev pub units : ℕ → ℕ
units c = length (encoded c)

one_unit : (c : ℕ) → c < 65536 → encoded c ≡ c ∷ []
one_unit c h = rw (le-leb c 0xFFFF (omega arith))

two_units : (c : ℕ) → 65536 ≤ c → encoded c ≡ ((c - 0x10000) / 0x400 + 0xD800) ∷ ((c - 0x10000) % 0x400 + 0xDC00) ∷ []
two_units c h = rw (lt-leb c 0xFFFF (omega arith))

either : (c : ℕ) → (c < 65536) ⊎ (65536 ≤ c)
either c = grind (arith, nat_tests)

pub units_are : (c n : ℕ) → (c < 65536 → n ≡ 1) → (65536 ≤ c → n ≡ 2) → n ≡ units c
units_are c n one two = grind (arith, nat_tests)

units_width : (c : ℕ) → units c ≤ len_utf8 c
units_width c = grind (arith, nat_tests)

units_encodes : (cs : List ℕ) → length (code_units cs) ≤ length (encodes cs)
units_encodes [] = omega arith
units_encodes (c ∷ cs) =
    omega (arith, units_encodes cs, units_width c, length-encode c, length-append (encode c) (encodes cs), length-append (encoded c) (code_units cs))

-- a text has no more code units than bytes
pub units_bytes : (bs : List ℕ) → IsUtf8 bs → length (code_units (chars bs)) ≤ length bs
units_bytes bs u = omega (arith, units_encodes (chars bs), ap length (encodes-chars bs u))

-- a text has as many code units as its characters have together
pub sum_units : (cs : List ℕ) → sum_by units cs ≡ length (code_units cs)
sum_units [] = refl
sum_units (c ∷ cs) = sum_by-cons units c cs ∙ ap (λ n. units c + n) (sum_units cs) ∙ sym (length-append (encoded c) (code_units cs))

-- an iteration takes one step for each scalar value

alone : (u : ℕ) (us : List ℕ) → leading u ≡ false → steps (u ∷ us) ≡ suc (steps us)
alone u [] h = refl
alone u (v ∷ us) h = rw h

pair : (u v : ℕ) (us : List ℕ) → leading u ≡ true → trailing v ≡ true → steps (u ∷ (v ∷ us)) ≡ suc (steps us)
pair u v us h k = rw (h, k)

below_surrogates : (c : ℕ) → c < 0xD800 → leading c ≡ false
below_surrogates c h = rw (lt-leb 0xD800 c h)

above_surrogates : (c : ℕ) → 0xE000 ≤ c → leading c ≡ false
above_surrogates c h = rw (le-leb 0xD800 c (omega arith), lt-leb c 0xDBFF (omega arith))

low_step : (c : ℕ) (us : List ℕ) → leading c ≡ false → c < 65536 → steps (encoded c ++ us) ≡ suc (steps us)
low_step c us h l = ap (λ xs. steps (xs ++ us)) (one_unit c l) ∙ alone c us h

high_step : (c : ℕ) (us : List ℕ) → 65536 ≤ c → c < 0x110000 → steps (encoded c ++ us) ≡ suc (steps us)
high_step c us h l =
    let q : ℕ = (c - 0x10000) / 0x400 + 0xD800 in
    let r : ℕ = (c - 0x10000) % 0x400 + 0xDC00 in
    let lead : leading q ≡ true = rw (le-leb 0xD800 q (omega arith), le-leb q 0xDBFF (omega arith)) in
    let trail : trailing r ≡ true = rw (le-leb 0xDC00 r (omega arith), le-leb r 0xDFFF (omega arith)) in
    ap (λ xs. steps (xs ++ us)) (two_units c h) ∙ pair q r us lead trail

one_step : (c : ℕ) (us : List ℕ) → scalar c ≡ true → steps (encoded c ++ us) ≡ suc (steps us)
one_step c us h =
    ⊎_elim (λ (k : c < 55296). low_step c us (below_surrogates c k) (omega arith))
    (λ (k : (57344 ≤ c) × (c < 1114112)). ⊎_elim (λ (l : c < 65536). low_step c us (above_surrogates c k.0) l) (λ (l : 65536 ≤ c). high_step c us l k.1) (either c))
    (scalar_cases c h)

pub steps_are : (cs : List ℕ) → scalars cs ≡ true → steps (code_units cs) ≡ length cs
steps_are [] h = refl
steps_are (c ∷ cs) h =
    let parts = and_parts (scalar c) (scalars cs) h in
    one_step c (code_units cs) parts.0 ∙ ap suc (steps_are cs parts.1)
