-- UTF-8 as a test.
use Rattle.std.proofs.Common.{◌≡◌, ℕ, Bool, true, false, ◌&&◌, List, IsUtf8, MatchBool, refl, rules}
use lib.Utf8.{encodes, scalars}
use Rattle.std.specs.Str.{chars, bytes_eq}
use Rattle.std.proofs.lemmas.Str.{encodes-chars, scalars-chars}
use Rattle.std.proofs.lemmas.Slice.Eq.{bytes_eq-Decides}
use Rattle.text.specs.Utf8Test.{utf8}

same_true : (xs ys : List ℕ) → xs ≡ ys → bytes_eq xs ys ≡ true
same_true xs ys e = search (rules, bytes_eq-Decides)

same_is : (xs ys : List ℕ) → bytes_eq xs ys ≡ true → xs ≡ ys
same_is xs ys e = search (rules, bytes_eq-Decides)

utf8_true : (bs : List ℕ) → IsUtf8 bs → true ≡ utf8 bs
unfolding utf8
utf8_true bs u = rw (scalars-chars bs u, same_true _ _ (encodes-chars bs u))

utf8_made : (bs : List ℕ) (a b : Bool) → scalars (chars bs) ≡ a → bytes_eq (encodes (chars bs)) bs ≡ b → (IsUtf8 bs → ⊥) → false ≡ (a && b)
utf8_made bs true true p q h = absurd (h (chars bs, (p, same_is _ _ q)))
utf8_made bs true false p q h = refl
utf8_made bs false b p q h = refl

utf8_false : (bs : List ℕ) → (IsUtf8 bs → ⊥) → false ≡ utf8 bs
unfolding utf8
utf8_false bs h = utf8_made bs _ _ refl refl h

-- an answer that tells UTF-8 from the rest is the test
pub utf8_answer : (bs : List ℕ) (b : Bool) → MatchBool b (IsUtf8 bs) (IsUtf8 bs → ⊥) → b ≡ utf8 bs
utf8_answer bs true h = utf8_true bs h
utf8_answer bs false h = utf8_false bs h
