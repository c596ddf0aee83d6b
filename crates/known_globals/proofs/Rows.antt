-- A name that no row has.
use Rattle.std.proofs.Common.{◌≡◌, ℕ, Bool, true, false, cond, List, [], ◌∷◌, sym, refl, ap, ◌∙◌, true≢false}
use Rattle.std.specs.Str.{bytes_eq}
use Rattle.std.proofs.lemmas.Bool.{false_from_ne_true}
use Rattle.std.proofs.lemmas.Slice.Eq.{bytes_eq-Decides}
use Rattle.known_globals.specs.Properties.{Rows, under}

-- the name is that of none of the rows, as the `.not-..` of a match on texts have it
abbrev pub Apart : {A : Type 0} → Rows A → List ℕ → Type 0
Apart [] name = Unit {0}
Apart (r ∷ rows) name = (name ≡ r.0 → ⊥) × Apart rows name

pub under_none : {A : Type 0} (rows : Rows A) (name : List ℕ) → Apart rows name → under rows name ≡ []
under_none [] name h = refl
under_none (r ∷ rows) name h =
    let other = false_from_ne_true (bytes_eq r.0 name) (λ t. h.0 (sym ((bytes_eq-Decides r.0 name).0 t))) in
    ap (λ b. cond b r.1 (under rows name)) other ∙ under_none rows name h.1

-- two texts that a test finds different are not the same
pub refuted : (x k : List ℕ) (b : Bool) → b ≡ bytes_eq x k → b ≡ false → x ≡ k → ⊥
refuted x k b d e p = true≢false (sym ((bytes_eq-Decides x k).1 p) ∙ sym d ∙ e)

-- two texts that a test finds the same are the same
pub affirmed : (x k : List ℕ) (b : Bool) → b ≡ bytes_eq x k → b ≡ true → x ≡ k
affirmed x k b d e = (bytes_eq-Decides x k).0 (sym d ∙ e)
