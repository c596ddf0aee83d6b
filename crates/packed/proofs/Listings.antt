-- The list of the fields that are left.
use Rattle.std.proofs.Common.{◌≡◌, ℕ, zero, suc, ◌-◌, ◌<◌, cond, eqb, List, [], ◌∷◌, length, Ok, Err, Result, sym, refl, ap, arith, eq-eqb, ne_eqb}
use Rattle.packed.specs.declared.refusal.Refusal.{Refusal}
use Rattle.packed.specs.Fields.{Told}
use Rattle.packed.specs.Reading.{read_at}
use Rattle.packed.specs.Listing.{read_then, fields_from, fields_at}
use Rattle.packed.proofs.NodesRead.{forward}

same_rest : (p : ℕ) (x : Result (Told × ℕ) Refusal) (f g : ℕ → List (Result (ℕ × Told) Refusal)) → ((a : Told × ℕ) → Ok a ≡ x → f a.1 ≡ g a.1) →
    read_then p x f ≡ read_then p x g
same_rest p (Ok a) f g h = ap (λ (r : List (Result (ℕ × Told) Refusal)). Ok (p, a.0) ∷ r) (h a refl)
same_rest p (Err e) f g h = refl

-- any number that suffices gives the same
pub enough : (file : List ℕ) (n m p : ℕ) → length file - p < n → length file - p < m → fields_from n file p ≡ fields_from m file p
enough file zero m p a b = absurd (omega arith)
enough file (suc n) zero p a b = absurd (omega arith)
enough file (suc n) (suc m) p a b =
    ap (cond (eqb p (length file)) [])
    (same_rest p (read_at file p) (fields_from n file) (fields_from m file)
    (λ u e. let f = forward file p u.0 u.1 e in enough file n m u.1 (omega (arith, f.0, f.1)) (omega (arith, f.0, f.1))))

pub none_left : (file : List ℕ) (p : ℕ) → p ≡ length file → fields_at file p ≡ []
unfolding fields_at
none_left file p e = rw (eq-eqb p (length file) e)

module _ (file : List ℕ) (p : ℕ) (apart : p ≡ length file → ⊥) where
  pub one_left : (t : Told) (next : ℕ) → Ok (t, next) ≡ read_at file p → fields_at file p ≡ Ok (p, t) ∷ fields_at file next
  unfolding fields_at
  one_left t next r =
      let f = forward file p t next r in
      let more = enough file (length file - p) (suc (length file - next)) next (omega (arith, f.0, f.1)) (omega arith) in
      rw (ne_eqb p (length file) apart, sym r, more)

  pub refusal_left : (e : Refusal) → Err e ≡ read_at file p → fields_at file p ≡ Err e ∷ []
  unfolding fields_at
  refusal_left e r = rw (ne_eqb p (length file) apart, sym r)
