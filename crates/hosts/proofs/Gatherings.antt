-- What the list of the fields tells of a host.
use Rattle.std.proofs.Common.{◌≡◌, ℕ, zero, suc, ◌-◌, ◌≤◌, Bool, true, false, cond, eqb, List, [], ◌∷◌, length, Ok, Err, Result, sym, refl, ap, arith, eq-eqb, eqb-true}
use Rattle.packed.specs.declared.refusal.Reason.{Reason}
use Rattle.packed.specs.declared.refusal.Refusal.{Refusal}
use Rattle.packed.specs.Fields.{Told, has_node_tag}
use Rattle.packed.specs.Reading.{and_then, read_at}
use Rattle.packed.specs.Listing.{read_then, fields_from, fields_at}
use Rattle.packed.proofs.NodesRead.{forward}
use Rattle.hosts.specs.Gathering.{Gathered, placed, gathers}

-- `gathers`, over the list of the fields that are left, in a file that ends there
abbrev pub gathered_of : (Gathered → Told → Result Gathered Reason) → ℕ → List (Result (ℕ × Told) Refusal) → Gathered → Result (Gathered × ℕ) Refusal
gathered_of takes end [] g = Ok (g, end)
gathered_of takes end (Err e ∷ fields) g = Err e
gathered_of takes end (Ok a ∷ fields) g =
    cond (has_node_tag a.1) (Ok (g, a.0)) (and_then (placed a.0 (takes g a.1)) (λ more. gathered_of takes end fields more))

same_after : (p : ℕ) (x : Result Gathered Reason) (f h : Gathered → Result (Gathered × ℕ) Refusal) → ((g : Gathered) → f g ≡ h g) →
    and_then (placed p x) f ≡ and_then (placed p x) h
same_after p (Ok g) f h e = e g
same_after p (Err r) f h e = refl

module _ (takes : Gathered → Told → Result Gathered Reason) (file : List ℕ) where
  module _ (fields p : ℕ) (g : Gathered) where
    one_field : (x : Result (Told × ℕ) Refusal) →
        ((a : Told × ℕ) → Ok a ≡ x → (more : Gathered) → gathers takes fields file a.1 more ≡ gathered_of takes (length file) (fields_from (suc fields) file a.1) more) →
        and_then x (λ a. cond (has_node_tag a.0) (Ok (g, p)) (and_then (placed p (takes g a.0)) (λ more. gathers takes fields file a.1 more))) ≡
        gathered_of takes (length file) (read_then p x (fields_from (suc fields) file)) g
    one_field (Ok a) later = ap (cond (has_node_tag a.0) (Ok (g, p))) (same_after p (takes g a.0) _ _ (λ more. later a refl more))
    one_field (Err e) later = refl

    at_place : (b : Bool) (x : Result (Gathered × ℕ) Refusal) (ys : List (Result (ℕ × Told) Refusal)) → (b ≡ true → p ≡ length file) →
        x ≡ gathered_of takes (length file) ys g → cond b (Ok (g, p)) x ≡ gathered_of takes (length file) (cond b [] ys) g
    at_place true x ys end h = ap (λ (q : ℕ). Ok (g, q)) (end refl)
    at_place false x ys end h = h

  pub gathers_list : (fields p : ℕ) (g : Gathered) → p ≤ length file → length file - p ≤ fields →
      gathers takes fields file p g ≡ gathered_of takes (length file) (fields_from (suc fields) file p) g
  gathers_list zero p g i l =
      let e : p ≡ length file = omega arith in
      rw (eq-eqb p (length file) e) (ap (λ (q : ℕ). Ok (g, q)) e)
  gathers_list (suc fields) p g i l =
      at_place (suc fields) p g (eqb p (length file)) _ _ (eqb-true p (length file))
      (one_field fields p g (read_at file p)
      (λ a r more. let f = forward file p a.0 a.1 r in gathers_list fields a.1 more f.1 (omega (arith, f.0, f.1))))

  pub gathers_all : (g : Gathered) → gathered_of takes (length file) (fields_at file 0) g ≡ gathers takes (length file) file 0 g
  unfolding fields_at
  gathers_all g =
      let n : length file - 0 ≡ length file = omega arith in
      rw n (sym (gathers_list (length file) 0 g (omega arith) (omega arith)))
