-- The kind that the list of the fields decides for.
use Rattle.std.proofs.Common.{◌≡◌, ℕ, zero, suc, ◌-◌, ◌≤◌, Bool, true, false, cond, eqb, List, [], ◌∷◌, length, Some, None, Ok, Err, Option, Result, sym, refl, ap, ◌∙◌, arith, ne_eqb}
use Rattle.std.specs.Option.{unwrap_or, option_or}
use Rattle.packed.specs.declared.refusal.Refusal.{Refusal}
use Rattle.packed.specs.Fields.{Told}
use Rattle.packed.specs.Reading.{read_at}
use Rattle.packed.specs.Listing.{read_then, fields_from, fields_at}
use Rattle.packed.proofs.NodesRead.{forward}
use Rattle.marking.specs.declared.choice.HostKind.{HostKind}
use Rattle.marking.specs.declared.choice.HostKind.TheVariants.{Table}
use Rattle.marking.specs.Choices.{decides, kind_then, kind_from, kind_of}
use Rattle.marking.proofs.Finding.{first_some}

-- a field that was read decides by its tag, and a refusal does not
abbrev pub decision : Result (ℕ × Told) Refusal → Option HostKind
decision (Ok a) = decides a.1
decision (Err e) = None

abbrev listed_kind : List (Result (ℕ × Told) Refusal) → HostKind
listed_kind fields = unwrap_or (first_some decision fields) Table

decided_or : (o later : Option HostKind) → unwrap_or o (unwrap_or later Table) ≡ unwrap_or (option_or o later) Table
decided_or None later = refl
decided_or (Some k) later = refl

refused_kind : (b : Bool) (e : Refusal) → Table ≡ listed_kind (cond b [] (Err e ∷ []))
refused_kind true e = refl
refused_kind false e = refl

module _ (file : List ℕ) where
  one_field : (fields p : ℕ) (x : Result (Told × ℕ) Refusal) → read_at file p ≡ x →
      ((a : Told × ℕ) → Ok a ≡ read_at file p → kind_from fields file a.1 ≡ listed_kind (fields_from (suc fields) file a.1)) →
      kind_then x (kind_from fields file) ≡ listed_kind (cond (eqb p (length file)) [] (read_then p x (fields_from (suc fields) file)))
  one_field fields p (Err e) r later = refused_kind (eqb p (length file)) e
  one_field fields p (Ok a) r later =
      let f = forward file p a.0 a.1 (sym r) in
      let apart : p ≡ length file → ⊥ = λ h. omega (arith, f.0, f.1) in
      rw (ne_eqb p (length file) apart) (ap (unwrap_or (decides a.0)) (later a (sym r)) ∙ decided_or (decides a.0) _)

  last_field : (p : ℕ) (x : Result (Told × ℕ) Refusal) → read_at file p ≡ x → length file - p ≤ 0 → Table ≡ listed_kind (cond (eqb p (length file)) [] (read_then p x (fields_from 0 file)))
  last_field p (Err e) r l = refused_kind (eqb p (length file)) e
  last_field p (Ok a) r l = absurd (let f = forward file p a.0 a.1 (sym r) in omega (arith, f.0, f.1))

  kind_list : (fields p : ℕ) → length file - p ≤ fields → kind_from fields file p ≡ listed_kind (fields_from (suc fields) file p)
  kind_list zero p l = last_field p (read_at file p) refl l
  kind_list (suc fields) p l =
      one_field fields p (read_at file p) refl
      (λ a r. let f = forward file p a.0 a.1 r in kind_list fields a.1 (omega (arith, f.0, f.1)))

  pub kind_listed : unwrap_or (first_some decision (fields_at file 0)) Table ≡ kind_of file
  unfolding fields_at
  kind_listed =
      let n : length file - 0 ≡ length file = omega arith in
      rw n (sym (kind_list (length file) 0 (omega arith)))
