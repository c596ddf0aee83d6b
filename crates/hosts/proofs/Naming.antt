-- The names that fields declare, one by one and as a list.
use Rattle.std.proofs.Common.{◌≡◌, ℕ, zero, suc, ◌-◌, ◌<◌, ◌≤◌, Bool, true, false, ◌||◌, cond, eqb, ltb, List, [], ◌∷◌, length, Ok, Err, Result, sym, refl, ap, arith, le-ltb, lt-ltb, ltb-true, ne_eqb}
use Rattle.std.specs.List.{list_any}
use Rattle.std.specs.Str.{bytes_eq}
use Rattle.packed.specs.declared.refusal.Refusal.{Refusal}
use Rattle.packed.specs.Fields.{Told, node, scope, switch, name, other}
use Rattle.packed.specs.Reading.{read_at}
use Rattle.packed.specs.Listing.{read_then, fields_from, fields_at}
use Rattle.packed.proofs.NodesRead.{forward}
use Rattle.tables.specs.Order.{listed}
use Rattle.hosts.specs.NameMeaning.{named, names_then, names_from, names_in, declared}

module _ (file : List ℕ) (end : ℕ) where
  module _ (p : ℕ) where
    pub names_end : (fields : ℕ) → end ≤ p → names_from fields file end p ≡ []
    names_end zero h = refl
    names_end (suc fields) h = rw (le-ltb p end h)

    pub names_more : (fields : ℕ) (t : Told) (next : ℕ) → p < end → length file - p ≤ fields → Ok (t, next) ≡ read_at file p →
        (rest : ℕ) × ((length file - next ≤ rest) × (names_from fields file end p ≡ named t (names_from rest file end next)))
    names_more zero t next h l r = absurd (let f = forward file p t next r in omega (arith, f.0, f.1))
    names_more (suc fields) t next h l r =
        (fields, (omega (arith, (forward file p t next r).0), rw (lt-ltb p end h, sym r)))

    no_names : (b c : Bool) (e : Refusal) → cond b (names_then (Err e) (λ _. [])) [] ≡ names_in end (cond c [] (Err e ∷ []))
    no_names true true e = refl
    no_names true false e = refl
    no_names false true e = refl
    no_names false false e = refl

    one_field : (fields : ℕ) (x : Result (Told × ℕ) Refusal) → read_at file p ≡ x →
        ((a : Told × ℕ) → Ok a ≡ read_at file p → names_from fields file end a.1 ≡ names_in end (fields_from (suc fields) file a.1)) →
        cond (ltb p end) (names_then x (names_from fields file end)) [] ≡ names_in end (cond (eqb p (length file)) [] (read_then p x (fields_from (suc fields) file)))
    one_field fields (Err e) r later = no_names (ltb p end) (eqb p (length file)) e
    one_field fields (Ok a) r later =
        let f = forward file p a.0 a.1 (sym r) in
        let apart : p ≡ length file → ⊥ = λ h. omega (arith, f.0, f.1) in
        rw (ne_eqb p (length file) apart) (ap (λ (ns : List (List ℕ)). cond (ltb p end) (named a.0 ns) []) (later a (sym r)))

    last_field : (x : Result (Told × ℕ) Refusal) → read_at file p ≡ x → length file - p ≤ 0 → [] ≡ names_in end (cond (eqb p (length file)) [] (read_then p x (fields_from 0 file)))
    last_field (Err e) r l = no_names false (eqb p (length file)) e
    last_field (Ok a) r l = absurd (let f = forward file p a.0 a.1 (sym r) in omega (arith, f.0, f.1))

  -- the same over the list of the fields
  names_list : (fields p : ℕ) → length file - p ≤ fields → names_from fields file end p ≡ names_in end (fields_from (suc fields) file p)
  names_list zero p l = last_field p (read_at file p) refl l
  names_list (suc fields) p l =
      one_field p fields (read_at file p) refl
      (λ a r. let f = forward file p a.0 a.1 r in names_list fields a.1 (omega (arith, f.0, f.1)))

  named_once : (t : Told) (rest : List (List ℕ)) → length (named t rest) ≤ suc (length rest)
  named_once (node kind detail count reference text) rest = omega arith
  named_once (scope s) rest = omega arith
  named_once (switch s) rest = omega arith
  named_once (name text) rest = omega arith
  named_once (other tag payload) rest = omega arith

  -- no more names than bytes before the end
  module _ (fields p : ℕ) (later : (q : ℕ) → length (names_from fields file end q) ≤ end - q) where
    few_then : (x : Result (Told × ℕ) Refusal) → read_at file p ≡ x → p < end → length (names_then x (names_from fields file end)) ≤ end - p
    few_then (Err e) r l = omega arith
    few_then (Ok a) r l =
        let f = forward file p a.0 a.1 (sym r) in
        omega (arith, named_once a.0 (names_from fields file end a.1), later a.1, f.0)

    few_here : (b : Bool) → ltb p end ≡ b → length (cond b (names_then (read_at file p) (names_from fields file end)) []) ≤ end - p
    few_here true h = few_then (read_at file p) refl (ltb-true p end h)
    few_here false h = omega arith

  pub few_names : (fields p : ℕ) → length (names_from fields file end p) ≤ end - p
  few_names zero p = omega arith
  few_names (suc fields) p = few_here fields p (few_names fields) (ltb p end) refl

  pub declared_list : names_in end (fields_at file 0) ≡ declared file end
  unfolding fields_at
  declared_list =
      let n : length file - 0 ≡ length file = omega arith in
      rw n (sym (names_list (length file) 0 (omega arith)))

pub listed_any : (names : List (List ℕ)) (k : List ℕ) → list_any (λ x. bytes_eq x k) names ≡ listed names k
listed_any [] k = refl
listed_any (x ∷ names) k = ap (λ (b : Bool). bytes_eq x k || b) (listed_any names k)

-- no field begins before the file
pub none_before : (fields : List (Result (ℕ × Told) Refusal)) → names_in 0 fields ≡ []
none_before [] = refl
none_before (Ok a ∷ fields) = rw (le-ltb a.0 0 (omega arith))
none_before (Err e ∷ fields) = refl
