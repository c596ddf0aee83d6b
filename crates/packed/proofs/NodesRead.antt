-- What stands at the place of a node that is read.
use Rattle.std.proofs.Common.{◌≡◌, ℕ, ◌<◌, ◌≤◌, Bool, true, false, cond, ◌&&◌, eqb, ltb, leb, List, length, get_or, Some, None, Ok, Err, Option, Result, sym, refl, ap, ◌∙◌, arith, ltb-false, leb-true}
use Rattle.packed.specs.declared.field.Scope.{Scope}
use Rattle.packed.specs.declared.switch.Switch.{Switch}
use Rattle.packed.specs.Switches.{switch_of}
use Rattle.packed.specs.declared.refusal.Refusal.{Refusal}
use Rattle.packed.specs.Fields.{Told, node, scope, switch, name, other, node_shaped, scope_shaped, switch_field, node_of, scope_record, host_field_of, field_of, field_at, next_at, payload_at}
use Rattle.packed.specs.Reading.{and_then, read_at, node_only, node_at}
use Rattle.packed.proofs.Steps.{no_err, ok_same, pass, pass_by}

-- what stands at the place of a field that is read
pub record FieldThere (file : List ℕ) (p : ℕ) (a : Told × ℕ) : Type 0 where
  pub small : length file ≤ 65535
  pub whole : next_at file p ≤ length file
  pub is : a.0 ≡ field_at file p
  pub next : a.1 ≡ next_at file p

pub field_there : (file : List ℕ) (p : ℕ) (a : Told × ℕ) → read_at file p ≡ Ok a → FieldThere file p a
field_there file p a r =
    let r1 = pass_by (ltb 65535 (length file)) _ _ a r in
    let r2 = pass (leb (next_at file p) (length file)) _ _ a r1.1 in
    let here : (field_at file p, next_at file p) ≡ a = ok_same _ a r2.1 in
    record {
      small = omega (arith, ltb-false 65535 (length file) r1.0);
      whole = leb-true _ _ r2.0;
      is = sym (ap (λ (u : Told × ℕ). u.0) here);
      next = sym (ap (λ (u : Told × ℕ). u.1) here);
    }

-- a field that was read ends behind its begin, within the file
pub forward : (file : List ℕ) (p : ℕ) (t : Told) (next : ℕ) → Ok (t, next) ≡ read_at file p → (p < next) × (next ≤ length file)
forward file p t next e =
    let f = field_there file p (t, next) (sym e) in
    (omega (arith, f.next), omega (arith, f.next, f.whole))

pub record NodeThere (file : List ℕ) (p : ℕ) (t : Told × ℕ) : Type 0 where
  pub small : length file ≤ 65535
  pub whole : next_at file p ≤ length file
  pub is : t.0 ≡ node_of (payload_at file p)
  pub next : t.1 ≡ next_at file p

abbrev is_node : Told → Bool
is_node (node kind detail count reference text) = true
is_node (scope s) = false
is_node (switch s) = false
is_node (name text) = false
is_node (other tag payload) = false

switch_no_node : (p : List ℕ) (s : Option Switch) → is_node (switch_field p s) ≡ false
switch_no_node p (Some s) = refl
switch_no_node p None = refl

not_node : (s : Scope) (t : Told) (p : List ℕ) (tag : ℕ) → is_node t ≡ false → (a b c : Bool) →
    is_node (cond a (scope s) (cond b t (cond c (name p) (other tag p)))) ≡ false
not_node s t p tag h true b c = refl
not_node s t p tag h false true c = h
not_node s t p tag h false false true = refl
not_node s t p tag h false false false = refl

host_no_node : (tag : ℕ) (p : List ℕ) → is_node (host_field_of tag p) ≡ false
host_no_node tag p =
    not_node (scope_record p) (switch_field p (switch_of (get_or p 0 0))) p tag (switch_no_node p (switch_of (get_or p 0 0))) (eqb tag 2 && scope_shaped p)
    (eqb tag 3 && eqb (length p) 1) (eqb tag 4)

first_cond : (b : Bool) (t u v : Told) → is_node u ≡ false → is_node v ≡ true → cond b t u ≡ v → v ≡ t
first_cond true t u v n y e = sym e
first_cond false t u v n y e = absurd (let h = ap is_node e in let z : ◌≡◌ {A = ℕ} 0 1 = cc in omega arith)

told_node_is : (tag : ℕ) (p : List ℕ) (v : Told) → is_node v ≡ true → field_of tag p ≡ v → v ≡ node_of p
told_node_is tag p v y e = first_cond (eqb tag 1 && node_shaped p) (node_of p) (host_field_of tag p) v (host_no_node tag p) y e

node_only_is : (p : ℕ) (f : Told) (q : ℕ) (t : Told × ℕ) → node_only p f q ≡ Ok t → (is_node f ≡ true) × (t ≡ (f, q))
node_only_is p (node kind detail count reference text) q t h = (refl, sym (ok_same _ t h))
node_only_is p (scope s) q t h = absurd (no_err _ t h)
node_only_is p (switch s) q t h = absurd (no_err _ t h)
node_only_is p (name text) q t h = absurd (no_err _ t h)
node_only_is p (other tag payload) q t h = absurd (no_err _ t h)

there : (file : List ℕ) (p : ℕ) (x : Result (Told × ℕ) Refusal) (t : Told × ℕ) → read_at file p ≡ x →
    and_then x (λ a. node_only p a.0 a.1) ≡ Ok t → NodeThere file p t
there file p (Err e) t r h = absurd (no_err e t h)
there file p (Ok a) t r h =
    let n = node_only_is p a.0 a.1 t h in
    let f = field_there file p a r in
    record {
      small = f.small;
      whole = f.whole;
      is = ap (λ (u : Told × ℕ). u.0) n.1 ∙ told_node_is (get_or file p 0) (payload_at file p) a.0 n.0 (sym f.is);
      next = ap (λ (u : Told × ℕ). u.1) n.1 ∙ f.next;
    }

pub node_there : (file : List ℕ) (p : ℕ) (t : Told × ℕ) → node_at file p ≡ Ok t → NodeThere file p t
node_there file p t h = there file p (read_at file p) t refl h
