-- A host is what the fields before the first node say.
use Rattle.std.proofs.Common.{◌≡◌, ℕ, zero, suc, ◌-◌, ◌≤◌, Bool, true, false, cond, ◌&&◌, eqb, ltb, List, [], ◌∷◌, ◌++◌, length, Ok, Err, Result, sym, refl, ap, ◌∙◌, subst, inl, inr, append_assoc, append-nil, arith, eqb-true}
use Rattle.packed.specs.declared.field.Scope.{Scope}
use Rattle.packed.specs.declared.refusal.Reason.{Reason}
use Rattle.packed.specs.declared.refusal.Reason.TheVariants.{BadText}
use Rattle.packed.specs.declared.refusal.Refusal.{Refusal}
use Rattle.packed.specs.Fields.{Told, node, scope, switch, name, other, has_node_tag}
use Rattle.packed.specs.Reading.{and_then, read_at}
use Rattle.packed.proofs.Steps.{no_err, ok_same, pass}
use Rattle.text.specs.Utf8Test.{utf8}
use Rattle.hosts.specs.declared.switches.Switches.{Switches}
use Rattle.hosts.specs.Scopes.{highest, scope_added}
use Rattle.hosts.specs.Gathering.{Gathered, fresh, with_scopes, table_takes, name_takes, placed, gathers}
use Rattle.hosts.specs.NameMeaning.{named, names_from}
use Rattle.hosts.specs.ByFields.{Stand, none, one, Ends, scoped, scopes_of, switched, switches_after, names_of, MadeByFields}
use Rattle.packed.proofs.NodesRead.{forward}
use Rattle.hosts.proofs.Naming.{names_end, names_more}

-- what one field more tells
pub record Tells (g : Gathered) (t : Told) (more : Gathered) : Type 0 where
  pub scopes : more.scopes ≡ g.scopes ++ scoped t []
  pub switches : more.switches ≡ switched t g.switches

abbrev pub Faithful : (Gathered → Told → Result Gathered Reason) → Type 0
Faithful takes = (g : Gathered) (t : Told) (more : Gathered) → takes g t ≡ Ok more → Tells g t more

untold : (g : Gathered) (t : Told) (more : Gathered) → scoped t [] ≡ [] → more.scopes ≡ g.scopes → more.switches ≡ switched t g.switches → Tells g t more
untold g t more n s w = record { scopes = rw n (s ∙ sym (append-nil g.scopes)); switches = w }

added_is : (limit : ℕ) (scopes more : List Scope) (s : Scope) → scope_added limit scopes s ≡ Ok more → more ≡ scopes ++ s ∷ []
added_is limit scopes more s h =
    let h1 = pass (ltb (highest scopes) s.reference) _ _ more h in
    let h2 = pass (ltb (length scopes) limit) _ _ more h1.1 in
    sym (ok_same _ more h2.1)

-- one field more that leaves these records, and the switches as they are
recorded : (g : Gathered) (t : Told) (more : Gathered) → switched t g.switches ≡ g.switches → (x : Result (List Scope) Reason) →
    ((scopes : List Scope) → x ≡ Ok scopes → scopes ≡ g.scopes ++ scoped t []) → with_scopes g x ≡ Ok more → Tells g t more
recorded g t more w (Ok scopes) e h = subst (Tells g t) (ok_same _ more h) (record { scopes = e scopes refl; switches = sym w })
recorded g t more w (Err r) e h = absurd (no_err r more h)

refused_field : (b : Bool) (e r : Reason) (more : Gathered) → ◌≡◌ {A = Result Gathered Reason} (cond b (Err e) (Err r)) (Ok more) → ⊥
refused_field true e r more h = no_err e more h
refused_field false e r more h = no_err r more h

pub table_faithful : (limit : ℕ) → Faithful (table_takes limit)
table_faithful limit g (node kind detail count reference text) more h = absurd (no_err _ more h)
table_faithful limit g (scope s) more h = recorded g (scope s) more refl (scope_added limit g.scopes s) (λ scopes e. added_is limit g.scopes scopes s e) h
table_faithful limit g (switch s) more h = subst (Tells g (switch s)) (ok_same _ more h) (untold g (switch s) _ refl refl refl)
table_faithful limit g (name text) more h = absurd (no_err _ more h)
table_faithful limit g (other tag payload) more h = absurd (refused_field (eqb tag 3) _ _ more h)

pub name_faithful : Faithful name_takes
name_faithful g (node kind detail count reference text) more h = absurd (no_err _ more h)
name_faithful g (scope s) more h = absurd (no_err _ more h)
name_faithful g (switch s) more h = subst (Tells g (switch s)) (ok_same _ more h) (untold g (switch s) _ refl refl refl)
name_faithful g (name text) more h =
    recorded g (name text) more refl (cond (ltb 0 (length text) && utf8 text) (Ok g.scopes) (Err BadText))
    (λ scopes e. sym (ok_same g.scopes scopes (pass (ltb 0 (length text) && utf8 text) _ _ scopes e).1) ∙ sym (append-nil g.scopes)) h
name_faithful g (other tag payload) more h = absurd (refused_field (eqb tag 3) _ _ more h)

-- the fields that were gathered from p on

scoped_more : (t : Told) (xs : List Scope) → scoped t [] ++ xs ≡ scoped t xs
scoped_more (node kind detail count reference text) xs = refl
scoped_more (scope s) xs = refl
scoped_more (switch s) xs = refl
scoped_more (name text) xs = refl
scoped_more (other tag payload) xs = refl

pub record From (file : List ℕ) (p : ℕ) (g more : Gathered) (q : ℕ) : Type 0 where
  pub fields : List Told
  pub stand : Stand file p fields q
  pub ends : Ends file q
  pub scopes : more.scopes ≡ g.scopes ++ scopes_of fields
  pub switches : more.switches ≡ switches_after g.switches fields

module _ (takes : Gathered → Told → Result Gathered Reason) (faith : Faithful takes) (file : List ℕ) where
  stay : (p : ℕ) (g more : Gathered) (q : ℕ) → Ends file p → ◌≡◌ {A = Result (Gathered × ℕ) Refusal} (Ok (g, p)) (Ok (more, q)) → From file p g more q
  stay p g more q e h =
      let same : (g, p) ≡ (more, q) = ok_same _ _ h in
      subst (λ (a : Gathered × ℕ). From file p g a.0 a.1) same
      (record { fields = []; stand = none p; ends = e; scopes = sym (append-nil g.scopes); switches = refl })

  go_on : (p : ℕ) (g : Gathered) (t : Told) (next : ℕ) (mid more : Gathered) (q : ℕ) → read_at file p ≡ Ok (t, next) → has_node_tag t ≡ false →
      takes g t ≡ Ok mid → From file next mid more q → From file p g more q
  go_on p g t next mid more q r n k f =
      let tells = faith g t mid k in
      record {
        fields = t ∷ f.fields;
        stand = one p t next f.fields q r n f.stand;
        ends = f.ends;
        scopes =
            f.scopes ∙ ap (λ xs. xs ++ scopes_of f.fields) tells.scopes ∙ append_assoc g.scopes (scoped t []) (scopes_of f.fields) ∙
            ap (λ xs. g.scopes ++ xs) (scoped_more t (scopes_of f.fields));
        switches = f.switches ∙ ap (λ (s : Switches). switches_after s f.fields) tells.switches;
      }

  module _ (more : Gathered) (q : ℕ) (fields : ℕ)
      (later : (p : ℕ) (g : Gathered) → p ≤ length file → length file - p ≤ fields → gathers takes fields file p g ≡ Ok (more, q) → From file p g more q)
      (p : ℕ) (g : Gathered) (l : length file - p ≤ suc fields) where
    at_taken : (t : Told) (next : ℕ) → read_at file p ≡ Ok (t, next) → has_node_tag t ≡ false → (x : Result Gathered Reason) → takes g t ≡ x →
        and_then (placed p x) (λ m. gathers takes fields file next m) ≡ Ok (more, q) → From file p g more q
    at_taken t next e n (Err r) k h = absurd (no_err _ _ h)
    at_taken t next e n (Ok mid) k h =
        let on = forward file p t next (sym e) in
        go_on p g t next mid more q e n k (later next mid on.1 (omega (arith, on.0)) h)

    at_tag : (t : Told) (next : ℕ) → read_at file p ≡ Ok (t, next) → (b : Bool) → has_node_tag t ≡ b →
        cond b (Ok (g, p)) (and_then (placed p (takes g t)) (λ m. gathers takes fields file next m)) ≡ Ok (more, q) → From file p g more q
    at_tag t next e true n h = stay p g more q (inr ((t, next), (e, n))) h
    at_tag t next e false n h = at_taken t next e n (takes g t) refl h

    at_field : (x : Result (Told × ℕ) Refusal) → read_at file p ≡ x →
        and_then x (λ a. cond (has_node_tag a.0) (Ok (g, p)) (and_then (placed p (takes g a.0)) (λ m. gathers takes fields file a.1 m))) ≡ Ok (more, q) →
        From file p g more q
    at_field (Err r) e h = absurd (no_err r _ h)
    at_field (Ok a) e h = at_tag a.0 a.1 e (has_node_tag a.0) refl h

    at_place : (b : Bool) → eqb p (length file) ≡ b →
        cond b (Ok (g, p)) (and_then (read_at file p) (λ a. cond (has_node_tag a.0) (Ok (g, p)) (and_then (placed p (takes g a.0)) (λ m. gathers takes fields file a.1 m)))) ≡ Ok (more, q) →
        From file p g more q
    at_place true e h = stay p g more q (inl (eqb-true p (length file) e)) h
    at_place false e h = at_field (read_at file p) refl h

  gathered_by : (more : Gathered) (q fields p : ℕ) (g : Gathered) → p ≤ length file → length file - p ≤ fields → gathers takes fields file p g ≡ Ok (more, q) →
      From file p g more q
  gathered_by more q zero p g i l h = stay p g more q (inl (omega arith)) h
  gathered_by more q (suc fields) p g i l h = at_place more q fields (gathered_by more q fields) p g l (eqb p (length file)) refl h

-- the names that a name host reads are those of the fields

standing_end : (file : List ℕ) (p : ℕ) (fields : List Told) (q : ℕ) → Stand file p fields q → p ≤ q
standing_end file p fields q (none _) = omega arith
standing_end file p fields q (one _ t next rest _ r n s) = omega (arith, standing_end file next rest q s, (forward file p t next (sym r)).0)

stand_names : (file : List ℕ) (p : ℕ) (fields : List Told) (q : ℕ) → Stand file p fields q → (turns : ℕ) → length file - p ≤ turns → names_from turns file q p ≡ names_of fields
stand_names file p fields q (none _) turns l = names_end file q p turns (omega arith)
stand_names file p fields q (one _ t next rest _ r n s) turns l =
    let on = forward file p t next (sym r) in
    let m = names_more file q p turns t next (omega (arith, standing_end file next rest q s, on.0)) l (sym r) in
    m.1.1 ∙ ap (named t) (stand_names file next rest q s m.0 m.1.0)

pub made_by_fields : (takes : Gathered → Told → Result Gathered Reason) → Faithful takes → (file : List ℕ) → MadeByFields takes file
made_by_fields takes faith file g q h =
    let f = gathered_by takes faith file g q (length file) 0 fresh (omega arith) (omega arith) h in
    record {
      fields = f.fields;
      stand = f.stand;
      ends = f.ends;
      scopes = f.scopes;
      switches = f.switches;
      names = stand_names file 0 f.fields q f.stand (length file) (omega arith);
    }
