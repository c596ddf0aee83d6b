-- A field that is accepted, and the record that it makes.
use Rattle.std.proofs.Common.{◌≡◌, ℕ, suc, ◌+◌, ◌-◌, ◌<◌, ◌≤◌, Bool, true, false, cond, not, ◌&&◌, eqb, ltb, leb, List, length, get_or, Some, None, Option, Ok, Err, Result, sym, refl, ap, ◌∙◌, subst, arith, ltb-true, lt-ltb, le-ltb, ne_eqb, le-leb}
use borrow.Author.Tests.{lt-leb}
use Rattle.packed.specs.declared.refusal.Refusal.{Refusal}
use Rattle.packed.specs.declared.refusal.Reason.TheVariants.{BadText, BadChildren, Full}
use Rattle.packed.specs.Fields.{Told, node, payload_at, next_at, word_at}
use Rattle.packed.specs.Reading.{refused, and_then, node_at}
use Rattle.packed.proofs.Steps.{no_err, ok_same, pass}
use Rattle.packed.proofs.NodesRead.{node_there}
use Rattle.drafts.specs.declared.record.Record.{Record}
use Rattle.drafts.specs.Tree.{Nodes, many, sizes, last_of, waiting, text_at}
use Rattle.drafts.specs.Grammar.{fits}
use Rattle.drafts.specs.Table.{Shape, row_of, text_of}
use Rattle.drafts.specs.TextRules.{text_fits}
use Rattle.drafts.specs.Added.{known, allowed, children_fit, entered, accepted}
use Rattle.drafts.proofs.Places.{sizes_split, all_wait}

last_fits : (file : List ℕ) (rs : List Record) (n c : ℕ) → sizes (last_of c (waiting file rs n)) ≤ n
last_fits file rs n c = omega (arith, sizes_split c (waiting file rs n), all_wait file rs n)

known_shape : (b : Bool) (o : Option Shape) (s : Shape) → Some s ≡ cond b o None → (b ≡ true) × (o ≡ Some s)
known_shape true o s e = (refl, sym e)
known_shape false o s e = absurd (let z : ◌≡◌ {A = ℕ} 0 1 = cc in omega arith)

-- a node of a known kind and detail, where the nodes of n records wait
module _ (file : List ℕ) (rs : List Record) (n p next kind detail count reference : ℕ) (text : List ℕ) (s : Shape)
    (read : Ok (node kind detail count reference text, next) ≡ node_at file p) (k : Some s ≡ cond (known kind detail reference) (row_of kind) None) (spares : kind ≡ 70 → ⊥) where
  abbrev pub children : Bool
  children = leb s.fewest (many (last_of count (waiting file rs n))) && fits s.items detail (last_of count (waiting file rs n))

  abbrev pub rest : Result (Record × ℕ) Refusal
  rest =
      cond (text_fits s.text detail count text)
      (cond (leb count (many (waiting file rs n)) && children)
      (cond (ltb n 65535)
      (Ok (record { place = p; kind = kind; detail = detail; count = count; reference = reference; span = suc (sizes (last_of count (waiting file rs n))) }, next))
      (refused Full p)) (refused BadChildren p)) (refused BadText p)

  -- what is left to test
  accepted_rest : accepted file rs n p ≡ rest
  unfolding allowed
  accepted_rest =
      let both = known_shape (known kind detail reference) (row_of kind) s k in
      ap (λ x. and_then x (λ a. entered (waiting file rs n) n p a.0 a.1)) (sym read) ∙ rw (both.0, ne_eqb kind 70 spares, both.1) refl

  pub refuses_text : false ≡ text_fits s.text detail count text → refused BadText p ≡ accepted file rs n p
  refuses_text h = sym (accepted_rest ∙ rw (← h) refl)

  pub refuses_few : true ≡ text_fits s.text detail count text → many (waiting file rs n) < count → refused BadChildren p ≡ accepted file rs n p
  refuses_few h l = sym (accepted_rest ∙ rw (← h, lt-leb count (many (waiting file rs n)) l) refl)

  module _ (reads : true ≡ text_fits s.text detail count text) (enough : count ≤ many (waiting file rs n)) where
    pub refuses_children : false ≡ children → refused BadChildren p ≡ accepted file rs n p
    refuses_children h = sym (accepted_rest ∙ rw (← reads, le-leb count (many (waiting file rs n)) enough, ← h) refl)

    module _ (fit : true ≡ children) where
      pub refuses_full : 65535 ≤ n → refused Full p ≡ accepted file rs n p
      refuses_full l = sym (accepted_rest ∙ rw (← reads, le-leb count (many (waiting file rs n)) enough, ← fit, le-ltb n 65535 l) refl)

      pub accepts : (start : ℕ) → n < 65535 → start + sizes (last_of count (waiting file rs n)) ≡ n →
          Ok (record { place = p; kind = kind; detail = detail; count = count; reference = reference; span = n + 1 - start }, next) ≡ accepted file rs n p
      accepts start l e =
          let span : n + 1 - start ≡ suc (sizes (last_of count (waiting file rs n))) = omega (arith, last_fits file rs n count) in
          sym (accepted_rest ∙ rw (← reads, le-leb count (many (waiting file rs n)) enough, ← fit, lt-ltb n 65535 l, span) refl)

-- what an accepted record, of node n with its field at p, says of itself; q is the next field's place
pub record Taken (file : List ℕ) (ws : Nodes) (n p : ℕ) (r : Record) (q : ℕ) : Type 0 where
  pub knows : known r.kind r.detail r.reference ≡ true
  pub spares : not (eqb r.kind 70) ≡ true
  pub reads : text_fits (text_of (row_of r.kind)) r.detail r.count (text_at file p) ≡ true
  pub fit : children_fit ws r.kind r.detail r.count ≡ true
  pub few : n < 65535
  pub spans : r.span ≡ suc (sizes (last_of r.count ws))
  pub placed : r.place ≡ p
  pub next : q ≡ next_at file p
  pub whole : next_at file p ≤ length file

module _ (file : List ℕ) (ws : Nodes) (n p : ℕ) (a : Record × ℕ) where
  entered_taken : (kind detail count reference : ℕ) (q : ℕ) → q ≡ next_at file p → next_at file p ≤ length file →
      entered ws n p (node kind detail count reference (text_at file p)) q ≡ Ok a → Taken file ws n p a.0 a.1
  entered_taken kind detail count reference q e w h =
      let h1 = pass (known kind detail reference) _ _ a h in
      let h2 = pass (not (eqb kind 70)) _ _ a h1.1 in
      let h3 = pass (text_fits (text_of (row_of kind)) detail count (text_at file p)) _ _ a h2.1 in
      let h4 = pass (children_fit ws kind detail count) _ _ a h3.1 in
      let h5 = pass (ltb n 65535) _ _ a h4.1 in
      subst (λ (a : Record × ℕ). Taken file ws n p a.0 a.1) (ok_same _ a h5.1)
      (record {
        knows = h1.0;
        spares = h2.0;
        reads = h3.0;
        fit = h4.0;
        few = ltb-true n 65535 h5.0;
        spans = refl;
        placed = refl;
        next = e;
        whole = w;
      })

  read_taken : (x : Result (Told × ℕ) Refusal) → node_at file p ≡ x → and_then x (λ t. entered ws n p t.0 t.1) ≡ Ok a → Taken file ws n p a.0 a.1
  read_taken (Err e) r h = absurd (no_err e a h)
  read_taken (Ok t) r h =
      let th = node_there file p t r in
      let pl : List ℕ = payload_at file p in
      entered_taken (get_or pl 0 0) (get_or pl 1 0) (word_at pl 2) (word_at pl 4) t.1 th.next th.whole
      (ap (λ (u : Told). entered ws n p u t.1) (sym th.is) ∙ h)

pub accepted_taken : (file : List ℕ) (rs : List Record) (n p : ℕ) (a : Record × ℕ) → accepted file rs n p ≡ Ok a →
    Taken file (waiting file rs n) n p a.0 a.1
accepted_taken file rs n p a h = read_taken file (waiting file rs n) n p a (node_at file p) refl h
