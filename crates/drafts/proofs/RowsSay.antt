-- Some rows in words.
use Rattle.std.proofs.Common.{◌≡◌, ℕ, ◌+◌, ◌≤◌, Bool, true, false, ◌&&◌, ◌||◌, eqb, ltb, leb, refl, ap, ◌∙◌, subst, arith, le-ltb, leb-true}
use Rattle.std.proofs.lemmas.Bool.{and_parts}
use Rattle.drafts.specs.declared.row.Set.TheVariants.{Declarator}
use Rattle.drafts.specs.Tree.{Nodes, node, none, ◌▸◌, many}
use Rattle.drafts.specs.Grammar.{first_is, fits}
use Rattle.drafts.specs.Table.{row_of, rows, items_of, fewest_of}
use Rattle.drafts.specs.Added.{allowed}
use Rattle.drafts.specs.Plain.{◌⧺◌, all_in, Parts, names_only, RowsSay}
use Rattle.drafts.proofs.Plainly.{falls}

many_joined : (front part : Nodes) → many (front ⧺ part) ≡ many front + many part
many_joined front none = omega arith
many_joined front (part ▸ n) = omega (arith, many_joined front part)

row_parts : (kind d : ℕ) (ns : Nodes) → allowed kind d ns ≡ true → (fewest_of (row_of kind) ≤ many ns) × Parts (items_of (row_of kind)) d ns
unfolding allowed
row_parts kind d ns h =
    let few : Bool = leb (fewest_of (row_of kind)) (many ns) in
    let fit : Bool = fits (items_of (row_of kind)) d ns in
    (leb-true _ _ ((and_parts few fit h).0), falls (items_of (row_of kind)) d ns ((and_parts few fit h).1))

names_from : (d : ℕ) (ns : Nodes) → ltb d 3 ≡ false → all_in Declarator d ns ≡ true → names_only ns ≡ true
names_from d none f h = refl
names_from d (ns ▸ node x below) f h =
    let here : (eqb x.kind 39 && (ltb d 3 || first_is 42 below)) ≡ true = (and_parts (all_in Declarator d ns) _ h).1 in
    let plain : (eqb x.kind 39 && first_is 42 below) ≡ true = subst (λ (b : Bool). (eqb x.kind 39 && (b || first_is 42 below)) ≡ true) f here in
    rw (names_from d ns f ((and_parts (all_in Declarator d ns) _ h).0)) plain

sequence : (d : ℕ) (ns : Nodes) → allowed 13 d ns ≡ true → 1 ≤ many ns
unfolding rows
sequence d ns h =
    let p = (row_parts 13 d ns h).1 in omega (arith, ap many p.1.1.0, many_joined p.0 p.1.0, p.1.1.1.0.at_least)

tries : (d : ℕ) (ns : Nodes) → allowed 57 d ns ≡ true → (2 ≤ many ns) × (many ns ≤ 3)
unfolding rows
tries d ns h =
    let r = row_parts 57 d ns h in
    let p = r.1 in
    let q = p.1.1.1.1 in
    let t = q.1.1.1.1 in
    let many_p = ap many p.1.1.0 ∙ many_joined p.0 p.1.0 in
    let many_q = ap many q.1.1.0 ∙ many_joined q.0 q.1.0 in
    let many_t = ap many (t.1.1.0 ∙ ap (λ (x : Nodes). t.0 ⧺ x) t.1.1.1.1) in
    (r.0, omega (arith, many_p, many_q, many_t, p.1.1.1.0.at_most, q.1.1.1.0.at_most, t.1.1.1.0.at_most))

declaration : (d : ℕ) (ns : Nodes) → allowed 60 d ns ≡ true → 1 ≤ many ns
unfolding rows
declaration d ns h =
    let p = (row_parts 60 d ns h).1 in omega (arith, ap many p.1.1.0, many_joined p.0 p.1.0, p.1.1.1.0.at_least)

uses : (d : ℕ) (ns : Nodes) → 3 ≤ d → allowed 60 d ns ≡ true → names_only ns ≡ true
unfolding rows
uses d ns l h =
    let p = (row_parts 60 d ns h).1 in
    let whole : ns ≡ p.0 = p.1.1.0 ∙ ap (λ (x : Nodes). p.0 ⧺ x) p.1.1.1.1 in
    names_from d ns (le-ltb d 3 l) (rw whole p.1.1.1.0.each)

pub rows_say : RowsSay
rows_say = record { sequence = sequence; tries = tries; declaration = declaration; uses = uses }
