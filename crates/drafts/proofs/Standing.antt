-- Records that stand.
use Rattle.std.proofs.Common.{◌≡◌, ℕ, zero, suc, ◌+◌, ◌<◌, Bool, true, false, ◌&&◌, eqb, ltb, leb, List, Ok, Err, Result, sym, refl, subst, add-one, arith, ltb-false, ltb-true, eq-eqb, eqb-true, leb-true}
use Rattle.std.proofs.lemmas.Bool.{and_parts}
use Rattle.packed.specs.declared.refusal.Refusal.{Refusal}
use Rattle.packed.specs.Fields.{next_at}
use Rattle.drafts.specs.declared.record.Record.{Record}
use Rattle.drafts.specs.Tree.{many, last_of, waiting, at, Spanned}
use Rattle.drafts.specs.Added.{allowed, accepted, same, makes, stands, sound}
use Rattle.drafts.proofs.Entering.{Taken, accepted_taken}

-- the same record

pub same_itself : (r : Record) → same r r ≡ true
same_itself r =
    rw (
      eq-eqb r.place r.place refl,
      eq-eqb r.kind r.kind refl,
      eq-eqb r.detail r.detail refl,
      eq-eqb r.count r.count refl,
      eq-eqb r.reference r.reference refl,
      eq-eqb r.span r.span refl,
    )

same_made : (p k d c f s : ℕ) (r : Record) → p ≡ r.place → k ≡ r.kind → d ≡ r.detail → c ≡ r.count → f ≡ r.reference → s ≡ r.span →
    record { place = p; kind = k; detail = d; count = c; reference = f; span = s } ≡ r
same_made p k d c f s r e1 e2 e3 e4 e5 e6 = rw (e1, e2, e3, e4, e5, e6)

same_is : (a r : Record) → same a r ≡ true → a ≡ r
same_is a r h =
    let place : Bool = eqb a.place r.place in
    let kind : Bool = eqb a.kind r.kind in
    let detail : Bool = eqb a.detail r.detail in
    let count : Bool = eqb a.count r.count in
    let reference : Bool = eqb a.reference r.reference in
    let span : Bool = eqb a.span r.span in
    let h1 : (kind && (detail && (count && (reference && span)))) ≡ true = (and_parts place (kind && (detail && (count && (reference && span)))) h).1 in
    let h2 : (detail && (count && (reference && span))) ≡ true = (and_parts kind (detail && (count && (reference && span))) h1).1 in
    let h3 : (count && (reference && span)) ≡ true = (and_parts detail (count && (reference && span)) h2).1 in
    let h4 : (reference && span) ≡ true = (and_parts count (reference && span) h3).1 in
    same_made a.place a.kind a.detail a.count a.reference a.span r
    (eqb-true _ _ ((and_parts place (kind && (detail && (count && (reference && span)))) h).0))
    (eqb-true _ _ ((and_parts kind (detail && (count && (reference && span))) h1).0))
    (eqb-true _ _ ((and_parts detail (count && (reference && span)) h2).0)) (eqb-true _ _ ((and_parts count (reference && span) h3).0))
    (eqb-true _ _ ((and_parts reference span h4).0)) (eqb-true _ _ ((and_parts reference span h4).1))

makes_ok : (r : Record) (x : Result (Record × ℕ) Refusal) → makes r x ≡ true → (a : Record × ℕ) × ((x ≡ Ok a) × (a.0 ≡ r))
makes_ok r (Ok a) h = (a, (refl, same_is a.0 r h))
makes_ok r (Err e) h = absurd (let z : ◌≡◌ {A = ℕ} 0 1 = cc in omega arith)

pub stands_ok : (file : List ℕ) (rs : List Record) (i : ℕ) → stands file rs i ≡ true →
    (a : Record × ℕ) × ((accepted file rs i (at rs i).place ≡ Ok a) × (a.0 ≡ at rs i))
unfolding stands
stands_ok file rs i h = makes_ok (at rs i) (accepted file rs i (at rs i).place) h

-- each of the first n records stands

at_or : (P : ℕ → Type 0) (i n : ℕ) (b : Bool) → ltb i n ≡ b → i < suc n → (i < n → P i) → P n → P i
at_or P i n true e l f here = f (ltb-true i n e)
at_or P i n false e l f here = subst P (omega (arith, ltb-false i n e)) here

pub sound_at : (file : List ℕ) (rs : List Record) (n i : ℕ) → sound file rs n ≡ true → i < n → stands file rs i ≡ true
sound_at file rs zero i h l = absurd (omega arith)
sound_at file rs (suc n) i h l =
    at_or (λ k. stands file rs k ≡ true) i n (ltb i n) refl l (sound_at file rs n i ((and_parts _ _ h).0)) ((and_parts _ _ h).1)

pub stands_taken : (file : List ℕ) (rs : List Record) (i : ℕ) → stands file rs i ≡ true →
    Taken file (waiting file rs i) i (at rs i).place (at rs i) (next_at file (at rs i).place)
stands_taken file rs i h =
    let m = stands_ok file rs i h in
    let t = accepted_taken file rs i (at rs i).place m.0 m.1.0 in
    subst (λ (r : Record). Taken file (waiting file rs i) i (at rs i).place r (next_at file (at rs i).place)) m.1.1
    (subst (λ (q : ℕ). Taken file (waiting file rs i) i (at rs i).place m.0.0 q) t.next t)

pub spanned : (file : List ℕ) (rs : List Record) (n : ℕ) → sound file rs n ≡ true → Spanned file rs n
spanned file rs n h i l =
    let t = stands_taken file rs i (sound_at file rs n i h l) in
    (leb-true _ _ ((and_parts (leb (at rs i).count (many (waiting file rs i))) (allowed (at rs i).kind (at rs i).detail (last_of (at rs i).count (waiting file rs i))) t.fit).0), t.spans)

is_false : (b : Bool) → (b ≡ true → ⊥) → false ≡ b
is_false true h = absurd (h refl)
is_false false h = refl

pub sound_not : (file : List ℕ) (rs : List Record) (n i : ℕ) → i < n → false ≡ stands file rs i → false ≡ sound file rs n
sound_not file rs n i l h =
    is_false (sound file rs n) (λ e. let s = sound_at file rs n i e l in let z : ◌≡◌ {A = ℕ} 0 1 = cc in omega arith)

pub sound_more : (file : List ℕ) (rs : List Record) (i : ℕ) → sound file rs i ≡ true → true ≡ stands file rs i → sound file rs (i + 1) ≡ true
sound_more file rs i h s = rw (add-one, h, sym s)
