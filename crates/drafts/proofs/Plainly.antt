-- The grammar, in plain words.
use Rattle.std.proofs.Common.{◌≡◌, ℕ, ◌-◌, ◌<◌, ◌≤◌, Bool, true, ◌&&◌, eqb, ltb, List, [], ◌∷◌, sym, refl, ap, ◌∙◌, ⊎_elim, arith, ltb-true, lt-ltb, eqb-true}
use Rattle.std.proofs.lemmas.Bool.{and_parts, or_cases, or_right}
use Rattle.drafts.specs.declared.row.Set.{Set}
use Rattle.drafts.specs.declared.row.Item.{Item}
use Rattle.drafts.specs.Tree.{Nodes, none, ◌▸◌, many}
use Rattle.drafts.specs.Grammar.{has, ends_in, empty, fits_behind, fits, set_of, least_of, most_of}
use Rattle.drafts.specs.Plain.{◌⧺◌, all_in, Parts, FallsIntoParts}
use Rattle.drafts.proofs.Fitting.{ends_here}

module _ (s : Set) (d : ℕ) (rest : Nodes → Bool) where
  -- nodes that end in such nodes
  pub record Split (least most : ℕ) (ns : Nodes) : Type 0 where
    pub front : Nodes
    pub part : Nodes
    pub cut : ns ≡ front ⧺ part
    pub each : all_in s d part ≡ true
    pub at_least : least ≤ many part
    pub at_most : many part ≤ most
    pub ahead : rest front ≡ true

  split_here : (least most : ℕ) (ns : Nodes) → (eqb least 0 && rest ns) ≡ true → Split least most ns
  split_here least most ns h =
      let z : least ≡ 0 = eqb-true least 0 ((and_parts (eqb least 0) (rest ns) h).0) in
      record {
        front = ns;
        part = none;
        cut = refl;
        each = refl;
        at_least = omega arith;
        at_most = omega arith;
        ahead = (and_parts (eqb least 0) (rest ns) h).1;
      }

  pub split_off : (least most : ℕ) (ns : Nodes) → ends_in s d rest least most ns ≡ true → Split least most ns
  split_off least most none h = split_here least most none h
  split_off least most (ns ▸ n) h =
      let one : Bool = ltb 0 most in
      let more : Bool = ends_in s d rest (least - 1) (most - 1) ns in
      ⊎_elim (split_here least most (ns ▸ n))
      (λ k.
      let room : 0 < most = ltb-true 0 most ((and_parts one (has s d n && more) k).0) in
      let k2 = (and_parts one (has s d n && more) k).1 in
      let r = split_off (least - 1) (most - 1) ns ((and_parts (has s d n) more k2).1) in
      record {
        front = r.front;
        part = r.part ▸ n;
        cut = ap (λ (ms : Nodes). ms ▸ n) r.cut;
        each = rw r.each ((and_parts (has s d n) more k2).0);
        at_least = omega (arith, r.at_least);
        at_most = omega (arith, r.at_most);
        ahead = r.ahead;
      })
      (or_cases (eqb least 0 && rest (ns ▸ n)) (one && (has s d n && more)) h)

  pub join_on : (least most : ℕ) (front part : Nodes) → all_in s d part ≡ true → least ≤ many part → many part ≤ most → rest front ≡ true →
      ends_in s d rest least most (front ⧺ part) ≡ true
  join_on least most front none e l m h = sym (ends_here s d rest least most front (omega arith) h)
  join_on least most front (part ▸ n) e l m h =
      let more = join_on (least - 1) (most - 1) front part ((and_parts (all_in s d part) (has s d n) e).0) (omega arith) (omega arith) h in
      or_right (eqb least 0 && rest ((front ⧺ part) ▸ n)) _
      (rw (lt-ltb 0 most (omega arith), (and_parts (all_in s d part) (has s d n) e).1) more)

-- the nodes of the items before, and those of this item

abbrev pub Front : (Nodes → Bool) → List Item → ℕ → Nodes → Type 0
Front front items d ns = (ahead : Nodes) × ((rest : Nodes) × ((ns ≡ ahead ⧺ rest) × ((front ahead ≡ true) × Parts items d rest)))

append_assoc : (a b c : Nodes) → a ⧺ (b ⧺ c) ≡ a ⧺ b ⧺ c
append_assoc a b none = refl
append_assoc a b (c ▸ n) = ap (λ (ns : Nodes). ns ▸ n) (append_assoc a b c)

none_before : (a : Nodes) → none ⧺ a ≡ a
none_before none = refl
none_before (a ▸ n) = ap (λ (ns : Nodes). ns ▸ n) (none_before a)

falls_behind : (front : Nodes → Bool) (items : List Item) (d : ℕ) (ns : Nodes) → fits_behind front items d ns ≡ true → Front front items d ns
falls_behind front [] d ns h = (ns, (none, (refl, (h, refl))))
falls_behind front (item ∷ items) d ns h =
    let r = falls_behind (ends_in (set_of item) d front (least_of item d) (most_of item d)) items d ns h in
    let s = split_off (set_of item) d front (least_of item d) (most_of item d) r.0 r.1.1.1.0 in
    let cut = r.1.1.0 ∙ ap (λ (x : Nodes). x ⧺ r.1.0) s.cut ∙ sym (append_assoc s.front s.part r.1.0) in
    (s.front, (s.part ⧺ r.1.0, (cut, (s.ahead, (s.part, (r.1.0, (refl, (record { each = s.each; at_least = s.at_least; at_most = s.at_most }, r.1.1.1.1))))))))

joins_behind : (front : Nodes → Bool) (items : List Item) (d : ℕ) (ahead rest : Nodes) → front ahead ≡ true → Parts items d rest →
    fits_behind front items d (ahead ⧺ rest) ≡ true
joins_behind front [] d ahead rest h p = rw p h
joins_behind front (item ∷ items) d ahead rest h p =
    let part = p.1.1.1.0 in
    let here = join_on (set_of item) d front (least_of item d) (most_of item d) ahead p.0 part.each part.at_least part.at_most h in
    rw (p.1.1.0, append_assoc ahead p.0 p.1.0)
    (joins_behind (ends_in (set_of item) d front (least_of item d) (most_of item d)) items d (ahead ⧺ p.0) p.1.0 here p.1.1.1.1)

empty_none : (ns : Nodes) → empty ns ≡ true → ns ≡ none
empty_none none h = refl
empty_none (ns ▸ n) h = absurd (let z : ◌≡◌ {A = ℕ} 0 1 = cc in omega arith)

pub falls : (items : List Item) (d : ℕ) (ns : Nodes) → fits items d ns ≡ true → Parts items d ns
falls items d ns h =
    let r = falls_behind empty items d ns h in
    let all : ns ≡ r.1.0 = r.1.1.0 ∙ ap (λ (x : Nodes). x ⧺ r.1.0) (empty_none r.0 r.1.1.1.0) ∙ none_before r.1.0 in
    rw all r.1.1.1.1

joined : (items : List Item) (d : ℕ) (ns : Nodes) → Parts items d ns → fits items d ns ≡ true
joined items d ns h = rw (← none_before ns) (joins_behind empty items d none ns refl h)

pub falls_into_parts : FallsIntoParts
falls_into_parts = record { splits = falls; joins = joined }
