-- The trees of records that stand.
use Rattle.std.proofs.Common.{◌≡◌, ℕ, zero, suc, ◌-◌, ◌<◌, ◌≤◌, true, leb, List, set, sym, refl, ap, ◌∙◌, arith, leb-true}
use Rattle.std.proofs.lemmas.Bool.{and_from, and_parts}
use Rattle.drafts.specs.declared.record.Record.{Record}
use Rattle.drafts.specs.Tree.{Nodes, none, ◌▸◌, many, last_of, before_of, at, text_at, header_of, grown, waiting, tree, Spanned}
use Rattle.drafts.specs.Table.{row_of, text_of}
use Rattle.drafts.specs.TextRules.{text_fits}
use Rattle.drafts.specs.Added.{allowed, stands, sound}
use Rattle.drafts.specs.Left.{Leads, here, further}
use Rattle.drafts.specs.Trees.{shaped, obeys, all_obey, walked, TreesStand}
use Rattle.drafts.proofs.Places.{all_wait, layout, some_wait, spanned_less, span_fits, many_step}
use Rattle.drafts.proofs.Walks.{many_last}
use Rattle.drafts.proofs.Entering.{Taken}
use Rattle.drafts.proofs.Standing.{spanned, stands_taken, sound_at}
use Rattle.drafts.proofs.Leaving.{adds_parts, waited, others, left_sound}

-- the walk back over spans finds the last k nodes that wait
walk_back : (file : List ℕ) (rs : List Record) (k e : ℕ) → Spanned file rs e → k ≤ many (waiting file rs e) →
    last_of k (waiting file rs e) ≡ walked file rs e k
walk_back file rs zero e s h = refl
walk_back file rs (suc k) e s h =
    let some : 0 < e = some_wait file rs e (omega arith) in
    let less = span_fits file rs e s some in
    let before : ℕ = e - (at rs (e - 1)).span in
    let steps = many_step file rs e s some in
    rw (layout file rs e s some) (ap (λ (ns : Nodes). ns ▸ tree file rs (e - 1)) (walk_back file rs k before (spanned_less file rs e before s (omega arith)) (omega arith)))

last_all : (ns : Nodes) → last_of (many ns) ns ≡ ns
last_all none = refl
last_all (ns ▸ n) = ap (λ (ms : Nodes). ms ▸ n) (last_all ns)

-- what is added later leaves earlier trees alone

leads_more : (file : List ℕ) (rs : List Record) (n : ℕ) (new : List Record) (m : ℕ) → Leads file rs n new m → n ≤ m
leads_more file rs n new m here = omega arith
leads_more file rs n new m (further l p a h) = omega (arith, leads_more file rs n _ _ l)

leads_keep : (file : List ℕ) (rs : List Record) (n : ℕ) (new : List Record) (m : ℕ) → Leads file rs n new m → (i : ℕ) → i < n → tree file new i ≡ tree file rs i
leads_keep file rs n new m here i h = refl
leads_keep file rs n new m (further {new = old} {m = k} l p a e) i h =
    let room = (adds_parts file k old p a e).fits in
    let less = leads_more file rs n old k l in
    let there = others file old k p a room i (omega arith) in
    let wait = waited file old k p a room i (omega arith) in
    ap (λ (r : Record). grown file r (waiting file (set old k a.0) i)) there ∙ ap (grown file (at old i)) wait ∙ leads_keep file rs n old k l i h

-- every tree obeys the grammar

obey_last : (k : ℕ) (ns : Nodes) → all_obey ns ≡ true → all_obey (last_of k ns) ≡ true
obey_last zero ns h = refl
obey_last (suc k) none h = refl
obey_last (suc k) (ns ▸ n) h =
    and_from (all_obey (last_of k ns)) (obeys n) (obey_last k ns ((and_parts (all_obey ns) (obeys n) h).0)) ((and_parts (all_obey ns) (obeys n) h).1)

obey_before : (k : ℕ) (ns : Nodes) → all_obey ns ≡ true → all_obey (before_of k ns) ≡ true
obey_before zero ns h = h
obey_before (suc k) none h = refl
obey_before (suc k) (ns ▸ n) h = obey_before k ns ((and_parts (all_obey ns) (obeys n) h).0)

module _ (file : List ℕ) (ws : Nodes) (n p : ℕ) (r : Record) (q : ℕ) (t : Taken file ws n p r q) where
  enough : r.count ≤ many ws
  enough = leb-true _ _ ((and_parts (leb r.count (many ws)) (allowed r.kind r.detail (last_of r.count ws)) t.fit).0)

  node_shaped : shaped (header_of file r) (last_of r.count ws) ≡ true
  node_shaped =
      let texts : text_fits (text_of (row_of r.kind)) r.detail (many (last_of r.count ws)) (text_at file r.place) ≡ true =
      rw (many_last r.count ws enough, t.placed) t.reads in
      let children : allowed r.kind r.detail (last_of r.count ws) ≡ true =
      (and_parts (leb r.count (many ws)) (allowed r.kind r.detail (last_of r.count ws)) t.fit).1 in
      rw (t.knows, t.spares, texts) children

  pub grown_obeys : all_obey ws ≡ true → obeys (grown file r ws) ≡ true
  grown_obeys h =
      and_from (shaped (header_of file r) (last_of r.count ws)) (all_obey (last_of r.count ws)) node_shaped (obey_last r.count ws h)

waiting_obey : (file : List ℕ) (rs : List Record) (n : ℕ) → sound file rs n ≡ true → all_obey (waiting file rs n) ≡ true
waiting_obey file rs zero s = refl
waiting_obey file rs (suc n) s =
    let before = waiting_obey file rs n ((and_parts (sound file rs n) (stands file rs n) s).0) in
    and_from (all_obey (before_of (at rs n).count (waiting file rs n))) (obeys (tree file rs n)) (obey_before (at rs n).count (waiting file rs n) before)
    (grown_obeys file (waiting file rs n) n _ (at rs n) _ (stands_taken file rs n ((and_parts (sound file rs n) (stands file rs n) s).1)) before)

sound_less : (file : List ℕ) (rs : List Record) (n : ℕ) → sound file rs n ≡ true → (i : ℕ) → i ≤ n → sound file rs i ≡ true
sound_less file rs n s zero h = refl
sound_less file rs n s (suc i) h =
    and_from (sound file rs i) (stands file rs i) (sound_less file rs n s i (omega arith)) (sound_at file rs n i s (omega arith))

tree_obeys : (file : List ℕ) (rs : List Record) (n : ℕ) → sound file rs n ≡ true → (i : ℕ) → i < n → obeys (tree file rs i) ≡ true
tree_obeys file rs n s i h =
    let w = waiting_obey file rs (suc i) (sound_less file rs n s (suc i) h) in
    (and_parts (all_obey (before_of (at rs i).count (waiting file rs i))) (obeys (tree file rs i)) w).1

pub trees_stand : (file : List ℕ) → TreesStand file
trees_stand file =
    record {
      children =
          λ rs n left i h.
          let s = spanned file rs n (left_sound file rs n left).1 in
          walk_back file rs (at rs i).count i (spanned_less file rs n i s (omega arith)) (s i h).0;
      lines =
          λ rs n left.
          let s = spanned file rs n (left_sound file rs n left).1 in
          sym (last_all (waiting file rs n)) ∙ walk_back file rs (many (waiting file rs n)) n s (omega arith);
      all = λ rs n left. all_wait file rs n;
      kept = leads_keep file;
      obeyed = λ rs n left. tree_obeys file rs n (left_sound file rs n left).1;
    }
