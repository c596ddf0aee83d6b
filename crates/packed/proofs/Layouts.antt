-- The reader's definition answers what a file holds.
use Rattle.std.proofs.Common.{◌≡◌, ℕ, ◌+◌, ◌≤◌, true, false, ltb, leb, List, ◌∷◌, ◌++◌, length, get_or, take, drop, IfOk, Ok, Result, sym, ap, subst, arith, length-append, length-drop, take-append-drop, length-take, get_or-append-add, le-ltb, le-leb, leb-true}
use Rattle.std.proofs.lemmas.List.{drop_more}
use Rattle.std.proofs.lemmas.Bool.{cond_both}
use lib.Seq.{drop-append-add, take-append_seam}
use Rattle.packed.specs.declared.refusal.Refusal.{Refusal}
use Rattle.packed.specs.Fields.{Told, word_at, payload_at, next_at, field_of, field_at}
use Rattle.packed.specs.Reading.{read_at}
use Rattle.packed.specs.Layout.{Holds, Found, Reads}

module _ (file : List ℕ) (p tag : ℕ) (payload : List ℕ) (h : Holds file p tag payload) where
  abbrev rest : List ℕ
  rest = tag ∷ h.high ∷ h.low ∷ (payload ++ h.after)

  byte_at : (k i : ℕ) → i ≡ p + k → get_or file i 0 ≡ get_or rest k 0
  byte_at k i e = let g = get_or-append-add h.before rest k 0 in cc

  tag_is : get_or file p 0 ≡ tag
  tag_is = byte_at 0 p (omega arith)

  word_is : word_at file (p + 1) ≡ length payload
  word_is = omega (arith, byte_at 1 (p + 1) (omega arith), byte_at 2 (p + 1 + 1) (omega arith), h.size)

  payload_is : payload_at file p ≡ payload
  payload_is =
      let w = word_is in
      let d = drop-append-add h.before rest 3 in
      let t = take-append_seam payload h.after in
      cc

  length_is : length file ≡ p + 3 + length payload + length h.after
  length_is = omega (arith, simp length-append at (ap length h.cut))

answers_all : (file : List ℕ) (p tag : ℕ) (payload : List ℕ) → Holds file p tag payload → length file ≤ 65535 → read_at file p ≡ Ok (field_of tag payload, p + 3 + length payload)
answers_all file p tag payload h small =
    let t = tag_is file p tag payload h in
    let w = word_is file p tag payload h in
    let b = payload_is file p tag payload h in
    let l = length_is file p tag payload h in
    let fits : leb (next_at file p) (length file) ≡ true = le-leb _ _ (omega arith) in
    let short : ltb 65535 (length file) ≡ false = le-ltb _ _ small in
    rw (short, fits, t, b, w)

held : (file : List ℕ) (p : ℕ) → next_at file p ≤ length file → Holds file p (get_or file p 0) (payload_at file p)
held file p h =
    let front = take-append-drop p file in
    let one = drop_more file p 0 (omega arith) in
    let two = drop_more file (p + 1) 0 (omega arith) in
    let three = drop_more file (p + 1 + 1) 0 (omega arith) in
    let here : p + 1 + 1 + 1 ≡ p + 3 = omega arith in
    let back = take-append-drop (word_at file (p + 1)) (drop (p + 3) file) in
    record {
      before = take p file;
      after = drop (word_at file (p + 1)) (drop (p + 3) file);
      high = get_or file (p + 1) 0;
      low = get_or file (p + 1 + 1) 0;
      cut = cc;
      start = simp length-take (omega arith);
      size = simp (length-take, length-drop) (omega arith);
    }

answers_only : (file : List ℕ) (p : ℕ) → next_at file p ≤ length file → Found file p (field_at file p, next_at file p)
answers_only file p h =
    let n : word_at file (p + 1) ≡ length (payload_at file p) = simp (length-take, length-drop) (omega arith) in
    (get_or file p 0, payload_at file p, held file p h, ap (λ (k : ℕ). (field_at file p, p + 3 + k)) n)

pub reads : (file : List ℕ) (p : ℕ) (r : Result (Told × ℕ) Refusal) → r ≡ read_at file p → Reads file p r
reads file p r e = subst (Reads file p) (sym e) (record {
  all = answers_all file p;
  only =
      cond_both (ltb 65535 (length file)) _ _ (λ s. IfOk s (Found file p)) (λ _. tt)
      (λ _. cond_both (leb (next_at file p) (length file)) _ _ (λ s. IfOk s (Found file p)) (λ b. answers_only file p (leb-true _ _ b)) (λ _. tt));
})
