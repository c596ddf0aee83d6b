-- The records that accepted adds leave are those that stand.
use Rattle.std.proofs.Common.{◌≡◌, ℕ, zero, suc, ◌+◌, ◌<◌, ◌≤◌, Bool, true, false, cond, not, ◌&&◌, eqb, ltb, leb, ◌≢◌, List, length, set, Ok, Err, Result, sym, refl, ap, ◌∙◌, subst, add-one, arith, length-set, get_or-set_other, get_or-set_same, ltb-true, lt-ltb, le-leb, leb-true}
use Rattle.std.proofs.lemmas.Bool.{and_parts}
use lib.Seq.{set-get_or}
use Rattle.packed.specs.declared.refusal.Refusal.{Refusal}
use Rattle.packed.specs.declared.refusal.Reason.{Reason}
use Rattle.packed.specs.declared.refusal.Reason.TheVariants.{CutField, WrongTag, BadHeader, TypeScriptOnly, BadText, BadChildren, Full, ForeignTable, BadSwitch, BadScope}
use Rattle.packed.specs.Fields.{Told, node, scope, switch, name, other, next_at}
use Rattle.packed.specs.Reading.{refused, and_then, read_at, node_only, node_at}
use Rattle.packed.proofs.Steps.{no_err, pass}
use Rattle.drafts.specs.declared.record.Record.{Record}
use Rattle.drafts.specs.Tree.{Nodes, waiting, at}
use Rattle.drafts.specs.Table.{row_of, text_of}
use Rattle.drafts.specs.TextRules.{text_fits}
use Rattle.drafts.specs.Added.{checked, room, known, children_fit, entered, accepted, same, makes, stands, sound, adds}
use Rattle.drafts.specs.Left.{Leads, here, further, Left, ForeignOnly}
use Rattle.drafts.proofs.Entering.{accepted_taken}
use Rattle.drafts.proofs.Standing.{same_itself, stands_ok, sound_more}

pub same_waiting : (file : List ℕ) (old new : List Record) (n : ℕ) → ((i : ℕ) → i < n → at new i ≡ at old i) →
    (i : ℕ) → i ≤ n → waiting file new i ≡ waiting file old i
same_waiting file old new n e zero h = refl
same_waiting file old new n e (suc i) h = rw (e i h, same_waiting file old new n e i (omega arith))

-- acceptance looks at no more than the nodes that wait
same_accepted : (file : List ℕ) (old new : List Record) (n p : ℕ) → waiting file new n ≡ waiting file old n →
    accepted file new n p ≡ accepted file old n p
same_accepted file old new n p e =
    ap (λ (ws : Nodes). and_then (node_at file p) (λ a. entered ws n p a.0 a.1)) e

standing : (file : List ℕ) (rs : List Record) (n p : ℕ) (a : Record × ℕ) → at rs n ≡ a.0 → a.0.place ≡ p → accepted file rs n p ≡ Ok a →
    stands file rs n ≡ true
unfolding stands
standing file rs n p a e f ok =
    ap (λ (q : ℕ). makes (at rs n) (accepted file rs n q)) (ap (λ (r : Record). r.place) e ∙ f) ∙
    ap (makes (at rs n)) ok ∙ ap (same a.0) e ∙ same_itself a.0

module _ (file : List ℕ) (old : List Record) (n p : ℕ) (a : Record × ℕ) (room : n < length old) where
  abbrev new : List Record
  new = set old n a.0

  pub others : (i : ℕ) → i < n → at new i ≡ at old i
  others i h = let ne : i ≢ n = omega arith in get_or-set_other old n i a.0 _ ne

  set_there : at new n ≡ a.0
  set_there = get_or-set_same old n a.0 _ room

  pub waited : (i : ℕ) → i ≤ n → waiting file new i ≡ waiting file old i
  waited = same_waiting file old new n others

  others_stand : (i : ℕ) → i < n → stands file new i ≡ stands file old i
  unfolding stands
  others_stand i h = rw (others i h) (ap (makes (at old i)) (same_accepted file old new i (at old i).place (waited i (omega arith))))

  still_sound : (i : ℕ) → i ≤ n → sound file new i ≡ sound file old i
  still_sound zero h = refl
  still_sound (suc i) h = rw (still_sound i (omega arith), others_stand i h)

  pub sound_set : accepted file old n p ≡ Ok a → sound file old n ≡ true → sound file new (n + 1) ≡ true
  sound_set ok s =
      sound_more file new n (still_sound n (omega arith) ∙ s)
      (sym (standing file new n p a set_there (accepted_taken file old n p a ok).placed (same_accepted file old new n p (waited n (omega arith)) ∙ ok)))

-- an accepted add

pub record Accepted (file : List ℕ) (n : ℕ) (rs : List Record) (p : ℕ) (a : Record × ℕ) : Type 0 where
  pub small : length file ≤ 65535
  pub fits : n < length rs
  pub sound_so_far : sound file rs n ≡ true
  pub takes : accepted file rs n p ≡ Ok a

pub record Checked (file : List ℕ) (n : ℕ) (rs : List Record) : Type 0 where
  pub small : length file ≤ 65535
  pub within : n ≤ length rs
  pub sound_so_far : sound file rs n ≡ true

pub checked_ok : (file : List ℕ) (n : ℕ) (rs : List Record) (p : ℕ) → checked file n rs p ≡ Ok tt → Checked file n rs
checked_ok file n rs p h =
    let h1 = pass (leb (length file) 65535) _ _ tt h in
    let h2 = pass (leb n (length rs) && sound file rs n) _ _ tt h1.1 in
    record {
      small = leb-true _ _ h1.0;
      within = leb-true _ _ ((and_parts (leb n (length rs)) (sound file rs n) h2.0).0);
      sound_so_far = (and_parts (leb n (length rs)) (sound file rs n) h2.0).1;
    }

module _ (file : List ℕ) (n : ℕ) (rs : List Record) (p : ℕ) (a : Record × ℕ) where
  room_parts : (x : Result (Record × ℕ) Refusal) → accepted file rs n p ≡ x → Checked file n rs → and_then x (room n rs p) ≡ Ok a → Accepted file n rs p a
  room_parts (Ok b) e c h =
      let g = pass (ltb n (length rs)) (Ok b) _ a h in
      record { small = c.small; fits = ltb-true n (length rs) g.0; sound_so_far = c.sound_so_far; takes = e ∙ g.1 }
  room_parts (Err b) e c h = absurd (no_err b a h)

  check_parts : (x : Result (Unit {0}) Refusal) → checked file n rs p ≡ x → and_then x (λ _. and_then (accepted file rs n p) (room n rs p)) ≡ Ok a → Accepted file n rs p a
  check_parts (Ok tt) e h = room_parts (accepted file rs n p) refl (checked_ok file n rs p e) h
  check_parts (Err b) e h = absurd (no_err b a h)

  pub adds_parts : adds file n rs p ≡ Ok a → Accepted file n rs p a
  adds_parts h = check_parts (checked file n rs p) refl h

leads_sound : (file : List ℕ) (start rs : List Record) (n : ℕ) → Leads file start 0 rs n → (n ≤ length rs) × (sound file rs n ≡ true)
leads_sound file start rs n here = (omega arith, refl)
leads_sound file start rs n (further {new} {m} l p a h) =
    let parts = adds_parts file m new p a h in
    (rw (length-set new m a.0) (omega (arith, parts.fits)), sound_set file new m p a parts.fits parts.takes parts.sound_so_far)

pub left_sound : (file : List ℕ) (rs : List Record) (n : ℕ) → Left file rs n → (n ≤ length rs) × (sound file rs n ≡ true)
left_sound file rs n l = leads_sound file l.0 rs n l.1

-- and the other way: what stands is left by adds of its own fields

pub checks : (file : List ℕ) (n : ℕ) (rs : List Record) (p : ℕ) → length file ≤ 65535 → n ≤ length rs → sound file rs n ≡ true →
    checked file n rs p ≡ Ok tt
checks file n rs p l h s = rw (le-leb (length file) 65535 l, le-leb n (length rs) h, s)

-- after the checks
pub adds_checked : (file : List ℕ) (n : ℕ) (rs : List Record) (p : ℕ) → length file ≤ 65535 → n ≤ length rs → sound file rs n ≡ true →
    adds file n rs p ≡ and_then (accepted file rs n p) (room n rs p)
adds_checked file n rs p l h s =
    ap (λ (x : Result (Unit {0}) Refusal). and_then x (λ _. and_then (accepted file rs n p) (room n rs p))) (checks file n rs p l h s)

adds_ok : (file : List ℕ) (n : ℕ) (rs : List Record) (p : ℕ) (a : Record × ℕ) → length file ≤ 65535 → n < length rs → sound file rs n ≡ true →
    accepted file rs n p ≡ Ok a → adds file n rs p ≡ Ok a
adds_ok file n rs p a l h s ok =
    adds_checked file n rs p l (omega arith) s ∙ ap (λ (x : Result (Record × ℕ) Refusal). and_then x (room n rs p)) ok ∙
    ap (λ b. cond b (Ok a) (refused Full p)) (lt-ltb n (length rs) h)

sound_leads : (file : List ℕ) (rs : List Record) (n : ℕ) → length file ≤ 65535 → n ≤ length rs → sound file rs n ≡ true → Leads file rs 0 rs n
sound_leads file rs zero l h s = here
sound_leads file rs (suc n) l h s =
    let m = stands_ok file rs n ((and_parts (sound file rs n) (stands file rs n) s).1) in
    let before : sound file rs n ≡ true = (and_parts (sound file rs n) (stands file rs n) s).0 in
    let left : Leads file rs 0 (set rs n m.0.0) (n + 1) =
    further (sound_leads file rs n l (omega arith) before) (at rs n).place m.0 (adds_ok file n rs (at rs n).place m.0 l h before m.1.0) in
    subst (λ (k : ℕ). Leads file rs 0 rs k) (add-one n) (subst (λ (xs : List Record). Leads file rs 0 xs (n + 1)) (ap (set rs n) m.1.1 ∙ set-get_or rs n _) left)

-- no other step refuses as to a foreign table

abbrev is_foreign : Reason → Bool
is_foreign CutField = false
is_foreign WrongTag = false
is_foreign BadHeader = false
is_foreign TypeScriptOnly = false
is_foreign BadText = false
is_foreign BadChildren = false
is_foreign Full = false
is_foreign ForeignTable = true
is_foreign BadSwitch = false
is_foreign BadScope = false

abbrev refuses_foreign : {A : Type 0} → Result A Refusal → Bool
refuses_foreign (Ok a) = false
refuses_foreign (Err e) = is_foreign e.reason

abbrev Never : {A : Type 0} → Result A Refusal → Type 0
Never x = refuses_foreign x ≡ false

never_cond : {A : Type 0} (b : Bool) (x y : Result A Refusal) → Never x → Never y → Never (cond b x y)
never_cond true x y h k = h
never_cond false x y h k = k

never_then : {A B : Type 0} (x : Result A Refusal) (f : A → Result B Refusal) → Never x → ((a : A) → Never (f a)) → Never (and_then x f)
never_then (Ok a) f h k = k a
never_then (Err e) f h k = h

node_only_never : (p : ℕ) (t : Told) (q : ℕ) → Never (node_only p t q)
node_only_never p (node kind detail count reference text) q = refl
node_only_never p (scope s) q = refl
node_only_never p (switch s) q = refl
node_only_never p (name text) q = refl
node_only_never p (other tag payload) q = elim (eqb tag 1) as (λ (b : Bool). is_foreign (cond b BadHeader WrongTag) ≡ false) [ true ↦ refl | false ↦ refl ]

read_never : (file : List ℕ) (p : ℕ) → Never (read_at file p)
read_never file p = never_cond (ltb 65535 (length file)) _ _ refl (never_cond (leb (next_at file p) (length file)) _ _ refl refl)

entered_never : (ws : Nodes) (n p : ℕ) (t : Told) (q : ℕ) → Never (entered ws n p t q)
entered_never ws n p (node kind detail count reference text) q =
    never_cond (known kind detail reference) _ _
    (never_cond (not (eqb kind 70)) _ _
    (never_cond (text_fits (text_of (row_of kind)) detail count text) _ _
    (never_cond (children_fit ws kind detail count) _ _ (never_cond (ltb n 65535) _ _ refl refl) refl) refl) refl) refl
entered_never ws n p (scope s) q = refl
entered_never ws n p (switch s) q = refl
entered_never ws n p (name text) q = refl
entered_never ws n p (other tag payload) q = refl

rest_never : (file : List ℕ) (n : ℕ) (rs : List Record) (p : ℕ) → Never (and_then (accepted file rs n p) (room n rs p))
rest_never file n rs p =
    never_then (accepted file rs n p) (room n rs p)
    (never_then (node_at file p) _ (never_then (read_at file p) _ (read_never file p) (λ a. node_only_never p a.0 a.1)) (λ a. entered_never (waiting file rs n) n p a.0 a.1))
    (λ a. never_cond (ltb n (length rs)) _ _ refl refl)

not_never : {A : Type 0} (x : Result A Refusal) (p : ℕ) → Never x → x ≡ refused ForeignTable p → ⊥
not_never x p h e = let f = ap refuses_foreign e in let z : ◌≡◌ {A = ℕ} 0 1 = cc in omega arith

honest_taken : (file : List ℕ) (n : ℕ) (rs : List Record) (p : ℕ) (b : Bool) → leb (length file) 65535 ≡ b → n ≤ length rs → sound file rs n ≡ true →
    adds file n rs p ≡ refused ForeignTable p → ⊥
honest_taken file n rs p true e h s = not_never (adds file n rs p) p (rw (adds_checked file n rs p (leb-true _ _ e) h s) (rest_never file n rs p))
honest_taken file n rs p false e h s = not_never (adds file n rs p) p (rw e)

foreign_refused : (file : List ℕ) (n : ℕ) (rs : List Record) (p : ℕ) (b : Bool) → (leb n (length rs) && sound file rs n) ≡ b → length file ≤ 65535 →
    (adds file n rs p ≡ refused ForeignTable p → ⊥) → Left file rs n
foreign_refused file n rs p true e l h =
    (rs, sound_leads file rs n l (leb-true _ _ ((and_parts (leb n (length rs)) (sound file rs n) e).0)) ((and_parts (leb n (length rs)) (sound file rs n) e).1))
foreign_refused file n rs p false e l h = absurd (h (rw (le-leb (length file) 65535 l, e)))

pub foreign_only : (file : List ℕ) → ForeignOnly file
foreign_only file =
    record {
      honest = λ rs n p left. let s = left_sound file rs n left in honest_taken file n rs p (leb (length file) 65535) refl s.0 s.1;
      foreign = λ rs n p. foreign_refused file n rs p (leb n (length rs) && sound file rs n) refl;
    }
