-- One add more of a run of adds.
use Rattle.std.proofs.Common.{◌≡◌, ℕ, ◌+◌, ◌<◌, ◌≤◌, true, List, length, set, Ok, Err, Result, sym, refl, ap, ◌∙◌, subst, arith, length-set}
use borrow.Author.Tests.{lt-leb}
use Rattle.packed.specs.declared.refusal.Refusal.{Refusal}
use Rattle.packed.specs.declared.refusal.Reason.TheVariants.{Full}
use Rattle.packed.specs.Reading.{and_then}
use Rattle.packed.proofs.Steps.{no_err, ok_same}
use Rattle.drafts.specs.declared.record.Record.{Record}
use Rattle.drafts.specs.Added.{sound, checked, adds, answer, stored, counted}
use Rattle.drafts.specs.Tree.{many, waiting}
use Rattle.drafts.specs.Trees.{lines_counted}
use Rattle.drafts.specs.Bulk.{AddsAll, ended, more, stopped, SameEnd, EndsOnce}
use Rattle.drafts.proofs.Entering.{accepted_taken}
use Rattle.drafts.proofs.Leaving.{adds_parts, sound_set, checks}

-- a file that is too long
pub long_stops : (file : List ℕ) (rs : List Record) (p : ℕ) → 65535 < length file →
    AddsAll file 0 rs p 0 rs p (Err (record { reason = Full; place = 65535 }))
long_stops file rs p l = stopped 0 rs p _ (λ _. l) (rw (lt-leb (length file) 65535 l))

-- one add

module _ (file : List ℕ) (n : ℕ) (rs : List Record) (p : ℕ) (l : p ≡ length file → ⊥) (t : List Record) (d : ℕ) where
  stops : (e : Refusal) (x : Result (Record × ℕ) Refusal) → adds file n rs p ≡ x → Err e ≡ answer x → t ≡ stored n rs x → d ≡ counted n x →
      AddsAll file n rs p d t p (Err e)
  stops e (Ok a) x h f g = absurd (no_err e a.1 h)
  stops e (Err b) x h f g =
      rw (f, g)
      (subst (λ (b : Refusal). AddsAll file n rs p n rs p (Err b)) (err_same b e (sym h)) (stopped n rs p b (λ k. absurd (l k)) x))
    where
      err_same : (b e : Refusal) → ◌≡◌ {A = Result ℕ Refusal} (Err b) (Err e) → b ≡ e
      err_same b e h = cc

  pub add_stops : (e : Refusal) → Err e ≡ answer (adds file n rs p) → t ≡ stored n rs (adds file n rs p) → d ≡ counted n (adds file n rs p) →
      AddsAll file n rs p d t p (Err e)
  add_stops e = stops e (adds file n rs p) refl

  pub record Moved (q : ℕ) : Type 0 where
    pub on : p < q
    pub inside : q ≤ length file
    pub within : d ≤ length t
    pub still : sound file t d ≡ true
    pub so : (m : ℕ) (new : List Record) (o : ℕ) (stop : Result (Unit {0}) Refusal) → AddsAll file d t q m new o stop → AddsAll file n rs p m new o stop

  moved : (q : ℕ) (x : Result (Record × ℕ) Refusal) → adds file n rs p ≡ x → Ok q ≡ answer x → t ≡ stored n rs x → d ≡ counted n x → Moved q
  moved q (Ok a) x h f g =
      let parts = adds_parts file n rs p a x in
      let taken = accepted_taken file rs n p a parts.takes in
      rw (f, g, ok_same q a.1 h)
      record {
        on = omega (arith, taken.next);
        inside = omega (arith, taken.next, taken.whole);
        within = rw (length-set rs n a.0) (omega (arith, parts.fits));
        still = sound_set file rs n p a parts.fits parts.takes parts.sound_so_far;
        so = λ m new o stop w. more n rs p a m new o stop l x w;
      }
  moved q (Err b) x h f g = absurd (no_err b q (sym h))

  pub add_moves : (q : ℕ) → Ok q ≡ answer (adds file n rs p) → t ≡ stored n rs (adds file n rs p) → d ≡ counted n (adds file n rs p) → Moved q
  add_moves q = moved q (adds file n rs p) refl

-- a run of adds ends in one way

abbrev refusal_of : Result (Record × ℕ) Refusal → Result (Unit {0}) Refusal
refusal_of (Ok a) = Ok tt
refusal_of (Err e) = Err e

module _ (file : List ℕ) where
  once : (n : ℕ) (rs : List Record) (p m k : ℕ) (new old : List Record) (q o : ℕ) (stop halt : Result (Unit {0}) Refusal) →
      AddsAll file n rs p m new q stop → AddsAll file n rs p k old o halt → SameEnd m k new old q o stop halt
  once n rs p m k new old q o stop halt (ended _ _ _ s x) (ended _ _ _ r y) = record { nodes = refl; table = refl; place = refl; refusal = refl }
  once n rs p m k new old q o stop halt (ended _ _ _ s x) (more _ _ _ b _ _ _ _ l f v) = absurd (l x)
  once n rs p m k new old q o stop halt (ended _ _ _ s x) (stopped _ _ _ e l f) = absurd (omega (arith, l x))
  once n rs p m k new old q o stop halt (more _ _ _ a _ _ _ _ l e w) (ended _ _ _ s y) = absurd (l y)
  once n rs p m k new old q o stop halt (more _ _ _ a _ _ _ _ l e w) (more _ _ _ b _ _ _ _ l' f v) =
      once (n + 1) (set rs n a.0) a.1 m k new old q o stop halt w
      (subst (λ (c : Record × ℕ). AddsAll file (n + 1) (set rs n c.0) c.1 k old o halt) (ok_same b a (sym f ∙ e)) v)
  once n rs p m k new old q o stop halt (more _ _ _ a _ _ _ _ l e w) (stopped _ _ _ d l' f) = absurd (no_err d a (sym f ∙ e))
  once n rs p m k new old q o stop halt (stopped _ _ _ d l e) (ended _ _ _ s y) = absurd (omega (arith, l y))
  once n rs p m k new old q o stop halt (stopped _ _ _ d l e) (more _ _ _ b _ _ _ _ l' f v) = absurd (no_err d b (sym e ∙ f))
  once n rs p m k new old q o stop halt (stopped _ _ _ d l e) (stopped _ _ _ c l' f) =
      record { nodes = refl; table = refl; place = refl; refusal = ap refusal_of (sym e ∙ f) }

  pub ends_once : EndsOnce file
  ends_once = once

-- what a run leaves is sound

pub run_sound : (file : List ℕ) (n : ℕ) (rs : List Record) (p m : ℕ) (new : List Record) (q : ℕ) (stop : Result (Unit {0}) Refusal) →
    AddsAll file n rs p m new q stop → n ≤ length rs → sound file rs n ≡ true → (m ≤ length new) × (sound file new m ≡ true)
run_sound file n rs p m new q stop (ended _ _ _ s x) l h = (l, h)
run_sound file n rs p m new q stop (more _ _ _ a _ _ _ _ l e w) k h =
    let parts = adds_parts file n rs p a e in
    run_sound file (n + 1) (set rs n a.0) a.1 m new q stop w (rw (length-set rs n a.0) (omega (arith, parts.fits)))
    (sound_set file rs n p a parts.fits parts.takes parts.sound_so_far)
run_sound file n rs p m new q stop (stopped _ _ _ e l f) k h = (k, h)

-- a run that no refusal stopped: its lines can be counted
pub run_small : (file : List ℕ) (n : ℕ) (rs : List Record) (p m : ℕ) (new : List Record) (q : ℕ) (stop : Result (Unit {0}) Refusal) →
    AddsAll file n rs p m new q stop → stop ≡ Ok tt → length file ≤ 65535
run_small file n rs p m new q stop (ended _ _ _ s x) e = s
run_small file n rs p m new q stop (more _ _ _ a _ _ _ _ l f w) e = run_small file (n + 1) (set rs n a.0) a.1 m new q stop w e
run_small file n rs p m new q stop (stopped _ _ _ b l f) e = absurd (let z : ◌≡◌ {A = ℕ} 0 1 = cc in omega arith)

pub run_checks : (file : List ℕ) (rs : List Record) (p m : ℕ) (new : List Record) (q o : ℕ) → AddsAll file 0 rs p m new q (Ok tt) → checked file m new o ≡ Ok tt
run_checks file rs p m new q o w =
    let s = run_sound file 0 rs p m new q (Ok tt) w (omega arith) refl in
    checks file m new o (run_small file 0 rs p m new q (Ok tt) w refl) s.0 s.1

pub run_counts : (file : List ℕ) (rs : List Record) (p m : ℕ) (new : List Record) (q : ℕ) (stop : Result (Unit {0}) Refusal) (e : Refusal) →
    AddsAll file 0 rs p m new q stop → stop ≡ Ok tt → Err e ≡ lines_counted file m new → ⊥
run_counts file rs p m new q stop e w s h =
    let ok = run_checks file rs p m new q (length file) (subst (AddsAll file 0 rs p m new q) s w) in
    no_err e (many (waiting file new m)) (h ∙ ap (λ (x : Result (Unit {0}) Refusal). and_then x (λ _. Ok (many (waiting file new m)))) ok)
