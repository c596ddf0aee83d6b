-- What `find_map` answers, over a list.
use Rattle.std.proofs.Common.{◌≡◌, ℕ, zero, suc, ◌+◌, ◌<◌, true, List, [], ◌∷◌, ◌++◌, length, take, drop, Some, None, Option, sym, refl, ap, ◌∙◌, subst, arith, take-append-drop}
use Rattle.std.specs.Prelude.{map, IfSome, IsSomeAnd, MatchOption, slice_get}
use Rattle.std.specs.Option.{option_or}
use Rattle.std.specs.Iterator.Runs.{SomeRun, AllItemsGive, IsFirstToGive, YieldsRun}
use Rattle.std.proofs.lemmas.Iterator.{YieldsList, items_from_drains}
use Rattle.std.proofs.lemmas.Iterator.Consumers.{YieldsList-so_far}
use denote.Param.Members.{Mut, Called}

module _ {B C : Type 0} (h : B → Option C) where
  abbrev pub first_some : List B → Option C
  first_some [] = None
  first_some (x ∷ xs) = option_or (h x) (first_some xs)

  module _ {A : Type 0} (v : A → B) where
    none_given : (xs : List A) → ((k : ℕ) → IfSome (slice_get xs k) (λ x. None ≡ h (v x))) → first_some (map v xs) ≡ None
    none_given [] e = refl
    none_given (x ∷ xs) e = rw (sym (e 0)) (none_given xs (λ k. e (suc k)))

    given_at : (xs : List A) (rest : List B) (i : ℕ) (y : C) → IsSomeAnd (slice_get xs i) (λ x. Some y ≡ h (v x)) →
        ((k : ℕ) → k < i → IsSomeAnd (slice_get xs k) (λ x. None ≡ h (v x))) → first_some (map v xs ++ rest) ≡ Some y
    given_at [] rest i y here before = absurd here
    given_at (x ∷ xs) rest zero y here before = rw (sym here) refl
    given_at (x ∷ xs) rest (suc i) y here before =
        rw (sym (before 0 (omega arith))) (given_at xs rest i y here (λ k l. before (suc k) (omega arith)))

-- the clause `runs` of `find_map`
abbrev pub FoundFirst : {S A C F : Type 0} → (S → Option A → S → Type 0) → Mut F (A × Unit {0}) (Option C) → S → F → Option C → Type 0
FoundFirst steps g s f r =
    SomeRun steps s (λ p. MatchOption r ((p.whole ≡ true) × AllItemsGive p g f None)
    (λ y. (i : ℕ) × (i < p.len) × (p.len ≡ i + 1) × IsFirstToGive p g f (Some y) None i))

if_some : {A : Type 0} {P Q : A → Type 0} (o : Option A) → ((x : A) → P x → Q x) → IfSome o P → IfSome o Q
if_some None f h = tt
if_some (Some x) f h = f x h

some_and : {A : Type 0} {P Q : A → Type 0} (o : Option A) → ((x : A) → P x → Q x) → IsSomeAnd o P → IsSomeAnd o Q
some_and None f h = h
some_and (Some x) f h = f x h

module _ {S A B C F : Type 0} {steps : S → Option A → S → Type 0} {v : A → B} {s : S} {all : List B} (e : YieldsList steps v s all)
    (g : Mut F (A × Unit {0}) (Option C)) (h : B → Option C) {f : F} (acts : (x : A) (o : Option C) (q : F) → Called g f (x, tt) o q → (q ≡ f) × (o ≡ h (v x))) where
  keeps : (a : A × Unit {0}) (o : Option C) (q : F) → Called g f a o q → q ≡ f
  keeps a o q k = (acts a.0 o q k).0

  gives : (o : Option C) (x : A) → Called g f (x, tt) o f → o ≡ h (v x)
  gives o x k = (acts x o f k).1

  pub found_first : (r : Option C) → FoundFirst steps g s f r → r ≡ first_some h all
  unfolding YieldsRun
  found_first None found =
      let p = found.0 in
      let here = subst (λ (t : S). YieldsList steps v t all) (sym found.1) e in
      let whole : map v p.items ≡ all = items_from_drains p.items (p.gave.0.0, p.gave.0.1, λ _. p.gave.0.2 found.2.0) here in
      let none = none_given h v p.items (λ k. subst (λ (o : Option A). IfSome o (λ x. None ≡ h (v x))) (p.gave.1 k) (if_some (p.at k) (gives None) (found.2.1 keeps k))) in
      sym none ∙ ap (first_some h) whole
  found_first (Some y) found =
      let p = found.0 in
      let here = subst (λ (t : S). YieldsList steps v t all) (sym found.1) e in
      let front : map v p.items ≡ take (length p.items) all = YieldsList-so_far here p.items p.gave.0.0 p.gave.0.1 in
      let hit = found.2.3 keeps in
      let at = some_and (p.at found.2.0) (gives (Some y)) hit.0 in
      let before = λ (k : ℕ) (l : k < found.2.0). subst (λ (o : Option A). IsSomeAnd o (λ x. None ≡ h (v x))) (p.gave.1 k) (some_and (p.at k) (gives None) (hit.1 k l)) in
      let some =
      given_at h v p.items (drop (length p.items) all) found.2.0 y (subst (λ (o : Option A). IsSomeAnd o (λ x. Some y ≡ h (v x))) (p.gave.1 found.2.0) at)
      before in
      sym some ∙ ap (first_some h) (ap (λ (xs : List B). xs ++ drop (length p.items) all) front ∙ take-append-drop (length p.items) all)
