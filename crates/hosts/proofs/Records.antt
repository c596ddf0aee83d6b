-- Scope records and their keys.
use Rattle.std.proofs.Common.{◌≡◌, ℕ, suc, ◌-◌, ◌<◌, Bool, true, false, cond, ◌&&◌, eqb, ltb, List, [], ◌∷◌, ◌++◌, length, get_or, is_some, Some, None, Option, Bor, IfSome, Ordering, Less, Equal, Greater, sym, refl, ap, ◌∙◌, not-suc-le-zero, arith}
use Rattle.std.specs.Option.{option_map, MatchOption}
use Rattle.std.specs.Ordering.{is_lt, ordering_then, nat_cmp}
use Rattle.std.specs.Str.{bytes_eq}
use Rattle.std.proofs.lemmas.Bool.{and_parts, and_from, ltb-true, ltb-false}
use Rattle.packed.specs.declared.field.Scope.{Scope}
use Rattle.tables.specs.Order.{order, position, above, ascends}
use Rattle.hosts.specs.Scopes.{scope_keys, lookup, highest}
use Rattle.tables.proofs.Ascent.{some_none}

then_equal : (o : Ordering) → ordering_then o Equal ≡ o
then_equal Less = refl
then_equal Equal = refl
then_equal Greater = refl

-- numbers in their order are keys in theirs
pub order_numbers : (a b : ℕ) → order (a ∷ []) (b ∷ []) ≡ nat_cmp a b
order_numbers a b = then_equal (nat_cmp a b)

and_true : (b : Bool) → (b && true) ≡ b
and_true true = refl
and_true false = refl

same_number : (a b : ℕ) → bytes_eq (a ∷ []) (b ∷ []) ≡ eqb a b
same_number a b = and_true (eqb a b)

step : (r : Scope) (rs : List Scope) (i : ℕ) (x : Scope) (b : Bool) (o : Option ℕ) (later : Option Scope) → x ≡ get_or (r ∷ rs) i x → Some i ≡ cond b (Some 0) (option_map suc o) → ((j : ℕ) → Some j ≡ o → x ≡ get_or rs j x → Some x ≡ later) → Some x ≡ cond b (Some r) later
step r rs i x true o later h e rest =
    let here : i ≡ 0 = cc in
    ap Some (h ∙ ap (λ j. get_or (r ∷ rs) j x) here)
step r rs i x false None later h e rest = absurd (some_none i e)
step r rs i x false (Some j) later h e rest =
    let here : i ≡ suc j = cc in
    rest j refl (h ∙ ap (λ n. get_or (r ∷ rs) n x) here)

-- the record at the position of a number is what a look-up of the number gives
pub lookup_found : (rs : List Scope) (n i : ℕ) (x : Scope) → Some i ≡ position (scope_keys rs) (n ∷ []) → x ≡ get_or rs i x → Some x ≡ lookup rs n
lookup_found [] n i x e h = absurd (some_none i e)
lookup_found (r ∷ rs) n i x e h =
    rw (← same_number r.reference n)
    (step r rs i x (bytes_eq (r.reference ∷ []) (n ∷ [])) (position (scope_keys rs) (n ∷ [])) (lookup rs n) h e (λ j f g. lookup_found rs n j x f g))

none_step : (r : Scope) (b : Bool) (o : Option ℕ) (later : Option Scope) → None ≡ cond b (Some 0) (option_map suc o) → (None ≡ o → None ≡ later) → None ≡ cond b (Some r) later
none_step r true o later e rest = absurd (some_none 0 (sym e))
none_step r false None later e rest = rest refl
none_step r false (Some j) later e rest = absurd (some_none (suc j) (sym e))

pub lookup_none : (rs : List Scope) (n : ℕ) → None ≡ position (scope_keys rs) (n ∷ []) → None ≡ lookup rs n
lookup_none [] n e = refl
lookup_none (r ∷ rs) n e =
    rw (← same_number r.reference n)
    (none_step r (bytes_eq (r.reference ∷ []) (n ∷ [])) (position (scope_keys rs) (n ∷ [])) (lookup rs n) e (lookup_none rs n))

highest_none : (rs : List Scope) → length rs ≡ 0 → 0 ≡ highest rs
highest_none [] e = refl
highest_none (r ∷ rs) e = absurd (let z : suc (length rs) ≡ 0 = e in omega arith)

highest_at : (rs : List Scope) (x : Scope) → 0 < length rs → x ≡ get_or rs (length rs - 1) x → x.reference ≡ highest rs
highest_at [] x l e = absurd (not-suc-le-zero l)
highest_at (r ∷ []) x l e = ap (λ (y : Scope). y.reference) e
highest_at (r ∷ (y ∷ ys)) x l e =
    let more : suc (suc (length ys)) - 1 ≡ suc (suc (length ys) - 1) = omega arith in
    highest_at (y ∷ ys) x (omega arith) (e ∙ ap (λ j. get_or (r ∷ (y ∷ ys)) j x) more)

-- the number of the last record, as `last` and `map_or` have it
pub highest_last : (rs : List Scope) (last : Option (Bor Scope)) (n : ℕ) → is_some last ≡ ltb 0 (length rs) → IfSome last (λ x. x.now ≡ get_or rs (length rs - 1) x.now) → MatchOption last (n ≡ 0) (λ x. n ≡ x.now.reference) → n ≡ highest rs
highest_last rs None n s at h = h ∙ highest_none rs (omega (arith, ltb-false 0 (length rs) (sym s)))
highest_last rs (Some x) n s at h = h ∙ highest_at rs x.now (ltb-true 0 (length rs) (sym s)) at

below_key : (a b : ℕ) → ltb a b ≡ true → is_lt (order (a ∷ []) (b ∷ [])) ≡ true
below_key a b h = ap is_lt (order_numbers a b) ∙ rw h

-- a record that is above the last keeps the ascent
pub ascends_push : (rs : List Scope) (x : Scope) → ascends (scope_keys rs) ≡ true → ltb (highest rs) x.reference ≡ true → ascends (scope_keys (rs ++ x ∷ [])) ≡ true
ascends_push [] x up h = refl
ascends_push (r ∷ []) x up h = and_from _ _ (below_key r.reference x.reference h) refl
ascends_push (r ∷ (y ∷ ys)) x up h =
    let parts = and_parts (is_lt (order (r.reference ∷ []) (y.reference ∷ []))) (above (y.reference ∷ []) (scope_keys ys)) up in
    and_from (is_lt (order (r.reference ∷ []) (y.reference ∷ []))) (above (y.reference ∷ []) (scope_keys (ys ++ x ∷ []))) parts.0 (ascends_push (y ∷ ys) x parts.1 h)
