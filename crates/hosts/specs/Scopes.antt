-- Scope records in ascending order of their reference numbers.
use Rattle.std.specs.Prelude.{ℕ, cond, List, [], ◌∷◌, ◌++◌, map, length, Some, None, Ok, Err, Option, Result, ◌==◌, nat_lt}
use Rattle.packed.specs.declared.field.Scope.{Scope}
use Rattle.packed.specs.declared.refusal.Reason.{Reason}
use Rattle.packed.specs.declared.refusal.Reason.TheVariants.{BadScope, Full}

-- the records' keys, each its number alone
abbrev pub scope_keys : List Scope → List (List ℕ)
scope_keys xs = map (λ x. x.reference ∷ []) xs

-- the record of the number n
abbrev pub lookup : List Scope → ℕ → Option Scope
lookup [] n = None
lookup (x ∷ xs) n = cond (x.reference == n) (Some x) (lookup xs n)

-- the number of the last record, or 0
abbrev pub highest : List Scope → ℕ
highest [] = 0
highest (x ∷ []) = x.reference
highest (x ∷ (y ∷ ys)) = highest (y ∷ ys)

-- one record more, in a table for so many: its number is above 0 and that of the record before it
abbrev pub scope_added : ℕ → List Scope → Scope → Result (List Scope) Reason
scope_added limit scopes s =
    cond (nat_lt (highest scopes) s.reference) (cond (nat_lt (length scopes) limit) (Ok (scopes ++ s ∷ [])) (Err Full)) (Err BadScope)

-- what a step leaves, unless it is refused
abbrev pub after : {A E : Type 0} → Result (Unit {0}) E → A → Result A E
after (Ok u) a = Ok a
after (Err e) a = Err e
