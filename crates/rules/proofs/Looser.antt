-- What is free stays free under a host that counts less.
use mathlib.Core.Bool.{false≢true}
use Rattle.std.proofs.Common.{◌≡◌, ℕ, ◌+◌, Bool, true, false, cond, not, ◌&&◌, ◌||◌, List, [], ◌∷◌, Some, None, Option, sym, refl, ap, ◌∙◌, subst}
use Rattle.std.specs.Prelude.{◌==◌, nat_le, nat_lt, length, codes}
use Rattle.std.specs.Str.{bytes_eq, chars}
use Rattle.packed.specs.declared.value_type.ValueType.{ValueType}
use Rattle.packed.specs.declared.value_type.ValueType.TheVariants.{Number, BigInt, String, Boolean, Object, Undetermined}
use Rattle.packed.specs.declared.switch.Switch.TheVariants.{PropertyReads, PropertyWrites, UnknownGlobals}
use Rattle.text.specs.CodeUnits.{code_units}
use Rattle.hosts.specs.Host.{Host}
use Rattle.drafts.specs.Tree.{Header, Node, Nodes, node, none, ◌▸◌}
use Rattle.rules.specs.declared.to_primitive.ToPrimitiveResult.{ToPrimitiveResult}
use Rattle.rules.specs.declared.to_primitive.ToPrimitiveResult as primitive-type
use Rattle.rules.specs.Syntax.{identifier, leaf, number, big_int, string, template, unary, binary, logical, assignment, conditional, sequence, parenthesized, wrapper, array, object, static_member, computed_member, private_member, private_in, function, class_expression, spread, property, object_spread, decorator, method, field, array_pattern, object_pattern, rest, variables, function_declaration, class_declaration, boolean, import_meta, regular_expression, getter, arrow, plus, typeof, delete, negation, bitwise_not, less, at_least, addition, instance_of, and_operator, coalesce, assign, with_using, with_await_using}
use Rattle.rules.specs.Marks.{Mark, Marks, mark, start, ◌▹◌, kind, text, effect, type, is, reads, one_of, only, pair, three, on, any_by, any, childless, single, first, all_but_last, last_type}
use Rattle.rules.specs.ValueTypes.{inner, inner_last, is_outer, is_global, primitive_of_type, converts, key_text, is_conversion, sets_prototype, overrides, any_overrides, spread_overrides, copies_override, any_sets_prototype, object_primitive, primitive, last_primitive, numeric, is_a, nullish, surely_string, is_number_class, is_big_int_class, is_arithmetic, identifier_type, outer_type, known_type, leaf_type, unary_type, binary_type, logical_type, same_type, assignment_type, member_type, number_constants, math_constants, type_rule}
use Rattle.rules.specs.Effects.{identifier_effects, template_effects, unary_effects, either, one_class, addition_effects, big_int_throws, arithmetic_effects, instance_effects, binary_effects, asks_type, same, tells, compares, tells_sides, guards, guarded, logical_effects, conditional_effects, spread_effects, copy_effects, object_spread_effects, is_known, access_effects, is_missing, index_effects, computed_effects, assignment_effects, element_effects, class_effects, is_prototype, field_effects, pattern_effects, using_effects, variables_effects, leaves, transparent, no_constructors, effects_rule, judged, all_judged, effects, least, elements, spread_steps, iterations, never_extended, never, last_never, both_never, branch_never}
use Rattle.rules.specs.Primitives.{Primitive, Outcome, refuses, to_number, to_numeric, to_string, numeric_class}
use Rattle.rules.specs.Details.{has_bit}
use Rattle.rules.specs.Laws.{Looser}
use Rattle.tables.specs.Order.{listed}
use Rattle.text.specs.Indices.{number_index, digits_index}
use Rattle.known_globals.specs.Identifiers.{known_names}
use Rattle.known_globals.specs.Constructors.{known_constructors}
use Rattle.known_globals.specs.Properties.{known_property, known_property_deep}
use Rattle.std.proofs.lemmas.Bool.{cond_both, eqb-true, false_from_ne_true}

-- the first holds only if the second does
record Le (b c : Bool) : Type 0 where
  at : b ≡ true → c ≡ true

le_eq : {b c : Bool} → b ≡ c → Le b c
le_eq e = record { at = λ h. sym e ∙ h }

le_self : (b : Bool) → Le b b
le_self b = record { at = λ h. h }

le_true : {b : Bool} → Le b true
le_true = record { at = λ h. refl }

le_false : {b : Bool} → Le false b
le_false = record { at = λ h. absurd (false≢true h) }

le_or : {b c b' c' : Bool} → Le b b' → Le c c' → Le (b || c) (b' || c')
le_or {b = true} {c} {b'} {c'} p q = record { at = λ h. ap (λ x. x || c') (p.at refl) }
le_or {b = false} {c} {b' = true} {c'} p q = le_true
le_or {b = false} {c} {b' = false} {c'} p q = q

le_and : {b c b' c' : Bool} → Le b b' → Le c c' → Le (b && c) (b' && c')
le_and {b = true} {c} {b'} {c'} p q = record { at = λ h. ap (λ x. x && c') (p.at refl) ∙ q.at h }
le_and {b = false} {c} {b'} {c'} p q = le_false

le_cond : (c : Bool) {x x' y y' : Bool} → Le x x' → Le y y' → Le (cond c x y) (cond c x' y')
le_cond true p q = p
le_cond false p q = q

le_cond_by : {c c' x x' y y' : Bool} → c ≡ c' → Le x x' → Le y y' → Le (cond c x y) (cond c' x' y')
le_cond_by {c} {c'} {x} {x'} {y} {y'} e p q = subst (λ k. Le (cond c x y) (cond k x' y')) e (le_cond c p q)

le_right : {b c : Bool} (a : Bool) → Le b c → Le b (a || c)
le_right true p = le_true
le_right false p = p

le_not : (c b : Bool) → (c ≡ true → b ≡ false) → Le b (not c)
le_not true b k = le_eq (k refl)
le_not false b k = le_true

cond_eq : {A : Type 0} (c : Bool) {x x' y y' : A} → x ≡ x' → y ≡ y' → cond c x y ≡ cond c x' y'
cond_eq c p q = λ i. cond c (p i) (q i)

infixl 50 ◌⊳◌
mutual
  -- two nodes that differ in their effects alone, where the second has effects only if the first has
  data Two : Type 0 where
    two : Header → (e f : Bool) → Le f e → ValueType → Twos → Two

  data Twos : Type 0 where
    nil : Twos
    ◌⊳◌ : Twos → Two → Twos

abbrev mutual
  left : Two → Mark
  left (two n e f p t b) = mark n e t (lefts b)

  lefts : Twos → Marks
  lefts nil = start
  lefts (b ⊳ m) = lefts b ▹ left m

abbrev mutual
  right : Two → Mark
  right (two n e f p t b) = mark n f t (rights b)

  rights : Twos → Marks
  rights nil = start
  rights (b ⊳ m) = rights b ▹ right m

effect_le : (m : Two) → Le (effect (right m)) (effect (left m))
effect_le (two n e f p t b) = p

-- what the children that a rule takes say of both

module _ {B : Type 0} (R : B → B → Type 0) (z : B) (r : R z z) where
  on_only : (f g : Mark → B) → ((m : Two) → R (f (right m)) (g (left m))) → (b : Twos) → R (on z (only (rights b)) f) (on z (only (lefts b)) g)
  on_only f g k nil = r
  on_only f g k (nil ⊳ a) = k a
  on_only f g k (b ⊳ c ⊳ a) = r

  on_pair : (f g : Mark × Mark → B) → ((m n : Two) → R (f (right m, right n)) (g (left m, left n))) → (b : Twos) →
      R (on z (pair (rights b)) f) (on z (pair (lefts b)) g)
  on_pair f g k nil = r
  on_pair f g k (nil ⊳ a) = r
  on_pair f g k (nil ⊳ a ⊳ b) = k a b
  on_pair f g k (d ⊳ c ⊳ a ⊳ b) = r

  on_three : (f g : Mark × (Mark × Mark) → B) → ((m n o : Two) → R (f (right m, (right n, right o))) (g (left m, (left n, left o)))) → (b : Twos) →
      R (on z (three (rights b)) f) (on z (three (lefts b)) g)
  on_three f g k nil = r
  on_three f g k (nil ⊳ a) = r
  on_three f g k (nil ⊳ a ⊳ b) = r
  on_three f g k (nil ⊳ a ⊳ b ⊳ c) = k a b c
  on_three f g k (e ⊳ d ⊳ a ⊳ b ⊳ c) = r

  on_first : (f g : Mark → B) → ((m : Two) → R (f (right m)) (g (left m))) → (b : Twos) → R (on z (first (rights b)) f) (on z (first (lefts b)) g)
  on_first f g k nil = r
  on_first f g k (nil ⊳ a) = k a
  on_first f g k (b ⊳ c ⊳ a) = on_first f g k (b ⊳ c)

any_le : (f g : Mark → Bool) → ((m : Two) → Le (f (right m)) (g (left m))) → (b : Twos) → Le (any_by f (rights b)) (any_by g (lefts b))
any_le f g k nil = le_self false
any_le f g k (b ⊳ m) = le_or (any_le f g k b) (k m)

-- what does not ask for effects is the same of both

same_childless : (b : Twos) → childless (rights b) ≡ childless (lefts b)
same_childless nil = refl
same_childless (b ⊳ m) = refl

same_single : (b : Twos) → single (rights b) ≡ single (lefts b)
same_single nil = refl
same_single (b ⊳ m) = same_childless b

same_key : (f : List ℕ → Bool) (m : Two) → key_text f (right m) ≡ key_text f (left m)
same_key f (two n e e' p t b) = λ i. cond (n.kind == string || (n.kind == template && same_childless b i)) (f n.text) true

same_conversion : (name : List ℕ) (b : Twos) → is_conversion name (rights b) ≡ is_conversion name (lefts b)
same_conversion name b = on_pair (λ x y. x ≡ y) (converts name) refl (λ p. key_text converts p.0) (λ p. key_text converts p.0) (λ m n. same_key converts m) b

same_kind : (m : Two) → kind (right m) ≡ kind (left m)
same_kind (two n e e' p t b) = refl

same_text : (m : Two) → text (right m) ≡ text (left m)
same_text (two n e e' p t b) = refl

same_type_of : (m : Two) → type (right m) ≡ type (left m)
same_type_of (two n e e' p t b) = refl

same_sets : (m : Two) → sets_prototype (right m) ≡ sets_prototype (left m)
same_sets (two n e e' p t b) = λ i. (n.kind == property) && (n.detail == 0 &&
    on_pair (λ x y. x ≡ y) (reads "__proto__" n.text) refl (λ p. is string p.0 && reads "__proto__" (text p.0)) (λ p. is string p.0 && reads "__proto__" (text p.0))
    (λ m n. λ j. (same_kind m j == string) && reads "__proto__" (same_text m j)) b i)

same_any_sets : (b : Twos) → any_sets_prototype (rights b) ≡ any_sets_prototype (lefts b)
same_any_sets nil = refl
same_any_sets (b ⊳ m) = λ i. same_any_sets b i || same_sets m i

mutual
  same_overrides : (m : Two) → overrides (right m) ≡ overrides (left m)
  same_overrides (two n e f p t b) = cond_eq (n.kind == property) (same_conversion n.text b) (cond_eq (n.kind == object_spread) (same_spread_overrides b) refl)

  same_any_overrides : (b : Twos) → any_overrides (rights b) ≡ any_overrides (lefts b)
  same_any_overrides nil = refl
  same_any_overrides (b ⊳ m) = λ i. same_any_overrides b i || same_overrides m i

  same_spread_overrides : (b : Twos) → spread_overrides (rights b) ≡ spread_overrides (lefts b)
  same_spread_overrides nil = refl
  same_spread_overrides (nil ⊳ m) = same_copies m
  same_spread_overrides (b ⊳ n ⊳ m) = refl

  same_copies : (m : Two) → copies_override (right m) ≡ copies_override (left m)
  same_copies (two n e f p t b) = cond_eq (n.kind == object) (same_any_overrides b) refl

same_object : (n : Header) (b : Twos) {x y : ToPrimitiveResult} → x ≡ y → object_primitive n (rights b) x ≡ object_primitive n (lefts b) y
same_object n b q = cond_eq (n.kind == array || (n.kind == leaf && n.detail == regular_expression)) refl (cond_eq (n.kind == sequence) q
    (λ i. cond (n.kind == object && not (same_any_overrides b i || same_any_sets b i)) primitive-type.TheVariants.String primitive-type.TheVariants.Undetermined))

mutual
  same_primitive : (m : Two) → primitive (right m) ≡ primitive (left m)
  same_primitive (two n e f p t b) = ap (primitive_of_type t) (same_object n b (same_last b))

  same_last : (b : Twos) → last_primitive (rights b) ≡ last_primitive (lefts b)
  same_last nil = refl
  same_last (b ⊳ m) = same_primitive m

same_last_type : (b : Twos) → last_type (rights b) ≡ last_type (lefts b)
same_last_type nil = refl
same_last_type (b ⊳ m) = same_type_of m

mutual
  same_least : (b : Twos) → least (rights b) ≡ least (lefts b)
  same_least nil = refl
  same_least (b ⊳ m) = λ i. same_least b i + same_elements m i

  same_elements : (m : Two) → elements (right m) ≡ elements (left m)
  same_elements (two n e f p t b) = cond_eq (n.kind == spread) (same_steps b) refl

  same_steps : (b : Twos) → spread_steps (rights b) ≡ spread_steps (lefts b)
  same_steps nil = refl
  same_steps (nil ⊳ m) = same_iterations m
  same_steps (b ⊳ n ⊳ m) = refl

  same_iterations : (m : Two) → iterations (right m) ≡ iterations (left m)
  same_iterations (two n e f p t b) = cond_eq (n.kind == array) (same_least b) refl

abbrev mutual
  inside : Two → Two
  inside (two n e f p t b) = cond (one_of (parenthesized ∷ wrapper ∷ []) n.kind) (inside_last (two n e f p t b) b) (two n e f p t b)

  inside_last : Two → Twos → Two
  inside_last m nil = m
  inside_last m (b ⊳ n) = inside n

cond_ap : {A B : Type 0} (f : A → B) (c : Bool) {x y : A} {x' y' : B} → x' ≡ f x → y' ≡ f y → cond c x' y' ≡ f (cond c x y)
cond_ap f true p q = p
cond_ap f false p q = q

mutual
  left_inside : (m : Two) → inner (left m) ≡ left (inside m)
  left_inside (two n e f p t b) = cond_ap left (one_of (parenthesized ∷ wrapper ∷ []) n.kind) (left_inside_last (two n e f p t b) b) refl

  left_inside_last : (m : Two) (b : Twos) → inner_last (left m) (lefts b) ≡ left (inside_last m b)
  left_inside_last m nil = refl
  left_inside_last m (b ⊳ n) = left_inside n

mutual
  right_inside : (m : Two) → inner (right m) ≡ right (inside m)
  right_inside (two n e f p t b) = cond_ap right (one_of (parenthesized ∷ wrapper ∷ []) n.kind) (right_inside_last (two n e f p t b) b) refl

  right_inside_last : (m : Two) (b : Twos) → inner_last (right m) (rights b) ≡ right (inside_last m b)
  right_inside_last m nil = refl
  right_inside_last m (b ⊳ n) = right_inside n

same_numeric : (m : Two) → numeric (right m) ≡ numeric (left m)
same_numeric m = ap numeric_class (same_primitive m)

same_one_class : (a b : Two) → one_class (right a) (right b) ≡ one_class (left a) (left b)
same_one_class a b = λ i. (is_number_class (same_numeric a i) && is_number_class (same_numeric b i)) || (is_big_int_class (same_numeric a i) && is_big_int_class (same_numeric b i))

same_big_int_throws : (d : ℕ) (m : Two) → big_int_throws d (right m) ≡ big_int_throws d (left m)
same_big_int_throws d (two n e f p t b) = refl

same_missing : (m : Two) (k : ℕ) → is_missing (right m) k ≡ is_missing (left m) k
same_missing (two n e f p t b) k = λ i.
    cond (n.kind == string) (nat_le (length (code_units (chars n.text))) k) (cond (n.kind == array) (nat_le (same_least b i) k) true)

same_prototype : (m : Two) → is_prototype (right m) ≡ is_prototype (left m)
same_prototype (two n e f p t b) = λ i. (n.kind == string || (n.kind == template && same_childless b i)) && reads "prototype" n.text

same_inner_prototype : (m : Two) → is_prototype (inner (right m)) ≡ is_prototype (inner (left m))
same_inner_prototype m = ap is_prototype (right_inside m) ∙ same_prototype (inside m) ∙ ap is_prototype (sym (left_inside m))

same_inner_text : (m : Two) → text (inner (right m)) ≡ text (inner (left m))
same_inner_text m = ap text (right_inside m) ∙ same_text (inside m) ∙ ap text (sym (left_inside m))

same_asks : (name : List ℕ) (m : Two) → asks_type name (right m) ≡ asks_type name (left m)
same_asks name (two n e f p t b) = λ i. (n.kind == unary && n.detail == typeof) &&
    on_only (λ x y. x ≡ y) false refl (λ a. is identifier a && bytes_eq name (text a)) (λ a. is identifier a && bytes_eq name (text a))
    (λ m. λ j. (same_kind m j == identifier) && bytes_eq name (same_text m j)) b i

same_compares : (name : List ℕ) (d : ℕ) (taken : Bool) (a s : Two) → compares name d taken (right a) (right s) ≡ compares name d taken (left a) (left s)
same_compares name d taken a s = λ i. same_asks name a i && ((same_kind s i == string) && tells d taken (same_text s i))

same_sides : (name : List ℕ) (d : ℕ) (taken : Bool) (a b : Two) → tells_sides name d taken (right a) (right b) ≡ tells_sides name d taken (left a) (left b)
same_sides name d taken a b = λ i.
    cond (same_kind a i == string) (same_compares name d (same (nat_lt d less) taken) b a i) (same_compares name d taken a b i)

same_guards : (name : List ℕ) (taken : Bool) (m : Two) → guards name taken (right m) ≡ guards name taken (left m)
same_guards name taken (two n e f p t b) = λ i. (n.kind == binary) &&
    on_pair (λ x y. x ≡ y) false refl (λ p. tells_sides name n.detail taken p.0 p.1) (λ p. tells_sides name n.detail taken p.0 p.1)
    (λ x y. same_sides name n.detail taken x y) b i

-- rules that ask no host

refuses_le : (f : Primitive → Outcome) (m : Two) → Le (refuses f (primitive (right m))) (refuses f (primitive (left m)))
refuses_le f m = le_eq (ap (refuses f) (same_primitive m))

template_le : (m : Two) → Le (template_effects (right m)) (template_effects (left m))
template_le m = le_or (refuses_le to_string m) (effect_le m)

unary_le : (d : ℕ) (m : Two) → Le (unary_effects d (right m)) (unary_effects d (left m))
unary_le d m =
    le_cond (d == delete) (le_self true)
    (le_cond (d == typeof) (le_and (le_eq (ap (λ k. not (k == identifier)) (same_kind m))) (effect_le m))
    (le_cond (d == plus) (le_or (refuses_le to_number m) (effect_le m))
    (le_cond (d == negation || d == bitwise_not) (le_or (refuses_le to_numeric m) (effect_le m)) (effect_le m))))

either_le : (a b : Two) → Le (either (right a) (right b)) (either (left a) (left b))
either_le a b = le_or (effect_le a) (effect_le b)

not_one_le : (a b : Two) → Le (not (one_class (right a) (right b))) (not (one_class (left a) (left b)))
not_one_le a b = le_eq (ap not (same_one_class a b))

addition_le : (a b : Two) → Le (addition_effects (right a) (right b)) (addition_effects (left a) (left b))
addition_le a b =
    let strings : (surely_string (primitive (right a)) || surely_string (primitive (right b))) ≡ (surely_string (primitive (left a)) || surely_string (primitive (left b))) =
    λ i. surely_string (same_primitive a i) || surely_string (same_primitive b i) in
    le_cond_by strings (le_or (refuses_le to_string a) (le_or (refuses_le to_string b) (either_le a b))) (le_or (not_one_le a b) (either_le a b))

arithmetic_le : (d : ℕ) (a b : Two) → Le (arithmetic_effects d (right a) (right b)) (arithmetic_effects d (left a) (left b))
arithmetic_le d a b =
    le_or (not_one_le a b)
    (le_or (le_and (le_eq (ap is_big_int_class (same_numeric a))) (le_eq (same_big_int_throws d b))) (either_le a b))

copy_le : (m : Two) → Le (copy_effects (right m)) (copy_effects (left m))
copy_le (two n e f p t b) =
    le_or (le_self (n.kind == property && n.detail == getter))
    (le_cond (n.kind == object_spread) (on_only Le true (le_self true) effect effect effect_le b) p)

counted_le : (c : Bool) (m : Two) → Le (object_spread_effects c (right m)) (object_spread_effects c (left m))
counted_le c (two n e f p t b) =
    le_cond (not c || (n.kind == array || n.kind == template)) p
    (le_cond (n.kind == object) (any_le copy_effects copy_effects copy_le b) (le_self (not (n.kind == string))))

element_le : (m : Two) → Le (element_effects (right m)) (element_effects (left m))
element_le m = le_or (le_eq (ap (λ k. k == decorator) (same_kind m))) (effect_le m)

evaluated_le : (c : Bool) (b : Twos) →
    Le (any_by element_effects (cond c (all_but_last (rights b)) (rights b))) (any_by element_effects (cond c (all_but_last (lefts b)) (lefts b)))
evaluated_le true nil = le_self false
evaluated_le true (b ⊳ m) = any_le element_effects element_effects element_le b
evaluated_le false b = any_le element_effects element_effects element_le b

field_le : (d : ℕ) (b : Twos) → Le (field_effects d (rights b)) (field_effects d (lefts b))
field_le d b =
    le_or (evaluated_le (has_bit 8 d && (not (has_bit 1 d) && not (has_bit 2 d))) b)
    (le_and (le_self (has_bit 1 d)) (le_and (le_self (has_bit 4 d))
    (le_eq (on_first (λ x y. x ≡ y) true refl (λ m. is_prototype (inner m)) (λ m. is_prototype (inner m)) same_inner_prototype b))))

pattern_le : (m : Two) → Le (pattern_effects (right m)) (pattern_effects (left m))
pattern_le m = le_and (le_eq (ap (λ k. not (k == rest)) (same_kind m))) (effect_le m)

using_le : (m : Two) → Le (using_effects (right m)) (using_effects (left m))
using_le (two n e f p t b) =
    le_or p (le_eq (on_pair (λ x y. x ≡ y) true refl (λ p. not (nullish (type p.1))) (λ p. not (nullish (type p.1)))
    (λ x y. ap (λ k. not (nullish k)) (same_type_of y)) b))

variables_le : (d : ℕ) (b : Twos) → Le (variables_effects d (rights b)) (variables_effects d (lefts b))
variables_le d b =
    le_cond (d == with_await_using) (le_self true)
    (le_cond (d == with_using) (any_le using_effects using_effects using_le b) (any_le effect effect effect_le b))

private_in_le : (b : Twos) →
    Le (on true (only (rights b)) (λ m. effect m || not (is_a Object (type m)))) (on true (only (lefts b)) (λ m. effect m || not (is_a Object (type m))))
private_in_le b =
    on_only Le true (le_self true) (λ m. effect m || not (is_a Object (type m))) (λ m. effect m || not (is_a Object (type m)))
    (λ m. le_or (effect_le m) (le_eq (ap (λ k. not (is_a Object k)) (same_type_of m)))) b

abbrev mutual
  -- the effects of the second are what the rules say of its children
  Ruled : Host → Two → Type 0
  Ruled h (two n e f p t b) = (f ≡ effects_rule h n (rights b)) × AllRuled h b

  AllRuled : Host → Twos → Type 0
  AllRuled h nil = Unit {0}
  AllRuled h (b ⊳ m) = AllRuled h b × Ruled h m

abbrev of_kind : Header → ℕ → Header
of_kind n k = record { kind = k; detail = n.detail; reference = n.reference; text = n.text }

module _ (g h : Host) (looser : Looser g h) where
  reads_le : Le h.switches.reads g.switches.reads
  reads_le = record { at = looser.fewer PropertyReads }

  writes_le : Le h.switches.writes g.switches.writes
  writes_le = record { at = looser.fewer PropertyWrites }

  unknown_le : Le h.switches.unknown_globals g.switches.unknown_globals
  unknown_le = record { at = looser.fewer UnknownGlobals }

  same_outer_of : (m : Two) → is_outer h (right m) ≡ is_outer g (left m)
  same_outer_of (two n e f p t b) = ap (λ x. (n.kind == identifier) && x) (looser.same_outer n.text n.reference)

  same_inner_outer : (m : Two) → is_outer h (inner (right m)) ≡ is_outer g (inner (left m))
  same_inner_outer m = ap (is_outer h) (right_inside m) ∙ same_outer_of (inside m) ∙ ap (is_outer g) (sym (left_inside m))

  -- types

  same_global : (name : List ℕ) (m : Two) → is_global h name (right m) ≡ is_global g name (left m)
  same_global name m = λ i. same_inner_outer m i && listed (name ∷ []) (same_inner_text m i)

  same_member_type : (name : List ℕ) (m : Two) → member_type h name (right m) ≡ member_type g name (left m)
  same_member_type name m = λ i.
      cond ((listed number_constants name && same_global (codes "Number") m i) || (listed math_constants name && same_global (codes "Math") m i))
      Number Undetermined

  same_identifier_type : (name : List ℕ) (r : ℕ) → identifier_type h name r ≡ identifier_type g name r
  same_identifier_type name r = λ i. cond (looser.same_outer name r i) (outer_type name) (known_type (looser.same_typed r i))

  same_binary_type : (n : Header) (b : Twos) →
      on Undetermined (pair (rights b)) (λ p. binary_type n.detail (primitive p.0) (primitive p.1)) ≡
      on Undetermined (pair (lefts b)) (λ p. binary_type n.detail (primitive p.0) (primitive p.1))
  same_binary_type n b =
      on_pair (λ x y. x ≡ y) Undetermined refl (λ p. binary_type n.detail (primitive p.0) (primitive p.1)) (λ p. binary_type n.detail (primitive p.0) (primitive p.1))
      (λ x y. λ i. binary_type n.detail (same_primitive x i) (same_primitive y i)) b

  same_logical_type : (n : Header) (b : Twos) →
      on Undetermined (pair (rights b)) (λ p. logical_type n.detail (type p.0) (type p.1)) ≡
      on Undetermined (pair (lefts b)) (λ p. logical_type n.detail (type p.0) (type p.1))
  same_logical_type n b =
      on_pair (λ x y. x ≡ y) Undetermined refl (λ p. logical_type n.detail (type p.0) (type p.1)) (λ p. logical_type n.detail (type p.0) (type p.1))
      (λ x y. λ i. logical_type n.detail (same_type_of x i) (same_type_of y i)) b

  same_conditional_type : (b : Twos) →
      on Undetermined (three (rights b)) (λ p. same_type (type p.1.0) (type p.1.1)) ≡ on Undetermined (three (lefts b)) (λ p. same_type (type p.1.0) (type p.1.1))
  same_conditional_type b =
      on_three (λ x y. x ≡ y) Undetermined refl (λ p. same_type (type p.1.0) (type p.1.1)) (λ p. same_type (type p.1.0) (type p.1.1))
      (λ x y z. λ i. same_type (same_type_of y i) (same_type_of z i)) b

  same_type_rule : (n : Header) (b : Twos) → type_rule h n (rights b) ≡ type_rule g n (lefts b)
  same_type_rule n b = λ i.
      cond (n.kind == identifier) (same_identifier_type n.text n.reference i)
      (cond (n.kind == leaf) (leaf_type n.detail)
      (cond (n.kind == number) Number
      (cond (n.kind == big_int) BigInt
      (cond (n.kind == string || n.kind == template) String
      (cond (n.kind == unary) (unary_type n.detail (same_last_type b i))
      (cond (n.kind == binary) (same_binary_type n b i)
      (cond (n.kind == logical) (same_logical_type n b i)
      (cond (n.kind == assignment) (assignment_type n.detail (same_last_type b i))
      (cond (n.kind == conditional) (same_conditional_type b i)
      (cond (n.kind == sequence || n.kind == parenthesized) (same_last_type b i)
      (cond (one_of (array ∷ object ∷ function ∷ class_expression ∷ []) n.kind) Object
      (cond (n.kind == static_member) (on_only (λ x y. x ≡ y) Undetermined refl (member_type h n.text) (member_type g n.text) (same_member_type n.text) b i)
      (cond (n.kind == private_in) Boolean Undetermined)))))))))))))

  -- guards, classes, members

  same_guarded : (taken : Bool) (value guard : Two) → guarded h taken (right value) (right guard) ≡ guarded g taken (left value) (left guard)
  same_guarded taken value guard =
      let asked : guards (text (inner (right value))) taken (right guard) ≡ guards (text (inner (left value))) taken (left guard) =
      ap (λ x. guards x taken (right guard)) (same_inner_text value) ∙ same_guards (text (inner (left value))) taken guard in
      λ i. same_inner_outer value i && asked i

  same_never_extended : (n : Header) → never_extended h n ≡ never_extended g n
  same_never_extended n = λ i.
      one_of (number ∷ big_int ∷ string ∷ template ∷ unary ∷ binary ∷ array ∷ object ∷ private_in ∷ []) n.kind ||
      ((n.kind == leaf && (nat_le boolean n.detail && nat_le n.detail import_meta)) ||
      ((n.kind == function && n.detail == arrow) ||
      (n.kind == identifier && (looser.same_outer n.text n.reference i && listed no_constructors n.text))))

  mutual
    same_never : (m : Two) → never h (right m) ≡ never g (left m)
    same_never (two n e f p t b) =
        cond_eq (one_of (sequence ∷ parenthesized ∷ wrapper ∷ []) n.kind) (same_last_never b)
        (cond_eq (n.kind == conditional) (same_both_never b) (same_never_extended n))

    same_last_never : (b : Twos) → last_never h (rights b) ≡ last_never g (lefts b)
    same_last_never nil = refl
    same_last_never (b ⊳ m) = same_never m

    same_both_never : (b : Twos) → both_never h (rights b) ≡ both_never g (lefts b)
    same_both_never nil = refl
    same_both_never (b ⊳ m) = λ i. same_branch_never b i && same_never m i

    same_branch_never : (b : Twos) → branch_never h (rights b) ≡ branch_never g (lefts b)
    same_branch_never nil = refl
    same_branch_never (b ⊳ m) = λ i. same_single b i && same_never m i

  same_known : (name : List ℕ) (m : Two) → is_known h name (right m) ≡ is_known g name (left m)
  same_known name (two n e f p t b) = λ i.
      (same_outer_of (two n e f p t b) i && known_property n.text name) ||
      (n.kind == static_member &&
      on_only (λ x y. x ≡ y) false refl (λ o. is_outer h o && known_property_deep (text o) n.text name) (λ o. is_outer g o && known_property_deep (text o) n.text name)
      (λ m. λ j. same_outer_of m j && known_property_deep (same_text m j) n.text name) b i)

  -- rules that ask the host

  identifier_le : (name : List ℕ) (r : ℕ) → Le (identifier_effects h name r) (identifier_effects g name r)
  identifier_le name r =
      le_and (le_self (not (reads "NaN" name || (reads "Infinity" name || reads "undefined" name))))
      (le_and unknown_le (le_eq (ap (λ x. x && not (listed known_names name)) (looser.same_outer name r))))

  same_instance : (a b : Two) → instance_effects h (right a) (right b) ≡ instance_effects g (left a) (left b)
  same_instance a b = λ i.
      not (same_outer_of b i && (listed known_constructors (same_text b i) &&
      not (is_a Undetermined (same_type_of a i) || (reads "Proxy" (same_text b i) && is_a Object (same_type_of a i)))))

  binary_le : (d : ℕ) (a b : Two) → Le (binary_effects h d (right a) (right b)) (binary_effects g d (left a) (left b))
  binary_le d a b =
      le_cond (nat_lt d less) (either_le a b)
      (le_cond (nat_le d at_least) (le_or (refuses_le to_numeric a) (le_or (refuses_le to_numeric b) (either_le a b)))
      (le_cond (d == addition) (addition_le a b)
      (le_cond (is_arithmetic d) (arithmetic_le d a b)
      (le_cond (d == instance_of) (le_eq (same_instance a b)) (le_self true)))))

  logical_le : (d : ℕ) (a b : Two) → Le (logical_effects h d (right a) (right b)) (logical_effects g d (left a) (left b))
  logical_le d a b =
      le_or (effect_le a) (le_and (le_eq (ap (λ x. not (not (d == coalesce) && x)) (same_guarded (d == and_operator) b a))) (effect_le b))

  conditional_le : (t c a : Two) → Le (conditional_effects h (right t) (right c) (right a)) (conditional_effects g (left t) (left c) (left a))
  conditional_le t c a =
      le_or (effect_le t)
      (le_cond_by (same_guarded false a t) (effect_le c) (le_cond_by (same_guarded true c t) (effect_le a) (either_le c a)))

  spread_le : (m : Two) → Le (spread_effects h (right m)) (spread_effects g (left m))
  spread_le (two n e f p t b) =
      le_cond (n.kind == array || n.kind == template) p
      (le_cond (n.kind == string) (le_self false)
      (le_or (le_eq (ap (λ x. not (x && reads "arguments" n.text)) (same_outer_of (two n e f p t b)))) p))

  access_le : (name : List ℕ) (m : Two) → Le (access_effects h name (right m)) (access_effects g name (left m))
  access_le name (two n e f p t b) =
      le_or p (le_and reads_le
      (le_eq (ap (λ x. not (x || (reads "length" name && (n.kind == array || is_a String t)))) (same_known name (two n e f p t b)))))

  index_le : (m : Two) (i : Option ℕ) → Le (index_effects h (right m) i) (index_effects g (left m) i)
  index_le m None = le_self true
  index_le m (Some k) = le_or (effect_le m) (le_and reads_le (le_eq (same_missing m k)))

  computed_le : (m key : Two) → Le (computed_effects h (right m) (right key)) (computed_effects g (left m) (left key))
  computed_le m (two n e f p t b) =
      le_cond (n.kind == string) (access_le n.text m)
      (le_cond (n.kind == template) (le_or (le_eq (ap not (same_childless b))) (access_le n.text m))
      (le_cond (n.kind == number) (index_le m (number_index n.text))
      (le_cond (n.kind == big_int) (index_le m (digits_index n.text))
      (le_or reads_le (le_or p (effect_le m))))))

  assignment_le : (d : ℕ) (target value : Two) → Le (assignment_effects h d (right target) (right value)) (assignment_effects g d (left target) (left value))
  assignment_le d (two n e f p t b) value =
      le_or writes_le
      (le_or (le_self (not (d == assign && (nat_le static_member n.kind && nat_le n.kind private_member))))
      (le_or (any_le effect effect effect_le b) (effect_le value)))

  class_le : (d : ℕ) (b : Twos) → Le (class_effects h d (rights b)) (class_effects g d (lefts b))
  class_le d b =
      le_or (any_le element_effects element_effects element_le b)
      (le_and (le_self (d == 1)) (le_eq (on_first (λ x y. x ≡ y) true refl (never h) (never g) same_never b)))

  -- the spread of an object where the second host counts no reads, and the first does

  module _ (off : h.switches.reads ≡ false) where
    spread_off : (n : Header) (b : Twos) → n.kind ≡ object_spread → effects_rule h n (rights b) ≡ on true (only (rights b)) effect
    spread_off n b e =
        ap (λ k. effects_rule h (of_kind n k) (rights b)) e ∙ ap (λ c. on true (only (rights b)) (object_spread_effects c)) off

    child_le : (m : Two) → Ruled h m → Le (effect (right m)) (copy_effects (left m))
    child_le (two n e f p t b) r =
        le_right (n.kind == property && n.detail == getter)
        (cond_both (n.kind == object_spread) (on true (only (lefts b)) effect) e (Le f)
        (λ k. subst (λ x. Le x (on true (only (lefts b)) effect)) (sym (r.0 ∙ spread_off n b (eqb-true n.kind object_spread k)))
        (on_only Le true (le_self true) effect effect effect_le b))
        (λ k. p))

    children_le : (b : Twos) → AllRuled h b → Le (any (rights b)) (any_by copy_effects (lefts b))
    children_le nil r = le_self false
    children_le (b ⊳ m) r = le_or (children_le b r.0) (child_le m r.1)

    off_le : (m : Two) → Ruled h m → Le (object_spread_effects false (right m)) (object_spread_effects true (left m))
    off_le (two n e f p t b) r =
        cond_both (n.kind == array || n.kind == template) e (cond (n.kind == object) (any_by copy_effects (lefts b)) (not (n.kind == string))) (Le f)
        (λ k. p)
        (λ k. cond_both (n.kind == object) (any_by copy_effects (lefts b)) (not (n.kind == string)) (Le f)
        (λ o. subst (λ x. Le x (any_by copy_effects (lefts b)))
        (sym (r.0 ∙ ap (λ k. effects_rule h (of_kind n k) (rights b)) (eqb-true n.kind object o))) (children_le b r.1))
        (λ o. le_not (n.kind == string) f (λ k. r.0 ∙ ap (λ k. effects_rule h (of_kind n k) (rights b)) (eqb-true n.kind string k))))

  object_spread_le : (c d : Bool) → h.switches.reads ≡ c → Le c d → (m : Two) → Ruled h m → Le (object_spread_effects c (right m)) (object_spread_effects d (left m))
  object_spread_le true true e q m r = counted_le true m
  object_spread_le true false e q m r = absurd (false≢true (q.at refl))
  object_spread_le false true e q m r = off_le e m r
  object_spread_le false false e q m r = counted_le false m

  spreads_le : (b : Twos) → AllRuled h b →
      Le (on true (only (rights b)) (object_spread_effects h.switches.reads)) (on true (only (lefts b)) (object_spread_effects g.switches.reads))
  spreads_le nil r = le_self true
  spreads_le (nil ⊳ m) r = object_spread_le h.switches.reads g.switches.reads refl reads_le m r.1
  spreads_le (b ⊳ n ⊳ m) r = le_self true

  -- each rule, and each tree

  effects_le : (n : Header) (b : Twos) → AllRuled h b → Le (effects_rule h n (rights b)) (effects_rule g n (lefts b))
  effects_le n b r =
      le_cond (one_of leaves n.kind) (le_self false)
      (le_cond (one_of transparent n.kind) (any_le effect effect effect_le b)
      (le_cond (n.kind == function || n.kind == function_declaration) (le_self false)
      (le_cond (n.kind == identifier) (identifier_le n.text n.reference)
      (le_cond (n.kind == template) (any_le template_effects template_effects template_le b)
      (le_cond (n.kind == unary) (on_only Le true (le_self true) (unary_effects n.detail) (unary_effects n.detail) (unary_le n.detail) b)
      (le_cond (n.kind == binary)
      (on_pair Le true (le_self true) (λ p. binary_effects h n.detail p.0 p.1) (λ p. binary_effects g n.detail p.0 p.1) (binary_le n.detail) b)
      (le_cond (n.kind == logical)
      (on_pair Le true (le_self true) (λ p. logical_effects h n.detail p.0 p.1) (λ p. logical_effects g n.detail p.0 p.1) (logical_le n.detail) b)
      (le_cond (n.kind == conditional)
      (on_three Le true (le_self true) (λ p. conditional_effects h p.0 p.1.0 p.1.1) (λ p. conditional_effects g p.0 p.1.0 p.1.1) conditional_le b)
      (le_cond (n.kind == spread) (on_only Le true (le_self true) (spread_effects h) (spread_effects g) spread_le b)
      (le_cond (n.kind == object_spread) (spreads_le b r)
      (le_cond (n.kind == static_member) (on_only Le true (le_self true) (access_effects h n.text) (access_effects g n.text) (access_le n.text) b)
      (le_cond (n.kind == computed_member) (on_pair Le true (le_self true) (λ p. computed_effects h p.0 p.1) (λ p. computed_effects g p.0 p.1) computed_le b)
      (le_cond (n.kind == private_member) (le_or reads_le (any_le effect effect effect_le b))
      (le_cond (n.kind == private_in) (private_in_le b)
      (le_cond (n.kind == assignment)
      (on_pair Le true (le_self true) (λ p. assignment_effects h n.detail p.0 p.1) (λ p. assignment_effects g n.detail p.0 p.1) (assignment_le n.detail) b)
      (le_cond (n.kind == class_expression || n.kind == class_declaration) (class_le n.detail b)
      (le_cond (n.kind == method) (any_le element_effects element_effects element_le b)
      (le_cond (n.kind == field) (field_le n.detail b)
      (le_cond (n.kind == array_pattern || n.kind == object_pattern) (le_or reads_le (any_le pattern_effects pattern_effects pattern_le b))
      (le_cond (n.kind == variables) (variables_le n.detail b) (le_self true)))))))))))))))))))))

  record Twin (n : Node) : Type 0 where
    both : Two
    first_is : left both ≡ judged g n
    second_is : right both ≡ judged h n
    ruled : Ruled h both

  record Twins (ns : Nodes) : Type 0 where
    all : Twos
    firsts_are : lefts all ≡ all_judged g ns
    seconds_are : rights all ≡ all_judged h ns
    all_ruled : AllRuled h all

  mutual
    twin : (n : Node) → Twin n
    twin (node n below) =
        let t = twins below in
        record {
          both = two n (effects_rule g n (lefts t.all)) (effects_rule h n (rights t.all)) (effects_le n t.all t.all_ruled) (type_rule g n (lefts t.all)) t.all;
          first_is = ap (λ b. mark n (effects_rule g n b) (type_rule g n b) b) t.firsts_are;
          second_is =
              ap (λ x. mark n (effects_rule h n (rights t.all)) x (rights t.all)) (sym (same_type_rule n t.all)) ∙
              ap (λ b. mark n (effects_rule h n b) (type_rule h n b) b) t.seconds_are;
          ruled = (refl, t.all_ruled);
        }

    twins : (ns : Nodes) → Twins ns
    twins none = record { all = nil; firsts_are = refl; seconds_are = refl; all_ruled = tt }
    twins (before ▸ n) =
        let b = twins before in
        let t = twin n in
        record {
          all = b.all ⊳ t.both;
          firsts_are = λ i. b.firsts_are i ▹ t.first_is i;
          seconds_are = λ i. b.seconds_are i ▹ t.second_is i;
          all_ruled = (b.all_ruled, t.ruled);
        }

  effects_less : (n : Node) → effects h n ≡ true → effects g n ≡ true
  effects_less n e =
      let t = twin n in
      sym (ap effect t.first_is) ∙ (effect_le t.both).at (ap effect t.second_is ∙ e)

pub stays_free : (g h : Host) → Looser g h → (n : Node) → effects g n ≡ false → effects h n ≡ false
stays_free g h looser n free = false_from_ne_true (effects h n) (λ e. false≢true (sym free ∙ effects_less g h looser n e))
