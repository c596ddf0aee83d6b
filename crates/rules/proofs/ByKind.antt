-- The rule of each kind gives effects where a child outside the shelters holds an act.
use Rattle.std.proofs.Common.{◌≡◌, ℕ, Bool, true, false, cond, not, ◌&&◌, ◌||◌, eqb, ltb, leb, ◌⊎◌, List, sym, refl, ap, ◌∙◌, subst, ⊎_elim, eqb-true, true≢false}
use Rattle.std.proofs.lemmas.Bool.{and_parts, and_from, or_left, or_right, false_from_ne_true, not_from_false}
use mathlib.Core.Bool.{or-true}
use Rattle.hosts.specs.Host.{Host}
use Rattle.drafts.specs.Tree.{Node, Nodes, node, none, ◌▸◌}
use Rattle.drafts.specs.Table.{rows}
use Rattle.rules.specs.Marks.{Mark, kind, type, effect, children, is, is_as, one_of, on, any_by, any, childless, all_but_last, only, pair, three}
use Rattle.packed.specs.declared.value_type.ValueType.TheVariants.{Object}
use Rattle.rules.specs.Primitives.{refuses, to_string}
use Rattle.rules.specs.ValueTypes.{is_a, is_arithmetic, surely_string, primitive, inner, is_outer}
use Rattle.rules.specs.Effects.{judged, all_judged, guarded, copy_effects, element_effects, template_effects, pattern_effects, using_effects, unary_effects, binary_effects, instance_effects, addition_effects, logical_effects, conditional_effects, spread_effects, object_spread_effects, access_effects, computed_effects, assignment_effects, is_member, variables_effects}
use Rattle.rules.specs.Laws.{but_last, but_first, to_member, Acts, SomeActs}
use Rattle.rules.specs.Syntax.{identifier, number, big_int, string, template, array, object, property, object_spread, rest, delete, typeof, plus, negation, bitwise_not, less, at_least, addition, instance_of, and_operator, coalesce, assign, getter, with_using, with_await_using}
use Rattle.rules.proofs.Evidence.{branch, still, shelters, off, on_true, exempt_or, in_target, still_member, has_effects, each_by, some_have, held_below, leaf_holds, sheltered, one, two, some_case, from_last, from_first, either_way, inert, Good, Goods}

module _ (h : Host) where
  -- `typeof` drops a name, and `instanceof` a name on its right

  pub unary_arm : (d : ℕ) (below : Nodes) → Goods h below → (eqb d delete ≡ true) ⊎ SomeActs h below → on true (only (all_judged h below)) (unary_effects d) ≡ true
  unfolding rows
  unary_arm d none g c = refl
  unary_arm d (none ▸ a) g c =
      ⊎_elim (λ i. branch (eqb d delete) _ _ (λ _. refl) (λ j. absurd (true≢false (sym i ∙ j))))
      (λ s.
      let y = one h s in
      let e = has_effects h a g.1 y in
      branch (eqb d delete) _ _ (λ _. refl)
      (λ _. branch (eqb d typeof) _ _ (λ _. and_from _ (effect (judged h a)) (not_from_false _ (false_from_ne_true (is identifier (judged h a)) (λ i. leaf_holds h identifier a refl g.1 i y))) e)
      (λ _. branch (eqb d plus) _ _ (λ _. rw (e, or-true))
      (λ _. branch (eqb d negation || eqb d bitwise_not) _ _ (λ _. rw (e, or-true)) (λ _. e)))))
      c
  unary_arm d (before ▸ b ▸ a) g c = refl

  added : (a b : Node) → (effect (judged h a) || effect (judged h b)) ≡ true → addition_effects (judged h a) (judged h b) ≡ true
  added a b e =
      branch (surely_string (primitive (judged h a)) || surely_string (primitive (judged h b))) _ _ (λ _. rw (e, or-true, or-true)) (λ _. rw (e, or-true))

  instance : (a b : Node) → Good h b → SomeActs h (none ▸ b) → instance_effects h (judged h a) (judged h b) ≡ true
  unfolding rows
  instance a b g s = off (is_outer h (judged h b)) _ (λ i. leaf_holds h identifier b refl g (and_parts (is identifier (judged h b)) _ i).0 (one h s))

  pub binary_arm : (d : ℕ) (below : Nodes) → Goods h below → SomeActs h (cond (eqb d instance_of) (but_first below) below) →
      on true (pair (all_judged h below)) (λ p. binary_effects h d p.0 p.1) ≡ true
  unfolding rows
  binary_arm d none g s = refl
  binary_arm d (none ▸ a) g s = refl
  binary_arm d (none ▸ a ▸ b) g s =
      let e : (effect (judged h a) || effect (judged h b)) ≡ true = some_have h (none ▸ a ▸ b) g (either_way h (eqb d instance_of) _ _ (none ▸ a ▸ b) (from_first h (none ▸ a ▸ b)) (λ y. y) s) in
      branch (ltb d less) _ _ (λ _. e)
      (λ _. branch (leb d at_least) _ _ (λ _. rw (e, or-true, or-true))
      (λ _. branch (eqb d addition) _ _ (λ _. added a b e)
      (λ _. branch (is_arithmetic d) _ _ (λ _. rw (e, or-true, or-true))
      (λ _. branch (eqb d instance_of) _ _ (λ i. instance a b g.1 (subst (λ c. SomeActs h (cond c (none ▸ b) (none ▸ a ▸ b))) i s)) (λ _. refl)))))
  binary_arm d (before ▸ c ▸ a ▸ b) g s = refl

  -- a guard drops a branch that is a name, in parentheses or not

  no_guard : (t : Bool) (a : Node) (m : Mark) → Good h a → Acts h a → guarded h t (judged h a) m ≡ true → ⊥
  no_guard t a m g x e =
      inert h a g (and_parts (is identifier (inner (judged h a))) _ (and_parts (is_outer h (inner (judged h a))) _ e).0).0 x

  pub logical_arm : (d : ℕ) (below : Nodes) → Goods h below → SomeActs h below →
      on true (pair (all_judged h below)) (λ p. logical_effects h d p.0 p.1) ≡ true
  logical_arm d none g s = refl
  logical_arm d (none ▸ a) g s = refl
  logical_arm d (none ▸ a ▸ b) g s =
      ⊎_elim (λ y. or_left (effect (judged h a)) _ (has_effects h a g.0.1 y))
      (λ y.
      let free : Bool = not (eqb d coalesce) && guarded h (eqb d and_operator) (judged h b) (judged h a) in
      or_right (effect (judged h a)) (not free && effect (judged h b))
      (and_from (not free) (effect (judged h b)) (not_from_false free (false_from_ne_true free (λ e. no_guard (eqb d and_operator) b (judged h a) g.1 y (and_parts (not (eqb d coalesce)) _ e).1)))
      (has_effects h b g.1 y)))
      (two h s)
  logical_arm d (before ▸ c ▸ a ▸ b) g s = refl

  test_holds : (t c a : Mark) → effect t ≡ true → conditional_effects h t c a ≡ true
  test_holds t c a e = or_left (effect t) _ e

  consequent_holds : (t a : Mark) (c : Node) → Good h c → Acts h c → conditional_effects h t (judged h c) a ≡ true
  consequent_holds t a c g y =
      or_right (effect t) _
      (branch (guarded h false a t) _ _ (λ _. has_effects h c g y)
      (λ _. branch (guarded h true (judged h c) t) _ _ (λ i. absurd (no_guard true c t g y i)) (λ _. or_left (effect (judged h c)) (effect a) (has_effects h c g y))))

  alternate_holds : (t c : Mark) (a : Node) → Good h a → Acts h a → conditional_effects h t c (judged h a) ≡ true
  alternate_holds t c a g y =
      or_right (effect t) _
      (branch (guarded h false (judged h a) t) _ _ (λ i. absurd (no_guard false a t g y i))
      (λ _. branch (guarded h true c t) _ _ (λ _. has_effects h a g y) (λ _. or_right (effect c) (effect (judged h a)) (has_effects h a g y))))

  conditional_holds : (t c a : Node) → Good h t → Good h c → Good h a → SomeActs h (none ▸ t ▸ c ▸ a) → conditional_effects h (judged h t) (judged h c) (judged h a) ≡ true
  conditional_holds t c a gt gc ga s =
      ⊎_elim {C = conditional_effects h (judged h t) (judged h c) (judged h a) ≡ true}
      (λ u. ⊎_elim {C = conditional_effects h (judged h t) (judged h c) (judged h a) ≡ true}
      (λ y. test_holds (judged h t) (judged h c) (judged h a) (has_effects h t gt y)) (consequent_holds (judged h t) (judged h a) c gc) (two h u))
      (alternate_holds (judged h t) (judged h c) a ga) (some_case h s)

  pub conditional_arm : (below : Nodes) → Goods h below → SomeActs h below →
      on true (three (all_judged h below)) (λ p. conditional_effects h p.0 p.1.0 p.1.1) ≡ true
  conditional_arm none g s = refl
  conditional_arm (none ▸ a) g s = refl
  conditional_arm (none ▸ b ▸ a) g s = refl
  conditional_arm (none ▸ t ▸ c ▸ a) g s = conditional_holds t c a g.0.0.1 g.0.1 g.1 s
  conditional_arm (before ▸ d ▸ t ▸ c ▸ a) g s = refl

  -- a rule of an only child
  pub only_arm : (f : Mark → Bool) → ((a : Node) → Good h a → Acts h a → f (judged h a) ≡ true) → (below : Nodes) → Goods h below → SomeActs h below →
      on true (only (all_judged h below)) f ≡ true
  only_arm f e none g s = refl
  only_arm f e (none ▸ a) g s = e a g.1 (one h s)
  only_arm f e (before ▸ b ▸ a) g s = refl

  pub spread_holds : (a : Node) → Good h a → Acts h a → spread_effects h (judged h a) ≡ true
  unfolding rows
  spread_holds a g y =
      let m = judged h a in
      let e = has_effects h a g y in
      branch (is array m || is template m) _ _ (λ _. e) (λ _. branch (is string m) _ _ (λ i. absurd (leaf_holds h string a refl g i y)) (λ _. rw (e, or-true)))

  copy_spread : (a : Node) → Good h a → is object_spread (judged h a) ≡ true → Acts h a → on true (only (children (judged h a))) effect ≡ true
  copy_spread (node n below) g i y = only_arm effect (has_effects h) below g.1.1 (held_below h n below (ap still (eqb-true n.kind object_spread i)) y)

  copy_holds : (a : Node) → Good h a → Acts h a → copy_effects (judged h a) ≡ true
  copy_holds a g y =
      or_right (is_as property getter (judged h a)) _ (branch (is object_spread (judged h a)) _ _ (λ i. copy_spread a g i y) (λ _. has_effects h a g y))

  copied : (a : Node) → Good h a → is object (judged h a) ≡ true → Acts h a → any_by copy_effects (children (judged h a)) ≡ true
  copied (node n below) g i y = each_by h copy_effects copy_holds below g.1.1 (held_below h n below (ap still (eqb-true n.kind object i)) y)

  pub object_spread_holds : (counted : Bool) (a : Node) → Good h a → Acts h a → object_spread_effects counted (judged h a) ≡ true
  unfolding rows
  object_spread_holds counted a g y =
      let m = judged h a in
      branch (not counted || (is array m || is template m)) _ _ (λ _. has_effects h a g y)
      (λ _. branch (is object m) _ _ (λ i. copied a g i y) (λ _. not_from_false (is string m) (false_from_ne_true (is string m) (λ i. leaf_holds h string a refl g i y))))

  -- a key is dropped where it has no children

  template_key : (a : Node) → Good h a → is template (judged h a) ≡ true → Acts h a → not (childless (children (judged h a))) ≡ true
  template_key (node n none) g i y = absurd (some_case h (held_below h n none (ap still (eqb-true n.kind template i)) y))
  template_key (node n (before ▸ a)) g i y = refl

  pub computed_arm : (below : Nodes) → Goods h below → SomeActs h below → on true (pair (all_judged h below)) (λ p. computed_effects h p.0 p.1) ≡ true
  unfolding rows
  computed_arm none g s = refl
  computed_arm (none ▸ a) g s = refl
  computed_arm (none ▸ a ▸ k) g s =
      let K = judged h k in
      ⊎_elim (λ y.
      let e = has_effects h a g.0.1 y in
      branch (is string K) _ _ (λ _. or_left (effect (judged h a)) _ e)
      (λ _. branch (is template K) _ _ (λ _. or_right (not (childless (children K))) _ (or_left (effect (judged h a)) _ e))
      (λ _. branch (is number K) _ _ (λ _. on_true _ _ (λ n. or_left (effect (judged h a)) _ e))
      (λ _. branch (is big_int K) _ _ (λ _. on_true _ _ (λ n. or_left (effect (judged h a)) _ e)) (λ _. rw (e, or-true, or-true))))))
      (λ y.
      branch (is string K) _ _ (λ i. absurd (leaf_holds h string k refl g.1 i y))
      (λ _. branch (is template K) _ _ (λ i. or_left (not (childless (children K))) _ (template_key k g.1 i y))
      (λ _. branch (is number K) _ _ (λ i. absurd (leaf_holds h number k refl g.1 i y))
      (λ _. branch (is big_int K) _ _ (λ i. absurd (leaf_holds h big_int k refl g.1 i y)) (λ _. rw (has_effects h k g.1 y, or-true))))))
      (two h s)
  computed_arm (before ▸ c ▸ a ▸ k) g s = refl

  -- a plain assignment to a member is judged by the member's children

  member_below : (a : Node) → Good h a → is_member (judged h a) ≡ true → Acts h a → any (children (judged h a)) ≡ true
  member_below (node n below) g i y = some_have h below g.1.1 (held_below h n below (still_member n.kind i) y)

  not_exempt : (t v : Node) (d : ℕ) → not (not h.switches.writes && (eqb d assign && to_member (none ▸ t ▸ v))) ≡ true →
      assignment_effects h d (judged h t) (judged h v) ≡ true
  not_exempt (node n below) v d e = exempt_or h.switches.writes (eqb d assign && (leb 18 n.kind && leb n.kind 20)) _ e

  pub assignment_arm : (d : ℕ) (below : Nodes) → Goods h below → (not (not h.switches.writes && (eqb d assign && to_member below)) ≡ true) ⊎ SomeActs h below →
      on true (pair (all_judged h below)) (λ p. assignment_effects h d p.0 p.1) ≡ true
  assignment_arm d none g c = refl
  assignment_arm d (none ▸ a) g c = refl
  assignment_arm d (none ▸ t ▸ v) g c =
      let T = judged h t in
      ⊎_elim (not_exempt t v d)
      (λ s.
      ⊎_elim
      (λ y. in_target h.switches.writes (eqb d assign && is_member T) (any (children T)) (effect (judged h v)) (λ i. member_below t g.0.1 (and_parts (eqb d assign) _ i).1 y))
      (λ y. rw (has_effects h v g.1 y, or-true, or-true, or-true)) (two h s))
      c
  assignment_arm d (before ▸ b ▸ t ▸ v) g c = refl

  pub template_holds : (a : Node) → Good h a → Acts h a → template_effects (judged h a) ≡ true
  template_holds a g y = or_right (refuses to_string (primitive (judged h a))) (effect (judged h a)) (has_effects h a g y)

  pub access_holds : (name : List ℕ) (a : Node) → Good h a → Acts h a → access_effects h name (judged h a) ≡ true
  access_holds name a g y = or_left (effect (judged h a)) _ (has_effects h a g y)

  pub in_holds : (a : Node) → Good h a → Acts h a → (effect (judged h a) || not (is_a Object (type (judged h a)))) ≡ true
  in_holds a g y = or_left (effect (judged h a)) _ (has_effects h a g y)

  pub element_holds : (a : Node) → Good h a → Acts h a → element_effects (judged h a) ≡ true
  element_holds a g y = rw (has_effects h a g y, or-true)

  pub field_arm : (x y z : Bool) (below : Nodes) → Goods h below → SomeActs h (cond (x && not y) (but_last below) below) →
      any_by element_effects (cond (x && (not y && not z)) (all_but_last (all_judged h below)) (all_judged h below)) ≡ true
  field_arm false y z below g s = each_by h element_effects element_holds below g s
  field_arm true true z below g s = each_by h element_effects element_holds below g s
  field_arm true false true below g s = each_by h element_effects element_holds below g (from_last h below s)
  field_arm true false false none g s = absurd (some_case h s)
  field_arm true false false (before ▸ a) g s = each_by h element_effects element_holds before g.0 s

  pub pattern_holds : (a : Node) → Good h a → Acts h a → pattern_effects (judged h a) ≡ true
  pattern_holds a g y =
      let m = judged h a in
      and_from (not (is rest m)) (effect m)
      (not_from_false (is rest m) (false_from_ne_true (is rest m) (λ i. sheltered h a (ap (one_of shelters) (eqb-true (kind m) rest i)) y))) (has_effects h a g y)

  using_holds : (a : Node) → Good h a → Acts h a → using_effects (judged h a) ≡ true
  using_holds a g y = or_left (effect (judged h a)) _ (has_effects h a g y)

  pub variables_arm : (d : ℕ) (below : Nodes) → Goods h below → (eqb d with_await_using ≡ true) ⊎ SomeActs h below → variables_effects d (all_judged h below) ≡ true
  variables_arm d below g c =
      branch (eqb d with_await_using) _ _ (λ _. refl)
      (λ no. ⊎_elim (λ i. absurd (true≢false (sym i ∙ no)))
      (λ s. branch (eqb d with_using) _ _ (λ _. each_by h using_effects using_holds below g s) (λ _. some_have h below g s))
      c)
