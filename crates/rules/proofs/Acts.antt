-- A free node of a tree that obeys the grammar holds no act outside the shelters.
use Rattle.std.proofs.Common.{◌≡◌, ℕ, true, false, not, ◌||◌, eqb, [], sym, refl, ap, ◌∙◌, subst, inl, inr, ⊎_elim, eqb-true, true≢false}
use Rattle.std.proofs.lemmas.Bool.{and_parts, or_left, or_right, or_cases}
use Rattle.hosts.specs.Host.{Host}
use Rattle.drafts.specs.Tree.{Header, Node, Nodes, node, none, ◌▸◌}
use Rattle.drafts.specs.Table.{rows}
use Rattle.drafts.specs.Trees.{shaped, obeys, all_obey}
use Rattle.rules.specs.Marks.{type, effect, one_of, on, any_by, any, only, pair}
use Rattle.packed.specs.declared.value_type.ValueType.TheVariants.{Object}
use Rattle.rules.specs.Details.{has_bit}
use Rattle.rules.specs.ValueTypes.{is_a}
use Rattle.rules.specs.Effects.{effects, effects_rule, all_judged, leaves, transparent, element_effects, template_effects, pattern_effects, unary_effects, binary_effects, spread_effects, object_spread_effects, access_effects, assignment_effects, field_effects, evaluated, variables_effects}
use Rattle.rules.specs.Laws.{exposed, is_act, Acts, SomeActs}
use Rattle.rules.specs.Syntax.{identifier, template, unary, binary, logical, assignment, conditional, static_member, computed_member, private_member, private_in, function, class_expression, spread, object_spread, method, field, array_pattern, object_pattern, variables, function_declaration, class_declaration, delete, with_await_using}
use Rattle.rules.proofs.Evidence.{branch, of_each, no_items, still, shelters, has_effects, each_by, some_have, held_below, held, bare, sheltered, act_case, from_exposed, Good, Goods}
use Rattle.rules.proofs.ByKind.{unary_arm, binary_arm, logical_arm, conditional_arm, only_arm, spread_holds, object_spread_holds, computed_arm, assignment_arm, template_holds, access_holds, in_holds, element_holds, field_arm, pattern_holds, variables_arm}

module _ (h : Host) where
  -- the evidence at a kind that is known

  acting : (k : ℕ) (n : Header) (below : Nodes) → n.kind ≡ k → is_act h n below ≡ true →
      is_act h (record { kind = k; detail = n.detail; reference = 0; text = [] }) below ≡ true
  acting k n below e a = sym (ap (λ x. is_act h (record { kind = x; detail = n.detail; reference = 0; text = [] }) below) e) ∙ a

  exposing : (k : ℕ) (n : Header) (below : Nodes) → n.kind ≡ k → SomeActs h (exposed n below) →
      SomeActs h (exposed (record { kind = k; detail = n.detail; reference = 0; text = [] }) below)
  exposing k n below e s = subst (λ x. SomeActs h (exposed (record { kind = x; detail = n.detail; reference = 0; text = [] }) below)) e s

  module _ (n : Header) (below : Nodes) (f : shaped n below ≡ true) (g : Goods h below) (x : Acts h (node n below)) where
    by_still : (k : ℕ) → still k ≡ true → eqb n.kind k ≡ true → SomeActs h below
    by_still k s m = held_below h n below (ap still (eqb-true n.kind k m) ∙ s) x

    -- the kinds with acts or shelters of their own, and those without children

    unary_case : eqb n.kind unary ≡ true → on true (only (all_judged h below)) (unary_effects n.detail) ≡ true
    unary_case m =
        unary_arm h n.detail below g
        (⊎_elim (λ a. inl (⊎_elim (λ i. i) (λ i. absurd (true≢false (sym i))) (or_cases (eqb n.detail delete) false (acting unary n below (eqb-true n.kind unary m) a)))) (λ s. inr (from_exposed h n below s))
        (act_case h x))

    binary_case : eqb n.kind binary ≡ true → on true (pair (all_judged h below)) (λ p. binary_effects h n.detail p.0 p.1) ≡ true
    binary_case m =
        let e = eqb-true n.kind binary m in binary_arm h n.detail below g (exposing binary n below e (held h n below (ap still e) x))

    assignment_case : eqb n.kind assignment ≡ true → on true (pair (all_judged h below)) (λ p. assignment_effects h n.detail p.0 p.1) ≡ true
    assignment_case m =
        assignment_arm h n.detail below g (⊎_elim (λ a. inl (acting assignment n below (eqb-true n.kind assignment m) a)) (λ s. inr (from_exposed h n below s)) (act_case h x))

    field_case : eqb n.kind field ≡ true → field_effects n.detail (all_judged h below) ≡ true
    field_case m =
        let e = eqb-true n.kind field m in
        or_left (any_by element_effects (evaluated n.detail (all_judged h below))) _
        (field_arm h (has_bit 8 n.detail) (has_bit 1 n.detail) (has_bit 2 n.detail) below g (exposing field n below e (held h n below (ap still e) x)))

    variables_case : eqb n.kind variables ≡ true → variables_effects n.detail (all_judged h below) ≡ true
    variables_case m =
        variables_arm h n.detail below g
        (⊎_elim (λ a. inl (⊎_elim (λ i. i) (λ i. absurd (true≢false (sym i))) (or_cases (eqb n.detail with_await_using) false (acting variables n below (eqb-true n.kind variables m) a)))) (λ s. inr (from_exposed h n below s))
        (act_case h x))

    leaf_case : one_of leaves n.kind ≡ true → ⊥
    unfolding rows
    leaf_case m = bare h n below (of_each no_items leaves refl n.kind m) f (held_below h n below (of_each still leaves refl n.kind m) x)

    identifier_case : eqb n.kind identifier ≡ true → ⊥
    unfolding rows
    identifier_case m = bare h n below (ap no_items (eqb-true n.kind identifier m)) f (by_still identifier refl m)

    either_kind : (j k : ℕ) → still j ≡ true → still k ≡ true → (eqb n.kind j || eqb n.kind k) ≡ true → SomeActs h below
    either_kind j k sj sk m = ⊎_elim (by_still j sj) (by_still k sk) (or_cases (eqb n.kind j) (eqb n.kind k) m)

    function_case : (eqb n.kind function || eqb n.kind function_declaration) ≡ true → ⊥
    function_case m =
        ⊎_elim (λ i. sheltered h (node n below) (ap (one_of shelters) (eqb-true n.kind function i)) x) (λ i. sheltered h (node n below) (ap (one_of shelters) (eqb-true n.kind function_declaration i)) x)
        (or_cases (eqb n.kind function) (eqb n.kind function_declaration) m)

    transparent_case : one_of transparent n.kind ≡ true → any (all_judged h below) ≡ true
    transparent_case m = some_have h below g (held_below h n below (of_each still transparent refl n.kind m) x)

    -- every kind, in the order of the rules
    step : effects_rule h n (all_judged h below) ≡ true
    step =
        branch (one_of leaves n.kind) _ _ (λ m. absurd (leaf_case m))
        (λ _. branch (one_of transparent n.kind) _ _ transparent_case
        (λ _. branch (eqb n.kind function || eqb n.kind function_declaration) _ _ (λ m. absurd (function_case m))
        (λ _. branch (eqb n.kind identifier) _ _ (λ m. absurd (identifier_case m))
        (λ _. branch (eqb n.kind template) _ _ (λ m. each_by h template_effects (template_holds h) below g (by_still template refl m))
        (λ _. branch (eqb n.kind unary) _ _ unary_case
        (λ _. branch (eqb n.kind binary) _ _ binary_case
        (λ _. branch (eqb n.kind logical) _ _ (λ m. logical_arm h n.detail below g (by_still logical refl m))
        (λ _. branch (eqb n.kind conditional) _ _ (λ m. conditional_arm h below g (by_still conditional refl m))
        (λ _. branch (eqb n.kind spread) _ _ (λ m. only_arm h (spread_effects h) (spread_holds h) below g (by_still spread refl m))
        (λ _. branch (eqb n.kind object_spread) _ _ (λ m. only_arm h (object_spread_effects h.switches.reads) (object_spread_holds h h.switches.reads) below g (by_still object_spread refl m))
        (λ _. branch (eqb n.kind static_member) _ _ (λ m. only_arm h (access_effects h n.text) (access_holds h n.text) below g (by_still static_member refl m))
        (λ _. branch (eqb n.kind computed_member) _ _ (λ m. computed_arm h below g (by_still computed_member refl m))
        (λ _. branch (eqb n.kind private_member) _ _ (λ m. or_right h.switches.reads (any (all_judged h below)) (some_have h below g (by_still private_member refl m)))
        (λ _. branch (eqb n.kind private_in) _ _ (λ m. only_arm h (λ p. effect p || not (is_a Object (type p))) (in_holds h) below g (by_still private_in refl m))
        (λ _. branch (eqb n.kind assignment) _ _ assignment_case
        (λ _. branch (eqb n.kind class_expression || eqb n.kind class_declaration) _ _ (λ m. or_left (any_by element_effects (all_judged h below)) _ (each_by h element_effects (element_holds h) below g (either_kind class_expression class_declaration refl refl m)))
        (λ _. branch (eqb n.kind method) _ _ (λ m. each_by h element_effects (element_holds h) below g (by_still method refl m))
        (λ _. branch (eqb n.kind field) _ _ field_case
        (λ _. branch (eqb n.kind array_pattern || eqb n.kind object_pattern) _ _ (λ m. or_right h.switches.reads (any_by pattern_effects (all_judged h below)) (each_by h pattern_effects (pattern_holds h) below g (either_kind array_pattern object_pattern refl refl m)))
        (λ _. branch (eqb n.kind variables) _ _ variables_case
        (λ _. refl)))))))))))))))))))))

  mutual
    good : (a : Node) → obeys a ≡ true → Good h a
    good (node n below) e =
        let p = and_parts (shaped n below) (all_obey below) e in
        (p.0, (step n below p.0 (goods below p.1), goods below p.1))

    goods : (ns : Nodes) → all_obey ns ≡ true → Goods h ns
    goods none e = tt
    goods (before ▸ n) e =
        let p = and_parts (all_obey before) (obeys n) e in (goods before p.0, good n p.1)

pub no_act : (h : Host) (n : Node) → obeys n ≡ true → effects h n ≡ false → Acts h n → ⊥
no_act h n o e x = true≢false (sym (has_effects h n (good h n o) x) ∙ e)
