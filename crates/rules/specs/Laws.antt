-- What holds of the effects of every tree.
use Rattle.std.specs.Prelude.{◌≡◌, ℕ, Bool, true, false, cond, not, ◌&&◌, ◌||◌, List, [], ◌∷◌, ◌==◌, nat_le}
use Rattle.packed.specs.declared.switch.Switch.{Switch}
use Rattle.hosts.specs.Host.{Host, counts}
use Rattle.drafts.specs.Tree.{Header, Node, Nodes, node, none, ◌▸◌}
use Rattle.drafts.specs.Trees.{obeys}
use Rattle.rules.specs.Syntax.{unary, update, binary, assignment, static_member, private_member, call, function, field, target_pattern, rest, acting_statement, variables, function_declaration, delete, instance_of, assign, with_await_using}
use Rattle.rules.specs.Marks.{one_of}
use Rattle.rules.specs.Details.{has_bit}
use Rattle.rules.specs.Effects.{effects}

abbrev pub but_last : Nodes → Nodes
but_last none = none
but_last (before ▸ n) = before

abbrev pub but_first : Nodes → Nodes
but_first none = none
but_first (none ▸ a) = none
but_first (before ▸ a ▸ b) = but_first (before ▸ a) ▸ b

-- the children outside the shelters: a function, a rest and a function declaration shelter all that is below them,
-- a field that is not static its value, and `instanceof` its left side
abbrev pub exposed : Header → Nodes → Nodes
exposed n below =
    cond (one_of (function ∷ rest ∷ function_declaration ∷ []) n.kind) none
    (cond (n.kind == field && (has_bit 8 n.detail && not (has_bit 1 n.detail))) (but_last below)
    (cond (n.kind == binary && n.detail == instance_of) (but_first below) below))

-- whether the first of the nodes is a member
abbrev pub to_member : Nodes → Bool
to_member none = false
to_member (none ▸ node n below) = nat_le static_member n.kind && nat_le n.kind private_member
to_member (before ▸ a ▸ b) = to_member (before ▸ a)

-- a plain assignment to a member is no act while writes are not counted
abbrev pub is_exempt : Host → Header → Nodes → Bool
is_exempt h n below = not h.switches.writes && (n.detail == assign && to_member below)

-- the acts: an update, a call and the like, a destructuring target, a statement that always acts, `delete`, `await using`,
-- and each other assignment
abbrev pub is_act : Host → Header → Nodes → Bool
is_act h n below =
    one_of (update ∷ call ∷ target_pattern ∷ acting_statement ∷ []) n.kind ||
    ((n.kind == unary && n.detail == delete) ||
    ((n.kind == variables && n.detail == with_await_using) ||
    (n.kind == assignment && not (is_exempt h n below))))

-- the node is an act, or holds one outside the shelters
mutual
  pub data Acts (h : Host) : Node → Type 0 where
    act : {n : Header} {below : Nodes} → is_act h n below ≡ true → Acts h (node n below)
    under : {n : Header} {below : Nodes} → SomeActs h (exposed n below) → Acts h (node n below)

  pub data SomeActs (h : Host) : Nodes → Type 0 where
    this : {before : Nodes} {n : Node} → Acts h n → SomeActs h (before ▸ n)
    earlier : {before : Nodes} {n : Node} → SomeActs h before → SomeActs h (before ▸ n)

-- the second host answers every name and reference like the first, and counts no switch that the first does not
pub record Looser (g h : Host) : Type 0 where
  pub same_outer : (name : List ℕ) (r : ℕ) → h.outer name r ≡ g.outer name r
  pub same_typed : (r : ℕ) → h.typed r ≡ g.typed r
  pub fewer : (s : Switch) → counts s h.switches ≡ true → counts s g.switches ≡ true

pub record Laws : Type 0 where
  -- a free node of a tree that obeys the grammar holds no act outside the shelters
  pub no_act : (h : Host) (n : Node) → obeys n ≡ true → effects h n ≡ false → Acts h n → ⊥
  -- what is free stays free under a looser host
  pub stays_free : (g h : Host) → Looser g h → (n : Node) → effects g n ≡ false → effects h n ≡ false
