-- Acts in a tree, by cases, and the nodes that hold none.
use Rattle.std.proofs.Common.{◌≡◌, ℕ, ◌≤◌, Bool, true, false, cond, not, ◌&&◌, ◌||◌, eqb, leb, ◌⊎◌, List, [], ◌∷◌, Option, Some, None, sym, refl, ap, ◌∙◌, subst, inl, inr, ⊎_elim, arith, eqb-true, leb-true, true≢false}
use Rattle.std.proofs.lemmas.Bool.{and_parts, or_left, or_right, or_cases, cond_both}
use Rattle.hosts.specs.Host.{Host}
use Rattle.drafts.specs.Tree.{Header, Node, Nodes, node, none, ◌▸◌, many}
use Rattle.drafts.specs.declared.row.Item.{Item}
use Rattle.drafts.specs.declared.row.Item.TheVariants.{One}
use Rattle.drafts.specs.declared.row.Set.TheVariants.{Expression}
use Rattle.drafts.specs.Grammar.{fits, has}
use Rattle.drafts.specs.Table.{row_of, rows, items_of, text_of, fewest_of}
use Rattle.drafts.specs.TextRules.{text_fits}
use Rattle.drafts.specs.Added.{known, allowed}
use Rattle.drafts.specs.Trees.{shaped}
use Rattle.rules.specs.Marks.{Mark, kind, effect, is, one_of, on, any_by, any}
use Rattle.rules.specs.Details.{has_bit}
use Rattle.rules.specs.ValueTypes.{inner}
use Rattle.rules.specs.Effects.{effects_rule, judged, all_judged}
use Rattle.rules.specs.Laws.{but_last, but_first, exposed, is_act, Acts, SomeActs, act, under, this, earlier}
use Rattle.rules.specs.Syntax.{identifier, unary, update, binary, assignment, parenthesized, wrapper, call, function, field, target_pattern, rest, acting_statement, variables, function_declaration, delete, instance_of}

-- tests

pub branch : (c x y : Bool) → (c ≡ true → x ≡ true) → (c ≡ false → y ≡ true) → cond c x y ≡ true
branch c x y = cond_both c x y (λ z. z ≡ true)

abbrev pub all_of : (ℕ → Bool) → List ℕ → Bool
all_of f [] = true
all_of f (x ∷ xs) = f x && all_of f xs

-- what holds of each number of a list
pub of_each : (f : ℕ → Bool) (xs : List ℕ) → all_of f xs ≡ true → (k : ℕ) → one_of xs k ≡ true → f k ≡ true
of_each f [] a k h = absurd (true≢false (sym h))
of_each f (x ∷ xs) a k h =
    ⊎_elim (λ e. ap f (eqb-true k x e) ∙ (and_parts (f x) (all_of f xs) a).0) (λ m. of_each f xs (and_parts (f x) (all_of f xs) a).1 k m)
    (or_cases (eqb k x) (one_of xs k) h)

-- rows

fits_row : (n : Header) (below : Nodes) → shaped n below ≡ true → fits (items_of (row_of n.kind)) n.detail below ≡ true
unfolding allowed
fits_row n below h =
    let a = (and_parts (known n.kind n.detail n.reference) _ h).1 in
    let b = (and_parts (not (eqb n.kind 70)) _ a).1 in
    let c = (and_parts (text_fits (text_of (row_of n.kind)) n.detail (many below) n.text) _ b).1 in
    (and_parts (leb (fewest_of (row_of n.kind)) (many below)) _ c).1

abbrev pub no_item : List Item → Bool
no_item [] = true
no_item (item ∷ items) = false

-- a kind without items
abbrev pub no_items : ℕ → Bool
no_items k = no_item (items_of (row_of k))

-- a kind whose nodes may be acts, and one whose nodes are none whatever their detail
abbrev pub may_act : ℕ → Bool
may_act = one_of (unary ∷ update ∷ assignment ∷ call ∷ target_pattern ∷ acting_statement ∷ variables ∷ [])

abbrev pub still : ℕ → Bool
still k = not (may_act k)

-- kinds that shelter all below them
abbrev pub shelters : List ℕ
shelters = function ∷ rest ∷ function_declaration ∷ []

-- parentheses and wrappers
abbrev pub parens : List ℕ
parens = parenthesized ∷ wrapper ∷ []

one_expression : (k : ℕ) → one_of parens k ≡ true → items_of (row_of k) ≡ One Expression ∷ []
unfolding rows
one_expression k m =
    ⊎_elim (λ i. ap (λ x. items_of (row_of x)) (eqb-true k parenthesized i))
    (λ j. ⊎_elim (λ i. ap (λ x. items_of (row_of x)) (eqb-true k wrapper i)) (λ i. absurd (true≢false (sym i))) (or_cases (eqb k wrapper) false j))
    (or_cases (eqb k parenthesized) (one_of (wrapper ∷ []) k) m)

pub off : (x y : Bool) → (x ≡ true → ⊥) → not (x && y) ≡ true
off true y n = absurd (n refl)
off false y n = refl

-- a branch that is a name
chosen : (c : Bool) (x y : Mark) → is identifier (cond c x y) ≡ true → ((c ≡ true) × (is identifier x ≡ true)) ⊎ ((c ≡ false) × (is identifier y ≡ true))
chosen true x y e = inl (refl, e)
chosen false x y e = inr (refl, e)

pub on_true : (o : Option ℕ) (f : ℕ → Bool) → ((n : ℕ) → f n ≡ true) → on true o f ≡ true
on_true None f e = refl
on_true (Some n) f e = e n

pub exempt_or : (w x y : Bool) → not (not w && x) ≡ true → (w || (not x || y)) ≡ true
exempt_or true x y e = refl
exempt_or false true y e = absurd (true≢false (sym e))
exempt_or false false y e = refl

pub in_target : (w p q r : Bool) → (p ≡ true → q ≡ true) → (w || (not p || (q || r))) ≡ true
in_target true p q r f = refl
in_target false true q r f = or_left q r (f refl)
in_target false false q r f = refl

members : (k : ℕ) → 18 ≤ k → k ≤ 20 → (k ≡ 18) ⊎ ((k ≡ 19) ⊎ (k ≡ 20))
members k a b = grind arith

pub still_member : (k : ℕ) → (leb 18 k && leb k 20) ≡ true → still k ≡ true
still_member k e =
    let p = and_parts (leb 18 k) (leb k 20) e in
    ⊎_elim (λ i. ap still i) (⊎_elim (λ i. ap still i) (λ i. ap still i)) (members k (leb-true 18 k p.0) (leb-true k 20 p.1))

-- the evidence, by cases

module _ (h : Host) where
  abbrev pub SomeCase : Nodes → Type 0
  SomeCase none = ⊥
  SomeCase (before ▸ n) = SomeActs h before ⊎ Acts h n

  pub some_case : {ns : Nodes} → SomeActs h ns → SomeCase ns
  some_case (this {before = b} {n = a} x) = inr x
  some_case (earlier {before = b} {n = a} x) = inl x

  abbrev pub ActCase : Node → Type 0
  ActCase (node n below) = (is_act h n below ≡ true) ⊎ SomeActs h (exposed n below)

  pub act_case : {a : Node} → Acts h a → ActCase a
  act_case (act {n = n} {below = below} e) = inl e
  act_case (under {n = n} {below = below} s) = inr s

  pub from_last : (ns : Nodes) → SomeActs h (but_last ns) → SomeActs h ns
  from_last none s = s
  from_last (before ▸ n) s = earlier s

  pub from_first : (ns : Nodes) → SomeActs h (but_first ns) → SomeActs h ns
  from_first none s = s
  from_first (none ▸ a) s = absurd (some_case s)
  from_first (before ▸ a ▸ b) s = ⊎_elim (λ x. earlier (from_first (before ▸ a) x)) (λ x. this x) (some_case s)

  pub either_way : (c : Bool) (xs ys ns : Nodes) → (SomeActs h xs → SomeActs h ns) → (SomeActs h ys → SomeActs h ns) → SomeActs h (cond c xs ys) → SomeActs h ns
  either_way true xs ys ns f g s = f s
  either_way false xs ys ns f g s = g s

  pub from_exposed : (n : Header) (below : Nodes) → SomeActs h (exposed n below) → SomeActs h below
  from_exposed n below =
      either_way (one_of (function ∷ rest ∷ function_declaration ∷ []) n.kind) _ _ below (λ s. absurd (some_case s))
      (either_way (eqb n.kind field && (has_bit 8 n.detail && not (has_bit 1 n.detail))) _ _ below (from_last below)
      (either_way (eqb n.kind binary && eqb n.detail instance_of) _ _ below (from_first below) (λ s. s)))

  -- a node that obeys, whose acts give it effects, and so on below it
  abbrev mutual
    pub Good : Node → Type 0
    Good (node n below) = (shaped n below ≡ true) × ((Acts h (node n below) → effects_rule h n (all_judged h below) ≡ true) × Goods below)

    pub Goods : Nodes → Type 0
    Goods none = Unit {0}
    Goods (before ▸ n) = Goods before × Good n

  pub has_effects : (a : Node) → Good a → Acts h a → effect (judged h a) ≡ true
  has_effects (node n below) g x = g.1.0 x

  pub each_by : (f : Mark → Bool) → ((a : Node) → Good a → Acts h a → f (judged h a) ≡ true) → (ns : Nodes) → Goods ns → SomeActs h ns → any_by f (all_judged h ns) ≡ true
  each_by f e none g s = absurd (some_case s)
  each_by f e (before ▸ n) g s =
      ⊎_elim (λ x. or_left (any_by f (all_judged h before)) (f (judged h n)) (each_by f e before g.0 x))
      (λ x. or_right (any_by f (all_judged h before)) (f (judged h n)) (e n g.1 x))
      (some_case s)

  pub some_have : (ns : Nodes) → Goods ns → SomeActs h ns → any (all_judged h ns) ≡ true
  some_have = each_by effect has_effects

  -- kinds that are no acts

  not_acts : (k d : ℕ) (below : Nodes) → still k ≡ true → is_act h (record { kind = k; detail = d; reference = 0; text = [] }) below ≡ true → ⊥
  not_acts k d below s e =
      let no = λ (m : may_act k ≡ true). absurd {A = ⊥} (true≢false (sym s ∙ ap not m)) in
      let is_kind = λ (x : ℕ) (y : may_act x ≡ true) (b : Bool) (i : (eqb k x && b) ≡ true). no (ap may_act (eqb-true k x (and_parts (eqb k x) b i).0) ∙ y) in
      ⊎_elim (λ i. no (of_each may_act (update ∷ call ∷ target_pattern ∷ acting_statement ∷ []) refl k i))
      (λ i. ⊎_elim (is_kind unary refl (eqb d delete))
      (λ j. ⊎_elim (is_kind variables refl (eqb d 4)) (is_kind assignment refl _)
      (or_cases (eqb k variables && eqb d 4) _ j))
      (or_cases (eqb k unary && eqb d delete) _ i))
      (or_cases (one_of (update ∷ call ∷ target_pattern ∷ acting_statement ∷ []) k) _ e)

  pub held : (n : Header) (below : Nodes) → still n.kind ≡ true → Acts h (node n below) → SomeActs h (exposed n below)
  held n below s x = ⊎_elim (λ e. absurd (not_acts n.kind n.detail below s e)) (λ y. y) (act_case x)

  pub held_below : (n : Header) (below : Nodes) → still n.kind ≡ true → Acts h (node n below) → SomeActs h below
  held_below n below s x = from_exposed n below (held n below s x)

  -- a kind without items holds none
  pub bare : (n : Header) (below : Nodes) → no_items n.kind ≡ true → shaped n below ≡ true → SomeActs h below → ⊥
  bare n below e f s = bare_at (items_of (row_of n.kind)) n.detail below e (fits_row n below f) s
    where
      bare_at : (items : List Item) (d : ℕ) (ns : Nodes) → no_item items ≡ true → fits items d ns ≡ true → SomeActs h ns → ⊥
      bare_at [] d none e f s = some_case s
      bare_at [] d (before ▸ n) e f s = true≢false (sym f)
      bare_at (item ∷ items) d ns e f s = true≢false (sym e)

  pub leaf_holds : (k : ℕ) (a : Node) → (still k && no_items k) ≡ true → Good a → is k (judged h a) ≡ true → Acts h a → ⊥
  leaf_holds k (node n below) s g e x =
      let i = eqb-true n.kind k e in
      let p = and_parts (still k) (no_items k) s in
      bare n below (ap no_items i ∙ p.1) g.0 (held_below n below (ap still i ∙ p.0) x)

  -- a node of a kind that shelters all below it holds none
  cut : (c : Bool) (ys : Nodes) → c ≡ true → SomeActs h (cond c none ys) → ⊥
  cut true ys e s = some_case s
  cut false ys e s = true≢false (sym e)

  pub sheltered : (a : Node) → one_of shelters (kind (judged h a)) ≡ true → Acts h a → ⊥
  sheltered (node n below) m x = cut (one_of shelters n.kind) _ m (held n below (of_each still shelters refl n.kind m) x)

  -- few children

  pub one : {a : Node} → SomeActs h (none ▸ a) → Acts h a
  one s = ⊎_elim (λ y. absurd (some_case y)) (λ y. y) (some_case s)

  pub two : {a b : Node} → SomeActs h (none ▸ a ▸ b) → Acts h a ⊎ Acts h b
  two s = ⊎_elim (λ y. inl (one y)) inr (some_case s)

  -- a name inside parentheses and wrappers holds none

  lone : (n : Header) (before : Nodes) (a : Node) → one_of parens n.kind ≡ true → shaped n (before ▸ a) ≡ true → before ≡ none
  lone n before a m f = lone_at before (subst (λ items. fits items n.detail (before ▸ a) ≡ true) (one_expression n.kind m) (fits_row n (before ▸ a) f))
    where
      lone_at : (before : Nodes) → fits (One Expression ∷ []) n.detail (before ▸ a) ≡ true → before ≡ none
      lone_at none e = refl
      lone_at (ns ▸ b) e = absurd (true≢false (sym (and_parts (has Expression n.detail a) false e).1))

  pub inert : (a : Node) → Good a → is identifier (inner (judged h a)) ≡ true → Acts h a → ⊥
  unfolding rows
  inert (node n none) g e x =
      ⊎_elim (λ i. leaf_holds identifier (node n none) refl g i.1 x) (λ i. leaf_holds identifier (node n none) refl g i.1 x)
      (chosen (one_of parens n.kind) (judged h (node n none)) (judged h (node n none)) e)
  inert (node n (before ▸ a)) g e x =
      ⊎_elim
      (λ i.
      ⊎_elim (λ s. absurd (some_case (subst (λ ns. SomeActs h ns) (lone n before a i.0 g.0) s))) (λ y. inert a g.1.1.1 i.1 y)
      (some_case (held_below n (before ▸ a) (of_each still parens refl n.kind i.0) x)))
      (λ i. leaf_holds identifier (node n (before ▸ a)) refl g i.1 x)
      (chosen (one_of parens n.kind) (inner (judged h a)) (judged h (node n (before ▸ a))) e)
