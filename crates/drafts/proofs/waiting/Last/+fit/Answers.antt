use Rattle.std.proofs.Common.{ℕ, ◌-◌, ◌≤◌, Bool, sym, ◌∙◌, arith}
use Rattle.drafts.specs.declared.row.Item.{Item}
use Rattle.drafts.specs.Tree.{Nodes, waits}
use Rattle.drafts.specs.Grammar.{fits}
use Rattle.drafts.specs.Walk.{last_nodes}
use Rattle.drafts.proofs.Walks.{many_last}
use Rattle.drafts.proofs.Back.{none_back, some_back}
use Rattle.drafts.proofs.Fitting.{fits_last, fits_nothing, least_most, NotHere, not_least, not_rest, tried_start, tried_here, tried_none, tried_other, tried_more, tried_all}
use Rattle.drafts.proofs.waiting.Last.+fit.Goals as goal
use Rattle.drafts.proofs.waiting.Last.+fit.Goals.{else-taken-least-via-then-taken-least+else-fit, else-taken-least-via-else-taken-least}

pub returns-in_default : goal.returns-in_default
returns-in_default t c =
    let l = c.args.self in
    fits_nothing c.args.items.now c.args.detail l.count (last_nodes l) c.in_default.ensures.cases (many_last l.count (waits l.waiting.source l.waiting.end) l.enough)

pub loop-taken-init : goal.loop-taken-init
loop-taken-init t c =
    let i : Item = c.in-Some.item.now in
    let d : ℕ = c.args.detail in
    record {
      decides =
          fits_last c.args.items.now c.in-Some.before.now i d (last_nodes c.args.self) c.in-Some.ensures.cases.0
          ∙ rw (sym c.set-set.ensures, sym c.least-least.ensures, sym c.most-taken-end.ensures) (tried_start _ d (fits c.in-Some.before.now d) _ _ (last_nodes c.args.self));
      in_order = rw (c.least-least.ensures, c.most-taken-end.ensures) (least_most i d);
    }

pub returns-then-fit : goal.returns-then-fit
returns-then-fit t c =
    let d : ℕ = c.args.detail in
    tried_here _ d (fits c.in-Some.before.now d) _ _ c.loop-taken.taken (last_nodes c.loop-taken.rest) c.if-taken-least.true (sym c.if-fit.ensures)
    ∙ sym c.loop-taken.invariant.decides

pub returns-in_default-next : goal.returns-in_default-next
returns-in_default-next t c =
    let d : ℕ = c.args.detail in
    let rest : Nodes → Bool = fits c.in-Some.before.now d in
    let ws : Nodes = last_nodes c.loop-taken.rest in
    let not_here : NotHere rest (c.least-least.result - c.loop-taken.taken) ws =
    elim c.else-taken-least.branch [
      | else-taken-least-via-then-taken-least+else-fit w ↦ not_rest rest _ ws w.if-fit.ensures
      | else-taken-least-via-else-taken-least w ↦ not_least rest _ ws (λ e. omega (arith, w.if-taken-least.false))
    ] in
    tried_none _ d rest _ _ c.loop-taken.taken ws not_here (none_back ws c.in_default-next.ensures.steps.0) ∙ sym c.loop-taken.invariant.decides

pub returns-then-not-belongs : goal.returns-then-not-belongs
returns-then-not-belongs t c =
    let d : ℕ = c.args.detail in
    let rest : Nodes → Bool = fits c.in-Some.before.now d in
    let ws : Nodes = last_nodes c.loop-taken.rest in
    let not_here : NotHere rest (c.least-least.result - c.loop-taken.taken) ws =
    elim c.else-taken-least.branch [
      | else-taken-least-via-then-taken-least+else-fit w ↦ not_rest rest _ ws w.if-fit.ensures
      | else-taken-least-via-else-taken-least w ↦ not_least rest _ ws (λ e. omega (arith, w.if-taken-least.false))
    ] in
    let ns : Nodes = last_nodes c.next.new.self in
    let step = some_back ws ns _ c.in-Some-next.ensures.steps in
    tried_other _ d rest _ _ c.loop-taken.taken ws ns _ not_here step (sym c.if-not-belongs.ensures) ∙ sym c.loop-taken.invariant.decides

pub loop-taken-preserved : goal.loop-taken-preserved
loop-taken-preserved t c =
    let d : ℕ = c.args.detail in
    let rest : Nodes → Bool = fits c.in-Some.before.now d in
    let ws : Nodes = last_nodes c.loop-taken.rest in
    let not_here : NotHere rest (c.least-least.result - c.loop-taken.taken) ws =
    elim c.else-taken-least.branch [
      | else-taken-least-via-then-taken-least+else-fit w ↦ not_rest rest _ ws w.if-fit.ensures
      | else-taken-least-via-else-taken-least w ↦ not_least rest _ ws (λ e. omega (arith, w.if-taken-least.false))
    ] in
    let ns : Nodes = last_nodes c.next.new.self in
    let step = some_back ws ns _ c.in-Some-next.ensures.steps in
    record {
      decides = c.loop-taken.invariant.decides ∙ tried_more _ d rest _ _ c.loop-taken.taken ws ns _ c.loop-taken-test.true not_here step (sym c.if-not-belongs.ensures);
      in_order = c.loop-taken.invariant.in_order;
    }

pub returns : goal.returns
returns t c =
    let d : ℕ = c.args.detail in
    let all : c.most-taken-end.result ≤ c.loop-taken.taken = c.loop-taken-test.false in
    let least : c.least-least.result ≤ c.loop-taken.taken = omega (arith, c.loop-taken.invariant.in_order, all) in
    c.fit-2.ensures ∙ tried_all _ d (fits c.in-Some.before.now d) _ _ c.loop-taken.taken (last_nodes c.loop-taken.rest) least all ∙ sym c.loop-taken.invariant.decides
