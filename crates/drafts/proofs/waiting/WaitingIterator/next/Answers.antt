use Rattle.std.proofs.Common.{rules, length, ap, ◌∙◌}
use Rattle.drafts.specs.declared.record.Record.{Record}
use Rattle.drafts.proofs.Back.{walk_step, span_within}
use Rattle.drafts.proofs.waiting.WaitingIterator.next.Goals as goal

pub overflow_sub-before : goal.overflow_sub-before
overflow_sub-before c =
    let w = c.args.self.now in
    let i = c.in_ok-index.ensures in
    let span = c.from.ensures ∙ ap (λ (r : Record). r.span) c.record.ensures in
    span_within w.source w.end c.in_ok-index.index _ w.spanned i.0 i.1 span

pub returns-clause-steps : goal.returns-clause-steps
returns-clause-steps c =
    let w = c.args.self.now in
    let i = c.in_ok-index.ensures in
    let span = c.from.ensures ∙ ap (λ (r : Record). r.span) c.record.ensures in
    walk_step w.source w.end c.in_ok-index.index _ w.spanned i.0 i.1 span

pub returns-clause-goes : goal.returns-clause-goes
returns-clause-goes c =
    let w = c.args.self.now in
    let i = c.in_ok-index.ensures in
    let span = c.from.ensures ∙ ap (λ (r : Record). r.span) c.record.ensures in
    let shorter = ap length (walk_step w.source w.end c.in_ok-index.index _ w.spanned i.0 i.1 span) in search rules
