use Rattle.std.proofs.Common.{◌≡◌, ℕ, rules, refl, ap, ◌∙◌, arith}
use Rattle.drafts.specs.Tree.{waits, many, sizes, before_of}
use Rattle.drafts.proofs.Places.{sizes_split, all_wait}
use Rattle.drafts.proofs.Back.{none_back, some_back, before_more, many_before}
use Rattle.drafts.proofs.waiting.Waiting.last.Goals as goal

pub returns-in_err-next : goal.returns-in_err-next
returns-in_err-next c =
    let w = c.args.self in
    let b = c.loop.before in
    let empty = c.loop.invariant.1 ∙ none_back (waits b.source b.end) c.in_err-next.ensures.steps.0 in
    let few = many_before c.loop.counter (waits w.source w.end) c.loop.invariant.0 in
    let gone = ap many empty in search rules

pub loop-preserved : goal.loop-preserved
loop-preserved c =
    let w = c.args.self in
    let b = c.loop.before in
    let r = c.next.new.self in
    let more = c.loop.invariant.1 ∙ some_back (waits b.source b.end) (waits r.source r.end) _ c.in_ok-next.ensures.steps in
    let few = many_before c.loop.counter (waits w.source w.end) c.loop.invariant.0 in
    (omega (arith, ap many more), before_more c.loop.counter (waits w.source w.end) _ _ more)

pub returns : goal.returns
returns c =
    let w = c.args.self in
    let b = c.loop.before in
    let count : c.args.count ≡ c.loop.counter = omega (arith, c.loop-test.false, c.loop.auto.counter-end) in
    let split = sizes_split c.args.count (waits w.source w.end) in
    let all = all_wait w.source.file.now w.source.records.now w.end in
    let left = ap sizes (ap (λ (k : ℕ). before_of k (waits w.source w.end)) count ∙ c.loop.invariant.1) ∙ all_wait b.source.file.now b.source.records.now b.end in
    record { enough = omega (arith, c.loop.invariant.0, c.loop-test.false); nodes = refl; start = omega (arith, split, all, left) }
