use Rattle.std.proofs.Common.{rules, refl}
use Rattle.std.proofs.lemmas.Iterator.{items_from_drains}
use Rattle.std.proofs.lemmas.Iterator.Consumers.{YieldsList-from_first}
use Rattle.drafts.specs.Walk.{subtree, last_left}
use Rattle.drafts.specs.Kinds.{number_of}
use Rattle.drafts.specs.Tree.{children_in}
use Rattle.drafts.proofs.Back.{First, last_first}
use Rattle.drafts.proofs.waiting.Subtree.starts_with.Goals as goal

pub returns : goal.returns
returns c =
    let ran = c.last.ensures.ran in
    let ns = children_in c.args.self.source c.args.self.index in
    let items = items_from_drains {s = c.children.result} ran.0 (ran.1.1.0, ran.1.1.1, λ _. (ran.1.0, ran.1.1.2)) (YieldsList-from_first subtree last_left _ refl) in
    let first = last_first subtree (number_of c.args.kind) ns ran.0 (rw (← c.children.ensures) items) in
    let known : First subtree (number_of c.args.kind) ns c.last.result = rw ran.2 first in
    search rules
