use Rattle.std.proofs.Common.{length, refl, ap, arith}
use Rattle.packed.specs.Fields.{told}
use Rattle.packed.proofs.Listings.{none_left, one_left, refusal_left}
use Rattle.packed.proofs.fields.FieldsIterator.next.Goals as goal

pub returns-then-place-self-clause-steps : goal.returns-then-place-self-clause-steps
returns-then-place-self-clause-steps c = let e = none_left c.args.self.now.file.now c.args.self.now.place c.if-place-self.true in (e, e)

pub returns-in-Ok-clause-steps : goal.returns-in-Ok-clause-steps
returns-in-Ok-clause-steps c = one_left _ _ c.if-place-self.false (told c.in-Ok.field) c.in-Ok.next c.in-Ok.ensures.answer

pub returns-in-Ok-clause-goes : goal.returns-in-Ok-clause-goes
returns-in-Ok-clause-goes c =
    let e = ap length (one_left _ _ c.if-place-self.false (told c.in-Ok.field) c.in-Ok.next c.in-Ok.ensures.answer) in
    record { on = λ _. (tt, tt, omega arith); keeps = tt; rests = λ _. tt }

pub returns-in-Err-clause-steps : goal.returns-in-Err-clause-steps
returns-in-Err-clause-steps c =
    let e = refusal_left _ _ c.if-place-self.false c.in-Err.refusal c.in-Err.ensures.answer in
    let n = none_left c.args.self.now.file.now (length c.args.self.now.file.now) refl in
    rw n e

pub returns-in-Err-clause-goes : goal.returns-in-Err-clause-goes
returns-in-Err-clause-goes c =
    let e = ap length (refusal_left _ _ c.if-place-self.false c.in-Err.refusal c.in-Err.ensures.answer) in
    let n = ap length (none_left c.args.self.now.file.now (length c.args.self.now.file.now) refl) in
    record { on = λ _. (tt, tt, omega arith); keeps = tt; rests = λ _. tt }
