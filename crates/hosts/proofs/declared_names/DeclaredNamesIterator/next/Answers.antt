use Rattle.std.proofs.Common.{◌≡◌, [], sym, ap, ◌∙◌, le-ltb}
use Rattle.packed.specs.Listing.{fields_left}
use Rattle.hosts.specs.NameMeaning.{names_in}
use Rattle.hosts.proofs.Naming.{none_before}
use Rattle.hosts.proofs.declared_names.DeclaredNamesIterator.next.Goals.{in-Some+in-Ok+in_default-field, in-Some+in_default-field, in_default}
use Rattle.hosts.proofs.declared_names.DeclaredNamesIterator.next.Goals as goal

pub returns-clause-steps : goal.returns-clause-steps
returns-clause-steps c =
    let end = c.loop-field.self.end in
    let none : names_in end (fields_left c.loop-field.self.fields) ≡ [] = elim c.match-next.branch [
      | in-Some+in-Ok+in_default-field w ↦ ap (names_in end) (rw w.in-Ok.is at w.in-Some.ensures.steps) ∙ rw (le-ltb w.in-Ok.place end w.if-place-self-2.false)
      | in-Some+in_default-field w ↦ ap (names_in end) (rw w.in_default-field.is at w.in-Some.ensures.steps)
      | in_default w ↦ ap (names_in end) w.in_default.ensures.steps.0
    ] in
    (sym c.loop-field.invariant ∙ none, none_before (fields_left c.next.new.self))
