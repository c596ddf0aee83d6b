use Rattle.std.proofs.Common.{◌≡◌, length}
use Rattle.packed.specs.Listing.{fields_left}
use Rattle.hosts.specs.NameMeaning.{names_left}
use Rattle.hosts.proofs.declared_names.DeclaredNamesIterator.next.Given as goal

-- the fields passed over declare no name
abbrev pub invariant-loop-field : goal.invariant-loop-field
invariant-loop-field l = names_left l.self ≡ names_left l.initial.self

abbrev pub decreases-loop-field : goal.decreases-loop-field
decreases-loop-field l = length (fields_left l.self.fields)
