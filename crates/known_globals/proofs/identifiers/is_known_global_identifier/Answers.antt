use Rattle.std.proofs.Common.{is_some, refl, ap, ◌∙◌}
use Rattle.tables.proofs.Listed.{position_listed}
use Rattle.known_globals.specs.Identifiers.{a_to_g, h_to_r, s_to_x, lowercase, known_names}
use Rattle.known_globals.proofs.identifiers.is_known_global_identifier.Goals as goal

pub returns-clause-answer : goal.returns-clause-answer
returns-clause-answer c =
    c.is_some.ensures ∙ ap is_some c.find.ensures.value ∙ position_listed _ c.args.name.now ∙ c.part_of.ensures

-- the test is computed, over the whole list
pub returns-clause-ascent : goal.returns-clause-ascent
unfolding a_to_g h_to_r s_to_x lowercase known_names
returns-clause-ascent c = refl
