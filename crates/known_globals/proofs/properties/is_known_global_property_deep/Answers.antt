use Rattle.std.proofs.Common.{◌≡◌, false, codes, [], ◌∷◌, ap, ◌∙◌}
use Rattle.tables.specs.Order.{listed}
use Rattle.known_globals.specs.Properties.{row, under, object_prototype, known_properties_deep, known_property_deep}
use Rattle.known_globals.proofs.Rows.{under_none, refuted, affirmed}
use Rattle.known_globals.proofs.properties.is_known_global_property_deep.Goals as goal
use Rattle.known_globals.proofs.properties.is_known_global_property_deep.Goals.{then-eq, else-eq}

pub returns-else-eq-2 : goal.returns-else-eq-2
unfolding known_properties_deep
returns-else-eq-2 c =
    elim c.if-eq.branch [
      | then-eq w ↦
          let not : w.eq-then-eq.result ≡ false = cc in
          let g = affirmed c.args.global.now (codes "Object") _ c.eq.ensures w.if-eq.true in
          let none = under_none (row "prototype" object_prototype ∷ []) c.args.middle.now (refuted c.args.middle.now (codes "prototype") _ w.eq-then-eq.ensures not, tt) in
          let known : known_property_deep c.args.global.now c.args.middle.now c.args.property.now ≡ false
          = (λ i. known_property_deep (g i) c.args.middle.now c.args.property.now) ∙ ap (λ row. listed row c.args.property.now) none in
          cc
      | else-eq w ↦
          let none = under_none known_properties_deep c.args.global.now (refuted c.args.global.now (codes "Object") _ c.eq.ensures w.if-eq.false, tt) in
          let known : known_property_deep c.args.global.now c.args.middle.now c.args.property.now ≡ false
          = ap (λ rows. listed (under rows c.args.middle.now) c.args.property.now) none in
          cc
    ]
