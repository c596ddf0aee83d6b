use Rattle.std.proofs.Common.{◌++◌, codes, refl, ◌∙◌}
use Rattle.known_globals.specs.Identifiers.{a_to_g, h_to_r, s_to_x, lowercase, known_names}
use Rattle.known_globals.proofs.Letters.{is_below, is_above}
use Rattle.known_globals.proofs.names.part_of.Goals as goal

pub returns-then-lt : goal.returns-then-lt
unfolding a_to_g h_to_r s_to_x lowercase known_names
returns-then-lt c =
    is_below (codes "H") a_to_g (h_to_r ++ (s_to_x ++ lowercase)) c.args.name.now _ c.lt.ensures refl c.if-lt.true

pub returns-then-lt-2 : goal.returns-then-lt-2
unfolding a_to_g h_to_r s_to_x lowercase known_names
returns-then-lt-2 c =
    is_below (codes "S") h_to_r (s_to_x ++ lowercase) c.args.name.now _ c.lt-2.ensures refl c.if-lt-2.true
    ∙ is_above (codes "H") a_to_g (h_to_r ++ (s_to_x ++ lowercase)) c.args.name.now _ c.lt.ensures refl c.if-lt.false

pub returns-then-lt-3 : goal.returns-then-lt-3
unfolding a_to_g h_to_r s_to_x lowercase known_names
returns-then-lt-3 c =
    is_below (codes "a") s_to_x lowercase c.args.name.now _ c.lt-3.ensures refl c.if-lt-3.true
    ∙ is_above (codes "S") h_to_r (s_to_x ++ lowercase) c.args.name.now _ c.lt-2.ensures refl c.if-lt-2.false
    ∙ is_above (codes "H") a_to_g (h_to_r ++ (s_to_x ++ lowercase)) c.args.name.now _ c.lt.ensures refl c.if-lt.false

pub returns : goal.returns
unfolding a_to_g h_to_r s_to_x lowercase known_names
returns c =
    is_above (codes "a") s_to_x lowercase c.args.name.now _ c.lt-3.ensures refl c.if-lt-3.false
    ∙ is_above (codes "S") h_to_r (s_to_x ++ lowercase) c.args.name.now _ c.lt-2.ensures refl c.if-lt-2.false
    ∙ is_above (codes "H") a_to_g (h_to_r ++ (s_to_x ++ lowercase)) c.args.name.now _ c.lt.ensures refl c.if-lt.false
