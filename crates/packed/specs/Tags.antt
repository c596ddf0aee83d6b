-- The numbers of tags in the format.
use Rattle.std.specs.Prelude.{ℕ, cond, Some, None, Option, ◌==◌}
use Rattle.packed.specs.declared.tag.Tag.{Tag}
use Rattle.packed.specs.declared.tag.Tag.TheVariants.{Node, Scope, Switch, Name}

abbrev pub tag_of : ℕ → Option Tag
tag_of n =
    cond (n == 1) (Some Node)
    (cond (n == 2) (Some Scope)
    (cond (n == 3) (Some Switch)
    (cond (n == 4) (Some Name) None)))
