-- What holds of the effects of every tree.
use Rattle.rules.specs.Laws.{Laws}
use Rattle.rules.proofs.Acts.{no_act}
use Rattle.rules.proofs.Looser.{stays_free}

pub laws : Laws
laws = record { no_act = no_act; stays_free = stays_free }
