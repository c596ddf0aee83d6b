use Rattle.std.proofs.Common.{◌≡◌, length}
use Rattle.packed.specs.Listing.{fields_left}
use Rattle.hosts.specs.Gathering.{begun, host_takes, gathers}
use Rattle.hosts.proofs.Gatherings.{gathered_of}
use Rattle.hosts.proofs.gathering.gather.Given as goal

-- what is left decides
abbrev pub invariant-loop-field : goal.invariant-loop-field
invariant-loop-field g l = record {
  same : g.G.Gathers.takes l.host ≡ g.G.Gathers.takes l.initial.host;
  left : gathered_of (host_takes (g.G.Gathers.takes l.initial.host)) (length l.file) (fields_left l.field-iterator) (record { scopes = g.G.Gathers.records l.host; switches = l.switches }) ≡
      gathers (host_takes (g.G.Gathers.takes l.initial.host)) (length l.file) l.file 0 (begun (g.G.Gathers.records l.initial.host));
}
