-- What is reported of the host that a file gives.
use Rattle.std.specs.Prelude.{ℕ, List, ◌++◌, length, Ok, codes, decimal, Result}
use Rattle.packed.specs.declared.refusal.Refusal.{Refusal}
use Rattle.packed.specs.Reading.{and_then}
use Rattle.hosts.specs.Gathering.{table_takes, name_takes, gathered_from}
use Rattle.hosts.specs.NameMeaning.{declared}
use Rattle.hosts.specs.Shown.{switches_line}
use Rattle.marking.specs.declared.choice.HostKind.{HostKind}
use Rattle.marking.specs.declared.choice.HostKind.TheVariants.{Table, Names}
use Rattle.marking.specs.declared.host.HostReport.{HostReport}
use Rattle.marking.specs.Choices.{kind_of, kind_word}

abbrev pub table_reported : ℕ → List ℕ → Result (HostReport × ℕ) Refusal
table_reported limit file =
    and_then (gathered_from (table_takes limit) file) (λ a. Ok (record { kind = Table; held = length a.0.scopes; switches = a.0.switches }, a.1))

abbrev pub names_reported : List ℕ → Result (HostReport × ℕ) Refusal
names_reported file =
    and_then (gathered_from name_takes file) (λ a. Ok (record { kind = Names; held = length (declared file a.1); switches = a.0.switches }, a.1))

abbrev pub reported_by : HostKind → ℕ → List ℕ → Result (HostReport × ℕ) Refusal
reported_by Table limit file = table_reported limit file
reported_by Names limit file = names_reported file

-- the host that the file asks for, and the place of the first node, or the refusal of its making
abbrev pub host_reported : ℕ → List ℕ → Result (HostReport × ℕ) Refusal
host_reported limit file = reported_by (kind_of file) limit file

abbrev pub host_line : HostReport → List ℕ
host_line h = codes "host " ++ (kind_word h.kind ++ (codes " " ++ (decimal h.held ++ (codes " " ++ switches_line h.switches))))
