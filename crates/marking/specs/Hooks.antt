-- What the program reports of a hook.
use Rattle.std.specs.Prelude.{◌≡◌, ℕ, ◌⊎◌, List, ◌++◌, Ok, Err, codes, decimal, Result}
use Rattle.packed.specs.declared.refusal.Refusal.{Refusal}
use Rattle.drafts.specs.declared.record.Record.{Record}
use Rattle.drafts.specs.Tree.{many, waiting}
use Rattle.drafts.specs.Bulk.{AddsAll}
use Rattle.marking.specs.declared.hook.Report.{Report}
use Rattle.marking.specs.declared.host.HostReport.{HostReport}
use Rattle.marking.specs.HostReports.{host_reported, host_line}

-- the host was made, and every field from the first node on was added to a draft just opened, in the table rs, which leaves the table new
pub record Read (file : List ℕ) (limit : ℕ) (rs new : List Record) (c : Report) : Type 0 where
  pub place : ℕ
  pub made : host_reported limit file ≡ Ok (c.host, place)
  pub reached : ℕ
  pub run : AddsAll file 0 rs place c.nodes new reached (Ok tt)
  pub lines : c.lines ≡ many (waiting file new c.nodes)

-- the host was made, and a refusal stopped the adds
pub record Stopped (file : List ℕ) (limit : ℕ) (rs new : List Record) (e : Refusal) : Type 0 where
  pub host : HostReport
  pub place : ℕ
  pub made : host_reported limit file ≡ Ok (host, place)
  pub nodes : ℕ
  pub reached : ℕ
  pub run : AddsAll file 0 rs place nodes new reached (Err e)

-- what is answered of a file, in a table for nodes and with room for `limit` scope records
abbrev pub Reports : List ℕ → ℕ → List Record → List Record → Result Report Refusal → Type 0
Reports file limit rs new (Ok c) = Read file limit rs new c
Reports file limit rs new (Err e) = ((host_reported limit file ≡ Err e) × (new ≡ rs)) ⊎ Stopped file limit rs new e

abbrev pub line : Report → List ℕ
line c = codes "nodes " ++ (decimal c.nodes ++ (codes " lines " ++ (decimal c.lines ++ (codes " " ++ host_line c.host))))
