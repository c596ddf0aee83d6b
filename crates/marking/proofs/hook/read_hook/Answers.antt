use Rattle.std.proofs.Common.{rules, Ok}
use Rattle.drafts.specs.Bulk.{AddsAll}
use Rattle.drafts.proofs.Bulks.{run_counts}
use Rattle.marking.proofs.hook.read_hook.Goals as goal

pub returns-in_err-lines : goal.returns-in_err-lines
returns-in_err-lines c = absurd (run_counts _ _ _ _ _ _ _ _ c.open_all-opened.ensures.run c.in_ok-opened.was c.in_err-lines.ensures.count)

pub returns : goal.returns
returns c =
    let o = c.open_all-opened in
    let run : AddsAll c.args.file.now 0 c.args.table.now c.in_ok-host.place o.result.draft.nodes o.new.table o.result.place (Ok tt) =
    rw (← c.in_ok-opened.was) o.ensures.run in
    search rules
