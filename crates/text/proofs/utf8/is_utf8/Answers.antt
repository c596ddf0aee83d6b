use Rattle.std.proofs.Common.{rules}
use Rattle.text.proofs.Utf8Tests.{utf8_answer}
use Rattle.text.proofs.utf8.is_utf8.Goals as goal

pub returns-clause-test : goal.returns-clause-test
returns-clause-test c = utf8_answer c.args.bytes.now c.is_ok.result (search rules)
