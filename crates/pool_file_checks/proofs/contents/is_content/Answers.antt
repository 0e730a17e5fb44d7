use Rattle.std.proofs.Common.{arith}
use Rattle.pool_file_checks.proofs.CheckLemmas.{is_kept}
use Rattle.pool_file_checks.proofs.contents.is_content.Goals as goal

pub returns : goal.returns
returns c = is_kept c.args.kind c.args.bytes.now c.is_text.result (let f = c.if-bytes-gt-CONTENTS_LIMIT.false in omega (arith, f)) c.is_text.ensures
