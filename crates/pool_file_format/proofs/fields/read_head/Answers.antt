use Rattle.pool_file_format.proofs.FieldLemmas.{head_first, head_later}
use Rattle.pool_file_format.proofs.fields.read_head.Goals as goal

pub returns-then-version-eq1 : goal.returns-then-version-eq1
returns-then-version-eq1 g c = head_first c.args.version c.in_ok-from_slice.field-0.items _ c.if-version-eq1.true c.in_ok-from_slice.ensures.items

pub returns : goal.returns
returns g c = head_later c.args.version _ _ _ c.if-version-eq1.false c.read_short.ensures
