use Rattle.std.proofs.Common.{sym}
use Rattle.std.proofs.lemmas.Bool.{OnTrue_at}
use Rattle.tenant_tables.specs.Trees.{no_files}
use Rattle.pool_file_format.specs.Shown.{objects_of}
use Rattle.pool_file_checks.proofs.AlikeLemmas.{earlier_is_good}
use Rattle.pool_file_checks.proofs.good.earlier_sum.Goals as goal

pub returns : goal.returns
returns c = λ before.
    earlier_is_good (objects_of c.args.objects.now) c.args.index.now.entries c.args.place c.args.sums.now c.args.earlier
    c.in_ok-number.field-0-0.now c.in_ok-number.number.now c.content_at.result.0 c.content_at.result.1.now c.args.bytes.now
    c.in_ok-sum.sum.now c.in_ok-sum.ensures.lookup.3.0 (c.in_ok-sum.ensures.lookup.3.1 no_files) (sym c.in_ok-number.ensures.entry) c.content_at.ensures (c.is_kind.ensures.0 c.if-not-is_kind.false)
    (OnTrue_at c.if-not-is_alike.false c.is_alike.ensures) before
