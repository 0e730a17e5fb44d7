use Rattle.std.proofs.Common.{List, sym, subst, arith}
use Rattle.tenant_tables.specs.declared.summary.Summary.{Summary}
use Rattle.pool_file_format.specs.Shown.{objects_of}
use Rattle.pool_file_checks.specs.Own.{objects_in}
use Rattle.pool_file_checks.specs.Quick.{AreGoodBefore, IsGoodAt}
use Rattle.pool_file_checks.proofs.GoodLemmas.{content_here, joins_here}
use Rattle.pool_file_checks.proofs.good.add_at.Goals as goal

pub returns-clause-content : goal.returns-clause-content
returns-clause-content c = λ before.
    let os = objects_of c.args.objects.now in let rows = c.args.index.now.entries in let o = c.content_at-kind in
    let short = c.if-bytes-gt-CONTENTS_LIMIT.false in
    let good = rw c.in-Some-2.is at (c.in_ok-sum.ensures
    (subst (λ (l : List Summary). AreGoodBefore (objects_in os rows) c.args.place l) (sym c.deref.ensures.value) before)) in
    content_here os rows c.args.place c.in-Some.field-0-0.now c.in-Some.number.now o.result.0 o.result.1.now
    (sym c.in-Some.ensures.entry) o.ensures (omega (arith, short), good.text)

pub returns-clause-joins : goal.returns-clause-joins
returns-clause-joins c = λ before.
    let os = objects_of c.args.objects.now in let rows = c.args.index.now.entries in let o = c.content_at-kind in
    let good = rw c.in-Some-2.is at (c.in_ok-sum.ensures
    (subst (λ (l : List Summary). AreGoodBefore (objects_in os rows) c.args.place l) (sym c.deref.ensures.value) before)) in
    joins_here os rows c.args.place c.in-Some.field-0-0.now c.in-Some.number.now o.result.0 o.result.1.now
    (sym c.in-Some.ensures.entry) o.ensures c.args.sums.now.items _ (record {
      sum = c.in-Some-2.sum;
      added = c.in_ok-push.ensures.items;
      good = subst (λ (l : List Summary). IsGoodAt (objects_in os rows) c.args.place l o.result.0 o.result.1.now c.in-Some-2.sum)
          c.deref.ensures.value good;
    })
