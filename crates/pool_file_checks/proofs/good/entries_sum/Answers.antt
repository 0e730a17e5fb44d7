use Rattle.std.proofs.Common.{List, ◌+◌, drop, sym, subst, arith}
use Rattle.std.specs.Prelude.{All}
use Rattle.std.proofs.lemmas.List.{drop_all}
use Rattle.std.proofs.lemmas.List.Elements.{All-nil}
use Rattle.git_objects.specs.declared.tree_entry.TreeEntry.{TreeEntry as Read}
use Rattle.git_objects.specs.Parts.{entry_of, entries_of}
use Rattle.pool_file_checks.specs.Connecting.{EntryStands}
use Rattle.pool_file_checks.specs.Own.{objects_in}
use Rattle.pool_file_checks.specs.Sums.{IsWithin}
use Rattle.pool_file_format.specs.Shown.{objects_of}
use Rattle.pool_file_checks.proofs.SumLemmas.{Summed, first_left, summed_on, summed_all}
use Rattle.pool_file_checks.proofs.TenantLemmas.{all_on}
use Rattle.pool_file_checks.proofs.good.entries_sum.Goals as goal

pub both-requires-clause-first : goal.both-requires-clause-first
both-requires-clause-first c = c.loop-entry.invariant.0

pub loop-entry-preserved : goal.loop-entry-preserved
loop-entry-preserved c =
    let es = c.args.entries.now in let i = c.loop-entry.entry-index in let e = c.entry-item.result in let sum = c.loop-entry.sum in
    let P = EntryStands (objects_in (objects_of c.args.objects.now) c.args.index.now.entries) c.args.place in
    let added = c.in_ok-entry_sum.field-0 in
    let next = c.in_ok-sum.ensures in (
      subst IsWithin (sym next.1) next.0,
      (
        all_on entry_of P es i e (All P (entries_of es)) (let t = c.loop-entry-test.true in omega (arith, t)) c.entry-item.is c.in_ok-entry_sum.ensures.stands c.loop-entry.invariant.1.0,
        λ noted kept.
            let s = first_left noted sum es i e c.loop-entry-test.true c.entry-item.is (c.loop-entry.invariant.1.1 noted kept) in
            let h = c.in_ok-entry_sum.ensures.sum noted kept in
            summed_on noted sum (entry_of e) (entries_of (drop (i + 1) es)) (entries_of es) added c.in_ok-sum.sum s
            ((h.0, subst IsWithin h.1 c.in_ok-entry_sum.ensures.within), h.1) next,
      ),
    )

pub returns-clause-stands : goal.returns-clause-stands
returns-clause-stands c =
    let P = EntryStands (objects_in (objects_of c.args.objects.now) c.args.index.now.entries) c.args.place in
    c.loop-entry.invariant.1.0 (subst (λ (left : List Read). All P (entries_of left))
    (sym (drop_all c.loop-entry.entry-index c.args.entries.now c.loop-entry-test.false)) (All-nil P))

pub returns-clause-sum : goal.returns-clause-sum
returns-clause-sum c = λ noted kept.
    let es = c.args.entries.now in
    summed_all noted c.loop-entry.sum (entries_of es)
    (subst (λ (left : List Read). Summed noted c.loop-entry.sum (entries_of left) (entries_of es))
    (drop_all c.loop-entry.entry-index es c.loop-entry-test.false) (c.loop-entry.invariant.1.1 noted kept))
