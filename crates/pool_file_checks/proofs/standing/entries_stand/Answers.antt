use Rattle.std.proofs.Common.{refl, sym, subst, arith}
use Rattle.std.specs.Prelude.{All}
use Rattle.std.proofs.lemmas.List.{drop_all}
use Rattle.std.proofs.lemmas.List.Elements.{All-nil}
use Rattle.std.proofs.lemmas.Bool.{false≢true, iff_false}
use Rattle.git_objects.specs.Parts.{entry_of, entries_of}
use Rattle.pool_file_checks.specs.Connecting.{EntryStands}
use Rattle.pool_file_checks.specs.Own.{objects_in}
use Rattle.pool_file_format.specs.Shown.{objects_of}
use Rattle.pool_file_checks.proofs.TenantLemmas.{all_on, fails_at}
use Rattle.pool_file_checks.proofs.standing.entries_stand.Goals as goal

pub returns-then-not-entry_stands : goal.returns-then-not-entry_stands
returns-then-not-entry_stands c = (
  λ e. absurd (false≢true e),
  λ q. absurd (fails_at entry_of (EntryStands (objects_in (objects_of c.args.objects.now) c.args.index.now.entries) c.args.place)
      c.args.entries.now c.loop-entry.entry-index c.entry-item.result (let t = c.loop-entry-test.true in omega (arith, t)) c.entry-item.is
      (iff_false c.entry_stands.ensures c.if-not-entry_stands.true) q),
)

pub loop-entry-preserved : goal.loop-entry-preserved
loop-entry-preserved c =
    let P = EntryStands (objects_in (objects_of c.args.objects.now) c.args.index.now.entries) c.args.place in
    all_on entry_of P c.args.entries.now c.loop-entry.entry-index c.entry-item.result (All P (entries_of c.args.entries.now))
    (let t = c.loop-entry-test.true in omega (arith, t)) c.entry-item.is (c.entry_stands.ensures.0 c.if-not-entry_stands.false) c.loop-entry.invariant

pub loop-entry-init : goal.loop-entry-init
loop-entry-init c = λ all. all

pub returns : goal.returns
returns c =
    let P = EntryStands (objects_in (objects_of c.args.objects.now) c.args.index.now.entries) c.args.place in (
      λ e. c.loop-entry.invariant (subst (λ left. All P (entries_of left))
          (sym (drop_all c.loop-entry.entry-index c.args.entries.now c.loop-entry-test.false)) (All-nil P)),
      λ all. refl,
    )
