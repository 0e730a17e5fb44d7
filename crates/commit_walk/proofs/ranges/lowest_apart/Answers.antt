use Rattle.std.proofs.Common.{◌≡◌, ◌≤◌, ℕ, sym, subst, ◌∙◌, Bool, arith}
use Rattle.std.proofs.lemmas.List.{take_all}
use Rattle.std.proofs.lemmas.List.Elements.{All-nil}
use Rattle.commit_walk.specs.Ranges.{is_apart}
use Rattle.commit_walk.proofs.RangeWalks.{IsLowestOf, Lowest-take, never-both, flag_at}
use Rattle.commit_walk.proofs.ranges.lowest_apart.Goals as goal
use Rattle.commit_walk.proofs.ranges.lowest_apart.Goals.{in-Some+then-is_apart, in-Some+else-is_apart, in_default}

pub loop-id-init : goal.loop-id-init
loop-id-init g c = record {
  below = omega arith;
  lowest = All-nil _;
}

pub loop-id-preserved : goal.loop-id-preserved
loop-id-preserved g c =
    let os = c.args.objects.now in
    let inv = c.loop-id.invariant in
    elim c.match-place.branch [
      | in-Some+then-is_apart w ↦
          let less : c.match-place.lowest ≤ c.loop-id.lowest =
          let is = w.lowest-is in let m = w.min-lowest.ensures in omega arith in
          record {
            below = let b = inv.below in omega arith;
            lowest = Lowest-take os c.args.symmetric c.loop-id.lowest c.match-place.lowest c.args.left.now c.args.right.now c.args.ids.now
                c.loop-id.id-index c.id-item.result c.loop-id-test.true c.id-item.is less inv.lowest
                (λ there apart. let at = w.in-Some.ensures.0 in let is = w.lowest-is in let m = w.min-lowest.ensures in omega arith);
          }
      | in-Some+else-is_apart w ↦
          let same = w.lowest-is in
          record {
            below = let b = inv.below in omega arith;
            lowest = Lowest-take os c.args.symmetric c.loop-id.lowest c.match-place.lowest c.args.left.now c.args.right.now c.args.ids.now
                c.loop-id.id-index c.id-item.result c.loop-id-test.true c.id-item.is (omega arith) inv.lowest
                (λ there apart. absurd (never-both _ (sym w.is_apart.ensures ∙ w.if-is_apart.false)
                (subst (λ (p : ℕ). is_apart c.args.symmetric (flag_at c.args.left.now p) (flag_at c.args.right.now p) ≡ Bool.true)
                w.in-Some.ensures.0 apart)));
          }
      | in_default w ↦
          let same = w.lowest-is in
          record {
            below = let b = inv.below in omega arith;
            lowest = Lowest-take os c.args.symmetric c.loop-id.lowest c.match-place.lowest c.args.left.now c.args.right.now c.args.ids.now
                c.loop-id.id-index c.id-item.result c.loop-id-test.true c.id-item.is (omega arith) inv.lowest
                (λ there apart. let past = w.in_default.ensures in absurd (omega arith));
          }
    ]

pub returns-clause-below : goal.returns-clause-below
returns-clause-below g c = c.loop-id.invariant.below

pub returns-clause-lowest : goal.returns-clause-lowest
returns-clause-lowest g c =
    subst (IsLowestOf c.args.objects.now c.args.symmetric c.loop-id.lowest c.args.left.now c.args.right.now)
    (take_all c.loop-id.id-index c.args.ids.now c.loop-id-test.false) c.loop-id.invariant.lowest
