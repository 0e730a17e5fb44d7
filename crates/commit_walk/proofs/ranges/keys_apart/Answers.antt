use Rattle.std.proofs.Common.{◌≡◌, ◌<◌, ◌-◌, ℕ, suc, false, length, refl, sym, ap, subst, ◌∙◌, arith}
use Rattle.std.proofs.lemmas.List.{length-replicate}
use Rattle.commit_walk.specs.Marks.{MarksIf}
use Rattle.commit_walk.specs.Ranges.{is_apart_in}
use Rattle.commit_walk.proofs.RangeWalks.{AreKeysFrom, AreSides, IsLowestOf, Keys-pass, Keys-put, Sides-begin, Sides-tell, Sides-step, Sides-end, apart-commit}
use Rattle.commit_walk.proofs.ranges.keys_apart.Goals as goal
use Rattle.commit_walk.proofs.ranges.keys_apart.Goals.{then-is_apart+in_ok-push_key, else-is_apart}

pub loop-low-init : goal.loop-low-init
loop-low-init g c =
    let left = c.flag_tip-left_top in
    let right = c.flag_tip-right_top in
    let most = c.max-top.ensures in
    let left_within = left.ensures.within in
    let right_within = right.ensures.within in
    let size = length-replicate (length c.args.objects.now) false in
    record {
      within = omega arith;
      left_size = left.auto.flags ∙ ap length c.requires.blank_left ∙ size;
      right_size = right.auto.flags ∙ ap length c.requires.blank_right ∙ size;
      sides = λ good.
          Sides-begin g.N.Naming.digest_of c.args.objects.now good c.args.symmetric c.args.left.now c.args.right.now
          left.result right.result c.max-top.result c.lowest_apart-low.result c.args.left_flags.now c.args.right_flags.now
          left.new.flags right.new.flags c.new-keys.result.items c.requires.blank_left c.requires.blank_right
          left.ensures.above left_within right.ensures.above right_within (omega arith) (omega arith)
          left.ensures.flagged right.ensures.flagged c.lowest_apart-low.ensures.lowest c.lowest_apart-low.ensures.below
          c.new-keys.ensures.items;
    }

pub bounds-left_flags-place : goal.bounds-left_flags-place
bounds-left_flags-place g c =
    let more = c.loop-low-test.true in
    let inv = c.loop-low.invariant in
    let within = inv.within in let size = inv.left_size in omega arith

pub bounds-right_flags-place : goal.bounds-right_flags-place
bounds-right_flags-place g c =
    let more = c.loop-low-test.true in
    let inv = c.loop-low.invariant in
    let within = inv.within in let size = inv.right_size in omega arith

pub loop-low-preserved-in-loop-low : goal.loop-low-preserved-in-loop-low
loop-low-preserved-in-loop-low g c =
    let os = c.args.objects.now in
    let inv = c.loop-low.invariant in
    let more = c.loop-low-test.true in
    let within = inv.within in
    let at = c.loop-low.place - 1 in
    let lt : at < length os = omega arith in
    let next : c.loop-low.place ≡ suc at = omega arith in
    let set = is_apart_in os c.args.symmetric c.args.left.now c.args.right.now in
    record {
      within = omega arith;
      left_size = c.mark_if.auto.flags ∙ inv.left_size;
      right_size = c.mark_if-then-by_left.auto.flags ∙ inv.right_size;
      sides = λ good.
          let w = subst (λ (p : ℕ). AreSides os c.args.symmetric c.args.left.now c.args.right.now p c.loop-low.low
          c.loop-low.left_flags c.loop-low.right_flags c.loop-low.keys.items) next (inv.sides good) in
          let told = Sides-tell g.N.Naming.digest_of os good c.args.symmetric c.args.left.now c.args.right.now at c.loop-low.low
          c.loop-low.left_flags c.loop-low.right_flags c.loop-low.keys.items lt w in
          let keys : AreKeysFrom os set at c.if-is_apart.keys.items = elim c.if-is_apart.branch [
            | then-is_apart+in_ok-push_key b ↦
                let yea = sym told ∙ sym c.is_apart.ensures ∙ b.if-is_apart.true in
                rw b.keys-is (Keys-put os set at c.loop-low.keys.items _ lt yea
                (b.in_ok-push_key.ensures good lt (apart-commit os c.args.symmetric c.args.left.now c.args.right.now _ yea)) w.keys_are)
            | else-is_apart b ↦
                rw b.keys-is (Keys-pass os set at c.loop-low.keys.items
                (sym told ∙ sym c.is_apart.ensures ∙ b.if-is_apart.false) w.keys_are)
          ] in
          let parents = c.in_ok-parents.ensures good in
          Sides-step g.N.Naming.digest_of os good c.args.symmetric c.args.left.now c.args.right.now at c.loop-low.low
          c.lowest_apart-low-then-by_left.result c.loop-low.left_flags c.loop-low.right_flags c.mark_if.new.flags
          c.mark_if-then-by_left.new.flags _ _ c.if-is_apart.keys.items refl refl w.left_side w.right_side w.lowest keys
          (subst (MarksIf _ os c.loop-low.left_flags c.mark_if.new.flags) (c.deref.ensures.value ∙ parents) c.mark_if.ensures)
          (subst (MarksIf _ os c.loop-low.right_flags c.mark_if-then-by_left.new.flags) (c.deref-then-by_left.ensures.value ∙ parents) c.mark_if-then-by_left.ensures)
          c.lowest_apart-low-then-by_left.ensures.below
          (subst (IsLowestOf os c.args.symmetric c.lowest_apart-low-then-by_left.result c.mark_if.new.flags c.mark_if-then-by_left.new.flags)
          (c.deref-then-by_left-2.ensures.value ∙ parents) c.lowest_apart-low-then-by_left.ensures.lowest);
    }

pub loop-low-preserved : goal.loop-low-preserved
loop-low-preserved g c =
    let os = c.args.objects.now in
    let inv = c.loop-low.invariant in
    let more = c.loop-low-test.true in
    let within = inv.within in
    let at = c.loop-low.place - 1 in
    let lt : at < length os = omega arith in
    let next : c.loop-low.place ≡ suc at = omega arith in
    let set = is_apart_in os c.args.symmetric c.args.left.now c.args.right.now in
    record {
      within = omega arith;
      left_size = inv.left_size;
      right_size = inv.right_size;
      sides = λ good.
          let w = subst (λ (p : ℕ). AreSides os c.args.symmetric c.args.left.now c.args.right.now p c.loop-low.low
          c.loop-low.left_flags c.loop-low.right_flags c.loop-low.keys.items) next (inv.sides good) in
          let told = Sides-tell g.N.Naming.digest_of os good c.args.symmetric c.args.left.now c.args.right.now at c.loop-low.low
          c.loop-low.left_flags c.loop-low.right_flags c.loop-low.keys.items lt w in
          let keys : AreKeysFrom os set at c.if-is_apart.keys.items = elim c.if-is_apart.branch [
            | then-is_apart+in_ok-push_key b ↦
                let yea = sym told ∙ sym c.is_apart.ensures ∙ b.if-is_apart.true in
                rw b.keys-is (Keys-put os set at c.loop-low.keys.items _ lt yea
                (b.in_ok-push_key.ensures good lt (apart-commit os c.args.symmetric c.args.left.now c.args.right.now _ yea)) w.keys_are)
            | else-is_apart b ↦
                rw b.keys-is (Keys-pass os set at c.loop-low.keys.items
                (sym told ∙ sym c.is_apart.ensures ∙ b.if-is_apart.false) w.keys_are)
          ] in
          Sides-step g.N.Naming.digest_of os good c.args.symmetric c.args.left.now c.args.right.now at c.loop-low.low
          c.loop-low.low c.loop-low.left_flags c.loop-low.right_flags c.loop-low.left_flags c.loop-low.right_flags
          false false c.if-is_apart.keys.items (sym c.if-by_left.false) (sym c.if-by_right.false)
          w.left_side w.right_side w.lowest keys refl refl (omega arith)
          (λ k d less there apart. w.lowest _ apart);
    }

pub returns : goal.returns
returns g c good =
    Sides-end g.N.Naming.digest_of c.args.objects.now good c.args.symmetric c.args.left.now c.args.right.now
    c.loop-low.place c.loop-low.low c.loop-low.left_flags c.loop-low.right_flags c.loop-low.keys.items
    c.loop-low-test.false (c.loop-low.invariant.sides good)
