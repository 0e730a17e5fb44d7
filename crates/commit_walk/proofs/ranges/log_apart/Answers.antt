use Rattle.std.proofs.Common.{ℕ, false, replicate, ap, ◌∙◌}
use Rattle.commit_walk.specs.Ranges.{is_apart_in}
use Rattle.commit_walk.proofs.RangeWalks.{keys_log}
use Rattle.commit_walk.proofs.ranges.log_apart.Goals as goal

pub keys_apart-requires : goal.keys_apart-requires
keys_apart-requires g c = record {
  blank_left = c.deref_mut.ensures.value ∙ c.in_ok-left_flags.ensures.items_if_clones_equal (λ y e. e)
      ∙ ap (λ (n : ℕ). replicate n false) c.len.ensures;
  blank_right = c.deref_mut-2.ensures.value ∙ c.in_ok-right_flags.ensures.items_if_clones_equal (λ y e. e)
      ∙ ap (λ (n : ℕ). replicate n false) c.len-2.ensures;
}

pub returns : goal.returns
returns g c good =
    c.in_ok-ids.ensures
    ∙ keys_log c.args.objects.now (is_apart_in c.args.objects.now c.args.symmetric c.args.left.now c.args.right.now)
    c.in_ok-keys.keys.items (c.in_ok-keys.ensures good)
