use Rattle.std.proofs.Common.{◌≡◌, ℕ, ◌+◌, None, Some, sym, ap, subst, ◌∙◌}
use Rattle.std.specs.Prelude.{slice_get}
use Rattle.content_pool.specs.Pool.{content}
use Rattle.pool_file_checks.specs.Objects.{raw_object}
use Rattle.pool_file.proofs.ListedContents.{AreBelow, all_below, below_length, below_more, below_none, below_same, item_at}
use Rattle.pool_file.proofs.listing.contents_in.Goals as goal
use Rattle.pool_file.proofs.listing.contents_in.Goals.{in-Some+in_ok-push, in_default}

pub loop-cell-init : goal.loop-cell-init
loop-cell-init g c =
    below_none c.args.pool.now c.args.seen.now c.new-contents.result.items c.new-contents.ensures.items

pub lent_content-requires : goal.lent_content-requires
lent_content-requires g c =
    let at = item_at c.args.seen.now c.loop-cell.cell-index c.cell-item.result c.loop-cell-test.true c.cell-item.is in
    let is = c.in-Some.is in
    (c.requires c.loop-cell.cell-index c.in-Some.slot cc).1

pub loop-cell-preserved : goal.loop-cell-preserved
loop-cell-preserved g c =
    let at = item_at c.args.seen.now c.loop-cell.cell-index c.cell-item.result c.loop-cell-test.true c.cell-item.is in
    elim c.match-cell.branch [
      | in-Some+in_ok-push w ↦
          let is = w.in-Some.is in
          let here : slice_get c.args.seen.now c.loop-cell.cell-index ≡ Some (Some w.in-Some.slot) = cc in
          let number = w.number.ensures in
          below_more c.args.pool.now c.args.seen.now c.loop-cell.contents.items c.match-cell.contents.items
          _ c.loop-cell.cell-index
          (here ∙ ap (λ (n : ℕ). Some (Some n)) (sym number))
          (number ∙ (c.requires c.loop-cell.cell-index w.in-Some.slot here).0)
          (w.lent_content.ensures ∙ ap (λ (n : ℕ). raw_object (content c.args.pool.now n)) (sym number))
          (ap (λ v. v.items) w.contents-is ∙ w.in_ok-push.ensures.items)
          c.loop-cell.invariant
      | in_default w ↦
          let is = w.in_default.is in
          let here : slice_get c.args.seen.now c.loop-cell.cell-index ≡ Some None = cc in
          subst (λ v. AreBelow c.args.pool.now c.args.seen.now v.items (c.loop-cell.cell-index + 1)) (sym w.contents-is)
          (below_same c.args.pool.now c.args.seen.now c.loop-cell.contents.items c.loop-cell.cell-index here
          c.loop-cell.invariant)
    ]

pub returns-clause-listed : goal.returns-clause-listed
returns-clause-listed g c = λ slots are.
    all_below c.args.pool.now c.args.seen.now c.loop-cell.contents.items c.loop-cell.cell-index slots
    c.loop-cell.invariant c.loop-cell-test.false are

pub returns-clause-within : goal.returns-clause-within
returns-clause-within g c =
    below_length c.args.pool.now c.args.seen.now c.loop-cell.contents.items c.loop-cell.cell-index
    c.loop-cell.invariant
