use Rattle.std.proofs.lemmas.Bool.{iff_false}
use Rattle.git_objects.proofs.NameFronts.{no_end, slash_first, bad_name, good_name}
use Rattle.git_objects.proofs.tree.take_name.Goals as goal

pub returns-in_err-end : goal.returns-in_err-end
returns-in_err-end c = let a = c.in_err-end.ensures in rw c.from_residual.ensures (no_end c.args.contents.now a)

pub returns-then-contents-end-ne0 : goal.returns-then-contents-end-ne0
returns-then-contents-end-ne0 c =
    slash_first c.args.contents.now c.in_ok-end.end c.in_ok-end.ensures c.if-contents-end-ne0.true

pub returns-then-is_reserved : goal.returns-then-is_reserved
returns-then-is_reserved c =
    let answer = rw c.split_at.ensures.front at c.is_reserved.ensures in
    bad_name c.args.contents.now c.in_ok-end.end c.in_ok-end.ensures (answer.0 c.if-is_reserved.true)

pub returns : goal.returns
returns c =
    let answer = rw c.split_at.ensures.front at c.is_reserved.ensures in
    rw (c.split_at.ensures.front, c.split_at-2.ensures.back)
    (good_name c.args.contents.now c.in_ok-end.end c.in_ok-end.ensures c.if-contents-end-ne0.false (iff_false answer c.if-is_reserved.false))
