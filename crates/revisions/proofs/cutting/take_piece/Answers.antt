use Rattle.std.proofs.Common.{ℕ, List, ◌∷◌, sym, ◌∙◌, ap, arith}
use Rattle.revisions.proofs.Cuts.{TakesPiece, takes_piece}
use Rattle.revisions.proofs.cutting.take_piece.Goals as goal
use Rattle.revisions.proofs.cutting.take_piece.Goals.{After-split_at}

taken : (c : After-split_at)
    → TakesPiece c.args.text.now c.split_at.result.0.now c.split_at.result.1.now
taken c =
    let text = c.in_ok-rest.ensures.cases.0
    ∙ ap (λ (t : List ℕ). c.in_ok-rest.field-0-0.now ∷ t) (sym c.split_at_mark.ensures.both) in
    rw (c.split_at.ensures.front, c.split_at.ensures.back) (takes_piece
    c.in_ok-rest.field-0-0.now c.split_at_mark.result.0.now c.split_at_mark.result.1.now
    c.args.text.now _
    (omega arith) text c.requires c.split_at_mark.ensures.plain c.split_at_mark.ensures.marked)

pub returns-clause-pieces : goal.returns-clause-pieces
returns-clause-pieces c = (taken c).pieces

pub returns-clause-marked : goal.returns-clause-marked
returns-clause-marked c = let t = taken c in (t.begins, t.less)
