use Rattle.std.proofs.Common.{◌++◌, ◌∷◌, [], List, ℕ, sym, ap, ◌∙◌, append_assoc, append-nil}
use Rattle.stream_lex.specs.Looking.{item_of}
use Rattle.uses.specs.Outlines.{line_of}
use Rattle.uses.proofs.Outlined.{took, no-line, one-more}
use Rattle.uses.proofs.outlining.append_lines.Goals as goal

pub items-preserved-in-Continue-branch-4 : goal.items-preserved-in-Continue-branch-4
items-preserved-in-Continue-branch-4 c =
    let item = took _ _ _ _ _ c.in_ok-item.was c.in-Some.is c.next.follows.holds-at-none.first in
    one-more _ _ _ _ _ _ _ c.items.invariant item
    (c.in_ok-extend_from_slice-2.ensures.items
    ∙ ap (λ (l : List ℕ). l ++ 10 ∷ []) c.in_ok-extend_from_slice.ensures.items
    ∙ append_assoc c.items.text.items c.in-Line.line.now (10 ∷ [])
    ∙ ap (λ i. c.items.text.items ++ line_of (item_of i)) (sym c.in-Line.is))

pub items-preserved : goal.items-preserved
items-preserved c =
    let item = took _ _ _ _ _ c.in_ok-item.was c.in-Some.is c.next.follows.holds-at-none.first in
    one-more _ _ _ _ _ _ _ c.items.invariant item
    (sym (append-nil c.items.text.items)
    ∙ ap (λ (l : List ℕ). c.items.text.items ++ l) (sym (no-line c.in-Some.item c.in_default-item.not-Line)))
