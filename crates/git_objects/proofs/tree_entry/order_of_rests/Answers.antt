use Rattle.std.proofs.Common.{refl, sym, ◌∙◌}
use Rattle.git_objects.proofs.Comparisons.{settled_by_first, settled_by_length}
use Rattle.git_objects.proofs.tree_entry.order_of_rests.Goals as goal

pub returns-then-is_ne : goal.returns-then-is_ne
returns-then-is_ne c =
    settled_by_first c.args.rest.now c.args.other.now c.args.mode c.args.other_mode c.cmp-found.result c.requires
    (c.cmp-found.ensures ∙ rw (c.next_byte.ensures, c.next_byte-2.ensures) refl)
    (sym c.if-is_ne.true ∙ c.is_ne.ensures)

pub returns : goal.returns
returns c =
    settled_by_length c.args.rest.now c.args.other.now c.args.mode c.args.other_mode c.cmp-found.result
    c.cmp.result c.requires
    (c.cmp-found.ensures ∙ rw (c.next_byte.ensures, c.next_byte-2.ensures) refl)
    (sym c.if-is_ne.false ∙ c.is_ne.ensures)
    (c.cmp.ensures ∙ rw (c.slash_of.ensures, c.slash_of-2.ensures) refl)
