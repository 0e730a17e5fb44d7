use Rattle.std.proofs.Common.{sym, ◌∙◌}
use Rattle.revisions.proofs.Bases.{base-head, base-digits, base-other}
use Rattle.revisions.proofs.Steps.{gives-same}
use Rattle.revisions.proofs.base.base_named.Goals as goal

pub returns-then-is_head : goal.returns-then-is_head
returns-then-is_head g c =
    gives-same _ _ (c.head_target.ensures
    ∙ sym (base-head c.args.objects.now c.args.refs.now c.args.base.now (sym c.is_head.ensures
    ∙ c.if-is_head.true)))

pub returns-in-Some : goal.returns-in-Some
returns-in-Some g c =
    gives-same _ _ (c.if_there.ensures
    ∙ sym (base-digits c.args.objects.now c.args.refs.now c.args.base.now c.in-Some.id
    (sym c.is_head.ensures ∙ c.if-is_head.false) c.in-Some.ensures))

pub returns-in-None : goal.returns-in-None
returns-in-None g c =
    rw (base-other c.args.objects.now c.args.refs.now c.args.base.now
    (sym c.is_head.ensures ∙ c.if-is_head.false) c.in-None.ensures) c.ref_or_abbreviation.ensures
