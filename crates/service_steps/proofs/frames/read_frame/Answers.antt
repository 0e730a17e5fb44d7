use Rattle.std.proofs.Common.{List, ℕ, sym, ap, ◌∙◌}
use Rattle.service_steps.proofs.FrameParts.{body_fails, body_wrong, frame_fails, kind_fails, knows, name_fails, named}
use Rattle.service_steps.proofs.frames.read_frame.Goals as goal

pub returns-in_err-kind-clause-reads : goal.returns-in_err-kind-clause-reads
returns-in_err-kind-clause-reads g c = frame_fails _ _ _ _ _ _ c.from_residual.ensures.1 (kind_fails c.requires _ _ c.in_err-kind.field-0.0 c.in_err-kind.ensures)

pub returns-in_err-read_after_u16-clause-reads : goal.returns-in_err-read_after_u16-clause-reads
returns-in_err-read_after_u16-clause-reads g c =
    frame_fails _ _ _ _ _ _ c.from_residual-in_err-read_after_u16.ensures.1
    (name_fails c.requires _ _ _ c.in-Some.kind c.in_err-read_after_u16.field-0.0 c.read_after_u16.new.room.items c.name_limit.result c.name_limit.ensures
    (knows c.requires _ _ c.in-Some.kind _ c.in-Some.is c.in_ok-kind.ensures) c.in_err-read_after_u16.ensures)

pub returns-in_err-read_after_u32-clause-reads : goal.returns-in_err-read_after_u32-clause-reads
returns-in_err-read_after_u32-clause-reads g c =
    frame_fails _ _ _ _ _ _ c.from_residual-in_err-read_after_u32.ensures.1
    (body_fails c.requires _ _ _ c.in-Some.kind c.read_after_u16.new.room.items c.in_err-read_after_u32.field-0.0 c.read_after_u32.new.room.items c.body_limit.result c.body_limit.ensures
    (named c.requires _ _ _ c.in-Some.kind c.read_after_u16.new.room.items c.name_limit.result c.name_limit.ensures
    (knows c.requires _ _ c.in-Some.kind _ c.in-Some.is c.in_ok-kind.ensures) c.in_ok-read_after_u16.ensures) c.in_err-read_after_u32.ensures)

pub returns-then-not-is_body-clause-reads : goal.returns-then-not-is_body-clause-reads
returns-then-not-is_body-clause-reads g c =
    body_wrong (g.K.FrameKind.rules.number c.in-Some.kind) _ _ _ c.read_after_u16.new.room.items c.read_after_u32.new.room.items (c.requires.judges c.in-Some.kind)
    (named c.requires _ _ _ c.in-Some.kind c.read_after_u16.new.room.items c.name_limit.result c.name_limit.ensures
    (knows c.requires _ _ c.in-Some.kind _ c.in-Some.is c.in_ok-kind.ensures) c.in_ok-read_after_u16.ensures)
    (rw c.body_limit.ensures at c.in_ok-read_after_u32.ensures)
    (ap (λ (l : List ℕ). g.K.FrameKind.rules.good c.in-Some.kind l) (sym c.deref.ensures.value) ∙ sym c.is_body.ensures ∙ c.if-not-is_body.true)
