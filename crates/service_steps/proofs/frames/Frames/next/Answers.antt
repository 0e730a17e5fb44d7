use Rattle.std.proofs.Common.{◌∙◌}
use Rattle.service_steps.specs.Frames.{framed, wrong_at}
use Rattle.service_steps.proofs.FrameLemmas.{steps}
use Rattle.service_steps.proofs.FrameParts.{same_read}
use Rattle.service_steps.proofs.frames.Frames.next.Goals as goal

pub read_frame-requires : goal.read_frame-requires
read_frame-requires g c = steps

pub step_of-requires : goal.step_of-requires
step_of-requires g c =
    let fits = rw c.in-Ok-Some.field-0-is at c.in-Ok-Some.ensures.fits in
    record { tenant = rw c.deref.ensures.value fits.0; body = rw c.deref-in-Ok-Some.ensures.value fits.1 }

pub returns-in-Ok-Some : goal.returns-in-Ok-Some
returns-in-Ok-Some g c =
    same_read wrong_at _ _ _ _ (c.step_of.ensures ∙ (λ i. framed c.in-Ok-Some.kind (c.deref.ensures.value i) (c.deref-in-Ok-Some.ensures.value i)))
    (rw c.in-Ok-Some.field-0-is at c.in-Ok-Some.ensures.reads)
