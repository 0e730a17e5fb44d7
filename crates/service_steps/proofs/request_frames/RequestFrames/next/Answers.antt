use Rattle.std.proofs.Common.{◌∙◌}
use Rattle.service_steps.specs.Requests.{request_framed, wrong_request_at}
use Rattle.service_steps.proofs.FrameParts.{same_read}
use Rattle.service_steps.proofs.RequestLemmas.{requests}
use Rattle.service_steps.proofs.request_frames.RequestFrames.next.Goals as goal

pub read_frame-requires : goal.read_frame-requires
read_frame-requires g c = requests

pub request_of-requires : goal.request_of-requires
request_of-requires g c =
    let fits = rw c.in-Ok-Some.field-0-is at c.in-Ok-Some.ensures.fits in
    record {
      name = rw c.deref.ensures.value fits.0;
      body = rw c.deref-in-Ok-Some.ensures.value fits.1;
      good = rw c.deref-in-Ok-Some.ensures.value fits.2;
    }

pub returns-in-Ok-Some : goal.returns-in-Ok-Some
returns-in-Ok-Some g c =
    let read = same_read wrong_request_at _ _ _ _ (c.request_of.ensures.framed ∙ (λ i. request_framed c.in-Ok-Some.kind (c.deref.ensures.value i) (c.deref-in-Ok-Some.ensures.value i)))
    (rw c.in-Ok-Some.field-0-is at c.in-Ok-Some.ensures.reads) in
    ((read.0, c.request_of.ensures.whole), read.1)
