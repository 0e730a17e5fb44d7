-- The kinds of steps, and what is known of their frames.
use Rattle.std.proofs.Common.{◌≡◌, ◌<◌, true, [], length, Option, Some, refl, ap, arith}
use Rattle.service_steps.specs.declared.kind.Kind.{Kind}
use Rattle.service_steps.specs.declared.kind.Kind.TheVariants as kind
use Rattle.service_steps.specs.Frames.{kind_of, kind_number, all_kinds, tenant_limit, body_limit, wrong_part, shown_wrong, wrong_at, IsUnfinished}
use Rattle.service_steps.specs.FrameKinds.{Judges, Kinds, rules_of}
use Rattle.service_steps.proofs.FrameParts.{none_begun, number_of}

own_kind : (k : Kind) → (kind_number k < 256) × (kind_of (kind_number k) ≡ Some k)
own_kind kind.Open = (omega arith, refl)
own_kind kind.Feed = (omega arith, refl)
own_kind kind.End = (omega arith, refl)
own_kind kind.Ask = (omega arith, refl)
own_kind kind.Restart = (omega arith, refl)

judges : (k : Kind) → Judges wrong_at (kind_number k) (tenant_limit k) (body_limit k) (λ _. true)
unfolding wrong_part
judges k = record {
  small = (own_kind k).0;
  is = λ tenant body. ap (λ (o : Option Kind). shown_wrong o (length tenant) (length body)) (own_kind k).1;
}

-- Before its first byte.
pub none_read : IsUnfinished []
unfolding wrong_part
none_read = none_begun wrong_at refl

pub steps : Kinds (rules_of wrong_at kind_of kind_number tenant_limit body_limit (λ _ _. true))
steps = record {
  judges = judges;
  numbered = number_of kind_number all_kinds;
  unknown = λ byte is. ap (λ (o : Option Kind). shown_wrong o 0 0) is;
  none = none_read;
}
