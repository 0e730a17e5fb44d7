-- The kinds of requests, and what is known of their frames.
use Rattle.std.proofs.Common.{◌≡◌, ◌<◌, [], length, Option, Some, refl, ap, arith}
use Rattle.service_steps.specs.declared.kind.Kind.TheVariants as kind
use Rattle.service_steps.specs.declared.request_kind.RequestKind.{RequestKind}
use Rattle.service_steps.specs.declared.request_kind.RequestKind.TheVariants as of
use Rattle.service_steps.specs.Requests.{request_kind_of, request_number, all_request_kinds, name_limit, request_limit, is_body, wrong_request_part, shown_wrong_request, wrong_request_at, IsUnfinishedRequest}
use Rattle.service_steps.specs.FrameKinds.{Judges, Kinds, rules_of}
use Rattle.service_steps.proofs.FrameParts.{none_begun, number_of}

own_kind : (k : RequestKind) → (request_number k < 256) × (request_kind_of (request_number k) ≡ Some k)
own_kind (of.Step kind.Open) = (omega arith, refl)
own_kind (of.Step kind.Feed) = (omega arith, refl)
own_kind (of.Step kind.End) = (omega arith, refl)
own_kind (of.Step kind.Ask) = (omega arith, refl)
own_kind (of.Step kind.Restart) = (omega arith, refl)
own_kind of.Save = (omega arith, refl)
own_kind of.Abandon = (omega arith, refl)
own_kind of.Remove = (omega arith, refl)
own_kind of.Compact = (omega arith, refl)
own_kind of.Copy = (omega arith, refl)
own_kind of.Sizes = (omega arith, refl)
own_kind of.Missing = (omega arith, refl)
own_kind of.Entries = (omega arith, refl)

judges : (k : RequestKind) → Judges wrong_request_at (request_number k) (name_limit k) (request_limit k) (is_body k)
unfolding wrong_request_part
judges k = record {
  small = (own_kind k).0;
  is = λ tenant body. ap (λ (o : Option RequestKind). shown_wrong_request o (length tenant) body) (own_kind k).1;
}

-- Before its first byte.
pub no_request_read : IsUnfinishedRequest []
unfolding wrong_request_part
no_request_read = none_begun wrong_request_at refl

pub requests : Kinds (rules_of wrong_request_at request_kind_of request_number name_limit request_limit is_body)
requests = record {
  judges = judges;
  numbered = number_of request_number all_request_kinds;
  unknown = λ byte is. ap (λ (o : Option RequestKind). shown_wrong_request o 0 []) is;
  none = no_request_read;
}
