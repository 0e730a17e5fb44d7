use Rattle.std.proofs.Common.{◌≡◌, Option, None, Some, is_some, [], ◌∷◌, refl, sym, ◌∙◌, ap}
use Rattle.std.specs.Option.{option_map}
use Rattle.revisions.proofs.Parting.{holds_parted}
use Rattle.revisions.proofs.expression_reading.holds_reflog.Goals as goal

is_some-map : {X Y : Type 0} (f : X → Y) (o : Option X) → is_some o ≡ is_some (option_map f o)
is_some-map f None = refl
is_some-map f (Some x) = refl

pub returns : goal.returns
returns c =
    c.is_some.ensures ∙ is_some-map _ c.split_at_part.result ∙ ap is_some c.split_at_part.ensures
    ∙ sym (holds_parted 64 (123 ∷ []) c.args.text.now)
