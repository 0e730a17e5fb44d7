use Rattle.std.proofs.Common.{List, ap, ◌∙◌}
use Rattle.store_format.proofs.TargetMaps.{Lent, listed, made, made-nil}
use Rattle.store_format.proofs.targets.Targets.new.Goals as goal

pub returns : goal.returns
returns c = ap (λ (es : List Lent). made (listed es)) c.new.ensures.empty ∙ made-nil
