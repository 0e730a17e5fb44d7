use Rattle.std.proofs.Common.{rules}
use Rattle.std.proofs.lemmas.Map.Made.{filter_same_pairs}
use Rattle.file_maps.specs.Edits.{is_outside}
use Rattle.plain_files.proofs.map.drop_below.Goals as goal

pub returns : goal.returns
returns c =
    filter_same_pairs _ (λ f. is_outside c.args.top.now f.0) _
    (λ k v b w f' t. search rules) _ _ c.retain.ensures.filtered
