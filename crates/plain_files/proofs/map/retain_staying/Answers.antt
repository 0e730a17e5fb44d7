use Rattle.std.proofs.Common.{rules}
use Rattle.std.specs.Option.{option_copied}
use Rattle.std.proofs.lemmas.Map.Made.{filter_same_pairs}
use Rattle.file_maps.specs.Kept.{stays}
use Rattle.plain_files.proofs.map.retain_staying.Goals as goal

pub returns : goal.returns
returns c =
    filter_same_pairs _ (λ f. stays (option_copied c.args.from) c.args.to.now f.0) _
    (λ k v b w f' t. search rules) _ _ c.retain.ensures.filtered
