use Rattle.std.proofs.Common.{◌%◌, ℕ, List, [], ◌∷◌, slice_index_or, refl, ap, ◌∙◌}
use Rattle.pack_text.proofs.EntriesLeft.{count_cut}
use Rattle.pack_text.proofs.pack.header.Goals as goal

pub returns : goal.returns
returns c =
    ap (λ (l : List ℕ). 80 ∷ 65 ∷ 67 ∷ 75 ∷ 0 ∷ 0 ∷ 0 ∷ 2 ∷ slice_index_or l 0 0
    ∷ slice_index_or l 1 0 ∷ slice_index_or l 2 0 ∷ slice_index_or l 3 0 ∷ [])
    (c.to_be_bytes.ensures ∙ count_cut c.args.count (c.args.count % 4294967296) refl)
