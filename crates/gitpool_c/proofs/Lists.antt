-- A list of sizes with one more entry.
use Rattle.std.proofs.Common.{◌≡◌, ℕ, ◌+◌, ◌<◌, List, [], ◌∷◌, ◌++◌, length, take, map, get_or, sym, ap, ◌∙◌}
use Rattle.std.proofs.lemmas.List.{map-append, map_more}
use Rattle.tenant_service.specs.declared.sizes.TenantSizes.{TenantSizes}
use Rattle.tenant_service.specs.Sizes.{sizes_told}
use Rattle.gitpool_c.specs.declared.kept.ListedSizes.{ListedSizes}
use Rattle.gitpool_c.specs.Listing.{listed_told}

pub listed-more : (all : List TenantSizes) (now new : List ListedSizes) (one : ListedSizes) (i : ℕ) (d : TenantSizes)
    → map listed_told now ≡ map sizes_told (take i all)
    → i < length all → new ≡ now ++ one ∷ [] → listed_told one ≡ sizes_told (get_or all i d)
    → map listed_told new ≡ map sizes_told (take (i + 1) all)
listed-more all now new one i d before l pushed told_is =
    ap (map listed_told) pushed ∙ map-append listed_told now (one ∷ [])
    ∙ (λ j. before j ++ told_is j ∷ [])
    ∙ sym (map_more sizes_told all i d l)
