-- The lines of sizes, one more at a time.
use Rattle.std.proofs.Common.{◌≡◌, ℕ, ◌+◌, ◌<◌, List, [], ◌∷◌, ◌++◌, length, get_or, take, map, sym, ap, ◌∙◌, append_assoc, append-nil}
use Rattle.std.specs.List.{flat_map}
use Rattle.std.proofs.lemmas.Grind.{flat_map-append}
use Rattle.std.proofs.lemmas.List.{take_more, map-append}
use Rattle.tenant_service.specs.declared.sizes.TenantSizes.{TenantSizes}
use Rattle.tenant_service.specs.Sizes.{sizes_told}
use Rattle.gitpool.specs.Sizing.{line_of, numbers_text}

-- One line more.
pub more_lines : (all : List TenantSizes) (i : ℕ) (d : TenantSizes) (old before numbers : List ℕ) → i < length all
    → before ≡ old ++ flat_map line_of (map sizes_told (take i all)) → numbers ≡ numbers_text (sizes_told (get_or all i d))
    → (before ++ (get_or all i d).tenant.now) ++ numbers ≡ old ++ flat_map line_of (map sizes_told (take (i + 1) all))
more_lines all i d old before numbers there so_far says =
    let x : TenantSizes = get_or all i d in
    let front : List ℕ = flat_map line_of (map sizes_told (take i all)) in
    append_assoc before x.tenant.now numbers
    ∙ ap (λ (l : List ℕ). before ++ (x.tenant.now ++ l)) says
    ∙ ap (λ (l : List ℕ). l ++ line_of (sizes_told x)) so_far
    ∙ append_assoc old front (line_of (sizes_told x))
    ∙ ap (λ (l : List ℕ). old ++ l) (sym (
    ap (λ (l : List TenantSizes). flat_map line_of (map sizes_told l)) (take_more all i d there)
    ∙ ap (λ l. flat_map line_of l) (map-append sizes_told (take i all) (x ∷ []))
    ∙ flat_map-append line_of (map sizes_told (take i all)) (sizes_told x ∷ [])
    ∙ ap (λ (l : List ℕ). front ++ l) (append-nil (line_of (sizes_told x)))
    ))
