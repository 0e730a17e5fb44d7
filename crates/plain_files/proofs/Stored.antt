-- The trees of groups.
use Rattle.std.proofs.Common.{◌≡◌, ℕ, zero, suc, ◌+◌, ◌-◌, ◌<◌, ◌≤◌, List, [], ◌∷◌, ◌++◌}
use Rattle.std.proofs.Common.{length, map, take, drop, get_or, refl, sym, ap, ◌∙◌, arith}
use Rattle.std.specs.List.{AllByRecursion, flat_map}
use Rattle.std.proofs.lemmas.List.{append-nil, map-append, take-append-drop, take_more}
use Rattle.std.proofs.lemmas.Grind.{flat_map-append}
use Rattle.git_model.specs.Tree.{TreeEntry}
use Rattle.plain_files.specs.declared.below.Group.{Group}
use Rattle.file_maps.specs.FileMap.{Listed, IsFile}
use Rattle.file_maps.specs.Trees.{grouped, entries_within, trees_within, depth_of}
use Rattle.plain_files.specs.Below.{groups_of, group_of}
use Rattle.file_maps.specs.Below.{group_trees}
use Rattle.file_maps.proofs.Nested.{direct_of, entries-nil}
use Rattle.plain_files.proofs.Nested.{entries-step}

module _ (digest : List ℕ → List ℕ) where
  abbrev pub trees_of : ℕ → List Group → List (List TreeEntry)
  trees_of deep gs = flat_map (group_trees digest deep) (groups_of gs)

  pub one_more : (deep : ℕ) (gs : List Group) (i : ℕ) (x : Group) → i < length gs
      → x ≡ get_or gs i x
      → trees_of deep (take (i + 1) gs) ≡ trees_of deep (take i gs) ++ group_trees digest deep (group_of x)
  one_more deep gs i x lt at =
      ap (trees_of deep) (take_more gs i x lt ∙ ap (λ (y : Group). take i gs ++ y ∷ []) (sym at))
      ∙ ap (flat_map (group_trees digest deep)) (map-append group_of (take i gs) (x ∷ []))
      ∙ flat_map-append (group_trees digest deep) (groups_of (take i gs)) (group_of x ∷ [])
      ∙ ap (λ (t : List (List TreeEntry)). trees_of deep (take i gs) ++ t)
      (append-nil (group_trees digest deep (group_of x)))

  pub parted : (deep : ℕ) (gs : List Group) (i : ℕ)
      → trees_of deep gs ≡ trees_of deep (take i gs) ++ trees_of deep (drop i gs)
  parted deep gs i =
      ap (trees_of deep) (sym (take-append-drop i gs))
      ∙ ap (flat_map (group_trees digest deep)) (map-append group_of (take i gs) (drop i gs))
      ∙ flat_map-append (group_trees digest deep) (groups_of (take i gs)) (groups_of (drop i gs))

  nowhere : (fs : Listed) → AllByRecursion IsFile fs → depth_of fs ≤ 0 → fs ≡ []
  nowhere [] each h = refl
  nowhere (([], e) ∷ fs) each h = absurd (each.0.below_the_root refl)
  nowhere (((c ∷ q), e) ∷ fs) each h = absurd (omega arith)

  pub entries-any : (deep : ℕ) (fs : Listed) → AllByRecursion IsFile fs → depth_of fs ≤ deep
      → entries_within digest deep fs ≡ map (direct_of digest (deep - 1)) (grouped fs)
  entries-any zero fs each h =
      entries-nil digest 0 fs refl
      ∙ ap (λ (l : Listed). map (direct_of digest (0 - 1)) (grouped l)) (sym (nowhere fs each h))
  entries-any (suc n) fs each h = entries-step digest (suc n) fs (omega arith)

  one_less : (n : ℕ) → suc n - 1 ≡ n
  one_less n = omega arith

  pub trees-any : (deep : ℕ) (fs : Listed) (gs : List Group) → AllByRecursion IsFile fs
      → depth_of fs ≤ deep → groups_of gs ≡ grouped fs
      → trees_within digest deep fs ≡ trees_of (deep - 1) gs ++ entries_within digest deep fs ∷ []
  unfolding trees_within
  trees-any zero fs gs each h are =
      ap (λ (es : List TreeEntry). es ∷ []) (sym (entries-nil digest 0 fs refl))
      ∙ ap
      (λ (g : List (List ℕ × Listed)). flat_map (group_trees digest (0 - 1)) g ++ entries_within digest 0 fs ∷ [])
      (sym (are ∙ ap grouped (nowhere fs each h)))
  trees-any (suc n) fs gs each h are =
      rw (one_less n) (ap (λ (g : List (List ℕ × Listed)). flat_map (group_trees digest n) g ++ entries_within digest (suc n) fs ∷ []) (sym are))

-- where there is a group there is a component
pub deep_some : (fs : Listed) (n deep : ℕ) → AllByRecursion IsFile fs → depth_of fs ≤ deep
    → n < length (grouped fs) → 0 < deep
deep_some [] n deep each h some = absurd (omega arith)
deep_some (([], e) ∷ fs) n deep each h some = absurd (each.0.below_the_root refl)
deep_some (((c ∷ q), e) ∷ fs) n deep each h some = omega arith
