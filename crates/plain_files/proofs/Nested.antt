-- Trees within trees: one level of them.
use Rattle.std.proofs.Common.{◌≡◌, ℕ, zero, suc, ◌+◌, ◌-◌, ◌<◌, List, [], ◌∷◌, ◌++◌, map, length}
use Rattle.std.proofs.Common.{take, Option, Some, None, refl, sym, ap, ◌∙◌, arith, get_or, ◌≤◌}
use Rattle.std.proofs.lemmas.List.{map-append, take_more, take_all}
use Rattle.git_objects.specs.declared.tree_entry.TreeEntry as declared
use Rattle.git_objects.specs.Parts.{entry_of, entries_of}
use Rattle.git_model.specs.Tree.{TreeEntry}
use Rattle.plain_files.specs.declared.below.Group.{Group}
use Rattle.file_maps.specs.declared.entry.Entry.{Entry}
use Rattle.file_maps.specs.FileMap.{Listed}
use Rattle.file_maps.specs.Trees.{grouped, file_of, direct, tree_name, entries_within}
use Rattle.plain_files.specs.Below.{entry_by, by_kind, id_by, id_of, group_of, groups_of}
pub use Rattle.file_maps.specs.Below.{direct_of}

one_less : (n : ℕ) → suc n - 1 ≡ n
one_less n = omega arith

pub entries-step : (digest : List ℕ → List ℕ) (deep : ℕ) (files : Listed) → 0 < deep
    → entries_within digest deep files ≡ map (direct_of digest (deep - 1)) (grouped files)
unfolding entries_within
entries-step digest zero files h = absurd (omega arith)
entries-step digest (suc n) files h = rw (one_less n) refl

-- an entry with the name of its object
pub entry-direct : (digest : List ℕ → List ℕ) (deep : ℕ) (g : List ℕ × Listed)
    → entry_by g (id_of digest deep g) ≡ direct_of digest deep g
entry-direct digest deep g =
    by g.0 (file_of g.1) (tree_name digest (entries_within digest deep g.1))
  where
    by : (c : List ℕ) (o : Option Entry) (id : List ℕ) → by_kind c o (id_by o id) ≡ direct c o id
    by c (Some e) id = refl
    by c None id = refl

module _ (digest : List ℕ → List ℕ) (deep : ℕ) where
  -- one entry more
  pub entries_turn : (gs : List Group) (i : ℕ) (x : Group) (id : List ℕ) (e : declared.TreeEntry)
      (old new : List declared.TreeEntry)
      → i < length gs → x ≡ get_or gs i x
      → id ≡ id_of digest deep (group_of x) → entry_of e ≡ entry_by (group_of x) id
      → entries_of old ≡ map (direct_of digest deep) (groups_of (take i gs))
      → new ≡ old ++ e ∷ []
      → entries_of new ≡ map (direct_of digest deep) (groups_of (take (i + 1) gs))
  entries_turn gs i x id e old new lt at named entry sofar is =
      ap entries_of is ∙ map-append entry_of old (e ∷ [])
      ∙ ap (λ (l : List TreeEntry). l ++ entry_of e ∷ []) sofar
      ∙ ap (λ (t : TreeEntry). map (direct_of digest deep) (groups_of (take i gs)) ++ t ∷ [])
      (entry ∙ ap (entry_by (group_of x)) named ∙ entry-direct digest deep (group_of x))
      ∙ sym (map-append (direct_of digest deep) (groups_of (take i gs)) (group_of x ∷ []))
      ∙ ap (map (direct_of digest deep)) (sym (map-append group_of (take i gs) (x ∷ [])))
      ∙ ap (λ (l : List Group). map (direct_of digest deep) (groups_of l))
      (sym (take_more gs i x lt ∙ ap (λ (y : Group). take i gs ++ y ∷ []) (sym at)))

  -- all entries
  pub entries_end : (gs : List Group) (i : ℕ) (es : List declared.TreeEntry) (files : Listed)
      → length gs ≤ i → entries_of es ≡ map (direct_of digest deep) (groups_of (take i gs))
      → groups_of gs ≡ grouped files → entries_of es ≡ map (direct_of digest deep) (grouped files)
  entries_end gs i es files all sofar are =
      sofar ∙ ap (λ (l : List Group). map (direct_of digest deep) (groups_of l)) (take_all i gs all)
      ∙ ap (map (direct_of digest deep)) are
