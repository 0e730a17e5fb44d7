-- The entries of groups can be written as a tree.
use Rattle.std.proofs.Common.{◌≡◌, ◌≢◌, ℕ, ◌+◌, false, List, [], ◌∷◌, ◌++◌, map, get_or, refl, sym}
use Rattle.std.proofs.Common.{ap, ◌∙◌, subst, arith}
use Rattle.std.specs.Prelude.{AllPairs, IsSorted}
use Rattle.std.specs.List.{AllByRecursion}
use Rattle.std.specs.Ordering.{nat_cmp, is_lt, ordering_reverse}
use Rattle.std.specs.Cmp.Lexicographic.{slice_cmp, nat_list_cmp_total}
use Rattle.std.proofs.lemmas.List.Kept.{AllPairs-cons}
use Rattle.std.proofs.lemmas.List.Elements.{All-from_recursion}
use Rattle.git_model.specs.declared.file_mode.FileMode.{FileMode}
use Rattle.git_model.specs.declared.file_mode.FileMode.TheVariants as mode
use Rattle.git_model.specs.ObjectName.{IsObjectName}
use Rattle.git_model.specs.Tree.{TreeEntry, CanWriteEntry, CanWriteTree, order_key, slash_of}
use Rattle.git_model.specs.Tree.{IsEntryName, tree_cmp}
use Rattle.git_paths.specs.Paths.{IsComponent}
use Rattle.file_maps.specs.FileMap.{Listed}
use Rattle.file_maps.specs.Trees.{Groups}
use Rattle.file_maps.proofs.Nested.{direct_of}
use Rattle.file_maps.proofs.Rising.{Bytes, below, group_key, Rises, GroupsRise}
use Rattle.file_maps.proofs.Fits.{IsGroup}

slash_none : (m : FileMode) → m ≢ mode.Directory → slash_of m ≡ []
slash_none mode.Regular ne = refl
slash_none mode.Executable ne = refl
slash_none mode.Symlink ne = refl
slash_none mode.Gitlink ne = refl
slash_none mode.Directory ne = absurd (ne refl)

pub no_pairs : {X : Type 0} (R : X → X → Type 0) → AllPairs R []
no_pairs R i j d lt within = absurd (omega arith)

module _ (digest : List ℕ → List ℕ) (deep bound : ℕ) where
  name_is : (g : Bytes × Listed) → IsGroup bound g → (direct_of digest deep g).name ≡ g.0
  name_is (c, []) h = absurd h
  name_is (c, (([], e) ∷ fs)) h = refl
  name_is (c, (((d ∷ q), e) ∷ fs)) h = refl

  key_is : (g : Bytes × Listed) → IsGroup bound g
      → order_key (direct_of digest deep g) ≡ group_key g
  key_is (c, []) h = absurd h
  key_is (c, (([], e) ∷ fs)) h = ap (λ (s : Bytes). c ++ s) (slash_none e.mode h.mode)
  key_is (c, (((d ∷ q), e) ∷ fs)) h = refl

  component_is : (g : Bytes × Listed) → IsGroup bound g → IsComponent g.0
  component_is (c, []) h = absurd h
  component_is (c, (([], e) ∷ fs)) h = h.component
  component_is (c, (((d ∷ q), e) ∷ fs)) h = h.component

  can_write : (gs : Groups) → AllByRecursion (IsGroup bound) gs
      → AllByRecursion (λ e. IsObjectName e.id) (map (direct_of digest deep) gs)
      → AllByRecursion CanWriteEntry (map (direct_of digest deep) gs)
  can_write [] h n = tt
  can_write (g ∷ gs) h n =
      (record { name = subst IsEntryName (sym (name_is g h.0)) (component_is g h.0); id = n.0 }, can_write gs h.1 n.1)

  -- what holds of each two groups holds of their entries
  abbrev KeysRise : TreeEntry → TreeEntry → Type 0
  KeysRise a b = below (order_key a) (order_key b)

  abbrev pub NamesDiffer : TreeEntry → TreeEntry → Type 0
  NamesDiffer a b = a.name ≢ b.name

  rise_over : (g : Bytes × Listed) (gs : Groups) → IsGroup bound g
      → AllByRecursion (IsGroup bound) gs → AllByRecursion (Rises g) gs
      → AllByRecursion (KeysRise (direct_of digest deep g)) (map (direct_of digest deep) gs)
  rise_over g [] h k r = tt
  rise_over g (x ∷ gs) h k r = (
    subst (λ (a : Bytes). below a (order_key (direct_of digest deep x))) (sym (key_is g h))
        (subst (λ (b : Bytes). below (group_key g) b) (sym (key_is x k.0)) r.0.0),
    rise_over g gs h k.1 r.1,
  )

  differ_over : (g : Bytes × Listed) (gs : Groups) → IsGroup bound g
      → AllByRecursion (IsGroup bound) gs → AllByRecursion (Rises g) gs
      → AllByRecursion (NamesDiffer (direct_of digest deep g)) (map (direct_of digest deep) gs)
  differ_over g [] h k r = tt
  differ_over g (x ∷ gs) h k r =
      ((λ same. r.0.1 (sym (name_is g h) ∙ same ∙ name_is x k.0)), differ_over g gs h k.1 r.1)

  keys_rise : (gs : Groups) → AllByRecursion (IsGroup bound) gs → GroupsRise gs
      → AllPairs KeysRise (map (direct_of digest deep) gs)
  keys_rise [] h r = no_pairs KeysRise
  keys_rise (g ∷ gs) h r =
      AllPairs-cons KeysRise (direct_of digest deep g) (map (direct_of digest deep) gs)
      (All-from_recursion (KeysRise (direct_of digest deep g)) (map (direct_of digest deep) gs) (rise_over g gs h.0 h.1 r.0)) (keys_rise gs h.1 r.1)

  pub names_differ : (gs : Groups) → AllByRecursion (IsGroup bound) gs → GroupsRise gs
      → AllPairs NamesDiffer (map (direct_of digest deep) gs)
  names_differ [] h r = no_pairs NamesDiffer
  names_differ (g ∷ gs) h r =
      AllPairs-cons NamesDiffer (direct_of digest deep g) (map (direct_of digest deep) gs)
      (All-from_recursion (NamesDiffer (direct_of digest deep g)) (map (direct_of digest deep) gs) (differ_over g gs h.0 h.1 r.0)) (names_differ gs h.1 r.1)

  not_before : (a b : Bytes) → below a b → is_lt (slice_cmp nat_cmp b a) ≡ false
  not_before a b h = ap is_lt (nat_list_cmp_total.antisymm b a ∙ ap ordering_reverse h)

  pub tree_order : (gs : Groups) → AllByRecursion (IsGroup bound) gs → GroupsRise gs
      → IsSorted tree_cmp (map (direct_of digest deep) gs)
  tree_order gs h r k d low high =
      not_before (order_key (get_or (map (direct_of digest deep) gs) k d))
      (order_key (get_or (map (direct_of digest deep) gs) (k + 1) d))
      (keys_rise gs h r k (k + 1) d (omega arith) high)

  pub can_write_tree : (gs : Groups) → AllByRecursion (IsGroup bound) gs → GroupsRise gs
      → AllByRecursion (λ e. IsObjectName e.id) (map (direct_of digest deep) gs)
      → CanWriteTree (map (direct_of digest deep) gs)
  can_write_tree gs h r n = record {
    entries = All-from_recursion CanWriteEntry (map (direct_of digest deep) gs) (can_write gs h n);
    names_are_distinct = names_differ gs h r;
    in_order = tree_order gs h r;
  }
