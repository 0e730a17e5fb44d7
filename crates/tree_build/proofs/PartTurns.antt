-- The trees of parts, stored one after another.
use Rattle.std.proofs.Common.{◌≡◌, ℕ, ◌+◌, ◌<◌, ◌≤◌, List, [], ◌∷◌, ◌++◌, length, take, drop, get_or, None, sym, ap, ◌∙◌, subst, append_assoc}
use Rattle.std.specs.List.{flat_map}
use Rattle.std.proofs.lemmas.Grind.{flat_map-append}
use Rattle.std.proofs.lemmas.List.{append-nil, take-append-drop, take_more, take_all}
use Rattle.git_model.specs.Tree.{TreeEntry}
use Rattle.content_pool.specs.Pool.{Cells}
use Rattle.tenant_tables.specs.View.{View}
use Rattle.tenant_tables.specs.Objects.{objects}
use Rattle.file_maps.specs.declared.fault.Fault.{Fault}
use Rattle.file_maps.specs.FileMap.{Listed}
use Rattle.file_maps.specs.Trees.{Groups}
use Rattle.file_maps.specs.Storing.{AddsTrees, AddsSome, trees_fault}
use Rattle.file_maps.proofs.Stored.{adds-then, unrefused-then, some-then}
use Rattle.tree_build.proofs.Spread.{own_trees}

module _ (digest : List ℕ → List ℕ) where
  abbrev pub trees_of : Groups → List (List TreeEntry)
  trees_of parts = flat_map (own_trees digest) parts

  abbrev pub part : Groups → ℕ → List ℕ × Listed
  part parts i = get_or parts i ([], [])

  one_more : (parts : Groups) (i : ℕ) → i < length parts
      → trees_of (take (i + 1) parts) ≡ trees_of (take i parts) ++ own_trees digest (part parts i)
  one_more parts i lt =
      ap trees_of (take_more parts i ([], []) lt)
      ∙ flat_map-append (own_trees digest) (take i parts) (part parts i ∷ [])
      ∙ ap (λ (t : List (List TreeEntry)). trees_of (take i parts) ++ t) (append-nil (own_trees digest (part parts i)))

  pub parted : (parts : Groups) (i : ℕ) → trees_of parts ≡ trees_of (take i parts) ++ trees_of (drop i parts)
  parted parts i =
      ap trees_of (sym (take-append-drop i parts))
      ∙ flat_map-append (own_trees digest) (take i parts) (drop i parts)

  module _ (p q r : Cells) (u v w : View) (parts : Groups) (i : ℕ) (lt : i < length parts) where
    pub adds_turn : AddsTrees digest p u q v (trees_of (take i parts))
        → AddsTrees digest q v r w (own_trees digest (part parts i))
        → AddsTrees digest p u r w (trees_of (take (i + 1) parts))
    adds_turn first second =
        subst (AddsTrees digest p u r w) (sym (one_more parts i lt))
        (adds-then digest p q r u v w _ _ first second)

    pub unrefused_turn : AddsTrees digest p u q v (trees_of (take i parts))
        → trees_fault digest (trees_of (take i parts)) (objects p u.entries) ≡ None
        → trees_fault digest (own_trees digest (part parts i)) (objects q v.entries) ≡ None
        → trees_fault digest (trees_of (take (i + 1) parts)) (objects p u.entries) ≡ None
    unrefused_turn first none more =
        ap (λ (t : List (List TreeEntry)). trees_fault digest t (objects p u.entries)) (one_more parts i lt)
        ∙ unrefused-then digest p q u v _ _ first none more

    split : (all last : List (List TreeEntry)) → all ≡ trees_of parts ++ last
        → all ≡ trees_of (take (i + 1) parts) ++ (trees_of (drop (i + 1) parts) ++ last)
    split all last is =
        is ∙ ap (λ (t : List (List TreeEntry)). t ++ last) (parted parts (i + 1))
        ∙ append_assoc (trees_of (take (i + 1) parts)) (trees_of (drop (i + 1) parts)) last

    -- a refusal at this part
    pub refused_turn : (all last : List (List TreeEntry)) (e : Fault) → all ≡ trees_of parts ++ last
        → AddsTrees digest p u q v (trees_of (take i parts))
        → trees_fault digest (trees_of (take i parts)) (objects p u.entries) ≡ None
        → AddsSome digest q v r w (own_trees digest (part parts i)) e → AddsSome digest p u r w all e
    refused_turn all last e is first none second =
        some-then digest p q r u v w all (trees_of (take i parts)) (own_trees digest (part parts i))
        (trees_of (drop (i + 1) parts) ++ last) e first none second
        (split all last is
        ∙ ap (λ (t : List (List TreeEntry)). t ++ (trees_of (drop (i + 1) parts) ++ last)) (one_more parts i lt)
        ∙ append_assoc (trees_of (take i parts)) (own_trees digest (part parts i)) (trees_of (drop (i + 1) parts) ++ last))

  -- at the end all parts are stored
  pub all_parts : (parts : Groups) (i : ℕ) → length parts ≤ i → trees_of (take i parts) ≡ trees_of parts
  all_parts parts i done = ap trees_of (take_all i parts done)
