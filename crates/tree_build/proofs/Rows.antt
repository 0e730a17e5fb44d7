-- Entries whose directories are stored make a tree that lists their files.
use Rattle.std.proofs.Common.{◌≡◌, ℕ, List, [], ◌∷◌, map, Option, None, refl, sym, ap, ◌∙◌, arith}
use Rattle.git_model.specs.Repository.{Object}
use Rattle.git_model.specs.Tree.{TreeEntry}
use Rattle.file_maps.specs.declared.entry.Entry.{Entry}
use Rattle.file_maps.specs.FileMap.{Listed}
use Rattle.file_maps.specs.Trees.{Groups, file_of, direct, depth_of, tree_name, tree_id}
use Rattle.file_maps.specs.PlainTrees.{HasSummary, ListsPlain}
use Rattle.file_maps.specs.StoredTree.{Lists, nothing, first_file, first_directory}
use Rattle.file_maps.specs.StoredAgain.{AreTreesGood}
use Rattle.file_maps.proofs.Listing.{tree-sound}
use Rattle.file_maps.proofs.TreeOf.{entry_of}
use Rattle.file_maps.proofs.StoredAgain.{entries-again}
use Rattle.tree_build.specs.Parts.{spread}
use Rattle.tree_build.specs.Rows.{IsPart, a_file, a_directory, HaveParts}

-- what entries list is their parts in a row
pub lists-parts : (os : List Object) (es : List TreeEntry) (parts : Groups) → HaveParts os es parts
    → Lists os es (spread parts)
lists-parts os [] [] h = nothing
lists-parts os [] (g ∷ parts) h = absurd h
lists-parts os (e ∷ es) [] h = absurd h
lists-parts os (e ∷ es) (g ∷ parts) h = one h.0 (lists-parts os es parts h.1)
  where
    one : {x : TreeEntry} {p : List ℕ × Listed} → IsPart os x p → Lists os es (spread parts)
        → Lists os (x ∷ es) (spread (p ∷ parts))
    one (a_file x ne) l = first_file x es (spread parts) ne l
    one (a_directory x files is t some) l =
        first_directory x es t.tree.direct files (spread parts) is t.tree.tree t.tree.lists l

pub no_file : (os : List Object) (id : List ℕ) (fs : Listed) → ListsPlain os id fs
    → file_of fs ≡ None
no_file os id [] t = refl
no_file os id (([], x) ∷ fs) t = absurd ((tree-sound os id (([], x) ∷ fs) t.tree).0.below_the_root refl)
no_file os id (((c ∷ q), x) ∷ fs) t = refl

module _ (digest : List ℕ → List ℕ) (os : List Object) (good : AreTreesGood digest os (HasSummary os)) where
  -- the name of a stored tree is that of its files
  pub id-again : (id : List ℕ) (fs : Listed) → ListsPlain os id fs → tree_id digest fs ≡ id
  id-again id fs t =
      ap (tree_name digest) (entries-again digest os (HasSummary os) good id fs t.tree t.plain (depth_of fs) (omega arith))
      ∙ sym (good.named id t.tree.direct t.tree.tree)

  entry-again : {e : TreeEntry} {g : List ℕ × Listed} → IsPart os e g → entry_of digest g ≡ e
  entry-again (a_file e ne) = refl
  entry-again (a_directory e fs is t some) =
      ap (λ (o : Option Entry). direct e.name o (tree_id digest fs)) (no_file os e.id fs t)
      ∙ (let name = id-again e.id fs t in let back = sym is in
      λ i. record { mode = back i; name = e.name; id = name i })

  -- the direct entries of their files are these entries
  pub rows-again : (es : List TreeEntry) (parts : Groups) → HaveParts os es parts
      → map (entry_of digest) parts ≡ es
  rows-again [] [] h = refl
  rows-again [] (g ∷ parts) h = absurd h
  rows-again (e ∷ es) [] h = absurd h
  rows-again (e ∷ es) (g ∷ parts) h =
      let one = entry-again h.0 in let rest = rows-again es parts h.1 in λ i. one i ∷ rest i
