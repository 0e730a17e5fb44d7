-- A table that grows leaves what a branch holds what it was.
use Rattle.std.proofs.Common.{◌≡◌, ℕ, List, [], ◌∷◌, ◌++◌, Some, None, Result, Ok, Err, refl, sym, ap, ◌∙◌, subst}
use Rattle.git_model.specs.Repository.{Object}
use Rattle.git_model.specs.Tree.{TreeEntry}
use Rattle.content_pool.specs.Pool.{Cells}
use Rattle.tenant_tables.specs.View.{View}
use Rattle.tenant_tables.specs.Objects.{objects}
use Rattle.file_maps.specs.FileMap.{Listed}
use Rattle.file_maps.specs.Edits.{moved}
use Rattle.file_maps.specs.PlainTrees.{ListsPlain}
use Rattle.file_maps.specs.StoredFiles.{stored_files}
use Rattle.file_maps.specs.Storing.{AddsTrees, StoresTrees}
use Rattle.file_maps.specs.declared.fault.Fault.{Fault}
use Rattle.file_maps.proofs.KnownTrees.{plain-kept, plain-stored}
use Rattle.tree_build.specs.Shape.{What, file, unopened, opened, Shape, none, row, Held, what_files, shape_files, held_files}
use Rattle.tree_build.specs.Branch.{IsWhat, IsShape, IsHeld}
use Rattle.tree_build.specs.Stores.{parts_of}

-- stored trees stay, with their files
pub record Grows (os after : List Object) : Type 0 where
  pub stays : (id : List ℕ) (fs : Listed) → ListsPlain os id fs → ListsPlain after id fs
  pub known : (id : List ℕ) → ListsPlain os id (stored_files os id) → stored_files after id ≡ stored_files os id

module _ (os after : List Object) (grows : Grows os after) where
  what-later : (w : What) (inside new : Listed) → IsWhat os w inside → new ≡ inside
      → what_files (stored_files after) w new ≡ what_files (stored_files os) w inside
  what-later (file e) inside new h same = refl
  what-later (unopened id) inside new h same = grows.known id h
  what-later (opened tree) inside new h same = same

  sound-later : (w : What) (inside new : Listed) → IsWhat os w inside → new ≡ inside
      → IsWhat after w new
  sound-later (file e) inside new h same = h
  sound-later (unopened id) inside new h same =
      subst (ListsPlain after id) (sym (grows.known id h))
      (grows.stays id (stored_files os id) h)
  sound-later (opened None) inside new h same = tt
  sound-later (opened (Some id)) inside new h same =
      subst (ListsPlain after id) (sym same) (grows.stays id inside h)

  pub files-later : (s : Shape) → IsShape os s
      → shape_files (stored_files after) s ≡ shape_files (stored_files os) s
  files-later none h = refl
  files-later (row c w inside rest) h =
      ap (λ (l : Listed). moved (c ∷ []) l ++ shape_files (stored_files after) rest)
      (what-later w _ _ h.0.sound (files-later inside h.2))
      ∙ ap (λ (l : Listed). moved (c ∷ []) (what_files (stored_files os) w (shape_files (stored_files os) inside)) ++ l)
      (files-later rest h.3)

  pub parts-later : (s : Shape) → IsShape os s
      → parts_of (stored_files after) s ≡ parts_of (stored_files os) s
  parts-later none h = refl
  parts-later (row c w inside rest) h =
      let one = what-later w _ _ h.0.sound (files-later inside h.2) in
      let more = parts-later rest h.3 in λ i. (c, one i) ∷ more i

  pub shape-later : (s : Shape) → IsShape os s → IsShape after s
  shape-later none h = tt
  shape-later (row c w inside rest) h =
      let same = files-later inside h.2 in (
        record {
          name = h.0.name;
          sound = sound-later w _ _ h.0.sound same;
          some = λ no. h.0.some (sym (what-later w _ _ h.0.sound same) ∙ no);
        },
        h.1,
        shape-later inside h.2,
        shape-later rest h.3,
      )

  pub held-later : (h : Held) → IsHeld os h
      → (held_files (stored_files after) h ≡ held_files (stored_files os) h) × IsHeld after h
  held-later h is =
      let same = files-later h.inside is.1 in
      (what-later h.what _ _ is.0 same, (sound-later h.what _ _ is.0 same, shape-later h.inside is.1))

pub adds-grow : (digest : List ℕ → List ℕ) (p q : Cells) (u v : View)
    (trees : List (List TreeEntry)) → AddsTrees digest p u q v trees
    → Grows (objects p u.entries) (objects q v.entries)
adds-grow digest p q u v trees adds =
    let stays : (id : List ℕ) (fs : Listed) → ListsPlain (objects p u.entries) id fs
    → ListsPlain (objects q v.entries) id fs =
    λ id fs t. subst (λ (os : List Object). ListsPlain os id fs) (sym adds.objects)
    (plain-kept digest trees (objects p u.entries) id fs t) in record {
      stays = stays;
      known = λ id t.
          plain-stored (objects q v.entries) id (stored_files (objects p u.entries) id)
          (stays id (stored_files (objects p u.entries) id) t);
    }

-- whatever storing trees answered
pub stores-grow : (digest : List ℕ → List ℕ) {A : Type 0} (answer : Result A Fault) (p q : Cells) (u v : View)
    (all : List (List TreeEntry)) (id : A) → StoresTrees answer digest p u q v all id
    → Grows (objects p u.entries) (objects q v.entries)
stores-grow digest (Ok x) p q u v all id h = adds-grow digest p q u v all h.2
stores-grow digest (Err e) p q u v all id h = adds-grow digest p q u v h.done h.adds
