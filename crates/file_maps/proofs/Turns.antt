-- The last tree that is stored, and a table without objects.
use Rattle.std.proofs.Common.{◌≡◌, ℕ, List, [], ◌∷◌, ◌++◌, None, Result, Ok, Err, sym}
use Rattle.std.proofs.Common.{ap, ◌∙◌, subst}
use Rattle.std.proofs.lemmas.List.{append-nil}
use Rattle.git_model.specs.Tree.{TreeEntry}
use Rattle.content_pool.specs.Pool.{Cells}
use Rattle.tenant_tables.proofs.TableLemmas.{IsBackedBy-nil}
use Rattle.tenant_tables.specs.View.{View, Entries}
use Rattle.tenant_tables.specs.Objects.{objects}
use Rattle.file_maps.specs.declared.fault.Fault.{Fault}
use Rattle.file_maps.specs.Storing.{trees_fault, AddsTrees, StoresTrees}
use Rattle.tenant_tables.specs.IsBackedBy.{IsBackedBy}
use Rattle.file_maps.proofs.Stored.{adds-then, unrefused-then, some-then}

module _ (digest : List ℕ → List ℕ) (deep : ℕ) where
  -- the last tree, after all others
  pub stores-last : (answer : Result (List ℕ) Fault) (p q r : Cells) (u v w : View)
      (all a : List (List TreeEntry)) (es : List TreeEntry) (id : List ℕ)
      → AddsTrees digest p u q v a
      → trees_fault digest a (objects p u.entries) ≡ None → all ≡ a ++ es ∷ []
      → StoresTrees answer digest q v r w (es ∷ []) id → StoresTrees answer digest p u r w all id
  stores-last (Ok x) p q r u v w all a es id first none is h = (
    h.0,
    ap (λ (t : List (List TreeEntry)). trees_fault digest t (objects p u.entries)) is
        ∙ unrefused-then digest p q u v a (es ∷ []) first none h.1,
    subst (AddsTrees digest p u r w) (sym is) (adds-then digest p q r u v w a (es ∷ []) first h.2),
  )
  stores-last (Err e) p q r u v w all a es id first none is h =
      some-then digest p q r u v w all a (es ∷ []) [] e first none h
      (is ∙ ap (λ (t : List (List TreeEntry)). a ++ t) (sym (append-nil (es ∷ []))))

pub stands-none : (digest : List ℕ → List ℕ) (p : Cells) (es : Entries) → es ≡ []
    → IsBackedBy digest p es
stands-none digest p es none = subst (IsBackedBy digest p) (sym none) (IsBackedBy-nil digest p)
