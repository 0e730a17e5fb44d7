-- Objects of a repository that are stored in turn, by their names.
use Rattle.std.proofs.Common.{◌≡◌, ℕ, List, [], ◌∷◌, ◌++◌, Option, Some, refl, sym, ap, ◌∙◌}
use Rattle.std.specs.Prelude.{unwrap_or}
use Rattle.std.specs.List.{flat_map}
use Rattle.std.proofs.lemmas.Grind.{flat_map-append}
use Rattle.git_model.specs.Content.{Content, no_content}
use Rattle.git_model.specs.Repository.{Object, object_named, with_object}
use Rattle.export_laws.specs.Order.{names_with, stored_with, with_named}

module _ (os : List Object) where
  pub named-both : (xs ys : List (List ℕ)) (held : List Object)
      → with_named os (xs ++ ys) held ≡ with_named os ys (with_named os xs held)
  named-both [] ys held = refl
  named-both (x ∷ xs) ys held = named-both xs ys (with_named os (x ∷ []) held)

  -- what is added under a name that an object has
  pub added-named : (id : List ℕ) (c : Content) (held : List Object) → object_named id os ≡ Some c
      → with_object id c held ≡ with_named os (id ∷ []) held
  added-named id c held is =
      ap (λ (found : Option Content). with_object id (unwrap_or found no_content) held) (sym is)

  -- one more object, and what comes with it
  pub stored-last : (objects : List Object) (o : Object)
      → stored_with os (objects ++ o ∷ []) ≡ with_named os (names_with os o) (stored_with os objects)
  stored-last objects o =
      ap (λ (ids : List (List ℕ)). with_named os ids []) (flat_map-append (names_with os) objects (o ∷ []))
      ∙ named-both (flat_map (names_with os) objects) (names_with os o ++ []) []
      ∙ named-both (names_with os o) [] (stored_with os objects)
