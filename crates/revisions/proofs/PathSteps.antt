-- What stands at a path, one component at a time.
use Rattle.std.proofs.Common.{◌≡◌, ℕ, List, [], ◌∷◌, Option, Some, refl}
use Rattle.std.specs.Prelude.{find}
use Rattle.std.specs.Option.{option_and_then}
use Rattle.std.specs.Str.{bytes_eq}
use Rattle.git_model.specs.Repository.{Object}
use Rattle.git_model.specs.Tree.{TreeEntry}
use Rattle.git_model.specs.StoredPath.{entries_below, entry_below}

pub below-here : (os : List Object) (path : List (List ℕ)) (e : TreeEntry) → path ≡ []
    → entry_below os path e ≡ Some e
unfolding entry_below
below-here os path e none = rw none refl

pub below-step : (os : List Object) (path rest : List (List ℕ)) (name : List ℕ) (e : TreeEntry)
    (o : Option TreeEntry) → path ≡ name ∷ rest
    → o ≡ find (λ inner. bytes_eq inner.name name) (entries_below os e.mode e.id)
    → entry_below os path e ≡ option_and_then (entry_below os rest) o
unfolding entry_below
below-step os path rest name e o is found = rw (is, found) refl
