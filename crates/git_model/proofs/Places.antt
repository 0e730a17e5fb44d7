-- An object by its name stands at its place.
use Rattle.std.proofs.Common.{◌≡◌, ℕ, suc, ◌<◌, true, false, List, [], ◌∷◌, length, refl, sym, ap, ◌∙◌, None, Some, All, inl, inr, arith}
use Rattle.std.specs.List.{AllByRecursion}
use Rattle.std.specs.Str.{bytes_eq}
use Rattle.std.proofs.lemmas.Bool.{cases_Bool}
use Rattle.std.proofs.lemmas.Slice.Eq.{bytes_eq-Decides}
use Rattle.std.proofs.lemmas.List.Elements.{All-head, All-tail}
use Rattle.git_model.specs.declared.file_mode.FileMode.{FileMode}
use Rattle.git_model.specs.declared.file_mode.FileMode.TheVariants as mode
use Rattle.git_model.specs.declared.kind.Kind.TheVariants as kind
use Rattle.git_model.specs.Tree.{TreeEntry}
use Rattle.git_model.specs.Content.{Content}
use Rattle.git_model.specs.Repository.{Object, object_named}
use Rattle.git_model.specs.References.{Reference, reference, tree_references, place_of, object_at}

-- What is known of a name that is there.
pub record StandsAt (os : List Object) (id : List ℕ) (c : Content) : Type 0 where
  pub within : place_of id os < length os
  pub object : object_at (place_of id os) os ≡ record { id = id; content = c }

pub first_place : (id : List ℕ) (o : Object) (os : List Object) → bytes_eq id o.id ≡ true
    → place_of id (o ∷ os) ≡ 0
unfolding place_of
first_place id o os e = rw e refl

pub later_place : (id : List ℕ) (o : Object) (os : List Object) → bytes_eq id o.id ≡ false
    → place_of id (o ∷ os) ≡ suc (place_of id os)
unfolding place_of
later_place id o os e = rw e (omega arith)

pub first_object : (o : Object) (os : List Object) → object_at 0 (o ∷ os) ≡ o
unfolding object_at
first_object o os = refl

pub later_object : (n : ℕ) (o : Object) (os : List Object)
    → object_at (suc n) (o ∷ os) ≡ object_at n os
unfolding object_at
later_object n o os = refl

pub first_named : (id : List ℕ) (o : Object) (os : List Object) → bytes_eq id o.id ≡ true
    → object_named id (o ∷ os) ≡ Some o.content
unfolding object_named
first_named id o os e = rw e refl

pub later_named : (id : List ℕ) (o : Object) (os : List Object) → bytes_eq id o.id ≡ false
    → object_named id (o ∷ os) ≡ object_named id os
unfolding object_named
later_named id o os e = rw e refl

pub nothing_named : (id : List ℕ) → object_named id [] ≡ None
unfolding object_named
nothing_named id = refl

pub stands_at : (id : List ℕ) (os : List Object) (c : Content) → object_named id os ≡ Some c
    → StandsAt os id c
stands_at id [] c e = let none = nothing_named id in cc
stands_at id (o ∷ os) c e = elim (cases_Bool (bytes_eq id o.id)) [
  | inl yea ↦
      let place = first_place id o os yea in
      let same : id ≡ o.id = (bytes_eq-Decides id o.id).0 yea in
      let content : o.content ≡ c = let f = first_named id o os yea in cc in
      record {
        within = omega (arith, place);
        object = ap (λ (n : ℕ). object_at n (o ∷ os)) place ∙ first_object o os
            ∙ (let back = sym same in λ i. record { id = back i; content = content i });
      }
  | inr nay ↦
      let place = later_place id o os nay in
      let rest = stands_at id os c (sym (later_named id o os nay) ∙ e) in
      record {
        within = let l = rest.within in omega (arith, place);
        object = ap (λ (n : ℕ). object_at n (o ∷ os)) place ∙ later_object (place_of id os) o os
            ∙ rest.object;
      }
]

-- what holds of each object holds at each place
pub at_place : (P : Object → Type 0) (os : List Object) (i : ℕ) → All P os → i < length os
    → P (object_at i os)
unfolding object_at
at_place P os i h lt = h i _ lt

-- what holds of each reference of a tree holds of what each entry names, gitlinks aside
pub of_entries : (P : Reference → Type 0) (es : List TreeEntry) → All P (tree_references es)
    → AllByRecursion (λ e. e.mode ≡ mode.Directory → P (reference kind.Tree e.id)) es
of_entries P [] h = tt
of_entries P (e ∷ es) h = by_mode (of_entries P es) e.mode refl
  where
    Of : List TreeEntry → Type 0
    Of xs = AllByRecursion (λ x. x.mode ≡ mode.Directory → P (reference kind.Tree x.id)) xs

    by_mode : (All P (tree_references es) → Of es) → (m : FileMode) → e.mode ≡ m → Of (e ∷ es)
    by_mode rest mode.Directory is =
        let all = rw is at h in (λ _. All-head P _ _ all, rest (All-tail P _ _ all))
    by_mode rest mode.Regular is = let all = rw is at h in (λ no. cc, rest (All-tail P _ _ all))
    by_mode rest mode.Executable is = let all = rw is at h in (λ no. cc, rest (All-tail P _ _ all))
    by_mode rest mode.Symlink is = let all = rw is at h in (λ no. cc, rest (All-tail P _ _ all))
    by_mode rest mode.Gitlink is = let all = rw is at h in (λ no. cc, rest all)
