-- A good repository in a file: its objects by their numbers, and its refs by their places.
use Rattle.std.proofs.Common.{◌≡◌, ℕ, ◌<◌, List, [], ◌∷◌, map, length, get_or, Some, refl, sym, ap, ◌∙◌, inl, inr, arith}
use Rattle.std.specs.Prelude.{slice_get, slice_index_or}
use Rattle.std.specs.Option.{option_map, option_and_then}
use Rattle.std.proofs.lemmas.List.{get_or-map, length-map}
use Rattle.std.proofs.lemmas.Option.{slice_get-get_or, slice_get-map}
use Rattle.git_model.specs.Content.{Content, name_by}
use Rattle.git_model.specs.Repository.{Object}
use Rattle.git_model.specs.References.{place_of}
use Rattle.git_model.proofs.Places.{StandsAt}
use Rattle.pool_file_format.specs.Format.{RawObject}
use Rattle.pool_file_checks.specs.Objects.{raw_object}
use Rattle.pool_file_checks.specs.Own.{content_of, content_at, names_of, objects_in, own_objects}
use Rattle.pool_file_checks.specs.FileRefs.{target_at}
use Rattle.pool_file_checks.specs.Repositories.{number_in}
use Rattle.pool_file_checks.proofs.Members.{Has}
use Rattle.pool_file_checks.proofs.Keys.{AreSorted, content_again}
use Rattle.pool_file_checks.proofs.Numbers.{IsNumbered, numbered}
use Rattle.pool_file_checks.proofs.FileContents.{contents_in, content_is}
use Rattle.pool_file_checks.proofs.GoodObjects.{slice_of_place}

pub contents_again : (cs : List Content) → contents_in (map raw_object cs) ≡ cs
contents_again [] = refl
contents_again (c ∷ cs) = λ i. content_again c i ∷ contents_again cs i

abbrev pub raws : List Content → List RawObject
raws cs = map raw_object cs

pub raws_length : (cs : List Content) → length (raws cs) ≡ length cs
raws_length cs = length-map cs raw_object

abbrev pub numbers_in : List Content → List Object → List ℕ
numbers_in cs os = map (λ o. number_in cs o.content) os

-- ---- objects

content_of_number : (cs : List Content) (c : Content) → IsNumbered cs c
    → content_at (raws cs) (number_in cs c) ≡ c
content_of_number cs c n =
    sym (content_is (raws cs) (number_in cs c) c (let w = n.within in omega (arith, w, raws_length cs)))
    ∙ ap (λ (ds : List Content). get_or ds (number_in cs c) c) (contents_again cs) ∙ n.is c

pub name_of_number : (digest : List ℕ → List ℕ) (os : List RawObject) (k : ℕ) → k < length os
    → slice_index_or (names_of digest os) k [] ≡ name_by digest (content_at os k)
unfolding content_at
name_of_number digest os k l =
    get_or-map (λ (o : RawObject). name_by digest (content_of o)) os k (record { kind = 3; bytes = [] }) [] l

module _ (digest : List ℕ → List ℕ) (cs : List Content) (sorted : AreSorted cs) where
  one_again : (o : Object) → Has cs o.content → o.id ≡ name_by digest o.content
      → (id : List ℕ) → id ≡ slice_index_or (names_of digest (raws cs)) (number_in cs o.content) []
      → (c : Content) → c ≡ content_at (raws cs) (number_in cs o.content)
      → ◌≡◌ {A = Object} (record { id = id; content = c }) o
  one_again o has named id is c at =
      let n = numbered cs o.content sorted has in
      let content = content_of_number cs o.content n in
      let name = name_of_number digest (raws cs) (number_in cs o.content)
      (let w = n.within in omega (arith, w, raws_length cs)) in
      let all : id ≡ o.id = is ∙ name ∙ ap (name_by digest) content ∙ sym named in
      let whole : c ≡ o.content = at ∙ content in
      λ i. record { id = all i; content = whole i }

  pub own_again : (os : List Object) → ((o : Object) → Has os o → Has cs o.content)
      → ((o : Object) → Has os o → o.id ≡ name_by digest o.content)
      → own_objects digest (raws cs) (numbers_in cs os) ≡ os
  unfolding objects_in
  own_again [] has named = refl
  own_again (o ∷ os) has named =
      let one = one_again o (has o (inl refl)) (named o (inl refl))
      (slice_index_or (names_of digest (raws cs)) (number_in cs o.content) []) refl
      (content_at (raws cs) (number_in cs o.content)) refl in
      let rest = own_again os (λ p h. has p (inr h)) (λ p h. named p (inr h)) in
      λ i. one i ∷ rest i

-- ---- targets

pub target_is : (cs : List Content) (os : List Object) (id : List ℕ) (c : Content) → AreSorted cs
    → Has cs c → StandsAt os id c
    → target_at (raws cs) (numbers_in cs os) (place_of id os) ≡ Some (raw_object c)
target_is cs os id c sorted has s =
    let n = numbered cs c sorted has in
    let number : slice_get (numbers_in cs os) (place_of id os) ≡ Some (number_in cs c) =
    slice_get-map (λ (o : Object). number_in cs o.content) os (place_of id os)
    ∙ ap (option_map (λ (o : Object). number_in cs o.content)) (slice_of_place os id c s) in
    let object : slice_get (raws cs) (number_in cs c) ≡ Some (raw_object c) =
    slice_get-map raw_object cs (number_in cs c)
    ∙ ap (option_map raw_object) (slice_get-get_or cs (number_in cs c) c n.within)
    ∙ ap (λ (d : Content). Some (raw_object d)) (n.is c) in
    ap (option_and_then (slice_get (raws cs))) number ∙ object
