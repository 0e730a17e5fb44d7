-- The objects that a file says of a tenant are good.
use Rattle.std.proofs.Common.{◌≡◌, ℕ, ◌<◌, List, [], ◌∷◌, length, None, refl, sym, ap, subst, ◌∙◌, inl, inr, arith}
use Rattle.std.specs.Prelude.{All}
use Rattle.std.specs.List.{IsDistinct}
use Rattle.std.specs.Str.{bytes_eq}
use Rattle.std.proofs.lemmas.List.Elements.{All-head, All-tail}
use Rattle.git_names.specs.Naming.{AnswersNames}
use Rattle.git_model.specs.declared.kind.Kind.{Kind}
use Rattle.git_model.specs.declared.kind.Kind.TheVariants as kind
use Rattle.git_model.specs.ObjectName.{IsObjectName, object_name}
use Rattle.git_model.specs.Content.{Content, name_by}
use Rattle.git_model.specs.Repository.{Object}
use Rattle.git_model.specs.References.{object_at, no_object, place_of}
use Rattle.git_model.specs.GoodRepository.{IsValid, IsTree, IsObject, AreObjects}
use Rattle.pool_file_format.specs.Format.{RawObject, RawTenant}
use Rattle.pool_file_checks.specs.Checks.{Passes}
use Rattle.pool_file_checks.specs.Objects.{object_checks, IsText, IsContent, CanStore}
use Rattle.pool_file_checks.specs.Own.{content_of, content_at, objects_in, own_objects}
use Rattle.pool_file_checks.proofs.Members.{Has, from_map, all_from_has}
use Rattle.pool_file_checks.proofs.Keys.{content_again}
use Rattle.pool_file_checks.proofs.Passing.{can_store, Holds}
use Rattle.pool_file_checks.proofs.FileContents.{has_content}
use Rattle.pool_file_checks.proofs.OwnObjects.{ids, own_distinct, own_length, place_at}
use Rattle.pool_file_checks.proofs.RawTenants.{name_of_number}
use Rattle.pool_file_checks.proofs.OwnTrees.{trees_are}

-- ---- contents and names

is_content : (o : RawObject) → CanStore o → IsContent (content_of o)
is_content o can =
    subst IsContent (sym (content_again can.0) ∙ sym (ap content_of can.1)) can.2

content_at_is : (os : List RawObject) (n : ℕ) → Passes (object_checks None os) → n < length os
    → IsContent (content_at os n)
content_at_is os n p l =
    let f = from_map content_of os (content_at os n) (has_content os n l) in
    subst IsContent f.is (is_content f.from (can_store None os f.from p f.there))

-- An object with the content of a number, under its name.
pub record IsNumberOf (digest : List ℕ → List ℕ) (os : List RawObject) (o : Object) : Type 0 where
  pub number : ℕ
  pub within : number < length os
  pub content : o.content ≡ content_at os number
  pub named : o.id ≡ name_by digest o.content

pub number_of : (digest : List ℕ → List ℕ) (os : List RawObject) (numbers : List ℕ)
    → All (λ n. n < length os) numbers → (o : Object) → Has (own_objects digest os numbers) o
    → IsNumberOf digest os o
unfolding objects_in
number_of digest os [] all o h = absurd h
number_of digest os (n ∷ ns) all o (inl e) =
    let l = All-head (λ m. m < length os) n ns all in
    subst (IsNumberOf digest os) e
    (record { number = n; within = l; content = refl; named = name_of_number digest os n l })
number_of digest os (n ∷ ns) all o (inr h) =
    number_of digest os ns (All-tail (λ m. m < length os) n ns all) o h

is_name : (digest : List ℕ → List ℕ) (c : Content) → AnswersNames digest
    → IsObjectName (name_by digest c)
unfolding object_name
is_name digest c names = names _

-- ---- objects

valid : (whole : List Object) (k : Kind) (bytes : List ℕ) → IsText k bytes
    → (k ≡ kind.Tree → (es : _) × IsTree whole bytes es) → IsValid whole k bytes
valid whole kind.Blob bytes t tree = tt
valid whole kind.Tree bytes t tree = tree refl
valid whole kind.Commit bytes t tree = t
valid whole kind.Tag bytes t tree = t

module _ (digest : List ℕ → List ℕ) (version : ℕ) (os : List RawObject) (t : RawTenant)
    (names : AnswersNames digest) (p : Passes (object_checks None os))
    (h : Holds digest version os t) where
  abbrev own : List Object
  own = own_objects digest os t.numbers

  pub distinct : IsDistinct bytes_eq (ids own)
  distinct = own_distinct digest os t.numbers h.distinct

  is_object : (o : Object) → Has own o → IsObject digest own o
  is_object o has =
      let n = number_of digest os t.numbers h.numbers o has in
      let content : IsContent o.content =
      subst IsContent (sym n.content) (content_at_is os n.number p n.within) in
      record {
        name = subst IsObjectName (sym n.named) (is_name digest o.content names);
        named = n.named;
        valid = valid own o.content.kind o.content.bytes content.1
            (λ tree. trees_are own distinct h.trees o has tree);
        short = content.0;
      }

  places : (i : ℕ) → i < length own → place_of (object_at i own).id own ≡ i
  unfolding object_at
  places i l = place_at own i no_object distinct l

  pub own_good : AreObjects digest own
  own_good = record {
    each = all_from_has (IsObject digest own) own is_object;
    distinct = places;
    connected = h.connected;
    few = let few = h.few in let size = own_length digest os t.numbers in omega (arith, few, size);
  }
