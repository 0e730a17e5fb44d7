-- What is known of each ref of a repository.
use Rattle.std.proofs.Common.{◌≡◌, ℕ, zero, suc, true, false, codes, length, map, List, [], ◌∷◌, ◌++◌, Option, None, Some, refl, sym, ap, ◌∙◌, inl, inr}
use Rattle.std.specs.Option.{option_map}
use Rattle.std.specs.List.{AllByRecursion, list_any}
use Rattle.std.specs.Str.{bytes_eq}
use Rattle.std.proofs.lemmas.Bool.{cases_Bool, or_left}
use Rattle.git_model.specs.declared.kind.Kind.{Kind}
use Rattle.git_model.specs.Content.{Content}
use Rattle.git_model.specs.GoodRepository.{IsShortRefName}
use Rattle.git_model.specs.Reach.{is_reachable, is_referred_to, leads_within}
use Rattle.git_model.specs.References.{kind_named, referred_by}
use Rattle.git_model.specs.RefStore.{RefStore, listed_refs, target_of}
use Rattle.git_model.specs.Repository.{Object, Repository, object_named}
use Rattle.git_model.specs.TagReading.{tag_read}
use Rattle.git_model.proofs.Places.{first_named, later_named, nothing_named}
use Rattle.export_text.specs.Reached.{each_once, extra_tag_refs, is_missing, ref_of_tag, reached_tags, tag_ref}
use Rattle.file_maps.proofs.Apart.{all-filter, filter-all}
use Rattle.export_laws.proofs.RefsHeld.{bytes-are, each-any, listed-held, once-all, same-bytes, zipped}
use Rattle.export_laws.proofs.RefsRemoved.{IsExtra}

-- ---- names

-- what begins as refs do is not HEAD
no-head : (rest : List ℕ) → bytes_eq (codes "refs/" ++ rest) (codes "HEAD") ≡ false
no-head rest = refl

pub named-apart : (ref : List ℕ) → IsShortRefName ref → bytes_eq ref (codes "HEAD") ≡ false
named-apart ref is =
    ap (λ (r : List ℕ). bytes_eq r (codes "HEAD")) is.name.begins_with_refs.1
    ∙ no-head is.name.begins_with_refs.0

no-tag-head : (name : List ℕ) → bytes_eq (tag_ref name) (codes "HEAD") ≡ false
no-tag-head name = refl

-- ---- the refs that the tags leave

missing-none : (found : Option (List ℕ)) → (store : RefStore) (ref : List ℕ)
    → target_of store ref ≡ found → is_missing store ref ≡ true → found ≡ None
missing-none None store ref is h = refl
missing-none (Some id) store ref is h =
    let no : is_missing store ref ≡ false = rw is refl in cc

named-all : (os : List Object)
    → AllByRecursion (λ (ref : List ℕ). bytes_eq ref (codes "HEAD") ≡ false) (map ref_of_tag os)
named-all [] = tt
named-all (o ∷ os) = (no-tag-head (tag_read o.content.bytes).name, named-all os)

pub extras : (repository : Repository)
    → AllByRecursion (IsExtra repository.refs) (extra_tag_refs repository)
extras repository =
    let names = map ref_of_tag (reached_tags repository) in
    zipped (extra_tag_refs repository)
    (λ ref name missing. record {
      none = missing-none (target_of repository.refs ref) repository.refs ref refl missing;
      name = name;
    })
    (all-filter (λ (ref : List ℕ). bytes_eq ref (codes "HEAD") ≡ false) (is_missing repository.refs)
    (each_once names)
    (once-all (λ (ref : List ℕ). bytes_eq ref (codes "HEAD") ≡ false) names (named-all (reached_tags repository))))
    (filter-all (is_missing repository.refs) (each_once names))

-- ---- the listed refs

-- each reaches what it holds
itself-reached : (leads : List ℕ → List (List ℕ)) (n : ℕ) (from : List ℕ)
    → leads_within leads n from from ≡ true
unfolding leads_within
itself-reached leads zero from = same-bytes from
itself-reached leads (suc n) from =
    or_left (bytes_eq from from) (list_any (λ next. leads_within leads n next from) (leads from))
    (same-bytes from)

pub record IsRef (repository : Repository) (e : List ℕ × List ℕ) : Type 0 where
  pub holds : target_of repository.refs e.0 ≡ Some e.1
  pub reached : is_referred_to repository e.1 ≡ true

reached-each : (repository : Repository)
    → AllByRecursion (λ (e : List ℕ × List ℕ). is_referred_to repository e.1 ≡ true)
    (listed_refs repository.refs)
unfolding is_referred_to
reached-each repository =
    each-any
    (λ (ref e : List ℕ × List ℕ). is_reachable repository.objects (referred_by repository.objects) ref.1 e.1)
    (λ e. itself-reached (referred_by repository.objects) (length repository.objects) e.1)
    (listed_refs repository.refs)

pub each-ref : (repository : Repository)
    → AllByRecursion (IsRef repository) (listed_refs repository.refs)
each-ref repository =
    zipped (listed_refs repository.refs) (λ e holds reached. record { holds = holds; reached = reached })
    (listed-held repository.refs) (reached-each repository)

-- ---- objects by their names

-- The content of an object of a kind.
pub record HasKind (os : List Object) (id : List ℕ) (k : Kind) : Type 0 where
  pub content : Content
  pub named : object_named id os ≡ Some content
  pub kind : content.kind ≡ k

pub of-kind : (os : List Object) (id : List ℕ) (k : Kind) → kind_named id os ≡ Some k
    → HasKind os id k
of-kind os id k is = by (object_named id os) refl is
  where
    by : (found : Option Content) → object_named id os ≡ found
        → option_map (λ (c : Content). c.kind) found ≡ Some k → HasKind os id k
    by None e h = cc
    by (Some c) e h = record { content = c; named = e; kind = cc }

-- What stands before an object that is found by its name, and after it.
pub record Stands (os : List Object) (id : List ℕ) (c : Content) : Type 0 where
  pub first : List Object
  pub rest : List Object
  pub is : os ≡ first ++ record { id = id; content = c } ∷ rest

pub stands : (os : List Object) (id : List ℕ) (c : Content) → object_named id os ≡ Some c
    → Stands os id c
stands [] id c is = (let none = nothing_named id in cc)
stands (o ∷ os) id c is = elim (cases_Bool (bytes_eq id o.id)) [
  | inl here ↦
      let content : c ≡ o.content = (let found = sym (first_named id o os here) ∙ is in cc) in
      let name = bytes-are id o.id here in
      record {
        first = [];
        rest = os;
        is = λ i. record { id = sym name i; content = sym content i } ∷ os;
      }
  | inr other ↦
      let later = stands os id c (sym (later_named id o os other) ∙ is) in
      record {
        first = o ∷ later.first;
        rest = later.rest;
        is = ap (λ (l : List Object). o ∷ l) later.is;
      }
]
