-- A good repository stays good where one more object is added.
use Rattle.std.proofs.Common.{◌≡◌, ℕ, List, [], ◌∷◌, ◌++◌, Option, None, Some, refl, sym, ap, ◌∙◌, subst, inl, inr}
use Rattle.std.specs.Option.{option_map}
use Rattle.std.specs.Str.{bytes_eq}
use Rattle.std.proofs.lemmas.Bool.{cases_Bool}
use Rattle.std.proofs.lemmas.Slice.Eq.{bytes_eq-Decides}
use Rattle.git_model.specs.declared.kind.Kind.{Kind}
use Rattle.git_model.specs.declared.kind.Kind.TheVariants as kind
use Rattle.git_model.specs.Content.{Content}
use Rattle.git_model.specs.Tree.{TreeEntry}
use Rattle.git_model.specs.Repository.{Object, Repository, object_named}
use Rattle.git_model.specs.RefStore.{no_refs}
use Rattle.git_model.specs.References.{kind_named}
use Rattle.git_model.specs.GoodRepository.{MayAdd}
use Rattle.git_model.proofs.Places.{stands_at, first_named, later_named, nothing_named}
use Rattle.git_model.proofs.Growing.{longer, after_prefix, one_more, none_are}
use Rattle.git_model.proofs.GoodRefs.{refs_longer, no_refs_are}
use Rattle.file_maps.specs.FileMap.{Listed}
use Rattle.file_maps.specs.Trees.{tree_content}
use Rattle.file_maps.specs.StoredTree.{HasTree, Lists, nothing, first_file, first_directory}
use Rattle.file_maps.specs.GoodTrees.{IsTreeOfFiles, IsRepository}

-- ---- what a tree lists, among more objects

module _ (os more : List Object) where
  pub has-longer : (id : List ℕ) (es : List TreeEntry) → HasTree os id es → HasTree (os ++ more) id es
  has-longer id es h =
      record {
        content =
            (longer id os more (stands_at id os (tree_content es) h.content).within).object
            ∙ h.content;
        entries = h.entries;
      }

  pub lists-longer : {es : List TreeEntry} {fs : Listed} → Lists os es fs → Lists (os ++ more) es fs
  lists-longer nothing = nothing
  lists-longer (first_file e es files ne l) = first_file e es files ne (lists-longer l)
  lists-longer (first_directory e es inside under files is has sub l) =
      first_directory e es inside under files is (has-longer e.id inside has) (lists-longer sub)
      (lists-longer l)

  files-longer : (id : List ℕ) → IsTreeOfFiles os id → IsTreeOfFiles (os ++ more) id
  files-longer id h = record {
    files = h.files;
    lists = record {
      direct = h.lists.direct;
      tree = has-longer id h.lists.direct h.lists.tree;
      lists = lists-longer h.lists.lists;
    };
    good = h.good;
  }

-- ---- each tree among one more object

abbrev of_kind : Option Content → Option Kind
of_kind o = option_map (λ (c : Content). c.kind) o

-- an object that is new
added : (os : List Object) (o : Object)
    → (o.content.kind ≡ kind.Tree → IsTreeOfFiles (os ++ o ∷ []) o.id) → (id : List ℕ)
    → kind_named id (o ∷ []) ≡ Some kind.Tree → IsTreeOfFiles (os ++ o ∷ []) id
added os o may id k = elim (cases_Bool (bytes_eq id o.id)) [
  | inl yea ↦
      let is : id ≡ o.id = (bytes_eq-Decides id o.id).0 yea in
      let kinds : Some o.content.kind ≡ Some kind.Tree = ap of_kind (sym (first_named id o [] yea))
      ∙ k in
      subst (IsTreeOfFiles (os ++ o ∷ [])) (sym is) (may (let e = kinds in cc))
  | inr nay ↦
      (let none : ◌≡◌ {A = Option Kind} None (Some kind.Tree) = ap of_kind
      (sym (later_named id o [] nay ∙ nothing_named id)) ∙ k in cc)
]

each-tree : (os : List Object) (o : Object)
    → ((tree : List ℕ) → kind_named tree os ≡ Some kind.Tree → IsTreeOfFiles os tree)
    → (o.content.kind ≡ kind.Tree → IsTreeOfFiles (os ++ o ∷ []) o.id)
    → (id : List ℕ) (found : Option Content) → object_named id os ≡ found
    → kind_named id (os ++ o ∷ []) ≡ Some kind.Tree → IsTreeOfFiles (os ++ o ∷ []) id
each-tree os o old may id None e k =
    added os o may id (ap of_kind (sym (after_prefix id os (o ∷ []) e)) ∙ k)
each-tree os o old may id (Some c) e k =
    let same = (longer id os (o ∷ []) (stands_at id os c e).within).object in
    files-longer os (o ∷ []) id (old id (ap of_kind (sym same) ∙ k))

pub repository-grows : (digest : List ℕ → List ℕ) (r : Repository) (o : Object)
    → IsRepository digest r → MayAdd digest r.objects o
    → (o.content.kind ≡ kind.Tree → IsTreeOfFiles (r.objects ++ o ∷ []) o.id)
    → IsRepository digest (record r { objects = r.objects ++ o ∷ [] })
repository-grows digest r o good add may = record {
  objects = one_more digest r.objects o good.objects add;
  refs = refs_longer r.objects (o ∷ []) r.refs good.refs;
  trees = λ id k. each-tree r.objects o good.trees may id (object_named id r.objects) refl k;
}

pub empty-is : (digest : List ℕ → List ℕ)
    → IsRepository digest (record { objects = []; refs = no_refs })
empty-is digest = record {
  objects = none_are digest;
  refs = no_refs_are [];
  trees = λ id k.
      (let none : ◌≡◌ {A = Option Kind} None (Some kind.Tree) = ap of_kind (sym (nothing_named id))
      ∙ k in cc);
}
