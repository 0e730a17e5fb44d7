-- The trees that come with a tree of a good repository, one entry after another.
use Rattle.std.proofs.Common.{◌≡◌, ◌≢◌, ℕ, ◌+◌, ◌<◌, true, false, List, [], ◌∷◌, ◌++◌, length, get_or, take, slice_get, Some, is_some, refl, sym, ap, subst, ◌∙◌, append-nil, arith}
use Rattle.std.specs.Prelude.{All}
use Rattle.std.specs.List.{flat_map}
use Rattle.std.proofs.lemmas.Grind.{flat_map-append}
use Rattle.std.proofs.lemmas.List.{get_or-map, length-map, map-append, take_more}
use Rattle.std.proofs.lemmas.List.Elements.{All-from_recursion, recursion_from_All}
use Rattle.git_model.specs.declared.file_mode.FileMode.{FileMode}
use Rattle.git_model.specs.declared.file_mode.FileMode.TheVariants as mode
use Rattle.git_model.specs.declared.kind.Kind.{Kind}
use Rattle.git_model.specs.declared.kind.Kind.TheVariants as kind
use Rattle.git_model.specs.Content.{content_from}
use Rattle.git_model.specs.GoodRepository.{AreObjects, StandsBefore}
use Rattle.git_model.specs.References.{kind_named, object_at, place_of, reference, tree_references}
use Rattle.git_model.specs.Repository.{Object, object_named}
use Rattle.git_model.specs.StoredPath.{entries_of as stored_entries}
use Rattle.git_model.specs.Tree.{TreeEntry, CanWriteTree, tree_contents}
use Rattle.git_model.proofs.Places.{StandsAt, of_entries, stands_at}
use Rattle.git_model.proofs.TreeReadings.{tree_back}
use Rattle.git_objects.specs.declared.tree_entry.TreeEntry as entry
use Rattle.git_objects.specs.Parts.{entries_of, entry_of}
use Rattle.commit_walk.proofs.CommitsAt.{object_told}
use Rattle.file_maps.specs.StoredTree.{HasTree}
use Rattle.file_maps.specs.Trees.{tree_content}
use Rattle.file_maps.proofs.GoodObjects.{refers-before, tree-from}
use Rattle.file_maps.proofs.StoredFiles.{entries-at}
use Rattle.export_laws.specs.Order.{AreWhole, trees_by, trees_of, with_named}
use Rattle.export_laws.proofs.OrderLaws.{tree-added, unrolled}
use Rattle.export_laws.proofs.OrderNames.{named-both}
use Rattle.export_laws.proofs.OrderPlaces.{there-by}
use Rattle.repository_copies.specs.declared.found.Found.{Found}
use Rattle.repository_copies.specs.Found.{Adds, AreFound, found_objects}

-- ---- the tree of a name

-- What each directory among some entries names is a tree that stands before a place.
abbrev pub StandBelow : List Object → ℕ → List TreeEntry → Type 0
StandBelow os place es =
    All (λ e. e.mode ≡ mode.Directory → StandsBefore os place (reference kind.Tree e.id)) es

-- What is known of a tree by its name.
pub record IsTreeAt (os : List Object) (tree : List ℕ) : Type 0 where
  pub es : List TreeEntry
  pub writable : CanWriteTree es
  pub entries : stored_entries os tree ≡ es
  pub within : place_of tree os < length os
  pub object : object_at (place_of tree os) os ≡ record { id = tree; content = tree_content es }
  pub below : StandBelow os (place_of tree os) (stored_entries os tree)

pub tree-at : (digest : List ℕ → List ℕ) (os : List Object) → AreObjects digest os → (tree : List ℕ)
    → kind_named tree os ≡ Some kind.Tree → IsTreeAt os tree
tree-at digest os good tree is = record {
  es = has.0;
  writable = has.1.entries;
  entries = entries-at os tree has.0 has.1;
  within = at.within;
  object = at.object;
  below =
      subst (StandBelow os (place_of tree os)) (sym (entries-at os tree has.0 has.1))
      (All-from_recursion _ has.0
      (of_entries (StandsBefore os (place_of tree os)) has.0
      (subst (λ (xs : List TreeEntry). All (StandsBefore os (place_of tree os)) (tree_references xs))
      (tree_back has.0 has.1.entries)
      (refers-before digest os good tree (tree_content has.0) has.1.content))));
}
  where
    has : (es : List TreeEntry) × HasTree os tree es
    has = tree-from digest os good tree (object_named tree os) refl is

    at : StandsAt os tree (tree_content has.0)
    at = stands_at tree os (tree_content has.0) has.1.content

-- the contents that are read at its place are those of its entries
pub contents-told : (os : List Object) (tree : List ℕ) (at : IsTreeAt os tree) (place : ℕ)
    → place_of tree os ≡ place → (name : List ℕ) (k : Kind) (bytes : List ℕ)
    → Some (record { id = name; content = content_from k bytes }) ≡ slice_get os place
    → bytes ≡ tree_contents at.es
contents-told os tree at place same name k bytes h =
    ap (λ (o : Object). o.content.bytes)
    (sym (object_told os place (record { id = name; content = content_from k bytes }) h)
    ∙ ap (λ (n : ℕ). object_at n os) (sym same) ∙ at.object)

-- what holds of each stored entry holds of each that was read
pub entry-told : (P : TreeEntry → Type 0) (items : List entry.TreeEntry) (es : List TreeEntry)
    → entries_of items ≡ es → All P es → (i : ℕ) (e : entry.TreeEntry) → i < length items
    → e ≡ get_or items i e → P (entry_of e)
entry-told P items es same all i e lt is =
    subst P (get_or-map entry_of items i e (entry_of e) lt ∙ ap entry_of (sym is))
    (subst (All P) (sym same) all i (entry_of e) (let n = length-map items entry_of in omega (arith, lt, n)))

pub entries-next : (items : List entry.TreeEntry) (i : ℕ) (e : entry.TreeEntry) → i < length items
    → e ≡ get_or items i e
    → entries_of (take (i + 1) items) ≡ entries_of (take i items) ++ entry_of e ∷ []
entries-next items i e lt is =
    ap entries_of (take_more items i e lt ∙ ap (λ (x : entry.TreeEntry). take i items ++ x ∷ []) (sym is))
    ∙ map-append entry_of (take i items) (e ∷ [])

-- ---- one entry after another

-- The trees that come with some entries.
abbrev pub trees_from : List Object → List TreeEntry → List (List ℕ)
trees_from os es = flat_map (λ e. trees_by e.mode (trees_of os e.id)) es

-- What comes with some entries was added.
pub record AreVisited (os : List Object) (es : List TreeEntry) (before now : Found) : Type 0 where
  pub adds : Adds os (trees_from os es) before now
  pub whole : AreWhole os (found_objects os now)

pub none-visited : (os : List Object) (before : Found) → AreFound os before
    → AreWhole os (found_objects os before) → AreVisited os [] before before
none-visited os before are whole = record {
  adds = record { found = are; objects = refl };
  whole = whole;
}

one-more : (os : List Object) (xs : List TreeEntry) (e : TreeEntry) (held : List Object)
    → with_named os (trees_from os (xs ++ e ∷ [])) held
    ≡ with_named os (trees_by e.mode (trees_of os e.id)) (with_named os (trees_from os xs) held)
one-more os xs e held =
    ap (λ (ids : List (List ℕ)). with_named os ids held)
    (flat_map-append (λ e. trees_by e.mode (trees_of os e.id)) xs (e ∷ [])
    ∙ ap (λ (last : List (List ℕ)). trees_from os xs ++ last) (append-nil (trees_by e.mode (trees_of os e.id))))
    ∙ named-both os (trees_from os xs) (trees_by e.mode (trees_of os e.id)) held

pub directory-visited : (digest : List ℕ → List ℕ) (os : List Object) → AreObjects digest os
    → (xs ys : List TreeEntry) (e : TreeEntry) (before mid after : Found) → ys ≡ xs ++ e ∷ []
    → e.mode ≡ mode.Directory → kind_named e.id os ≡ Some kind.Tree → AreVisited os xs before mid
    → Adds os (trees_of os e.id) mid after → AreVisited os ys before after
directory-visited digest os good xs ys e before mid after grown directory is were step = record {
  adds = record {
    found = step.found;
    objects =
        step.objects ∙ ap (with_named os (trees_of os e.id)) were.adds.objects
        ∙ ap (λ (m : FileMode). with_named os (trees_by m (trees_of os e.id)) (with_named os (trees_from os xs) (found_objects os before)))
        (sym directory)
        ∙ sym (one-more os xs e (found_objects os before))
        ∙ ap (λ (es : List TreeEntry). with_named os (trees_from os es) (found_objects os before)) (sym grown);
  };
  whole =
      subst (AreWhole os) (sym step.objects)
      (tree-added digest os good e.id is (found_objects os mid) were.whole).whole;
}

no-trees : (m : FileMode) (below : List (List ℕ)) → m ≢ mode.Directory → trees_by m below ≡ []
no-trees mode.Directory below other = absurd (other refl)
no-trees mode.Regular below other = refl
no-trees mode.Executable below other = refl
no-trees mode.Symlink below other = refl
no-trees mode.Gitlink below other = refl

pub other-visited : (os : List Object) (xs ys : List TreeEntry) (e : TreeEntry) (before now : Found)
    → ys ≡ xs ++ e ∷ [] → e.mode ≢ mode.Directory → AreVisited os xs before now
    → AreVisited os ys before now
other-visited os xs ys e before now grown other were = record {
  adds = record {
    found = were.adds.found;
    objects =
        were.adds.objects
        ∙ ap (λ (ids : List (List ℕ)). with_named os ids (with_named os (trees_from os xs) (found_objects os before)))
        (sym (no-trees e.mode (trees_of os e.id) other))
        ∙ sym (one-more os xs e (found_objects os before))
        ∙ ap (λ (es : List TreeEntry). with_named os (trees_from os es) (found_objects os before)) (sym grown);
  };
  whole = were.whole;
}

-- ---- the tree itself

module _ (digest : List ℕ → List ℕ) (os : List Object) (good : AreObjects digest os)
    (tree : List ℕ) (is : kind_named tree os ≡ Some kind.Tree) (place : ℕ)
    (at : place_of tree os ≡ place) where
  known : IsTreeAt os tree
  known = tree-at digest os good tree is

  pub place-within : place < length os
  place-within = let lt = known.within in omega (arith, at, lt)

  named : (object_at place os).id ≡ tree
  named = ap (λ (o : Object). o.id) (ap (λ (n : ℕ). object_at n os) (sym at) ∙ known.object)

  pub already : (before : Found) → AreFound os before → AreWhole os (found_objects os before)
      → get_or before.there.items place false ≡ true → Adds os (trees_of os tree) before before
  already before are whole on = record {
    found = are;
    objects =
        sym ((tree-added digest os good tree is (found_objects os before) whole).once
        (subst (λ (id : List ℕ). is_some (object_named id (found_objects os before)) ≡ true) named
        (there-by digest os good place place-within before.places.items
        (recursion_from_All _ before.places.items are.within)
        ∙ sym (are.flags place place-within) ∙ on)));
  }

  pub finished : (before now after : Found) → AreVisited os (stored_entries os tree) before now
      → Adds os ((object_at place os).id ∷ []) now after → Adds os (trees_of os tree) before after
  finished before now after were step = record {
    found = step.found;
    objects =
        step.objects
        ∙ ap (λ (id : List ℕ). with_named os (id ∷ []) (found_objects os now)) named
        ∙ ap (with_named os (tree ∷ [])) were.adds.objects
        ∙ sym (ap (λ (ids : List (List ℕ)). with_named os ids (found_objects os before)) (unrolled digest os good tree is)
        ∙ named-both os (trees_from os (stored_entries os tree)) (tree ∷ []) (found_objects os before));
  }
