-- What a tree lists stays while objects are added.
use Rattle.std.proofs.Common.{◌≡◌, Bool, true, false, cond, List, [], ◌∷◌, ◌++◌, length, ℕ, Option, Some, None, refl, sym, ap, ◌∙◌}
use Rattle.std.specs.Prelude.{is_some, nat_lt, nat_le}
use Rattle.std.specs.Option.{option_map_or}
use Rattle.std.specs.Str.{bytes_eq}
use Rattle.std.proofs.lemmas.Slice.Eq.{bytes_eq-Decides}
use Rattle.git_model.specs.Content.{Content, same_content}
use Rattle.git_model.specs.Repository.{Object, object_named, with_object}
use Rattle.git_model.specs.Tree.{TreeEntry}
use Rattle.git_paths.proofs.Cases.{by_cases}
use Rattle.content_pool.proofs.StoredLemmas.{same_content-decides}
use Rattle.tenant_tables.specs.declared.fault.Fault.TheVariants as table
use Rattle.tenant_tables.specs.declared.table.TheConstants.{CONTENTS_LIMIT, OBJECTS_LIMIT}
use Rattle.tenant_tables.specs.Adding.{store_fault}
use Rattle.file_maps.specs.FileMap.{Listed}
use Rattle.file_maps.specs.Trees.{tree_content, tree_name}
use Rattle.file_maps.specs.StoredTree.{HasTree, Lists, nothing, first_file, first_directory, ListsTree}
use Rattle.file_maps.specs.Storing.{with_trees}

still_named : (id : List ℕ) (d : Content) (o : Object) (os : List Object) → object_named id os ≡ Some d
    → object_named id (os ++ o ∷ []) ≡ Some d
unfolding object_named
still_named id d o [] h = cc h
still_named id d o (x ∷ os) h = by (bytes_eq id x.id) h (still_named id d o os)
  where
    by : (b : Bool) → cond b (Some x.content) (object_named id os) ≡ Some d
        → (object_named id os ≡ Some d → object_named id (os ++ o ∷ []) ≡ Some d)
        → cond b (Some x.content) (object_named id (os ++ o ∷ [])) ≡ Some d
    by true k later = k
    by false k later = later k

-- an object stays under its name
pub named-later : (id : List ℕ) (d : Content) (key : List ℕ) (c : Content) (os : List Object)
    → object_named id os ≡ Some d → object_named id (with_object key c os) ≡ Some d
named-later id d key c os h = by (is_some (object_named key os))
  where
    by : (b : Bool)
        → object_named id (cond b os (os ++ record { id = key; content = c } ∷ [])) ≡ Some d
    by true = h
    by false = still_named id d (record { id = key; content = c }) os h

pub has-later : {os : List Object} {id : List ℕ} {es : List TreeEntry} (key : List ℕ) (c : Content)
    → HasTree os id es → HasTree (with_object key c os) id es
has-later {os} {id} {es} key c h =
    record { content = named-later id (tree_content es) key c os h.content; entries = h.entries }

pub lists-later : {os : List Object} {es : List TreeEntry} {fs : Listed} (key : List ℕ)
    (c : Content) → Lists os es fs → Lists (with_object key c os) es fs
lists-later key c nothing = nothing
lists-later key c (first_file e es files ne l) = first_file e es files ne (lists-later key c l)
lists-later key c (first_directory e es inside under files is has sub l) =
    first_directory e es inside under files is (has-later key c has) (lists-later key c sub)
    (lists-later key c l)

pub tree-later : (digest : List ℕ → List ℕ) (trees : List (List TreeEntry)) (os : List Object)
    (id : List ℕ) (fs : Listed) → ListsTree os id fs → ListsTree (with_trees digest trees os) id fs
tree-later digest [] os id fs t = t
tree-later digest (es ∷ trees) os id fs t =
    tree-later digest trees (with_object (tree_name digest es) (tree_content es) os) id fs
    (record {
      direct = t.direct;
      tree = has-later (tree_name digest es) (tree_content es) t.tree;
      lists = lists-later (tree_name digest es) (tree_content es) t.lists;
    })

-- ---- an object that was added

named_last : (id : List ℕ) (c : Content) (os : List Object) → object_named id os ≡ None
    → object_named id (os ++ record { id = id; content = c } ∷ []) ≡ Some c
unfolding object_named
named_last id c [] h = rw ((bytes_eq-Decides id id).1 refl) refl
named_last id c (o ∷ os) h =
    by_cases (bytes_eq id o.id)
    (λ yea. let no : Some o.content ≡ None =
    ap (λ (b : Bool). cond b (Some o.content) (object_named id os)) (sym yea) ∙ h in cc no)
    (λ nay. rw nay (named_last id c os
    (ap (λ (b : Bool). cond b (Some o.content) (object_named id os)) (sym nay) ∙ h)))

pub named-added : (id : List ℕ) (c : Content) (os : List Object) → store_fault id c os ≡ None
    → object_named id (with_object id c os) ≡ Some c
unfolding store_fault
named-added id c os h =
    by (nat_lt CONTENTS_LIMIT (length c.bytes)) (object_named id os) (nat_le OBJECTS_LIMIT (length os)) refl h
  where
    same : (d : Content) (full : Bool) → object_named id os ≡ Some d → (b : Bool)
        → same_content c d ≡ b
        → cond b None (cond full (Some table.Limit) (Some table.NameCollision)) ≡ None
        → object_named id (with_object id c os) ≡ Some c
    same d full is true at k =
        rw is (is ∙ ap (λ (x : Content). Some x) (sym ((same_content-decides c d).0 at)))
    same d true is false at k = cc k
    same d false is false at k = cc k

    by : (long : Bool) (o : Option Content) (full : Bool) → object_named id os ≡ o
        → cond long (Some table.Limit) (cond (option_map_or (same_content c) o false) None
        (cond full (Some table.Limit) (cond (is_some o) (Some table.NameCollision) None))) ≡ None
        → object_named id (with_object id c os) ≡ Some c
    by true o full is k = cc k
    by false None true is k = cc k
    by false None false is k = rw is (named_last id c os is)
    by false (Some d) full is k = same d full is (same_content c d) refl k
