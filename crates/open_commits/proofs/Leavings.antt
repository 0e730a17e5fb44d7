-- Which trees of files a call leaves that stores them.
use Rattle.std.proofs.Common.{ℕ, List, [], Result, Ok, Err, refl, sym, ap, ◌∙◌, subst}
use Rattle.std.specs.Prelude.{OnErr}
use Rattle.std.proofs.lemmas.List.{append-nil}
use Rattle.git_model.specs.Repository.{Object}
use Rattle.git_model.specs.Tree.{TreeEntry}
use Rattle.content_pool.specs.Pool.{Cells}
use Rattle.tenant_tables.specs.Lent.{IsUnchanged}
use Rattle.tenant_tables.specs.Objects.{objects}
use Rattle.tenant_tables.specs.View.{View}
use Rattle.file_maps.specs.declared.fault.Fault.{Fault as FilesFault}
use Rattle.file_maps.specs.FileMap.{FileMap, Listed, listed}
use Rattle.file_maps.specs.Edits.{files_at}
use Rattle.file_maps.specs.Trees.{nested_trees}
use Rattle.file_maps.specs.Storing.{StoresTrees}
use Rattle.file_maps.proofs.ListedOrder.{cut-root}
use Rattle.open_commits.specs.Storing.{LeavesTrees}

pub leaves-none : (digest : List ℕ → List ℕ) (trees : List (List TreeEntry)) (os : List Object)
    → LeavesTrees digest trees os os
leaves-none digest trees os = record {
  done = [];
  rest = trees;
  parts = refl;
  objects = refl;
  unrefused = refl;
}

pub leaves-stored : {A : Type 0} (r : Result A FilesFault) (digest : List ℕ → List ℕ) (p : Cells)
    (t : View) (q : Cells) (u : View) (trees : List (List TreeEntry)) (id : A)
    → StoresTrees r digest p t q u trees id
    → LeavesTrees digest trees (objects p t.entries) (objects q u.entries)
leaves-stored (Ok answer) digest p t q u trees id stores = record {
  done = trees;
  rest = [];
  parts = sym (append-nil trees);
  objects = stores.2.objects;
  unrefused = stores.1;
}
leaves-stored (Err e) digest p t q u trees id stores = record {
  done = stores.done;
  rest = stores.rest;
  parts = stores.parts;
  objects = stores.adds.objects;
  unrefused = stores.unrefused;
}

-- the same of the root
pub leaves-root : {A : Type 0} (r : Result A FilesFault) (digest : List ℕ → List ℕ) (p : Cells)
    (t : View) (q : Cells) (u : View) (files : FileMap) (id : A)
    → StoresTrees r digest p t q u (nested_trees digest (files_at files [])) id
    → LeavesTrees digest (nested_trees digest (listed files)) (objects p t.entries) (objects q u.entries)
leaves-root r digest p t q u files id stores =
    subst (λ (l : Listed). LeavesTrees digest (nested_trees digest l) (objects p t.entries) (objects q u.entries))
    (cut-root (listed files))
    (leaves-stored r digest p t q u (nested_trees digest (files_at files [])) id stores)

pub on-refusal : {A E : Type 0} (r : Result A E) (P : Type 0) → P → OnErr r P
on-refusal (Ok a) P p = tt
on-refusal (Err e) P p = p

-- an object that is refused after the trees leaves them
pub refused-after : {A E : Type 0} (r : Result A E) (digest : List ℕ → List ℕ)
    (trees : List (List TreeEntry)) (os : List Object) (p : Cells) (t : View) (q : Cells) (u : View)
    → LeavesTrees digest trees os (objects p t.entries) → OnErr r (IsUnchanged p t q u)
    → OnErr r (LeavesTrees digest trees os (objects q u.entries))
refused-after (Ok a) digest trees os p t q u leaves same = tt
refused-after (Err e) digest trees os p t q u leaves same =
    subst (LeavesTrees digest trees os)
    (sym (ap (λ (r : Cells). objects r u.entries) same.pool
    ∙ ap (λ (v : View). objects p v.entries) same.table))
    leaves
