-- Objects that were added after others.
use Rattle.std.proofs.Common.{◌≡◌, ℕ, Bool, true, false, cond, List, [], ◌∷◌, ◌++◌, Result, Ok, Err, refl, sym, ap, ◌∙◌, append_assoc, subst}
use Rattle.std.specs.Prelude.{is_some}
use Rattle.std.proofs.lemmas.List.{append-nil}
use Rattle.git_model.specs.Content.{Content}
use Rattle.git_model.specs.Repository.{Object, object_named, with_object}
use Rattle.git_model.specs.Tree.{TreeEntry}
use Rattle.content_pool.specs.Pool.{Cells}
use Rattle.tenant_tables.specs.Lent.{IsUnchanged}
use Rattle.tenant_tables.specs.Objects.{objects}
use Rattle.tenant_tables.specs.View.{View}
use Rattle.file_maps.specs.declared.fault.Fault.{Fault as FilesFault}
use Rattle.file_maps.specs.Trees.{tree_name, tree_content}
use Rattle.file_maps.specs.Storing.{with_trees, AddsTrees, StoresTrees}
use Rattle.tree_build.specs.Branch.{Branch, IsBranch}
use Rattle.tree_build.proofs.Growing.{branch_stays}
use Rattle.open_commits.specs.Calls.{AddsOnly}

pub one_added : (id : List ℕ) (c : Content) (os : List Object)
    → (more : List Object) × (with_object id c os ≡ os ++ more)
one_added id c os = by (is_some (object_named id os))
  where
    by : (b : Bool)
        → (more : List Object) × (cond b os (os ++ record { id = id; content = c } ∷ []) ≡ os ++ more)
    by true = ([], sym (append-nil os))
    by false = (record { id = id; content = c } ∷ [], refl)

pub trees_added : (digest : List ℕ → List ℕ) (trees : List (List TreeEntry)) (os : List Object)
    → (more : List Object) × (with_trees digest trees os ≡ os ++ more)
trees_added digest [] os = ([], sym (append-nil os))
trees_added digest (es ∷ trees) os =
    let first = one_added (tree_name digest es) (tree_content es) os in
    let later =
    trees_added digest trees (with_object (tree_name digest es) (tree_content es) os) in (
      first.0 ++ later.0,
      later.1 ∙ ap (λ (l : List Object). l ++ later.0) first.1 ∙ append_assoc os first.0 later.0,
    )

pub adds-object : (id : List ℕ) (c : Content) (p : Cells) (t : View) (q : Cells) (u : View)
    → objects q u.entries ≡ with_object id c (objects p t.entries) → u.committed ≡ t.committed
    → AddsOnly p t q u
adds-object id c p t q u is same =
    let one = one_added id c (objects p t.entries) in
    record {
      branches = λ b stands. subst (λ (os : List Object). IsBranch os b) (sym is)
          (branch_stays id c (objects p t.entries) b stands).0;
      more = one.0;
      objects = is ∙ one.1;
      committed = same;
    }

pub adds-same : (p : Cells) (t : View) (q : Cells) (u : View) → IsUnchanged p t q u
    → AddsOnly p t q u
adds-same p t q u same =
    let os = ap (λ (r : Cells). objects r u.entries) same.pool
    ∙ ap (λ (v : View). objects p v.entries) same.table in
    record {
      branches = λ b stands. subst (λ (l : List Object). IsBranch l b) (sym os) stands;
      more = [];
      objects = os ∙ sym (append-nil (objects p t.entries));
      committed = ap (λ (v : View). v.committed) same.table;
    }

pub adds-none : (p : Cells) (t : View) → AddsOnly p t p t
adds-none p t = adds-same p t p t (record { pool = refl; table = refl })

branch_under_trees : (digest : List ℕ → List ℕ) (trees : List (List TreeEntry)) (os : List Object)
    (b : Branch) → IsBranch os b → IsBranch (with_trees digest trees os) b
branch_under_trees digest [] os b stands = stands
branch_under_trees digest (es ∷ trees) os b stands =
    branch_under_trees digest trees (with_object (tree_name digest es) (tree_content es) os) b
    (branch_stays (tree_name digest es) (tree_content es) os b stands).0

pub adds-trees : (digest : List ℕ → List ℕ) (p : Cells) (t : View) (q : Cells) (u : View)
    (trees : List (List TreeEntry)) → AddsTrees digest p t q u trees → AddsOnly p t q u
adds-trees digest p t q u trees adds =
    let all = trees_added digest trees (objects p t.entries) in
    record {
      branches = λ b stands. subst (λ (os : List Object). IsBranch os b) (sym adds.objects)
          (branch_under_trees digest trees (objects p t.entries) b stands);
      more = all.0;
      objects = adds.objects ∙ all.1;
      committed = adds.committed;
    }

pub adds-stored : {A : Type 0} (r : Result A FilesFault) (digest : List ℕ → List ℕ) (p : Cells)
    (t : View) (q : Cells) (u : View) (trees : List (List TreeEntry)) (id : A)
    → StoresTrees r digest p t q u trees id → AddsOnly p t q u
adds-stored (Ok answer) digest p t q u trees id stores =
    adds-trees digest p t q u trees stores.2
adds-stored (Err e) digest p t q u trees id stores =
    adds-trees digest p t q u stores.done stores.adds

pub adds-then : (p : Cells) (t : View) (q : Cells) (u : View) (r : Cells) (v : View)
    → AddsOnly p t q u → AddsOnly q u r v → AddsOnly p t r v
adds-then p t q u r v first second = record {
  branches = λ b stands. second.branches b (first.branches b stands);
  more = first.more ++ second.more;
  objects = second.objects ∙ ap (λ (l : List Object). l ++ second.more) first.objects
      ∙ append_assoc (objects p t.entries) first.more second.more;
  committed = second.committed ∙ first.committed;
}
