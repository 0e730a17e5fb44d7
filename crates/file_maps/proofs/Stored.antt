-- Trees that are added one after another.
use Rattle.std.proofs.Common.{◌≡◌, ◌≢◌, ℕ, ◌≤◌, List, [], ◌∷◌, ◌++◌}
use Rattle.std.proofs.Common.{Option, None, Some, Err, refl, sym}
use Rattle.std.proofs.Common.{ap, ◌∙◌, subst, append_assoc, arith}
use Rattle.std.specs.List.{AllByRecursion}
use Rattle.git_model.specs.declared.kind.Kind.TheVariants as kind
use Rattle.git_model.specs.Content.{content_from, name_by}
use Rattle.git_model.specs.Repository.{Object, with_object}
use Rattle.git_model.specs.Tree.{TreeEntry, tree_contents}
use Rattle.content_pool.specs.Pool.{Cells}
use Rattle.tenant_tables.specs.declared.fault.Fault.{Fault as TableFault}
use Rattle.tenant_tables.specs.declared.fault.Fault.TheVariants as table
use Rattle.tenant_tables.specs.declared.summary.Summary.{Summary}
use Rattle.tenant_tables.specs.View.{View}
use Rattle.tenant_tables.specs.Objects.{objects}
use Rattle.tenant_tables.specs.IsBackedBy.{IsBackedBy, PreservesOthers}
use Rattle.tenant_tables.specs.Adding.{store_fault, Adds, Answers}
use Rattle.tenant_tables.specs.Trees.{FitsTree, IsWithin}
use Rattle.tenant_tables.proofs.TableLemmas.{PreservesOthers-refl, PreservesOthers-then}
use Rattle.tenant_tables.proofs.RoomLemmas.{room-after}
use Rattle.file_maps.specs.declared.fault.Fault.{Fault}
use Rattle.file_maps.specs.declared.fault.Fault.TheVariants as fault
use Rattle.file_maps.specs.FileMap.{Listed, IsFile}
use Rattle.file_maps.specs.Trees.{tree_content, tree_name, depth_of}
use Rattle.file_maps.specs.Storing.{with_trees, trees_fault, or_later, as_fault, AddsTrees}
use Rattle.file_maps.specs.Storing.{AddsSome, HasHoldsLeftBeside}
use Rattle.file_maps.specs.Storable.{AreStorable, files_summary, longest_of}
use Rattle.file_maps.proofs.Kept.{summaries-kept}

module _ (digest : List ℕ → List ℕ) where
  pub with_trees-append : (a b : List (List TreeEntry)) (os : List Object)
      → with_trees digest (a ++ b) os ≡ with_trees digest b (with_trees digest a os)
  with_trees-append [] b os = refl
  with_trees-append (es ∷ a) b os =
      with_trees-append a b (with_object (tree_name digest es) (tree_content es) os)

  pub no_fault : (f : Option TableFault) (later : Option Fault) → or_later f later ≡ None
      → (f ≡ None) × (later ≡ None)
  no_fault (Some e) later h = cc h
  no_fault None later h = (refl, h)

  fault-append : (a b : List (List TreeEntry)) (os : List Object) → trees_fault digest a os ≡ None
      → trees_fault digest (a ++ b) os ≡ trees_fault digest b (with_trees digest a os)
  fault-append [] b os h = refl
  fault-append (es ∷ a) b os h =
      let parts = no_fault (store_fault (tree_name digest es) (tree_content es) os) (trees_fault digest a (with_object (tree_name digest es) (tree_content es) os)) h in
      ap
      (λ (f : Option TableFault). or_later f (trees_fault digest (a ++ b) (with_object (tree_name digest es) (tree_content es) os))) parts.0
      ∙ fault-append a b (with_object (tree_name digest es) (tree_content es) os) parts.1

  later_fault : (f : Option TableFault) (x y : Option Fault) (e : Fault) → (x ≡ Some e → y ≡ Some e)
      → or_later f x ≡ Some e → or_later f y ≡ Some e
  later_fault (Some k) x y e w h = h
  later_fault None x y e w h = w h

  fault-front : (a b : List (List TreeEntry)) (os : List Object) (e : Fault)
      → trees_fault digest a os ≡ Some e → trees_fault digest (a ++ b) os ≡ Some e
  fault-front [] b os e h = cc h
  fault-front (es ∷ a) b os e h =
      later_fault (store_fault (tree_name digest es) (tree_content es) os) _ _ e
      (fault-front a b (with_object (tree_name digest es) (tree_content es) os) e) h

  -- ---- calls one after another

  pub adds-none : (p : Cells) (v : View) → IsBackedBy digest p v.entries → HasHoldsLeftBeside p v.entries
      → AddsTrees digest p v p v []
  adds-none p v stands room = record {
    stands = stands;
    room = room;
    others = PreservesOthers-refl p v.entries;
    objects = refl;
    committed = refl;
    kept = λ id s h. h;
  }

  pub adds-then : (p q r : Cells) (u v w : View) (a b : List (List TreeEntry))
      → AddsTrees digest p u q v a → AddsTrees digest q v r w b → AddsTrees digest p u r w (a ++ b)
  adds-then p q r u v w a b first second = record {
    stands = second.stands;
    room = second.room;
    others = PreservesOthers-then p q r u.entries v.entries w.entries first.others second.others;
    objects =
        second.objects ∙ ap (with_trees digest b) first.objects
        ∙ sym (with_trees-append a b (objects p u.entries));
    committed = second.committed ∙ first.committed;
    kept = λ id s h. second.kept id s (first.kept id s h);
  }

  pub unrefused-then : (p q : Cells) (u v : View) (a b : List (List TreeEntry))
      → AddsTrees digest p u q v a → trees_fault digest a (objects p u.entries) ≡ None
      → trees_fault digest b (objects q v.entries) ≡ None
      → trees_fault digest (a ++ b) (objects p u.entries) ≡ None
  unrefused-then p q u v a b first none more =
      fault-append a b (objects p u.entries) none ∙ ap (trees_fault digest b) (sym first.objects)
      ∙ more

  -- no memory, after some trees
  pub stopped : (p q : Cells) (u v : View) (all done rest : List (List TreeEntry))
      → AddsTrees digest p u q v done → trees_fault digest done (objects p u.entries) ≡ None
      → all ≡ done ++ rest → AddsSome digest p u q v all fault.Memory
  stopped p q u v all done rest adds none is = record {
    done = done;
    rest = rest;
    parts = is;
    adds = adds;
    unrefused = none;
    refusal = λ ne. absurd (ne refl);
  }

  -- a refusal among later trees
  pub some-then : (p q r : Cells) (u v w : View) (all a b more : List (List TreeEntry)) (e : Fault)
      → AddsTrees digest p u q v a → trees_fault digest a (objects p u.entries) ≡ None
      → AddsSome digest q v r w b e → all ≡ a ++ (b ++ more) → AddsSome digest p u r w all e
  some-then p q r u v w all a b more e first none second is = record {
    done = a ++ second.done;
    rest = second.rest ++ more;
    parts =
        is ∙ ap (λ (t : List (List TreeEntry)). a ++ (t ++ more)) second.parts
        ∙ ap (λ (t : List (List TreeEntry)). a ++ t) (append_assoc second.done second.rest more)
        ∙ sym (append_assoc a second.done (second.rest ++ more));
    adds = adds-then p q r u v w a second.done first second.adds;
    unrefused = unrefused-then p q u v a second.done first none second.unrefused;
    refusal = λ ne.
        ap (λ (t : List (List TreeEntry)). trees_fault digest t (objects p u.entries)) is
        ∙ fault-append a (b ++ more) (objects p u.entries) none
        ∙ fault-front b more (with_trees digest a (objects p u.entries)) e
        (subst (λ (os : List Object). trees_fault digest b os ≡ Some e) first.objects (second.refusal ne));
  }

  -- ---- one tree

  pub adds-one : (p q : Cells) (u v : View) (es : List TreeEntry) (bytes : List ℕ) (s : Summary)
      → bytes ≡ tree_contents es
      → IsBackedBy digest p u.entries → HasHoldsLeftBeside p u.entries → FitsTree u.entries bytes s
      → IsBackedBy digest q v.entries → PreservesOthers p u.entries q v.entries
      → store_fault (name_by digest (content_from kind.Tree bytes)) (content_from kind.Tree bytes) (objects p u.entries) ≡ None
      → Adds digest (content_from kind.Tree bytes) (Some s) p u q v
      → AddsTrees digest p u q v (es ∷ [])
  adds-one p q u v es bytes s is stands room fits after others none adds = record {
    stands = after;
    room = room-after p q u.entries v.entries others room;
    others = others;
    objects =
        adds.objects
        ∙ ap
        (λ (b : List ℕ). with_object (name_by digest (content_from kind.Tree b)) (content_from kind.Tree b) (objects p u.entries)) is;
    committed = adds.committed;
    kept =
        summaries-kept digest p q u v (content_from kind.Tree bytes) s stands refl fits none adds;
  }

  pub unrefused-one : (es : List TreeEntry) (bytes : List ℕ) (os : List Object)
      → bytes ≡ tree_contents es
      → store_fault (name_by digest (content_from kind.Tree bytes)) (content_from kind.Tree bytes) os ≡ None
      → trees_fault digest (es ∷ []) os ≡ None
  unrefused-one es bytes os is none =
      ap (λ (f : Option TableFault). or_later f None)
      (ap (λ (b : List ℕ). store_fault (name_by digest (content_from kind.Tree b)) (content_from kind.Tree b) os) (sym is) ∙ none)

  refused_by : (e : TableFault) (f : Option TableFault) (id : List ℕ)
      → Answers {name = List ℕ} (Err e) id f → as_fault e ≢ fault.Memory
      → or_later f None ≡ Some (as_fault e)
  refused_by table.Limit f id h ne = ap (λ (x : Option TableFault). or_later x None) h
  refused_by table.NameCollision f id h ne = ap (λ (x : Option TableFault). or_later x None) h
  refused_by table.Memory f id h ne = absurd (ne refl)

  pub refused-one : (p q : Cells) (u v : View) (es : List TreeEntry) (bytes : List ℕ)
      (e : TableFault) (id : List ℕ)
      → bytes ≡ tree_contents es
      → IsBackedBy digest p u.entries → HasHoldsLeftBeside p u.entries
      → Answers {name = List ℕ} (Err e) id (store_fault (name_by digest (content_from kind.Tree bytes)) (content_from kind.Tree bytes) (objects p u.entries))
      → (v ≡ u) × (q ≡ p) → (f : Fault) → f ≡ as_fault e → AddsSome digest p u q v (es ∷ []) f
  refused-one p q u v es bytes e id is stands room answer same f named = record {
    done = [];
    rest = es ∷ [];
    parts = refl;
    adds =
        subst (λ (x : View). AddsTrees digest p u q x []) (sym same.0)
        (subst (λ (y : Cells). AddsTrees digest p u y u []) (sym same.1) (adds-none p u stands room));
    unrefused = refl;
    refusal = λ ne.
        ap
        (λ (b : List ℕ). or_later (store_fault (name_by digest (content_from kind.Tree b)) (content_from kind.Tree b) (objects p u.entries)) None)
        (sym is)
        ∙ refused_by e _ id answer (λ m. ne (named ∙ m)) ∙ ap Some (sym named);
  }

-- ---- sizes

pub depth-bound : (fs : Listed) → AllByRecursion IsFile fs → depth_of fs ≤ 256
depth-bound [] h = omega arith
depth-bound (f ∷ fs) h =
    let one = h.0.limits.components in let rest = depth-bound fs h.1 in omega arith

pub longest-bound : (fs : Listed) → AllByRecursion IsFile fs → longest_of fs ≤ 16383
longest-bound [] h = omega arith
longest-bound (f ∷ fs) h =
    let one = h.0.limits.bytes in let rest = longest-bound fs h.1 in omega arith

pub storable-within : (files : Listed) → AreStorable files → IsWithin (files_summary files)
storable-within files h = record {
  files = h.few;
  depth = depth-bound files h.each;
  longest = longest-bound files h.each;
}
