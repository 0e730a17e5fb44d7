-- One turn of the loop that stores groups, and its ends.
use Rattle.std.proofs.Common.{◌≡◌, ℕ, zero, suc, ◌+◌, ◌-◌, ◌<◌, ◌≤◌, List, [], ◌∷◌, ◌++◌, length}
use Rattle.std.proofs.Common.{take, drop, get_or, Option, None, Some, Result, Ok, Err, refl, sym}
use Rattle.std.proofs.Common.{ap, ◌∙◌, subst, append_assoc, arith}
use Rattle.std.specs.List.{AllByRecursion}
use Rattle.std.proofs.lemmas.List.{map-append, take_more, take_all}
use Rattle.git_objects.specs.declared.tree_entry.TreeEntry as declared
use Rattle.git_objects.specs.Parts.{entry_of, entries_of}
use Rattle.git_model.specs.ObjectName.{IsObjectName}
use Rattle.git_model.specs.Tree.{TreeEntry}
use Rattle.content_pool.specs.Pool.{Cells}
use Rattle.tenant_tables.specs.declared.summary.Summary.{Summary}
use Rattle.tenant_tables.specs.View.{View, Entries, summary_of}
use Rattle.tenant_tables.specs.Objects.{objects}
use Rattle.plain_files.specs.declared.below.Group.{Group}
use Rattle.file_maps.specs.declared.entry.Entry.{Entry}
use Rattle.file_maps.specs.declared.fault.Fault.{Fault}
use Rattle.file_maps.specs.declared.fault.Fault.TheVariants as fault
use Rattle.file_maps.specs.FileMap.{Listed}
use Rattle.file_maps.specs.Trees.{grouped, file_of, depth_of}
use Rattle.plain_files.specs.Below.{groups_of, group_of, entry_by, by_kind}
use Rattle.file_maps.specs.Below.{group_trees}
use Rattle.file_maps.specs.Storing.{trees_fault, AddsTrees, AddsSome, StoresTrees, HasHoldsLeftBeside}
use Rattle.tenant_tables.specs.IsBackedBy.{IsBackedBy, PreservesOthers}
use Rattle.file_maps.specs.Storable.{AreStorable}
use Rattle.plain_files.specs.Storable.{IsStorableGroup, IsKnownGroup}
use Rattle.file_maps.proofs.Fits.{IsGroup, groups-are}
use Rattle.file_maps.proofs.Stored.{adds-then, unrefused-then, some-then, stopped}
use Rattle.plain_files.proofs.Stored.{trees_of, one_more, parted}

-- what holds of all groups holds of each
pub at_index : (P : List ℕ × Listed → Type 0) (gs : List Group) (i : ℕ) (x : Group) → i < length gs
    → x ≡ get_or gs i x → AllByRecursion P (groups_of gs) → P (group_of x)
at_index P [] i x lt at h = absurd (omega arith)
at_index P (y ∷ gs) zero x lt at h = subst (λ (z : Group). P (group_of z)) (sym at) h.0
at_index P (y ∷ gs) (suc i) x lt at h = at_index P gs i x (omega arith) at h.1

group-storable : (bound deep : ℕ) (g : List ℕ × Listed) → IsGroup bound g → bound ≤ deep
    → IsStorableGroup (deep - 1) g
group-storable bound deep (c, []) h le = absurd h
group-storable bound deep (c, (([], e) ∷ fs)) h le = λ none. cc none
group-storable bound deep (c, (((d ∷ q), e) ∷ fs)) h le =
    λ none. (h.storable, let one = h.depth in omega arith)

pub each-storable : (deep : ℕ) (fs : Listed) (gs : List Group) (i : ℕ) (x : Group) → AreStorable fs
    → depth_of fs ≤ deep → groups_of gs ≡ grouped fs → i < length gs → x ≡ get_or gs i x
    → IsStorableGroup (deep - 1) (group_of x)
each-storable deep fs gs i x h le are lt at =
    group-storable (depth_of fs) deep (group_of x)
    (at_index (IsGroup (depth_of fs)) gs i x lt at (subst (AllByRecursion (IsGroup (depth_of fs))) (sym are) (groups-are fs h))) le

all-append : {A : Type 0} (P : A → Type 0) (xs : List A) (x : A) → AllByRecursion P xs → P x
    → AllByRecursion P (xs ++ x ∷ [])
all-append P [] x h p = (p, tt)
all-append P (y ∷ xs) x h p = (h.0, all-append P xs x h.1 p)

entry-id : (g : List ℕ × Listed) (id : List ℕ) → (entry_by g id).id ≡ id
entry-id g id = by (file_of g.1)
  where
    by : (o : Option Entry) → (by_kind g.0 o id).id ≡ id
    by (Some e) = refl
    by None = refl

pub ids_turn : (g : List ℕ × Listed) (id : List ℕ) (e : declared.TreeEntry)
    (old new : List declared.TreeEntry)
    → IsObjectName id → entry_of e ≡ entry_by g id
    → AllByRecursion (λ e. IsObjectName e.id) (entries_of old) → new ≡ old ++ e ∷ []
    → AllByRecursion (λ e. IsObjectName e.id) (entries_of new)
ids_turn g id e old new named entry sofar is =
    subst (AllByRecursion (λ e. IsObjectName e.id))
    (sym (ap entries_of is ∙ map-append entry_of old (e ∷ [])))
    (all-append (λ (t : TreeEntry). IsObjectName t.id) (entries_of old) (entry_of e) sofar (subst IsObjectName (sym (ap (λ (t : TreeEntry). t.id) entry ∙ entry-id g id)) named))

module _ (digest : List ℕ → List ℕ) (deep : ℕ) where
  known-kept : (old new : Entries)
      → ((id : List ℕ) (s : Summary) → summary_of id old ≡ Some s → summary_of id new ≡ Some s)
      → (gs : List (List ℕ × Listed))
      → AllByRecursion (IsKnownGroup digest deep old) gs
      → AllByRecursion (IsKnownGroup digest deep new) gs
  known-kept old new kept [] h = tt
  known-kept old new kept (g ∷ gs) h =
      ((λ none. kept _ _ (h.0 none)), known-kept old new kept gs h.1)

  pub known_turn : (old new : Entries)
      → ((id : List ℕ) (s : Summary) → summary_of id old ≡ Some s → summary_of id new ≡ Some s)
      → (gs : List Group) (i : ℕ) (x : Group) → i < length gs → x ≡ get_or gs i x
      → AllByRecursion (IsKnownGroup digest deep old) (groups_of (take i gs))
      → IsKnownGroup digest deep new (group_of x)
      → AllByRecursion (IsKnownGroup digest deep new) (groups_of (take (i + 1) gs))
  known_turn old new kept gs i x lt at h k =
      subst (λ (l : List Group). AllByRecursion (IsKnownGroup digest deep new) (groups_of l))
      (sym (take_more gs i x lt ∙ ap (λ (y : Group). take i gs ++ y ∷ []) (sym at)))
      (subst (AllByRecursion (IsKnownGroup digest deep new)) (sym (map-append group_of (take i gs) (x ∷ [])))
      (all-append (IsKnownGroup digest deep new) (groups_of (take i gs)) (group_of x) (known-kept old new kept (groups_of (take i gs)) h) k))

  module _ (p q r : Cells) (u v w : View) (gs : List Group) (i : ℕ) (x : Group) (lt : i < length gs) (at : x ≡ get_or gs i x) where
    pub adds_turn : AddsTrees digest p u q v (trees_of digest deep (take i gs))
        → AddsTrees digest q v r w (group_trees digest deep (group_of x))
        → AddsTrees digest p u r w (trees_of digest deep (take (i + 1) gs))
    adds_turn first second =
        subst (AddsTrees digest p u r w) (sym (one_more digest deep gs i x lt at))
        (adds-then digest p q r u v w _ _ first second)

    pub unrefused_turn : AddsTrees digest p u q v (trees_of digest deep (take i gs))
        → trees_fault digest (trees_of digest deep (take i gs)) (objects p u.entries) ≡ None
        → trees_fault digest (group_trees digest deep (group_of x)) (objects q v.entries) ≡ None
        → trees_fault digest (trees_of digest deep (take (i + 1) gs)) (objects p u.entries) ≡ None
    unrefused_turn first none more =
        ap (λ (t : List (List TreeEntry)). trees_fault digest t (objects p u.entries))
        (one_more digest deep gs i x lt at)
        ∙ unrefused-then digest p q u v _ _ first none more

    split : (all last : List (List TreeEntry)) → all ≡ trees_of digest deep gs ++ last
        → all ≡ trees_of digest deep (take (i + 1) gs) ++ (trees_of digest deep (drop (i + 1) gs) ++ last)
    split all last is =
        is ∙ ap (λ (t : List (List TreeEntry)). t ++ last) (parted digest deep gs (i + 1))
        ∙ append_assoc (trees_of digest deep (take (i + 1) gs))
        (trees_of digest deep (drop (i + 1) gs)) last

    pub stopped_here : (all last : List (List TreeEntry)) → all ≡ trees_of digest deep gs ++ last
        → AddsTrees digest p u q v (trees_of digest deep (take i gs))
        → trees_fault digest (trees_of digest deep (take i gs)) (objects p u.entries) ≡ None
        → AddsTrees digest q v r w (group_trees digest deep (group_of x))
        → trees_fault digest (group_trees digest deep (group_of x)) (objects q v.entries) ≡ None
        → AddsSome digest p u r w all fault.Memory
    stopped_here all last is first none second more =
        stopped digest p r u w all (trees_of digest deep (take (i + 1) gs))
        (trees_of digest deep (drop (i + 1) gs) ++ last) (adds_turn first second)
        (unrefused_turn first none more) (split all last is)

    pub refused_here : (all last : List (List TreeEntry)) (e : Fault)
        → all ≡ trees_of digest deep gs ++ last
        → AddsTrees digest p u q v (trees_of digest deep (take i gs))
        → trees_fault digest (trees_of digest deep (take i gs)) (objects p u.entries) ≡ None
        → AddsSome digest q v r w (group_trees digest deep (group_of x)) e
        → AddsSome digest p u r w all e
    refused_here all last e is first none second =
        some-then digest p q r u v w all (trees_of digest deep (take i gs))
        (group_trees digest deep (group_of x))
        (trees_of digest deep (drop (i + 1) gs) ++ last) e first none second
        (split all last is ∙ ap (λ (t : List (List TreeEntry)). t ++ (trees_of digest deep (drop (i + 1) gs) ++ last)) (one_more digest deep gs i x lt at)
        ∙ append_assoc (trees_of digest deep (take i gs)) (group_trees digest deep (group_of x)) (trees_of digest deep (drop (i + 1) gs) ++ last))

  -- at the end of the loop all groups are stored
  pub all_trees : (gs : List Group) (i : ℕ) → length gs ≤ i
      → trees_of digest deep (take i gs) ≡ trees_of digest deep gs
  all_trees gs i done = ap (trees_of digest deep) (take_all i gs done)

module _ (digest : List ℕ → List ℕ) (p q : Cells) (u v : View) (all : List (List TreeEntry)) (id : List ℕ) where
  pub stores-stands : (answer : Result (List ℕ) Fault) → StoresTrees answer digest p u q v all id
      → IsBackedBy digest q v.entries
  stores-stands (Ok x) h = h.2.stands
  stores-stands (Err e) h = h.adds.stands

  pub stores-room : (answer : Result (List ℕ) Fault) → StoresTrees answer digest p u q v all id
      → HasHoldsLeftBeside q v.entries
  stores-room (Ok x) h = h.2.room
  stores-room (Err e) h = h.adds.room

  pub stores-others : (answer : Result (List ℕ) Fault) → StoresTrees answer digest p u q v all id
      → PreservesOthers p u.entries q v.entries
  stores-others (Ok x) h = h.2.others
  stores-others (Err e) h = h.adds.others
