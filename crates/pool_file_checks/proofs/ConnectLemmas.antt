-- Names in an index, and what stands before a place.
use Rattle.std.proofs.Common.{◌≡◌, ℕ, zero, suc, ◌<◌, Bool, true, false, cond, List, [], ◌∷◌, length, Option, None, Some, refl, sym, ap, ◌∙◌, inl, inr, arith, subst}
use Rattle.std.specs.Prelude.{◌↔◌, All, IsTrue, map, position, slice_get}
use Rattle.std.specs.List.{position_or_len}
use Rattle.std.specs.Map.{keys_of, lookup}
use Rattle.std.specs.Option.{option_map}
use Rattle.std.specs.Str.{bytes_eq}
use Rattle.std.proofs.lemmas.Bool.{cases_Bool}
use Rattle.std.proofs.lemmas.List.{length-map, get_or-map}
use Rattle.std.proofs.lemmas.List.Elements.{All-nil, All-cons, All-head, All-tail}
use Rattle.std.proofs.lemmas.Option.{get_or_from_slice_get, slice_get_within}
use Rattle.git_model.specs.declared.kind.Kind.{Kind}
use Rattle.git_model.specs.Content.{Content}
use Rattle.git_model.specs.Repository.{Object, object_named}
use Rattle.git_model.specs.declared.file_mode.FileMode.{FileMode}
use Rattle.git_model.specs.declared.file_mode.FileMode.TheVariants as mode
use Rattle.git_model.specs.Tree.{TreeEntry}
use Rattle.git_model.specs.TreeReading.{tree_read}
use Rattle.git_model.specs.Modes.{kind_of_mode}
use Rattle.git_model.specs.References.{Reference, reference, is_reference, tree_references, references_in, place_of, kind_named, object_at, no_object}
use Rattle.git_model.specs.GoodRepository.{StandsBefore}
use Rattle.git_model.proofs.Places.{first_place, later_place, first_named, later_named, nothing_named}
use Rattle.pool_file_format.specs.Format.{RawObject}
use Rattle.pool_file_checks.specs.Objects.{IsText, CanStore}
use Rattle.pool_file_checks.specs.Own.{content_of, content_at, Rows, objects_in}
use Rattle.pool_file_checks.specs.Connecting.{EntryStands}
use Rattle.pool_file_checks.proofs.CheckLemmas.{kind_again}

-- ---- an index of rows finds the places and the contents of objects

first_key : (id k : List ℕ) (ks : List (List ℕ)) → bytes_eq id k ≡ true → position_or_len (bytes_eq id) (k ∷ ks) ≡ 0
first_key id k ks e = rw e refl

later_key : (id k : List ℕ) (ks : List (List ℕ)) → bytes_eq id k ≡ false
    → position_or_len (bytes_eq id) (k ∷ ks) ≡ suc (position_or_len (bytes_eq id) ks)
later_key id k ks e = rw e (omega arith)

no_place : (id : List ℕ) → place_of id [] ≡ 0
unfolding place_of
no_place id = refl

place_in : (os : List RawObject) (rows : Rows) (id : List ℕ)
    → place_of id (objects_in os rows) ≡ position_or_len (bytes_eq id) (keys_of rows)
unfolding objects_in
place_in os [] id = no_place id
place_in os (r ∷ rs) id = elim (cases_Bool (bytes_eq id r.0)) [
  | inl yea ↦ first_place id _ (objects_in os rs) yea ∙ sym (first_key id r.0 (keys_of rs) yea)
  | inr nay ↦ later_place id _ (objects_in os rs) nay ∙ ap (λ (n : ℕ). suc n) (place_in os rs id)
      ∙ sym (later_key id r.0 (keys_of rs) nay)
]

first_row : (id : List ℕ) (r : List ℕ × ℕ) (rs : Rows) → bytes_eq id r.0 ≡ true → lookup (bytes_eq id) (r ∷ rs) ≡ Some r.1
first_row id r rs e = rw e refl

later_row : (id : List ℕ) (r : List ℕ × ℕ) (rs : Rows) → bytes_eq id r.0 ≡ false
    → lookup (bytes_eq id) (r ∷ rs) ≡ lookup (bytes_eq id) rs
later_row id r rs e = rw e refl

abbrev at_number : List RawObject → Option ℕ → Option Content
at_number os o = option_map (λ (n : ℕ). content_at os n) o

object_in : (os : List RawObject) (rows : Rows) (id : List ℕ)
    → object_named id (objects_in os rows) ≡ at_number os (lookup (bytes_eq id) rows)
unfolding objects_in
object_in os [] id = nothing_named id
object_in os (r ∷ rs) id = elim (cases_Bool (bytes_eq id r.0)) [
  | inl yea ↦ first_named id _ (objects_in os rs) yea ∙ sym (ap (at_number os) (first_row id r rs yea))
  | inr nay ↦ later_named id _ (objects_in os rs) nay ∙ object_in os rs id ∙ sym (ap (at_number os) (later_row id r rs nay))
]

abbrev kind_in : Option Content → Option Kind
kind_in o = option_map (λ (c : Content). c.kind) o

at_place : (b : Bool) (p e : ℕ) → Some e ≡ cond b (Some p) None → p ≡ e
at_place true p e h = cc
at_place false p e h = cc

-- What is known of a name that the index has.
pub record IsFound (os : List RawObject) (rows : Rows) (id : List ℕ) (earlier n : ℕ) : Type 0 where
  pub place : place_of id (objects_in os rows) ≡ earlier
  pub kind : kind_named id (objects_in os rows) ≡ Some (content_at os n).kind

pub found : (os : List RawObject) (rows : Rows) (id : List ℕ) (earlier n : ℕ)
    → Some earlier ≡ position (bytes_eq id) (keys_of rows) → Some n ≡ lookup (bytes_eq id) rows
    → IsFound os rows id earlier n
found os rows id earlier n at has = record {
  place = place_in os rows id ∙ at_place _ _ _ at;
  kind = ap kind_in (object_in os rows id ∙ sym (ap (at_number os) has));
}

pub stands_found : (os : List RawObject) (rows : Rows) (id : List ℕ) (k : Kind) (place earlier n : ℕ)
    → IsFound os rows id earlier n → earlier < place → (content_at os n).kind ≡ k
    → StandsBefore (objects_in os rows) place (reference k id)
stands_found os rows id k place earlier n f lt same =
    record { before = let p = f.place in omega (arith, p, lt); kind = f.kind ∙ ap (λ (j : Kind). Some j) same }

pub found_before : (os : List RawObject) (rows : Rows) (id : List ℕ) (k : Kind) (place earlier n : ℕ)
    → IsFound os rows id earlier n → StandsBefore (objects_in os rows) place (reference k id) → earlier < place
found_before os rows id k place earlier n f s = let p = f.place in let b = s.before in omega (arith, p, b)

pub found_kind : (os : List RawObject) (rows : Rows) (id : List ℕ) (k : Kind) (place earlier n : ℕ)
    → IsFound os rows id earlier n → StandsBefore (objects_in os rows) place (reference k id) → (content_at os n).kind ≡ k
found_kind os rows id k place earlier n f s = let p = f.kind in let b = s.kind in cc

pub stands_nowhere : (os : List RawObject) (rows : Rows) (id : List ℕ) (k : Kind) (place : ℕ)
    → None ≡ lookup (bytes_eq id) rows → StandsBefore (objects_in os rows) place (reference k id) → ⊥
stands_nowhere os rows id k place none s =
    let e : kind_named id (objects_in os rows) ≡ None = ap kind_in (object_in os rows id ∙ sym (ap (at_number os) none)) in
    let b = s.kind in cc

-- ---- what a tree refers to

-- What holds of what an entry refers to, gitlinks aside.
abbrev Refers : (Reference → Type 0) → TreeEntry → Type 0
Refers P e = is_reference e.mode ≡ true → P (reference (kind_of_mode e.mode) e.id)

entries_forth : (P : Reference → Type 0) (es : List TreeEntry) → All (Refers P) es → All P (tree_references es)
entries_forth P [] h = All-nil P
entries_forth P (e ∷ es) h = by (entries_forth P es (All-tail (Refers P) e es h)) (All-head (Refers P) e es h) e.mode refl
  where
    by : All P (tree_references es) → Refers P e → (m : FileMode) → e.mode ≡ m → All P (tree_references (e ∷ es))
    by rest one mode.Regular is = let o = rw is at one in rw is (All-cons P _ _ (o refl) rest)
    by rest one mode.Executable is = let o = rw is at one in rw is (All-cons P _ _ (o refl) rest)
    by rest one mode.Symlink is = let o = rw is at one in rw is (All-cons P _ _ (o refl) rest)
    by rest one mode.Directory is = let o = rw is at one in rw is (All-cons P _ _ (o refl) rest)
    by rest one mode.Gitlink is = rw is rest

entries_back : (P : Reference → Type 0) (es : List TreeEntry) → All P (tree_references es) → All (Refers P) es
entries_back P [] h = All-nil (Refers P)
entries_back P (e ∷ es) h = by (entries_back P es) e.mode refl
  where
    by : (All P (tree_references es) → All (Refers P) es) → (m : FileMode) → e.mode ≡ m → All (Refers P) (e ∷ es)
    by rest mode.Regular is = let all = rw is at h in All-cons (Refers P) e es (rw is (λ _. All-head P _ _ all)) (rest (All-tail P _ _ all))
    by rest mode.Executable is = let all = rw is at h in All-cons (Refers P) e es (rw is (λ _. All-head P _ _ all)) (rest (All-tail P _ _ all))
    by rest mode.Symlink is = let all = rw is at h in All-cons (Refers P) e es (rw is (λ _. All-head P _ _ all)) (rest (All-tail P _ _ all))
    by rest mode.Directory is = let all = rw is at h in All-cons (Refers P) e es (rw is (λ _. All-head P _ _ all)) (rest (All-tail P _ _ all))
    by rest mode.Gitlink is = let all = rw is at h in All-cons (Refers P) e es (rw is (λ no. cc)) (rest all)

pub tree_refers : (os : List Object) (place : ℕ) (es : List TreeEntry)
    → All (EntryStands os place) es ↔ All (StandsBefore os place) (tree_references es)
tree_refers os place es = (entries_forth (StandsBefore os place) es, entries_back (StandsBefore os place) es)

pub tree_connected : (os : List Object) (place : ℕ) (es : List TreeEntry) (bytes : List ℕ) (b : Bool) → es ≡ tree_read bytes
    → (IsTrue b ↔ All (EntryStands os place) es) → IsTrue b ↔ All (StandsBefore os place) (tree_references (tree_read bytes))
tree_connected os place es bytes b e h =
    let t = tree_refers os place es in
    subst (λ (xs : List TreeEntry). IsTrue b ↔ All (StandsBefore os place) (tree_references xs)) e (λ y. t.0 (h.0 y), λ q. h.1 (t.1 q))

-- ---- what commits and tags refer to

pub all_mapped : {X Y : Type 0} (P : Y → Type 0) (f : X → Y) (xs : List X) → All P (map f xs) → All (λ x. P (f x)) xs
all_mapped P f xs h i d l = subst P (get_or-map f xs i d (f d) l) (h i (f d) (subst (λ (n : ℕ). i < n) (sym (length-map xs f)) l))

pub one_stands : (P : Reference → Type 0) (r : Reference) (b : Bool) → (IsTrue b ↔ P r) → IsTrue b ↔ All P (r ∷ [])
one_stands P r b h = (λ y. All-cons P r [] (h.0 y) (All-nil P), λ q. h.1 (All-head P r [] q))

-- ---- the object at a place

-- What the object of a number can store is a text.
pub is_stored_text : (os : List RawObject) (n : ℕ) → All CanStore os → IsText (content_at os n).kind (content_at os n).bytes
unfolding content_at
is_stored_text [] n h = tt
is_stored_text (o ∷ os) zero h =
    let q = All-head CanStore o os h in
    subst (λ (x : RawObject). IsText (content_of x).kind (content_of x).bytes) (sym q.1)
    (subst (λ (k : Kind). IsText k q.0.bytes) (sym (kind_again q.0.kind)) q.2.1)
is_stored_text (o ∷ os) (suc n) h = is_stored_text os n (All-tail CanStore o os h)

pub own_length : (os : List RawObject) (rows : Rows) → length (objects_in os rows) ≡ length rows
unfolding objects_in
own_length os rows = length-map rows _

pub own_content : (os : List RawObject) (rows : Rows) (place : ℕ) (id : List ℕ) (n : ℕ)
    → slice_get rows place ≡ Some (id, n) → (object_at place (objects_in os rows)).content ≡ content_at os n
unfolding object_at objects_in
own_content os rows place id n e =
    ap (λ (o : Object). o.content) (get_or-map _ rows place (id, n) no_object (slice_get_within rows place (id, n) e))
    ∙ ap (λ (r : List ℕ × ℕ). content_at os r.1) (get_or_from_slice_get rows place (id, n) (id, n) e)

pub own_past : (os : List RawObject) (rows : Rows) (place : ℕ) → slice_get rows place ≡ None
    → references_in (object_at place (objects_in os rows)).content ≡ []
unfolding object_at objects_in
own_past os [] place e = refl
own_past os (r ∷ rs) zero e = cc
own_past os (r ∷ rs) (suc n) e = own_past os rs n e
