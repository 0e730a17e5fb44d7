-- The objects of a tenant in turn, each read once.
use Rattle.std.proofs.Common.{◌≡◌, ◌≢◌, ℕ, zero, suc, ◌<◌, ◌≤◌, ◌+◌, Bool, true, false, cond, List, [], ◌∷◌, ◌++◌, codes, drop, length, get_or, take, Option, None, Some, Result, Ok, Err, refl, sym, ap, subst, ◌∙◌, append_assoc, append-nil, arith, inl, inr, drop-cons}
use Rattle.std.specs.Prelude.{All, IfOk, IfSome, IsSomeAnd, slice_get}
use Rattle.std.specs.Bool.{OnTrue}
use Rattle.std.specs.List.{IsDistinct}
use Rattle.std.specs.Map.{lookup}
use Rattle.std.specs.Option.{option_map, unwrap_or}
use Rattle.std.specs.Str.{bytes_eq}
use Rattle.std.proofs.lemmas.Bool.{cases_lt, OnTrue_at}
use Rattle.std.proofs.lemmas.List.{drop_all, get_or-map, length-append, length_push, take_at, take-append-le}
use Rattle.std.proofs.lemmas.Option.{get_or_from_slice_get, slice_get_within}
use Rattle.std.proofs.lemmas.Slice.Eq.{bytes_eq-Decides}
use Rattle.git_model.specs.declared.kind.Kind.{Kind}
use Rattle.git_model.specs.declared.kind.Kind.TheVariants as kind
use Rattle.git_model.specs.declared.file_mode.FileMode.{FileMode}
use Rattle.git_model.specs.declared.file_mode.FileMode.TheVariants as mode
use Rattle.git_model.specs.Tree.{TreeEntry, CanWriteTree, tree_contents}
use Rattle.git_model.specs.TreeReading.{tree_read}
use Rattle.git_model.specs.Tag.{Tag, CanWriteTag, tag_contents}
use Rattle.git_model.specs.Commit.{Commit, CanWriteCommit, commit_contents}
use Rattle.git_model.specs.Content.{Content, content_from}
use Rattle.git_model.specs.Repository.{Object, object_named}
use Rattle.git_model.specs.References.{references_in, tree_references, object_at, no_object, place_of, kind_named}
use Rattle.git_model.specs.GoodRepository.{StandsBefore, IsCommit, IsTag}
use Rattle.git_model.proofs.Places.{stands_at}
use Rattle.tenant_tables.specs.declared.summary.Summary.{Summary}
use Rattle.tenant_tables.specs.Trees.{no_files, below, one_file, by_mode}
use Rattle.pool_file_format.specs.Format.{RawObject}
use Rattle.pool_file_checks.specs.Objects.{IsContent, IsTreeText}
use Rattle.pool_file_checks.specs.Own.{content_at, Rows, objects_in, AreDistinct}
use Rattle.pool_file_checks.specs.Sums.{Sums, Fits, FitsAfter, HasFiles, TreesFit, sum_of_entry, sum_of_tree, sums_with}
use Rattle.pool_file_checks.specs.Quick.{Joins, AreGood, AreGoodBefore, AreGoodFirst, AreKept, AreSums, HasSum, IsGoodAt}
use Rattle.pool_file_checks.specs.Connecting.{EntryStands}
use Rattle.pool_file_checks.proofs.ConnectLemmas.{tree_refers}
use Rattle.pool_file_checks.proofs.OwnObjects.{ids, ids_of_rows, place_at, apart}

-- ---- answers

pub some_on : {A : Type 0} (P Q : Type 0) (o : Option A) → (P → Q) → IfSome o (λ _. P) → IfSome o (λ _. Q)
some_on P Q None f h = tt
some_on P Q (Some x) f h = f h

pub some_each : {A : Type 0} (P Q : A → Type 0) (o : Option A) → ((x : A) → P x → Q x) → IfSome o P → IfSome o Q
some_each P Q None f h = tt
some_each P Q (Some x) f h = f x h

pub found_each : {A E : Type 0} (P Q : A → Type 0) (r : Result (Option A) E) → ((x : A) → P x → Q x)
    → IfOk r (λ o. IfSome o P) → IfOk r (λ o. IfSome o Q)
found_each P Q (Ok o) f h = some_each P Q o f h
found_each P Q (Err e) f h = tt

-- ---- contents within the limits

pub tag_within : (bytes : List ℕ) (made : Tag) → CanWriteTag made → bytes ≡ tag_contents made → length made.name ≤ 1014
    → (t : Tag) × IsTag bytes t
tag_within bytes made writable contents short = (
  made,
  record {
    writable = writable;
    contents = contents;
    short_name = let s = length-append (codes "refs/tags/") made.name in omega (arith, short, s);
  },
)

pub commit_within : (bytes : List ℕ) (made : Commit) → CanWriteCommit made → bytes ≡ commit_contents made → length made.parents ≤ 1024
    → (c : Commit) × IsCommit bytes c
commit_within bytes made writable contents few = (made, record { writable = writable; contents = contents; few_parents = few })

-- ---- the object at a place

own_object : (os : List RawObject) (rows : Rows) (place : ℕ) (id : List ℕ) (n : ℕ)
    → slice_get rows place ≡ Some (id, n) → object_at place (objects_in os rows) ≡ record { id = id; content = content_at os n }
unfolding object_at objects_in
own_object os rows place id n e =
    get_or-map _ rows place (id, n) no_object (slice_get_within rows place (id, n) e)
    ∙ ap (λ (r : List ℕ × ℕ). record { id = r.0; content = content_at os r.1 }) (get_or_from_slice_get rows place (id, n) (id, n) e)

module _ (os : List RawObject) (rows : Rows) (place : ℕ) (id : List ℕ) (n : ℕ) (k : Kind) (bytes : List ℕ)
    (at : slice_get rows place ≡ Some (id, n)) (is : content_from k bytes ≡ content_at os n) where
  pub content_here : IsContent (content_from k bytes) → IsContent (object_at place (objects_in os rows)).content
  content_here c =
      subst (λ (o : Object). IsContent o.content) (sym (own_object os rows place id n at)) (subst IsContent is c)

  pub joins_here : (old new : List Summary) → Joins (objects_in os rows) place k bytes old new
      → Joins (objects_in os rows) place (object_at place (objects_in os rows)).content.kind
      (object_at place (objects_in os rows)).content.bytes old new
  joins_here old new j =
      subst (λ (o : Object). Joins (objects_in os rows) place o.content.kind o.content.bytes old new) (sym (own_object os rows place id n at))
      (subst (λ (c : Content). Joins (objects_in os rows) place c.kind c.bytes old new) is j)

-- ---- the sum of a tree

-- What a directory adds, by the sum that is noted of its tree.
pub directory_entry : (noted : Sums) (e : TreeEntry) (r : Option Summary) → e.mode ≡ mode.Directory
    → IfSome r (λ sum. IsSomeAnd (lookup (bytes_eq e.id) noted) (λ s. (s.files ≢ 0) × (sum ≡ below e.name s)))
    → IfSome r (λ sum. HasFiles noted e × (sum ≡ sum_of_entry noted e))
directory_entry noted e None is h = tt
directory_entry noted e (Some sum) is h = by (lookup (bytes_eq e.id) noted) refl h
  where
    by : (o : Option Summary) → lookup (bytes_eq e.id) noted ≡ o → IsSomeAnd o (λ s. (s.files ≢ 0) × (sum ≡ below e.name s))
        → HasFiles noted e × (sum ≡ sum_of_entry noted e)
    by None at q = absurd q
    by (Some s) at q = (
      λ _. subst (λ (o : Option Summary). IsSomeAnd o (λ t. t.files ≢ 0)) (sym at) q.0,
      q.1 ∙ ap (λ (o : Option Summary). below e.name (unwrap_or o no_files)) (sym at)
          ∙ ap (λ (m : FileMode). by_mode m (below e.name (unwrap_or (lookup (bytes_eq e.id) noted) no_files)) (one_file e.name)) (sym is),
    )

pub read_sum : (noted : Sums) (bytes : List ℕ) (es : List TreeEntry) (sum : Summary) → es ≡ tree_read bytes → CanWriteTree es → bytes ≡ tree_contents es
    → FitsAfter noted es × (sum ≡ sum_of_tree noted es) → Fits kind.Tree bytes noted × (sum ≡ sum_of_tree noted (tree_read bytes))
read_sum noted bytes es sum read writable contents h =
    subst (λ (xs : List TreeEntry). (IsTreeText bytes xs × FitsAfter noted xs) × (sum ≡ sum_of_tree noted xs)) read
    ((record { writable = writable; contents = contents }, h.0), h.1)

-- What is read is good, if its entries stand and fit.
pub read_is_good : (os : List Object) (place : ℕ) (kept : List Summary) (bytes : List ℕ) (es : List TreeEntry) (r : Option Summary)
    → es ≡ tree_read bytes → CanWriteTree es → bytes ≡ tree_contents es → IfSome r (λ _. All (EntryStands os place) es)
    → ((noted : Sums) → AreKept os place kept noted → IfSome r (λ sum. FitsAfter noted es × (sum ≡ sum_of_tree noted es)))
    → IfSome r (IsGoodAt os place kept kind.Tree bytes)
read_is_good os place kept bytes es None read writable contents stands sum = tt
read_is_good os place kept bytes es (Some s) read writable contents stands sum = record {
  text = (es, record { writable = writable; contents = contents });
  stands = subst (λ (xs : List TreeEntry). All (StandsBefore os place) (tree_references xs)) read ((tree_refers os place es).0 stands);
  fits = λ noted are. let h = read_sum noted bytes es s read writable contents (sum noted are) in (h.0, λ _. h.1);
}

-- ---- in turn

-- The objects before a place are good, and those that are left decide about the trees.
pub record GoodSoFar (os : List Object) (place : ℕ) (kept : List Summary) : Type 0 where
  pub before : AreGoodBefore os place kept
  pub contents : (i : ℕ) → i < place → IsContent (object_at i os).content
  pub connected : (i : ℕ) → i < place → All (StandsBefore os i) (references_in (object_at i os).content)
  pub sums : Sums
  pub are_kept : AreKept os place kept sums
  pub trees : TreesFit sums (drop place os) → TreesFit [] os
  pub summed : (rest : List Summary) → AreSums sums rest (drop place os) → AreSums [] (kept ++ rest) os

pub good_start : (os : List Object) (kept : List Summary) → kept ≡ [] → GoodSoFar os 0 kept
good_start os kept none = record {
  before = record { size = ap length none; each = λ i lt. absurd (omega (arith, lt)) };
  contents = λ i lt. absurd (omega (arith, lt));
  connected = λ i lt. absurd (omega (arith, lt));
  sums = [];
  are_kept = record { size = ap length none; each = λ id lt is. absurd (omega (arith, lt)) };
  trees = λ t. t;
  summed = λ rest t. subst (λ (l : List Summary). AreSums [] (l ++ rest) os) (sym none) t;
}

left_here : (os : List Object) (place : ℕ) → place < length os → drop place os ≡ object_at place os ∷ drop (place + 1) os
unfolding object_at
left_here os place lt =
    let next : suc place ≡ place + 1 = omega arith in
    drop-cons os place no_object lt ∙ ap (λ (n : ℕ). get_or os place no_object ∷ drop n os) next

-- what holds at each place before, and at this one
one_more : (P : ℕ → Type 0) (place : ℕ) → ((i : ℕ) → i < place → P i) → P place → (i : ℕ) → i < place + 1 → P i
one_more P place before here i lt = elim (cases_lt i place) [
  | inl less ↦ before i less
  | inr more ↦ subst P (omega (arith, lt, more)) here
]

get_before : (xs : List Summary) (x : Summary) (i : ℕ) (d : Summary) → i < length xs → get_or (xs ++ x ∷ []) i d ≡ get_or xs i d
get_before [] x i d lt = absurd (omega (arith, lt))
get_before (y ∷ ys) x zero d lt = refl
get_before (y ∷ ys) x (suc i) d lt = get_before ys x i d (omega (arith, lt))

get_added : (xs : List Summary) (x : Summary) (i : ℕ) (d : Summary) → i ≡ length xs → get_or (xs ++ x ∷ []) i d ≡ x
get_added [] x zero d e = refl
get_added [] x (suc i) d e = absurd (omega (arith, e))
get_added (y ∷ ys) x zero d e = absurd (omega (arith, e))
get_added (y ∷ ys) x (suc i) d e = get_added ys x i d (omega (arith, e))

-- the object that a name finds
named_at : (id : List ℕ) (os : List Object) (k : Kind) → kind_named id os ≡ Some k
    → (object_at (place_of id os) os).content.kind ≡ k × (id ≡ (object_at (place_of id os) os).id)
named_at id os k is = by (object_named id os) refl is
  where
    by : (o : Option Content) → object_named id os ≡ o → option_map (λ (c : Content). c.kind) o ≡ Some k
        → (object_at (place_of id os) os).content.kind ≡ k × (id ≡ (object_at (place_of id os) os).id)
    by None at e = cc
    by (Some c) at e =
        let stands = stands_at id os c at in
        let kind : c.kind ≡ k = cc in (
          ap (λ (o : Object). o.content.kind) stands.object ∙ kind,
          sym (ap (λ (o : Object). o.id) stands.object),
        )

place_here : (os : List Object) (place : ℕ) → IsDistinct bytes_eq (ids os) → place < length os → place_of (object_at place os).id os ≡ place
unfolding object_at
place_here os place distinct lt = place_at os place no_object distinct lt

other_name : (os : List Object) (place : ℕ) (id : List ℕ) → IsDistinct bytes_eq (ids os) → place < length os → place_of id os < place
    → bytes_eq id (object_at place os).id ≡ false
other_name os place id distinct lt less = apart (bytes_eq id (object_at place os).id) (λ e.
    let same : id ≡ (object_at place os).id = (bytes_eq-Decides id (object_at place os).id).0 e in
    let at : place_of id os ≡ place = ap (λ (x : List ℕ). place_of x os) same ∙ place_here os place distinct lt in
    omega (arith, at, less))

-- the summaries that are kept after one object more
module _ (os : List Object) (place : ℕ) (old new : List Summary) (sums : Sums) (sum : Summary) (distinct : IsDistinct bytes_eq (ids os))
    (lt : place < length os) (kept : AreKept os place old sums) (added : new ≡ old ++ sum ∷ []) where
  size_on : length new ≡ place + 1
  size_on = ap length added ∙ length-append old (sum ∷ []) ∙ (let s = kept.size in omega (arith, s))

  kept_before : (id : List ℕ) → place_of id os < place → kind_named id os ≡ Some kind.Tree
      → lookup (bytes_eq id) sums ≡ Some (get_or new (place_of id os) no_files)
  kept_before id less is =
      kept.each id less is
      ∙ ap (λ (s : Summary). Some s) (sym (get_before old sum (place_of id os) no_files (let s = kept.size in omega (arith, s, less)))
      ∙ ap (λ (l : List Summary). get_or l (place_of id os) no_files) (sym added))

  pub tree_kept : (bytes : List ℕ) → sum ≡ sum_of_tree sums (tree_read bytes)
      → AreKept os (place + 1) new (sums_with kind.Tree (object_at place os).id bytes sums)
  tree_kept bytes is = record {
    size = size_on;
    each = λ id below_next tree. elim (cases_lt (place_of id os) place) [
      | inl less ↦
          ap (λ (b : Bool). cond b (Some (sum_of_tree sums (tree_read bytes))) (lookup (bytes_eq id) sums)) (other_name os place id distinct lt less)
          ∙ kept_before id less tree
      | inr more ↦
          let here : place_of id os ≡ place = omega (arith, below_next, more) in
          let same : bytes_eq id (object_at place os).id ≡ true =
          (bytes_eq-Decides id (object_at place os).id).1 ((named_at id os kind.Tree tree).1 ∙ ap (λ (n : ℕ). (object_at n os).id) here) in
          ap (λ (b : Bool). cond b (Some (sum_of_tree sums (tree_read bytes))) (lookup (bytes_eq id) sums)) same
          ∙ ap (λ (s : Summary). Some s) (sym is ∙ sym (get_added old sum (place_of id os) no_files (let s = kept.size in omega (arith, s, here)))
          ∙ ap (λ (l : List Summary). get_or l (place_of id os) no_files) (sym added))
    ];
  }

  pub other_kept : ((object_at place os).content.kind ≡ kind.Tree → ⊥) → AreKept os (place + 1) new sums
  other_kept never = record {
    size = size_on;
    each = λ id below_next tree. elim (cases_lt (place_of id os) place) [
      | inl less ↦ kept_before id less tree
      | inr more ↦
          let here : place_of id os ≡ place = omega (arith, below_next, more) in
          absurd (never (ap (λ (n : ℕ). (object_at n os).content.kind) (sym here) ∙ (named_at id os kind.Tree tree).0))
    ];
  }

kept_on : (os : List Object) (place : ℕ) (k : Kind) (bytes : List ℕ) (old new : List Summary) (sums : Sums) (sum : Summary)
    → (object_at place os).content.kind ≡ k → IsDistinct bytes_eq (ids os)
    → place < length os → AreKept os place old sums → new ≡ old ++ sum ∷ [] → HasSum k bytes sums sum
    → AreKept os (place + 1) new (sums_with k (object_at place os).id bytes sums)
kept_on os place kind.Tree bytes old new sums sum is distinct lt kept added h = tree_kept os place old new sums sum distinct lt kept added bytes (h.1 refl)
kept_on os place kind.Blob bytes old new sums sum is distinct lt kept added h = other_kept os place old new sums sum distinct lt kept added (λ e. let f = sym is ∙ e in cc)
kept_on os place kind.Commit bytes old new sums sum is distinct lt kept added h = other_kept os place old new sums sum distinct lt kept added (λ e. let f = sym is ∙ e in cc)
kept_on os place kind.Tag bytes old new sums sum is distinct lt kept added h = other_kept os place old new sums sum distinct lt kept added (λ e. let f = sym is ∙ e in cc)

-- The object at a place joins those before it.
before_on : (os : List Object) (place : ℕ) (old new : List Summary) → AreGoodBefore os place old
    → Joins os place (object_at place os).content.kind (object_at place os).content.bytes old new
    → AreGoodBefore os (place + 1) new
before_on os place old new s j = record { size = long; each = one_more P place earlier here }
  where
    P : ℕ → Type 0
    P i = IsGoodAt os i (take i new) (object_at i os).content.kind (object_at i os).content.bytes (get_or new i no_files)

    long : length new ≡ place + 1
    long = ap length j.added ∙ length_push old j.sum ∙ ap (λ (n : ℕ). n + 1) s.size

    earlier : (i : ℕ) → i < place → P i
    earlier i lt =
        let l = s.size in
        let kept : take i old ≡ take i new = sym (ap (take i) j.added ∙ take-append-le i old (j.sum ∷ []) (omega (arith, lt, l))) in
        let sum : get_or old i no_files ≡ get_or new i no_files =
        sym (ap (λ (xs : List Summary). get_or xs i no_files) j.added ∙ get_before old j.sum i no_files (omega (arith, lt, l))) in
        subst (λ (x : Summary). IsGoodAt os i (take i new) (object_at i os).content.kind (object_at i os).content.bytes x) sum
        (subst (λ (xs : List Summary). IsGoodAt os i xs (object_at i os).content.kind (object_at i os).content.bytes (get_or old i no_files)) kept (s.each i lt))

    here : P place
    here =
        let l = s.size in
        let kept : take place new ≡ old = ap (take place) j.added ∙ take_at old (j.sum ∷ []) place l in
        let sum : get_or new place no_files ≡ j.sum =
        ap (λ (xs : List Summary). get_or xs place no_files) j.added ∙ get_added old j.sum place no_files (sym l) in
        subst (λ (x : Summary). IsGoodAt os place (take place new) (object_at place os).content.kind (object_at place os).content.bytes x) (sym sum)
        (subst (λ (xs : List Summary). IsGoodAt os place xs (object_at place os).content.kind (object_at place os).content.bytes j.sum) (sym kept)
        j.good)

-- The same of those that are good and have contents of their kinds.
pub first_on : (os : List Object) (place : ℕ) (old new : List Summary) (b : Bool) (most : ℕ) → AreGoodFirst os old → length old ≡ place → place < most → b ≡ true
    → OnTrue b (IsContent (object_at place os).content)
    → OnTrue b (Joins os place (object_at place os).content.kind (object_at place os).content.bytes old new)
    → AreGoodFirst os new × ((length new ≡ place + 1) × (place + 1 ≤ most))
first_on os place old new b most g size lt holds content joins =
    let j : Joins os place (object_at place os).content.kind (object_at place os).content.bytes old new = OnTrue_at holds joins in
    let all = before_on os place old new (subst (λ (n : ℕ). AreGoodBefore os n old) size g.before) j in
    let long : length new ≡ place + 1 = all.size in (
      subst (λ (n : ℕ). AreGoodBefore os n new × ((i : ℕ) → i < n → IsContent (object_at i os).content) → AreGoodFirst os new) long
          (λ h. record { before = h.0; contents = h.1 }) (
            all,
            one_more (λ i. IsContent (object_at i os).content) place
                (subst (λ (n : ℕ). (i : ℕ) → i < n → IsContent (object_at i os).content) size g.contents) (OnTrue_at holds content),
          ),
      (long, omega (arith, lt)),
    )

pub good_on : (os : List Object) (place : ℕ) (old new : List Summary) (b : Bool) → IsDistinct bytes_eq (ids os) → place < length os
    → GoodSoFar os place old → b ≡ true
    → OnTrue b (IsContent (object_at place os).content)
    → OnTrue b (Joins os place (object_at place os).content.kind (object_at place os).content.bytes old new)
    → GoodSoFar os (place + 1) new
good_on os place old new b distinct lt s holds content joins =
    let o = object_at place os in
    let c : IsContent o.content = OnTrue_at holds content in
    let j : Joins os place o.content.kind o.content.bytes old new = OnTrue_at holds joins in
    let h : HasSum o.content.kind o.content.bytes s.sums j.sum = j.good.fits s.sums s.are_kept in record {
      before = before_on os place old new s.before j;
      contents = one_more (λ i. IsContent (object_at i os).content) place s.contents c;
      connected = one_more (λ i. All (StandsBefore os i) (references_in (object_at i os).content)) place s.connected j.good.stands;
      sums = sums_with o.content.kind o.id o.content.bytes s.sums;
      are_kept = kept_on os place o.content.kind o.content.bytes old new s.sums j.sum refl distinct lt s.are_kept j.added h;
      trees = λ t. s.trees (subst (TreesFit s.sums) (sym (left_here os place lt)) (h.0, t));
      summed = λ rest t.
          subst (λ (l : List Summary). AreSums [] l os) (sym (append_assoc old (j.sum ∷ []) rest) ∙ ap (λ (l : List Summary). l ++ rest) (sym j.added))
          (s.summed (j.sum ∷ rest) (subst (λ (l : List Object). AreSums s.sums (j.sum ∷ rest) l) (sym (left_here os place lt)) (h.1, t)));
    }

pub good_end : (os : List Object) (place : ℕ) (kept : List Summary) → length os ≤ place → GoodSoFar os place kept → AreGood os
good_end os place kept past s = record {
  contents = λ i lt. s.contents i (omega (arith, past, lt));
  connected = λ i lt. s.connected i (omega (arith, past, lt));
  trees = s.trees (subst (TreesFit s.sums) (sym (drop_all place os past)) tt);
}

pub sums_end : (os : List Object) (place : ℕ) (kept : List Summary) → GoodSoFar os place kept → AreSums [] kept os
sums_end os place kept s = subst (λ (l : List Summary). AreSums [] l os) (append-nil kept) (s.summed [] tt)

pub own_distinct : (os : List RawObject) (rows : Rows) → AreDistinct rows → IsDistinct bytes_eq (ids (objects_in os rows))
own_distinct os rows d = subst (IsDistinct bytes_eq) (sym (ids_of_rows os rows)) d
