-- The objects of a tenant, added to its table one after another.
use Rattle.std.proofs.Common.{◌≡◌, ℕ, zero, suc, ◌+◌, ◌<◌, ◌≤◌, Bool, true, false, cond, List, [], ◌∷◌, ◌++◌, length, drop, get_or, Option, None, Some, is_some, Result, Ok, Err, refl, sym, ap, subst, ◌∙◌, append_assoc, append-nil, arith, length-append}
use Rattle.std.specs.Prelude.{All, OnOk, slice_index_or}
use Rattle.std.specs.List.{AllByRecursion, IsDistinct}
use Rattle.std.specs.Map.{lookup}
use Rattle.std.specs.Option.{option_map, option_and_then}
use Rattle.std.specs.Str.{bytes_eq}
use Rattle.std.proofs.lemmas.List.{get_or-map, length-map, drop_all}
use Rattle.std.proofs.lemmas.Map.Keys.{IsDistinct-head, IsDistinct-tail}
use Rattle.std.proofs.lemmas.Slice.Eq.{bytes_eq-Decides}
use Rattle.git_model.specs.declared.kind.Kind.{Kind}
use Rattle.git_model.specs.declared.kind.Kind.TheVariants as kind
use Rattle.git_model.specs.Content.{Content, name_by}
use Rattle.git_model.specs.Repository.{Object, object_named}
use Rattle.git_model.specs.TreeReading.{tree_read}
use Rattle.content_pool.specs.Pool.{Cells, content, IsLive}
use Rattle.tenant_tables.specs.declared.table.TheConstants.{CONTENTS_LIMIT}
use Rattle.tenant_tables.specs.declared.entry.Entry.{Entry}
use Rattle.tenant_tables.specs.declared.summary.Summary.{Summary}
use Rattle.tenant_tables.specs.View.{View, Entries, entry_named, summary_of}
use Rattle.tenant_tables.specs.Objects.{objects}
use Rattle.tenant_tables.specs.Adding.{Adds}
use Rattle.tenant_tables.specs.Room.{HasHoldsLeftBeside}
use Rattle.tenant_tables.specs.IsBackedBy.{IsBackedBy, PreservesOthers}
use Rattle.tenant_tables.specs.Summed.{SummedAfter}
use Rattle.tenant_tables.proofs.HoldLemmas.{held-nil, object_named-objects}
use Rattle.tenant_tables.proofs.RoomLemmas.{has_room, room-after}
use Rattle.tenant_tables.proofs.TableLemmas.{IsBackedBy-nil, PreservesOthers-refl, PreservesOthers-then, length-objects}
use Rattle.pool_file_format.specs.Format.{RawObject, RawTenant}
use Rattle.pool_file_checks.specs.Checks.{Passes}
use Rattle.pool_file_checks.specs.Objects.{raw_object, object_checks, CanStore}
use Rattle.pool_file_checks.specs.Own.{content_of, content_at, names_of, row, rows_of, objects_in, own_objects}
use Rattle.pool_file_checks.specs.Sums.{Sums, SameSums, Fits, TreesFit, sum_of_tree, sums_with}
use Rattle.pool_file_checks.proofs.SumLemmas.{same_trees, own_sum, summed_after, none_noted}
use Rattle.pool_file_checks.proofs.TenantLemmas.{left_at}
use Rattle.pool_file_checks.proofs.Members.{has_at}
use Rattle.pool_file_checks.proofs.Passing.{can_store, holds}
use Rattle.pool_file_checks.proofs.Keys.{content_again}
use Rattle.pool_file_checks.proofs.OwnObjects.{ids, own_distinct, own_length}
use Rattle.pool_file_checks.proofs.RawTenants.{name_of_number}
use Rattle.pool_file.specs.Building.{objects_at, IsChecked, LoadsAll, MayLoad}
use Rattle.pool_file.specs.Tables.{AreNoted, object_of, CanLoad, Loads, sums_on}
use Rattle.pool_file.proofs.Slots.{numbers_in}

-- ---- the object of a number

pub any_default : {A : Type 0} (xs : List A) (i : ℕ) (d e : A) → i < length xs → get_or xs i d ≡ get_or xs i e
any_default [] i d e l = absurd (omega (arith, l))
any_default (x ∷ xs) zero d e l = refl
any_default (x ∷ xs) (suc i) d e l = any_default xs i d e (omega (arith, l))

module _ (pool : Cells) (slots : List ℕ) (n slot : ℕ) (l : n < length slots) (at : slot ≡ get_or slots n slot) where
  raw_at : (d : RawObject) → get_or (objects_at pool slots) n d ≡ raw_object (content pool slot)
  unfolding objects_at
  raw_at d =
      get_or-map (λ s. raw_object (content pool s)) slots n slot d l
      ∙ ap (λ (s : ℕ). raw_object (content pool s)) (sym at)

  within : n < length (objects_at pool slots)
  unfolding objects_at
  within = let size = length-map slots (λ s. raw_object (content pool s)) in omega (arith, l, size)

  pub content_is : content_at (objects_at pool slots) n ≡ content pool slot
  unfolding content_at
  content_is = ap content_of (raw_at (record { kind = 3; bytes = [] })) ∙ content_again (content pool slot)

  pub is_short : Passes (object_checks None (objects_at pool slots)) → length (content pool slot).bytes ≤ CONTENTS_LIMIT
  is_short p =
      let o = raw_object (content pool slot) in
      let can : CanStore o =
      subst CanStore (raw_at o) (can_store None (objects_at pool slots) (get_or (objects_at pool slots) n o) p (has_at (objects_at pool slots) n o within)) in
      let same : content pool slot ≡ can.0 = sym (content_again (content pool slot)) ∙ ap content_of can.1 ∙ content_again can.0 in
      subst (λ (c : Content). length c.bytes ≤ CONTENTS_LIMIT) (sym same) can.2.0

  pub object_is : (digest : List ℕ → List ℕ)
      → ◌≡◌ {A = Object} (record { id = slice_index_or (names_of digest (objects_at pool slots)) n []; content = content_at (objects_at pool slots) n }) (object_of digest (content pool slot))
  object_is digest =
      let name = name_of_number digest (objects_at pool slots) n within ∙ ap (name_by digest) content_is in
      λ i. record { id = name i; content = content_is i }

-- the objects that are left from a place on
pub own_left : (digest : List ℕ → List ℕ) (pool : Cells) (slots numbers : List ℕ) (i n slot : ℕ) → i < length numbers
    → n ≡ get_or numbers i n → n < length slots → slot ≡ get_or slots n slot
    → drop i (own_objects digest (objects_at pool slots) numbers)
    ≡ object_of digest (content pool slot) ∷ drop (i + 1) (own_objects digest (objects_at pool slots) numbers)
unfolding objects_in
own_left digest pool slots numbers i n slot l is below at =
    let os = objects_at pool slots in
    let own = own_objects digest os numbers in
    let names = names_of digest os in
    let o : Object = object_of digest (content pool slot) in
    let size = own_length digest os numbers in
    let here : get_or own i o ≡ o =
    get_or-map (λ r. record { id = r.0; content = content_at os r.1 }) (rows_of names numbers) i (row names n) o (rw (length-map numbers (row names)) l)
    ∙ ap (λ (r : List ℕ × ℕ). record { id = r.0; content = content_at os r.1 }) (get_or-map (row names) numbers i n (row names n) l ∙ ap (row names) (sym is))
    ∙ object_is pool slots n slot below at digest in
    left_at own i o (omega (arith, l, size)) (sym here)

-- ---- a name that is new

pub apart : (a b : List ℕ) → bytes_eq a b ≡ false → bytes_eq b a ≡ false
apart a b differ = by (bytes_eq b a) refl
  where
    by : (t : Bool) → bytes_eq b a ≡ t → bytes_eq b a ≡ false
    by false e = e
    by true e = let yes = (bytes_eq-Decides a b).1 (sym ((bytes_eq-Decides b a).0 e)) in let wrong : true ≡ false = sym yes ∙ differ in cc

among : (P : List ℕ → Type 0) (os : List Object) (o : Object) (rest : List Object)
    → AllByRecursion P (ids (os ++ o ∷ rest)) → P o.id
among P [] o rest h = h.0
among P (x ∷ xs) o rest h = among P xs o rest h.1

pub new_name : (p : Cells) (es : Entries) (o : Object) (rest : List Object)
    → IsDistinct bytes_eq (ids (objects p es ++ o ∷ rest)) → entry_named o.id es ≡ None
unfolding objects entry_named
new_name p [] o rest d = refl
new_name p (x ∷ xs) o rest d =
    let head = IsDistinct-head bytes_eq x.0 (ids (objects p xs ++ o ∷ rest)) d in
    let here : bytes_eq o.id x.0 ≡ false = apart x.0 o.id (among (λ y. bytes_eq x.0 y ≡ false) (objects p xs) o rest head) in
    let later = new_name p xs o rest (IsDistinct-tail bytes_eq x.0 (ids (objects p xs ++ o ∷ rest)) d) in
    ap (λ (b : Bool). cond b (Some x.1) (lookup (bytes_eq o.id) xs)) here ∙ later

-- ---- the sum of one object

-- where it is not among the sums, it is none
sum_here : (k : Kind) (id bytes : List ℕ) (sums : Sums) → lookup (bytes_eq id) sums ≡ None
    → lookup (bytes_eq id) (sums_with k id bytes sums) ≡ own_sum k bytes sums
sum_here kind.Tree id bytes sums none =
    ap (λ (b : Bool). cond b (Some (sum_of_tree sums (tree_read bytes))) (lookup (bytes_eq id) sums)) ((bytes_eq-Decides id id).1 refl)
sum_here kind.Blob id bytes sums none = none
sum_here kind.Commit id bytes sums none = none
sum_here kind.Tag id bytes sums none = none

no_summary : (id : List ℕ) (entries : Entries) → entry_named id entries ≡ None → summary_of id entries ≡ None
no_summary id entries none = ap (option_and_then (λ (e : Entry). e.summary)) none

-- what stands in the table beside the object
pub sum_is : (k : Kind) (id bytes : List ℕ) (sums more : Sums) (entries : Entries) → AreNoted sums entries
    → entry_named id entries ≡ None → SameSums more (sums_with k id bytes sums)
    → lookup (bytes_eq id) more ≡ own_sum k bytes sums
sum_is k id bytes sums more entries noted new same =
    same id ∙ sum_here k id bytes sums (noted id ∙ no_summary id entries new)

noted_by : (k : Kind) (id bytes : List ℕ) (sums : Sums) (other : List ℕ) (b : Bool) → bytes_eq other id ≡ b
    → (bytes_eq other id ≡ true → lookup (bytes_eq other) sums ≡ None)
    → lookup (bytes_eq other) (sums_with k id bytes sums) ≡ cond (bytes_eq other id) (own_sum k bytes sums) (lookup (bytes_eq other) sums)
noted_by kind.Tree id bytes sums other b is none = refl
noted_by kind.Blob id bytes sums other true is none = none is ∙ sym (ap (λ (t : Bool). cond t None (lookup (bytes_eq other) sums)) is)
noted_by kind.Blob id bytes sums other false is none = sym (ap (λ (t : Bool). cond t None (lookup (bytes_eq other) sums)) is)
noted_by kind.Commit id bytes sums other true is none = none is ∙ sym (ap (λ (t : Bool). cond t None (lookup (bytes_eq other) sums)) is)
noted_by kind.Commit id bytes sums other false is none = sym (ap (λ (t : Bool). cond t None (lookup (bytes_eq other) sums)) is)
noted_by kind.Tag id bytes sums other true is none = none is ∙ sym (ap (λ (t : Bool). cond t None (lookup (bytes_eq other) sums)) is)
noted_by kind.Tag id bytes sums other false is none = sym (ap (λ (t : Bool). cond t None (lookup (bytes_eq other) sums)) is)

-- ---- one object more

module _ (digest : List ℕ → List ℕ) (p : Cells) (old : View) (sums : Sums) (slot : ℕ) (can : CanLoad digest p old.entries sums slot) where
  abbrev c : Content
  c = content p slot

  abbrev id : List ℕ
  id = name_by digest c

  pub summed : (more : Sums) → SameSums more (sums_with c.kind id c.bytes sums)
      → SummedAfter old.entries c (lookup (bytes_eq id) more)
  summed more same =
      subst (SummedAfter old.entries c) (sym (sum_is c.kind id c.bytes sums more old.entries can.noted can.new same))
      (summed_after c.kind c.bytes sums old.entries can.noted can.fits)

  none_yet : (other : List ℕ) → bytes_eq other id ≡ true → lookup (bytes_eq other) sums ≡ None
  none_yet other same =
      can.noted other ∙ no_summary other old.entries (ap (λ (x : List ℕ). entry_named x old.entries) ((bytes_eq-Decides other id).0 same) ∙ can.new)

  absent : object_named id (objects p old.entries) ≡ None
  absent = object_named-objects p id old.entries ∙ ap (option_map (λ (e : Entry). content p e.slot)) can.new

  pub loaded : (q : Cells) (new : View) (more : Sums) → IsBackedBy digest q new.entries → PreservesOthers p old.entries q new.entries
      → SameSums more (sums_with c.kind id c.bytes sums)
      → Adds digest c (lookup (bytes_eq id) more) p old q new
      → Loads digest slot p old.entries sums q new.entries more
  loaded q new more stands others same adds = record {
    stands = stands;
    others = others;
    objects =
        adds.objects
        ∙ ap (λ (o : Option Content). cond (is_some o) (objects p old.entries) (objects p old.entries ++ object_of digest c ∷ [])) absent;
    noted = λ other.
        same other ∙ noted_by c.kind id c.bytes sums other (bytes_eq other id) refl (none_yet other)
        ∙ (λ i. cond (bytes_eq other id) (sym (sum_is c.kind id c.bytes sums more old.entries can.noted can.new same) i) (can.noted other i))
        ∙ sym (adds.summaries other);
    trees = same;
  }

-- the sum of the object in the slot, however it was found
module _ (digest : List ℕ → List ℕ) (p : Cells) (old : View) (sums : Sums) (slot : ℕ) (can : CanLoad digest p old.entries sums slot)
    (s : Option Summary) (own : s ≡ own_sum (content p slot).kind (content p slot).bytes sums) where
  abbrev here : Content
  here = content p slot

  abbrev more : Sums
  more = sums_on digest here sums

  sum_found : s ≡ lookup (bytes_eq (name_by digest here)) more
  sum_found =
      own ∙ sym (sum_is here.kind (name_by digest here) here.bytes sums more old.entries can.noted can.new (λ id. refl))

  pub summed_own : SummedAfter old.entries here s
  summed_own = subst (SummedAfter old.entries here) (sym sum_found) (summed digest p old sums slot can more (λ id. refl))

  pub loaded_own : {A E : Type 0} (r : Result A E) (q : Cells) (new : View) → IsBackedBy digest q new.entries
      → PreservesOthers p old.entries q new.entries → OnOk r (Adds digest here s p old q new)
      → OnOk r (Loads digest slot p old.entries sums q new.entries more)
  loaded_own (Ok x) q new stands others adds =
      loaded digest p old sums slot can q new more stands others (λ id. refl)
      (subst (λ (t : Option Summary). Adds digest here t p old q new) sum_found adds)
  loaded_own (Err e) q new stands others adds = tt

-- each number has a name
names_reach : (digest : List ℕ → List ℕ) (pool : Cells) (slots : List ℕ) (n : ℕ) → n < length slots
    → (names : List (List ℕ)) → names ≡ names_of digest (objects_at pool slots) → n < length names
unfolding objects_at
names_reach digest pool slots n within names named =
    let a = ap (λ (l : List (List ℕ)). length l) named in
    let b = length-map (objects_at pool slots) (λ x. name_by digest (content_of x)) in
    let d = length-map slots (λ s. raw_object (content pool s)) in
    omega (arith, a, b, d, within)

-- the name of the object at a place is there
pub names_at : (digest : List ℕ → List ℕ) (pool : Cells) (slots numbers : List ℕ) (names : List (List ℕ)) (i : ℕ) → MayLoad digest pool slots numbers
    → names ≡ names_of digest (objects_at pool slots) → i < length numbers → get_or numbers i 0 < length names
names_at digest pool slots numbers names i may named l = names_reach digest pool slots (get_or numbers i 0) (may.within i 0 l) names named

-- ---- one object after another

-- The table has the objects before those that are left, and its holds are all that the pool has more.
pub record AreLoaded (digest : List ℕ → List ℕ) (before pool : Cells) (entries : Entries) (sums : Sums)
    (rest whole : List Object) : Type 0 where
  pub stands : IsBackedBy digest pool entries
  pub others : PreservesOthers before [] pool entries
  pub objects : objects pool entries ++ rest ≡ whole
  pub trees : TreesFit sums rest
  pub noted : AreNoted sums entries

pub loaded_none : (digest : List ℕ → List ℕ) (p : Cells) (whole : List Object) → TreesFit [] whole
    → AreLoaded digest p p [] [] whole whole
unfolding objects
loaded_none digest p whole fit = record {
  stands = IsBackedBy-nil digest p;
  others = PreservesOthers-refl p [];
  objects = refl;
  trees = fit;
  noted = none_noted;
}

module _ (digest : List ℕ → List ℕ) (p0 p : Cells) (slots numbers : List ℕ) (entries : Entries) (sums : Sums)
    (may : MayLoad digest p0 slots numbers) (i slot : ℕ) (l : i < length numbers) (at : slot ≡ get_or slots (get_or numbers i 0) slot) where
  abbrev n : ℕ
  n = get_or numbers i 0

  inside : n < length slots
  inside = may.within i 0 l

  abbrev own : List Object
  own = own_objects digest (objects_at p0 slots) numbers

  abbrev o : Object
  o = object_of digest (content p0 slot)

  pub left_here : drop i own ≡ o ∷ drop (i + 1) own
  left_here = own_left digest p0 slots numbers i n slot l (any_default numbers i 0 n l) inside at

  module _ (h : AreLoaded digest p0 p entries sums (drop i own) own) where
    first : AreLoaded digest p0 p entries sums (o ∷ drop (i + 1) own) own
    first = subst (λ (rest : List Object). AreLoaded digest p0 p entries sums rest own) left_here h

    live_before : IsLive p0 slot
    live_before = subst (IsLive p0) (sym at) (may.live n slot inside)

    pub same : content p slot ≡ content p0 slot
    same = h.others.kept slot (let a = live_before in let b = held-nil slot in omega arith)

    new_here : entry_named o.id entries ≡ None
    new_here =
        new_name p entries o (drop (i + 1) own)
        (subst (λ (os : List Object). IsDistinct bytes_eq (ids os)) (sym first.objects)
        (own_distinct digest (objects_at p0 slots) numbers may.distinct))

    pub named_here : (names : List (List ℕ)) (name : List ℕ) → names ≡ names_of digest (objects_at p0 slots)
        → name ≡ get_or names n name → name ≡ name_by digest (content p slot)
    named_here names name named is_name =
        is_name ∙ any_default names n name [] (names_reach digest p0 slots n inside names named)
        ∙ ap (λ (l : List (List ℕ)). slice_index_or l n []) named
        ∙ ap (λ (x : Object). x.id) (object_is p0 slots n slot inside at digest)
        ∙ ap (name_by digest) (sym same)

    pub may_load : CanLoad digest p entries sums slot
    may_load = record {
      stands = h.stands;
      room = has_room digest p entries h.stands (room-after p0 p [] entries h.others may.room);
      live = let a = live_before in let b = h.others.rest slot in let d = held-nil slot in omega arith;
      new = subst (λ (c : Content). entry_named (name_by digest c) entries ≡ None) (sym same) new_here;
      spare =
          let few = may.few in
          let size = own_length digest (objects_at p0 slots) numbers in
          let all = sym (length-append (objects p entries) (o ∷ drop (i + 1) own)) ∙ ap (λ (os : List Object). length os) first.objects in
          let mine = length-objects p entries in
          omega arith;
      short = subst (λ (c : Content). length c.bytes ≤ CONTENTS_LIMIT) (sym same) (is_short p0 slots n slot inside at may.contents);
      noted = h.noted;
      fits = subst (λ (c : Content). Fits c.kind c.bytes sums) (sym same) first.trees.0;
    }

    pub loaded_on : (q : Cells) (new : Entries) (more : Sums) → Loads digest slot p entries sums q new more
        → AreLoaded digest p0 q new more (drop (i + 1) own) own
    loaded_on q new more loads = record {
      stands = loads.stands;
      others = PreservesOthers-then p0 p q [] entries new h.others loads.others;
      objects =
          ap (λ (os : List Object). os ++ drop (i + 1) own)
          (loads.objects ∙ ap (λ (c : Content). objects p entries ++ object_of digest c ∷ []) same)
          ∙ append_assoc (objects p entries) (o ∷ []) (drop (i + 1) own) ∙ first.objects;
      trees =
          same_trees (drop (i + 1) own) (sums_with o.content.kind o.id o.content.bytes sums) more
          (λ x. sym (subst (λ (c : Content). SameSums more (sums_with c.kind (name_by digest c) c.bytes sums)) same loads.trees x)) first.trees.1;
      noted = loads.noted;
    }

loaded_all : (digest : List ℕ → List ℕ) (p0 p : Cells) (entries : Entries) (sums : Sums) (whole : List Object) (i : ℕ)
    → length whole ≤ i → AreLoaded digest p0 p entries sums (drop i whole) whole → objects p entries ≡ whole
loaded_all digest p0 p entries sums whole i past h =
    sym (append-nil (objects p entries)) ∙ ap (λ (rest : List Object). objects p entries ++ rest) (sym (drop_all i whole past)) ∙ h.objects

pub all_loaded : (digest : List ℕ → List ℕ) (p0 p : Cells) (slots numbers : List ℕ) (table : View) (sums : Sums) (i : ℕ) → length numbers ≤ i
    → AreLoaded digest p0 p table.entries sums (drop i (own_objects digest (objects_at p0 slots) numbers)) (own_objects digest (objects_at p0 slots) numbers)
    → LoadsAll digest slots numbers p0 p (record table { committed = length table.entries })
all_loaded digest p0 p slots numbers table sums i past h =
    let own = own_objects digest (objects_at p0 slots) numbers in
    let size = own_length digest (objects_at p0 slots) numbers in
    record {
      stands = h.stands;
      others = h.others;
      objects = loaded_all digest p0 p table.entries sums own i (omega (arith, past, size)) h;
      committed = refl;
    }

-- the table of a tenant that passed its checks can be loaded
pub may_load_own : (digest : List ℕ → List ℕ) (pool : Cells) (slots : List ℕ) (t : RawTenant) → All (IsLive pool) slots → HasHoldsLeftBeside pool []
    → IsChecked digest (objects_at pool slots) t → MayLoad digest pool slots t.numbers
may_load_own digest pool slots t live room checked =
    let h = holds digest checked.version (objects_at pool slots) checked.last t checked.passes in
    record {
      live = live;
      room = room;
      contents = checked.objects;
      within = numbers_in pool slots t.numbers h.numbers;
      few = h.few;
      distinct = h.distinct;
      trees = h.trees;
    }
