-- The sums of a tenant's trees, one after another.
use Rattle.std.proofs.Common.{◌≡◌, ◌≢◌, ℕ, ◌+◌, ◌<◌, Bool, true, false, cond, length, List, [], ◌∷◌, ◌++◌, is_some, drop, get_or, map, Option, None, Some, Ok, Err, refl, sym, ap, subst, ◌∙◌, arith, inl}
use Rattle.std.specs.Prelude.{◌↔◌, All, IsSomeAnd, fold}
use Rattle.std.specs.Map.{lookup}
use Rattle.std.specs.Option.{option_and_then, unwrap_or}
use Rattle.std.specs.Str.{bytes_eq}
use Rattle.std.proofs.lemmas.List.Elements.{All-nil, All-cons, All-head, All-tail}
use Rattle.std.proofs.lemmas.Slice.Eq.{bytes_eq-Decides}
use Rattle.git_objects.specs.declared.tree_entry.TreeEntry.{TreeEntry as Read}
use Rattle.git_objects.specs.Parts.{entry_of, entries_of}
use Rattle.git_model.specs.declared.kind.Kind.{Kind}
use Rattle.git_model.specs.declared.kind.Kind.TheVariants as kind
use Rattle.git_model.specs.declared.file_mode.FileMode.TheVariants as mode
use Rattle.git_model.specs.Tree.{TreeEntry}
use Rattle.git_model.specs.TreeReading.{tree_read}
use Rattle.git_model.specs.Repository.{Object}
use Rattle.git_model.specs.Content.{Content, content_from}
use Rattle.tenant_tables.specs.declared.summary.Summary.{Summary}
use Rattle.tenant_tables.specs.declared.entry.Entry.{Entry}
use Rattle.tenant_tables.specs.View.{Entries, entry_named, summary_of}
use Rattle.tenant_tables.specs.Summed.{SummedAfter}
use Rattle.tenant_tables.specs.Trees.{no_files, below, one_file, by_mode, both, tree_summary}
use Rattle.pool_file_format.specs.declared.refusal.Refusal.TheVariants as refusal
use Rattle.pool_file_format.specs.declared.fault.Fault.{Fault}
use Rattle.pool_file_format.specs.declared.fault.Fault.TheVariants as fault
use Rattle.tenant_tables.proofs.PlainSums.{other-summed, tree-summed}
use Rattle.pool_file_checks.specs.Checks.{Checked}
use Rattle.pool_file_format.specs.Format.{RawObject}
use Rattle.pool_file_checks.specs.Own.{Rows, content_at, objects_in}
use Rattle.pool_file_checks.proofs.TenantLemmas.{left_at}
use Rattle.pool_file_checks.specs.Sums.{AddsSum, EntryFits, Fits, FitsAfter, HasFiles, IsWithin, SameSums, SumWhere, Sums, TreesFit, sum_of_entry, sum_of_tree, sums_with}

-- ---- limits

parts_within : (s t : Summary) → IsWithin (both s t) → IsWithin s × IsWithin t
parts_within s t w =
    let f = w.files in let d = w.depth in let l = w.longest in (
      record { files = omega (arith, f); depth = omega (arith, d); longest = omega (arith, l) },
      record { files = omega (arith, f); depth = omega (arith, d); longest = omega (arith, l) },
    )

-- what passes a limit passes it with all that is added
front_within : (s : Summary) (more : List Summary) → IsWithin (fold both s more) → IsWithin s
front_within s [] w = w
front_within s (t ∷ more) w = (parts_within s t (front_within (both s t) more w)).0

-- ---- the entries of a tree in turn

-- The entries that are left and the sum of those before decide about all.
pub record Summed (sums : Sums) (sum : Summary) (rest whole : List TreeEntry) : Type 0 where
  pub within : IsWithin sum
  pub total : fold both sum (map (sum_of_entry sums) rest) ≡ sum_of_tree sums whole
  pub directories : All (HasFiles sums) rest ↔ All (HasFiles sums) whole

-- the first of the entries that are left
pub first_left : (sums : Sums) (sum : Summary) (es : List Read) (i : ℕ) (e : Read) → i < length es → e ≡ get_or es i e
    → Summed sums sum (entries_of (drop i es)) (entries_of es) → Summed sums sum (entry_of e ∷ entries_of (drop (i + 1) es)) (entries_of es)
first_left sums sum es i e lt is s = subst (λ (rest : List Read). Summed sums sum (entries_of rest) (entries_of es)) (left_at es i e lt is) s

-- all entries fit, so those that are left
left_within : (sums : Sums) (sum : Summary) (rest whole : List TreeEntry) → Summed sums sum rest whole
    → FitsAfter sums whole → IsWithin (fold both sum (map (sum_of_entry sums) rest))
left_within sums sum rest whole s f = subst IsWithin (sym s.total) f.within

pub summed_on : (sums : Sums) (sum : Summary) (e : TreeEntry) (rest whole : List TreeEntry) (added next : Summary) → Summed sums sum (e ∷ rest) whole
    → SumWhere (EntryFits sums e) (sum_of_entry sums e) (Some added) → SumWhere (IsWithin (both sum added)) (both sum added) (Some next)
    → Summed sums next rest whole
summed_on sums sum e rest whole added next s f w =
    let is : next ≡ both sum (sum_of_entry sums e) = w.1 ∙ ap (both sum) f.1 in
    record {
      within = subst IsWithin (sym w.1) w.0;
      total = ap (λ (t : Summary). fold both t (map (sum_of_entry sums) rest)) is ∙ s.total;
      directories = (λ all. s.directories.0 (All-cons (HasFiles sums) e rest f.0.0 all), λ all. All-tail (HasFiles sums) e rest (s.directories.1 all));
    }

pub entry_fails : (sums : Sums) (sum : Summary) (e : TreeEntry) (rest whole : List TreeEntry) → Summed sums sum (e ∷ rest) whole
    → (EntryFits sums e → ⊥) → FitsAfter sums whole → ⊥
entry_fails sums sum e rest whole s never f =
    let w = front_within (both sum (sum_of_entry sums e)) (map (sum_of_entry sums) rest) (left_within sums sum (e ∷ rest) whole s f) in
    never (All-head (HasFiles sums) e rest (s.directories.1 f.directories), (parts_within sum (sum_of_entry sums e) w).1)

pub both_fails : (sums : Sums) (sum : Summary) (e : TreeEntry) (rest whole : List TreeEntry) (added : Summary) → Summed sums sum (e ∷ rest) whole
    → SumWhere (EntryFits sums e) (sum_of_entry sums e) (Some added) → (IsWithin (both sum added) → ⊥) → FitsAfter sums whole → ⊥
both_fails sums sum e rest whole added s f never fits =
    let w = front_within (both sum (sum_of_entry sums e)) (map (sum_of_entry sums) rest) (left_within sums sum (e ∷ rest) whole s fits) in
    never (subst (λ (t : Summary). IsWithin (both sum t)) (sym f.1) w)

pub summed_all : (sums : Sums) (sum : Summary) (whole : List TreeEntry) → Summed sums sum [] whole
    → SumWhere (FitsAfter sums whole) (sum_of_tree sums whole) (Some sum)
summed_all sums sum whole s =
    (record { directories = s.directories.0 (All-nil (HasFiles sums)); within = subst IsWithin s.total s.within }, s.total)

-- ---- equal sums

-- by what is known under each name
abbrev sum_by : (List ℕ → Option Summary) → List TreeEntry → Summary
sum_by named es = fold both no_files (map (λ e. by_mode e.mode (below e.name (unwrap_or (named e.id) no_files)) (one_file e.name)) es)

abbrev FilesBy : (List ℕ → Option Summary) → List TreeEntry → Type 0
FilesBy named es = All (λ e. e.mode ≡ mode.Directory → IsSomeAnd (named e.id) (λ s. s.files ≢ 0)) es

same_sum : (a b : Sums) (es : List TreeEntry) → SameSums a b → sum_of_tree a es ≡ sum_of_tree b es
same_sum a b es same = ap (λ (named : List ℕ → Option Summary). sum_by named es) (λ i id. same id i)

same_fits : (k : Kind) (bytes : List ℕ) (a b : Sums) → SameSums a b → Fits k bytes a → Fits k bytes b
same_fits kind.Tree bytes a b same f = (
  f.0,
  record {
    directories = subst (λ (named : List ℕ → Option Summary). FilesBy named (tree_read bytes)) (λ i id. same id i) f.1.directories;
    within = subst IsWithin (same_sum a b (tree_read bytes) same) f.1.within;
  },
)
same_fits kind.Blob bytes a b same f = f
same_fits kind.Commit bytes a b same f = f
same_fits kind.Tag bytes a b same f = f

same_after : (k : Kind) (id bytes : List ℕ) (a b : Sums) → SameSums a b
    → SameSums (sums_with k id bytes a) (sums_with k id bytes b)
same_after kind.Tree id bytes a b same other =
    λ i. cond (bytes_eq other id) (Some (same_sum a b (tree_read bytes) same i)) (same other i)
same_after kind.Blob id bytes a b same other = same other
same_after kind.Commit id bytes a b same other = same other
same_after kind.Tag id bytes a b same other = same other

pub same_trees : (os : List Object) (a b : Sums) → SameSums a b → TreesFit a os → TreesFit b os
same_trees [] a b same t = t
same_trees (o ∷ os) a b same t = (
  same_fits o.content.kind o.content.bytes a b same t.0,
  same_trees os (sums_with o.content.kind o.id o.content.bytes a) (sums_with o.content.kind o.id o.content.bytes b)
      (same_after o.content.kind o.id o.content.bytes a b same) t.1,
)

-- ---- one tree more

either_way : (x y : List ℕ) → bytes_eq x y ≡ bytes_eq y x
either_way x y = by (bytes_eq x y) (bytes_eq y x) refl refl
  where
    by : (a b : Bool) → bytes_eq x y ≡ a → bytes_eq y x ≡ b → a ≡ b
    by true true p q = refl
    by false false p q = refl
    by true false p q = sym ((bytes_eq-Decides y x).1 (sym ((bytes_eq-Decides x y).0 p))) ∙ q
    by false true p q = sym p ∙ (bytes_eq-Decides x y).1 (sym ((bytes_eq-Decides y x).0 q))

pub tree_added : (id bytes : List ℕ) (sum : Summary) (old new : Sums)
    → Fits kind.Tree bytes old × (sum ≡ sum_of_tree old (tree_read bytes))
    → ((other : List ℕ) → lookup (bytes_eq other) new ≡ cond (bytes_eq id other) (Some sum) (lookup (bytes_eq other) old))
    → AddsSum kind.Tree id bytes old (Ok tt) new
tree_added id bytes sum old new f updated = (
  f.0,
  λ other.
      updated other ∙ (λ i. cond (either_way id other i) (Some (f.1 i)) (lookup (bytes_eq other) old)),
)

-- ---- the trees of a tenant in turn

-- The objects that are left decide about all.
abbrev pub Settles : Sums → List Object → List Object → Type 0
Settles sums rest whole = TreesFit sums rest ↔ TreesFit [] whole

fits_on : (o : Object) (rest whole : List Object) (old new : Sums) → Settles old (o ∷ rest) whole
    → AddsSum o.content.kind o.id o.content.bytes old (Ok tt) new → Settles new rest whole
fits_on o rest whole old new d a =
    let with_next = sums_with o.content.kind o.id o.content.bytes old in
    (λ t. d.0 (a.0, same_trees rest new with_next a.1 t), λ w. same_trees rest with_next new (λ id. sym (a.1 id)) (d.1 w).1)

fits_stops : (o : Object) (rest whole : List Object) (old new : Sums) (e : Fault) → Settles old (o ∷ rest) whole
    → AddsSum o.content.kind o.id o.content.bytes old (Err e) new
    → Checked ((TreesFit [] whole, refusal.BadObject) ∷ []) (Err e)
fits_stops o rest whole old new (fault.Refused r) d a = inl (λ w. a.0 (d.1 w).0, a.1)
fits_stops o rest whole old new fault.Memory d a = tt
fits_stops o rest whole old new fault.Device d a = absurd a

-- a row of the index, and the content of its number
module _ (os : List RawObject) (rows more : Rows) (id : List ℕ) (n : ℕ) (k : Kind) (bytes : List ℕ) (whole : List Object) (old new : Sums)
    (at : rows ≡ (id, n) ∷ more) (is : content_from k bytes ≡ content_at os n) (s : Settles old (objects_in os rows) whole) where
  pub row_on : AddsSum k id bytes old (Ok tt) new → Settles new (objects_in os more) whole
  unfolding objects_in
  row_on a =
      fits_on (record { id = id; content = content_at os n }) (objects_in os more) whole old new
      (subst (λ (rs : Rows). Settles old (objects_in os rs) whole) at s)
      (subst (λ (c : Content). AddsSum c.kind id c.bytes old (Ok tt) new) is a)

  pub row_stops : (e : Fault) → AddsSum k id bytes old (Err e) new → Checked ((TreesFit [] whole, refusal.BadObject) ∷ []) (Err e)
  unfolding objects_in
  row_stops e a =
      fits_stops (record { id = id; content = content_at os n }) (objects_in os more) whole old new e
      (subst (λ (rs : Rows). Settles old (objects_in os rs) whole) at s)
      (subst (λ (c : Content). AddsSum c.kind id c.bytes old (Err e) new) is a)

pub rows_done : (os : List RawObject) (rows : Rows) (whole : List Object) (sums : Sums) → rows ≡ []
    → Settles sums (objects_in os rows) whole → TreesFit [] whole
unfolding objects_in
rows_done os rows whole sums none s = (subst (λ (rs : Rows). Settles sums (objects_in os rs) whole) none s).0 tt

-- ---- the same sums in a table

-- Under each name the table has the summary that is among the sums.
abbrev pub AreNoted : Sums → Entries → Type 0
AreNoted sums entries = (id : List ℕ) → lookup (bytes_eq id) sums ≡ summary_of id entries

-- What stands in a table beside an object: the summary of a tree.
abbrev pub own_sum : Kind → List ℕ → Sums → Option Summary
own_sum kind.Tree bytes sums = Some (sum_of_tree sums (tree_read bytes))
own_sum kind.Blob bytes sums = None
own_sum kind.Commit bytes sums = None
own_sum kind.Tag bytes sums = None

pub noted_sum : (sums : Sums) (entries : Entries) (es : List TreeEntry) → AreNoted sums entries
    → sum_of_tree sums es ≡ tree_summary entries es
noted_sum sums entries es noted = ap (λ (named : List ℕ → Option Summary). sum_by named es) (λ i id. noted id i)

-- an object that fits is summed after the table
pub summed_after : (k : Kind) (bytes : List ℕ) (sums : Sums) (entries : Entries) → AreNoted sums entries → Fits k bytes sums
    → SummedAfter entries (content_from k bytes) (own_sum k bytes sums)
summed_after kind.Tree bytes sums entries noted f =
    tree-summed entries bytes (sum_of_tree sums (tree_read bytes)) (
      tree_read bytes,
      record {
        writable = f.0.writable;
        contents = f.0.contents;
        directories = subst (λ (named : List ℕ → Option Summary). FilesBy named (tree_read bytes)) (λ i id. noted id i) f.1.directories;
        sums = noted_sum sums entries (tree_read bytes) noted;
        within = f.1.within;
      },
    )
summed_after kind.Blob bytes sums entries noted f =
    other-summed entries (content_from kind.Blob bytes) (λ e. cc e)
summed_after kind.Commit bytes sums entries noted f =
    other-summed entries (content_from kind.Commit bytes) (λ e. cc e)
summed_after kind.Tag bytes sums entries noted f =
    other-summed entries (content_from kind.Tag bytes) (λ e. cc e)

lookup_after : {X : Type 0} (test : List ℕ → Bool) (xs : List (List ℕ × X)) (id : List ℕ) (x : X)
    → lookup test (xs ++ (id, x) ∷ []) ≡ cond (is_some (lookup test xs)) (lookup test xs) (cond (test id) (Some x) None)
lookup_after test [] id x = refl
lookup_after {X} test (y ∷ ys) id x = by (test y.0) (lookup_after test ys id x)
  where
    by : (b : Bool) → lookup test (ys ++ (id, x) ∷ []) ≡ cond (is_some (lookup test ys)) (lookup test ys) (cond (test id) (Some x) None)
        → cond b (Some y.1) (lookup test (ys ++ (id, x) ∷ []))
        ≡ cond (is_some (cond b (Some y.1) (lookup test ys))) (cond b (Some y.1) (lookup test ys)) (cond (test id) (Some x) None)
    by true h = refl
    by false h = h

or_none : {X : Type 0} (o : Option X) → cond (is_some o) o None ≡ o
or_none None = refl
or_none (Some x) = refl

-- one entry more, under a name that is new
module _ (id : List ℕ) (entries : Entries) (e : Entry) (new : entry_named id entries ≡ None) (other : List ℕ) where
  summary_other : bytes_eq other id ≡ false → summary_of other (entries ++ (id, e) ∷ []) ≡ summary_of other entries
  unfolding entry_named
  summary_other apart =
      ap (option_and_then (λ (x : Entry). x.summary))
      (lookup_after (bytes_eq other) entries id e
      ∙ ap (λ (b : Bool). cond (is_some (lookup (bytes_eq other) entries)) (lookup (bytes_eq other) entries) (cond b (Some e) None)) apart
      ∙ or_none (lookup (bytes_eq other) entries))

  none_yet : bytes_eq other id ≡ true → lookup (bytes_eq other) entries ≡ None
  unfolding entry_named
  none_yet same = ap (λ (x : List ℕ). lookup (bytes_eq x) entries) ((bytes_eq-Decides other id).0 same) ∙ new

  summary_here : bytes_eq other id ≡ true → summary_of other (entries ++ (id, e) ∷ []) ≡ e.summary
  unfolding entry_named
  summary_here same =
      ap (option_and_then (λ (x : Entry). x.summary))
      (lookup_after (bytes_eq other) entries id e
      ∙ ap (λ (o : Option Entry). cond (is_some o) o (cond (bytes_eq other id) (Some e) None)) (none_yet same)
      ∙ ap (λ (b : Bool). cond b (Some e) None) same)

  none_before : bytes_eq other id ≡ true → summary_of other entries ≡ None
  unfolding entry_named
  none_before same = ap (option_and_then (λ (x : Entry). x.summary)) (none_yet same)

module _ (id bytes : List ℕ) (sums : Sums) (entries : Entries) (e : Entry) (new : entry_named id entries ≡ None)
    (noted : AreNoted sums entries) (other : List ℕ) where
  tree_noted : (b : Bool) → bytes_eq other id ≡ b → (sum : Summary) → e.summary ≡ Some sum
      → lookup (bytes_eq other) ((id, sum) ∷ sums) ≡ summary_of other (entries ++ (id, e) ∷ [])
  tree_noted true p sum is =
      ap (λ (b : Bool). cond b (Some sum) (lookup (bytes_eq other) sums)) p ∙ sym is ∙ sym (summary_here id entries e new other p)
  tree_noted false p sum is =
      ap (λ (b : Bool). cond b (Some sum) (lookup (bytes_eq other) sums)) p ∙ noted other ∙ sym (summary_other id entries e new other p)

  plain_noted : (b : Bool) → bytes_eq other id ≡ b → e.summary ≡ None
      → lookup (bytes_eq other) sums ≡ summary_of other (entries ++ (id, e) ∷ [])
  plain_noted true p is = noted other ∙ none_before id entries e new other p ∙ sym is ∙ sym (summary_here id entries e new other p)
  plain_noted false p is = noted other ∙ sym (summary_other id entries e new other p)

pub noted_on : (k : Kind) (id bytes : List ℕ) (sums : Sums) (entries : Entries) (e : Entry) → AreNoted sums entries
    → entry_named id entries ≡ None → e.summary ≡ own_sum k bytes sums
    → AreNoted (sums_with k id bytes sums) (entries ++ (id, e) ∷ [])
noted_on kind.Tree id bytes sums entries e noted new is other =
    tree_noted id bytes sums entries e new noted other (bytes_eq other id) refl (sum_of_tree sums (tree_read bytes)) is
noted_on kind.Blob id bytes sums entries e noted new is other = plain_noted id bytes sums entries e new noted other (bytes_eq other id) refl is
noted_on kind.Commit id bytes sums entries e noted new is other = plain_noted id bytes sums entries e new noted other (bytes_eq other id) refl is
noted_on kind.Tag id bytes sums entries e noted new is other = plain_noted id bytes sums entries e new noted other (bytes_eq other id) refl is

pub none_noted : AreNoted [] []
unfolding entry_named
none_noted id = refl
