-- What an export asks for, all in all.
use Rattle.std.proofs.Common.{◌≡◌, ℕ, suc, ◌<◌, ◌≤◌, Bool, true, false, not, ◌||◌, List, [], ◌∷◌, ◌++◌, length, map, All, Option, None, Some, refl, sym, ap, subst, ◌∙◌, arith, is_some}
use Rattle.std.specs.Prelude.{unwrap_or}
use Rattle.std.specs.declared.cmp.Ordering.{Ordering}
use Rattle.std.specs.declared.cmp.Ordering.TheVariants.{Less, Equal, Greater}
use Rattle.std.specs.Cmp.{IsTotalOrder}
use Rattle.std.specs.Cmp.Lexicographic.{slice_cmp, nat_list_cmp_total}
use Rattle.std.specs.FinMap as finmap
use Rattle.std.specs.FinMap.{FinMap, entries-insert, get-entries, len-entries, len-empty}
use Rattle.std.specs.FinMap.Entries.{put, find, by_order, is_some-find}
use Rattle.std.specs.List.{AllByRecursion, list_any, flat_map}
use Rattle.std.specs.Ordering.{nat_cmp, is_eq, eq_by_cmp}
use Rattle.std.proofs.lemmas.Bool.{false≢true}
use Rattle.std.proofs.lemmas.Cmp.{tied_itself}
use Rattle.std.proofs.lemmas.List.Elements.{All-nil, All-cons, recursion_from_All}
use Rattle.git_model.specs.declared.kind.Kind.{Kind}
use Rattle.git_model.specs.declared.kind.Kind.TheVariants as kind
use Rattle.git_model.specs.Commit.{CanWriteCommit}
use Rattle.git_model.specs.CommitReading.{commit_read}
use Rattle.git_model.specs.Content.{Content, no_content}
use Rattle.git_model.specs.GoodRepository.{AreObjects, IsObject, IsValid, IsShortRefName, StandsBefore}
use Rattle.git_model.specs.RefStore.{RefStore, listed_refs, target_of}
use Rattle.git_model.specs.References.{Reference, references_in, references_of, content_named, kind_named, object_at}
use Rattle.git_model.specs.Repository.{Object, Repository, object_named}
use Rattle.git_model.specs.Tag.{Tag, CanWriteTag}
use Rattle.git_model.specs.TagReading.{tag_read}
use Rattle.git_model.specs.Tree.{TreeEntry, CanWriteEntry}
use Rattle.git_model.specs.Peeling.{is_no_tag}
use Rattle.git_model.specs.Reach.{is_referred_to}
use Rattle.git_model.proofs.CommitReadings.{commit_back}
use Rattle.git_model.proofs.Places.{first_object, later_object, at_place}
use Rattle.git_model.proofs.TagReadings.{tag_back}
use Rattle.git_paths.specs.Paths.{IsComponent, IsPath}
use Rattle.file_maps.specs.declared.entry.Entry.{Entry}
use Rattle.file_maps.specs.Edits.{moved}
use Rattle.file_maps.specs.FileMap.{Path, Listed, listed}
use Rattle.file_maps.specs.StoredFiles.{stored_files, stored_map}
use Rattle.file_maps.specs.StoredTree.{Lists, nothing, first_file, first_directory}
use Rattle.file_maps.proofs.Apart.{all-map, all-weaker, all-filter, filter-all}
use Rattle.file_maps.proofs.GoodObjects.{files-of}
use Rattle.file_maps.proofs.ListedOrder.{tree-in-order, listed-with}
use Rattle.file_maps.proofs.Listing.{all-append, tree-sound, IsSound}
use Rattle.stream_lex.specs.Items.{Item}
use Rattle.stream_grammar.specs.Commands.{end_of}
use Rattle.export_text.specs.Export.{items_of_ref, ref_items, object_items, saving_items, removal_items, export_items}
use Rattle.export_text.specs.ExportActs.{acts_of, acts_of_object, acts_of_ref, ref_acts, removal_acts, export_acts, AsksFor}
use Rattle.export_text.specs.ExportItems.{items_of, items_of_object}
use Rattle.export_text.specs.Limits.{FitsPath, Fits, CanExport}
use Rattle.export_text.specs.Reached.{is_tag, tag_ref, ref_of_tag, reached_objects, reached_tags, each_once, extra_tag_refs, is_missing}
use Rattle.export_text.proofs.Asking.{Asks, AsksAlone, idle, nothing-asked, and-then, alone-flat_map}
use Rattle.export_text.proofs.CommandsAsked.{CanWriteFile, saving-asked, removal-asked, commit-set, blob-asked, commit-asked, tag-asked, tag-again}
use Rattle.export_text.proofs.OpeningAsked.{opening-asked}
use Rattle.export_text.proofs.Standing.{valid-named}

-- ---- the names of refs

module _ {K X : Type 0} {R : K → K → Ordering} (o : IsTotalOrder R) (P : K → Type 0) where
  all-put : (k : K) (v : X) (es : List (K × X)) → P k → AllByRecursion (λ e. P e.0) es
      → AllByRecursion (λ e. P e.0) (put R k v es)
  all-put k v [] p h = (p, tt)
  all-put k v (e ∷ es) p h = by (R k e.0) (all-put k v es p h.1)
    where
      by : (c : Ordering) → AllByRecursion (λ e. P e.0) (put R k v es)
          → AllByRecursion (λ e. P e.0) (by_order c ((k, v) ∷ e ∷ es) ((e.0, v) ∷ es) (e ∷ put R k v es))
      by Less rest = (p, h)
      by Equal rest = h
      by Greater rest = (h.0, rest)

  all-none : (es : List (K × X)) → length es ≡ 0 → AllByRecursion (λ e. P e.0) es
  all-none [] e = tt
  all-none (x ∷ es) e = absurd (omega (arith, e))

  all-from : (es : List (K × X)) → AllByRecursion (λ e. P e.0) es
      → AllByRecursion (λ e. P e.0) (finmap.entries (finmap.from_entries {R = R} es))
  all-from [] h = all-none (finmap.entries (finmap.empty {R = R})) (sym (len-entries (finmap.empty {R = R})) ∙ len-empty R X)
  all-from (e ∷ es) h =
      subst (AllByRecursion (λ e. P e.0)) (sym (entries-insert o (finmap.from_entries es) e.0 e.1))
      (all-put e.0 e.1 (finmap.entries (finmap.from_entries {R = R} es)) h.0 (all-from es h.1))

once-all : (P : List ℕ → Type 0) (names : List (List ℕ)) → AllByRecursion P names
    → AllByRecursion P (each_once names)
once-all P names h =
    all-map (λ e. e.0) P (finmap.entries (finmap.from_entries {R = slice_cmp nat_cmp} (map (λ (name : List ℕ). (name, tt {0})) names)))
    (all-from nat_list_cmp_total P (map (λ (name : List ℕ). (name, tt {0})) names)
    (all-map (λ (name : List ℕ). (name, tt {0})) (λ e. P e.0) names h))

or-later : (a b : Bool) → b ≡ true → (a || b) ≡ true
or-later true b h = refl
or-later false b h = h

module _ {K X : Type 0} {R : K → K → Ordering} (o : IsTotalOrder R) where
  found-in : (whole es : List (K × X))
      → ((q : K) → list_any (eq_by_cmp R q) (map (λ e. e.0) es) ≡ true → list_any (eq_by_cmp R q) (map (λ e. e.0) whole) ≡ true)
      → AllByRecursion (λ e. is_some (find R e.0 whole) ≡ true) es
  found-in whole [] among = tt
  found-in whole (e ∷ es) among =
      let tied : eq_by_cmp R e.0 e.0 ≡ true = ap is_eq (tied_itself o e.0) in (
        is_some-find R e.0 whole ∙ among e.0 (rw tied refl),
        found-in whole es (λ q h. among q (or-later (eq_by_cmp R q e.0) (list_any (eq_by_cmp R q) (map (λ e. e.0) es)) h)),
      )

  held-all : (m : FinMap R X) → AllByRecursion (λ e. is_some (finmap.get m e.0) ≡ true) (finmap.entries m)
  held-all m =
      all-weaker (λ e. is_some (find R e.0 (finmap.entries m)) ≡ true) (λ e. is_some (finmap.get m e.0) ≡ true)
      (λ e h. ap is_some (get-entries m e.0) ∙ h) (finmap.entries m)
      (found-in (finmap.entries m) (finmap.entries m) (λ q h. h))

some-of : {A : Type 0} (o : Option A) → is_some o ≡ true → (x : A) × (o ≡ Some x)
some-of None h = absurd (false≢true h)
some-of (Some x) h = (x, refl)

pub ref-names : (store : RefStore)
    → ((ref id : List ℕ) → target_of store ref ≡ Some id → IsShortRefName ref)
    → AllByRecursion (λ e. IsShortRefName e.0) (listed_refs store)
ref-names store names =
    all-weaker (λ e. is_some (finmap.get store.refs e.0) ≡ true) (λ e. IsShortRefName e.0)
    (λ e h. let found = some-of (target_of store e.0) h in names e.0 found.0 found.1)
    (listed_refs store) (held-all nat_list_cmp_total store.refs)

-- ---- what is known of each object

pub commit-writable : (os : List Object) (bytes : List ℕ) → IsValid os kind.Commit bytes → CanWriteCommit (commit_read bytes)
commit-writable os bytes (c, is) =
    subst CanWriteCommit (sym (ap commit_read is.contents ∙ commit_back c is.writable)) is.writable

pub tag-writable : (os : List Object) (bytes : List ℕ) → IsValid os kind.Tag bytes
    → CanWriteTag (tag_read bytes) × (length (tag_ref (tag_read bytes).name) ≤ 1024)
tag-writable os bytes (t, is) =
    let back : t ≡ tag_read bytes = sym (ap tag_read is.contents ∙ tag_back t is.writable) in
    subst (λ (x : Tag). CanWriteTag x × (length (tag_ref x.name) ≤ 1024)) back (is.writable, is.short_name)

pub record IsKnown (os : List Object) (o : Object) : Type 0 where
  pub valid : IsValid os o.content.kind o.content.bytes
  pub fits : Fits os o.content.kind o.content.bytes
  pub named : AllByRecursion (λ (x : Reference). kind_named x.id os ≡ Some x.kind) (references_in o.content)

from-places : (P : Object → Type 0) (os : List Object)
    → ((i : ℕ) → i < length os → P (object_at i os)) → AllByRecursion P os
from-places P [] h = tt
from-places P (o ∷ os) h = (
  subst P (first_object o os) (h 0 (omega arith)),
  from-places P os (λ i lt. subst P (later_object i o os) (h (suc i) (omega arith))),
)

pub all-known : (digest : List ℕ → List ℕ) (os : List Object) → AreObjects digest os
    → All (λ o. Fits os o.content.kind o.content.bytes) os → AllByRecursion (IsKnown os) os
all-known digest os good fit = from-places (IsKnown os) os (λ i lt. record {
  valid = (at_place (IsObject digest os) os i good.each lt).valid;
  fits = at_place (λ o. Fits os o.content.kind o.content.bytes) os i fit lt;
  named =
      all-weaker (StandsBefore os i) (λ (x : Reference). kind_named x.id os ≡ Some x.kind) (λ x h. h.kind)
      (references_in (object_at i os).content)
      (recursion_from_All (StandsBefore os i) (references_in (object_at i os).content) (good.connected i lt));
})

-- ---- the files of a commit

lists-paths : {os : List Object} {es : List TreeEntry} {fs : Listed} → Lists os es fs
    → AllByRecursion CanWriteEntry es → AllByRecursion (λ f. IsPath f.0) fs
lists-paths nothing h = tt
lists-paths (first_file e es files ne l) h =
    (All-cons IsComponent e.name [] h.0.name (All-nil IsComponent), lists-paths l h.1)
lists-paths (first_directory e es inside below files is has sub l) h =
    all-append (λ (f : Path × Entry). IsPath f.0) (moved (e.name ∷ []) below) files
    (all-map (λ (g : Path × Entry). (e.name ∷ [] ++ g.0, g.1)) (λ (f : Path × Entry). IsPath f.0) below
    (all-weaker (λ (f : Path × Entry). IsPath f.0) (λ (f : Path × Entry). IsPath (e.name ∷ f.0)) (λ f p. All-cons IsComponent e.name f.0 h.0.name p) below
    (lists-paths sub (recursion_from_All CanWriteEntry inside has.entries.entries))))
    (lists-paths l h.1)

files-three : (files : Listed) → AllByRecursion IsSound files → AllByRecursion (λ f. IsPath f.0) files
    → AllByRecursion FitsPath files → AllByRecursion CanWriteFile files
files-three [] sound paths fit = tt
files-three (f ∷ files) sound paths fit = (
  record {
    path = record { components = paths.0; limits = fit.0 };
    name = sound.0.name;
  },
  files-three files sound.1 paths.1 fit.1,
)

pub files-writable : (digest : List ℕ → List ℕ) (os : List Object) → AreObjects digest os
    → (tree : List ℕ) → kind_named tree os ≡ Some kind.Tree
    → All FitsPath (listed (stored_map os tree))
    → AllByRecursion CanWriteFile (listed (stored_map os tree))
files-writable digest os good tree is fit =
    let files = stored_files os tree in
    let lists = (files-of digest os good tree is).listed in
    let same : listed (stored_map os tree) ≡ files = listed-with files (tree-in-order os tree files lists) in
    subst (AllByRecursion CanWriteFile) (sym same)
    (files-three files (tree-sound os tree files lists)
    (lists-paths lists.lists (recursion_from_All CanWriteEntry lists.direct lists.tree.entries.entries))
    (subst (AllByRecursion FitsPath) same (recursion_from_All FitsPath (listed (stored_map os tree)) fit)))

-- ---- all objects, and all refs

module _ (digest : List ℕ → List ℕ) (os : List Object) (good : AreObjects digest os) where
  kind-asked : (k : Kind) (id bytes : List ℕ) → IsValid os k bytes → Fits os k bytes
      → AllByRecursion (λ (x : Reference). kind_named x.id os ≡ Some x.kind) (references_of k bytes)
      → AsksAlone (items_of os id k bytes) (acts_of os id k bytes)
  kind-asked kind.Blob id bytes valid fit named late = blob-asked os good.few id bytes late
  kind-asked kind.Tree id bytes valid fit named late = (late, nothing-asked (idle late))
  kind-asked kind.Commit id bytes valid fit named late =
      commit-asked os good.few id (commit_read bytes) (commit-writable os bytes valid)
      (files-writable digest os good (commit_read bytes).tree named.0 fit.paths) late
  kind-asked kind.Tag id bytes valid fit named late =
      let can = tag-writable os bytes valid in
      tag-asked os good.few id (tag_read bytes) can.0 can.1 late

  object-asked : (o : Object) → IsKnown os o → AsksAlone (items_of_object os o) (acts_of_object os o)
  object-asked o known = kind-asked o.content.kind o.id o.content.bytes known.valid known.fits known.named

  ref-by-kind : (k : Kind) (ref id bytes : List ℕ) → IsShortRefName ref → IsValid os k bytes
      → AsksAlone (ref_items os ref id k bytes) (ref_acts os ref id k bytes)
  ref-by-kind kind.Tag ref id bytes name valid =
      let can = tag-writable os bytes valid in tag-again os good.few (tag_read bytes) can.0 can.1
  ref-by-kind kind.Blob ref id bytes name valid = commit-set os good.few ref id name
  ref-by-kind kind.Tree ref id bytes name valid = commit-set os good.few ref id name
  ref-by-kind kind.Commit ref id bytes name valid = commit-set os good.few ref id name

  pub content-valid : (id : List ℕ) (o : Option Content) → object_named id os ≡ o
      → IsValid os (unwrap_or o no_content).kind (unwrap_or o no_content).bytes
  content-valid id None is = tt
  content-valid id (Some c) is = valid-named digest os id c good (sym is)

  ref-asked : (e : List ℕ × List ℕ) → IsShortRefName e.0
      → AsksAlone (items_of_ref os e) (acts_of_ref os e)
  ref-asked e name =
      ref-by-kind (content_named e.1 os).kind e.0 e.1 (content_named e.1 os).bytes name
      (content-valid e.1 (object_named e.1 os) refl)

  tag-name : (k : Kind) (bytes : List ℕ) → not (is_no_tag k) ≡ true → IsValid os k bytes
      → IsShortRefName (tag_ref (tag_read bytes).name)
  tag-name kind.Tag bytes is valid =
      let can = tag-writable os bytes valid in record { name = can.0.name; short = can.1 }
  tag-name kind.Blob bytes is valid = absurd (false≢true is)
  tag-name kind.Tree bytes is valid = absurd (false≢true is)
  tag-name kind.Commit bytes is valid = absurd (false≢true is)

both-all : {A : Type 0} (P Q : A → Type 0) (xs : List A) → AllByRecursion P xs → AllByRecursion Q xs
    → AllByRecursion (λ x. P x × Q x) xs
both-all P Q [] h k = tt
both-all P Q (x ∷ xs) h k = ((h.0, k.0), both-all P Q xs h.1 k.1)

module _ (digest : List ℕ → List ℕ) (repository : Repository)
    (good : AreObjects digest repository.objects) (can : CanExport repository) where
  abbrev os : List Object
  os = repository.objects

  pub reached-known : AllByRecursion (IsKnown os) (reached_objects repository)
  reached-known =
      all-filter (IsKnown os) (λ o. is_referred_to repository o.id) os
      (all-known digest os good can.objects)

  pub extra-names : AllByRecursion IsShortRefName (extra_tag_refs repository)
  extra-names =
      all-filter IsShortRefName (is_missing repository.refs) (each_once (map ref_of_tag (reached_tags repository)))
      (once-all IsShortRefName (map ref_of_tag (reached_tags repository))
      (all-map ref_of_tag IsShortRefName (reached_tags repository)
      (all-weaker (λ o. IsKnown os o × (is_tag o ≡ true)) (λ o. IsShortRefName (ref_of_tag o))
      (λ o h. tag-name digest os good o.content.kind o.content.bytes h.1 h.0.valid) (reached_tags repository)
      (both-all (IsKnown os) (λ o. is_tag o ≡ true) (reached_tags repository)
      (all-filter (IsKnown os) is_tag (reached_objects repository) reached-known)
      (filter-all is_tag (reached_objects repository))))))

  export-asked : (later : Bool) × Asks (idle false) (export_items repository) (export_acts repository) (idle later)
  export-asked =
      let objects = alone-flat_map (items_of_object os) (acts_of_object os) (reached_objects repository)
      (all-weaker (IsKnown os) (λ o. AsksAlone (items_of_object os o) (acts_of_object os o)) (object-asked digest os good) (reached_objects repository) reached-known) in
      let removals = alone-flat_map removal_items removal_acts (extra_tag_refs repository)
      (all-weaker IsShortRefName (λ ref. AsksAlone (removal_items ref) (removal_acts ref)) removal-asked (extra_tag_refs repository) extra-names) in
      let refs = alone-flat_map (items_of_ref os) (acts_of_ref os) (listed_refs repository.refs)
      (all-weaker (λ e. IsShortRefName e.0) (λ e. AsksAlone (items_of_ref os e) (acts_of_ref os e)) (ref-asked digest os good) (listed_refs repository.refs) (ref-names repository.refs can.names)) in
      let one = objects false in
      let two = saving-asked one.0 in
      let three = removals two.0 in
      let four = refs three.0 in
      (four.0, and-then (and-then (and-then (and-then (opening-asked repository.refs can.head) one.1) two.1) three.1) four.1)

  pub asks-for : AsksFor repository
  asks-for = let asked = export-asked in record {
    given = ap (λ c. c.given) asked.1.asks_for;
    end = ap (λ c. end_of c.rest) asked.1.asks_for;
  }
