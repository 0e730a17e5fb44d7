-- The tests of the text of a tree, of what is known of its directories, and of the limits decide these facts.
use Rattle.std.proofs.Common.{◌≡◌, ◌≢◌, ℕ, zero, suc, ◌+◌, ◌<◌, ◌≤◌, ◌==◌, Bool, true, false, not, ◌&&◌, nat_lt, nat_le, List, [], ◌∷◌, length, get_or, Option, None, Some, refl, sym, ap, subst, ◌∙◌, arith, codes, All}
use Rattle.std.specs.Prelude.{AllPairs, IsSorted, IsSomeAnd}
use Rattle.std.specs.Bool.{Decides}
use Rattle.std.specs.List.{list_all}
use Rattle.std.specs.Ordering.{is_lt}
use Rattle.std.specs.Str.{bytes_eq}
use Rattle.std.proofs.lemmas.Bool.{and_parts, and_from, leb-true, le-leb, ltb-true, lt-ltb}
use Rattle.std.proofs.lemmas.Bool.Decides.{Decides-and, Decides-by_and, Decides-eqb, Decides-ltb, Decides-not}
use Rattle.std.proofs.lemmas.List.Elements.{All-head, All-tail}
use Rattle.std.proofs.lemmas.List.Kept.{AllPairs-cons}
use Rattle.std.proofs.lemmas.Slice.Eq.{bytes_eq-Decides}
use Rattle.git_model.specs.declared.file_mode.FileMode.{FileMode}
use Rattle.git_model.specs.declared.file_mode.FileMode.TheVariants as mode
use Rattle.git_model.specs.Limits.{files_limit, path_bytes_limit, path_components_limit}
use Rattle.git_model.specs.ObjectName.{IsObjectName}
use Rattle.git_model.specs.Tree.{TreeEntry, IsEntryName, CanWriteEntry, CanWriteTree, tree_contents, tree_cmp}
use Rattle.git_model.specs.TreeReading.{tree_read}
use Rattle.tenant_tables.specs.declared.summary.Summary.{Summary}
use Rattle.tenant_tables.specs.SumIn.{is_entry_name, is_object_name, can_be_entry, have_own_names, are_in_order, can_be_tree, is_tree_text, has_files, is_known, is_known_by, is_within}
use Rattle.tenant_tables.specs.Sums.{IsTreeText}
use Rattle.tenant_tables.specs.Trees.{HasFilesBy, IsWithin}

-- a test of each element decides a fact of each element
all_test : {X : Type 0} (p : X → Bool) (P : X → Type 0) → ((x : X) → Decides (p x) (P x))
    → (xs : List X) → Decides (list_all p xs) (All P xs)
all_test p P each xs = Decides-by_and p P (list_all p) each refl (λ _ _. refl) xs

differs : (xs ys : List ℕ) → Decides (not (bytes_eq xs ys)) (xs ≢ ys)
differs xs ys = Decides-not (bytes_eq xs ys) (bytes_eq-Decides xs ys)

is_not : (n : ℕ) (byte : ℕ) → Decides (not (byte == n)) (byte ≢ n)
is_not n byte = Decides-not (byte == n) (Decides-eqb byte n)

-- ---- one entry

entry_name_test : (name : List ℕ) → Decides (is_entry_name name) (IsEntryName name)
entry_name_test name =
    let d =
    Decides-and _ _ (Decides-and _ _ (Decides-and _ _ (Decides-and _ _ (differs name [])
    (all_test (λ byte. not (byte == 0)) (λ byte. byte ≢ 0) (is_not 0) name))
    (all_test (λ byte. not (byte == 47)) (λ byte. byte ≢ 47) (is_not 47) name))
    (differs name (codes "."))) (differs name (codes "..")) in (
      λ e.
          let h = d.0 e in record {
            not_empty = h.0.0.0.0;
            no_nul = h.0.0.0.1;
            no_slash = h.0.0.1;
            not_dot = h.0.1;
            not_dot_dot = h.1;
          },
      λ n. d.1 ((((n.not_empty, n.no_nul), n.no_slash), n.not_dot), n.not_dot_dot),
    )

object_name_test : (id : List ℕ) → Decides (is_object_name id) (IsObjectName id)
object_name_test id =
    let d =
    Decides-and _ _ (Decides-eqb (length id) 20)
    (all_test (λ byte. nat_lt byte 256) (λ byte. byte < 256) (λ byte. Decides-ltb byte 256) id) in (
      λ e. let h = d.0 e in record { size = h.0; bytes = h.1 },
      λ n. d.1 (n.size, n.bytes),
    )

entry_test : (e : TreeEntry) → Decides (can_be_entry e) (CanWriteEntry e)
entry_test e =
    let d = Decides-and _ _ (entry_name_test e.name) (object_name_test e.id) in (
      λ t. let h = d.0 t in record { name = h.0; id = h.1 },
      λ w. d.1 (w.name, w.id),
    )

-- ---- entries among each other

abbrev HaveOwnNames : List TreeEntry → Type 0
HaveOwnNames es = AllPairs (λ a b. a.name ≢ b.name) es

own_names_first : (e : TreeEntry) (es : List TreeEntry) → HaveOwnNames (e ∷ es)
    → All (λ other. e.name ≢ other.name) es
own_names_first e es h k d within = h 0 (suc k) d (omega arith) (omega arith)

own_names_rest : (e : TreeEntry) (es : List TreeEntry) → HaveOwnNames (e ∷ es) → HaveOwnNames es
own_names_rest e es h i j d lt within = h (suc i) (suc j) d (omega arith) (omega arith)

own_names_test : (es : List TreeEntry) → Decides (have_own_names es) (HaveOwnNames es)
unfolding have_own_names
own_names_test [] = (λ _ i j d lt within. absurd (omega arith), λ _. refl)
own_names_test (e ∷ es) =
    let d =
    Decides-and _ _
    (all_test (λ other. not (bytes_eq e.name other.name)) (λ other. e.name ≢ other.name)
    (λ other. differs e.name other.name) es) (own_names_test es) in (
      λ t. let h = d.0 t in AllPairs-cons (λ a b. a.name ≢ b.name) e es h.0 h.1,
      λ h. d.1 (own_names_first e es h, own_names_rest e es h),
    )

-- a test that is to fail
fails : (b : Bool) → Decides (not b) (b ≡ false)
fails true = (λ e. cc, λ e. cc)
fails false = (λ _. refl, λ _. refl)

next_is : (k : ℕ) → suc k + 1 ≡ suc (k + 1)
next_is k = omega arith

ascends_first : (e next : TreeEntry) (es : List TreeEntry) → IsSorted tree_cmp (e ∷ next ∷ es)
    → is_lt (tree_cmp next e) ≡ false
ascends_first e next es h = h 0 e (omega arith) (omega arith)

ascends_rest : (e : TreeEntry) (es : List TreeEntry) → IsSorted tree_cmp (e ∷ es)
    → IsSorted tree_cmp es
ascends_rest e es h k d low within =
    subst (λ (n : ℕ). is_lt (tree_cmp (get_or (e ∷ es) n d) (get_or es k d)) ≡ false) (next_is k)
    (h (suc k) d (omega arith) (omega arith))

ascends : (e next : TreeEntry) (es : List TreeEntry) → is_lt (tree_cmp next e) ≡ false
    → IsSorted tree_cmp (next ∷ es) → IsSorted tree_cmp (e ∷ next ∷ es)
ascends e next es first rest zero d low within = first
ascends e next es first rest (suc k) d low within =
    subst
    (λ (n : ℕ). is_lt (tree_cmp (get_or (e ∷ next ∷ es) n d) (get_or (next ∷ es) k d)) ≡ false)
    (sym (next_is k)) (rest k d (omega arith) (omega arith))

order_test : (es : List TreeEntry) → Decides (are_in_order es) (IsSorted tree_cmp es)
unfolding are_in_order
order_test [] = (λ _ k d low within. absurd (omega arith), λ _. refl)
order_test (e ∷ []) = (λ _ k d low within. absurd (omega arith), λ _. refl)
order_test (e ∷ next ∷ es) =
    let d = Decides-and _ _ (fails (is_lt (tree_cmp next e))) (order_test (next ∷ es)) in (
      λ t. let h = d.0 t in ascends e next es h.0 h.1,
      λ h. d.1 (ascends_first e next es h, ascends_rest e (next ∷ es) h),
    )

tree_test : (es : List TreeEntry) → Decides (can_be_tree es) (CanWriteTree es)
tree_test es =
    let d =
    Decides-and _ _ (Decides-and _ _ (all_test can_be_entry CanWriteEntry entry_test es)
    (own_names_test es)) (order_test es) in (
      λ t.
          let h = d.0 t in record {
            entries = h.0.0;
            names_are_distinct = h.0.1;
            in_order = h.1;
          },
      λ w. d.1 ((w.entries, w.names_are_distinct), w.in_order),
    )

pub text_test : (bytes : List ℕ) → Decides (is_tree_text bytes) (IsTreeText bytes (tree_read bytes))
unfolding is_tree_text
text_test bytes =
    let d =
    Decides-and _ _ (tree_test (tree_read bytes))
    (bytes_eq-Decides bytes (tree_contents (tree_read bytes))) in (
      λ t. let h = d.0 t in record { writable = h.0; contents = h.1 },
      λ w. d.1 (w.writable, w.contents),
    )

-- ---- directories and limits

has_files_test : (o : Option Summary) → Decides (has_files o) (IsSomeAnd o (λ s. s.files ≢ 0))
has_files_test None = (λ e. cc, λ h. absurd h)
has_files_test (Some s) = is_not 0 s.files

known_test : (m : FileMode) (o : Option Summary)
    → Decides (is_known m o) (m ≡ mode.Directory → IsSomeAnd o (λ s. s.files ≢ 0))
known_test mode.Directory o =
    let d = has_files_test o in (λ t _. d.0 t, λ h. d.1 (h refl))
known_test mode.Regular o = (λ _ is. cc is, λ _. refl)
known_test mode.Executable o = (λ _ is. cc is, λ _. refl)
known_test mode.Symlink o = (λ _ is. cc is, λ _. refl)
known_test mode.Gitlink o = (λ _ is. cc is, λ _. refl)

pub directories_test : (known : List ℕ → Option Summary) (es : List TreeEntry)
    → Decides (list_all (is_known_by known) es) (All (HasFilesBy known) es)
directories_test known es =
    all_test (is_known_by known) (HasFilesBy known) (λ e. known_test e.mode (known e.id)) es

at_most : (a b : ℕ) → Decides (nat_le a b) (a ≤ b)
at_most a b = (λ t. leb-true a b t, λ h. le-leb a b h)

pub within_test : (s : Summary) → Decides (is_within s) (IsWithin s)
within_test s =
    let d =
    Decides-and _ _ (Decides-and _ _ (at_most s.files files_limit)
    (at_most s.depth path_components_limit)) (at_most s.longest path_bytes_limit) in (
      λ t. let h = d.0 t in record { files = h.0.0; depth = h.0.1; longest = h.1 },
      λ w. d.1 ((w.files, w.depth), w.longest),
    )
