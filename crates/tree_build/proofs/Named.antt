-- Where an entry stands among others: a place in their row, and in the directory that they make.
use Rattle.std.proofs.Common.{◌≡◌, ◌≢◌, ℕ, suc, ◌<◌, ◌≤◌, Bool, true, false, cond, List, [], ◌∷◌, refl, sym, ap, ◌∙◌, subst, arith}
use Rattle.std.proofs.lemmas.Grind.{common_steps}
use Rattle.std.proofs.lemmas.List.{get_or_default}
use Rattle.std.proofs.lemmas.Bool.{ne_eqb}
use Rattle.std.specs.Prelude.{Option, None, Some, length, position, slice_index_or, slice_set, eqb}
use Rattle.std.specs.List.{insert, remove, position_or_len}
use Rattle.git_paths.proofs.Cases.{by_cases}
use Rattle.tenant_tables.proofs.EntryLemmas.{position-found}
use Rattle.file_maps.specs.FileMap.{Path}
use Rattle.tree_build.specs.declared.dir.Node.{Node}
use Rattle.tree_build.specs.declared.dir.Node.TheVariants.{File, Unopened, Opened}
use Rattle.tree_build.specs.Shape.{What, file, unopened, opened, Shape, none, row, Held, Directory}
use Rattle.tree_build.specs.Nodes.{held, shape_of, has_name}
use Rattle.tree_build.specs.Branch.{key_of}
use Rattle.tree_build.specs.Searches.{is_after}
use Rattle.tree_build.specs.Editing.{child, removed, inserted, changed, new_directory, inside_of, entries_in, is_opened, has_opened, put_next, placed, left, is_none}

abbrev pub Rows : Type 0
Rows = List (List ℕ × Node)

-- ---- the first that passes a test

module _ {A : Type 0} (p : A → Bool) where
  here : (x : A) (xs : List A) → p x ≡ true → position_or_len p (x ∷ xs) ≡ 0
  here x xs yea = rw yea refl

  later : (x : A) (xs : List A) → p x ≡ false
      → position_or_len p (x ∷ xs) ≡ suc (position_or_len p xs)
  later x xs nay = rw nay (omega arith)

  pub not_found : (xs : List A) → position p xs ≡ None → length xs ≤ position_or_len p xs
  not_found xs e = grind (arith, common_steps)

  pub none_found : (xs : List A) → position p xs ≡ None → length xs ≡ position_or_len p xs
  none_found xs e = let n = not_found xs e in let m = never_above xs in omega arith
    where
      never_above : (xs : List A) → position_or_len p xs ≤ length xs
      never_above [] = omega arith
      never_above (x ∷ xs) =
          let rest = never_above xs in
          by_cases (p x) (λ yea. let n = here x xs yea in omega arith) (λ nay. let n = later x xs nay in omega arith)

  pub found_within : (xs : List A) (i : ℕ) → position p xs ≡ Some i → i < length xs
  found_within xs i e = grind (arith, common_steps)

-- ---- one entry more

pub shape_insert : (c : List ℕ) (n : Node) (xs : Rows)
    → shape_of (insert xs (position_or_len (is_after (key_of c (held n).what)) xs) (c, n))
    ≡ inserted c (held n) (shape_of xs)
shape_insert c n [] = refl
shape_insert c n (x ∷ xs) =
    by_cases (is_after (key_of c (held n).what) x)
    (λ yea.
    ap (λ (k : ℕ). shape_of (insert (x ∷ xs) k (c, n))) (here (is_after (key_of c (held n).what)) x xs yea)
    ∙ ap (λ (b : Bool). cond b (row c (held n).what (held n).inside (shape_of (x ∷ xs)))
    (row x.0 (held x.1).what (held x.1).inside (inserted c (held n) (shape_of xs)))) (sym yea))
    (λ nay.
    ap (λ (k : ℕ). shape_of (insert (x ∷ xs) k (c, n))) (later (is_after (key_of c (held n).what)) x xs nay)
    ∙ ap (row x.0 (held x.1).what (held x.1).inside) (shape_insert c n xs)
    ∙ ap (λ (b : Bool). cond b (row c (held n).what (held n).inside (shape_of (x ∷ xs)))
    (row x.0 (held x.1).what (held x.1).inside (inserted c (held n) (shape_of xs)))) (sym nay))

-- ---- one entry less

pub shape_remove : (c : List ℕ) (xs : Rows)
    → shape_of (remove xs (position_or_len (has_name c) xs)) ≡ removed (shape_of xs) c
shape_remove c [] = refl
shape_remove c (x ∷ xs) =
    by_cases (has_name c x)
    (λ yea.
    ap (λ (k : ℕ). shape_of (remove (x ∷ xs) k)) (here (has_name c) x xs yea)
    ∙ ap (λ (b : Bool). cond b (shape_of xs) (row x.0 (held x.1).what (held x.1).inside (removed (shape_of xs) c))) (sym yea))
    (λ nay.
    ap (λ (k : ℕ). shape_of (remove (x ∷ xs) k)) (later (has_name c) x xs nay)
    ∙ ap (row x.0 (held x.1).what (held x.1).inside) (shape_remove c xs)
    ∙ ap (λ (b : Bool). cond b (shape_of xs) (row x.0 (held x.1).what (held x.1).inside (removed (shape_of xs) c))) (sym nay))

-- ---- no entry

pub shape_lacks : (c : List ℕ) (xs : Rows) → length xs ≤ position_or_len (has_name c) xs
    → (child (shape_of xs) c ≡ None) × (removed (shape_of xs) c ≡ shape_of xs)
shape_lacks c [] h = (refl, refl)
shape_lacks c (x ∷ xs) h =
    by_cases (has_name c x)
    (λ yea. let n = here (has_name c) x xs yea in absurd (omega arith))
    (λ nay. let n = later (has_name c) x xs nay in
    let rest = shape_lacks c xs (omega arith) in
    rw nay (rest.0, ap (row x.0 (held x.1).what (held x.1).inside) rest.1))

-- ---- the entry at a place

pub shape_found : (c : List ℕ) (xs : Rows) (k : ℕ) → position_or_len (has_name c) xs ≡ k → k < length xs
    → (y : List ℕ × Node) → slice_index_or xs k y ≡ y
    → (child (shape_of xs) c ≡ Some (held y.1))
    × ((n : Node) → shape_of (slice_set xs k (y.0, n)) ≡ changed (shape_of xs) c (held n))
shape_found c [] k is lt y at = absurd (omega arith)
shape_found c (x ∷ xs) k is lt y at =
    by_cases (has_name c x)
    (λ yea.
    let n : k ≡ 0 = sym is ∙ here (has_name c) x xs yea in
    let same : x ≡ y = subst (λ (j : ℕ). slice_index_or (x ∷ xs) j y ≡ y) n at in
    subst (λ (j : ℕ). (child (shape_of (x ∷ xs)) c ≡ Some (held y.1))
    × ((m : Node) → shape_of (slice_set (x ∷ xs) j (y.0, m)) ≡ changed (shape_of (x ∷ xs)) c (held m))) (sym n)
    (rw yea (
      ap (λ (z : List ℕ × Node). Some (held z.1)) same,
      λ m. ap (λ (z : List ℕ × Node). row z.0 (held m).what (held m).inside (shape_of xs)) (sym same),
    )))
    (λ nay.
    let n : k ≡ suc (position_or_len (has_name c) xs) = sym is ∙ later (has_name c) x xs nay in
    let rest = shape_found c xs (position_or_len (has_name c) xs) refl (omega arith) y
    (subst (λ (j : ℕ). slice_index_or (x ∷ xs) j y ≡ y) n at) in
    subst (λ (j : ℕ). (child (shape_of (x ∷ xs)) c ≡ Some (held y.1))
    × ((m : Node) → shape_of (slice_set (x ∷ xs) j (y.0, m)) ≡ changed (shape_of (x ∷ xs)) c (held m))) (sym n)
    (rw nay (
      rest.0,
      λ m. ap (row x.0 (held x.1).what (held x.1).inside) (rest.1 m),
    )))

-- the entry of a node, by its place
abbrev pub entry_here : Rows → ℕ → Node → List ℕ × Node
entry_here xs k n = ((slice_index_or xs k ([], n)).0, n)

pub entry_is : (xs : Rows) (k : ℕ) (n : Node) → k < length xs → n ≡ (slice_index_or xs k ([], n)).1
    → entry_here xs k n ≡ slice_index_or xs k (entry_here xs k n)
entry_is xs k n lt is =
    ap (λ (m : Node). ((slice_index_or xs k ([], n)).0, m)) is
    ∙ get_or_default xs k ([], n) (entry_here xs k n) lt

-- What is known of the entry at the place where a name was found: what stands under the name, and
-- the directory in which another node takes its place.
pub record IsFound (c : List ℕ) (xs : Rows) (at : ℕ) (y : List ℕ × Node) : Type 0 where
  pub within : at < length xs
  pub first : position_or_len (has_name c) xs ≡ at
  pub is : y ≡ slice_index_or xs at y
  pub stands : child (shape_of xs) c ≡ Some (held y.1)
  pub set : (n : Node) → shape_of (slice_set xs at (y.0, n)) ≡ changed (shape_of xs) c (held n)

pub entry_found : (c : List ℕ) (xs : Rows) (at : ℕ) → position (has_name c) xs ≡ Some at
    → (y : List ℕ × Node) → y ≡ slice_index_or xs at y → IsFound c xs at y
entry_found c xs at is y here =
    let within = found_within (has_name c) xs at is in
    let first = position-found (has_name c) xs at is in
    let found = shape_found c xs at first within y (sym here) in
    record { within = within; first = first; is = here; stands = found.0; set = found.1 }

pub node_found : (c : List ℕ) (xs : Rows) (at : ℕ) → position (has_name c) xs ≡ Some at
    → (n : Node) → n ≡ (slice_index_or xs at ([], n)).1 → IsFound c xs at (entry_here xs at n)
node_found c xs at is n here =
    entry_found c xs at is (entry_here xs at n) (entry_is xs at n (found_within (has_name c) xs at is) here)

-- where it was not found, nothing stands under it
pub name_lacks : (c : List ℕ) (xs : Rows) → position (has_name c) xs ≡ None
    → (child (shape_of xs) c ≡ None) × (removed (shape_of xs) c ≡ shape_of xs)
name_lacks c xs is = shape_lacks c xs (not_found (has_name c) xs is)

-- no opened directory
pub not_opened : (n : Node) → ((d : Directory) → n ≡ Opened d → ⊥) → is_opened (held n).what ≡ false
not_opened (File e) h = refl
not_opened (Unopened id) h = refl
not_opened (Opened d) h = absurd (h d refl)

-- ---- below an entry

inside_opened : (w : What) (inside : Shape) → is_opened w ≡ true → inside_of w inside ≡ inside
inside_opened (file e) inside h = cc h
inside_opened (unopened id) inside h = cc h
inside_opened (opened tree) inside h = refl

none_inside : (o : Option Held) → has_opened o ≡ false → entries_in o ≡ none
none_inside None h = refl
none_inside (Some k) h = by k.what h
  where
    by : (w : What) → is_opened w ≡ false → inside_of w k.inside ≡ none
    by (file e) n = refl
    by (unopened id) n = refl
    by (opened tree) n = cc n

-- a directory that was opened is changed in its place
pub put_in_place : (s : Shape) (c : List ℕ) (p : Path) (h k : Held) → p ≢ [] → child s c ≡ Some k
    → has_opened (child s c) ≡ true
    → changed s c (new_directory (placed p h k.inside)) ≡ put_next s c p h (placed p h (entries_in (child s c)))
put_in_place s c [] h k ne at is = absurd (ne refl)
put_in_place s c (d ∷ p) h k ne at is =
    let opened : is_opened k.what ≡ true = sym (ap has_opened at) ∙ is in
    ap (λ (x : Shape). changed s c (new_directory (placed (d ∷ p) h x)))
    (sym (ap entries_in at ∙ inside_opened k.what k.inside opened))
    ∙ ap (λ (b : Bool). cond b (changed s c (new_directory (placed (d ∷ p) h (entries_in (child s c)))))
    (inserted c (new_directory (placed (d ∷ p) h (entries_in (child s c)))) (removed s c))) (sym is)

-- a new one is put in place of what else stands there
pub put_new : (s : Shape) (c : List ℕ) (p : Path) (h : Held) (below : Shape) → p ≢ []
    → has_opened (child s c) ≡ false → below ≡ placed p h none
    → inserted c (new_directory below) (removed s c) ≡ put_next s c p h (placed p h (entries_in (child s c)))
put_new s c [] h below ne not is = absurd (ne refl)
put_new s c (d ∷ p) h below ne not is =
    ap (λ (x : Shape). inserted c (new_directory x) (removed s c))
    (is ∙ ap (placed (d ∷ p) h) (sym (none_inside (child s c) not)))
    ∙ ap (λ (b : Bool). cond b (changed s c (new_directory (placed (d ∷ p) h (entries_in (child s c)))))
    (inserted c (new_directory (placed (d ∷ p) h (entries_in (child s c)))) (removed s c))) (sym not)

-- ---- what is taken out again

pub none_left : (clear : Bool) (p : Path) (below : Shape) → left clear p None below ≡ None
none_left clear [] below = refl
none_left clear (d ∷ p) below = refl

pub empty_shape : (xs : Rows) → eqb (length xs) 0 ≡ is_none (shape_of xs)
empty_shape [] = refl
empty_shape (x ∷ xs) = ne_eqb (length (x ∷ xs)) 0 (λ e. cc e)
