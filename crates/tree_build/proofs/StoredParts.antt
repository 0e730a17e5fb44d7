-- What stands below a path of a stored tree is what stands in the part of its first entry.
use Rattle.std.proofs.Common.{◌≡◌, ◌≢◌, ℕ, Bool, true, false, cond, List, [], ◌∷◌, ◌++◌, Option, Some, None, refl, sym, ap, ◌∙◌, subst}
use Rattle.std.specs.Option.{option_map}
use Rattle.std.specs.List.{AllByRecursion}
use Rattle.std.specs.Str.{bytes_eq}
use Rattle.std.proofs.lemmas.Slice.Eq.{bytes_eq-Decides}
use Rattle.git_model.specs.declared.file_mode.FileMode.{FileMode}
use Rattle.git_model.specs.declared.file_mode.FileMode.TheVariants as mode
use Rattle.git_model.specs.Repository.{Object}
use Rattle.git_model.specs.Tree.{TreeEntry}
use Rattle.git_paths.proofs.Cases.{by_cases, some_is}
use Rattle.tenant_tables.specs.IsBackedBy.{AreBacked}
use Rattle.file_maps.specs.declared.entry.Entry.{Entry}
use Rattle.file_maps.specs.FileMap.{Path, Listed}
use Rattle.file_maps.specs.Edits.{cut, moved}
use Rattle.file_maps.specs.Trees.{Groups, file_of, directory, entry_or}
use Rattle.file_maps.specs.ByComponent.{what}
use Rattle.file_maps.specs.PlainTrees.{HasSummary, ListsPlain}
use Rattle.file_maps.specs.StoredTree.{HasTree, Lists, nothing, first_file, first_directory}
use Rattle.file_maps.specs.StoredAgain.{IsFilled, AreTreesGood}
use Rattle.file_maps.specs.StoredFiles.{stored_files}
use Rattle.file_maps.proofs.Listing.{Distinct, distinct, has-only}
use Rattle.file_maps.proofs.ListedOrder.{cut-root}
use Rattle.file_maps.proofs.StoredAgain.{lists-some, inside-some, filled-in}
use Rattle.file_maps.proofs.Backed.{trees-good}
use Rattle.file_maps.proofs.KnownTrees.{plain-stored}
use Rattle.tree_build.specs.Parts.{spread, part_of, AreParts}
use Rattle.tree_build.specs.Rows.{IsPart, a_file, a_directory, HaveParts}
use Rattle.tree_build.specs.Standing.{HasEntry, stands_at, row_named, IsFoundAt}
use Rattle.tree_build.proofs.Look.{turn_bytes}
use Rattle.tree_build.proofs.Rows.{no_file, id-again}
use Rattle.tree_build.proofs.Spread.{cut-spread}

-- ---- by the files

pub stands-part : (digest : List ℕ → List ℕ) (parts : Groups) → AreParts parts → (c : List ℕ) (rest : Path)
    → stands_at digest (spread parts) (c ∷ rest) ≡ stands_at digest (part_of c parts) rest
stands-part digest parts are c rest =
    ap (λ (l : Listed). entry_or digest false l (file_of l)) (cut-spread c rest parts are)

-- at the directory itself
pub stands-here : (digest : List ℕ → List ℕ) (fs : Listed) → fs ≢ [] → file_of fs ≡ None
    → stands_at digest fs [] ≡ Some (directory digest fs)
stands-here digest [] some none = absurd (some refl)
stands-here digest (f ∷ fs) some none =
    ap (λ (l : Listed). entry_or digest false l (file_of l)) (cut-root (f ∷ fs))
    ∙ ap (entry_or digest false (f ∷ fs)) none

-- ---- the parts of a stored tree

record PartsOf (os : List Object) (es : List TreeEntry) (fs : Listed) : Type 0 where
  parts : Groups
  have : HaveParts os es parts
  is : fs ≡ spread parts
  are : AreParts parts

module _ (digest : List ℕ → List ℕ) (os : List Object) (good : AreTreesGood digest os (HasSummary os)) where
  names-differ : (c : List ℕ) (es : List TreeEntry) (parts : Groups) → HaveParts os es parts
      → AllByRecursion (λ d. c ≢ d.name) es → AllByRecursion (λ h. c ≢ h.0) parts
  names-differ c [] [] h d = tt
  names-differ c [] (g ∷ parts) h d = absurd h
  names-differ c (e ∷ es) [] h d = absurd h
  names-differ c (e ∷ es) (g ∷ parts) h d = (one h.0 d.0, names-differ c es parts h.1 d.1)
    where
      one : {x : TreeEntry} {p : List ℕ × Listed} → IsPart os x p → c ≢ x.name → c ≢ p.0
      one (a_file x ne) k = k
      one (a_directory x files is t some) k = k

  parts-of : {es : List TreeEntry} {fs : Listed} → Lists os es fs → Distinct es
      → AllByRecursion (IsFilled os (HasSummary os)) es → PartsOf os es fs
  parts-of nothing d h = record { parts = []; have = tt; is = refl; are = tt }
  parts-of (first_file e es files ne l) d h =
      let rest = parts-of l d.1 h.1 in record {
        parts = (e.name, ([], what e) ∷ []) ∷ rest.parts;
        have = (a_file e ne, rest.have);
        is = ap (λ (l : Listed). ((e.name ∷ []), what e) ∷ l) rest.is;
        are = ((λ no. cc no), names-differ e.name es rest.parts rest.have d.0, rest.are);
      }
  parts-of (first_directory e es inside below files is has sub l) d h =
      let rest = parts-of l d.1 h.1 in
      let plain = (h.0 is).meant in
      let some = lists-some digest os (HasSummary os) good sub
      (filled-in digest os (HasSummary os) good e.id inside has plain)
      (inside-some digest os (HasSummary os) good e inside h.0 is has) in record {
        parts = (e.name, below) ∷ rest.parts;
        have = (
          a_directory e below is (record { tree = record { direct = inside; tree = has; lists = sub }; plain = plain }) some,
          rest.have,
        );
        is = ap (λ (l : Listed). moved (e.name ∷ []) below ++ l) rest.is;
        are = (some, names-differ e.name es rest.parts rest.have d.0, rest.are);
      }

-- ---- what a tree has under a name

part-none : (os : List Object) (es : List TreeEntry) (parts : Groups) → HaveParts os es parts → (c : List ℕ)
    → row_named es c ≡ None → part_of c parts ≡ []
part-none os [] [] h c is = refl
part-none os [] (g ∷ parts) h c is = absurd h
part-none os (e ∷ es) [] h c is = absurd h
part-none os (e ∷ es) (g ∷ parts) h c is =
    by_cases (bytes_eq e.name c)
    (λ yea. let no : Some e ≡ None = ap (λ (b : Bool). cond b (Some e) (row_named es c)) (sym yea) ∙ is in cc no)
    (λ nay. other h.0 (turn_bytes e.name c nay)
    (part-none os es parts h.1 c (ap (λ (b : Bool). cond b (Some e) (row_named es c)) (sym nay) ∙ is)))
  where
    other : {x : TreeEntry} {p : List ℕ × Listed} → IsPart os x p → bytes_eq c x.name ≡ false
        → part_of c parts ≡ [] → part_of c (p ∷ parts) ≡ []
    other (a_file x ne) nay later = rw nay later
    other (a_directory x files is t some) nay later = rw nay later

part-some : (os : List Object) (es : List TreeEntry) (parts : Groups) → HaveParts os es parts → (c : List ℕ)
    (e : TreeEntry) → row_named es c ≡ Some e → IsPart os e (e.name, part_of c parts)
part-some os [] [] h c e is = cc is
part-some os [] (g ∷ parts) h c e is = absurd h
part-some os (x ∷ es) [] h c e is = absurd h
part-some os (x ∷ es) (g ∷ parts) h c e is =
    by_cases (bytes_eq x.name c)
    (λ yea.
    let found : Some x ≡ Some e = ap (λ (b : Bool). cond b (Some x) (row_named es c)) (sym yea) ∙ is in
    subst (λ (y : TreeEntry). IsPart os y (y.name, part_of c (g ∷ parts))) (some_is x e found)
    (here h.0 ((bytes_eq-Decides c x.name).1 (sym ((bytes_eq-Decides x.name c).0 yea)))))
    (λ nay. later h.0 (turn_bytes x.name c nay)
    (part-some os es parts h.1 c e (ap (λ (b : Bool). cond b (Some x) (row_named es c)) (sym nay) ∙ is)))
  where
    here : {y : TreeEntry} {p : List ℕ × Listed} → IsPart os y p → bytes_eq c y.name ≡ true
        → IsPart os y (y.name, part_of c (p ∷ parts))
    here (a_file y ne) yea = rw yea (a_file y ne)
    here (a_directory y files is t some) yea = rw yea (a_directory y files is t some)

    later : {y : TreeEntry} {p : List ℕ × Listed} → IsPart os y p → bytes_eq c y.name ≡ false
        → IsPart os e (e.name, part_of c parts) → IsPart os e (e.name, part_of c (p ∷ parts))
    later (a_file y ne) nay k = rw nay k
    later (a_directory y files is t some) nay k = rw nay k

pub of_file : {os : List Object} {e : TreeEntry} {g : List ℕ × Listed} → IsPart os e g → e.mode ≢ mode.Directory
    → g.1 ≡ ([], what e) ∷ []
of_file (a_file e ne) k = refl
of_file (a_directory e fs is t some) k = absurd (k is)

pub of_directory : {os : List Object} {e : TreeEntry} {g : List ℕ × Listed} → IsPart os e g → e.mode ≡ mode.Directory
    → ListsPlain os e.id g.1 × (g.1 ≢ [])
of_directory (a_file e ne) k = absurd (ne k)
of_directory (a_directory e fs is t some) k = (t, some)

module _ (digest : List ℕ → List ℕ) (os : List Object) (backed : AreBacked digest os)
    (id : List ℕ) (t : ListsPlain os id (stored_files os id))
    (rows : List TreeEntry) (has : HasTree os id rows) where
  abbrev fs : Listed
  fs = stored_files os id

  good : AreTreesGood digest os (HasSummary os)
  good = trees-good digest os backed

  own : PartsOf os rows (stored_files os id)
  own =
      let same = has-only os id t.tree.direct rows t.tree.tree has in
      parts-of digest os good (subst (λ (es : List TreeEntry). Lists os es fs) same t.tree.lists)
      (distinct rows has.entries.names_are_distinct) (filled-in digest os (HasSummary os) good id rows has t.plain)

  below : (c : List ℕ) (rest : Path) → stands_at digest fs (c ∷ rest) ≡ stands_at digest (part_of c own.parts) rest
  below c rest =
      ap (λ (l : Listed). stands_at digest l (c ∷ rest)) own.is ∙ stands-part digest own.parts own.are c rest

  pub below-none : (c : List ℕ) (rest : Path) → row_named rows c ≡ None → stands_at digest fs (c ∷ rest) ≡ None
  below-none c rest none =
      below c rest
      ∙ ap (λ (l : Listed). stands_at digest l rest) (part-none os rows own.parts own.have c none)

  pub below-file : (c d : List ℕ) (rest : Path) (e : TreeEntry) → row_named rows c ≡ Some e → e.mode ≢ mode.Directory
      → stands_at digest fs (c ∷ d ∷ rest) ≡ None
  below-file c d rest e is ne =
      below c (d ∷ rest)
      ∙ ap (λ (l : Listed). stands_at digest l (d ∷ rest))
      (of_file (part-some os rows own.parts own.have c e is) ne)

  pub below-directory : (c : List ℕ) (rest : Path) (e : TreeEntry) → row_named rows c ≡ Some e → e.mode ≡ mode.Directory
      → (stands_at digest fs (c ∷ rest) ≡ stands_at digest (stored_files os e.id) rest)
      × ListsPlain os e.id (stored_files os e.id) × (stored_files os e.id ≢ [])
  below-directory c rest e is dir =
      let part = of_directory (part-some os rows own.parts own.have c e is) dir in
      let same : stored_files os e.id ≡ part_of c own.parts = plain-stored os e.id _ part.0 in (
        below c rest ∙ ap (λ (l : Listed). stands_at digest l rest) (sym same),
        subst (ListsPlain os e.id) (sym same) part.0,
        λ no. part.1 (sym same ∙ no),
      )

  pub below-here : (c : List ℕ) (e : TreeEntry) → row_named rows c ≡ Some e
      → stands_at digest fs (c ∷ []) ≡ Some (what e)
  below-here c e is = by e.mode refl
    where
      file_here : e.mode ≢ mode.Directory → stands_at digest fs (c ∷ []) ≡ Some (what e)
      file_here ne =
          below c []
          ∙ ap (λ (l : Listed). stands_at digest l [])
          (of_file (part-some os rows own.parts own.have c e is) ne)

      by : (m : FileMode) → e.mode ≡ m → stands_at digest fs (c ∷ []) ≡ Some (what e)
      by mode.Directory at =
          let d = below-directory c [] e is at in
          d.0 ∙ stands-here digest (stored_files os e.id) d.2 (no_file os e.id (stored_files os e.id) d.1)
          ∙ (let name = id-again digest os good e.id (stored_files os e.id) d.1 in let back = sym at in
          λ i. Some (record { mode = back i; name = name i }))
      by mode.Regular at = file_here (λ d. let no = sym at ∙ d in cc no)
      by mode.Executable at = file_here (λ d. let no = sym at ∙ d in cc no)
      by mode.Symlink at = file_here (λ d. let no = sym at ∙ d in cc no)
      by mode.Gitlink at = file_here (λ d. let no = sym at ∙ d in cc no)

  cut-below : (c : List ℕ) (rest : Path) → cut (c ∷ rest) fs ≡ cut rest (part_of c own.parts)
  cut-below c rest = ap (cut (c ∷ rest)) own.is ∙ cut-spread c rest own.parts own.are

  pub found-none : (c : List ℕ) (rest : Path) → row_named rows c ≡ None → cut (c ∷ rest) fs ≡ []
  found-none c rest none = cut-below c rest ∙ ap (cut rest) (part-none os rows own.parts own.have c none)

  pub found-file : (c d : List ℕ) (rest : Path) (e : TreeEntry) → row_named rows c ≡ Some e → e.mode ≢ mode.Directory
      → cut (c ∷ d ∷ rest) fs ≡ []
  found-file c d rest e is ne =
      cut-below c (d ∷ rest) ∙ ap (cut (d ∷ rest)) (of_file (part-some os rows own.parts own.have c e is) ne)

  pub found-directory : (c : List ℕ) (rest : Path) (e : TreeEntry) → row_named rows c ≡ Some e → e.mode ≡ mode.Directory
      → cut (c ∷ rest) fs ≡ cut rest (stored_files os e.id)
  found-directory c rest e is dir =
      let part = of_directory (part-some os rows own.parts own.have c e is) dir in
      cut-below c rest ∙ ap (cut rest) (sym (plain-stored os e.id _ part.0))

  unnamed_part : {e : TreeEntry} {g : List ℕ × Listed} → IsPart os e g
      → IsPart os (record { mode = e.mode; name = []; id = e.id }) ([], g.1)
  unnamed_part (a_file e ne) = a_file _ ne
  unnamed_part (a_directory e files is t some) = a_directory _ files is t some

  pub found-here : (c : List ℕ) (e : TreeEntry) → row_named rows c ≡ Some e
      → IsFoundAt os (Some (what e)) (cut (c ∷ []) fs)
  found-here c e is =
      subst (λ (l : Listed). IsPart os (record { mode = e.mode; name = []; id = e.id }) ([], l))
      (sym (cut-below c [] ∙ cut-root (part_of c own.parts)))
      (unnamed_part (part-some os rows own.parts own.have c e is))

-- ---- what is found

described : (o : Option TreeEntry) (r : Entry) → Some r ≡ option_map what o → (e : TreeEntry) × (o ≡ Some e) × (r ≡ what e)
described None r h = cc h
described (Some e) r h = (e, refl, some_is r (what e) h)

not_found : (o : Option TreeEntry) → ◌≡◌ {A = Option Entry} None (option_map what o) → o ≡ None
not_found None h = refl
not_found (Some e) h = cc h

module _ {digest : List ℕ → List ℕ} {os : List Object} (backed : AreBacked digest os)
    {id : List ℕ} (t : ListsPlain os id (stored_files os id))
    {c : List ℕ} {o : Option Entry} (named : HasEntry os id c o) where
  abbrev rows : List TreeEntry
  rows = named.rows

  -- what is at a path below the tree, with these files
  abbrev IsAt : Option Entry → Path → Type 0
  IsAt x rest =
      (x ≡ stands_at digest (stored_files os id) (c ∷ rest))
      × IsFoundAt os x (cut (c ∷ rest) (stored_files os id))

  pub none-named : (rest : Path) → o ≡ None → IsAt None rest
  none-named rest is =
      let none = not_found (row_named rows c) (sym is ∙ named.row) in (
        sym (below-none digest os backed id t rows named.tree c rest none),
        found-none digest os backed id t rows named.tree c rest none,
      )

  row-of : (r : Entry) → o ≡ Some r → (e : TreeEntry) × (row_named rows c ≡ Some e) × (r ≡ what e)
  row-of r is = described (row_named rows c) r (sym is ∙ named.row)

  pub named-here : (r : Entry) → o ≡ Some r → (rest : Path) → rest ≡ [] → IsAt (Some r) rest
  named-here r is rest end =
      let e = row-of r is in
      subst (λ (p : Path). IsAt (Some r) p) (sym end)
      (subst (λ (x : Entry). IsAt (Some x) []) (sym e.2) (
        sym (below-here digest os backed id t rows named.tree c e.0 e.1),
        found-here digest os backed id t rows named.tree c e.0 e.1,
      ))

  pub no-directory : (r : Entry) → o ≡ Some r → (rest : Path) (d : List ℕ) (left : Path) → rest ≡ d ∷ left
      → r.mode ≢ mode.Directory → IsAt None rest
  no-directory r is rest d left more ne =
      let e = row-of r is in
      let no : e.0.mode ≢ mode.Directory = λ dir. ne (ap (λ (x : Entry). x.mode) e.2 ∙ dir) in
      subst (λ (p : Path). IsAt None p) (sym more) (
        sym (below-file digest os backed id t rows named.tree c d left e.0 e.1 no),
        found-file digest os backed id t rows named.tree c d left e.0 e.1 no,
      )

  -- what is below a directory is at the rest of the path below its tree
  pub record IsBelow (id_below : List ℕ) (rest : Path) : Type 0 where
    pub same : stands_at digest (stored_files os id) (c ∷ rest)
        ≡ stands_at digest (stored_files os id_below) rest
    pub tree : ListsPlain os id_below (stored_files os id_below)
    pub files : cut (c ∷ rest) (stored_files os id)
        ≡ cut rest (stored_files os id_below)

  pub in-directory : (r : Entry) → o ≡ Some r → (rest : Path) → r.mode ≡ mode.Directory → IsBelow r.name rest
  in-directory r is rest dir =
      let e = row-of r is in
      let its : e.0.mode ≡ mode.Directory = sym (ap (λ (x : Entry). x.mode) e.2) ∙ dir in
      let below = below-directory digest os backed id t rows named.tree c rest e.0 e.1 its in
      subst (λ (x : Entry). IsBelow x.name rest) (sym e.2) (record {
        same = below.0;
        tree = below.1;
        files = found-directory digest os backed id t rows named.tree c rest e.0 e.1 its;
      })
