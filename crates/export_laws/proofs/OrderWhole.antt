-- A tree that is there is not walked again.
use Rattle.std.proofs.Common.{◌≡◌, ℕ, zero, suc, ◌<◌, true, List, [], ◌∷◌, Option, None, Some, is_some, refl, sym, ap, ◌∙◌, subst, arith}
use Rattle.std.specs.List.{AllByRecursion}
use Rattle.std.proofs.lemmas.Bool.{false≢true}
use Rattle.std.proofs.lemmas.List.Elements.{All-from_recursion, recursion_from_All}
use Rattle.std.proofs.lemmas.Slice.Eq.{bytes_eq-Decides}
use Rattle.git_model.specs.declared.file_mode.FileMode.{FileMode}
use Rattle.git_model.specs.declared.file_mode.FileMode.TheVariants as mode
use Rattle.git_model.specs.Content.{Content}
use Rattle.git_model.specs.References.{content_named}
use Rattle.git_model.specs.Repository.{Object, object_named, with_object}
use Rattle.git_model.specs.StoredPath.{entries_of}
use Rattle.git_model.specs.Tree.{TreeEntry}
use Rattle.git_model.proofs.Growing.{after_prefix}
use Rattle.git_model.proofs.Places.{first_named}
use Rattle.file_maps.specs.StoredTree.{HasTree}
use Rattle.file_maps.specs.StoredAgain.{AreTreesGood, Every, IsFilled}
use Rattle.file_maps.proofs.Apart.{all-weaker}
use Rattle.file_maps.proofs.ListedLater.{named-later}
use Rattle.file_maps.proofs.StoredAgain.{filled-in}
use Rattle.file_maps.proofs.StoredFiles.{RanksBelow, entries-at}
use Rattle.export_laws.specs.Order.{AreWhole, trees_by, trees_within, with_named}
use Rattle.export_laws.proofs.OrderNames.{named-both}
use Rattle.export_laws.proofs.OrderTrees.{below, trees-level, trees_at}
use Rattle.export_laws.proofs.Storing.{found-last, object_of}

-- ---- what is there

abbrev IsHere : List Object → List ℕ → Type 0
IsHere held id = is_some (object_named id held) ≡ true

some-named : {P : Type 0} (o : Option Content) → is_some o ≡ true
    → ((c : Content) → o ≡ Some c → P) → P
some-named None h f = absurd (false≢true h)
some-named (Some c) h f = f c refl

stays-one : (id : List ℕ) (c : Content) (held : List Object) (x : List ℕ) → IsHere held x
    → IsHere (with_object id c held) x
stays-one id c held x h =
    some-named (object_named x held) h (λ d is. ap is_some (named-later x d id c held is))

stays : (os : List Object) (ids : List (List ℕ)) (held : List Object) (x : List ℕ) → IsHere held x
    → IsHere (with_named os ids held) x
stays os [] held x h = h
stays os (id ∷ ids) held x h =
    stays os ids (with_named os (id ∷ []) held) x (stays-one id (content_named id os) held x h)

comes-in : (id : List ℕ) (c : Content) (held : List Object) → IsHere (with_object id c held) id
comes-in id c held = by (object_named id held) refl
  where
    by : (o : Option Content) → object_named id held ≡ o → IsHere (with_object id c held) id
    by None none = rw none
        (ap is_some (after_prefix id held (object_of id c ∷ []) none
        ∙ first_named id (object_of id c) [] ((bytes_eq-Decides id id).1 refl)))
    by (Some d) has = rw has (ap is_some has)

there-already : (id : List ℕ) (c : Content) (held : List Object) → IsHere held id
    → with_object id c held ≡ held
there-already id c held h = rw h refl

-- what is there after one more is that one, or was there
one-of : {P : Type 0} (id : List ℕ) (c : Content) (held : List Object) (x : List ℕ)
    → IsHere (with_object id c held) x → (IsHere held x → P) → (x ≡ id → P) → P
one-of {P} id c held x h old new = by (object_named id held) refl
  where
    by : (o : Option Content) → object_named id held ≡ o → P
    by None none =
        some-named (object_named x (with_object id c held)) h
        (λ d is. found-last held (object_of id c) x d (rw none at is) (λ was. old (ap is_some was)) (λ same content. new same))
    by (Some d) has = old (rw has at h)

-- ---- trees of directories

abbrev Directories : List Object → List TreeEntry → Type 0
Directories held es = AllByRecursion (λ (e : TreeEntry). e.mode ≡ mode.Directory → IsHere held e.id) es

module _ (os : List Object) where
  directories-stay : (ids : List (List ℕ)) (held : List Object) (es : List TreeEntry) → Directories held es
      → Directories (with_named os ids held) es
  directories-stay ids held es h =
      all-weaker (λ (e : TreeEntry). e.mode ≡ mode.Directory → IsHere held e.id)
      (λ (e : TreeEntry). e.mode ≡ mode.Directory → IsHere (with_named os ids held) e.id)
      (λ e at is. stays os ids held e.id (at is)) es h

  -- an object whose directories are there
  pub one-more : (id : List ℕ) (held : List Object) → AreWhole os held → Directories held (entries_of os id)
      → AreWhole os (with_named os (id ∷ []) held)
  one-more id held whole here x h =
      All-from_recursion _ (entries_of os x)
      (directories-stay (id ∷ []) held (entries_of os x)
      (one-of id (content_named id os) held x h
      (λ was. recursion_from_All _ (entries_of os x) (whole x was))
      (λ same. subst (λ (y : List ℕ). Directories held (entries_of os y)) (sym same) here)))

  directories-of : (held : List Object) → AreWhole os held → (id : List ℕ) (es : List TreeEntry)
      → HasTree os id es → IsHere held id → Directories held es
  directories-of held whole id es has here =
      subst (Directories held) (entries-at os id es has) (recursion_from_All _ (entries_of os id) (whole id here))

-- ---- all trees below one

module _ (digest : List ℕ → List ℕ) (os : List Object) (good : AreTreesGood digest os Every)
    (rank : List ℕ → ℕ)
    (falls : (id : List ℕ) (es : List TreeEntry) → HasTree os id es → RanksBelow rank (rank id) es) where
  abbrev with_below : ℕ → TreeEntry → List Object → List Object
  with_below k e held = with_named os (trees_by e.mode (trees_within os k e.id)) held

  -- a tree that is there adds nothing
  abbrev Once : ℕ → Type 0
  Once k = (id : List ℕ) (es : List TreeEntry) → HasTree os id es → rank id < k → (held : List Object)
      → AreWhole os held → IsHere held id → with_named os (trees_within os k id) held ≡ held

  one-skipped : (k : ℕ) → Once k → (e : TreeEntry) → (e.mode ≡ mode.Directory → rank e.id < k)
      → IsFilled os Every e → (held : List Object) → AreWhole os held
      → (e.mode ≡ mode.Directory → IsHere held e.id) → with_below k e held ≡ held
  one-skipped k once e r h held whole here = by e.mode refl
    where
      by : (m : FileMode) → e.mode ≡ m → with_named os (trees_by m (trees_within os k e.id)) held ≡ held
      by mode.Directory is = let t = h is in once e.id t.inside t.tree (r is) held whole (here is)
      by mode.Regular is = refl
      by mode.Executable is = refl
      by mode.Symlink is = refl
      by mode.Gitlink is = refl

  all-skipped : (k : ℕ) → Once k → (es : List TreeEntry) → RanksBelow rank k es
      → AllByRecursion (IsFilled os Every) es → (held : List Object) → AreWhole os held → Directories held es
      → with_named os (trees_at os k es) held ≡ held
  all-skipped k once [] r h held whole here = refl
  all-skipped k once (e ∷ es) r h held whole here =
      named-both os (trees_by e.mode (trees_within os k e.id)) (trees_at os k es) held
      ∙ ap (with_named os (trees_at os k es)) (one-skipped k once e r.0 h.0 held whole here.0)
      ∙ all-skipped k once es r.1 h.1 held whole here.1

  pub once : (k : ℕ) → Once k
  once zero id es has lt held whole here = absurd (omega arith)
  once (suc k) id es has lt held whole here =
      ap (λ (ids : List (List ℕ)). with_named os ids held) (trees-level os k id es has)
      ∙ named-both os (trees_at os k es) (id ∷ []) held
      ∙ ap (with_named os (id ∷ []))
      (all-skipped k (once k) es (below os rank falls id es k has lt) (filled-in digest os Every good id es has tt) held whole
      (directories-of os held whole id es has here))
      ∙ there-already id (content_named id os) held here

  -- a tree is there once it was added, and each tree has its directories then
  pub record Comes (held : List Object) (ids : List (List ℕ)) (id : List ℕ) : Type 0 where
    pub whole : AreWhole os (with_named os ids held)
    pub there : IsHere (with_named os ids held) id

  abbrev Comings : ℕ → Type 0
  Comings k = (id : List ℕ) (es : List TreeEntry) → HasTree os id es → rank id < k → (held : List Object)
      → AreWhole os held → Comes held (trees_within os k id) id

  record AllCome (new : List Object) (es : List TreeEntry) : Type 0 where
    whole : AreWhole os new
    there : Directories new es

  record OneComes (new : List Object) (e : TreeEntry) : Type 0 where
    whole : AreWhole os new
    there : e.mode ≡ mode.Directory → IsHere new e.id

  one-comes : (k : ℕ) → Comings k → (e : TreeEntry) → (e.mode ≡ mode.Directory → rank e.id < k)
      → IsFilled os Every e → (held : List Object) → AreWhole os held → OneComes (with_below k e held) e
  one-comes k comings e r h held whole = by e.mode refl
    where
      by : (m : FileMode) → e.mode ≡ m → OneComes (with_named os (trees_by m (trees_within os k e.id)) held) e
      by mode.Directory is =
          let t = h is in
          let c = comings e.id t.inside t.tree (r is) held whole in
          record { whole = c.whole; there = λ again. c.there }
      by mode.Regular is = record { whole = whole; there = λ d. cc }
      by mode.Executable is = record { whole = whole; there = λ d. cc }
      by mode.Symlink is = record { whole = whole; there = λ d. cc }
      by mode.Gitlink is = record { whole = whole; there = λ d. cc }

  all-come : (k : ℕ) → Comings k → (es : List TreeEntry) → RanksBelow rank k es
      → AllByRecursion (IsFilled os Every) es → (held : List Object) → AreWhole os held
      → AllCome (with_named os (trees_at os k es) held) es
  all-come k comings [] r h held whole = record { whole = whole; there = tt }
  all-come k comings (e ∷ es) r h held whole =
      let one = one-comes k comings e r.0 h.0 held whole in
      let rest = all-come k comings es r.1 h.1 (with_below k e held) one.whole in
      subst (λ (new : List Object). AllCome new (e ∷ es))
      (sym (named-both os (trees_by e.mode (trees_within os k e.id)) (trees_at os k es) held))
      (record {
        whole = rest.whole;
        there = (λ is. stays os (trees_at os k es) (with_below k e held) e.id (one.there is), rest.there);
      })

  pub comes : (k : ℕ) → Comings k
  comes zero id es has lt held whole = absurd (omega arith)
  comes (suc k) id es has lt held whole =
      let inner = all-come k (comes k) es (below os rank falls id es k has lt) (filled-in digest os Every good id es has tt) held whole in
      let mid : List Object = with_named os (trees_at os k es) held in
      subst (λ (ids : List (List ℕ)). Comes held ids id) (sym (trees-level os k id es has))
      (record {
        whole =
            subst (AreWhole os) (sym (named-both os (trees_at os k es) (id ∷ []) held))
            (one-more os id mid inner.whole (subst (Directories mid) (sym (entries-at os id es has)) inner.there));
        there =
            subst (λ (l : List Object). IsHere l id) (sym (named-both os (trees_at os k es) (id ∷ []) held))
            (comes-in id (content_named id os) mid);
      })
