-- Entries that are put into a directory, taken out of it, or changed.
use Rattle.std.proofs.Common.{◌≡◌, ◌≢◌, ℕ, ◌+◌, Bool, true, false, cond, List, [], ◌∷◌, ◌++◌, refl, sym, ap, ◌∙◌, subst, arith}
use Rattle.std.specs.Prelude.{Option, None, Some, All, length}
use Rattle.std.specs.Cmp.Lexicographic.{slice_cmp, nat_list_cmp_total}
use Rattle.std.specs.FinMap.{nat_cmp-IsAntisymmetric, slice_cmp-IsAntisymmetric}
use Rattle.std.specs.Ordering.{nat_cmp, is_lt, ordering_reverse}
use Rattle.std.specs.Str.{bytes_eq}
use Rattle.std.specs.declared.cmp.Ordering.{Ordering}
use Rattle.std.specs.declared.cmp.Ordering.TheVariants.{Less, Equal, Greater}
use Rattle.std.proofs.lemmas.Bool.{true≢false}
use Rattle.std.proofs.lemmas.List.{length-append}
use Rattle.std.proofs.lemmas.List.Elements.{All-head, All-tail}
use Rattle.std.proofs.lemmas.Slice.Eq.{bytes_eq-Decides}
use Rattle.git_model.specs.Repository.{Object}
use Rattle.git_model.specs.Tree.{IsEntryName}
use Rattle.git_paths.proofs.Cases.{by_cases}
use Rattle.file_maps.specs.FileMap.{Listed}
use Rattle.file_maps.specs.Edits.{moved}
use Rattle.file_maps.specs.StoredFiles.{stored_files}
use Rattle.tree_build.specs.Shape.{What, file, unopened, opened, Shape, none, row, Held, Known, what_files, shape_files, held_files}
use Rattle.tree_build.specs.Branch.{slash_after, key_of, IsNodeBefore, IsBeforeAll, IsRow, IsShape}
use Rattle.tree_build.specs.Editing.{child, removed, inserted, changed}
use Rattle.tree_build.proofs.Look.{is_bytes, not_bytes}
use Rattle.tree_build.proofs.Growing.{length_moved}

abbrev cmp : List ℕ → List ℕ → Ordering
cmp a b = slice_cmp nat_cmp a b

-- ---- what stands under a name

no_some : (o : Option Held) (k : Held) (b : Bool) → b ≡ true → cond b (Some k) o ≡ None → ⊥
no_some o k true y e = cc e
no_some o k false y e = cc y

never_after : (c : List ℕ) (w : What) (s : Shape) → IsBeforeAll c w s → child s c ≡ None
never_after c w none h = refl
never_after c w (row d v inside rest) h =
    let nay = not_bytes d c (λ e. h.0.names (sym e)) in rw nay (never_after c w rest h.1)

pub child_removed : (os : List Object) (s : Shape) → IsShape os s → (c : List ℕ)
    → child (removed s c) c ≡ None
child_removed os none h c = refl
child_removed os (row d w inside rest) h c =
    by_cases (bytes_eq d c)
    (λ yea. rw yea (subst (λ (x : List ℕ). child rest x ≡ None) (is_bytes d c yea)
    (never_after d w rest h.1)))
    (λ nay. rw (nay, nay) (child_removed os rest h.3 c))

pub beside_removed : (s : Shape) (c x : List ℕ) → bytes_eq c x ≡ false
    → child (removed s c) x ≡ child s x
beside_removed none c x other = refl
beside_removed (row d w inside rest) c x other =
    by_cases (bytes_eq d c)
    (λ yea. let is = is_bytes d c yea in
    let away : bytes_eq d x ≡ false = subst (λ (z : List ℕ). bytes_eq z x ≡ false) (sym is) other in
    rw (yea, away) refl)
    (λ nay. rw nay (by_cases (bytes_eq d x) (λ y. rw y refl) (λ n. rw n (beside_removed rest c x other))))

pub child_inserted : (c : List ℕ) (h : Held) (s : Shape) → child s c ≡ None
    → child (inserted c h s) c ≡ Some h
child_inserted c h none fresh = let here = (bytes_eq-Decides c c).1 refl in rw here refl
child_inserted c h (row d w inside rest) fresh =
    by_cases (is_lt (cmp (key_of c h.what) (key_of d w)))
    (λ yea. let here = (bytes_eq-Decides c c).1 refl in rw (yea, here) refl)
    (λ nay. rw nay (by_cases (bytes_eq d c)
    (λ y. absurd (no_some (child rest c) (record { what = w; inside = inside }) (bytes_eq d c) y fresh))
    (λ n. let later : child rest c ≡ None = subst (λ (b : Bool). cond b (Some (record { what = w; inside = inside })) (child rest c) ≡ None) n fresh in
    rw n (child_inserted c h rest later))))

pub beside_inserted : (c : List ℕ) (h : Held) (s : Shape) (x : List ℕ) → bytes_eq c x ≡ false
    → child (inserted c h s) x ≡ child s x
beside_inserted c h none x other = rw other refl
beside_inserted c h (row d w inside rest) x other =
    by_cases (is_lt (cmp (key_of c h.what) (key_of d w)))
    (λ yea. rw (yea, other) refl)
    (λ nay. rw nay (by_cases (bytes_eq d x) (λ y. rw y refl) (λ n. rw n (beside_inserted c h rest x other))))

pub child_changed : (s : Shape) (c : List ℕ) (h k : Held) → child s c ≡ Some k
    → child (changed s c h) c ≡ Some h
child_changed none c h k there = cc there
child_changed (row d w inside rest) c h k there =
    by_cases (bytes_eq d c) (λ yea. rw (yea, yea) refl)
    (λ nay. let later : child rest c ≡ Some k = subst (λ (b : Bool). cond b (Some (record { what = w; inside = inside })) (child rest c) ≡ Some k) nay there in
    rw (nay, nay) (child_changed rest c h k later))

pub beside_changed : (s : Shape) (c : List ℕ) (h : Held) (x : List ℕ) → bytes_eq c x ≡ false
    → child (changed s c h) x ≡ child s x
beside_changed none c h x other = refl
beside_changed (row d w inside rest) c h x other =
    by_cases (bytes_eq d c)
    (λ yea. let is = is_bytes d c yea in
    let away : bytes_eq d x ≡ false = subst (λ (z : List ℕ). bytes_eq z x ≡ false) (sym is) other in
    rw (yea, away) refl)
    (λ nay. rw nay (by_cases (bytes_eq d x) (λ y. rw y refl) (λ n. rw n (beside_changed rest c h x other))))

-- ---- Git's order

abbrev IsSlash : List ℕ → Type 0
IsSlash s = (b : ℕ) (q : List ℕ) → s ≡ b ∷ q → b ≡ 47

slash_is : (w : What) → IsSlash (slash_after w)
slash_is (file e) b q h = cc h
slash_is (unopened id) b q h = cc h
slash_is (opened tree) b q h = cc h

heads : (x y : ℕ) (a b : List ℕ) → x ∷ a ≡ y ∷ b → x ≡ y
heads x y a b h = cc h

tails : (x y : ℕ) (a b : List ℕ) → x ∷ a ≡ y ∷ b → a ≡ b
tails x y a b h = cc h

same_names : (c d s t : List ℕ) → All (λ b. b ≢ 47) c → All (λ b. b ≢ 47) d → IsSlash s → IsSlash t
    → c ++ s ≡ d ++ t → c ≡ d
same_names [] [] s t nc nd is it h = refl
same_names [] (y ∷ d) s t nc nd is it h = absurd (All-head (λ b. b ≢ 47) y d nd (is y (d ++ t) h))
same_names (x ∷ c) [] s t nc nd is it h = absurd (All-head (λ b. b ≢ 47) x c nc (it x (c ++ s) (sym h)))
same_names (x ∷ c) (y ∷ d) s t nc nd is it h =
    let one = heads x y (c ++ s) (d ++ t) h in
    let rest = same_names c d s t (All-tail (λ b. b ≢ 47) x c nc) (All-tail (λ b. b ≢ 47) y d nd) is it (tails x y (c ++ s) (d ++ t) h) in
    λ i. one i ∷ rest i

pub equal_keys : (c : List ℕ) (w : What) (d : List ℕ) (v : What) → IsEntryName c → IsEntryName d
    → cmp (key_of c w) (key_of d v) ≡ Equal → c ≡ d
equal_keys c w d v ic id is =
    same_names c d (slash_after w) (slash_after v) ic.no_slash id.no_slash
    (slash_is w) (slash_is v)
    (slice_cmp-IsAntisymmetric nat_cmp-IsAntisymmetric (key_of c w) (key_of d v) is)

-- of two entries of distinct names one stands before the other
other_way : (c : List ℕ) (w : What) (d : List ℕ) (v : What) → IsEntryName c → IsEntryName d → d ≢ c
    → is_lt (cmp (key_of c w) (key_of d v)) ≡ false → IsNodeBefore d v c w
other_way c w d v ic id ne nay = record {
  names = ne;
  order = by (cmp (key_of c w) (key_of d v)) refl;
}
  where
    by : (r : Ordering) → cmp (key_of c w) (key_of d v) ≡ r → cmp (key_of d v) (key_of c w) ≡ Less
    by Less is = let no : true ≡ false = ap is_lt (sym is) ∙ nay in absurd (true≢false no)
    by Equal is = absurd (ne (sym (equal_keys c w d v ic id is)))
    by Greater is = nat_list_cmp_total.antisymm (key_of d v) (key_of c w) ∙ ap ordering_reverse is

before_before : (c : List ℕ) (w : What) (d : List ℕ) (v : What)
    → cmp (key_of c w) (key_of d v) ≡ Less → (s : Shape) → IsBeforeAll d v s → child s c ≡ None
    → IsBeforeAll c w s
before_before c w d v less none h fresh = tt
before_before c w d v less (row e u inside rest) h fresh =
    by_cases (bytes_eq e c)
    (λ yea. absurd (no_some (child rest c) (record { what = u; inside = inside }) (bytes_eq e c) yea fresh))
    (λ nay.
    let later : child rest c ≡ None = subst (λ (b : Bool). cond b (Some (record { what = u; inside = inside })) (child rest c) ≡ None) nay fresh in (
      record {
        names = λ is. true≢false (sym ((bytes_eq-Decides e c).1 (sym is)) ∙ nay);
        order = nat_list_cmp_total.trans (key_of c w) (key_of d v) (key_of e u) less h.0.order;
      },
      before_before c w d v less rest h.1 later,
    ))

before_inserted : (d : List ℕ) (v : What) (c : List ℕ) (h : Held) → IsNodeBefore d v c h.what
    → (s : Shape) → IsBeforeAll d v s → IsBeforeAll d v (inserted c h s)
before_inserted d v c h one none k = (one, tt)
before_inserted d v c h one (row e u inside rest) k =
    by_cases (is_lt (cmp (key_of c h.what) (key_of e u))) (λ yea. rw yea (one, k))
    (λ nay. rw nay (k.0, before_inserted d v c h one rest k.1))

before_removed : (d : List ℕ) (v : What) (c : List ℕ) (s : Shape) → IsBeforeAll d v s
    → IsBeforeAll d v (removed s c)
before_removed d v c none k = tt
before_removed d v c (row e u inside rest) k =
    by_cases (bytes_eq e c) (λ yea. rw yea k.1) (λ nay. rw nay (k.0, before_removed d v c rest k.1))

before_changed : (d : List ℕ) (v : What) (c : List ℕ) (h k : Held) (s : Shape) → child s c ≡ Some k
    → slash_after h.what ≡ slash_after k.what → IsBeforeAll d v s → IsBeforeAll d v (changed s c h)
before_changed d v c h k none there same b = tt
before_changed d v c h k (row e u inside rest) there same b =
    by_cases (bytes_eq e c)
    (λ yea.
    let is : Some (record { what = u; inside = inside }) ≡ Some k = subst (λ (t : Bool). cond t (Some (record { what = u; inside = inside })) (child rest c) ≡ Some k) yea there in
    let what : u ≡ k.what = ap (λ (x : Held). x.what) (one (record { what = u; inside = inside }) k is) in
    rw yea (
      record {
        names = b.0.names;
        order =
            ap (λ (t : List ℕ). cmp (key_of d v) (e ++ t)) (same ∙ ap slash_after (sym what))
            ∙ b.0.order;
      },
      b.1,
    ))
    (λ nay. let later : child rest c ≡ Some k = subst (λ (t : Bool). cond t (Some (record { what = u; inside = inside })) (child rest c) ≡ Some k) nay there in
    rw nay (b.0, before_changed d v c h k rest later same b.1))
  where
    one : (x y : Held) → Some x ≡ Some y → x ≡ y
    one x y e = cc e

-- ---- directories

module _ (os : List Object) where
  abbrev files : Shape → Listed
  files s = shape_files (stored_files os) s

  abbrev pub IsEntry : List ℕ → Held → Type 0
  IsEntry c h = IsRow os c h.what (files h.inside) × IsShape os h.inside

  pub shape_removed : (s : Shape) → IsShape os s → (c : List ℕ) → IsShape os (removed s c)
  shape_removed none h c = tt
  shape_removed (row d w inside rest) h c =
      by_cases (bytes_eq d c) (λ yea. rw yea h.3)
      (λ nay. rw nay (h.0, before_removed d w c rest h.1, h.2, shape_removed rest h.3 c))

  pub shape_inserted : (c : List ℕ) (h : Held) → IsEntry c h → (s : Shape) → IsShape os s
      → child s c ≡ None → IsShape os (inserted c h s)
  shape_inserted c h e none k fresh = (e.0, tt, e.1, tt)
  shape_inserted c h e (row d w inside rest) k fresh =
      by_cases (bytes_eq d c)
      (λ yea. absurd (no_some (child rest c) (record { what = w; inside = inside }) (bytes_eq d c) yea fresh))
      (λ away.
      let later : child rest c ≡ None = subst (λ (b : Bool). cond b (Some (record { what = w; inside = inside })) (child rest c) ≡ None) away fresh in
      let ne : d ≢ c = λ is. true≢false (sym ((bytes_eq-Decides d c).1 is) ∙ away) in
      by_cases (is_lt (cmp (key_of c h.what) (key_of d w)))
      (λ yea. let less = is_less (cmp (key_of c h.what) (key_of d w)) yea in
      rw yea (
        e.0,
        (
          record { names = λ is. ne (sym is); order = less },
          before_before c h.what d w less rest k.1 later,
        ),
        e.1,
        k,
      ))
      (λ nay. rw nay (
        k.0,
        before_inserted d w c h (other_way c h.what d w e.0.name k.0.name ne nay) rest k.1,
        k.2,
        shape_inserted c h e rest k.3 later,
      )))
    where
      is_less : (r : Ordering) → is_lt r ≡ true → r ≡ Less
      is_less Less t = refl
      is_less Equal t = cc t
      is_less Greater t = cc t

  pub shape_changed : (s : Shape) → IsShape os s → (c : List ℕ) (h k : Held) → child s c ≡ Some k
      → slash_after h.what ≡ slash_after k.what → IsEntry c h → IsShape os (changed s c h)
  shape_changed none q c h k there same e = tt
  shape_changed (row d w inside rest) q c h k there same e =
      by_cases (bytes_eq d c)
      (λ yea.
      let is = is_bytes d c yea in
      let before = before_changed d w c h k (row d w inside rest) there same in
      let what : w ≡ k.what = ap (λ (x : Held). x.what) (one (record { what = w; inside = inside }) k (subst (λ (t : Bool). cond t (Some (record { what = w; inside = inside })) (child rest c) ≡ Some k) yea there)) in
      rw yea (
        subst (λ (x : List ℕ). IsRow os x h.what (files h.inside)) (sym is) e.0,
        like d w h.what (ap slash_after what ∙ sym same) rest q.1,
        e.1,
        q.3,
      ))
      (λ nay. let later : child rest c ≡ Some k = subst (λ (t : Bool). cond t (Some (record { what = w; inside = inside })) (child rest c) ≡ Some k) nay there in
      rw nay (q.0, before_changed d w c h k rest later same q.1, q.2, shape_changed rest q.3 c h k later same e))
    where
      one : (x y : Held) → Some x ≡ Some y → x ≡ y
      one x y e = cc e

      like : (d : List ℕ) (w v : What) → slash_after w ≡ slash_after v → (s : Shape) → IsBeforeAll d w s → IsBeforeAll d v s
      like d w v same none b = tt
      like d w v same (row f u inner more) b = (
        record {
          names = b.0.names;
          order = ap (λ (t : List ℕ). cmp (d ++ t) (key_of f u)) (sym same) ∙ b.0.order;
        },
        like d w v same more b.1,
      )

-- ---- how many files

module _ (known : Known) where
  abbrev count : Shape → ℕ
  count s = length (shape_files known s)

  abbrev pub count_child : Option Held → ℕ
  count_child None = 0
  count_child (Some h) = length (held_files known h)

  pub count_row : (c : List ℕ) (w : What) (inside rest : Shape)
      → count (row c w inside rest) ≡ length (what_files known w (shape_files known inside)) + count rest
  count_row c w inside rest =
      let a = length-append (moved (c ∷ []) (what_files known w (shape_files known inside))) (shape_files known rest) in
      let b = length_moved (c ∷ []) (what_files known w (shape_files known inside)) in omega arith

  pub count_removed : (s : Shape) (c : List ℕ) → count (removed s c) + count_child (child s c) ≡ count s
  count_removed none c = omega arith
  count_removed (row d w inside rest) c =
      let a = count_row d w inside rest in
      by_cases (bytes_eq d c) (λ yea. rw yea (omega arith))
      (λ nay. let b = count_row d w inside (removed rest c) in
      let k = count_removed rest c in rw nay (omega arith))

  pub count_inserted : (c : List ℕ) (h : Held) (s : Shape)
      → count (inserted c h s) ≡ length (held_files known h) + count s
  count_inserted c h none = count_row c h.what h.inside none
  count_inserted c h (row d w inside rest) =
      let a = count_row d w inside rest in
      by_cases (is_lt (cmp (key_of c h.what) (key_of d w)))
      (λ yea. rw yea (count_row c h.what h.inside (row d w inside rest)))
      (λ nay. let b = count_row d w inside (inserted c h rest) in
      let k = count_inserted c h rest in rw nay (omega arith))

  pub count_changed : (s : Shape) (c : List ℕ) (h k : Held) → child s c ≡ Some k
      → count (changed s c h) + length (held_files known k) ≡ count s + length (held_files known h)
  count_changed none c h k there = cc there
  count_changed (row d w inside rest) c h k there =
      let a = count_row d w inside rest in
      by_cases (bytes_eq d c)
      (λ yea.
      let b = count_row d h.what h.inside rest in
      let is = ap (count_child) (subst (λ (t : Bool). cond t (Some (record { what = w; inside = inside })) (child rest c) ≡ Some k) yea there) in
      rw yea (omega arith))
      (λ nay. let b = count_row d w inside (changed rest c h) in
      let later : child rest c ≡ Some k = subst (λ (t : Bool). cond t (Some (record { what = w; inside = inside })) (child rest c) ≡ Some k) nay there in
      let j = count_changed rest c h k later in rw nay (omega arith))
