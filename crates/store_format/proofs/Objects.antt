-- What was said stays: rows find their contents in files that have grown, and records tell what they told.
use Rattle.std.proofs.Common.{◌≡◌, ℕ, ◌+◌, ◌≤◌, Bool, true, false, cond, eqb, ltb, List, [], ◌∷◌, ◌++◌, length, take, drop, Result, Ok, refl, sym, ap, subst, ◌∙◌, append-nil, arith}
use Rattle.std.proofs.lemmas.Bool.{ltb-false, le-ltb}
use Rattle.std.proofs.lemmas.List.{length-append, length-drop, drop-append-le, take-append-le}
use Rattle.pool_file_format.specs.declared.refusal.Refusal.{Refusal}
use Rattle.pool_file_format.specs.Format.{RawObject}
use Rattle.pool_file_format.specs.declared.refusal.Refusal.TheVariants as refusal
use Rattle.pool_file_format.specs.Lengths.{◌>>=◌}
use Rattle.pool_file_format.proofs.Formats.{bind_ok, guard_ok, ok_is}
use Rattle.store_format.specs.State.{ContentsFile}
use Rattle.store_format.specs.Rows.{Row}
use Rattle.store_format.specs.Records.{TenantRecord}
use Rattle.store_format.specs.Saves.{numbered_after}
use Rattle.store_format.specs.Tails.{Follow}
use Rattle.store_format.specs.Saying.{Numbered, Told, first_of, contents_of, file_of, bytes_from, object_of, objects_of, told_after, all_told}

-- More rows say more objects, after those before.
pub objects_append : (files : List Numbered) (rs more : List Row) (xs ys : List RawObject) → objects_of files rs ≡ Ok xs → objects_of files more ≡ Ok ys
    → objects_of files (rs ++ more) ≡ Ok (xs ++ ys)
unfolding objects_of
objects_append files [] more xs ys e f = f ∙ ap (λ (l : List RawObject). Ok (l ++ ys)) (ok_is [] xs e)
objects_append files (r ∷ rs) more xs ys e f =
    let first = bind_ok (object_of files r) (λ first. objects_of files rs >>= λ others. Ok (first ∷ others)) xs e in
    let others = bind_ok (objects_of files rs) (λ others. Ok (first.0 ∷ others)) xs first.2 in
    rw (first.1, objects_append files rs more others.0 ys others.1 f) (ap (λ (l : List RawObject). Ok (l ++ ys)) (ok_is (first.0 ∷ others.0) xs others.2))

-- More records are told after those before.
pub told_append : (before : List Told) (rs more : List TenantRecord) (told : List Told) → all_told before rs ≡ Ok told
    → all_told before (rs ++ more) ≡ all_told told more
unfolding all_told
told_append before [] more told e = ap (λ (l : List Told). all_told l more) (ok_is before told e)
told_append before (r ∷ rs) more told e =
    let one = bind_ok (told_after before r) (λ told. all_told (before ++ told ∷ []) rs) told e in
    rw one.1 (told_append (before ++ one.0 ∷ []) rs more told one.2)

-- ---- files that have grown

-- The same numbers in the same order, each with perhaps more bytes, and perhaps more files.
abbrev pub HasGrown : List Numbered → List Numbered → Type 0
HasGrown [] new = Unit {0}
HasGrown (f ∷ fs) [] = ⊥
HasGrown (f ∷ fs) (g ∷ gs) = (g.0 ≡ f.0) × Follow f.1 g.1 × HasGrown fs gs

file_grown : (fs gs : List Numbered) (n : ℕ) (b : List ℕ) → HasGrown fs gs → file_of fs n ≡ Ok b → (tail : List ℕ) × (file_of gs n ≡ Ok (b ++ tail))
unfolding file_of
file_grown [] gs n b grown e = absurd cc
file_grown (f ∷ fs) [] n b grown e = absurd grown
file_grown (f ∷ fs) (g ∷ gs) n b grown e = by (eqb f.0 n) (ap (λ (k : ℕ). eqb k n) grown.0) (file_grown fs gs n b grown.2) e
  where
    found : Bool → List ℕ → Result (List ℕ) Refusal → Result (List ℕ) Refusal
    found t here later = cond t (Ok here) later

    by : (t : Bool) → eqb g.0 n ≡ t → (file_of fs n ≡ Ok b → (tail : List ℕ) × (file_of gs n ≡ Ok (b ++ tail))) → found t f.1 (file_of fs n) ≡ Ok b → (tail : List ℕ) × (found (eqb g.0 n) g.1 (file_of gs n) ≡ Ok (b ++ tail))
    by true is later h = (grown.1.0, rw is (ap (λ (l : List ℕ). Ok l) (grown.1.1 ∙ ap (λ (l : List ℕ). l ++ grown.1.0) (ok_is f.1 b h))))
    by false is later h = let t = later h in (t.0, rw is t.1)

bytes_grown : (offset size : ℕ) (b tail x : List ℕ) → bytes_from offset size b ≡ Ok x → bytes_from offset size (b ++ tail) ≡ Ok x
bytes_grown offset size b tail x e =
    let g = guard_ok (ltb (length b) (offset + size)) refusal.MissingReference (take size (drop offset b)) x e in
    let long : offset + size ≤ length b = ltb-false _ _ g.0 in
    let longer : ltb (length (b ++ tail)) (offset + size) ≡ false = le-ltb _ _ (omega (arith, long, length-append b tail)) in
    let before : offset ≤ length b = omega (arith, long) in
    let there : size ≤ length (drop offset b) = omega (arith, long, length-drop offset b) in
    rw (longer, drop-append-le offset b tail before, take-append-le size (drop offset b) tail there) (ap (λ (y : List ℕ). Ok y) g.1)

-- A row that said an object says it in files that have grown.
object_grown : (fs gs : List Numbered) (r : Row) (o : RawObject) → HasGrown fs gs → object_of fs r ≡ Ok o → object_of gs r ≡ Ok o
unfolding object_of
object_grown fs gs r o grown e =
    let file = bind_ok (file_of fs r.file) _ o e in
    let content = bind_ok (bytes_from r.offset r.size file.0) (λ content. Ok (record { kind = r.kind; bytes = content })) o file.2 in
    let there = file_grown fs gs r.file file.0 grown file.1 in
    rw (there.1, bytes_grown r.offset r.size file.0 there.0 content.0 content.1) content.2

pub objects_grown : (fs gs : List Numbered) (rs : List Row) (xs : List RawObject) → HasGrown fs gs → objects_of fs rs ≡ Ok xs → objects_of gs rs ≡ Ok xs
unfolding objects_of
objects_grown fs gs [] xs grown e = e
objects_grown fs gs (r ∷ rs) xs grown e =
    let first = bind_ok (object_of fs r) (λ first. objects_of fs rs >>= λ others. Ok (first ∷ others)) xs e in
    let others = bind_ok (objects_of fs rs) (λ others. Ok (first.0 ∷ others)) xs first.2 in
    rw (object_grown fs gs r first.0 grown first.1, objects_grown fs gs rs others.0 grown others.1) others.2

-- What a save does to the files of contents is growth.
numbered_grown : (cs : List ContentsFile) (bs : List (List ℕ)) (xs : List Numbered) (more : List ℕ) (new : List (ℕ × List ℕ)) → contents_of cs bs ≡ Ok xs
    → HasGrown xs (numbered_after cs xs more new)
unfolding contents_of
numbered_grown [] bs xs more new e = subst (λ (ys : List Numbered). HasGrown ys (numbered_after [] ys more new)) (ok_is [] xs e) tt
numbered_grown (c ∷ cs) [] xs more new e = absurd cc
numbered_grown (c ∷ []) (b ∷ bs) xs more new e =
    let first = bind_ok (first_of c.size b) (λ front. Ok ((c.number, front) ∷ [])) xs e in
    subst (λ (ys : List Numbered). HasGrown ys (numbered_after (c ∷ []) ys more new)) (ok_is ((c.number, first.0) ∷ []) xs first.2) (refl, (more, refl), tt)
numbered_grown (c ∷ d ∷ cs) (b ∷ bs) xs more new e =
    let first = bind_ok (first_of c.size b) (λ front. contents_of (d ∷ cs) bs >>= λ others. Ok ((c.number, front) ∷ others)) xs e in
    let others = bind_ok (contents_of (d ∷ cs) bs) (λ others. Ok ((c.number, first.0) ∷ others)) xs first.2 in
    subst (λ (ys : List Numbered). HasGrown ys (numbered_after (c ∷ d ∷ cs) ys more new)) (ok_is ((c.number, first.0) ∷ others.0) xs others.2)
    (refl, ([], sym (append-nil first.0)), numbered_grown (d ∷ cs) bs others.0 more new others.1)

-- The objects after a save: those before, and then those that the new rows say.
pub objects_on : (cs : List ContentsFile) (bs : List (List ℕ)) (fs : List Numbered) (more : List ℕ) (new : List (ℕ × List ℕ)) (rs added : List Row) (xs ys : List RawObject)
    → contents_of cs bs ≡ Ok fs → objects_of fs rs ≡ Ok xs → objects_of (numbered_after cs fs more new) added ≡ Ok ys
    → objects_of (numbered_after cs fs more new) (rs ++ added) ≡ Ok (xs ++ ys)
objects_on cs bs fs more new rs added xs ys is e f =
    objects_append (numbered_after cs fs more new) rs added xs ys (objects_grown fs (numbered_after cs fs more new) rs xs (numbered_grown cs bs fs more new is) e) f
