-- Contents that lie one after the other are all bytes of their files.
use Rattle.std.proofs.Common.{◌≡◌, ℕ, zero, suc, ◌+◌, ◌<◌, ◌≤◌, ltb, List, [], ◌∷◌, ◌++◌, length, take, drop, Ok, refl, sym, ap, subst, ◌∙◌, arith}
use Rattle.std.specs.List.{flat_map}
use Rattle.std.proofs.lemmas.Bool.{ltb-false, eq-eqb, ne_eqb}
use Rattle.std.proofs.lemmas.List.{take-append-drop, drop-drop, drop_all, length-take-le}
use Rattle.std.proofs.lemmas.List.Concat.{flat_map-cons, flat_map-append}
use Rattle.pool_file_format.specs.declared.refusal.Refusal.TheVariants as refusal
use Rattle.pool_file_format.specs.Format.{RawObject}
use Rattle.pool_file_format.specs.Lengths.{◌>>=◌, bytes_at}
use Rattle.pool_file_format.proofs.Formats.{bind_ok, guard_ok, ok_is}
use Rattle.store_format.specs.State.{ContentsFile, State}
use Rattle.store_format.specs.Rows.{Row}
use Rattle.store_format.specs.Saying.{Numbered, first_of, contents_of, file_of, bytes_from, object_of, objects_of}
use Rattle.store_format.specs.Sound.{AreSoundFrom}
use Rattle.store_format.specs.Tiling.{FillFrom, count_in, AreTiled, object_bytes, file_bytes}

-- ---- the objects of some rows, cut in two

record Cut (files : List Numbered) (k : ℕ) (rows : List Row) (xs : List RawObject) : Type 0 where
  front : List RawObject
  back : List RawObject
  first : objects_of files (take k rows) ≡ Ok front
  second : objects_of files (drop k rows) ≡ Ok back
  parts : xs ≡ front ++ back

one_more : (files : List Numbered) (r : Row) (o : RawObject) (rs : List Row) (xs : List RawObject) → object_of files r ≡ Ok o → objects_of files rs ≡ Ok xs
    → objects_of files (r ∷ rs) ≡ Ok (o ∷ xs)
unfolding objects_of
one_more files r o rs xs p q = rw (p, q) refl

objects_cut : (files : List Numbered) (k : ℕ) (rows : List Row) (xs : List RawObject) → objects_of files rows ≡ Ok xs → Cut files k rows xs
unfolding objects_of
objects_cut files zero rows xs e = record { front = []; back = xs; first = refl; second = e; parts = refl }
objects_cut files (suc k) [] xs e = record { front = []; back = xs; first = refl; second = e; parts = refl }
objects_cut files (suc k) (r ∷ rs) xs e =
    let first = bind_ok (object_of files r) (λ first. objects_of files rs >>= λ others. Ok (first ∷ others)) xs e in
    let others = bind_ok (objects_of files rs) (λ others. Ok (first.0 ∷ others)) xs first.2 in
    let cut = objects_cut files k rs others.0 others.1 in record {
      front = first.0 ∷ cut.front;
      back = cut.back;
      first = one_more files r first.0 (take k rs) cut.front first.1 cut.first;
      second = cut.second;
      parts = sym (ok_is (first.0 ∷ others.0) xs others.2) ∙ ap (λ (l : List RawObject). first.0 ∷ l) cut.parts;
    }

objects_none : (files : List Numbered) (xs : List RawObject) → objects_of files [] ≡ Ok xs → [] ≡ xs
unfolding objects_of
objects_none files xs e = ok_is [] xs e

-- ---- one file

object_is : (files : List Numbered) (r : Row) (o : RawObject) (b : List ℕ) (number offset : ℕ) → r.file ≡ number → r.offset ≡ offset → file_of files number ≡ Ok b
    → object_of files r ≡ Ok o → o.bytes ≡ take r.size (drop offset b)
unfolding object_of
object_is files r o b number offset file at there e =
    let found = bind_ok (file_of files r.file) (λ bytes. bytes_from r.offset r.size bytes >>= λ content. Ok (record { kind = r.kind; bytes = content })) o e in
    let content = bind_ok (bytes_from r.offset r.size found.0) (λ content. Ok (record { kind = r.kind; bytes = content })) o found.2 in
    let same : found.0 ≡ b = ok_is found.0 b (sym found.1 ∙ ap (file_of files) file ∙ there) in
    let g = guard_ok (ltb (length found.0) (r.offset + r.size)) refusal.MissingReference (take r.size (drop r.offset found.0)) content.0 content.1 in
    let made : RawObject = record { kind = r.kind; bytes = content.0 } in
    sym (ap (λ (x : RawObject). x.bytes) (ok_is made o content.2)) ∙ sym g.1
    ∙ ap (λ (l : List ℕ). take r.size (drop r.offset l)) same ∙ ap (λ (n : ℕ). take r.size (drop n b)) at

objects_fill : (files : List Numbered) (c : ContentsFile) (b : List ℕ) (rs : List Row) (offset : ℕ) (xs : List RawObject) → file_of files c.number ≡ Ok b
    → length b ≡ c.size → FillFrom c offset rs → objects_of files rs ≡ Ok xs → flat_map object_bytes xs ≡ drop offset b
unfolding objects_of
objects_fill files c b [] offset xs there size fill e =
    let end : length b ≤ offset = omega (arith, fill, size) in
    sym (ap (flat_map object_bytes) (ok_is [] xs e)) ∙ sym (drop_all offset b end)
objects_fill files c b (r ∷ rs) offset xs there size fill e =
    let first = bind_ok (object_of files r) (λ first. objects_of files rs >>= λ others. Ok (first ∷ others)) xs e in
    let others = bind_ok (objects_of files rs) (λ others. Ok (first.0 ∷ others)) xs first.2 in
    let one = object_is files r first.0 b c.number offset fill.0 fill.1 there first.1 in
    let next : drop (r.offset + r.size) b ≡ drop r.size (drop offset b) = ap (λ (n : ℕ). drop (n + r.size) b) fill.1 ∙ sym (drop-drop r.size offset b) in
    let rest = objects_fill files c b rs (r.offset + r.size) others.0 there size fill.2 others.1 in
    sym (ap (flat_map object_bytes) (ok_is (first.0 ∷ others.0) xs others.2))
    ∙ flat_map-cons object_bytes first.0 others.0
    ∙ ap (λ (l : List ℕ). l ++ flat_map object_bytes others.0) one
    ∙ ap (λ (l : List ℕ). take r.size (drop offset b) ++ l) (rest ∙ next)
    ∙ take-append-drop r.size (drop offset b)

-- ---- file after file

file_here : (n : ℕ) (b : List ℕ) (fs : List Numbered) → file_of ((n, b) ∷ fs) n ≡ Ok b
unfolding file_of
file_here n b fs = rw (eq-eqb n n refl) refl

file_past : (m n : ℕ) (b : List ℕ) (fs : List Numbered) → m < n → file_of ((m, b) ∷ fs) n ≡ file_of fs n
unfolding file_of
file_past m n b fs lt = rw (ne_eqb m n (λ e. omega (arith, lt, e))) refl

size_is : (n : ℕ) (bytes front : List ℕ) → first_of n bytes ≡ Ok front → length front ≡ n
unfolding bytes_at
size_is n bytes front e =
    let read = bind_ok (bytes_at n bytes) (λ front. Ok front.0) front e in
    let g = guard_ok (ltb (length bytes) n) refusal.CutOff (take n bytes, drop n bytes) read.0 read.1 in
    let long : n ≤ length bytes = ltb-false _ _ g.0 in
    sym (ap length (ok_is read.0.0 front read.2)) ∙ sym (ap (λ (p : List ℕ × List ℕ). length p.0) g.1) ∙ length-take-le n bytes long

pub tiled_bytes : (s : State) (last : ℕ) (files here : List Numbered) (cs : List ContentsFile) (bs : List (List ℕ)) (rows : List Row) (xs : List RawObject)
    → AreSoundFrom s last cs → contents_of cs bs ≡ Ok here → ((n : ℕ) → last < n → file_of files n ≡ file_of here n) → AreTiled cs rows
    → objects_of files rows ≡ Ok xs → flat_map object_bytes xs ≡ flat_map file_bytes here
unfolding contents_of
tiled_bytes s last files here [] bs rows xs sound is same tiled e =
    let none = objects_none files xs (subst (λ (l : List Row). objects_of files l ≡ Ok xs) tiled e) in
    sym (ap (flat_map object_bytes) none) ∙ ap (flat_map file_bytes) (ok_is [] here is)
tiled_bytes s last files here (c ∷ cs) [] rows xs sound is same tiled e = absurd cc
tiled_bytes s last files here (c ∷ cs) (b ∷ bs) rows xs sound is same tiled e =
    let first = bind_ok (first_of c.size b) (λ front. contents_of cs bs >>= λ others. Ok ((c.number, front) ∷ others)) here is in
    let others = bind_ok (contents_of cs bs) (λ others. Ok ((c.number, first.0) ∷ others)) here first.2 in
    let made = ok_is ((c.number, first.0) ∷ others.0) here others.2 in
    let cut = objects_cut files (count_in c.number rows) rows xs e in
    let there : file_of files c.number ≡ Ok first.0 =
    same c.number sound.0.after ∙ sym (ap (λ (l : List Numbered). file_of l c.number) made) ∙ file_here c.number first.0 others.0 in
    let next : (n : ℕ) → c.number < n → file_of files n ≡ file_of others.0 n = λ n lt.
    let after : last < c.number = sound.0.after in
    same n (omega (arith, after, lt)) ∙ sym (ap (λ (l : List Numbered). file_of l n) made) ∙ file_past c.number n first.0 others.0 lt in
    let own = objects_fill files c first.0 (take (count_in c.number rows) rows) 0 cut.front there (size_is c.size b first.0 first.1) tiled.0 cut.first in
    let rest = tiled_bytes s c.number files others.0 cs bs (drop (count_in c.number rows) rows) cut.back sound.1 others.1 next tiled.1 cut.second in
    ap (flat_map object_bytes) cut.parts
    ∙ flat_map-append object_bytes cut.front cut.back
    ∙ ap (λ (l : List ℕ). l ++ flat_map object_bytes cut.back) own
    ∙ ap (λ (l : List ℕ). first.0 ++ l) rest
    ∙ sym (flat_map-cons file_bytes (c.number, first.0) others.0)
    ∙ ap (flat_map file_bytes) made
