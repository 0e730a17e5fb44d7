-- The save law: files that were appended to, under the state that counts it, have the old and the new.
use Rattle.std.proofs.Common.{◌≡◌, ℕ, ◌+◌, ◌≤◌, List, [], ◌∷◌, ◌++◌, length, map, take, Ok, refl, subst, arith}
use Rattle.std.specs.List.{AllByRecursion}
use Rattle.std.proofs.lemmas.List.{length-append, length-take-le}
use Rattle.pool_file_format.specs.Lengths.{◌>>=◌}
use Rattle.pool_file_format.proofs.Formats.{IsBytes, bind_ok, ok_is}
use Rattle.store_format.specs.State.{ContentsFile, State}
use Rattle.store_format.specs.Rows.{row_text, FitsRow}
use Rattle.store_format.specs.Records.{record_text, FitsRecord}
use Rattle.store_format.specs.Lengths.{row_at, record_at}
use Rattle.store_format.specs.Saying.{Files, Numbered, Counted, first_of, contents_of, listed, counted_in}
use Rattle.store_format.specs.Saves.{Appended, contents_after, files_after, new_files, sizes_after, state_after, numbered_after, counted_after}
use Rattle.store_format.proofs.Texts.{reads_row, reads_record}
use Rattle.store_format.proofs.ListedLemmas.{first_is, first_all, listed_on}

new_said : (new : List (ℕ × List ℕ)) → contents_of (new_files new) (map (λ f. f.1) new) ≡ Ok new
unfolding contents_of
new_said [] = refl
new_said (f ∷ fs) = rw (first_all (length f.1) f.1 refl, new_said fs) refl

first_then : (c : ContentsFile) (b front : List ℕ) (cs : List ContentsFile) (bs : List (List ℕ)) (ys : List Numbered) → front ≡ take c.size b → c.size ≤ length b
    → contents_of cs bs ≡ Ok ys → contents_of (c ∷ cs) (take c.size b ∷ bs) ≡ Ok ((c.number, front) ∷ ys)
unfolding contents_of
first_then c b front cs bs ys is long e = rw (first_all c.size (take c.size b) (length-take-le c.size b long), e, is) refl

contents_on : (cs : List ContentsFile) (bs : List (List ℕ)) (xs : List Numbered) (more : List ℕ) (new : List (ℕ × List ℕ)) → contents_of cs bs ≡ Ok xs
    → contents_of (sizes_after cs more new) (contents_after cs bs more new) ≡ Ok (numbered_after cs xs more new)
unfolding contents_of
contents_on [] bs xs more new e = new_said new
contents_on (c ∷ cs) [] xs more new e = absurd cc
contents_on (c ∷ []) (b ∷ bs) xs more new e =
    let first = bind_ok (first_of c.size b) (λ front. Ok ((c.number, front) ∷ [])) xs e in
    let is = first_is c.size b first.0 first.1 in
    let size : length (take c.size b ++ more) ≡ c.size + length more = omega (arith, length-append (take c.size b) more, length-take-le c.size b is.1) in
    subst (λ (ys : List Numbered). contents_of (sizes_after (c ∷ []) more new) (contents_after (c ∷ []) (b ∷ bs) more new) ≡ Ok (numbered_after (c ∷ []) ys more new))
    (ok_is ((c.number, first.0) ∷ []) xs first.2)
    (rw (first_all (c.size + length more) (take c.size b ++ more) size, new_said new, is.0) refl)
contents_on (c ∷ d ∷ cs) (b ∷ bs) xs more new e =
    let first = bind_ok (first_of c.size b) (λ front. contents_of (d ∷ cs) bs >>= λ others. Ok ((c.number, front) ∷ others)) xs e in
    let others = bind_ok (contents_of (d ∷ cs) bs) (λ others. Ok ((c.number, first.0) ∷ others)) xs first.2 in
    let is = first_is c.size b first.0 first.1 in
    subst (λ (ys : List Numbered). contents_of (sizes_after (c ∷ d ∷ cs) more new) (contents_after (c ∷ d ∷ cs) (b ∷ bs) more new) ≡ Ok (numbered_after (c ∷ d ∷ cs) ys more new))
    (ok_is ((c.number, first.0) ∷ others.0) xs others.2)
    (first_then c b first.0 (sizes_after (d ∷ cs) more new) (contents_after (d ∷ cs) bs more new) (numbered_after (d ∷ cs) others.0 more new) is.0 is.1
    (contents_on (d ∷ cs) bs others.0 more new others.1))

pub counted_on : (digest : List ℕ → List ℕ) (s : State) (f : Files) (a : Appended) (old : Counted) → IsBytes f.rows → IsBytes f.tenants
    → AllByRecursion FitsRow a.rows → AllByRecursion FitsRecord a.records → counted_in digest s f ≡ Ok old
    → counted_in digest (state_after digest s a) (files_after s f a) ≡ Ok (counted_after s old a)
unfolding counted_in
counted_on digest s f a old small_rows small_records rows_fit records_fit e =
    let contents = bind_ok (contents_of s.contents f.contents) _ old e in
    let rows = bind_ok (listed digest row_text row_at s.rows f.rows) _ old contents.2 in
    let records = bind_ok (listed digest record_text record_at s.tenants f.tenants) (λ records. Ok (record { contents = contents.0; rows = rows.0; records = records })) old rows.2 in
    let made : Counted = record { contents = contents.0; rows = rows.0; records = records.0 } in
    subst (λ (c : Counted). counted_in digest (state_after digest s a) (files_after s f a) ≡ Ok (counted_after s c a)) (ok_is made old records.2)
    (rw (
      contents_on s.contents f.contents contents.0 a.to_last a.files contents.1,
      listed_on digest row_text row_at FitsRow reads_row s.rows f.rows rows.0 a.rows small_rows rows_fit rows.1,
      listed_on digest record_text record_at FitsRecord reads_record s.tenants f.tenants records.0 a.records small_records records_fit records.1,
    ) refl)
