-- A part of a store that is read was printed so, and what is printed is read again.
use Rattle.std.proofs.Common.{◌≡◌, ℕ, zero, suc, ◌^◌, ◌<◌, Bool, true, false, eqb, List, [], ◌∷◌, ◌++◌, length, Option, None, Some, Ok, refl, ap, subst, ◌∙◌, append_assoc, arith}
use Rattle.std.specs.Prelude.{◌&&◌}
use Rattle.std.specs.Int.{w16, w32, to_be_bytes}
use Rattle.std.proofs.lemmas.Bool.{eqb-true}
use Rattle.pool_file_format.specs.Format.{sized, counted}
use Rattle.pool_file_format.specs.Lengths.{bytes_at, byte_at, number_at, sized_at, counted_at}
use Rattle.pool_file_format.proofs.Formats.{IsBytes, bind_ok, ok_is, Takes, Takes-then, IsRead, bytes_take, bytes_again, wide16, wide32, reads_number, reads_sized, reads_counted}
use Rattle.store_format.specs.State.{ContentsFile, contents_file_text, FitsContentsFile}
use Rattle.store_format.specs.Rows.{Summary, Row, row_text, place_text, sizes_text, no_sizes, are_no_sizes, summary_text, FitsSizes, FitsSummary, FitsRow}
use Rattle.store_format.specs.Records.{RefChange, TenantRecord, row_number_text, optional_text, change_text, record_text, FitsOptional, FitsChange, FitsRecord}
use Rattle.store_format.specs.Lengths.{contents_file_at, summary_from, sizes_at, summary_at, row_at, one_less, optional_at, change_at, record_at}

-- ---- parts

pub reads_twenty : IsRead (λ (bytes : List ℕ). bytes) (bytes_at 20) (λ bytes. length bytes ≡ 20)
reads_twenty = record {
  takes = λ bytes x rest small e. let t = bytes_take 20 bytes x rest small e in (t.0, t.2);
  again = λ x rest size. bytes_again 20 x rest size;
}

pub reads_kind : IsRead (λ byte. byte ∷ []) byte_at (λ byte. byte < 256)
unfolding byte_at
reads_kind = record { takes = takes; again = λ byte rest small. refl }
  where
    takes : (bytes : List ℕ) (x : ℕ) (rest : List ℕ) → IsBytes bytes → byte_at bytes ≡ Ok (x, rest) → Takes bytes (x ∷ []) rest × (x < 256)
    takes [] x rest small e = absurd cc
    takes (b ∷ bs) x rest small e =
        subst (λ (p : ℕ × List ℕ). Takes (b ∷ bs) (p.0 ∷ []) p.1 × (p.0 < 256)) (ok_is (b, bs) (x, rest) e)
        (record { parts = refl; small = small.1 }, small.0)

pub reads_contents_file : IsRead contents_file_text contents_file_at FitsContentsFile
unfolding contents_file_at
reads_contents_file = let number = reads_number w32 wide32 in record {
  takes = λ bytes x rest small e.
      let a = bind_ok (number_at w32 bytes) _ (x, rest) e in
      let b = bind_ok (number_at w32 a.0.1) _ (x, rest) a.2 in
      let t = number.takes bytes a.0.0 a.0.1 small a.1 in
      let u = number.takes a.0.1 b.0.0 b.0.1 t.0.small b.1 in
      let made : ContentsFile × List ℕ = (record { number = a.0.0; size = b.0.0 }, b.0.1) in
      subst (λ (y : ContentsFile × List ℕ). Takes bytes (contents_file_text y.0) y.1 × FitsContentsFile y.0) (ok_is made (x, rest) b.2)
      (Takes-then bytes (to_be_bytes w32 a.0.0) a.0.1 (to_be_bytes w32 b.0.0) b.0.1 t.0 u.0, record { number = t.1; size = u.1 });
  again = λ c rest fits.
      ap contents_file_at (append_assoc (to_be_bytes w32 c.number) (to_be_bytes w32 c.size) rest)
      ∙ rw (number.again c.number (to_be_bytes w32 c.size ++ rest) fits.number, number.again c.size rest fits.size) refl;
}

-- ---- a row

pub reads_sizes : IsRead sizes_text sizes_at FitsSizes
unfolding sizes_at
reads_sizes =
    let n32 = reads_number w32 wide32 in
    let n16 = reads_number w16 wide16 in record {
      takes = λ bytes x rest small e.
          let a = bind_ok (number_at w32 bytes) _ (x, rest) e in
          let b = bind_ok (number_at w16 a.0.1) _ (x, rest) a.2 in
          let c = bind_ok (number_at w16 b.0.1) _ (x, rest) b.2 in
          let ta = n32.takes bytes a.0.0 a.0.1 small a.1 in
          let tb = n16.takes a.0.1 b.0.0 b.0.1 ta.0.small b.1 in
          let tc = n16.takes b.0.1 c.0.0 c.0.1 tb.0.small c.1 in
          let bc = Takes-then a.0.1 (to_be_bytes w16 b.0.0) b.0.1 (to_be_bytes w16 c.0.0) c.0.1 tb.0 tc.0 in
          let ac = Takes-then bytes (to_be_bytes w32 a.0.0) a.0.1 (to_be_bytes w16 b.0.0 ++ to_be_bytes w16 c.0.0) c.0.1 ta.0 bc in
          let made : Summary × List ℕ = (record { files = a.0.0; depth = b.0.0; longest = c.0.0 }, c.0.1) in
          subst (λ (y : Summary × List ℕ). Takes bytes (sizes_text y.0) y.1 × FitsSizes y.0) (ok_is made (x, rest) c.2)
          (ac, record { files = ta.1; depth = tb.1; longest = tc.1 });
      again = λ s rest fits.
          let longest = to_be_bytes w16 s.longest ++ rest in
          let depth = to_be_bytes w16 s.depth ++ longest in
          let regrouped : sizes_text s ++ rest ≡ to_be_bytes w32 s.files ++ depth = simp append_assoc in
          ap sizes_at regrouped
          ∙ rw (n32.again s.files depth fits.files, n16.again s.depth longest fits.depth, n16.again s.longest rest fits.longest) refl;
    }

abbrev sizes_with : ℕ → ℕ → ℕ → Summary
sizes_with files depth longest = record { files = files; depth = depth; longest = longest }

-- Sizes whose bytes are all 255 are those that stand for none.
no_sizes_are : (s : Summary) → are_no_sizes s ≡ true → s ≡ no_sizes
no_sizes_are s e = by (eqb s.files 4294967295) (eqb s.depth 65535) (eqb s.longest 65535) refl refl refl e
  where
    all : Bool → Bool → Bool → Bool
    all a b c = a && b && c

    same : (f d l : ℕ) → f ≡ 4294967295 → d ≡ 65535 → l ≡ 65535 → sizes_with f d l ≡ no_sizes
    same f d l p q r = rw (p, q, r) refl

    by : (a b c : Bool) → eqb s.files 4294967295 ≡ a → eqb s.depth 65535 ≡ b → eqb s.longest 65535 ≡ c → all a b c ≡ true → s ≡ no_sizes
    by true true true a b c e = same s.files s.depth s.longest (eqb-true s.files 4294967295 a) (eqb-true s.depth 65535 b) (eqb-true s.longest 65535 c)
    by true true false a b c e = absurd cc
    by true false t a b c e = absurd cc
    by false t u a b c e = absurd cc

pub reads_summary : IsRead summary_text summary_at FitsSummary
unfolding summary_at
reads_summary = record { takes = takes; again = again }
  where
    by : (bytes : List ℕ) (s : Summary) (rest : List ℕ) (t : Bool) → are_no_sizes s ≡ t → Takes bytes (sizes_text s) rest → FitsSizes s
        → Takes bytes (summary_text (summary_from s)) rest × FitsSummary (summary_from s)
    by bytes s rest true is t fits = rw is (subst (λ (y : Summary). Takes bytes (sizes_text y) rest) (no_sizes_are s is) t, tt)
    by bytes s rest false is t fits = rw is (t, (fits, is))

    takes : (bytes : List ℕ) (x : Option Summary) (rest : List ℕ) → IsBytes bytes → summary_at bytes ≡ Ok (x, rest) → Takes bytes (summary_text x) rest × FitsSummary x
    takes bytes x rest small e =
        let a = bind_ok (sizes_at bytes) (λ sizes. Ok (summary_from sizes.0, sizes.1)) (x, rest) e in
        let t = reads_sizes.takes bytes a.0.0 a.0.1 small a.1 in
        subst (λ (y : Option Summary × List ℕ). Takes bytes (summary_text y.0) y.1 × FitsSummary y.0) (ok_is (summary_from a.0.0, a.0.1) (x, rest) a.2)
        (by bytes a.0.0 a.0.1 (are_no_sizes a.0.0) refl t.0 t.1)

    again : (x : Option Summary) (rest : List ℕ) → FitsSummary x → summary_at (summary_text x ++ rest) ≡ Ok (x, rest)
    again None rest fits = rw (reads_sizes.again no_sizes rest (record { files = omega arith; depth = omega arith; longest = omega arith })) refl
    again (Some s) rest fits = rw (reads_sizes.again s rest fits.0, fits.1) refl

pub reads_row : IsRead row_text row_at FitsRow
unfolding row_at
reads_row =
    let twenty = reads_twenty in
    let byte = reads_kind in
    let n32 = reads_number w32 wide32 in
    let sizes = reads_summary in record {
      takes = λ bytes x rest small e.
          let a = bind_ok (bytes_at 20 bytes) _ (x, rest) e in
          let b = bind_ok (byte_at a.0.1) _ (x, rest) a.2 in
          let c = bind_ok (number_at w32 b.0.1) _ (x, rest) b.2 in
          let d = bind_ok (number_at w32 c.0.1) _ (x, rest) c.2 in
          let f = bind_ok (number_at w32 d.0.1) _ (x, rest) d.2 in
          let g = bind_ok (summary_at f.0.1) _ (x, rest) f.2 in
          let ta = twenty.takes bytes a.0.0 a.0.1 small a.1 in
          let tb = byte.takes a.0.1 b.0.0 b.0.1 ta.0.small b.1 in
          let tc = n32.takes b.0.1 c.0.0 c.0.1 tb.0.small c.1 in
          let td = n32.takes c.0.1 d.0.0 d.0.1 tc.0.small d.1 in
          let tf = n32.takes d.0.1 f.0.0 f.0.1 td.0.small f.1 in
          let tg = sizes.takes f.0.1 g.0.0 g.0.1 tf.0.small g.1 in
          let r : Row = record { id = a.0.0; kind = b.0.0; file = c.0.0; offset = d.0.0; size = f.0.0; summary = g.0.0 } in
          let df = Takes-then c.0.1 (to_be_bytes w32 r.offset) d.0.1 (to_be_bytes w32 r.size) f.0.1 td.0 tf.0 in
          let place = Takes-then b.0.1 (to_be_bytes w32 r.file) c.0.1 (to_be_bytes w32 r.offset ++ to_be_bytes w32 r.size) f.0.1 tc.0 df in
          let end = Takes-then b.0.1 (place_text r) f.0.1 (summary_text r.summary) g.0.1 place tg.0 in
          let kind = Takes-then a.0.1 (r.kind ∷ []) b.0.1 (place_text r ++ summary_text r.summary) g.0.1 tb.0 end in
          let all = Takes-then bytes r.id a.0.1 ((r.kind ∷ []) ++ (place_text r ++ summary_text r.summary)) g.0.1 ta.0 kind in
          let made : Row × List ℕ = (r, g.0.1) in
          subst (λ (y : Row × List ℕ). Takes bytes (row_text y.0) y.1 × FitsRow y.0) (ok_is made (x, rest) g.2)
          (all, record { id = ta.1; kind = tb.1; file = tc.1; offset = td.1; size = tf.1; summary = tg.1 });
      again = λ r rest fits.
          let summary = summary_text r.summary ++ rest in
          let size = to_be_bytes w32 r.size ++ summary in
          let offset = to_be_bytes w32 r.offset ++ size in
          let file = to_be_bytes w32 r.file ++ offset in
          let regrouped : row_text r ++ rest ≡ r.id ++ ((r.kind ∷ []) ++ file) = simp append_assoc in
          ap row_at regrouped
          ∙ rw (
            twenty.again r.id ((r.kind ∷ []) ++ file) fits.id,
            byte.again r.kind file fits.kind,
            n32.again r.file offset fits.file,
            n32.again r.offset size fits.offset,
            n32.again r.size summary fits.size,
            sizes.again r.summary rest fits.summary,
          ) refl;
    }

-- ---- a record

pub reads_optional : IsRead optional_text optional_at FitsOptional
unfolding optional_at
reads_optional = record { takes = takes; again = again }
  where
    n32 : IsRead (to_be_bytes w32) (number_at w32) (λ n. n < 2 ^ 32)
    n32 = reads_number w32 wide32

    by : (bytes : List ℕ) (n : ℕ) (rest : List ℕ) → Takes bytes (to_be_bytes w32 n) rest → n < 2 ^ 32 → Takes bytes (optional_text (one_less n)) rest × FitsOptional (one_less n)
    by bytes zero rest t fits = (t, tt)
    by bytes (suc n) rest t fits = (t, fits)

    takes : (bytes : List ℕ) (x : Option ℕ) (rest : List ℕ) → IsBytes bytes → optional_at bytes ≡ Ok (x, rest) → Takes bytes (optional_text x) rest × FitsOptional x
    takes bytes x rest small e =
        let a = bind_ok (number_at w32 bytes) (λ n. Ok (one_less n.0, n.1)) (x, rest) e in
        let t = n32.takes bytes a.0.0 a.0.1 small a.1 in
        subst (λ (y : Option ℕ × List ℕ). Takes bytes (optional_text y.0) y.1 × FitsOptional y.0) (ok_is (one_less a.0.0, a.0.1) (x, rest) a.2)
        (by bytes a.0.0 a.0.1 t.0 t.1)

    again : (x : Option ℕ) (rest : List ℕ) → FitsOptional x → optional_at (optional_text x ++ rest) ≡ Ok (x, rest)
    again None rest fits = rw (n32.again 0 rest (omega arith)) refl
    again (Some n) rest fits = rw (n32.again (suc n) rest fits) refl

pub reads_change : IsRead change_text change_at FitsChange
unfolding change_at
reads_change = let name = reads_sized w16 wide16 in let optional = reads_optional in record {
  takes = λ bytes x rest small e.
      let a = bind_ok (sized_at w16 bytes) _ (x, rest) e in
      let b = bind_ok (optional_at a.0.1) _ (x, rest) a.2 in
      let t = name.takes bytes a.0.0 a.0.1 small a.1 in
      let u = optional.takes a.0.1 b.0.0 b.0.1 t.0.small b.1 in
      let made : RefChange × List ℕ = (record { name = a.0.0; target = b.0.0 }, b.0.1) in
      subst (λ (y : RefChange × List ℕ). Takes bytes (change_text y.0) y.1 × FitsChange y.0) (ok_is made (x, rest) b.2)
      (Takes-then bytes (sized w16 a.0.0) a.0.1 (optional_text b.0.0) b.0.1 t.0 u.0, record { name = t.1; target = u.1 });
  again = λ c rest fits.
      ap change_at (append_assoc (sized w16 c.name) (optional_text c.target) rest)
      ∙ rw (name.again c.name (optional_text c.target ++ rest) fits.name, optional.again c.target rest fits.target) refl;
}

pub reads_record : IsRead record_text record_at FitsRecord
unfolding record_at
reads_record =
    let name = reads_sized w16 wide16 in
    let optional = reads_optional in
    let number = reads_number w32 wide32 in
    let numbers = reads_counted row_number_text (number_at w32) (λ n. n < 2 ^ 32) (reads_number w32 wide32) in
    let changes = reads_counted change_text change_at FitsChange reads_change in record {
      takes = λ bytes x rest small e.
          let a = bind_ok (sized_at w16 bytes) _ (x, rest) e in
          let b = bind_ok (optional_at a.0.1) _ (x, rest) a.2 in
          let c = bind_ok (number_at w32 b.0.1) _ (x, rest) b.2 in
          let d = bind_ok (counted_at (number_at w32) c.0.1) _ (x, rest) c.2 in
          let f = bind_ok (counted_at change_at d.0.1) _ (x, rest) d.2 in
          let g = bind_ok (sized_at w16 f.0.1) _ (x, rest) f.2 in
          let ta = name.takes bytes a.0.0 a.0.1 small a.1 in
          let tb = optional.takes a.0.1 b.0.0 b.0.1 ta.0.small b.1 in
          let tc = number.takes b.0.1 c.0.0 c.0.1 tb.0.small c.1 in
          let td = numbers.takes c.0.1 d.0.0 d.0.1 tc.0.small d.1 in
          let tf = changes.takes d.0.1 f.0.0 f.0.1 td.0.small f.1 in
          let tg = name.takes f.0.1 g.0.0 g.0.1 tf.0.small g.1 in
          let ns = counted row_number_text d.0.0 in
          let cs = counted change_text f.0.0 in
          let head = sized w16 g.0.0 in
          let fg = Takes-then d.0.1 cs f.0.1 head g.0.1 tf.0 tg.0 in
          let dg = Takes-then c.0.1 ns d.0.1 (cs ++ head) g.0.1 td.0 fg in
          let cg = Takes-then b.0.1 (to_be_bytes w32 c.0.0) c.0.1 (ns ++ (cs ++ head)) g.0.1 tc.0 dg in
          let bg = Takes-then a.0.1 (optional_text b.0.0) b.0.1 (to_be_bytes w32 c.0.0 ++ (ns ++ (cs ++ head))) g.0.1 tb.0 cg in
          let ag = Takes-then bytes (sized w16 a.0.0) a.0.1 (optional_text b.0.0 ++ (to_be_bytes w32 c.0.0 ++ (ns ++ (cs ++ head)))) g.0.1 ta.0 bg in
          let made : TenantRecord × List ℕ = (record { name = a.0.0; base = b.0.0; shared = c.0.0; numbers = d.0.0; changes = f.0.0; head = g.0.0 }, g.0.1) in
          subst (λ (y : TenantRecord × List ℕ). Takes bytes (record_text y.0) y.1 × FitsRecord y.0) (ok_is made (x, rest) g.2)
          (ag, record { name = ta.1; base = tb.1; shared = tc.1; numbers = td.1; changes = tf.1; head = tg.1 });
      again = λ r rest fits.
          let head = sized w16 r.head ++ rest in
          let cs = counted change_text r.changes ++ head in
          let ns = counted row_number_text r.numbers ++ cs in
          let shared = to_be_bytes w32 r.shared ++ ns in
          let base = optional_text r.base ++ shared in
          let n = counted row_number_text r.numbers in
          let c = counted change_text r.changes in
          let h = sized w16 r.head in
          let b4 = optional_text r.base in
          let s4 = to_be_bytes w32 r.shared in
          let regrouped : record_text r ++ rest ≡ sized w16 r.name ++ base =
          append_assoc (sized w16 r.name) (b4 ++ (s4 ++ (n ++ (c ++ h)))) rest
          ∙ ap (λ (l : List ℕ). sized w16 r.name ++ l) (append_assoc b4 (s4 ++ (n ++ (c ++ h))) rest
          ∙ ap (λ (l : List ℕ). b4 ++ l) (append_assoc s4 (n ++ (c ++ h)) rest
          ∙ ap (λ (l : List ℕ). s4 ++ l) (append_assoc n (c ++ h) rest
          ∙ ap (λ (l : List ℕ). n ++ l) (append_assoc c h rest)))) in
          ap record_at regrouped
          ∙ rw (name.again r.name base fits.name, optional.again r.base shared fits.base, number.again r.shared ns fits.shared, numbers.again r.numbers cs fits.numbers, changes.again r.changes head fits.changes, name.again r.head rest fits.head) refl;
    }
