-- A file that is read by its lengths was printed so, and a file that is printed is read again.
use Rattle.std.proofs.Common.{◌≡◌, ℕ, ◌^◌, ◌<◌, Bool, true, false, cond, eqb, List, [], ◌∷◌, ◌++◌, length, Result, Ok, Err, refl, sym, ap, subst, ◌∙◌, append_assoc, append-nil, arith, inl, inr}
use Rattle.std.specs.Prelude.{◌⊎◌, ◌||◌}
use Rattle.std.specs.Int.{w16, w32, w64, to_be_bytes}
use Rattle.std.proofs.lemmas.Bool.{eqb-true, eq-eqb}
use Rattle.git_model.specs.RefStore.{first_head}
use Rattle.pool_file_format.specs.declared.refusal.Refusal.{Refusal}
use Rattle.pool_file_format.specs.declared.refusal.Refusal.TheVariants as refusal
use Rattle.pool_file_format.specs.Format.{RawObject, RawRef, RawTenant, RawFile, sized, counted, number_text, object_text, ref_text, head_text, tenant_text, magic, body_text, FitsObject, FitsRef, FitsAsHead, FitsHead, FitsTenant, FitsFile}
use Rattle.pool_file_format.specs.Lengths.{Read, ◌>>=◌, bytes_at, number_at, sized_at, counted_at, byte_at, object_at, ref_at, head_at, tenant_at, expected_at, front_at, version_at, body_at, end_at, by_lengths}
use Rattle.pool_file_format.proofs.Formats.{IsBytes, bind_ok, ok_is, Takes, Takes-then, IsRead, bytes_take, bytes_again, wide16, wide32, wide64, reads_number, reads_sized, reads_counted}

abbrev one_byte : ℕ → List ℕ
one_byte byte = byte ∷ []

reads_byte : IsRead one_byte byte_at (λ byte. byte < 256)
unfolding byte_at
reads_byte = record { takes = takes; again = λ byte rest small. refl }
  where
    takes : (bytes : List ℕ) (x : ℕ) (rest : List ℕ) → IsBytes bytes → byte_at bytes ≡ Ok (x, rest) → Takes bytes (one_byte x) rest × (x < 256)
    takes [] x rest small e = absurd cc
    takes (b ∷ bs) x rest small e =
        subst (λ (p : ℕ × List ℕ). Takes (b ∷ bs) (one_byte p.0) p.1 × (p.0 < 256)) (ok_is (b, bs) (x, rest) e)
        (record { parts = refl; small = small.1 }, small.0)

pub reads_object : IsRead object_text object_at FitsObject
unfolding object_at byte_at
reads_object = let text = reads_sized w64 wide64 in record {
  takes = λ bytes x rest small e.
      let a = bind_ok (byte_at bytes) (λ kind. sized_at w64 kind.1 >>= λ text. Ok (record { kind = kind.0; bytes = text.0 }, text.1)) (x, rest) e in
      let b = bind_ok (sized_at w64 a.0.1) (λ text. Ok (record { kind = a.0.0; bytes = text.0 }, text.1)) (x, rest) a.2 in
      let t = reads_byte.takes bytes a.0.0 a.0.1 small a.1 in
      let u = text.takes a.0.1 b.0.0 b.0.1 t.0.small b.1 in
      let made : RawObject × List ℕ = (record { kind = a.0.0; bytes = b.0.0 }, b.0.1) in
      subst (λ (y : RawObject × List ℕ). Takes bytes (object_text y.0) y.1 × FitsObject y.0) (ok_is made (x, rest) b.2)
      (Takes-then bytes (one_byte a.0.0) a.0.1 (sized w64 b.0.0) b.0.1 t.0 u.0, record { kind = t.1; bytes = u.1 });
  again = λ o rest fits. rw (text.again o.bytes rest fits.bytes) refl;
}

pub reads_ref : IsRead ref_text ref_at FitsRef
unfolding ref_at
reads_ref = let name = reads_sized w16 wide16 in let number = reads_number w64 wide64 in record {
  takes = λ bytes x rest small e.
      let a = bind_ok (sized_at w16 bytes) (λ name. number_at w64 name.1 >>= λ place. Ok (record { name = name.0; place = place.0 }, place.1)) (x, rest) e in
      let b = bind_ok (number_at w64 a.0.1) (λ place. Ok (record { name = a.0.0; place = place.0 }, place.1)) (x, rest) a.2 in
      let t = name.takes bytes a.0.0 a.0.1 small a.1 in
      let u = number.takes a.0.1 b.0.0 b.0.1 t.0.small b.1 in
      let made : RawRef × List ℕ = (record { name = a.0.0; place = b.0.0 }, b.0.1) in
      subst (λ (y : RawRef × List ℕ). Takes bytes (ref_text y.0) y.1 × FitsRef y.0) (ok_is made (x, rest) b.2)
      (Takes-then bytes (sized w16 a.0.0) a.0.1 (to_be_bytes w64 b.0.0) b.0.1 t.0 u.0, record { name = t.1; place = u.1 });
  again = λ r rest fits.
      ap ref_at (append_assoc (sized w16 r.name) (to_be_bytes w64 r.place) rest)
      ∙ rw (name.again r.name (to_be_bytes w64 r.place ++ rest) fits.name, number.again r.place rest fits.place) refl;
}

pub reads_head : (version : ℕ) → IsRead (head_text version) (head_at version) (FitsHead version)
unfolding head_at
reads_head version = by (eqb version 1)
  where
    text : Bool → List ℕ → List ℕ
    text b head = cond b [] (sized w16 head)

    at : Bool → Read (List ℕ)
    at b bytes = cond b (Ok (first_head, bytes)) (sized_at w16 bytes)

    first : (bytes x rest : List ℕ) → IsBytes bytes → at true bytes ≡ Ok (x, rest) → Takes bytes (text true x) rest × FitsAsHead true x
    first bytes x rest small e =
        subst (λ (y : List ℕ × List ℕ). Takes bytes (text true y.0) y.1 × FitsAsHead true y.0) (ok_is (first_head, bytes) (x, rest) e)
        (record { parts = refl; small = small }, refl)

    by : (b : Bool) → IsRead (text b) (at b) (FitsAsHead b)
    by true = record { takes = first; again = λ x rest fits. rw fits refl }
    by false = reads_sized w16 wide16

pub reads_tenant : (version : ℕ) → IsRead (tenant_text version) (tenant_at version) (FitsTenant version)
unfolding tenant_at
reads_tenant version =
    let name = reads_sized w16 wide16 in
    let numbers = reads_counted number_text (number_at w64) (λ n. n < 2 ^ 64) (reads_number w64 wide64) in
    let refs = reads_counted ref_text ref_at FitsRef reads_ref in
    let head = reads_head version in record {
      takes = λ bytes x rest small e.
          let a = bind_ok (sized_at w16 bytes) (λ name. counted_at (number_at w64) name.1 >>= λ numbers. counted_at ref_at numbers.1 >>= λ refs. head_at version refs.1 >>= λ head.
          Ok (record { name = name.0; numbers = numbers.0; refs = refs.0; head = head.0 }, head.1)) (x, rest) e in
          let b = bind_ok (counted_at (number_at w64) a.0.1) (λ numbers. counted_at ref_at numbers.1 >>= λ refs. head_at version refs.1 >>= λ head.
          Ok (record { name = a.0.0; numbers = numbers.0; refs = refs.0; head = head.0 }, head.1)) (x, rest) a.2 in
          let c = bind_ok (counted_at ref_at b.0.1) (λ refs. head_at version refs.1 >>= λ head.
          Ok (record { name = a.0.0; numbers = b.0.0; refs = refs.0; head = head.0 }, head.1)) (x, rest) b.2 in
          let d = bind_ok (head_at version c.0.1) (λ head. Ok (record { name = a.0.0; numbers = b.0.0; refs = c.0.0; head = head.0 }, head.1)) (x, rest) c.2 in
          let ta = name.takes bytes a.0.0 a.0.1 small a.1 in
          let tb = numbers.takes a.0.1 b.0.0 b.0.1 ta.0.small b.1 in
          let tc = refs.takes b.0.1 c.0.0 c.0.1 tb.0.small c.1 in
          let td = head.takes c.0.1 d.0.0 d.0.1 tc.0.small d.1 in
          let cd = Takes-then b.0.1 (counted ref_text c.0.0) c.0.1 (head_text version d.0.0) d.0.1 tc.0 td.0 in
          let bd = Takes-then a.0.1 (counted number_text b.0.0) b.0.1 (counted ref_text c.0.0 ++ head_text version d.0.0) d.0.1 tb.0 cd in
          let ad = Takes-then bytes (sized w16 a.0.0) a.0.1 (counted number_text b.0.0 ++ (counted ref_text c.0.0 ++ head_text version d.0.0)) d.0.1 ta.0 bd in
          let made : RawTenant × List ℕ = (record { name = a.0.0; numbers = b.0.0; refs = c.0.0; head = d.0.0 }, d.0.1) in
          subst (λ (y : RawTenant × List ℕ). Takes bytes (tenant_text version y.0) y.1 × FitsTenant version y.0) (ok_is made (x, rest) d.2)
          (ad, record { name = ta.1; numbers = tb.1; refs = tc.1; head = td.1 });
      again = λ t rest fits.
          let n : List ℕ = sized w16 t.name in
          let ns : List ℕ = counted number_text t.numbers in
          let rs : List ℕ = counted ref_text t.refs in
          let h : List ℕ = head_text version t.head in
          let regrouped : (n ++ (ns ++ (rs ++ h))) ++ rest ≡ n ++ (ns ++ (rs ++ (h ++ rest))) =
          append_assoc n (ns ++ (rs ++ h)) rest ∙ ap (λ (l : List ℕ). n ++ l) (append_assoc ns (rs ++ h) rest ∙ ap (λ (l : List ℕ). ns ++ l) (append_assoc rs h rest)) in
          ap (tenant_at version) regrouped
          ∙ rw (name.again t.name (ns ++ (rs ++ (h ++ rest))) fits.name, numbers.again t.numbers (rs ++ (h ++ rest)) fits.numbers, refs.again t.refs (h ++ rest) fits.refs, head.again t.head rest fits.head) refl;
    }

-- ---- the whole file

reads_expected : (expected : ℕ) → expected < 256 → IsRead (λ (u : Unit). one_byte expected) (expected_at expected) (λ _. Unit {0})
unfolding expected_at byte_at
reads_expected expected small = record { takes = takes; again = λ x rest fits. rw (eq-eqb expected expected refl) refl }
  where
    given : Bool → List ℕ → Result (Unit × List ℕ) Refusal
    given t rest = cond t (Ok (tt, rest)) (Err refusal.NoPoolFile)

    by : (byte : ℕ) (bytes : List ℕ) (x : Unit) (rest : List ℕ) (t : Bool) → IsBytes bytes → eqb byte expected ≡ t → given t bytes ≡ Ok (x, rest)
        → Takes (byte ∷ bytes) (one_byte expected) rest × Unit {0}
    by byte bytes x rest true small same f = (
      record {
        parts = ap (λ (l : List ℕ). byte ∷ l) (ap (λ (y : Unit × List ℕ). y.1) (ok_is (tt, bytes) (x, rest) f)) ∙ ap (λ (n : ℕ). n ∷ rest) (eqb-true byte expected same);
        small = subst (λ (l : List ℕ). IsBytes l) (ap (λ (y : Unit × List ℕ). y.1) (ok_is (tt, bytes) (x, rest) f)) small;
      },
      tt,
    )
    by byte bytes x rest false small other f = absurd cc

    takes : (bytes : List ℕ) (x : Unit) (rest : List ℕ) → IsBytes bytes → expected_at expected bytes ≡ Ok (x, rest) → Takes bytes (one_byte expected) rest × Unit {0}
    takes [] x rest small e = absurd cc
    takes (byte ∷ bytes) x rest small e = by byte bytes x rest (eqb byte expected) small.1 refl e

front_takes : (expected bytes : List ℕ) (x : Unit) (rest : List ℕ) → IsBytes expected → IsBytes bytes → front_at expected bytes ≡ Ok (x, rest) → Takes bytes expected rest
unfolding front_at
front_takes [] bytes x rest known small e =
    subst (λ (y : Unit × List ℕ). Takes bytes [] y.1) (ok_is (tt, bytes) (x, rest) e) (record { parts = refl; small = small })
front_takes (c ∷ more) bytes x rest known small e =
    let a = bind_ok (expected_at c bytes) (λ first. front_at more first.1) (x, rest) e in
    let t = (reads_expected c known.0).takes bytes a.0.0 a.0.1 small a.1 in
    Takes-then bytes (one_byte c) a.0.1 more rest t.0 (front_takes more a.0.1 x rest known.1 t.0.small a.2)

front_again : (expected rest : List ℕ) → IsBytes expected → front_at expected (expected ++ rest) ≡ Ok (tt, rest)
unfolding front_at
front_again [] rest known = refl
front_again (c ∷ more) rest known = rw ((reads_expected c known.0).again tt (more ++ rest) tt) (front_again more rest known.1)

magic_bytes : IsBytes magic
magic_bytes = (omega arith, (omega arith, (omega arith, (omega arith, (omega arith, (omega arith, (omega arith, (omega arith, tt))))))))

by_or : (a b : Bool) → (a || b) ≡ true → (a ≡ true) ⊎ (b ≡ true)
by_or true b e = inl refl
by_or false b e = inr e

reads_version : IsRead (to_be_bytes w32) version_at (λ version. (version ≡ 1) ⊎ (version ≡ 2))
unfolding version_at
reads_version = let number = reads_number w32 wide32 in record {
  takes = λ bytes x rest small e.
      let a = bind_ok (number_at w32 bytes) (λ version. cond (eqb version.0 1 || eqb version.0 2) (Ok version) (Err refusal.UnknownVersion)) (x, rest) e in
      let t = number.takes bytes a.0.0 a.0.1 small a.1 in
      known bytes a.0 (x, rest) t.0 (eqb a.0.0 1 || eqb a.0.0 2) refl a.2;
  again = λ version rest known. elim known [
    | inl is ↦ rw is (ap (λ (r : Result (ℕ × List ℕ) Refusal). r >>= judged) (number.again 1 rest (omega arith)))
    | inr is ↦ rw is (ap (λ (r : Result (ℕ × List ℕ) Refusal). r >>= judged) (number.again 2 rest (omega arith)))
  ];
}
  where
    judged : ℕ × List ℕ → Result (ℕ × List ℕ) Refusal
    judged version = cond (eqb version.0 1 || eqb version.0 2) (Ok version) (Err refusal.UnknownVersion)

    picked : Bool → ℕ × List ℕ → Result (ℕ × List ℕ) Refusal
    picked b version = cond b (Ok version) (Err refusal.UnknownVersion)

    is_one : (n : ℕ) → (eqb n 1 || eqb n 2) ≡ true → (n ≡ 1) ⊎ (n ≡ 2)
    is_one n e = elim (by_or (eqb n 1) (eqb n 2) e) [
      | inl one ↦ inl (eqb-true n 1 one)
      | inr two ↦ inr (eqb-true n 2 two)
    ]

    known : (bytes : List ℕ) (a x : ℕ × List ℕ) → Takes bytes (to_be_bytes w32 a.0) a.1 → (b : Bool) → (eqb a.0 1 || eqb a.0 2) ≡ b → picked b a ≡ Ok x
        → Takes bytes (to_be_bytes w32 x.0) x.1 × ((x.0 ≡ 1) ⊎ (x.0 ≡ 2))
    known bytes a x t true e f =
        subst (λ (y : ℕ × List ℕ). Takes bytes (to_be_bytes w32 y.0) y.1 × ((y.0 ≡ 1) ⊎ (y.0 ≡ 2))) (ok_is a x f) (t, is_one a.0 e)
    known bytes a x t false e f = absurd cc

pub reads_body : IsRead body_text body_at FitsFile
unfolding body_at
reads_body =
    let version = reads_version in
    let objects = reads_counted object_text object_at FitsObject reads_object in
    let tenants = (λ (v : ℕ). reads_counted (tenant_text v) (tenant_at v) (FitsTenant v) (reads_tenant v)) in record {
      takes = λ bytes x rest small e.
          let a = bind_ok (front_at magic bytes) (λ front. version_at front.1 >>= λ version. counted_at object_at version.1 >>= λ objects. counted_at (tenant_at version.0) objects.1 >>= λ tenants.
          Ok (record { version = version.0; objects = objects.0; tenants = tenants.0 }, tenants.1)) (x, rest) e in
          let b = bind_ok (version_at a.0.1) (λ version. counted_at object_at version.1 >>= λ objects. counted_at (tenant_at version.0) objects.1 >>= λ tenants.
          Ok (record { version = version.0; objects = objects.0; tenants = tenants.0 }, tenants.1)) (x, rest) a.2 in
          let c = bind_ok (counted_at object_at b.0.1) (λ objects. counted_at (tenant_at b.0.0) objects.1 >>= λ tenants.
          Ok (record { version = b.0.0; objects = objects.0; tenants = tenants.0 }, tenants.1)) (x, rest) b.2 in
          let d = bind_ok (counted_at (tenant_at b.0.0) c.0.1) (λ tenants. Ok (record { version = b.0.0; objects = c.0.0; tenants = tenants.0 }, tenants.1)) (x, rest) c.2 in
          let ta = front_takes magic bytes a.0.0 a.0.1 magic_bytes small a.1 in
          let tb = version.takes a.0.1 b.0.0 b.0.1 ta.small b.1 in
          let tc = objects.takes b.0.1 c.0.0 c.0.1 tb.0.small c.1 in
          let td = (tenants b.0.0).takes c.0.1 d.0.0 d.0.1 tc.0.small d.1 in
          let os : List ℕ = counted object_text c.0.0 in
          let ts : List ℕ = counted (tenant_text b.0.0) d.0.0 in
          let cd = Takes-then b.0.1 os c.0.1 ts d.0.1 tc.0 td.0 in
          let bd = Takes-then a.0.1 (to_be_bytes w32 b.0.0) b.0.1 (os ++ ts) d.0.1 tb.0 cd in
          let ad = Takes-then bytes magic a.0.1 (to_be_bytes w32 b.0.0 ++ (os ++ ts)) d.0.1 ta bd in
          let made : RawFile × List ℕ = (record { version = b.0.0; objects = c.0.0; tenants = d.0.0 }, d.0.1) in
          subst (λ (y : RawFile × List ℕ). Takes bytes (body_text y.0) y.1 × FitsFile y.0) (ok_is made (x, rest) d.2)
          (ad, record { version = tb.1; objects = tc.1; tenants = td.1 });
      again = λ f rest fits.
          let v : List ℕ = to_be_bytes w32 f.version in
          let os : List ℕ = counted object_text f.objects in
          let ts : List ℕ = counted (tenant_text f.version) f.tenants in
          let regrouped : (magic ++ (v ++ (os ++ ts))) ++ rest ≡ magic ++ (v ++ (os ++ (ts ++ rest))) =
          append_assoc magic (v ++ (os ++ ts)) rest ∙ ap (λ (l : List ℕ). magic ++ l) (append_assoc v (os ++ ts) rest ∙ ap (λ (l : List ℕ). v ++ l) (append_assoc os ts rest)) in
          ap body_at regrouped
          ∙ rw (front_again magic (v ++ (os ++ (ts ++ rest))) magic_bytes, version.again f.version (os ++ (ts ++ rest)) fits.version, objects.again f.objects (ts ++ rest) fits.objects, (tenants f.version).again f.tenants rest fits.tenants) refl;
    }

-- What a whole file is: its body, and 20 bytes after it.
pub record IsWhole (bytes : List ℕ) (f : RawFile) (digest : List ℕ) : Type 0 where
  pub parts : bytes ≡ body_text f ++ digest
  pub fits : FitsFile f
  pub size : length digest ≡ 20

end_is : (bytes : List ℕ) (x : Unit × List ℕ) → end_at bytes ≡ Ok x → bytes ≡ []
unfolding end_at
end_is [] x e = refl
end_is (b ∷ bytes) x e = absurd cc

pub lengths_take : (bytes : List ℕ) (x : (RawFile × List ℕ) × List ℕ) → IsBytes bytes → by_lengths bytes ≡ Ok x → IsWhole bytes x.0.0 x.0.1
unfolding by_lengths
lengths_take bytes x small e =
    let a = bind_ok (body_at bytes) (λ body. bytes_at 20 body.1 >>= λ digest. end_at digest.1 >>= λ end. Ok ((body.0, digest.0), end.1)) x e in
    let b = bind_ok (bytes_at 20 a.0.1) (λ digest. end_at digest.1 >>= λ end. Ok ((a.0.0, digest.0), end.1)) x a.2 in
    let d = bind_ok (end_at b.0.1) (λ end. Ok ((a.0.0, b.0.0), end.1)) x b.2 in
    let t = reads_body.takes bytes a.0.0 a.0.1 small a.1 in
    let u = bytes_take 20 a.0.1 b.0.0 b.0.1 t.0.small b.1 in
    let made : (RawFile × List ℕ) × List ℕ = ((a.0.0, b.0.0), d.0.1) in
    subst (λ (y : (RawFile × List ℕ) × List ℕ). IsWhole bytes y.0.0 y.0.1) (ok_is made x d.2) (record {
      parts = t.0.parts ∙ ap (λ (l : List ℕ). body_text a.0.0 ++ l) (u.0.parts ∙ ap (λ (l : List ℕ). b.0.0 ++ l) (end_is b.0.1 d.0 d.1) ∙ append-nil b.0.0);
      fits = t.1;
      size = u.2;
    })

pub lengths_again : (f : RawFile) (digest : List ℕ) → FitsFile f → length digest ≡ 20 → by_lengths (body_text f ++ digest) ≡ Ok ((f, digest), [])
unfolding by_lengths end_at
lengths_again f digest fits size =
    rw (reads_body.again f digest fits) (ap (λ (l : List ℕ). bytes_at 20 l >>= λ d. end_at d.1 >>= λ end. Ok ((f, d.0), end.1)) (sym (append-nil digest))
    ∙ rw (bytes_again 20 digest [] size) refl)
