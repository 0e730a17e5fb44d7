-- A frame part by part, whatever its kinds are: which part is wrong, and what is missing of a frame that is not whole.
use Rattle.std.proofs.Common.{◌≡◌, ◌≢◌, ℕ, ◌+◌, ◌^◌, ◌<◌, ◌≤◌, Bool, true, false, cond, eqb, ltb, is_some, true≢false, List, [], ◌∷◌, ◌++◌, length, replicate, Option, None, Some, IfSome, Result, Ok, Err, IsErrAnd, refl, sym, ap, subst, ◌∙◌, append_assoc, append-nil, arith}
use Rattle.std.specs.Int.{w16, w32, to_be_bytes}
use Rattle.std.specs.List.{find}
use Rattle.std.specs.Option.{unwrap_or}
use Rattle.std.proofs.lemmas.Bool.{eqb-true, lt-ltb, le-ltb, ltb-true, ltb-false}
use Rattle.std.proofs.lemmas.List.{length-append, length-replicate}
use Rattle.std.proofs.lemmas.Result.{err_from_is_err_and}
use Rattle.byte_devices.specs.Device.{Device}
use Rattle.service_steps.specs.declared.frame_fault.FrameFault.{FrameFault}
use Rattle.service_steps.specs.declared.frame_fault.FrameFault.TheVariants as fault
use Rattle.service_steps.specs.Frames.{Frame, Fits, sized, frame_text, IsBadBy, IsUnfinishedBy}
use Rattle.service_steps.specs.FrameKinds.{wrong_within, Judges, Kinds, Rules}
use Rattle.service_steps.specs.Reading.{HasReadWell, IsUnfinishedPart, ReadsFrame, ReadsKindBy, ReadsNone, ReadsSized}
use Rattle.byte_devices.proofs.ReadLemmas.{well_more, all_more, failed_more}

-- ---- which part is wrong

wrong_name : (names bodies : ℕ) (good : List ℕ → Bool) (n : ℕ) (body : List ℕ) → names < n → wrong_within names bodies good n body ≡ Some 3
wrong_name names bodies good n body over = rw (lt-ltb names n over) refl

too_long : (names bodies : ℕ) (good : List ℕ → Bool) (n : ℕ) (body : List ℕ) → n ≤ names → bodies < length body
    → wrong_within names bodies good n body ≡ Some (7 + n)
too_long names bodies good n body within over = rw (le-ltb names n within, lt-ltb bodies (length body) over) refl

by_body : (names bodies : ℕ) (good : List ℕ → Bool) (n : ℕ) (body : List ℕ) (b : Bool) → n ≤ names → length body ≤ bodies → good body ≡ b
    → wrong_within names bodies good n body ≡ cond b None (Some (7 + n + length body))
by_body names bodies good n body b within few is =
    rw (le-ltb names n within, le-ltb bodies (length body) few)
    (ap (λ (t : Bool). cond t None (Some (7 + n + length body))) is)

by_less : {P : Type 0} (a b : ℕ) → (a < b → P) → (b ≤ a → P) → P
by_less {P} a b less more = by (ltb a b) refl
  where
    by : (t : Bool) → ltb a b ≡ t → P
    by true e = less (ltb-true a b e)
    by false e = more (ltb-false a b e)

-- A wrong part that does not show yet.
abbrev hides : Option ℕ → ℕ → Type 0
hides at size = IfSome at (λ shown. size < shown)

hides_body : (names bodies : ℕ) (good : List ℕ → Bool) (n size : ℕ) (body : List ℕ) → n ≤ names → (7 + n ≤ size → length body ≤ bodies)
    → size < 7 + n + length body → hides (wrong_within names bodies good n body) size
hides_body names bodies good n size body within limited lacks =
    by_less bodies (length body)
    (λ over. subst (λ (at : Option ℕ). hides at size) (sym (too_long names bodies good n body within over))
    (by_less size (7 + n) (λ short. short) (λ long. let w = limited long in absurd (omega (arith, over, w)))))
    (λ few. by (good body) refl few)
  where
    by : (b : Bool) → good body ≡ b → length body ≤ bodies → hides (wrong_within names bodies good n body) size
    by true is few = subst (λ (at : Option ℕ). hides at size) (sym (by_body names bodies good n body true within few is)) tt
    by false is few = subst (λ (at : Option ℕ). hides at size) (sym (by_body names bodies good n body false within few is)) lacks

hides_name : (names bodies : ℕ) (good : List ℕ → Bool) (n size : ℕ) → (3 ≤ size → n ≤ names) → size < 7 + n → hides (wrong_within names bodies good n []) size
hides_name names bodies good n size limited lacks =
    by_less names n
    (λ over. subst (λ (at : Option ℕ). hides at size) (sym (wrong_name names bodies good n [] over))
    (by_less size 3 (λ short. short) (λ long. let w = limited long in absurd (omega (arith, over, w)))))
    (λ within. hides_body names bodies good n size [] within (λ _. omega arith) (omega (arith, lacks)))

-- ---- a frame that is not whole

some_more : (xs ys : List ℕ) → xs ≢ [] → xs ++ ys ≢ []
some_more [] ys some none = some refl
some_more (x ∷ xs) ys some none = let e : length (x ∷ xs ++ ys) ≡ 0 = ap length none in omega (arith, e)

-- Before its first byte.
pub none_begun : (wrong_at : Frame → Option ℕ) → wrong_at (record { kind = 1; tenant = []; body = [] }) ≡ None → IsUnfinishedBy wrong_at []
none_begun wrong_at good = record {
  frame = record { kind = 1; tenant = []; body = [] };
  missing = frame_text (record { kind = 1; tenant = []; body = [] });
  begins = record {
    fits = record { kind = omega arith; tenant = omega arith; body = omega arith };
    parts = refl;
    not_yet = subst (λ (at : Option ℕ). hides at 0) (sym good) tt;
  };
  lacks = some_more (1 ∷ []) (sized w16 [] ++ sized w32 []) (λ none. let e : length {A = ℕ} (1 ∷ []) ≡ 0 = ap length none in omega (arith, e));
}

sized-length : (tenant bytes : List ℕ) → length (sized w16 tenant ++ bytes) ≡ 2 + length tenant + length bytes
sized-length tenant bytes = let a = length-append (sized w16 tenant) bytes in omega (arith, a)

-- What is there of a name is not longer than the name.
short_name : (kind : ℕ) (room bytes missing : List ℕ) → sized w16 room ≡ bytes ++ missing → length (kind ∷ bytes) < 7 + length room
short_name kind room bytes missing parts =
    let a = sized-length room [] in
    let b : length (sized w16 room ++ []) ≡ length bytes + length missing = ap length (append-nil (sized w16 room) ∙ parts) ∙ length-append bytes missing in
    omega (arith, a, b)

-- Inside its name.
name_begun : {wrong_at : Frame → Option ℕ} {names bodies : ℕ} {good : List ℕ → Bool} (kind : ℕ) (bytes : List ℕ) → Judges wrong_at kind names bodies good
    → IsUnfinishedPart w16 names bytes → IsUnfinishedBy wrong_at (kind ∷ bytes)
name_begun {wrong_at} {names} {bodies} {good} kind bytes j p = record {
  frame = record { kind = kind; tenant = p.room; body = [] };
  missing = p.missing ++ sized w32 [];
  begins = record {
    fits = record { kind = j.small; tenant = p.fits; body = omega arith };
    parts = ap (λ (l : List ℕ). kind ∷ l ++ sized w32 []) p.parts ∙ ap (λ (l : List ℕ). kind ∷ l) (append_assoc bytes p.missing (sized w32 []));
    not_yet = subst (λ (at : Option ℕ). hides at (length (kind ∷ bytes))) (sym (j.is p.room []))
        (hides_name names bodies good (length p.room) (length (kind ∷ bytes)) (λ there. p.limited (omega (arith, there))) (short_name kind p.room bytes p.missing p.parts));
  };
  lacks = some_more p.missing (sized w32 []) p.lacks;
}

some_length : (xs : List ℕ) → xs ≢ [] → 0 < length xs
some_length [] some = absurd (some refl)
some_length (x ∷ xs) some = omega arith

-- What is there is shorter than the whole.
shorter : (tenant room bytes missing : List ℕ) → sized w32 room ≡ bytes ++ missing → missing ≢ []
    → 1 + length (sized w16 tenant ++ bytes) < 7 + length tenant + length room
shorter tenant room bytes missing parts lacks =
    let a = sized-length tenant bytes in
    let b : length (sized w32 room) ≡ length bytes + length missing = ap length parts ∙ length-append bytes missing in
    let c = some_length missing lacks in
    omega (arith, a, b, c)

-- Inside its body.
body_begun : {wrong_at : Frame → Option ℕ} {names bodies : ℕ} {good : List ℕ → Bool} (kind : ℕ) (tenant bytes : List ℕ) → Judges wrong_at kind names bodies good
    → length tenant ≤ names → length tenant < 2 ^ 16 → IsUnfinishedPart w32 bodies bytes → IsUnfinishedBy wrong_at (kind ∷ sized w16 tenant ++ bytes)
body_begun {wrong_at} {names} {bodies} {good} kind tenant bytes j within fits p = record {
  frame = record { kind = kind; tenant = tenant; body = p.room };
  missing = p.missing;
  begins = record {
    fits = record { kind = j.small; tenant = fits; body = p.fits };
    parts = ap (λ (l : List ℕ). kind ∷ sized w16 tenant ++ l) p.parts
        ∙ ap (λ (l : List ℕ). kind ∷ l) (sym (append_assoc (sized w16 tenant) bytes p.missing));
    not_yet = subst (λ (at : Option ℕ). hides at (length (kind ∷ sized w16 tenant ++ bytes))) (sym (j.is tenant p.room))
        (hides_body names bodies good (length tenant) (length (kind ∷ sized w16 tenant ++ bytes)) p.room within
        (λ there. p.limited (let a = sized-length tenant bytes in omega (arith, a, there)))
        (let s = shorter tenant p.room bytes p.missing p.parts p.lacks in omega (arith, s)));
  };
  lacks = p.lacks;
}

-- ---- a bad frame

bad_kind : (wrong_at : Frame → Option ℕ) (kind : ℕ) → kind < 256 → wrong_at (record { kind = kind; tenant = []; body = [] }) ≡ Some 1
    → IsBadBy wrong_at (kind ∷ [])
bad_kind wrong_at kind small is = record {
  frame = record { kind = kind; tenant = []; body = [] };
  missing = sized w16 [] ++ sized w32 [];
  fits = record { kind = small; tenant = omega arith; body = omega arith };
  parts = refl;
  shows = is;
}

bad_name : {wrong_at : Frame → Option ℕ} {names bodies : ℕ} {good : List ℕ → Bool} (kind n : ℕ) → Judges wrong_at kind names bodies good → names < n
    → n < 2 ^ 16 → IsBadBy wrong_at (kind ∷ to_be_bytes w16 n)
bad_name {wrong_at} {names} {bodies} {good} kind n j over fits =
    let room : List ℕ = replicate n 0 in
    let size : length room ≡ n = length-replicate n 0 in
    record {
      frame = record { kind = kind; tenant = room; body = [] };
      missing = room ++ sized w32 [];
      fits = record { kind = j.small; tenant = omega (arith, size, fits); body = omega arith };
      parts = ap (λ (m : ℕ). kind ∷ (to_be_bytes w16 m ++ room) ++ sized w32 []) size;
      shows = j.is room [] ∙ wrong_name names bodies good (length room) [] (omega (arith, size, over));
    }

bad_length : {wrong_at : Frame → Option ℕ} {names bodies : ℕ} {good : List ℕ → Bool} (kind : ℕ) (tenant : List ℕ) (n : ℕ)
    → Judges wrong_at kind names bodies good → length tenant ≤ names → length tenant < 2 ^ 16 → bodies < n → n < 2 ^ 32
    → IsBadBy wrong_at (kind ∷ sized w16 tenant ++ to_be_bytes w32 n)
bad_length {wrong_at} {names} {bodies} {good} kind tenant n j within short over fits =
    let room : List ℕ = replicate n 0 in
    let size : length room ≡ n = length-replicate n 0 in
    record {
      frame = record { kind = kind; tenant = tenant; body = room };
      missing = room;
      fits = record { kind = j.small; tenant = short; body = omega (arith, size, fits) };
      parts = ap (λ (m : ℕ). (kind ∷ sized w16 tenant) ++ (to_be_bytes w32 m ++ room)) size
          ∙ sym (append_assoc (kind ∷ sized w16 tenant) (to_be_bytes w32 n) room);
      shows = j.is tenant room ∙ too_long names bodies good (length tenant) room within (omega (arith, size, over))
          ∙ ap (λ (m : ℕ). Some m) (let a = sized-length tenant (to_be_bytes w32 n) in omega (arith, a));
    }

-- ---- what was read

cut_off : {wrong_at : Frame → Option ℕ} (kind : ℕ) (bytes : List ℕ) → IsUnfinishedBy wrong_at (kind ∷ bytes) → IsUnfinishedBy wrong_at (kind ∷ bytes) × (kind ∷ bytes ≢ [])
cut_off kind bytes u = (u, λ none. let e : length (kind ∷ bytes) ≡ 0 = ap length none in omega (arith, e))

pub stops_in_name : {wrong_at : Frame → Option ℕ} {names bodies : ℕ} {good : List ℕ → Bool} (kind : ℕ) (a b c : Device) (e : FrameFault) (room : List ℕ)
    → Judges wrong_at kind names bodies good → HasReadWell a b (kind ∷ []) → ReadsSized w16 names b (Err e) c room → ReadsNone wrong_at a e c
stops_in_name kind a b c fault.BadFrame room j h r =
    (kind ∷ to_be_bytes w16 r.0, bad_name kind r.0 j r.1 r.2, well_more a b c (kind ∷ []) (to_be_bytes w16 r.0) h r.3)
stops_in_name kind a b c fault.CutOff room j h r =
    (kind ∷ r.0, cut_off kind r.0 (name_begun kind r.0 j r.1), all_more a b c (kind ∷ []) r.0 h r.2)
stops_in_name kind a b c fault.Device room j h r = (kind ∷ r.0, name_begun kind r.0 j r.1, failed_more a b c (kind ∷ []) r.0 h r.2)
stops_in_name kind a b c fault.Memory room j h r = (kind ∷ r.0, name_begun kind r.0 j r.1, well_more a b c (kind ∷ []) r.0 h r.2)

-- A kind and a name were read.
pub record IsNamed (kind names : ℕ) (a b : Device) (tenant : List ℕ) : Type 0 where
  pub within : length tenant ≤ names
  pub fits : length tenant < 2 ^ 16
  pub read : HasReadWell a b (kind ∷ sized w16 tenant)

pub name_read : (kind names : ℕ) (a b c : Device) (tenant : List ℕ) → HasReadWell a b (kind ∷ []) → ReadsSized w16 names b (Ok tt) c tenant
    → IsNamed kind names a c tenant
name_read kind names a b c tenant h r = record { within = r.0; fits = r.1; read = well_more a b c (kind ∷ []) (sized w16 tenant) h r.2 }

pub stops_in_body : {wrong_at : Frame → Option ℕ} {names bodies : ℕ} {good : List ℕ → Bool} (kind : ℕ) (a b c : Device) (tenant : List ℕ) (e : FrameFault) (room : List ℕ)
    → Judges wrong_at kind names bodies good → IsNamed kind names a b tenant → ReadsSized w32 bodies b (Err e) c room → ReadsNone wrong_at a e c
stops_in_body kind a b c tenant fault.BadFrame room j h r = (
  kind ∷ sized w16 tenant ++ to_be_bytes w32 r.0,
  bad_length kind tenant r.0 j h.within h.fits r.1 r.2,
  well_more a b c (kind ∷ sized w16 tenant) (to_be_bytes w32 r.0) h.read r.3,
)
stops_in_body kind a b c tenant fault.CutOff room j h r = (
  kind ∷ sized w16 tenant ++ r.0,
  cut_off kind (sized w16 tenant ++ r.0) (body_begun kind tenant r.0 j h.within h.fits r.1),
  all_more a b c (kind ∷ sized w16 tenant) r.0 h.read r.2,
)
stops_in_body kind a b c tenant fault.Device room j h r =
    (kind ∷ sized w16 tenant ++ r.0, body_begun kind tenant r.0 j h.within h.fits r.1, failed_more a b c (kind ∷ sized w16 tenant) r.0 h.read r.2)
stops_in_body kind a b c tenant fault.Memory room j h r =
    (kind ∷ sized w16 tenant ++ r.0, body_begun kind tenant r.0 j h.within h.fits r.1, well_more a b c (kind ∷ sized w16 tenant) r.0 h.read r.2)

-- Its last byte shows that a body is none of its kind.
pub body_wrong : {wrong_at : Frame → Option ℕ} {names bodies : ℕ} {good : List ℕ → Bool} (kind : ℕ) (a b c : Device) (tenant room : List ℕ)
    → Judges wrong_at kind names bodies good → IsNamed kind names a b tenant → ReadsSized w32 bodies b (Ok tt) c room → good room ≡ false
    → ReadsNone wrong_at a fault.BadFrame c
body_wrong {wrong_at} {names} {bodies} {good} kind a b c tenant room j h r wrong = (
  kind ∷ sized w16 tenant ++ sized w32 room,
  record {
    frame = record { kind = kind; tenant = tenant; body = room };
    missing = [];
    fits = record { kind = j.small; tenant = h.fits; body = r.1 };
    parts = sym (append-nil (kind ∷ sized w16 tenant ++ sized w32 room));
    shows = j.is tenant room ∙ by_body names bodies good (length tenant) room false h.within r.0 wrong
        ∙ ap (λ (m : ℕ). Some m) (let s = sized-length tenant (sized w32 room) in omega (arith, s));
  },
  well_more a b c (kind ∷ sized w16 tenant) (sized w32 room) h.read r.2,
)

-- A whole frame was read, and it is good.
abbrev pub ReadsWhole : (Frame → Option ℕ) → Device → Device → Frame → Type 0
ReadsWhole wrong_at old new f = (Fits f × (wrong_at f ≡ None)) × HasReadWell old new (frame_text f)

pub whole_read : {wrong_at : Frame → Option ℕ} {names bodies : ℕ} {good : List ℕ → Bool} (kind : ℕ) (a b c : Device) (tenant room : List ℕ) (f : Frame)
    → Judges wrong_at kind names bodies good → IsNamed kind names a b tenant → ReadsSized w32 bodies b (Ok tt) c room → good room ≡ true
    → f ≡ record { kind = kind; tenant = tenant; body = room } → ReadsWhole wrong_at a c f
whole_read {wrong_at} {names} {bodies} {good} kind a b c tenant room f j h r well is =
    subst (λ (g : Frame). ReadsWhole wrong_at a c g) (sym is) (
      (
        record { kind = j.small; tenant = h.fits; body = r.1 },
        j.is tenant room ∙ by_body names bodies good (length tenant) room true h.within r.0 well,
      ),
      well_more a b c (kind ∷ sized w16 tenant) (sized w32 room) h.read r.2,
    )

-- ---- kinds

found_passes : {X : Type 0} (p : X → Bool) (all : List X) (k : X) → find p all ≡ Some k → p k ≡ true
found_passes {X} p [] k is = absurd (true≢false (sym (ap (λ (o : Option X). is_some o) is)))
found_passes {X} p (x ∷ all) k is = by (p x) refl is (found_passes p all k)
  where
    by : (b : Bool) → p x ≡ b → cond b (Some x) (find p all) ≡ Some k → (find p all ≡ Some k → p k ≡ true) → p k ≡ true
    by true e found rest = subst (λ (y : X). p y ≡ true) (ap (λ (o : Option X). unwrap_or o x) found) e
    by false e found rest = rest found

-- A kind that is found by a number has it.
pub number_of : {K : Type 0} (number : K → ℕ) (all : List K) (byte : ℕ) (k : K) → find (λ (x : K). eqb (number x) byte) all ≡ Some k → byte ≡ number k
number_of {K} number all byte k is = sym (eqb-true (number k) byte (found_passes (λ (x : K). eqb (number x) byte) all k is))

pub kind_fails : {K : Type 0} {rules : Rules K} → Kinds rules
    → (a b : Device) (e : FrameFault) → ReadsKindBy rules.kind_of a (Err e) b → ReadsNone rules.wrong_at a e b
kind_fails {K} {rules} kinds a b fault.BadFrame r = (r.0 ∷ [], bad_kind rules.wrong_at r.0 r.1 (kinds.unknown r.0 r.2), r.3)
kind_fails {K} {rules} kinds a b fault.CutOff r = absurd r
kind_fails {K} {rules} kinds a b fault.Device r = ([], kinds.none, r)
kind_fails {K} {rules} kinds a b fault.Memory r = absurd r

pub knows : {K : Type 0} {rules : Rules K} → Kinds rules
    → (a b : Device) (k : K) (o : Option K) → o ≡ Some k → ReadsKindBy rules.kind_of a (Ok o) b → HasReadWell a b (rules.number k ∷ [])
knows {K} {rules} kinds a b k o is r =
    let known : ReadsKindBy rules.kind_of a (Ok (Some k)) b = subst (λ (p : Option K). ReadsKindBy rules.kind_of a (Ok p) b) is r in
    subst (λ (n : ℕ). HasReadWell a b (n ∷ [])) (kinds.numbered known.0 k known.2) known.3

pub name_fails : {K : Type 0} {rules : Rules K} → Kinds rules
    → (a b c : Device) (k : K) (e : FrameFault) (room : List ℕ) (n : ℕ) → n ≡ rules.names k → HasReadWell a b (rules.number k ∷ [])
    → ReadsSized w16 n b (Err e) c room → ReadsNone rules.wrong_at a e c
name_fails {K} {rules} kinds a b c k e room n is h r =
    stops_in_name (rules.number k) a b c e room (kinds.judges k) h (subst (λ (m : ℕ). ReadsSized w16 m b (Err e) c room) is r)

pub named : {K : Type 0} {rules : Rules K} → Kinds rules
    → (a b c : Device) (k : K) (tenant : List ℕ) (n : ℕ) → n ≡ rules.names k → HasReadWell a b (rules.number k ∷ [])
    → ReadsSized w16 n b (Ok tt) c tenant → IsNamed (rules.number k) (rules.names k) a c tenant
named {K} {rules} kinds a b c k tenant n is h r =
    name_read (rules.number k) (rules.names k) a b c tenant h (subst (λ (m : ℕ). ReadsSized w16 m b (Ok tt) c tenant) is r)

pub body_fails : {K : Type 0} {rules : Rules K} → Kinds rules
    → (a b c : Device) (k : K) (tenant : List ℕ) (e : FrameFault) (room : List ℕ) (n : ℕ) → n ≡ rules.bodies k
    → IsNamed (rules.number k) (rules.names k) a b tenant → ReadsSized w32 n b (Err e) c room → ReadsNone rules.wrong_at a e c
body_fails {K} {rules} kinds a b c k tenant e room n is h r =
    stops_in_body (rules.number k) a b c tenant e room (kinds.judges k) h (subst (λ (m : ℕ). ReadsSized w32 m b (Err e) c room) is r)

-- No frame was read, whatever a frame would be.
pub frame_fails : {X : Type 0} (wrong_at : Frame → Option ℕ) (frame : X → Frame) (a b : Device) (e : FrameFault) (r : Result (Option X) FrameFault)
    → IsErrAnd r (λ f. f ≡ e) → ReadsNone wrong_at a e b → ReadsFrame wrong_at frame a r b
frame_fails wrong_at frame a b e r is none = let q = err_from_is_err_and r is in rw (q.1, q.2) none

-- The same frame was read.
pub same_read : (wrong_at : Frame → Option ℕ) (a b : Device) (f g : Frame) → f ≡ g → ReadsWhole wrong_at a b g → ReadsWhole wrong_at a b f
same_read wrong_at a b f g is whole = subst (λ (h : Frame). ReadsWhole wrong_at a b h) (sym is) whole
