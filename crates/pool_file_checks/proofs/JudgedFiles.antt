-- What was read is judged.
use Rattle.std.proofs.Common.{◌≡◌, ℕ, Bool, true, false, cond, List, [], ◌∷◌, ◌++◌, Option, None, Some, Result, Ok, Err, sym, ap, subst, ◌∙◌, append-nil, inl, inr}
use Rattle.std.specs.Io.KnownBytes.{Consumes}
use Rattle.std.specs.Option.{unwrap_or}
use Rattle.std.specs.Str.{bytes_eq}
use Rattle.git_names.specs.Naming.{AnswersNames}
use Rattle.byte_devices.specs.Device.{Device}
use Rattle.byte_devices.specs.Reading.{AreBytes}
use Rattle.pool_file_format.specs.declared.refusal.Refusal.{Refusal}
use Rattle.pool_file_format.specs.declared.refusal.Refusal.TheVariants as refusal
use Rattle.pool_file_format.specs.declared.fault.Fault.{Fault}
use Rattle.pool_file_format.specs.declared.fault.Fault.TheVariants as fault
use Rattle.pool_file_format.specs.Format.{RawFile, body_text}
use Rattle.pool_file_format.specs.Lengths.{body_at, bytes_at, end_at, by_lengths, sealed_at, ◌>>=◌}
use Rattle.pool_file_format.specs.Shown.{file_of, objects_of}
use Rattle.pool_file_format.specs.Taking.{Gave, ReadsAll}
use Rattle.pool_file_format.proofs.Formats.{IsBytes, bind_ok, bytes-each, ok_is}
use Rattle.pool_file_checks.specs.Checks.{Passes, Refuses, Checked}
use Rattle.pool_file_checks.specs.Whole.{file_checks}
use Rattle.pool_file_checks.proofs.CheckLemmas.{passes_or_refuses}
use Rattle.pool_file_checks.specs.Own.{names_of}
use Rattle.pool_file_checks.specs.Quick.{KnowsSums}
use Rattle.pool_file_checks.specs.declared.judged.Judged.{Judged}
use Rattle.pool_file_checks.specs.Judging.{IsRefused, Judges, Finds, Says, ReadsTexts, IsBlamed, ReadsAndJudges}
use Rattle.pool_file_checks.proofs.Texts.{Whole, judged, text_read_in, text_read}

-- ---- nothing is left after a file

end_left : (bytes : List ℕ) (x : Unit {0} × List ℕ) → end_at bytes ≡ Ok x → x.1 ≡ []
unfolding end_at
end_left [] x e = ap (λ (y : Unit {0} × List ℕ). y.1) (sym (ok_is (tt, []) x e))
end_left (b ∷ bytes) x e = absurd cc

whole_left : (bytes : List ℕ) (w : Whole) → by_lengths bytes ≡ Ok w → w.1 ≡ []
unfolding by_lengths
whole_left bytes w e =
    let a = bind_ok (body_at bytes) (λ body. bytes_at 20 body.1 >>= λ digest. end_at digest.1 >>= λ end. Ok ((body.0, digest.0), end.1)) w e in
    let b = bind_ok (bytes_at 20 a.0.1) (λ digest. end_at digest.1 >>= λ end. Ok ((a.0.0, digest.0), end.1)) w a.2 in
    let d = bind_ok (end_at b.0.1) (λ end. Ok ((a.0.0, b.0.0), end.1)) w b.2 in
    let made : Whole = ((a.0.0, b.0.0), d.0.1) in
    subst (λ (y : Whole). y.1 ≡ []) (ok_is made w d.2) (end_left b.0.1 d.0 d.1)

left : (digest : List ℕ → List ℕ) (w : Whole) (x : RawFile × List ℕ) → judged digest w ≡ Ok x
    → w.1 ≡ x.1
left digest w x e = by (bytes_eq w.0.1 (digest (body_text w.0.0))) e
  where
    by : (b : Bool)
        → ◌≡◌ {A = Result (RawFile × List ℕ) Refusal} (cond b (Ok (w.0.0, w.1)) (Err refusal.WrongDigest)) (Ok x)
        → w.1 ≡ x.1
    by true k = ap (λ (y : RawFile × List ℕ). y.1) (ok_is (w.0.0, w.1) x k)
    by false k = absurd cc

sealed_left : (digest : List ℕ → List ℕ) (bytes : List ℕ) (f : RawFile) (rest : List ℕ)
    → sealed_at digest bytes ≡ Ok (f, rest) → rest ≡ []
unfolding sealed_at
sealed_left digest bytes f rest e =
    let w = bind_ok (by_lengths bytes) (judged digest) (f, rest) e in
    sym (left digest w.0 (f, rest) w.2) ∙ whole_left bytes w.0 w.1

whole_read : (digest : List ℕ → List ℕ) (bytes : List ℕ) (f : RawFile) (rest : List ℕ)
    → sealed_at digest bytes ≡ Ok (f, rest) → sealed_at digest bytes ≡ Ok (f, [])
whole_read digest bytes f rest e =
    e ∙ ap (λ (l : List ℕ). Ok (f, l)) (sealed_left digest bytes f rest e)

-- ---- the answer

not_read : (digest : List ℕ → List ℕ) (old new : Option (List ℕ)) (e : Fault)
    → Gave {A = RawFile} (sealed_at digest) old (Err e) new → Judges digest old (Err e) new
not_read digest None new e g = tt
not_read digest (Some bytes) new (fault.Refused r) g = inl g
not_read digest (Some bytes) new fault.Device g = tt
not_read digest (Some bytes) new fault.Memory g = tt

not_passed : (digest : List ℕ → List ℕ) (old new : Option (List ℕ)) (f : RawFile) (e : Fault)
    → Gave (sealed_at digest) old (Ok f) new → Checked (file_checks digest f) (Err e)
    → Judges digest old (Err e) new
not_passed digest None new f e g k = tt
not_passed digest (Some bytes) None f e g k = absurd g
not_passed digest (Some bytes) (Some rest) f (fault.Refused r) g k =
    inr (f, whole_read digest bytes f rest g, k)
not_passed digest (Some bytes) (Some rest) f fault.Memory g k = tt
not_passed digest (Some bytes) (Some rest) f fault.Device g k = tt

passed : (digest : List ℕ → List ℕ) (old new : Option (List ℕ)) (f : RawFile)
    → Gave (sealed_at digest) old (Ok f) new → Passes (file_checks digest f)
    → Judges digest old (Ok f) new
passed digest None new f g p = p
passed digest (Some bytes) None f g p = absurd g
passed digest (Some bytes) (Some rest) f g p = (
  record { read = whole_read digest bytes f rest g; passes = p },
  ap (λ (l : List ℕ). Some l) (sealed_left digest bytes f rest g),
)

-- ---- what it says

finds_in : (digest : List ℕ → List ℕ) (old new : Option (List ℕ)) (read : List ℕ) (f : RawFile)
    → AnswersNames digest → Consumes old new read → AreBytes read → Judges digest old (Ok f) new
    → Finds digest old (Ok f)
finds_in digest None new read f names c small j = tt
finds_in digest (Some bytes) None read f names c small j = absurd c
finds_in digest (Some bytes) (Some rest) read f names c small j =
    let none : rest ≡ [] = ap (λ (o : Option (List ℕ)). unwrap_or o []) j.1 in
    let all : bytes ≡ read = c ∙ ap (λ (l : List ℕ). read ++ l) none ∙ append-nil read in
    text_read_in digest bytes f names
    (subst (λ (l : List ℕ). IsBytes l) (sym all) (bytes-each read small)) j.0.read j.0.passes

-- All bytes came through the reader, which gives bytes.
finds : (digest : List ℕ → List ℕ) (bound : ℕ) (old new : Device) (f : RawFile)
    → AnswersNames digest → ReadsAll bound (sealed_at digest) old (Ok f) new
    → Judges digest old.known (Ok f) new.known → Finds digest old.known (Ok f)
finds digest bound old new f names g j =
    let asked = g.blames.asked.asked in
    finds_in digest old.known new.known asked.bytes f names asked.read.consumed g.blames.small j

same_file : (f g : RawFile) → ◌≡◌ {A = Result (RawFile × List ℕ) Refusal} (Ok (f, [])) (Ok (g, []))
    → f ≡ g
same_file f g e = ap (λ (x : RawFile × List ℕ). x.0) (ok_is (f, []) (g, []) e)

not_refused : (digest : List ℕ → List ℕ) (bytes : List ℕ) (f : RawFile) (r : Refusal)
    → sealed_at digest bytes ≡ Ok (f, []) → Passes (file_checks digest f)
    → IsRefused digest bytes r → ⊥
not_refused digest bytes f r e p (inl none) = cc
not_refused digest bytes f r e p (inr other) =
    passes_or_refuses (file_checks digest f) r p
    (subst (λ (g : RawFile). Refuses (file_checks digest g) r) (same_file other.0 f (sym other.1 ∙ e)) other.2)

reads_texts : (digest : List ℕ → List ℕ) (old new : Option (List ℕ)) (r : Result RawFile Fault)
    → AnswersNames digest → Judges digest old r new → ReadsTexts digest old r
reads_texts digest None new r names j = tt
reads_texts digest (Some bytes) new (Ok f) names j = λ all text.
    let t = text_read digest all bytes names text in
    subst (λ (g : RawFile). Says digest all (Ok g)) (same_file t.0 f (sym t.1 ∙ j.0.read)) t.3
reads_texts digest (Some bytes) new (Err (fault.Refused r)) names j = λ all text.
    let t = text_read digest all bytes names text in not_refused digest bytes t.0 r t.1 t.2 j
reads_texts digest (Some bytes) new (Err fault.Device) names j = λ all text. tt
reads_texts digest (Some bytes) new (Err fault.Memory) names j = λ all text. tt

-- ---- the device

blamed : (digest : List ℕ → List ℕ) (bound : ℕ) (old new : Device) (r : Result RawFile Fault)
    → ReadsAll bound (sealed_at digest) old r new → IsBlamed bound old r new
blamed digest bound old new r g = record { blames = g.blames; few = g.few }

checks_blame_none : (digest : List ℕ → List ℕ) (bound : ℕ) (old new : Device) (f : RawFile) (e : Fault)
    → ReadsAll bound (sealed_at digest) old (Ok f) new → Checked (file_checks digest f) (Err e)
    → IsBlamed {A = RawFile} bound old (Err e) new
checks_blame_none digest bound old new f (fault.Refused r) g k = record { blames = g.blames.asked; few = g.few }
checks_blame_none digest bound old new f fault.Memory g k = record { blames = g.blames.asked; few = g.few }
checks_blame_none digest bound old new f fault.Device g k = absurd k

-- ---- all of it

finds_none : (digest : List ℕ → List ℕ) (e : Fault) (old : Option (List ℕ)) → Finds digest old (Err e)
finds_none digest e None = tt
finds_none digest e (Some bytes) = tt

-- No file was read.
pub none_read : (digest : List ℕ → List ℕ) (bound : ℕ) (old new : Device) (e : Fault)
    → AnswersNames digest → ReadsAll {A = RawFile} bound (sealed_at digest) old (Err e) new
    → ReadsAndJudges digest bound old (Err e) new
none_read digest bound old new e names g =
    let j = not_read digest old.known new.known e g.gave in
    record {
      exact = j;
      found = finds_none digest e old.known;
      only = reads_texts digest old.known new.known (Err e) names j;
      cause = blamed digest bound old new (Err e) g;
      names = tt;
      known = tt;
    }

-- A file was read and did not pass.
pub none_passed : (digest : List ℕ → List ℕ) (bound : ℕ) (old new : Device) (f : RawFile) (e : Fault)
    → AnswersNames digest → ReadsAll bound (sealed_at digest) old (Ok f) new
    → Checked (file_checks digest f) (Err e) → ReadsAndJudges digest bound old (Err e) new
none_passed digest bound old new f e names g k =
    let j = not_passed digest old.known new.known f e g.gave k in
    record {
      exact = j;
      found = finds_none digest e old.known;
      only = reads_texts digest old.known new.known (Err e) names j;
      cause = checks_blame_none digest bound old new f e g k;
      names = tt;
      known = tt;
    }

-- A file was read and passed.
pub file_passed : (digest : List ℕ → List ℕ) (bound : ℕ) (old new : Device) (judged : Judged)
    → AnswersNames digest → ReadsAll bound (sealed_at digest) old (Ok (file_of judged.file)) new
    → Passes (file_checks digest (file_of judged.file))
    → judged.names.items ≡ names_of digest (objects_of judged.file.objects.items)
    → KnowsSums digest (objects_of judged.file.objects.items) judged.known
    → ReadsAndJudges digest bound old (Ok judged) new
file_passed digest bound old new judged names g passes named known =
    let j = passed digest old.known new.known (file_of judged.file) g.gave passes in
    record {
      exact = j;
      found = finds digest bound old new (file_of judged.file) names g j;
      only = reads_texts digest old.known new.known (Ok (file_of judged.file)) names j;
      cause = blamed digest bound old new (Ok (file_of judged.file)) g;
      names = named;
      known = known;
    }
