-- The bytes of good files, and the repositories that they are a text of.
use Rattle.std.proofs.Common.{◌≡◌, ℕ, ◌<◌, Bool, true, false, cond, List, [], ◌++◌, Result, Ok, Err, refl, sym, ap, subst, ◌∙◌, inl, inr}
use Rattle.std.specs.Prelude.{All, ◌⊎◌}
use Rattle.std.specs.Str.{bytes_eq}
use Rattle.std.proofs.lemmas.Slice.Eq.{bytes_eq-Decides}
use Rattle.std.proofs.lemmas.List.Elements.{recursion_from_All}
use Rattle.git_names.specs.Naming.{AnswersNames}
use Rattle.pool_file_format.specs.declared.refusal.Refusal.{Refusal}
use Rattle.pool_file_format.specs.declared.refusal.Refusal.TheVariants as refusal
use Rattle.pool_file_format.specs.Format.{RawFile, FitsFile, body_text, raw_text}
use Rattle.pool_file_format.specs.Lengths.{by_lengths, sealed_at}
use Rattle.pool_file_format.proofs.Formats.{bind_ok, IsBytes}
use Rattle.pool_file_format.proofs.Files.{lengths_take, lengths_again}
use Rattle.pool_file_checks.specs.Checks.{Passes}
use Rattle.pool_file_checks.specs.Whole.{file_checks}
use Rattle.pool_file_checks.specs.Repositories.{Named, raw_of, text_in}
use Rattle.pool_file_checks.specs.Saved.{saved_in}
use Rattle.pool_file_checks.specs.Saving.{CanSave, IsTextOf}
use Rattle.pool_file_checks.proofs.Said.{file_again}
use Rattle.pool_file_checks.proofs.Saved.{saved_passes, saved_again}
use Rattle.pool_file_checks.proofs.Savable.{can_save}

abbrev pub Whole : Type 0
Whole = (RawFile × List ℕ) × List ℕ

abbrev pub judged : (List ℕ → List ℕ) → Whole → Result (RawFile × List ℕ) Refusal
judged digest w =
    cond (bytes_eq w.0.1 (digest (body_text w.0.0))) (Ok (w.0.0, w.1)) (Err refusal.WrongDigest)

-- The file that was read, and some file where none was.
file_in : Result (RawFile × List ℕ) Refusal → RawFile → RawFile
file_in (Ok x) other = x.0
file_in (Err e) other = other

bytes_of : (bytes : List ℕ) → All (λ b. b < 256) bytes → IsBytes bytes
bytes_of bytes small = recursion_from_All (λ b. b < 256) bytes small

-- ---- what is read is a text

record IsSealed (digest : List ℕ → List ℕ) (bytes : List ℕ) (f : RawFile) : Type 0 where
  text : bytes ≡ raw_text digest f
  fits : FitsFile f

of_whole : (digest : List ℕ → List ℕ) (bytes : List ℕ) (f : RawFile) (w : Whole)
    → IsBytes bytes → by_lengths bytes ≡ Ok w → judged digest w ≡ Ok (f, [])
    → IsSealed digest bytes f
unfolding file_in
of_whole digest bytes f w small read e =
    by (bytes_eq w.0.1 (digest (body_text w.0.0))) refl e
  where
    by : (b : Bool) → bytes_eq w.0.1 (digest (body_text w.0.0)) ≡ b
        → ◌≡◌ {A = Result (RawFile × List ℕ) Refusal} (cond b (Ok (w.0.0, w.1)) (Err refusal.WrongDigest)) (Ok (f, []))
        → IsSealed digest bytes f
    by true t k =
        let all = lengths_take bytes w small read in
        let same : w.0.0 ≡ f = ap (λ r. file_in r f) k in
        let end : w.0.1 ≡ digest (body_text w.0.0) =
        (bytes_eq-Decides w.0.1 (digest (body_text w.0.0))).0 t in
        record {
          text = all.parts ∙ ap (λ (l : List ℕ). body_text w.0.0 ++ l) end
              ∙ ap (λ (g : RawFile). raw_text digest g) same;
          fits = subst FitsFile same all.fits;
        }
    by false t k = cc

is_sealed : (digest : List ℕ → List ℕ) (bytes : List ℕ) (f : RawFile)
    → IsBytes bytes → sealed_at digest bytes ≡ Ok (f, []) → IsSealed digest bytes f
unfolding sealed_at
is_sealed digest bytes f small e =
    let w = bind_ok (by_lengths bytes) (judged digest) (f, []) e in
    of_whole digest bytes f w.0 small w.1 w.2

in_version : (digest : List ℕ → List ℕ) (all : List Named) (bytes : List ℕ) (version : ℕ)
    → (version ≡ 1) ⊎ (version ≡ 2) → CanSave version digest all
    → bytes ≡ text_in version digest all → IsTextOf digest all bytes
in_version digest all bytes version (inl e) can text =
    inr (subst (λ (v : ℕ). CanSave v digest all) e can, text ∙ ap (λ (v : ℕ). text_in v digest all) e)
in_version digest all bytes version (inr e) can text =
    inl (subst (λ (v : ℕ). CanSave v digest all) e can, text ∙ ap (λ (v : ℕ). text_in v digest all) e)

pub text_read_in : (digest : List ℕ → List ℕ) (bytes : List ℕ) (f : RawFile)
    → AnswersNames digest → IsBytes bytes → sealed_at digest bytes ≡ Ok (f, [])
    → Passes (file_checks digest f) → IsTextOf digest (saved_in digest f) bytes
text_read_in digest bytes f names small e p =
    let s = is_sealed digest bytes f small e in
    in_version digest (saved_in digest f) bytes f.version s.fits.version
    (can_save digest f names s.fits p)
    (s.text ∙ sym (ap (λ (g : RawFile). raw_text digest g) (file_again digest f p)))

pub text_found : (digest : List ℕ → List ℕ) (bytes : List ℕ) (f : RawFile) → AnswersNames digest
    → All (λ b. b < 256) bytes → sealed_at digest bytes ≡ Ok (f, [])
    → Passes (file_checks digest f) → IsTextOf digest (saved_in digest f) bytes
text_found digest bytes f names small e p =
    text_read_in digest bytes f names (bytes_of bytes small) e p

-- ---- a text is read

abbrev pub IsReadAs : (List ℕ → List ℕ) → List ℕ → List Named → Type 0
IsReadAs digest bytes all = (f : RawFile) × (sealed_at digest bytes ≡ Ok (f, []))
    × Passes (file_checks digest f) × (saved_in digest f ≡ all)

sealed_again : (digest : List ℕ → List ℕ) (f : RawFile) → AnswersNames digest → FitsFile f
    → sealed_at digest (raw_text digest f) ≡ Ok (f, [])
unfolding sealed_at
sealed_again digest f names fits =
    let end : List ℕ = digest (body_text f) in
    let read = lengths_again f end fits (names (body_text f)).size in
    let same : bytes_eq end end ≡ true = (bytes_eq-Decides end end).1 refl in
    rw (read, same) refl

text_in_version : (version : ℕ) (digest : List ℕ → List ℕ) (all : List Named) (bytes : List ℕ)
    → AnswersNames digest → CanSave version digest all → bytes ≡ text_in version digest all
    → IsReadAs digest bytes all
text_in_version version digest all bytes names can text = (
  raw_of version all,
  ap (sealed_at digest) text ∙ sealed_again digest (raw_of version all) names can.fits,
  saved_passes version digest all can,
  saved_again version digest all can,
)

pub text_read : (digest : List ℕ → List ℕ) (all : List Named) (bytes : List ℕ)
    → AnswersNames digest → IsTextOf digest all bytes → IsReadAs digest bytes all
text_read digest all bytes names (inl second) =
    text_in_version 2 digest all bytes names second.0 second.1
text_read digest all bytes names (inr first) =
    text_in_version 1 digest all bytes names first.0 first.1

pub one_list : (digest : List ℕ → List ℕ) (all others : List Named) (bytes : List ℕ)
    → AnswersNames digest → IsTextOf digest all bytes → IsTextOf digest others bytes → all ≡ others
unfolding file_in
one_list digest all others bytes names p q =
    let a = text_read digest all bytes names p in
    let b = text_read digest others bytes names q in
    let same : a.0 ≡ b.0 = ap (λ r. file_in r a.0) (sym a.1 ∙ b.1) in
    sym a.3 ∙ ap (saved_in digest) same ∙ b.3
