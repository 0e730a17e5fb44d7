-- The frame of a request that is a step: what is read of it is what is read of a step.
use Rattle.std.proofs.Common.{◌≡◌, ℕ, ◌+◌, ◌<◌, Bool, true, false, cond, eqb, not, true≢false, List, [], ◌∷◌, ◌++◌, length, Option, None, Some, IfSome, refl, sym, ap, subst, ◌∙◌, arith}
use Rattle.std.proofs.lemmas.Bool.{eqb-true}
use Rattle.service_steps.specs.declared.kind.Kind.{Kind}
use Rattle.service_steps.specs.declared.kind.Kind.TheVariants as kind
use Rattle.service_steps.specs.declared.request.Request.TheVariants as request
use Rattle.service_steps.specs.declared.request_kind.RequestKind.{RequestKind}
use Rattle.service_steps.specs.declared.request_kind.RequestKind.TheVariants as of
use Rattle.service_steps.specs.declared.step.Step.{Step}
use Rattle.service_steps.specs.declared.step.Step.TheVariants as step
use Rattle.service_steps.specs.Frames.{Frame, frame_text, frame_of, kind_of, wrong_part, shown_wrong, wrong_at, IsGood, IsUnfinished, IsCutOff, IsBad}
use Rattle.service_steps.specs.Requests.{request_kind_of, wrong_request_part, shown_wrong_request, wrong_request_at, IsGoodRequest, IsUnfinishedRequest, IsCutOffRequest, IsBadRequest}
use Rattle.service_steps.specs.StepFrames.{is_operator_kind, begins_no_request}
use Rattle.service_steps.proofs.FrameLemmas.{none_read}

-- ---- kinds

abbrev as_request : Option Kind → Option RequestKind
as_request None = None
as_request (Some k) = Some (of.Step k)

steps_first : (a b c d e : Bool) (rest : Option RequestKind) → rest ≡ None
    → cond a (Some (of.Step kind.Open)) (cond b (Some (of.Step kind.Feed)) (cond c (Some (of.Step kind.End)) (cond d (Some (of.Step kind.Ask))
    (cond e (Some (of.Step kind.Restart)) rest))))
    ≡ as_request (cond a (Some kind.Open) (cond b (Some kind.Feed) (cond c (Some kind.End) (cond d (Some kind.Ask) (cond e (Some kind.Restart) None)))))
steps_first true b c d e rest none = refl
steps_first false true c d e rest none = refl
steps_first false false true d e rest none = refl
steps_first false false false true e rest none = refl
steps_first false false false false true rest none = refl
steps_first false false false false false rest none = none

-- A number that is none of the operator's.
differs : (k n : ℕ) → is_operator_kind n ≡ false → is_operator_kind k ≡ true → eqb k n ≡ false
differs k n none is = by (eqb k n) refl
  where
    by : (b : Bool) → eqb k n ≡ b → eqb k n ≡ false
    by true e = absurd (true≢false (sym is ∙ ap is_operator_kind (eqb-true k n e) ∙ none))
    by false e = e

none-left : (a b c d e f g h : Bool) → a ≡ false → b ≡ false → c ≡ false → d ≡ false → e ≡ false → f ≡ false → g ≡ false → h ≡ false
    → cond a (Some of.Save) (cond b (Some of.Abandon) (cond c (Some of.Remove) (cond d (Some of.Compact) (cond e (Some of.Copy)
    (cond f (Some of.Sizes) (cond g (Some of.Missing) (cond h (Some of.Entries) None))))))) ≡ None
none-left a b c d e f g h ea eb ec ed ee ef eg eh = rw (ea, eb, ec, ed, ee, ef, eg, eh) refl

same_kind : (n : ℕ) → is_operator_kind n ≡ false → request_kind_of n ≡ as_request (kind_of n)
same_kind n none =
    steps_first (eqb 1 n) (eqb 2 n) (eqb 3 n) (eqb 4 n) (eqb 5 n) _
    (none-left (eqb 16 n) (eqb 17 n) (eqb 18 n) (eqb 19 n) (eqb 20 n) (eqb 21 n) (eqb 22 n) (eqb 23 n) (differs 16 n none refl)
    (differs 17 n none refl) (differs 18 n none refl) (differs 19 n none refl) (differs 20 n none refl) (differs 21 n none refl)
    (differs 22 n none refl) (differs 23 n none refl))

-- ---- wrong parts

same_part : (o : Option Kind) (n : ℕ) (body : List ℕ) → shown_wrong_request (as_request o) n body ≡ shown_wrong o n (length body)
unfolding wrong_part wrong_request_part
same_part None n body = refl
same_part (Some k) n body = refl

same_wrong : (f : Frame) → is_operator_kind f.kind ≡ false → wrong_request_at f ≡ wrong_at f
same_wrong f none =
    ap (λ (o : Option RequestKind). shown_wrong_request o (length f.tenant) f.body) (same_kind f.kind none)
    ∙ same_part (kind_of f.kind) (length f.tenant) f.body

pub good_step : (s : Step) → IsGoodRequest (request.Step s) → IsGood (frame_of s)
good_step s good = (good.0.0, sym (same_wrong (frame_of s) (none s)) ∙ good.0.1)
  where
    none : (s : Step) → is_operator_kind (frame_of s).kind ≡ false
    none (step.Open tenant) = refl
    none (step.Feed tenant bytes) = refl
    none (step.End tenant) = refl
    none (step.Ask tenant query) = refl
    none step.Restart = refl

-- ---- what is not whole, and what is bad

not-false : (b : Bool) → not b ≡ true → b ≡ false
not-false true e = cc e
not-false false e = refl

first_of : (f : Frame) (byte : ℕ) (bytes missing : List ℕ) → frame_text f ≡ byte ∷ bytes ++ missing → not (is_operator_kind byte) ≡ true
    → is_operator_kind f.kind ≡ false
first_of f byte bytes missing parts none =
    let same : f.kind ≡ byte = cc parts in
    ap is_operator_kind same ∙ not-false (is_operator_kind byte) none

pub unfinished_step : (bytes : List ℕ) → begins_no_request bytes ≡ true → IsUnfinishedRequest bytes → IsUnfinished bytes
unfinished_step [] none u = none_read
unfinished_step (byte ∷ bytes) none u = record {
  frame = u.frame;
  missing = u.missing;
  begins = record {
    fits = u.begins.fits;
    parts = u.begins.parts;
    not_yet = subst (λ (at : Option ℕ). IfSome at (λ shown. length (byte ∷ bytes) < shown))
        (same_wrong u.frame (first_of u.frame byte bytes u.missing u.begins.parts none)) u.begins.not_yet;
  };
  lacks = u.lacks;
}

pub cut_off_step : (bytes : List ℕ) → begins_no_request bytes ≡ true → IsCutOffRequest bytes → IsCutOff bytes
cut_off_step bytes none cut = (unfinished_step bytes none cut.0, cut.1)

-- A wrong part shows with some byte.
part-late : (a b c : Bool) (n m : ℕ) → cond a (Some 3) (cond b (Some (7 + n)) (cond c None (Some (7 + n + m)))) ≡ Some 0 → ⊥
part-late true b c n m e = let same : ◌≡◌ {A = ℕ} (3) 0 = cc e in omega (arith, same)
part-late false true c n m e = let same : ◌≡◌ {A = ℕ} (7 + n) 0 = cc e in omega (arith, same)
part-late false false true n m e = cc e
part-late false false false n m e = let same : ◌≡◌ {A = ℕ} (7 + n + m) 0 = cc e in omega (arith, same)

late : (o : Option RequestKind) (n : ℕ) (body : List ℕ) → shown_wrong_request o n body ≡ Some 0 → ⊥
unfolding wrong_request_part
late None n body e = let same : ◌≡◌ {A = ℕ} (1) 0 = cc e in omega (arith, same)
late (Some k) n body e = part-late _ _ _ n (length body) e

pub bad_step : (bytes : List ℕ) → begins_no_request bytes ≡ true → IsBadRequest bytes → IsBad bytes
bad_step [] none bad = absurd (late (request_kind_of bad.frame.kind) (length bad.frame.tenant) bad.frame.body bad.shows)
bad_step (byte ∷ bytes) none bad = record {
  frame = bad.frame;
  missing = bad.missing;
  fits = bad.fits;
  parts = bad.parts;
  shows = sym (same_wrong bad.frame (first_of bad.frame byte bytes bad.missing bad.parts none)) ∙ bad.shows;
}
