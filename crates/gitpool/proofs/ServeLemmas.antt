-- What a serving has done so far.
use Rattle.std.proofs.Common.{◌≡◌, ℕ, ◌+◌, ◌^◌, ◌<◌, ◌≤◌, inl, inr, List, [], ◌∷◌, ◌++◌, length, Option, None, Some, Ok, Err, refl, sym, ap, subst, ◌∙◌, append-nil, arith}
use Rattle.std.specs.List.{AllByRecursion, flat_map}
use Rattle.std.specs.Io.KnownBytes.{Appends}
use Rattle.std.proofs.lemmas.Grind.{flat_map-append}
use Rattle.std.proofs.lemmas.List.{length-append}
use Rattle.git_objects.specs.Device.{Device, HasRead, HasFault, IsWell, AppendsFront}
use Rattle.git_objects.proofs.KnownBytes.{Appends-nil, Appends-trans, HasRead-trans}
use Rattle.service_steps.specs.declared.answer.Answer.{Answer}
use Rattle.service_steps.specs.declared.frame_fault.FrameFault.{FrameFault}
use Rattle.service_steps.specs.declared.frame_fault.FrameFault.TheVariants as fault
use Rattle.service_steps.specs.declared.step.Step.{Step}
use Rattle.service_steps.specs.Frames.{frame_of, step_text, answer_text, IsGood}
use Rattle.service_steps.specs.Reading.{HasReadWell, ReadsStep}
use Rattle.service_steps.proofs.ReadLemmas.{well_none, well_more}
use Rattle.service_steps.proofs.FrameLemmas.{none_read}
use Rattle.service_steps.proofs.WriteLemmas.{front_of_later}
use Rattle.tenant_service.specs.Headline.{Response, response_in, Run, IsIsolated, IsRefused}
use Rattle.tenant_service.specs.TenantState.{TenantStates, held_of}
use Rattle.gitpool.specs.Devices.{AppendsAsFar}
use Rattle.gitpool.specs.Serving.{steps_text, answers_text, Served, AreAnswered, Serves}
use Rattle.tenant_service.proofs.AccountLemmas.{all_whole}
use Rattle.tenant_service.proofs.RunLemmas.{own-more, own-none}

-- So many frames were read and answered, and nothing else was read.
pub record SoFar (digest : List ℕ → List ℕ) (before after : TenantStates) (r0 r w0 w : Device) (count : ℕ) : Type 0 where
  pub run : Run
  pub own : (tenant : List ℕ) → IsIsolated digest tenant (held_of tenant before) run (held_of tenant after)
  pub bad_names : AllByRecursion IsRefused run
  pub good : AllByRecursion (λ taken. IsGood (frame_of taken.0)) run
  pub read : HasReadWell r0 r (steps_text run)
  pub written : Appends w0.known w.known (answers_text run)
  pub well : IsWell w0 w
  pub as_many : length run ≡ count

pub so_far_new : (digest : List ℕ → List ℕ) (held : TenantStates) (r w : Device) → r.passed < 2 ^ 64 → SoFar digest held held r r w w 0
so_far_new digest held r w fits = record {
  run = [];
  own = λ tenant. own-none digest tenant (held_of tenant held);
  bad_names = tt;
  good = tt;
  read = well_none r fits;
  written = Appends-nil w.known;
  well = refl;
  as_many = refl;
}

pub within : (run : Run) (count : ℕ) → length run ≡ count → count < 2 ^ 32 → length run ≤ 2 ^ 32
within run count as_many few = omega (arith, as_many, few)

-- What was read after the frames.
abbrev pub served_after : (digest : List ℕ → List ℕ) (before after : TenantStates) (r0 r w0 w : Device) (count : ℕ)
    → SoFar digest before after r0 r w0 w count → count < 2 ^ 32 → (r' : Device) (rest : List ℕ) → HasRead r r' rest
    → Served digest before after r0 r'
served_after digest before after r0 r w0 w count s few r' rest read = record {
  run = s.run;
  rest = rest;
  own = s.own;
  bad_names = s.bad_names;
  good = s.good;
  read = HasRead-trans r0 r r' (steps_text s.run) rest s.read.read read;
  bounded = within s.run count s.as_many few;
}

whole_front : (a b : Option (List ℕ)) (bytes : List ℕ) → Appends a b bytes → AppendsFront a b bytes
whole_front a b bytes appends = record { front = bytes; rest = []; parts = sym (append-nil bytes); appends = appends }

-- All answers stand written where the reader stayed well.
answered : (digest : List ℕ → List ℕ) (before after : TenantStates) (r0 r w0 w : Device) (count : ℕ) (r' : Device)
    (s : SoFar digest before after r0 r w0 w count) → IsWell r r' → AreAnswered r0 r' w0 w s.run
answered digest before after r0 r w0 w count r' s well = (s.written, (well ∙ s.read.well, s.well))

all_so_far : (digest : List ℕ → List ℕ) (before after : TenantStates) (r0 r w0 w : Device)
    (count : ℕ) (s : SoFar digest before after r0 r w0 w count) → AppendsAsFar w0 w (answers_text s.run)
all_so_far digest before after r0 r w0 w count s = record {
  front = whole_front w0.known w.known (answers_text s.run) s.written;
  whole = inr s.written;
}

-- No further step was read.
pub ends_at : (digest : List ℕ → List ℕ) (before after : TenantStates) (r0 r w0 w : Device) (count : ℕ) (r' : Device)
    → SoFar digest before after r0 r w0 w count → count < 2 ^ 32 → ReadsStep r (Ok None) r' → Serves digest before after r0 r' w0 w (Ok tt)
ends_at digest before after r0 r w0 w count r' s few read = record {
  served = served_after digest before after r0 r w0 w count s few r' [] read.read.read;
  stopped = (refl, read.end);
  written = answered digest before after r0 r w0 w count r' s read.read.well;
}

pub fails_at : (digest : List ℕ → List ℕ) (before after : TenantStates) (r0 r w0 w : Device) (count : ℕ) (r' : Device) (e : FrameFault)
    → SoFar digest before after r0 r w0 w count → count < 2 ^ 32 → ReadsStep r (Err e) r' → Serves digest before after r0 r' w0 w (Err e)
fails_at digest before after r0 r w0 w count r' fault.BadFrame s few read = record {
  served = served_after digest before after r0 r w0 w count s few r' read.0 read.2.read;
  stopped = read.1;
  written = answered digest before after r0 r w0 w count r' s read.2.well;
}
fails_at digest before after r0 r w0 w count r' fault.CutOff s few read = record {
  served = served_after digest before after r0 r w0 w count s few r' read.0 read.2.read.read;
  stopped = (read.1, read.2.end);
  written = answered digest before after r0 r w0 w count r' s read.2.read.well;
}
fails_at digest before after r0 r w0 w count r' fault.Device s few read = record {
  served = served_after digest before after r0 r w0 w count s few r' read.0 read.2.read;
  stopped = read.1;
  written = (
    all_so_far digest before after r0 r w0 w count s,
    inl (subst (λ (n : ℕ). HasFault n r'.faults) s.read.well read.2.fault, s.well),
  );
}
fails_at digest before after r0 r w0 w count r' fault.Memory s few read = record {
  served = served_after digest before after r0 r w0 w count s few r' read.0 read.2.read;
  stopped = read.1;
  written = answered digest before after r0 r w0 w count r' s read.2.well;
}

-- One text more.
more_text : (text : Step × Response → List ℕ) (run : Run) (one : Step × Response) → flat_map text (run ++ one ∷ []) ≡ flat_map text run ++ text one
more_text text run one = flat_map-append text run (one ∷ []) ∙ ap (λ (l : List ℕ). flat_map text run ++ l) (append-nil (text one))

-- A step was read and taken: the run so far with it.
pub record Taken (digest : List ℕ → List ℕ) (before after : TenantStates) (r0 r : Device) (run : Run) (told : Response) : Type 0 where
  pub step : Step
  pub own : (tenant : List ℕ) → IsIsolated digest tenant (held_of tenant before) (run ++ (step, told) ∷ []) (held_of tenant after)
  pub bad_names : AllByRecursion IsRefused (run ++ (step, told) ∷ [])
  pub good : AllByRecursion (λ taken. IsGood (frame_of taken.0)) (run ++ (step, told) ∷ [])
  pub read : HasReadWell r0 r (steps_text (run ++ (step, told) ∷ []))

taken : (digest : List ℕ → List ℕ) (before between after : TenantStates) (r0 r w0 w : Device) (count : ℕ) (r' : Device) (step : Step)
    (told : Response) (s : SoFar digest before between r0 r w0 w count) → ReadsStep r (Ok (Some step)) r'
    → ((tenant : List ℕ) → IsIsolated digest tenant (held_of tenant between) ((step, told) ∷ []) (held_of tenant after))
    → IsRefused (step, told) → Taken digest before after r0 r' s.run told
taken digest before between after r0 r w0 w count r' step told s read own bad = record {
  step = step;
  own = λ tenant. own-more digest tenant (held_of tenant before) (held_of tenant between) (held_of tenant after) s.run ((step, told) ∷ [])
      (s.own tenant) (own tenant);
  bad_names = all_whole IsRefused s.run ((step, told) ∷ []) s.bad_names (bad, tt);
  good = all_whole (λ (t : Step × Response). IsGood (frame_of t.0)) s.run ((step, told) ∷ []) s.good (read.0, tt);
  read = subst (λ (l : List ℕ). HasReadWell r0 r' l) (sym (more_text (λ (t : Step × Response). step_text t.0) s.run (step, told)))
      (well_more r0 r r' (steps_text s.run) (step_text step) s.read read.1);
}

-- The reply of a call that began with no bytes.
abbrev pub told_whole : Answer → List ℕ → Response
told_whole answer out = record { answer = answer; reply = out }

pub taken_by : (digest : List ℕ → List ℕ) (before between after : TenantStates) (r0 r w0 w : Device) (count : ℕ) (r' : Device) (step : Step)
    (answer : Answer) (out out' : List ℕ) (s : SoFar digest before between r0 r w0 w count) → ReadsStep r (Ok (Some step)) r' → out ≡ []
    → ((tenant : List ℕ) → IsIsolated digest tenant (held_of tenant between) ((step, response_in answer out out') ∷ []) (held_of tenant after))
    → IsRefused (step, response_in answer out out') → Taken digest before after r0 r' s.run (told_whole answer out')
taken_by digest before between after r0 r w0 w count r' step answer out out' s read none own bad =
    let says : response_in answer out out' ≡ told_whole answer out' = ap (λ (l : List ℕ). response_in answer l out') none in
    taken digest before between after r0 r w0 w count r' step (told_whole answer out') s read
    (λ tenant. subst (λ (told : Response). IsIsolated digest tenant (held_of tenant between) ((step, told) ∷ []) (held_of tenant after)) says (own tenant))
    (subst (λ (told : Response). IsRefused (step, told)) says bad)

-- Its answer was written.
pub so_far_more : (digest : List ℕ → List ℕ) (before between after : TenantStates) (r0 r w0 w : Device) (count : ℕ) (r' w' : Device)
    (told : Response) (s : SoFar digest before between r0 r w0 w count) → Taken digest before after r0 r' s.run told
    → Appends w.known w'.known (answer_text told.answer told.reply) → IsWell w w'
    → SoFar digest before after r0 r' w0 w' (count + 1)
so_far_more digest before between after r0 r w0 w count r' w' told s t written well = record {
  run = s.run ++ (t.step, told) ∷ [];
  own = t.own;
  bad_names = t.bad_names;
  good = t.good;
  read = t.read;
  written = subst (λ (l : List ℕ). Appends w0.known w'.known l)
      (sym (more_text (λ (x : Step × Response). answer_text x.1.answer x.1.reply) s.run (t.step, told)))
      (Appends-trans w0.known w.known w'.known (answers_text s.run) (answer_text told.answer told.reply) s.written written);
  well = well ∙ s.well;
  as_many = let l = length-append s.run ((t.step, told) ∷ []) in let n = s.as_many in omega (arith, l, n);
}

-- It was not.
pub write_fails : (digest : List ℕ → List ℕ) (before between after : TenantStates) (r0 r w0 w : Device) (count : ℕ) (r' w' : Device)
    (told : Response) (s : SoFar digest before between r0 r w0 w count) → count < 2 ^ 32 → Taken digest before after r0 r' s.run told
    → AppendsFront w.known w'.known (answer_text told.answer told.reply) → HasFault w.faults w'.faults
    → Serves digest before after r0 r' w0 w' (Err fault.Device)
write_fails digest before between after r0 r w0 w count r' w' told s few t front failed =
    let blame : HasFault w0.faults w'.faults = subst (λ (n : ℕ). HasFault n w'.faults) s.well failed in
    record {
      served = record {
        run = s.run ++ (t.step, told) ∷ [];
        rest = [];
        own = t.own;
        bad_names = t.bad_names;
        good = t.good;
        read = subst (λ (l : List ℕ). HasRead r0 r' l) (sym (append-nil (steps_text (s.run ++ (t.step, told) ∷ [])))) t.read.read;
        bounded = let l = length-append s.run ((t.step, told) ∷ []) in let n = s.as_many in omega (arith, l, n, few);
      };
      stopped = none_read;
      written = (
        record {
          front = subst (λ (l : List ℕ). AppendsFront w0.known w'.known l)
              (sym (more_text (λ (x : Step × Response). answer_text x.1.answer x.1.reply) s.run (t.step, told)))
              (front_of_later w0.known w.known w'.known (answers_text s.run)
              (answer_text told.answer told.reply) s.written front);
          whole = inl blame;
        },
        inr (inl (t.read.well, blame)),
      );
    }

-- As many frames were taken as one serving takes.
pub limit_reached : (digest : List ℕ → List ℕ) (before after : TenantStates) (r0 r w0 w : Device) (count : ℕ)
    → SoFar digest before after r0 r w0 w count → count ≡ 2 ^ 32 → Serves digest before after r0 r w0 w (Err fault.Device)
limit_reached digest before after r0 r w0 w count s all = record {
  served = record {
    run = s.run;
    rest = [];
    own = s.own;
    bad_names = s.bad_names;
    good = s.good;
    read = subst (λ (l : List ℕ). HasRead r0 r l) (sym (append-nil (steps_text s.run))) s.read.read;
    bounded = let n = s.as_many in omega (arith, n, all);
  };
  stopped = none_read;
  written = (
    all_so_far digest before after r0 r w0 w count s,
    inr (inr ((s.read.well, s.well), s.as_many ∙ all)),
  );
}
