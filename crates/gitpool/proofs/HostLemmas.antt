-- What a hosting has done so far.
use Rattle.std.proofs.Common.{◌≡◌, ℕ, ◌+◌, ◌^◌, ◌<◌, ◌≤◌, Bool, true, false, not, inl, inr, List, [], ◌∷◌, ◌++◌, length, Option, None, Some, Ok, Err, refl, sym, ap, subst, ◌∙◌, append-nil, arith}
use Rattle.std.specs.List.{AllByRecursion, flat_map}
use Rattle.std.specs.Str.{bytes_eq}
use Rattle.std.specs.Io.KnownBytes.{Appends}
use Rattle.std.proofs.lemmas.Grind.{flat_map-append}
use Rattle.std.proofs.lemmas.List.{length-append}
use Rattle.git_objects.specs.Device.{Device, HasRead, HasFault, IsWell, AppendsFront}
use Rattle.git_objects.proofs.KnownBytes.{Appends-nil, Appends-trans, HasRead-trans}
use Rattle.service_steps.specs.declared.frame_fault.FrameFault.{FrameFault}
use Rattle.service_steps.specs.declared.frame_fault.FrameFault.TheVariants as fault
use Rattle.service_steps.specs.declared.request.Request.{Request}
use Rattle.service_steps.specs.declared.request.Request.TheVariants as request
use Rattle.service_steps.specs.Frames.{answer_text}
use Rattle.service_steps.specs.Reading.{HasReadWell}
use Rattle.service_steps.specs.Requests.{request_text, IsGoodRequest}
use Rattle.service_steps.specs.RequestReading.{ReadsRequest}
use Rattle.service_steps.proofs.ReadLemmas.{well_none, well_more}
use Rattle.service_steps.proofs.RequestLemmas.{no_request_read}
use Rattle.service_steps.proofs.WriteLemmas.{front_of_later}
use Rattle.tenant_service.specs.Headline.{Response, Run, IsIsolated}
use Rattle.tenant_service.specs.TenantState.{TenantStates, held_of}
use Rattle.tenant_service.proofs.AccountLemmas.{all_whole}
use Rattle.tenant_service.proofs.RunLemmas.{own-more, own-none}
use Rattle.gitpool.specs.Devices.{AppendsAsFar}
use Rattle.gitpool.specs.Requests.{Hosted, Takes, SparesOthers}
use Rattle.gitpool.specs.Hosting.{HostRun, Leads, with_step, steps_in, spares, IsSpared, requests_text, told_text, TakesAll, AreTold, Hosts}

-- ---- runs

-- One request more.
leads-more : (digest : List ℕ → List ℕ) (a b c : Hosted) (run : HostRun) (r : Request) (told : Response) → Leads digest a run b
    → Takes digest r b told c → Leads digest a (run ++ (r, told) ∷ []) c
leads-more digest a b c [] r told same takes = (c, subst (λ (x : Hosted). Takes digest r x told c) same takes, refl)
leads-more digest a b c (t ∷ later) r told leads takes = (leads.0, leads.1, leads-more digest leads.0 b c later r told leads.2 takes)

-- What holds of all holds of those before the last, and of the last.
spared-front : (tenant : List ℕ) (run : HostRun) (one : Request × Response) → IsSpared tenant (run ++ one ∷ []) → IsSpared tenant run
spared-front tenant [] one all = tt
spared-front tenant (t ∷ later) one all = (all.0, spared-front tenant later one all.1)

spared-last : (tenant : List ℕ) (run : HostRun) (one : Request × Response) → IsSpared tenant (run ++ one ∷ []) → spares tenant one.0 ≡ true
spared-last tenant [] one all = all.0
spared-last tenant (t ∷ later) one all = spared-last tenant later one all.1

pub with_step-more : (r : Request) (told : Response) (a b : Run) → with_step r told (a ++ b) ≡ with_step r told a ++ b
with_step-more (request.Step s) told a b = refl
with_step-more (request.Save which) told a b = refl
with_step-more (request.Abandon tenant) told a b = refl
with_step-more (request.Remove tenant) told a b = refl
with_step-more (request.Compact tenant) told a b = refl
with_step-more (request.Copy from to) told a b = refl
with_step-more request.Sizes told a b = refl
with_step-more (request.Missing tenant wants haves) told a b = refl
with_step-more (request.Entries tenant limit names) told a b = refl

steps-more : (run : HostRun) (one : Request × Response) → steps_in (run ++ one ∷ []) ≡ steps_in run ++ with_step one.0 one.1 []
steps-more [] one = refl
steps-more (t ∷ later) one =
    ap (λ (l : Run). with_step t.0 t.1 l) (steps-more later one) ∙ with_step-more t.0 t.1 (steps_in later) (with_step one.0 one.1 [])

-- ---- what a request leaves of a tenant that it does not change

not-true : (b : Bool) → not b ≡ true → b ≡ false
not-true true e = cc e
not-true false e = refl

pub same-none : (digest : List ℕ → List ℕ) (tenant : List ℕ) (before after : TenantStates) → held_of tenant after ≡ held_of tenant before
    → IsIsolated digest tenant (held_of tenant before) [] (held_of tenant after)
same-none digest tenant before after same =
    rw same (own-none digest tenant (held_of tenant before))

by-others : (digest : List ℕ → List ℕ) (tenant given : List ℕ) (before after : TenantStates) → SparesOthers given before after
    → not (bytes_eq tenant given) ≡ true → IsIsolated digest tenant (held_of tenant before) [] (held_of tenant after)
by-others digest tenant given before after others spared =
    same-none digest tenant before after (others tenant (not-true (bytes_eq tenant given) spared))

pub own-one : (digest : List ℕ → List ℕ) (tenant : List ℕ) (b c : Hosted) (r : Request) (told : Response) → Takes digest r b told c
    → spares tenant r ≡ true → IsIsolated digest tenant (held_of tenant b.tenants) (with_step r told []) (held_of tenant c.tenants)
own-one digest tenant b c (request.Step s) told takes spared = takes.0.own tenant
own-one digest tenant b c (request.Save which) told takes spared =
    same-none digest tenant b.tenants c.tenants (ap (λ (all : TenantStates). held_of tenant all) takes.0)
own-one digest tenant b c (request.Abandon given) told takes spared =
    by-others digest tenant given.now b.tenants c.tenants takes.0.others spared
own-one digest tenant b c (request.Remove given) told takes spared =
    by-others digest tenant given.now b.tenants c.tenants takes.0.others spared
own-one digest tenant b c (request.Compact given) told takes spared =
    by-others digest tenant given.now b.tenants c.tenants takes.0.others spared
own-one digest tenant b c (request.Copy from to) told takes spared =
    by-others digest tenant to.now b.tenants c.tenants takes.0.others spared
own-one digest tenant b c request.Sizes told takes spared =
    same-none digest tenant b.tenants c.tenants (ap (λ (x : Hosted). held_of tenant x.tenants) takes.0)
own-one digest tenant b c (request.Missing given wants haves) told takes spared =
    same-none digest tenant b.tenants c.tenants (ap (λ (x : Hosted). held_of tenant x.tenants) takes.0)
own-one digest tenant b c (request.Entries given limit names) told takes spared =
    same-none digest tenant b.tenants c.tenants (ap (λ (x : Hosted). held_of tenant x.tenants) takes.0)

-- ---- so far

-- So many frames were read and answered, and nothing else was read.
pub record SoFar (digest : List ℕ → List ℕ) (before after : Hosted) (r0 r w0 w : Device) (count : ℕ) : Type 0 where
  pub run : HostRun
  pub leads : Leads digest before run after
  pub own : (tenant : List ℕ) → IsSpared tenant run → IsIsolated digest tenant (held_of tenant before.tenants) (steps_in run)
      (held_of tenant after.tenants)
  pub good : AllByRecursion (λ taken. IsGoodRequest taken.0) run
  pub read : HasReadWell r0 r (requests_text run)
  pub written : Appends w0.known w.known (told_text run)
  pub well : IsWell w0 w
  pub as_many : length run ≡ count

pub so_far_new : (digest : List ℕ → List ℕ) (held : Hosted) (r w : Device) → r.passed < 2 ^ 64 → SoFar digest held held r r w w 0
so_far_new digest held r w fits = record {
  run = [];
  leads = refl;
  own = λ tenant spared. own-none digest tenant (held_of tenant held.tenants);
  good = tt;
  read = well_none r fits;
  written = Appends-nil w.known;
  well = refl;
  as_many = refl;
}

within : (run : HostRun) (count : ℕ) → length run ≡ count → count < 2 ^ 32 → length run ≤ 2 ^ 32
within run count as_many few = omega (arith, as_many, few)

-- What was read after the frames.
taken_after : (digest : List ℕ → List ℕ) (before after : Hosted) (r0 r w0 w : Device) (count : ℕ)
    → SoFar digest before after r0 r w0 w count → count < 2 ^ 32 → (r' : Device) (rest : List ℕ) → HasRead r r' rest
    → TakesAll digest before after r0 r'
taken_after digest before after r0 r w0 w count s few r' rest read = record {
  run = s.run;
  rest = rest;
  leads = s.leads;
  own = s.own;
  good = s.good;
  read = HasRead-trans r0 r r' (requests_text s.run) rest s.read.read read;
  bounded = within s.run count s.as_many few;
}

whole_front : (a b : Option (List ℕ)) (bytes : List ℕ) → Appends a b bytes → AppendsFront a b bytes
whole_front a b bytes appends = record { front = bytes; rest = []; parts = sym (append-nil bytes); appends = appends }

-- All answers stand written where the reader stayed well.
answered : (digest : List ℕ → List ℕ) (before after : Hosted) (r0 r w0 w : Device) (count : ℕ) (r' : Device)
    (s : SoFar digest before after r0 r w0 w count) → IsWell r r' → AreTold r0 r' w0 w s.run
answered digest before after r0 r w0 w count r' s well = (s.written, (well ∙ s.read.well, s.well))

all_so_far : (digest : List ℕ → List ℕ) (before after : Hosted) (r0 r w0 w : Device)
    (count : ℕ) (s : SoFar digest before after r0 r w0 w count) → AppendsAsFar w0 w (told_text s.run)
all_so_far digest before after r0 r w0 w count s = record {
  front = whole_front w0.known w.known (told_text s.run) s.written;
  whole = inr s.written;
}

-- No further request was read.
pub ends_at : (digest : List ℕ → List ℕ) (before after : Hosted) (r0 r w0 w : Device) (count : ℕ) (r' : Device)
    → SoFar digest before after r0 r w0 w count → count < 2 ^ 32 → ReadsRequest r (Ok None) r' → Hosts digest before after r0 r' w0 w (Ok tt)
unfolding taken_after
ends_at digest before after r0 r w0 w count r' s few read = record {
  taken = taken_after digest before after r0 r w0 w count s few r' [] read.read.read;
  stopped = (refl, read.end);
  written = answered digest before after r0 r w0 w count r' s read.read.well;
}

pub fails_at : (digest : List ℕ → List ℕ) (before after : Hosted) (r0 r w0 w : Device) (count : ℕ) (r' : Device) (e : FrameFault)
    → SoFar digest before after r0 r w0 w count → count < 2 ^ 32 → ReadsRequest r (Err e) r' → Hosts digest before after r0 r' w0 w (Err e)
unfolding taken_after
fails_at digest before after r0 r w0 w count r' fault.BadFrame s few read = record {
  taken = taken_after digest before after r0 r w0 w count s few r' read.0 read.2.read;
  stopped = read.1;
  written = answered digest before after r0 r w0 w count r' s read.2.well;
}
fails_at digest before after r0 r w0 w count r' fault.CutOff s few read = record {
  taken = taken_after digest before after r0 r w0 w count s few r' read.0 read.2.read.read;
  stopped = (read.1, read.2.end);
  written = answered digest before after r0 r w0 w count r' s read.2.read.well;
}
fails_at digest before after r0 r w0 w count r' fault.Device s few read = record {
  taken = taken_after digest before after r0 r w0 w count s few r' read.0 read.2.read;
  stopped = read.1;
  written = (
    all_so_far digest before after r0 r w0 w count s,
    inl (subst (λ (n : ℕ). HasFault n r'.faults) s.read.well read.2.fault, s.well),
  );
}
fails_at digest before after r0 r w0 w count r' fault.Memory s few read = record {
  taken = taken_after digest before after r0 r w0 w count s few r' read.0 read.2.read;
  stopped = read.1;
  written = answered digest before after r0 r w0 w count r' s read.2.well;
}

-- One text more.
more_text : (text : Request × Response → List ℕ) (run : HostRun) (one : Request × Response)
    → flat_map text (run ++ one ∷ []) ≡ flat_map text run ++ text one
more_text text run one = flat_map-append text run (one ∷ []) ∙ ap (λ (l : List ℕ). flat_map text run ++ l) (append-nil (text one))

-- A request was read and taken: the run so far with it.
pub record Taken (digest : List ℕ → List ℕ) (before after : Hosted) (r0 r : Device) (run : HostRun) (told : Response) : Type 0 where
  pub one : Request
  pub leads : Leads digest before (run ++ (one, told) ∷ []) after
  pub own : (tenant : List ℕ) → IsSpared tenant (run ++ (one, told) ∷ []) → IsIsolated digest tenant (held_of tenant before.tenants)
      (steps_in (run ++ (one, told) ∷ [])) (held_of tenant after.tenants)
  pub good : AllByRecursion (λ taken. IsGoodRequest taken.0) (run ++ (one, told) ∷ [])
  pub read : HasReadWell r0 r (requests_text (run ++ (one, told) ∷ []))

pub taken_by : (digest : List ℕ → List ℕ) (before between after : Hosted) (r0 r w0 w : Device) (count : ℕ) (r' : Device) (one : Request)
    (told : Response) (s : SoFar digest before between r0 r w0 w count) → ReadsRequest r (Ok (Some one)) r'
    → Takes digest one between told after → Taken digest before after r0 r' s.run told
taken_by digest before between after r0 r w0 w count r' one told s read takes = record {
  one = one;
  leads = leads-more digest before between after s.run one told s.leads takes;
  own = λ tenant spared. subst
      (λ (run : Run). IsIsolated digest tenant (held_of tenant before.tenants) run (held_of tenant after.tenants))
      (sym (steps-more s.run (one, told)))
      (own-more digest tenant (held_of tenant before.tenants) (held_of tenant between.tenants) (held_of tenant after.tenants) (steps_in s.run)
      (with_step one told []) (s.own tenant (spared-front tenant s.run (one, told) spared))
      (own-one digest tenant between after one told takes (spared-last tenant s.run (one, told) spared)));
  good = all_whole (λ (t : Request × Response). IsGoodRequest t.0) s.run ((one, told) ∷ []) s.good (read.0, tt);
  read = subst (λ (l : List ℕ). HasReadWell r0 r' l) (sym (more_text (λ (t : Request × Response). request_text t.0) s.run (one, told)))
      (well_more r0 r r' (requests_text s.run) (request_text one) s.read read.1);
}

-- Its answer was written.
pub so_far_more : (digest : List ℕ → List ℕ) (before between after : Hosted) (r0 r w0 w : Device) (count : ℕ) (r' w' : Device)
    (told : Response) (s : SoFar digest before between r0 r w0 w count) → Taken digest before after r0 r' s.run told
    → Appends w.known w'.known (answer_text told.answer told.reply) → IsWell w w'
    → SoFar digest before after r0 r' w0 w' (count + 1)
so_far_more digest before between after r0 r w0 w count r' w' told s t written well = record {
  run = s.run ++ (t.one, told) ∷ [];
  leads = t.leads;
  own = t.own;
  good = t.good;
  read = t.read;
  written = subst (λ (l : List ℕ). Appends w0.known w'.known l)
      (sym (more_text (λ (x : Request × Response). answer_text x.1.answer x.1.reply) s.run (t.one, told)))
      (Appends-trans w0.known w.known w'.known (told_text s.run) (answer_text told.answer told.reply) s.written written);
  well = well ∙ s.well;
  as_many = let l = length-append s.run ((t.one, told) ∷ []) in let n = s.as_many in omega (arith, l, n);
}

-- It was not.
pub write_fails : (digest : List ℕ → List ℕ) (before between after : Hosted) (r0 r w0 w : Device) (count : ℕ) (r' w' : Device)
    (told : Response) (s : SoFar digest before between r0 r w0 w count) → count < 2 ^ 32 → Taken digest before after r0 r' s.run told
    → AppendsFront w.known w'.known (answer_text told.answer told.reply) → HasFault w.faults w'.faults
    → Hosts digest before after r0 r' w0 w' (Err fault.Device)
write_fails digest before between after r0 r w0 w count r' w' told s few t front failed =
    let blame : HasFault w0.faults w'.faults = subst (λ (n : ℕ). HasFault n w'.faults) s.well failed in
    record {
      taken = record {
        run = s.run ++ (t.one, told) ∷ [];
        rest = [];
        leads = t.leads;
        own = t.own;
        good = t.good;
        read = subst (λ (l : List ℕ). HasRead r0 r' l) (sym (append-nil (requests_text (s.run ++ (t.one, told) ∷ [])))) t.read.read;
        bounded = let l = length-append s.run ((t.one, told) ∷ []) in let n = s.as_many in omega (arith, l, n, few);
      };
      stopped = no_request_read;
      written = (
        record {
          front = subst (λ (l : List ℕ). AppendsFront w0.known w'.known l)
              (sym (more_text (λ (x : Request × Response). answer_text x.1.answer x.1.reply) s.run (t.one, told)))
              (front_of_later w0.known w.known w'.known (told_text s.run)
              (answer_text told.answer told.reply) s.written front);
          whole = inl blame;
        },
        inr (inl (t.read.well, blame)),
      );
    }

-- As many frames were taken as one hosting takes.
pub limit_reached : (digest : List ℕ → List ℕ) (before after : Hosted) (r0 r w0 w : Device) (count : ℕ)
    → SoFar digest before after r0 r w0 w count → count ≡ 2 ^ 32 → Hosts digest before after r0 r w0 w (Err fault.Device)
limit_reached digest before after r0 r w0 w count s all = record {
  taken = record {
    run = s.run;
    rest = [];
    leads = s.leads;
    own = s.own;
    good = s.good;
    read = subst (λ (l : List ℕ). HasRead r0 r l) (sym (append-nil (requests_text s.run))) s.read.read;
    bounded = let n = s.as_many in omega (arith, n, all);
  };
  stopped = no_request_read;
  written = (
    all_so_far digest before after r0 r w0 w count s,
    inr (inr ((s.read.well, s.well), s.as_many ∙ all)),
  );
}
