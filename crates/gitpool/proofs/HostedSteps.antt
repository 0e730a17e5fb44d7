-- A hosting of steps alone is a serving.
use Rattle.std.proofs.Common.{◌≡◌, ℕ, suc, ◌≤◌, true, false, true≢false, inl, inr, List, [], ◌∷◌, ◌++◌, length, Result, Ok, Err, refl, sym, ap, subst, ◌∙◌}
use Rattle.std.specs.List.{AllByRecursion}
use Rattle.std.specs.Io.KnownBytes.{Appends}
use Rattle.git_model.specs.Limits.{frames_limit}
use Rattle.git_objects.specs.Device.{Device, HasRead}
use Rattle.service_steps.specs.declared.frame_fault.FrameFault.{FrameFault}
use Rattle.service_steps.specs.declared.frame_fault.FrameFault.TheVariants as fault
use Rattle.service_steps.specs.declared.request.Request.{Request}
use Rattle.service_steps.specs.declared.request.Request.TheVariants as request
use Rattle.service_steps.specs.Frames.{frame_of, step_text, answer_text, IsGood}
use Rattle.service_steps.specs.Requests.{IsGoodRequest}
use Rattle.service_steps.specs.StepFrames.{begins_no_request, is_step}
use Rattle.service_steps.proofs.StepRequestLemmas.{good_step, unfinished_step, cut_off_step, bad_step}
use Rattle.tenant_service.specs.Headline.{IsRefused}
use Rattle.gitpool.specs.Devices.{AppendsAsFar}
use Rattle.gitpool.specs.Requests.{Hosted, Takes}
use Rattle.gitpool.specs.Serving.{steps_text, answers_text, Served, IsToBlame, AreAnswered, WritesAnswers, StopsReading}
use Rattle.gitpool.specs.Hosting.{HostRun, Leads, with_step, steps_in, spares, IsSpared, requests_text, told_text, TakesAll, AreTold, IsHostToBlame, WritesTold, StopsHosting, Hosts, IsOfSteps, ServesAlone}

abbrev AreSteps : HostRun → Type 0
AreSteps run = AllByRecursion (λ taken. is_step taken.0 ≡ true) run

-- What holds of each request that is a step holds of each request of such a run.
by_step : (P : Request → Type 0) → ((s : _) → P (request.Step s)) → (r : Request) → is_step r ≡ true → P r
by_step P so (request.Step s) is = so s
by_step P so (request.Save which) is = absurd (true≢false (sym is))
by_step P so (request.Abandon tenant) is = absurd (true≢false (sym is))
by_step P so (request.Remove tenant) is = absurd (true≢false (sym is))
by_step P so (request.Compact tenant) is = absurd (true≢false (sym is))
by_step P so (request.Copy from to) is = absurd (true≢false (sym is))
by_step P so request.Sizes is = absurd (true≢false (sym is))
by_step P so (request.Missing tenant wants haves) is = absurd (true≢false (sym is))
by_step P so (request.Entries tenant limit names) is = absurd (true≢false (sym is))

all_spared : (tenant : List ℕ) (run : HostRun) → AreSteps run → IsSpared tenant run
all_spared tenant [] steps = tt
all_spared tenant (t ∷ later) steps =
    (by_step (λ r. spares tenant r ≡ true) (λ s. refl) t.0 steps.0, all_spared tenant later steps.1)

same_requests : (run : HostRun) → AreSteps run → requests_text run ≡ steps_text (steps_in run)
same_requests [] steps = refl
same_requests (t ∷ later) steps =
    by_step (λ r. requests_text ((r, t.1) ∷ later) ≡ steps_text (with_step r t.1 (steps_in later)))
    (λ s. ap (λ (l : List ℕ). step_text s ++ l) (same_requests later steps.1)) t.0 steps.0

same_answers : (run : HostRun) → AreSteps run → told_text run ≡ answers_text (steps_in run)
same_answers [] steps = refl
same_answers (t ∷ later) steps =
    by_step (λ r. told_text ((r, t.1) ∷ later) ≡ answers_text (with_step r t.1 (steps_in later)))
    (λ s. ap (λ (l : List ℕ). answer_text t.1.answer t.1.reply ++ l) (same_answers later steps.1)) t.0 steps.0

same_length : (run : HostRun) → AreSteps run → length (steps_in run) ≡ length run
same_length [] steps = refl
same_length (t ∷ later) steps =
    by_step (λ r. length (with_step r t.1 (steps_in later)) ≡ suc (length later))
    (λ s. ap suc (same_length later steps.1)) t.0 steps.0

all_good : (run : HostRun) → AreSteps run → AllByRecursion (λ taken. IsGoodRequest taken.0) run
    → AllByRecursion (λ taken. IsGood (frame_of taken.0)) (steps_in run)
all_good [] steps good = tt
all_good (t ∷ later) steps good =
    by_step (λ r. IsGoodRequest r → AllByRecursion (λ taken. IsGood (frame_of taken.0)) (with_step r t.1 (steps_in later)))
    (λ s g. (good_step s g, all_good later steps.1 good.1)) t.0 steps.0 good.0

all_refused : (digest : List ℕ → List ℕ) (before after : Hosted) (run : HostRun) → AreSteps run → Leads digest before run after
    → AllByRecursion IsRefused (steps_in run)
all_refused digest before after [] steps leads = tt
all_refused digest before after (t ∷ later) steps leads =
    by_step (λ r. Takes digest r before t.1 leads.0 → AllByRecursion IsRefused (with_step r t.1 (steps_in later)))
    (λ s takes. (takes.0.bad_names, all_refused digest leads.0 after later steps.1 leads.2)) t.0 steps.0 leads.1

file_stays : (digest : List ℕ → List ℕ) (before after : Hosted) (run : HostRun) → AreSteps run → Leads digest before run after
    → after.file ≡ before.file
file_stays digest before after [] steps leads = ap (λ (x : Hosted). x.file) leads
file_stays digest before after (t ∷ later) steps leads =
    by_step (λ r. Takes digest r before t.1 leads.0 → after.file ≡ before.file)
    (λ s takes. file_stays digest leads.0 after later steps.1 leads.2 ∙ takes.1) t.0 steps.0 leads.1

served : (digest : List ℕ → List ℕ) (before after : Hosted) (reader reader' : Device) (t : TakesAll digest before after reader reader')
    → IsOfSteps t.run t.rest → Served digest before.tenants after.tenants reader reader'
served digest before after reader reader' t so = record {
  run = steps_in t.run;
  rest = t.rest;
  own = λ tenant. t.own tenant (all_spared tenant t.run so.steps);
  bad_names = all_refused digest before after t.run so.steps t.leads;
  good = all_good t.run so.steps t.good;
  read = subst (λ (l : List ℕ). HasRead reader reader' (l ++ t.rest)) (same_requests t.run so.steps) t.read;
  bounded = subst (λ (n : ℕ). n ≤ frames_limit) (sym (same_length t.run so.steps)) t.bounded;
}

stops : (answer : Result Unit FrameFault) (rest : List ℕ) (reader : Device) → begins_no_request rest ≡ true
    → StopsHosting answer rest reader → StopsReading answer rest reader
stops (Ok u) rest reader none stopped = stopped
stops (Err fault.BadFrame) rest reader none stopped = bad_step rest none stopped
stops (Err fault.CutOff) rest reader none stopped = (cut_off_step rest none stopped.0, stopped.1)
stops (Err fault.Device) rest reader none stopped = unfinished_step rest none stopped
stops (Err fault.Memory) rest reader none stopped = unfinished_step rest none stopped

module _ (reader reader' writer writer' : Device) (run : HostRun) (steps : AreSteps run) where
  told : AreTold reader reader' writer writer' run → AreAnswered reader reader' writer writer' (steps_in run)
  told all = (subst (λ (l : List ℕ). Appends writer.known writer'.known l) (same_answers run steps) all.0, all.1)

  blamed : IsHostToBlame reader reader' writer writer' run → IsToBlame reader reader' writer writer' (steps_in run)
  blamed (inl read) = inl read
  blamed (inr (inl write)) = inr (inl write)
  blamed (inr (inr limit)) = inr (inr (limit.0, same_length run steps ∙ limit.1))

  writes : (answer : Result Unit FrameFault) → WritesTold answer reader reader' writer writer' run
      → WritesAnswers answer reader reader' writer writer' (steps_in run)
  writes (Ok u) all = told all
  writes (Err fault.BadFrame) all = told all
  writes (Err fault.CutOff) all = told all
  writes (Err fault.Device) far =
      (subst (λ (l : List ℕ). AppendsAsFar writer writer' l) (same_answers run steps) far.0, blamed far.1)
  writes (Err fault.Memory) all = told all

-- A hosting of steps alone.
pub hosting-serves : (digest : List ℕ → List ℕ) (before after : Hosted) (reader reader' writer writer' : Device) (answer : Result Unit FrameFault)
    (hosts : Hosts digest before after reader reader' writer writer' answer) → IsOfSteps hosts.taken.run hosts.taken.rest
    → ServesAlone digest before after reader reader' writer writer' answer
unfolding served
hosting-serves digest before after reader reader' writer writer' answer hosts so = record {
  serves = record {
    served = served digest before after reader reader' hosts.taken so;
    stopped = stops answer hosts.taken.rest reader' so.later hosts.stopped;
    written = writes reader reader' writer writer' hosts.taken.run so.steps answer hosts.written;
  };
  same_file = file_stays digest before after hosts.taken.run so.steps hosts.taken.leads;
}
