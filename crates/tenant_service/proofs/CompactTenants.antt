-- One tenant among all others is compacted, or all are as they were.
use Rattle.std.proofs.Common.{◌≡◌, ◌≢◌, ℕ, Bool, true, false, cond, List, None, Some, refl, sym, ap, subst, ◌∙◌, inl}
use Rattle.std.specs.Map.{lookup, set_value}
use Rattle.std.specs.Str.{bytes_eq}
use Rattle.git_model.specs.Repository.{Repository}
use Rattle.content_pool.specs.Pool.{Cells}
use Rattle.tenant_refs.specs.TenantName.{is_tenant_name}
use Rattle.service_steps.specs.declared.answer.Answer.{Answer}
use Rattle.service_steps.specs.declared.answer.Answer.TheVariants as answer
use Rattle.service_steps.specs.declared.fault.ServiceFault.TheVariants as fault
use Rattle.service_steps.specs.Faults.{code_of}
use Rattle.tenant_service.specs.declared.tenant.Tenant.{Tenant}
use Rattle.tenant_service.specs.Compacting.{AnswersUnless, Compacts, CompactsOne, IsCompacted, compacted}
use Rattle.tenant_service.specs.HeldObjects.{last_held}
use Rattle.tenant_service.specs.OneStep.{store}
use Rattle.tenant_service.specs.Removing.{removal_refusal, with_stream}
use Rattle.tenant_service.specs.TenantState.{TenantState, TenantStates, Idle, empty_repository, held_of}
use Rattle.tenant_service.specs.Tenants.{Accounts, AreLed, AreSound, Tenants, holding_in, holdings}
use Rattle.tenant_service.proofs.AccountLemmas.{exchanged, held-found, held-missing, kept, set-same}
use Rattle.tenant_service.proofs.CompactLaws.{compacted-sound, compacted-whole}
use Rattle.tenant_service.proofs.RemovalLemmas.{led-left, sound-left}
use Rattle.tenant_service.proofs.SoundLemmas.{last-sound}

-- a good name goes by what is held
refusal-good : (name : List ℕ) (all : TenantStates) → is_tenant_name name ≡ true
    → removal_refusal name all ≡ with_stream (held_of name all)
refusal-good name all good =
    ap (λ (b : Bool). cond b (with_stream (held_of name all)) (Some fault.BadTenantName)) good

refusal-bad : (name : List ℕ) (all : TenantStates) → is_tenant_name name ≡ false
    → removal_refusal name all ≡ Some fault.BadTenantName
refusal-bad name all bad =
    ap (λ (b : Bool). cond b (with_stream (held_of name all)) (Some fault.BadTenantName)) bad

-- ---- a tenant that is there

module _ (digest : List ℕ → List ℕ) (given name : List ℕ) (p q : Cells) (es : Tenants)
    (old new : Tenant) (told : Answer) (good : is_tenant_name given ≡ true) (is : name ≡ given)
    (h : Accounts digest p es) (got : lookup (bytes_eq name) es ≡ Some old)
    (one : CompactsOne digest p old told q new) where
  there : held_of name (holdings p es) ≡ holding_in p old
  there = held-found p name es old got

  answers : AnswersUnless (removal_refusal name (holdings p es)) told
  answers =
      rw (refusal-good name (holdings p es) (ap is_tenant_name is ∙ good) ∙ ap with_stream there)
      one.answered

  abbrev after : Tenants
  after = set_value (bytes_eq name) es new

  was-compacted : told ≡ answer.Ok → Compacts digest name (store p es) told (store q after)
  was-compacted ok =
      let c = one.own ok in
      let x = exchanged digest name p q es old new h got c.stands c.others in
      record {
        accounts = x.accounts;
        answered = answers;
        own = λ _. x.here ∙ c.held
            ∙ ap (λ (held : TenantState). Idle (compacted (last_held held))) (sym there);
        others = x.others;
        refused = λ other. absurd (other ok);
      }

  was-kept : told ≢ answer.Ok → Compacts digest name (store p es) told (store q after)
  was-kept other =
      let s = one.refused other in
      let k = kept digest p q es h s.others in
      let same : after ≡ es =
      ap (set_value (bytes_eq name) es) s.same ∙ set-same name es old got in
      rw same
      (record {
        accounts = k.accounts;
        answered = answers;
        own = λ ok. absurd (other ok);
        others = λ n apart. ap (held_of n) k.shown;
        refused = λ _. k.shown;
      })

  pub compacts-found : Compacts digest given (store p es) told (store q after)
  compacts-found =
      rw (← is)
      (by told refl)
    where
      by : (a : Answer) → told ≡ a → Compacts digest name (store p es) told (store q after)
      by answer.Ok ok = was-compacted ok
      by (answer.Fault code) says = was-kept (λ ok. let no = sym says ∙ ok in cc)
      by (answer.Memory items) says = was-kept (λ ok. let no = sym says ∙ ok in cc)

-- ---- one that was never seen, and a bad name

pub compacts-missing : (digest : List ℕ → List ℕ) (given name : List ℕ) (p : Cells)
    (es new : Tenants) → is_tenant_name given ≡ true → name ≡ given → Accounts digest p es
    → lookup (bytes_eq name) es ≡ None → new ≡ es
    → Compacts digest given (store p es) answer.Ok (store p new)
compacts-missing digest given name p es new good is h none same =
    rw same
    (record {
      accounts = h;
      answered = rw free (inl refl);
      own = λ _. there
          ∙ ap (λ (held : TenantState). Idle (compacted (last_held held))) (sym there);
      others = λ other apart. refl;
      refused = λ other. absurd (other refl);
    })
  where
    there : held_of given (holdings p es) ≡ Idle empty_repository
    there = ap (λ (n : List ℕ). held_of n (holdings p es)) (sym is) ∙ held-missing p name es none

    free : removal_refusal given (holdings p es) ≡ None
    free = refusal-good given (holdings p es) good ∙ ap with_stream there

pub compacts-bad : (digest : List ℕ → List ℕ) (given : List ℕ) (p : Cells) (es : Tenants)
    (told : Answer) → is_tenant_name given ≡ false → Accounts digest p es
    → told ≡ answer.Fault (code_of fault.BadTenantName)
    → Compacts digest given (store p es) told (store p es)
compacts-bad digest given p es told bad h says = record {
  accounts = h;
  answered = rw (refusal-bad given (holdings p es) bad) says;
  own = λ ok. let no = sym says ∙ ok in cc;
  others = λ other apart. refl;
  refused = λ _. refl;
}

-- ---- what is always true of a service

module _ (digest : List ℕ → List ℕ) (name : List ℕ) (before after : TenantStates) (told : Answer)
    (own : told ≡ answer.Ok → held_of name after ≡ Idle (compacted (last_held (held_of name before))))
    (others : (other : List ℕ) → bytes_eq other name ≡ false
    → held_of other after ≡ held_of other before)
    (refused : told ≢ answer.Ok → after ≡ before) where
  abbrev left : Repository
  left = compacted (last_held (held_of name before))

  pub compacted-led : AreLed digest before → AreLed digest after
  compacted-led led = by told refl
    where
      by : (a : Answer) → told ≡ a → AreLed digest after
      by answer.Ok ok = led-left digest name before after others left (own ok) led
      by (answer.Fault code) says =
          subst (AreLed digest) (sym (refused (λ ok. let no = sym says ∙ ok in cc))) led
      by (answer.Memory items) says =
          subst (AreLed digest) (sym (refused (λ ok. let no = sym says ∙ ok in cc))) led

  pub compacted-all-sound : AreSound digest before → AreSound digest after
  compacted-all-sound sound = by told refl
    where
      by : (a : Answer) → told ≡ a → AreSound digest after
      by answer.Ok ok =
          sound-left digest name before after others left (own ok)
          (compacted-sound digest (last_held (held_of name before))
          (last-sound digest (held_of name before) (sound name))) sound
      by (answer.Fault code) says =
          subst (AreSound digest) (sym (refused (λ ok. let no = sym says ∙ ok in cc))) sound
      by (answer.Memory items) says =
          subst (AreSound digest) (sym (refused (λ ok. let no = sym says ∙ ok in cc))) sound

  pub left-whole : AreSound digest before → told ≡ answer.Ok
      → IsCompacted (last_held (held_of name before)) (last_held (held_of name after))
  left-whole sound ok =
      rw (own ok)
      (compacted-whole digest (last_held (held_of name before))
      (last-sound digest (held_of name before) (sound name)))
