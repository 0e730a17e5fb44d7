-- A tenant that is compacted: its new table, the release of the old one, and how it stands beside
-- all others.
use Rattle.std.proofs.Common.{◌≡◌, ℕ, ◌<◌, ◌≤◌, Bool, true, false, cond, List, [], ◌∷◌, length, filter, All, None, refl, sym, ap, subst, ◌∙◌, arith}
use Rattle.std.proofs.lemmas.List.{length-map}
use Rattle.git_model.specs.GoodRepository.{AreObjects}
use Rattle.git_model.specs.RefStore.{RefStore}
use Rattle.git_model.specs.Repository.{Object, Repository}
use Rattle.content_pool.specs.Pool.{Cells}
use Rattle.tenant_tables.specs.IsBackedBy.{AreCounted, IsBackedBy, PreservesOthers}
use Rattle.tenant_tables.specs.Objects.{objects}
use Rattle.tenant_tables.specs.View.{Entries, View}
use Rattle.tenant_tables.proofs.HoldLemmas.{held-nil}
use Rattle.tenant_tables.proofs.TableLemmas.{PreservesOthers-refl, length-objects, other_objects, other_stands}
use Rattle.tenant_tables.specs.Copied.{IsCopied, objects_at}
use Rattle.export_text.specs.Reached.{reached_objects}
use Rattle.import_session.specs.Sound.{IsSoundRepository}
use Rattle.tenant_service.specs.declared.tenant.OpenStream.{OpenStream}
use Rattle.tenant_service.specs.declared.tenant.OpenStream.TheVariants as phase
use Rattle.tenant_service.specs.declared.tenant.Tenant.{Tenant}
use Rattle.tenant_service.specs.Compacting.{AreReached, HasCompacted, compacted}
use Rattle.tenant_service.specs.HeldObjects.{last_held}
use Rattle.tenant_service.specs.Removing.{with_stream}
use Rattle.tenant_service.specs.Soundness.{IsSoundTenantState}
use Rattle.tenant_service.specs.TenantState.{Idle}
use Rattle.tenant_service.specs.Tenants.{Stands, held_in, holding_in}
use Rattle.tenant_service.proofs.CompactLaws.{compacted-sound}
use Rattle.tenant_service.proofs.SoundLemmas.{last-sound}

-- ---- without a stream

no-stream : (ph : OpenStream) (p : Cells) (table : View) (refs : RefStore)
    → with_stream (held_in ph p table refs) ≡ None → ph ≡ phase.Closed
no-stream phase.Closed p table refs none = refl
no-stream _ p table refs none = cc

-- ---- a table beside which another one was made, and which is released then

-- the tables are counted side by side
beside : (digest : List ℕ → List ℕ) (p q : Cells) (old new : Entries) → IsBackedBy digest p old
    → PreservesOthers p [] q new → AreCounted q old new
beside digest p q old new stands made = record {
  sum = λ s.
      let c = stands.counted s in let r = made.rest s in let z = held-nil s in omega arith;
}

nothing-held : (digest : List ℕ → List ℕ) (p : Cells) (old : Entries) → IsBackedBy digest p old
    → AreCounted p [] old
nothing-held digest p old stands =
    record { sum = λ s. let c = stands.counted s in let z = held-nil s in omega arith }

pub old-stands : (digest : List ℕ → List ℕ) (p q : Cells) (old new : Entries)
    → IsBackedBy digest p old → PreservesOthers p [] q new → IsBackedBy digest q old
old-stands digest p q old new stands made =
    other_stands digest p q [] new old stands (nothing-held digest p old stands) made

in-turn : (digest : List ℕ → List ℕ) (p q r : Cells) (old new : Entries) → IsBackedBy digest p old
    → PreservesOthers p [] q new → PreservesOthers q old r [] → PreservesOthers p old r new
in-turn digest p q r old new stands made gone = record {
  rest = λ s.
      let a = made.rest s in let b = gone.rest s in let z = held-nil s in omega arith;
  kept = λ s others.
      let a = made.rest s in
      let z = held-nil s in
      gone.kept s (omega (arith, a, z, others)) ∙ made.kept s (omega (arith, z, others));
}

-- ---- the tenant

-- objects that are as many as all of them are all of them
few-pass : (p : Object → Bool) (os : List Object) → length (filter p os) ≤ length os
few-pass p [] = omega arith
few-pass p (o ∷ os) = by (p o) (few-pass p os)
  where
    by : (b : Bool) → length (filter p os) ≤ length os
        → length (cond b (o ∷ filter p os) (filter p os)) ≤ length (o ∷ os)
    by true rest = omega arith
    by false rest = omega arith

all-pass : (p : Object → Bool) (os : List Object) → length (filter p os) ≡ length os
    → filter p os ≡ os
all-pass p [] same = refl
all-pass p (o ∷ os) same = by (p o) same (all-pass p os) (few-pass p os)
  where
    by : (b : Bool) → length (cond b (o ∷ filter p os) (filter p os)) ≡ length (o ∷ os)
        → (length (filter p os) ≡ length os → filter p os ≡ os)
        → length (filter p os) ≤ length os
        → cond b (o ∷ filter p os) (filter p os) ≡ o ∷ os
    by true same rest few = ap (λ (xs : List Object). o ∷ xs) (rest (omega arith))
    by false same rest few = absurd (omega arith)

module _ (digest : List ℕ → List ℕ) (p : Cells) (t : Tenant) (stands : Stands digest p t)
    (sound : IsSoundTenantState digest (holding_in p t))
    (idle : with_stream (holding_in p t) ≡ None) where
  closed : t.phase ≡ phase.Closed
  closed = no-stream t.phase p t.table t.refs idle

  abbrev os : List Object
  os = objects p t.table.entries

  abbrev now : Repository
  now = record { objects = os; refs = t.refs }

  holds-now : holding_in p t ≡ Idle now
  holds-now = ap (λ (ph : OpenStream). held_in ph p t.table t.refs) closed

  last-now : last_held (holding_in p t) ≡ now
  last-now = ap last_held holds-now

  sound-now : IsSoundRepository digest now
  sound-now =
      subst (IsSoundRepository digest) last-now (last-sound digest (holding_in p t) sound)

  compacts-now : Idle (compacted now) ≡ Idle (compacted (last_held (holding_in p t)))
  compacts-now = ap (λ (r : Repository). Idle (compacted r)) (sym last-now)

  module _ (places : List ℕ) (are : AreReached (last_held (holding_in p t)) places) where
    here : AreReached now places
    here = subst (λ (r : Repository). AreReached r places) last-now are

    pub places-within : All (λ q. q < length t.table.entries) places
    places-within =
        subst (λ (n : ℕ). All (λ q. q < n) places) (length-objects p t.table.entries) here.within

    pub places-good : AreObjects digest (objects_at os places)
    places-good =
        subst (AreObjects digest) (sym here.objects) (compacted-sound digest now sound-now).objects

    -- a table of these objects alone
    pub has-compacted : (q r : Cells) (table : View) (new : Tenant)
        → IsCopied digest places t.table.entries p q table
        → PreservesOthers q t.table.entries r [] → new.table ≡ table → new.refs ≡ t.refs
        → new.phase ≡ t.phase → new.chain ≡ [] → HasCompacted digest p t r new
    has-compacted q r table new copied gone is-table is-refs is-phase no-chain = record {
      stands = record {
        entries = subst (λ (v : View). IsBackedBy digest r v.entries) (sym is-table)
            (other_stands digest q r t.table.entries [] table.entries copied.stands counted gone);
        settled = rw (is-phase ∙ closed) (rw is-table copied.committed);
        opened = rw (is-phase ∙ closed) tt;
        files = rw (is-phase ∙ closed) tt;
        chain = rw no-chain tt;
      };
      others = subst (λ (v : View). PreservesOthers p t.table.entries r v.entries) (sym is-table)
          (in-turn digest p q r t.table.entries table.entries stands.entries copied.others gone);
      held = rw (is-phase ∙ closed)
          ((λ i. Idle (record { objects = shown i; refs = is-refs i })) ∙ compacts-now);
    }
      where
        counted : AreCounted q t.table.entries table.entries
        counted = beside digest p q t.table.entries table.entries stands.entries copied.others

        shown : objects r new.table.entries ≡ reached_objects now
        shown =
            ap (λ (v : View). objects r v.entries) is-table
            ∙ other_objects q r t.table.entries [] table.entries counted gone ∙ copied.objects
            ∙ here.objects

    -- all objects are reached
    pub has-all : length places ≡ length t.table.entries → HasCompacted digest p t p t
    has-all many = record {
      stands = stands;
      others = PreservesOthers-refl p t.table.entries;
      held = holds-now
          ∙ ap (λ (xs : List Object). Idle (record { objects = xs; refs = t.refs })) (sym all)
          ∙ compacts-now;
    }
      where
        all : reached_objects now ≡ os
        all =
            all-pass _ os
            (ap length (sym here.objects) ∙ length-map places _ ∙ many
            ∙ sym (length-objects p t.table.entries))
