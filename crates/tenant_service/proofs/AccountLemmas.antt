-- The accounts of all tenants, through a call of one.
use Rattle.std.proofs.Common.{◌≡◌, ℕ, ◌+◌, ◌<◌, ◌≤◌, ◌^◌, Bool, true, false, cond, List, [], ◌∷◌, ◌++◌, length, take, Option, None, Some, refl, sym, ap, subst, ◌∙◌, arith, append-nil}
use Rattle.std.specs.List.{AllByRecursion}
use Rattle.std.specs.Map.{lookup, set_value}
use Rattle.std.specs.Option.{option_map, unwrap_or}
use Rattle.std.specs.Str.{bytes_eq}
use Rattle.std.proofs.lemmas.List.{map-append}
use Rattle.std.proofs.lemmas.List.Sums.{sum_by-append, sum_by-cons}
use Rattle.std.proofs.lemmas.Slice.Eq.{bytes_eq-Decides}
use Rattle.indexmap.specs.IndexMap.{insert_entry}
use Rattle.git_model.specs.RefStore.{RefStore, no_refs}
use Rattle.git_model.specs.Repository.{Object, Repository}
use Rattle.content_pool.specs.Pool.{Cells, holds, IsVacant}
use Rattle.tenant_refs.specs.TenantName.{is_tenant_name}
use Rattle.tenant_tables.specs.View.{View, Entries, held}
use Rattle.tenant_tables.specs.Objects.{objects}
use Rattle.tenant_tables.specs.IsBackedBy.{PreservesOthers, AreCounted}
use Rattle.tenant_tables.proofs.HoldLemmas.{held-nil}
use Rattle.tenant_tables.proofs.TableLemmas.{IsBackedBy-nil, PreservesOthers-refl, length-objects, other_stands, other_objects, objects-take}
use Rattle.open_commits.specs.OpenCommit.{open_commit_in}
use Rattle.stream_parts.specs.StreamOf.{stream_with}
use Rattle.stream_commands.specs.State.{workspace_in}
use Rattle.import_session.specs.Stream.{Runs, Refused}
use Rattle.service_steps.specs.declared.answer.Answer.{Answer}
use Rattle.tenant_service.specs.declared.tenant.OpenStream.{OpenStream}
use Rattle.tenant_service.specs.declared.tenant.OpenStream.TheVariants as phase
use Rattle.tenant_service.specs.declared.tenant.Tenant.{Tenant}
use Rattle.tenant_service.specs.Alone.{Call, StepResult, step_result}
use Rattle.tenant_stream.specs.Carrying.{HasAmpleHoldsLeft}
use Rattle.tenant_service.specs.Headline.{stop_told}
use Rattle.tenant_service.specs.TenantState.{TenantState, Idle, Busy, empty_repository, held_of}
use Rattle.tenant_service.specs.HeldSteps.{step_held}
use Rattle.tenant_service.specs.Tenants.{Tenants, Stands, kept_tail, held_in, holding_in, holdings, all_held, Accounts}
use Rattle.tenant_service.specs.OneStep.{Takes, Store, store, Serves, Calls}

-- ---- tenants that a call did not touch

held_in-other : (ph : OpenStream) (p q : Cells) (t : View) (r : RefStore) → objects q t.entries ≡ objects p t.entries → held_in ph q t r ≡ held_in ph p t r
held_in-other phase.Closed p q t r same = ap (λ (os : List Object). Idle (record { objects = os; refs = r })) same
held_in-other (phase.Running opened stream) p q t r same =
    ap (λ (os : List Object). Busy (record { objects = take opened.objects os; refs = opened.refs }) (Runs (record {
      workspace = record (workspace_in stream.session.state p t r) {
        objects = os;
        stream = stream_with (open_commit_in os) stream.session.state.stream;
      };
      parsing = stream.session.parsing;
      is_done = stream.session.is_done;
    }) (kept_tail stream))) same
held_in-other (phase.Dead opened code) p q t r same =
    ap (λ (os : List Object). Busy (record { objects = take opened.objects os; refs = opened.refs }) (Refused code (record { objects = os; refs = r })))
    same

-- all tenants of a list, beside one that is not in it
counted_beside : (p : Cells) (e : List ℕ × Tenant) (es : Tenants) (old : Entries) → ((s : ℕ) → all_held (e ∷ es) s + held old s ≤ holds p s)
    → AreCounted p old e.1.table.entries
counted_beside p e es old bound =
    record { sum = λ s. let b = bound s in let c = sum_by-cons (λ (x : List ℕ × Tenant). held x.1.table.entries s) e es in omega arith }

bound_beside : (p : Cells) (e : List ℕ × Tenant) (es : Tenants) (old : Entries) → ((s : ℕ) → all_held (e ∷ es) s + held old s ≤ holds p s)
    → (s : ℕ) → all_held es s + held old s ≤ holds p s
bound_beside p e es old bound s = let b = bound s in let c = sum_by-cons (λ (x : List ℕ × Tenant). held x.1.table.entries s) e es in omega arith

stands_beside : (digest : List ℕ → List ℕ) (p q : Cells) (old new : Entries) → PreservesOthers p old q new → (es : Tenants)
    → ((s : ℕ) → all_held es s + held old s ≤ holds p s)
    → AllByRecursion (λ e. Stands digest p e.1) es → AllByRecursion (λ e. Stands digest q e.1) es
stands_beside digest p q old new leaves [] bound all = tt
stands_beside digest p q old new leaves (e ∷ es) bound all = (
  record {
    entries = other_stands digest p q old new e.1.table.entries all.0.entries (counted_beside p e es old bound) leaves;
    settled = all.0.settled;
    opened = all.0.opened;
    files = rw (other_objects p q old new e.1.table.entries (counted_beside p e es old bound) leaves) all.0.files;
    chain = rw (← (objects-take p e.1.table.committed e.1.table.entries
        ∙ ap (take e.1.table.committed) (sym (other_objects p q old new e.1.table.entries (counted_beside p e es old bound) leaves))
        ∙ sym (objects-take q e.1.table.committed e.1.table.entries))) all.0.chain;
  },
  stands_beside digest p q old new leaves es (bound_beside p e es old bound) all.1,
)

holdings_beside : (p q : Cells) (old new : Entries) → PreservesOthers p old q new → (es : Tenants)
    → ((s : ℕ) → all_held es s + held old s ≤ holds p s) → holdings q es ≡ holdings p es
holdings_beside p q old new leaves [] bound = refl
holdings_beside p q old new leaves (e ∷ es) bound =
    let first : holding_in q e.1 ≡ holding_in p e.1 =
    held_in-other e.1.phase p q e.1.table e.1.refs (other_objects p q old new e.1.table.entries (counted_beside p e es old bound) leaves) in
    let rest = holdings_beside p q old new leaves es (bound_beside p e es old bound) in
    λ i. (e.0, first i) ∷ rest i

-- ---- one tenant among others

pub all_parts : {X : Type 0} (P : X → Type 0) (xs ys : List X) → AllByRecursion P (xs ++ ys) → AllByRecursion P xs × AllByRecursion P ys
all_parts P [] ys h = (tt, h)
all_parts P (x ∷ xs) ys h = let rest = all_parts P xs ys h.1 in ((h.0, rest.0), rest.1)

pub all_whole : {X : Type 0} (P : X → Type 0) (xs ys : List X) → AllByRecursion P xs → AllByRecursion P ys → AllByRecursion P (xs ++ ys)
all_whole P [] ys h k = k
all_whole P (x ∷ xs) ys h k = (h.0, all_whole P xs ys h.1 k)

pub held-among : (front back : Tenants) (name : List ℕ) (t : Tenant) (s : ℕ)
    → all_held (front ++ (name, t) ∷ back) s ≡ all_held front s + (held t.table.entries s + all_held back s)
held-among front back name t s =
    sum_by-append (λ (x : List ℕ × Tenant). held x.1.table.entries s) front ((name, t) ∷ back)
    ∙ ap (λ n. all_held front s + n) (sum_by-cons (λ (x : List ℕ × Tenant). held x.1.table.entries s) (name, t) back)

-- one tenant changed, and the pool with it
pub record Changed (digest : List ℕ → List ℕ) (p q : Cells) (front back : Tenants) (name : List ℕ) (new : Tenant) : Type 0 where
  pub accounts : Accounts digest q (front ++ (name, new) ∷ back)
  pub shown : holdings q (front ++ (name, new) ∷ back) ≡ holdings p front ++ (name, holding_in q new) ∷ holdings p back

pub changed : (digest : List ℕ → List ℕ) (p q : Cells) (front back : Tenants) (name : List ℕ) (old new : Tenant)
    → Accounts digest p (front ++ (name, old) ∷ back) → Stands digest q new → PreservesOthers p old.table.entries q new.table.entries
    → Changed digest p q front back name new
changed digest p q front back name old new h stands leaves = record {
  accounts = record {
    names =
        let n = all_parts _ front ((name, old) ∷ back) h.names in
        all_whole _ front ((name, new) ∷ back) n.0 (n.1.0, n.1.1);
    stands =
        all_whole _ front ((name, new) ∷ back) (stands_beside digest p q _ _ leaves front in_front parts.0)
        (stands, stands_beside digest p q _ _ leaves back in_back parts.1.1);
    counts = λ s.
        let a = held-among front back name old s in
        let b = held-among front back name new s in
        let c = h.counts s in
        let r = leaves.rest s in
        omega arith;
  };
  shown =
      map-append (λ (e : List ℕ × Tenant). (e.0, holding_in q e.1)) front ((name, new) ∷ back)
      ∙ (λ i. holdings_beside p q _ _ leaves front in_front i ++ (name, holding_in q new) ∷ holdings_beside p q _ _ leaves back in_back i);
}
  where
    in_front : (s : ℕ) → all_held front s + held old.table.entries s ≤ holds p s
    in_front s = let a = held-among front back name old s in let c = h.counts s in omega arith

    in_back : (s : ℕ) → all_held back s + held old.table.entries s ≤ holds p s
    in_back s = let a = held-among front back name old s in let c = h.counts s in omega arith

    parts : AllByRecursion (λ e. Stands digest p e.1) front × AllByRecursion (λ e. Stands digest p e.1) ((name, old) ∷ back)
    parts = all_parts _ front ((name, old) ∷ back) h.stands

-- ---- look-ups

pub lookup-holdings : (p : Cells) (name : List ℕ) (es : Tenants) → lookup (bytes_eq name) (holdings p es) ≡ option_map (holding_in p) (lookup (bytes_eq name) es)
lookup-holdings p name [] = refl
lookup-holdings p name (e ∷ es) = by (bytes_eq name e.0) (lookup-holdings p name es)
  where
    by : (b : Bool) → lookup (bytes_eq name) (holdings p es) ≡ option_map (holding_in p) (lookup (bytes_eq name) es)
        → cond b (Some (holding_in p e.1)) (lookup (bytes_eq name) (holdings p es)) ≡ option_map (holding_in p) (cond b (Some e.1) (lookup (bytes_eq name) es))
    by true h = refl
    by false h = h

-- another name's look-up passes an entry by
lookup-past : {X : Type 0} (other name : List ℕ) (xs ys : List (List ℕ × X)) (x : X) → bytes_eq other name ≡ false
    → lookup (bytes_eq other) (xs ++ (name, x) ∷ ys) ≡ lookup (bytes_eq other) (xs ++ ys)
lookup-past other name [] ys x apart = ap (λ (b : Bool). cond b (Some x) (lookup (bytes_eq other) ys)) apart
lookup-past other name (e ∷ xs) ys x apart = ap (λ o. cond (bytes_eq other e.0) (Some e.1) o) (lookup-past other name xs ys x apart)

lookup-found : {X : Type 0} (name : List ℕ) (xs ys : List (List ℕ × X)) (x : X) → lookup (bytes_eq name) xs ≡ None
    → lookup (bytes_eq name) (xs ++ (name, x) ∷ ys) ≡ Some x
lookup-found name [] ys x none = ap (λ (b : Bool). cond b (Some x) (lookup (bytes_eq name) ys)) ((bytes_eq-Decides name name).1 refl)
lookup-found name (e ∷ xs) ys x none = by (bytes_eq name e.0) none (lookup-found name xs ys x)
  where
    by : (b : Bool) → cond b (Some e.1) (lookup (bytes_eq name) xs) ≡ None
        → (lookup (bytes_eq name) xs ≡ None → lookup (bytes_eq name) (xs ++ (name, x) ∷ ys) ≡ Some x)
        → cond b (Some e.1) (lookup (bytes_eq name) (xs ++ (name, x) ∷ ys)) ≡ Some x
    by true e later = cc e
    by false e later = later e

-- where a name's entry stands
pub record Found (name : List ℕ) (es : Tenants) (old new : Tenant) : Type 0 where
  pub front : Tenants
  pub back : Tenants
  pub apart : lookup (bytes_eq name) front ≡ None
  pub is : es ≡ front ++ (name, old) ∷ back
  pub set : set_value (bytes_eq name) es new ≡ front ++ (name, new) ∷ back

pub found : (name : List ℕ) (es : Tenants) (old new : Tenant) → lookup (bytes_eq name) es ≡ Some old → Found name es old new
found name [] old new h = cc h
found name (e ∷ es) old new h = by (bytes_eq name e.0) refl h (found name es old new)
  where
    by : (b : Bool) → bytes_eq name e.0 ≡ b → cond b (Some e.1) (lookup (bytes_eq name) es) ≡ Some old
        → (lookup (bytes_eq name) es ≡ Some old → Found name es old new) → Found name (e ∷ es) old new
    by true here got later =
        let same : name ≡ e.0 = (bytes_eq-Decides name e.0).0 here in
        let value : e.1 ≡ old = cc got in
        record {
          front = [];
          back = es;
          apart = refl;
          is = λ i. (sym same i, value i) ∷ es;
          set =
              ap (λ (b : Bool). cond b ((e.0, new) ∷ es) (e ∷ set_value (bytes_eq name) es new)) here
              ∙ ap (λ (k : List ℕ). (k, new) ∷ es) (sym same);
        }
    by false past got later =
        let f = later got in
        record {
          front = e ∷ f.front;
          back = f.back;
          apart = ap (λ (b : Bool). cond b (Some e.1) (lookup (bytes_eq name) f.front)) past ∙ f.apart;
          is = ap (λ (xs : Tenants). e ∷ xs) f.is;
          set =
              ap (λ (b : Bool). cond b ((e.0, new) ∷ es) (e ∷ set_value (bytes_eq name) es new)) past
              ∙ ap (λ (xs : Tenants). e ∷ xs) f.set;
        }

-- what is put back where it was
pub set-same : (name : List ℕ) (es : Tenants) (t : Tenant) → lookup (bytes_eq name) es ≡ Some t
    → set_value (bytes_eq name) es t ≡ es
set-same name es t got = let f = found name es t t got in f.set ∙ sym f.is

-- ---- a call of a tenant that is there

pub stands-found : (digest : List ℕ → List ℕ) (p : Cells) (name : List ℕ) (es : Tenants) (old : Tenant) → Accounts digest p es
    → lookup (bytes_eq name) es ≡ Some old → Stands digest p old
stands-found digest p name es old h got =
    let f = found name es old old got in
    let all = rw f.is at h.stands in
    (all_parts _ f.front ((name, old) ∷ f.back) all).1.0

-- One tenant has something else, and all others have what they had.
pub record Exchanged (digest : List ℕ → List ℕ) (p : Cells) (es : Tenants) (name : List ℕ)
    (t : Tenant) (q : Cells) (new : Tenants) : Type 0 where
  pub accounts : Accounts digest q new
  pub here : held_of name (holdings q new) ≡ holding_in q t
  pub others : (other : List ℕ) → bytes_eq other name ≡ false
      → held_of other (holdings q new) ≡ held_of other (holdings p es)

pub exchanged : (digest : List ℕ → List ℕ) (name : List ℕ) (p q : Cells) (es : Tenants) (old new : Tenant)
    → Accounts digest p es → lookup (bytes_eq name) es ≡ Some old → Stands digest q new
    → PreservesOthers p old.table.entries q new.table.entries
    → Exchanged digest p es name new q (set_value (bytes_eq name) es new)
exchanged digest name p q es old new h got stands leaves =
    let f = found name es old new got in
    let accounts = subst (λ (xs : Tenants). Accounts digest p xs) f.is h in
    let c = changed digest p q f.front f.back name old new accounts stands leaves in
    let front_apart : lookup (bytes_eq name) (holdings p f.front) ≡ None = lookup-holdings p name f.front ∙ ap (option_map (holding_in p)) f.apart in
    record {
      accounts = rw f.set c.accounts;
      here =
          ap (λ o. unwrap_or o (Idle empty_repository))
          (ap (λ (xs : Tenants). lookup (bytes_eq name) (holdings q xs)) f.set ∙ ap (lookup (bytes_eq name)) c.shown
          ∙ lookup-found name (holdings p f.front) (holdings p f.back) (holding_in q new) front_apart);
      others = λ other apart.
          ap (λ o. unwrap_or o (Idle empty_repository))
          (ap (λ (xs : Tenants). lookup (bytes_eq other) (holdings q xs)) f.set ∙ ap (lookup (bytes_eq other)) c.shown
          ∙ lookup-past other name (holdings p f.front) (holdings p f.back) (holding_in q new) apart
          ∙ sym (lookup-past other name (holdings p f.front) (holdings p f.back) (holding_in p old) apart)
          ∙ ap (lookup (bytes_eq other)) (sym (map-append (λ (e : List ℕ × Tenant). (e.0, holding_in p e.1)) f.front ((name, old) ∷ f.back)))
          ∙ ap (λ (xs : Tenants). lookup (bytes_eq other) (holdings p xs)) (sym f.is));
    }

pub serves-found : (digest : List ℕ → List ℕ) (name : List ℕ) (call : Call) (p q : Cells) (es : Tenants) (old new : Tenant) (answer : Answer) (out out' : List ℕ)
    → Accounts digest p es → lookup (bytes_eq name) es ≡ Some old → Stands digest q new
    → PreservesOthers p old.table.entries q new.table.entries
    → Takes (step_held digest call (stop_told answer) (holding_in p old)) answer out out' (holding_in q new)
    → Serves digest name call (store p es) answer out out' (store q (set_value (bytes_eq name) es new))
serves-found digest name call p q es old new answer out out' h got stands leaves takes =
    let x = exchanged digest name p q es old new h got stands leaves in
    let before : held_of name (holdings p es) ≡ holding_in p old =
    ap (λ o. unwrap_or o (Idle empty_repository)) (lookup-holdings p name es ∙ ap (option_map (holding_in p)) got) in
    record {
      accounts = x.accounts;
      own = rw (before, x.here) takes;
      others = x.others;
    }

-- ---- room

once-all : (digest : List ℕ → List ℕ) (p : Cells) (es : Tenants) → AllByRecursion (λ e. Stands digest p e.1) es → (s : ℕ) → all_held es s ≤ length es
once-all digest p [] all s = omega arith
once-all digest p (e ∷ es) all s =
    let o = all.0.entries.once s in
    let rest = once-all digest p es all.1 s in
    let c = sum_by-cons (λ (x : List ℕ × Tenant). held x.1.table.entries s) e es in
    omega arith

pub ample : (digest : List ℕ → List ℕ) (p : Cells) (es : Tenants) → Accounts digest p es → length es < 2 ^ 63 → HasAmpleHoldsLeft p
ample digest p es h few s = let o = once-all digest p es h.stands s in let c = h.counts s in omega arith

-- ---- a tenant that was never seen

pub held-missing : (p : Cells) (name : List ℕ) (es : Tenants) → lookup (bytes_eq name) es ≡ None → held_of name (holdings p es) ≡ Idle empty_repository
held-missing p name es none =
    ap (λ o. unwrap_or o (Idle empty_repository)) (lookup-holdings p name es ∙ ap (option_map (holding_in p)) none)

-- a call that leaves all as it was
pub serves-missing : (digest : List ℕ → List ℕ) (name : List ℕ) (call : Call) (p : Cells) (es new : Tenants) (answer : Answer) (out : List ℕ)
    → Accounts digest p es → lookup (bytes_eq name) es ≡ None → new ≡ es
    → step_held digest call (stop_told answer) (Idle empty_repository)
    ≡ step_result answer [] (Idle empty_repository)
    → Serves digest name call (store p es) answer out out (store p new)
serves-missing digest name call p es new answer out h none same is =
    rw same
    (record {
      accounts = h;
      own =
          rw (held-missing p name es none)
          (record {
            answered = ap (λ (t : StepResult TenantState). t.answer) is;
            printed = sym (append-nil out) ∙ ap (λ (t : StepResult TenantState). out ++ t.reply) (sym is);
            leaves = ap (λ (t : StepResult TenantState). t.state) is;
          });
      others = λ other apart. refl;
    })

-- one that answers of what is held, and changes nothing
pub serves-same : (digest : List ℕ → List ℕ) (name : List ℕ) (call : Call) (p : Cells) (es : Tenants) (held : TenantState) (answer : Answer) (out out' : List ℕ)
    → Accounts digest p es → held_of name (holdings p es) ≡ held
    → Takes (step_held digest call (stop_told answer) held) answer out out' held
    → Serves digest name call (store p es) answer out out' (store p es)
serves-same digest name call p es held answer out out' h is takes = record {
  accounts = h;
  own = rw is takes;
  others = λ other apart. refl;
}

-- a tenant without anything
nobody : Tenant
nobody = record {
  table = record { entries = []; committed = 0 };
  refs = no_refs;
  phase = phase.Closed;
  chain = [];
}

-- another tenant comes to these
added : (digest : List ℕ → List ℕ) (name : List ℕ) (p q : Cells) (es : Tenants) (t : Tenant)
    → Accounts digest p es → is_tenant_name name ≡ true → lookup (bytes_eq name) es ≡ None
    → Stands digest q t → PreservesOthers p [] q t.table.entries
    → Exchanged digest p es name t q (es ++ (name, t) ∷ [])
unfolding nobody
added digest name p q es t h named none stands leaves =
    let with : Accounts digest p (es ++ (name, nobody) ∷ []) = record {
      names = all_whole _ es ((name, nobody) ∷ []) h.names (named, tt);
      stands =
          all_whole _ es ((name, nobody) ∷ []) h.stands
          (record { entries = IsBackedBy-nil digest p; settled = refl; opened = tt; files = tt; chain = tt }, tt);
      counts = λ s.
          let a = held-among es [] name nobody s in
          let z = held-nil s in
          let c = h.counts s in
          omega arith;
    } in
    let c = changed digest p q es [] name nobody t with stands leaves in
    record {
      accounts = c.accounts;
      here =
          ap (λ o. unwrap_or o (Idle empty_repository))
          (ap (lookup (bytes_eq name)) c.shown
          ∙ lookup-found name (holdings p es) [] (holding_in q t) (lookup-holdings p name es ∙ ap (option_map (holding_in p)) none));
      others = λ other apart.
          ap (λ o. unwrap_or o (Idle empty_repository))
          (ap (lookup (bytes_eq other)) c.shown
          ∙ lookup-past other name (holdings p es) [] (holding_in q t) apart
          ∙ ap (lookup (bytes_eq other)) (append-nil (holdings p es)));
    }

-- one that adds it
pub serves-new : (digest : List ℕ → List ℕ) (name : List ℕ) (call : Call) (p : Cells) (es new : Tenants) (t : Tenant) (answer : Answer) (out out' : List ℕ)
    → Accounts digest p es → is_tenant_name name ≡ true → lookup (bytes_eq name) es ≡ None → new ≡ es ++ (name, t) ∷ []
    → t.table.entries ≡ [] → Stands digest p t
    → Takes (step_held digest call (stop_told answer) (Idle empty_repository)) answer out out' (holding_in p t)
    → Serves digest name call (store p es) answer out out' (store p new)
serves-new digest name call p es new t answer out out' h named none same empty stands takes =
    let x = added digest name p p es t h named none stands
    (rw empty (PreservesOthers-refl p [])) in
    rw same
    (record {
      accounts = x.accounts;
      own =
          rw (held-missing p name es none)
          (rw x.here takes);
      others = x.others;
    })

-- ---- a tenant is put under a name that has nothing

-- without holds of its own nothing changes
pub record Kept (digest : List ℕ → List ℕ) (p q : Cells) (es : Tenants) : Type 0 where
  pub accounts : Accounts digest q es
  pub shown : holdings q es ≡ holdings p es

pub kept : (digest : List ℕ → List ℕ) (p q : Cells) (es : Tenants) → Accounts digest p es
    → PreservesOthers p [] q [] → Kept digest p q es
kept digest p q es h leaves =
    let bound : (s : ℕ) → all_held es s + held [] s ≤ holds p s =
    λ s. let c = h.counts s in let z = held-nil s in omega arith in
    record {
      accounts = record {
        names = h.names;
        stands = stands_beside digest p q [] [] leaves es bound h.stands;
        counts = λ s. let c = h.counts s in let r = leaves.rest s in omega arith;
      };
      shown = holdings_beside p q [] [] leaves es bound;
    }

insert-found : (name : List ℕ) (es : Tenants) (old new : Tenant) → lookup (bytes_eq name) es ≡ Some old
    → insert_entry bytes_eq es name new ≡ set_value (bytes_eq name) es new
insert-found name [] old new h = cc h
insert-found name (e ∷ es) old new h = by (bytes_eq name e.0) h (insert-found name es old new)
  where
    by : (b : Bool) → cond b (Some e.1) (lookup (bytes_eq name) es) ≡ Some old
        → (lookup (bytes_eq name) es ≡ Some old → insert_entry bytes_eq es name new ≡ set_value (bytes_eq name) es new)
        → cond b ((e.0, new) ∷ es) (e ∷ insert_entry bytes_eq es name new)
        ≡ cond b ((e.0, new) ∷ es) (e ∷ set_value (bytes_eq name) es new)
    by true got later = refl
    by false got later = ap (λ (xs : Tenants). e ∷ xs) (later got)

insert-missing : (name : List ℕ) (es : Tenants) (new : Tenant) → lookup (bytes_eq name) es ≡ None
    → insert_entry bytes_eq es name new ≡ es ++ (name, new) ∷ []
insert-missing name [] new h = refl
insert-missing name (e ∷ es) new h = by (bytes_eq name e.0) h (insert-missing name es new)
  where
    by : (b : Bool) → cond b (Some e.1) (lookup (bytes_eq name) es) ≡ None
        → (lookup (bytes_eq name) es ≡ None → insert_entry bytes_eq es name new ≡ es ++ (name, new) ∷ [])
        → cond b ((e.0, new) ∷ es) (e ∷ insert_entry bytes_eq es name new) ≡ e ∷ (es ++ (name, new) ∷ [])
    by true none later = cc none
    by false none later = ap (λ (xs : Tenants). e ∷ xs) (later none)

no-entries : (es : Entries) → length es ≡ 0 → es ≡ []
no-entries [] none = refl
no-entries (x ∷ es) none = absurd (omega (arith, none))

nothing-in : (ph : OpenStream) (p : Cells) (t : View) (r : RefStore)
    → held_in ph p t r ≡ Idle empty_repository → t.entries ≡ []
nothing-in phase.Closed p t r h =
    let is : record { objects = objects p t.entries; refs = r } ≡ empty_repository = cc h in
    no-entries t.entries
    (sym (length-objects p t.entries) ∙ ap (λ (x : Repository). length x.objects) is)
nothing-in (phase.Running opened stream) p t r h = cc h
nothing-in (phase.Dead opened code) p t r h = cc h

pub put : (digest : List ℕ → List ℕ) (name : List ℕ) (p q : Cells) (es : Tenants) (t : Tenant)
    → Accounts digest p es → is_tenant_name name ≡ true
    → held_of name (holdings p es) ≡ Idle empty_repository → Stands digest q t
    → PreservesOthers p [] q t.table.entries
    → Exchanged digest p es name t q (insert_entry bytes_eq es name t)
put digest name p q es t h named nothing stands leaves = by (lookup (bytes_eq name) es) refl
  where
    by : (o : Option Tenant) → lookup (bytes_eq name) es ≡ o
        → Exchanged digest p es name t q (insert_entry bytes_eq es name t)
    by None none =
        subst (Exchanged digest p es name t q) (sym (insert-missing name es t none))
        (added digest name p q es t h named none stands leaves)
    by (Some old) got =
        let before : held_of name (holdings p es) ≡ holding_in p old =
        ap (λ o. unwrap_or o (Idle empty_repository)) (lookup-holdings p name es ∙ ap (option_map (holding_in p)) got) in
        let empty = nothing-in old.phase p old.table old.refs (sym before ∙ nothing) in
        subst (Exchanged digest p es name t q) (sym (insert-found name es old t got))
        (exchanged digest name p q es old t h got stands
        (rw empty leaves))

-- a call under a good name
pub calls-good : (digest : List ℕ → List ℕ) (given name : List ℕ) (call : Call) (before : Store)
    (answer : Answer) (out out' : List ℕ) (after : Store)
    → is_tenant_name given ≡ true → name ≡ given
    → Serves digest name call before answer out out' after
    → Calls digest (is_tenant_name given) given call before answer out out' after
calls-good digest given name call before answer out out' after good same serves =
    rw good (rw (← same) serves)

-- one that prints nothing does so whatever was printed before
pub serves-silent : (digest : List ℕ → List ℕ) (name : List ℕ) (call : Call) (before : Store)
    (answer : Answer) (out : List ℕ) (after : Store)
    → Serves digest name call before answer [] [] after
    → Serves digest name call before answer out out after
serves-silent digest name call before answer out after serves = record {
  accounts = serves.accounts;
  own = record {
    answered = serves.own.answered;
    printed = sym (append-nil out) ∙ ap (λ (reply : List ℕ). out ++ reply) serves.own.printed;
    leaves = serves.own.leaves;
  };
  others = serves.others;
}

-- nothing at all
pub Accounts-nil : (digest : List ℕ → List ℕ) (p : Cells) → IsVacant p → Accounts digest p []
Accounts-nil digest p vacant = record { names = tt; stands = tt; counts = vacant }

-- a table that stays leaves all others
pub leaves-same : (p : Cells) (old new : View) → new ≡ old → PreservesOthers p old.entries p new.entries
leaves-same p old new same = rw same (PreservesOthers-refl p old.entries)

-- a bad name has no tenant
pub bad-missing : (name : List ℕ) (es : Tenants) → AllByRecursion (λ e. is_tenant_name e.0 ≡ true) es → is_tenant_name name ≡ false
    → lookup (bytes_eq name) es ≡ None
bad-missing name [] named bad = refl
bad-missing name (e ∷ es) named bad = by (bytes_eq name e.0) refl (bad-missing name es named.1 bad)
  where
    by : (b : Bool) → bytes_eq name e.0 ≡ b → lookup (bytes_eq name) es ≡ None → cond b (Some e.1) (lookup (bytes_eq name) es) ≡ None
    by true here rest =
        let both : false ≡ true = sym bad ∙ ap is_tenant_name ((bytes_eq-Decides name e.0).0 here) ∙ named.0 in cc both
    by false past rest = rest

-- the tenant of a name
pub held-found : (p : Cells) (name : List ℕ) (es : Tenants) (t : Tenant) → lookup (bytes_eq name) es ≡ Some t → held_of name (holdings p es) ≡ holding_in p t
held-found p name es t got =
    ap (λ o. unwrap_or o (Idle empty_repository)) (lookup-holdings p name es ∙ ap (option_map (holding_in p)) got)
