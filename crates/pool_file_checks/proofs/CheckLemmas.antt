-- Checks that are made one after another.
use Rattle.std.proofs.Common.{◌≡◌, ℕ, ◌≤◌, Bool, length, List, [], ◌∷◌, ◌++◌, codes, Option, Some, Result, Ok, Err, refl, sym, ap, subst, ◌∙◌, arith, inl, inr}
use Rattle.std.specs.Prelude.{◌↔◌, ◌==◌, if◌then◌else◌, IfOk, IsTrue}
use Rattle.std.proofs.Math.Dec.{leb}
use Rattle.std.proofs.lemmas.Bool.{le-leb, leb-true}
use Rattle.std.proofs.lemmas.List.{length-append}
use Rattle.git_model.specs.declared.kind.Kind.{Kind}
use Rattle.git_model.specs.declared.kind.Kind.TheVariants as kind
use Rattle.git_model.specs.Content.{content_from}
use Rattle.git_model.specs.Tag.{Tag, CanWriteTag, tag_contents}
use Rattle.git_model.specs.Commit.{Commit, CanWriteCommit, commit_contents}
use Rattle.git_model.specs.GoodRepository.{IsCommit, IsTag}
use Rattle.pool_file_format.specs.declared.refusal.Refusal.{Refusal}
use Rattle.pool_file_format.specs.declared.fault.Fault.{Fault}
use Rattle.pool_file_format.specs.declared.fault.Fault.TheVariants as fault
use Rattle.pool_file_format.specs.Format.{RawObject}
use Rattle.pool_file_checks.specs.Checks.{Checks, Passes, Refuses, Checked}
use Rattle.pool_file_checks.specs.Objects.{kind_byte, IsText, IsContent, object_key, CanStore, object_checks}

-- What is left of some checks decides them.
pub record Leads (rest whole : Checks) : Type 0 where
  pub passes : Passes rest → Passes whole
  pub refuses : (r : Refusal) → Refuses rest r → Refuses whole r

pub leads_same : (cs : Checks) → Leads cs cs
leads_same cs = record { passes = λ p. p; refuses = λ r p. p }

-- One check holds.
pub leads_on : (P : Type 0) (r : Refusal) (rest whole : Checks) → Leads ((P, r) ∷ rest) whole → P → Leads rest whole
leads_on P r rest whole l p = record { passes = λ q. l.passes (p, q); refuses = λ s q. l.refuses s (inr (p, q)) }

-- A front of the checks holds.
pub leads_front : (front rest whole : Checks) → Leads (front ++ rest) whole → Passes front → Leads rest whole
leads_front [] rest whole l p = l
leads_front (c ∷ cs) rest whole l p = leads_front cs rest whole (leads_on c.0 c.1 (cs ++ rest) whole l p.0) p.1

-- A check of a front refuses.
front_refuses : (front rest : Checks) (r : Refusal) → Refuses front r → Refuses (front ++ rest) r
front_refuses [] rest r p = absurd p
front_refuses (c ∷ cs) rest r (inl p) = inl p
front_refuses (c ∷ cs) rest r (inr p) = inr (p.0, front_refuses cs rest r p.1)

pub stops : (front rest whole : Checks) (e : Fault) → Leads (front ++ rest) whole → Checked front (Err e) → Checked whole (Err e)
stops front rest whole (fault.Refused r) l p = l.refuses r (front_refuses front rest r p)
stops front rest whole fault.Memory l p = tt
stops front rest whole fault.Device l p = absurd p

-- No two refusals are first.
pub refuses_once : (cs : Checks) (r s : Refusal) → Refuses cs r → Refuses cs s → r ≡ s
refuses_once [] r s p q = absurd p
refuses_once (c ∷ cs) r s (inl p) (inl q) = p.1 ∙ sym q.1
refuses_once (c ∷ cs) r s (inl p) (inr q) = absurd (p.0 q.0)
refuses_once (c ∷ cs) r s (inr p) (inl q) = absurd (q.0 p.0)
refuses_once (c ∷ cs) r s (inr p) (inr q) = refuses_once cs r s p.1 q.1

pub passes_or_refuses : (cs : Checks) (r : Refusal) → Passes cs → Refuses cs r → ⊥
passes_or_refuses [] r p q = q
passes_or_refuses (c ∷ cs) r p (inl q) = q.0 p.0
passes_or_refuses (c ∷ cs) r p (inr q) = passes_or_refuses cs r p.1 q.1

-- ---- contents

pub either : {E : Type 0} (P Q : Type 0) (r : Result Bool E) → (P → Q) → (Q → P) → IfOk r (λ b. IsTrue b ↔ P) → IfOk r (λ b. IsTrue b ↔ Q)
either P Q (Ok b) f g h = (λ t. f (h.0 t), λ q. h.1 (g q))
either P Q (Err e) f g h = tt

pub is_kept : {E : Type 0} (k : Kind) (bytes : List ℕ) (r : Result Bool E) → length bytes ≤ 134217728
    → IfOk r (λ b. IsTrue b ↔ IsText k bytes) → IfOk r (λ b. IsTrue b ↔ IsContent (content_from k bytes))
is_kept k bytes r short h = either (IsText k bytes) (IsContent (content_from k bytes)) r (λ t. (short, t)) (λ q. q.1) h

-- A commit that was read is one within the limits where it has not too many parents.
pub commit_fits : (bytes : List ℕ) (made : Commit) (parents : List (List ℕ)) → parents ≡ made.parents → CanWriteCommit made → bytes ≡ commit_contents made
    → ((c : Commit) → CanWriteCommit c → bytes ≡ commit_contents c → made ≡ c) → IsTrue (leb (length parents) 1024) ↔ ((c : Commit) × IsCommit bytes c)
commit_fits bytes made parents same writable contents only = (
  λ few. (
    made,
    record {
      writable = writable;
      contents = contents;
      few_parents = subst (λ (ps : List (List ℕ)). length ps ≤ 1024) same (leb-true (length parents) 1024 few);
    },
  ),
  λ x. le-leb (length parents) 1024 (subst (λ (ps : List (List ℕ)). length ps ≤ 1024)
      (sym (same ∙ ap (λ (c : Commit). c.parents) (only x.0 x.1.writable x.1.contents))) x.1.few_parents),
)

-- A tag that was read is one within the limits where its name is not too long.
pub tag_fits : (bytes : List ℕ) (made : Tag) → CanWriteTag made → bytes ≡ tag_contents made
    → ((t : Tag) → CanWriteTag t → bytes ≡ tag_contents t → made ≡ t) → IsTrue (leb (length made.name) 1014) ↔ ((t : Tag) × IsTag bytes t)
tag_fits bytes made writable contents only = (
  λ short. (
    made,
    record {
      writable = writable;
      contents = contents;
      short_name = let l = leb-true (length made.name) 1014 short in let s = length-append (codes "refs/tags/") made.name in omega (arith, l, s);
    },
  ),
  λ x. le-leb (length made.name) 1014 (
      let n = ap (λ (t : Tag). length t.name) (only x.0 x.1.writable x.1.contents) in let s = length-append (codes "refs/tags/") x.0.name in
      let l = x.1.short_name in omega (arith, n, s, l)
      ),
)

-- The kind of a byte.
abbrev kind_of : ℕ → Kind
kind_of byte = if byte == 1 then kind.Commit else if byte == 2 then kind.Tree else if byte == 4 then kind.Tag else kind.Blob

pub kind_again : (k : Kind) → kind_of (kind_byte k) ≡ k
kind_again kind.Commit = refl
kind_again kind.Tree = refl
kind_again kind.Blob = refl
kind_again kind.Tag = refl

pub is_stored : {E : Type 0} (o : RawObject) (k : Kind) (r : Result Bool E) → kind_byte k ≡ o.kind
    → IfOk r (λ b. IsTrue b ↔ IsContent (content_from k o.bytes)) → IfOk r (λ b. IsTrue b ↔ CanStore o)
is_stored o k r byte h = either (IsContent (content_from k o.bytes)) (CanStore o) r there back h
  where
    there : IsContent (content_from k o.bytes) → CanStore o
    there t = (content_from k o.bytes, ap (λ (n : ℕ). record { kind = n; bytes = o.bytes }) (sym byte), t)

    back : CanStore o → IsContent (content_from k o.bytes)
    back q =
        let same : q.0.kind ≡ k = sym (kind_again q.0.kind) ∙ ap (λ (n : ℕ). kind_of n) (sym (ap (λ (x : RawObject). x.kind) q.1) ∙ sym byte) ∙ kind_again k in
        let bytes : q.0.bytes ≡ o.bytes = sym (ap (λ (x : RawObject). x.bytes) q.1) in
        subst (λ (l : List ℕ). IsContent (content_from k l)) bytes (subst (λ (j : Kind). IsContent (content_from j q.0.bytes)) same q.2)

-- ---- objects in turn

pub object_on : (last : Option (List ℕ)) (o : RawObject) (os : List RawObject) (whole : Checks) → Leads (object_checks last (o ∷ os)) whole
    → Checked (object_checks last (o ∷ [])) (Ok tt) → Leads (object_checks (Some (object_key o)) os) whole
object_on last o os whole l p = leads_front (object_checks last (o ∷ [])) (object_checks (Some (object_key o)) os) whole l p

pub object_stops : (last : Option (List ℕ)) (o : RawObject) (os : List RawObject) (whole : Checks) (e : Fault) → Leads (object_checks last (o ∷ os)) whole
    → Checked (object_checks last (o ∷ [])) (Err e) → Checked whole (Err e)
object_stops last o os whole e l p = stops (object_checks last (o ∷ [])) (object_checks (Some (object_key o)) os) whole e l p
