-- Refs and what they may hold.
use Rattle.std.proofs.Common.{◌≡◌, ℕ, ◌<◌, Bool, List, [], ◌∷◌, ◌++◌, length, map, None, codes, sym, ap, subst, ◌∙◌, inl, inr}
use Rattle.std.specs.Prelude.{◌≢◌, ◌↔◌, All, IsTrue, IfSome, IfOk, Result}
use Rattle.git_model.specs.declared.kind.Kind.{Kind}
use Rattle.git_model.specs.declared.kind.Kind.TheVariants as kind
use Rattle.git_model.specs.Tag.{Tag, CanWriteTag, tag_contents}
use Rattle.git_model.specs.GoodRepository.{IsShortRefName}
use Rattle.pool_file_format.specs.declared.raw.RawRef.{RawRef as Ref}
use Rattle.pool_file_format.specs.Shown.{refs_of}
use Rattle.pool_file_format.specs.Format.{RawObject, RawRef}
use Rattle.pool_file_checks.specs.Objects.{kind_byte}
use Rattle.pool_file_checks.specs.FileRefs.{AreRising, IsOwnTag, MayTarget, target_at, IsGoodRef}
use Rattle.pool_file_checks.proofs.CheckLemmas.{either}

same_rest : (front x y : List ℕ) → front ++ x ≡ front ++ y → x ≡ y
same_rest [] x y e = e
same_rest (b ∷ front) x y e = let rest : front ++ x ≡ front ++ y = cc in same_rest front x y rest

-- What is no kind's is no target.
pub no_target : (ref : List ℕ) (o : RawObject) → ((k : Kind) → kind_byte k ≢ o.kind) → MayTarget ref o → ⊥
no_target ref o none (inl e) = none kind.Commit (sym e)
no_target ref o none (inr p) = none kind.Tag (sym p.0)

pub good_ref : {E : Type 0} (front : List ℕ) (os : List RawObject) (numbers : List ℕ) (r : RawRef) (name : List ℕ)
    (answer : Result Bool E) → r.name ≡ front ++ name
    → IfOk answer (λ b. IsTrue b ↔ (IsShortRefName name × IfSome (target_at os numbers r.place) (MayTarget name)))
    → IfOk answer (λ b. IsTrue b ↔ IsGoodRef front os numbers r)
good_ref front os numbers r name answer is h =
    either (IsShortRefName name × IfSome (target_at os numbers r.place) (MayTarget name)) (IsGoodRef front os numbers r) answer
    (λ p. record { ref = name; full = is; name = p.0; target = p.1 })
    (λ g. let same = same_rest front g.ref name (sym g.full ∙ is) in
    subst (λ (l : List ℕ). IsShortRefName l × IfSome (target_at os numbers r.place) (MayTarget l)) same (g.name, g.target))
    h

pub same_places : (numbers others : List ℕ) (refs more : List Ref) → numbers ≡ others → refs ≡ more
    → All (λ r. r.place < length numbers) (refs_of refs) → All (λ r. r.place < length others) (refs_of more)
same_places numbers others refs more n r placed =
    subst (λ (ns : List ℕ). All (λ r. r.place < length ns) (refs_of more)) n
    (subst (λ (rs : List Ref). All (λ r. r.place < length numbers) (refs_of rs)) r placed)

pub same_rising : (refs more : List Ref) → refs ≡ more → AreRising None (map (λ r. r.name) (refs_of refs)) → AreRising None (map (λ r. r.name) (refs_of more))
same_rising refs more r rising = subst (λ (rs : List Ref). AreRising None (map (λ r. r.name) (refs_of rs))) r rising

-- The ref of a tag that was read.
pub own_tag : (ref bytes : List ℕ) (made : Tag) (is : Bool) → CanWriteTag made → bytes ≡ tag_contents made
    → ((t : Tag) → CanWriteTag t → bytes ≡ tag_contents t → made ≡ t)
    → IsTrue is ↔ (ref ≡ codes "refs/tags/" ++ made.name) → IsTrue is ↔ IsOwnTag ref bytes
own_tag ref bytes made is writable contents only h = (
  λ e. record { tag = made; writable = writable; contents = contents; ref_is = h.0 e },
  λ own. h.1 (own.ref_is ∙ ap (λ (t : Tag). codes "refs/tags/" ++ t.name) (sym (only own.tag own.writable own.contents))),
)
