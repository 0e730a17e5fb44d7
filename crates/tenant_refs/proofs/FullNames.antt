-- Full names of different tenants or refs differ.
use Rattle.std.proofs.Common.{◌≡◌, ◌==◌, ℕ, Bool, true, false, cond, List, [], ◌∷◌, ◌++◌, map, codes, refl, sym, ap, subst, ◌∙◌, inl, inr, arith, append_assoc, append-nil, true≢false}
use Rattle.std.specs.List.{flat_map, onto_first, join_with_byte, AllByRecursion}
use Rattle.std.proofs.lemmas.List.Splits.{join_with_byte-slice_split}
use Rattle.std.proofs.lemmas.Grind.{flat_map-append}
use Rattle.std.proofs.lemmas.List.{map-append}
use Rattle.git_model.specs.Bytes.{BeginsWith}
use Rattle.tenant_refs.specs.StoredName.{NamesRef}
use Rattle.tenant_refs.specs.TenantName.{parts_of}
use Rattle.tenant_refs.specs.FullName.{namespace_of, full_name, IsFullNameOfNoOther}

-- one more part
pub flat_map-more : {A : Type 0} (now : A → List ℕ) (parts : List A) (part : A)
    → flat_map namespace_of (map now (parts ++ part ∷ [])) ≡ flat_map namespace_of (map now parts) ++ namespace_of (now part)
flat_map-more now parts part =
    ap (flat_map namespace_of) (map-append now parts (part ∷ []))
    ∙ flat_map-append namespace_of (map now parts) (now part ∷ [])
    ∙ ap (λ l. flat_map namespace_of (map now parts) ++ l) (append-nil (namespace_of (now part)))

-- what is pushed for a part is its namespace
pub pushed : (full part : List ℕ)
    → ((full ++ codes "refs/namespaces/") ++ part) ++ 47 ∷ [] ≡ full ++ namespace_of part
pushed full part = simp append_assoc

HasNoSlash : List ℕ → Type 0
HasNoSlash part = AllByRecursion (λ byte. (byte == 47) ≡ false) part

-- what stands between slashes has none
onto_first-slash : (b : ℕ) (parts : List (List ℕ)) → (b == 47) ≡ false
    → AllByRecursion HasNoSlash parts → AllByRecursion HasNoSlash (onto_first b parts)
unfolding HasNoSlash
onto_first-slash b [] e h = ((e, tt), tt)
onto_first-slash b (part ∷ parts) e h = ((e, h.0), h.1)

slash_split : (b : ℕ) (parts : List (List ℕ)) → AllByRecursion HasNoSlash parts → (t : Bool)
    → (b == 47) ≡ t
    → AllByRecursion HasNoSlash (cond t ([] ∷ parts) (onto_first b parts))
unfolding HasNoSlash
slash_split b parts h true e = (tt, h)
slash_split b parts h false e = onto_first-slash b parts e h

parts_of-slash : (text : List ℕ) → AllByRecursion HasNoSlash (parts_of text)
unfolding HasNoSlash
parts_of-slash [] = (tt, tt)
parts_of-slash (b ∷ bs) = slash_split b (parts_of bs) (parts_of-slash bs) (b == 47) refl

-- two parts that end at the first slash
cut : (p u x y : List ℕ) → HasNoSlash p → HasNoSlash u → p ++ 47 ∷ x ≡ u ++ 47 ∷ y
    → (p ≡ u) × (x ≡ y)
unfolding HasNoSlash
cut [] [] x y f g e = (refl, cc)
cut [] (c ∷ u) x y f g e =
    let same : c ≡ 47 = cc in absurd (true≢false (subst (λ (b : ℕ). (b == 47) ≡ false) same g.0))
cut (b ∷ p) [] x y f g e =
    let same : b ≡ 47 = cc in absurd (true≢false (subst (λ (b : ℕ). (b == 47) ≡ false) same f.0))
cut (b ∷ p) (c ∷ u) x y f g e =
    let tails : p ++ 47 ∷ x ≡ u ++ 47 ∷ y = cc in
    let heads : b ≡ c = cc in
    let rest = cut p u x y f.1 g.1 tails in
    (λ i. heads i ∷ rest.0 i, rest.1)

same_rest : (front x y : List ℕ) → front ++ x ≡ front ++ y → x ≡ y
same_rest [] x y e = e
same_rest (b ∷ front) x y e = let rest : front ++ x ≡ front ++ y = cc in same_rest front x y rest

spread : (p x r : List ℕ) → ((p ++ 47 ∷ []) ++ x) ++ r ≡ p ++ 47 ∷ (x ++ r)
spread p x r = simp append_assoc

abbrev spaces : List (List ℕ) → List ℕ
spaces parts = flat_map namespace_of parts

same_parts : (ps us : List (List ℕ)) (r s : List ℕ) → AllByRecursion HasNoSlash ps
    → AllByRecursion HasNoSlash us
    → ¬ BeginsWith r (codes "refs/namespaces/") → ¬ BeginsWith s (codes "refs/namespaces/")
    → spaces ps ++ r ≡ spaces us ++ s → (ps ≡ us) × (r ≡ s)
same_parts [] [] r s f g no_r no_s e = (refl, e)
same_parts [] (u ∷ us) r s f g no_r no_s e = absurd (no_r (((u ++ 47 ∷ []) ++ spaces us) ++ s, e))
same_parts (p ∷ ps) [] r s f g no_r no_s e =
    absurd (no_s (((p ++ 47 ∷ []) ++ spaces ps) ++ r, sym e))
same_parts (p ∷ ps) (u ∷ us) r s f g no_r no_s e =
    let tails : ((p ++ 47 ∷ []) ++ spaces ps) ++ r ≡ ((u ++ 47 ∷ []) ++ spaces us) ++ s = same_rest (codes "refs/namespaces/") _ _ e in
    let here = cut p u (spaces ps ++ r) (spaces us ++ s) f.0 g.0 (sym (spread p (spaces ps) r) ∙ tails ∙ spread u (spaces us) s) in
    let rest = same_parts ps us r s f.1 g.1 no_r no_s here.1 in
    (λ i. here.0 i ∷ rest.0 i, rest.1)

joined : (t u : List ℕ) → parts_of t ≡ parts_of u → t ≡ u
joined t u e =
    sym (join_with_byte-slice_split 47 t) ∙ ap (join_with_byte 47) e
    ∙ join_with_byte-slice_split 47 u

other_first : (a b : ℕ) (x y : List ℕ) → a ∷ x ≡ b ∷ y → a ≡ b
other_first a b x y e = cc

-- what names a ref of a tenant lies in no namespace
no_namespace : (ref : List ℕ) → NamesRef ref → ¬ BeginsWith ref (codes "refs/namespaces/")
no_namespace ref (inl name) h = name.is_no_namespace h
no_namespace ref (inr head) h =
    let same : ◌≡◌ {A = ℕ} 72 114 = other_first _ _ _ _ (sym head ∙ h.1) in absurd (omega arith)

pub full_name-one : (full tenant ref : List ℕ) → NamesRef ref → full ≡ full_name tenant ref
    → IsFullNameOfNoOther full tenant ref
unfolding full_name
full_name-one full tenant ref named is = record {
  tenant_is = λ t r no_r e. joined t tenant (same t r no_r e).0;
  ref_is = λ t r no_r e. (same t r no_r e).1;
}
  where
    same : (t r : List ℕ) → ¬ BeginsWith r (codes "refs/namespaces/") → full_name t r ≡ full
        → (parts_of t ≡ parts_of tenant) × (r ≡ ref)
    same t r no_r e =
        same_parts (parts_of t) (parts_of tenant) r ref (parts_of-slash t)
        (parts_of-slash tenant) no_r (no_namespace ref named) (e ∙ is)
