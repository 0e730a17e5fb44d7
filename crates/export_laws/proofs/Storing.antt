-- An object of a repository is stored among others of it.
use Rattle.std.proofs.Common.{◌≡◌, ℕ, ◌≤◌, true, false, nat_le, nat_lt, List, [], ◌∷◌, ◌++◌, length, Option, None, Some, refl, sym, ap, ◌∙◌, inl, inr, arith}
use Rattle.std.specs.Prelude.{is_some}
use Rattle.std.specs.Str.{bytes_eq}
use Rattle.std.proofs.lemmas.Bool.{cases_Bool, le-ltb, lt-leb}
use Rattle.std.proofs.lemmas.Slice.Eq.{bytes_eq-Decides}
use Rattle.git_model.specs.Content.{Content}
use Rattle.git_model.specs.Reach.{is_referred_to}
use Rattle.git_model.specs.Repository.{Object, Repository, object_named, with_object}
use Rattle.git_model.proofs.Growing.{longer, after_prefix}
use Rattle.git_model.proofs.Places.{first_named, later_named, nothing_named, stands_at}
use Rattle.content_pool.proofs.StoredLemmas.{same_content-decides}
use Rattle.tenant_tables.specs.declared.table.TheConstants.{CONTENTS_LIMIT, OBJECTS_LIMIT}
use Rattle.tenant_tables.specs.Adding.{store_fault}
use Rattle.export_laws.specs.Told.{AreOf}
use Rattle.export_laws.proofs.Room.{added-distinct, room}

abbrev pub object_of : List ℕ → Content → Object
object_of id c = record { id = id; content = c }

-- an object that is there stays where others come after it
pub named-longer : (os more : List Object) (id : List ℕ) (c : Content) → object_named id os ≡ Some c
    → object_named id (os ++ more) ≡ Some c
named-longer os more id c is = (longer id os more (stands_at id os c is).within).object ∙ is

-- what a list of one object has
only-one : (o : Object) (id : List ℕ) (c : Content) → object_named id (o ∷ []) ≡ Some c
    → (id ≡ o.id) × (c ≡ o.content)
only-one o id c is = elim (cases_Bool (bytes_eq id o.id)) [
  | inl yea ↦ ((bytes_eq-Decides id o.id).0 yea, let f = first_named id o [] yea in cc)
  | inr nay ↦ (let none = later_named id o [] nay ∙ nothing_named id in cc)
]

-- what is found among some objects and one more
pub found-last : {P : Type 0} (os : List Object) (o : Object) (x : List ℕ) (d : Content)
    → object_named x (os ++ o ∷ []) ≡ Some d → (object_named x os ≡ Some d → P)
    → (x ≡ o.id → d ≡ o.content → P) → P
found-last {P} os o x d h old new = by (object_named x os) refl
  where
    by : (found : Option Content) → object_named x os ≡ found → P
    by None e =
        let one = only-one o x d (sym (after_prefix x os (o ∷ []) e) ∙ h) in new one.0 one.1
    by (Some other) e = old (e ∙ sym (named-longer os (o ∷ []) x other e) ∙ h)

-- What storing an object of the repository leaves.
pub record IsStored (repository : Repository) (held : List Object) (id : List ℕ) (c : Content)
    : Type 0 where
  pub unrefused : store_fault id c held ≡ None
  pub of : AreOf repository (with_object id c held)
  pub named : object_named id (with_object id c held) ≡ Some c
  pub kept : (x : List ℕ) (d : Content) → object_named x held ≡ Some d
      → object_named x (with_object id c held) ≡ Some d

module _ (repository : Repository) (held : List Object) (of : AreOf repository held)
    (few : length repository.objects ≤ OBJECTS_LIMIT) (id : List ℕ) (c : Content)
    (is : object_named id repository.objects ≡ Some c) (reached : is_referred_to repository id ≡ true)
    (short : length c.bytes ≤ CONTENTS_LIMIT) where
  fits : nat_lt CONTENTS_LIMIT (length c.bytes) ≡ false
  fits = le-ltb CONTENTS_LIMIT (length c.bytes) short

  there-already : object_named id held ≡ Some c → IsStored repository held id c
  unfolding store_fault
  there-already has = record {
    unrefused = let own = (same_content-decides c c).1 refl in rw (fits, has, own) refl;
    of = rw has of;
    named = rw has has;
    kept = λ x d h. rw has h;
  }

  has-room : object_named id held ≡ None → nat_le OBJECTS_LIMIT (length held) ≡ false
  has-room none =
      let lt = room repository.objects held of.distinct (λ x d h. ap is_some (of.same x d h)) id none (ap is_some is) in
      lt-leb OBJECTS_LIMIT (length held) (omega (arith, lt, few))

  module _ (none : object_named id held ≡ None) where
    of-more : AreOf repository (held ++ object_of id c ∷ [])
    of-more = record {
      same = λ x d h. found-last held (object_of id c) x d h (of.same x d)
          (λ same content. ap (λ (y : List ℕ). object_named y repository.objects) same ∙ is ∙ ap Some (sym content));
      reached = λ x d h. found-last held (object_of id c) x d h (of.reached x d)
          (λ same content. ap (is_referred_to repository) same ∙ reached);
      distinct = added-distinct (object_of id c) held none of.distinct;
    }

    comes-new : IsStored repository held id c
    unfolding store_fault
    comes-new = record {
      unrefused = rw (fits, none, has-room none) refl;
      of = rw none of-more;
      named = rw none (after_prefix id held (object_of id c ∷ []) none
          ∙ first_named id (object_of id c) [] ((bytes_eq-Decides id id).1 refl));
      kept = λ x d h. rw none (named-longer held (object_of id c ∷ []) x d h);
    }

  pub stored : IsStored repository held id c
  stored = by (object_named id held) refl
    where
      by : (o : Option Content) → object_named id held ≡ o → IsStored repository held id c
      by None none = comes-new none
      by (Some d) has = there-already (has ∙ sym (of.same id d has) ∙ is)
