-- A table that begins with the objects of the first numbers: what it has, and the sums of its trees.
use Rattle.std.proofs.Common.{◌≡◌, ℕ, zero, suc, ◌+◌, ◌<◌, ◌≤◌, List, [], ◌∷◌, ◌++◌, length, take, drop, get_or, Some, refl, sym, ap, subst, ◌∙◌, append_assoc, arith}
use Rattle.std.specs.Prelude.{slice_get}
use Rattle.std.specs.List.{IsDistinct}
use Rattle.std.specs.Str.{bytes_eq}
use Rattle.std.proofs.lemmas.List.{map-append, take_all}
use Rattle.std.proofs.lemmas.Option.{get_or_from_slice_get}
use Rattle.git_model.specs.Content.{Content, name_by}
use Rattle.git_model.specs.Repository.{Object}
use Rattle.content_pool.specs.Pool.{Cells, content, IsLive}
use Rattle.tenant_tables.specs.declared.entry.Entry.{Entry}
use Rattle.tenant_tables.specs.View.{Entries, names, summary_of}
use Rattle.tenant_tables.specs.Objects.{objects}
use Rattle.tenant_tables.specs.IsBackedBy.{IsBackedBy, PreservesOthers}
use Rattle.tenant_tables.proofs.HoldLemmas.{IsNamed, held-nil}
use Rattle.tenant_tables.proofs.Joined.{take-one}
use Rattle.pool_file_checks.specs.Own.{own_objects}
use Rattle.pool_file_checks.specs.Sums.{Fits, Sums, TreesFit, sums_with}
use Rattle.pool_file.specs.Building.{objects_at, MayLoad}
use Rattle.pool_file.specs.Tables.{BeginAlike, object_of}
use Rattle.pool_file.proofs.Alike.{IsLike, like_none, like_on}
use Rattle.pool_file.proofs.LoadedTables.{AreLoaded, any_default, own_left}

-- The first entries are the first objects, and the trees that are left fit after their sums.
record Begun (pool : Cells) (es : Entries) (own : List Object) (i : ℕ) : Type 0 where
  sums : Sums
  like : IsLike pool sums i es
  fit : TreesFit sums (drop i own)
  are : objects pool (take i es) ++ drop i own ≡ own

entry_here : (es : Entries) (i : ℕ) → i < length es
    → (x : List ℕ × Entry) × (slice_get es i ≡ Some x)
entry_here [] i lt = absurd (omega arith)
entry_here (x ∷ es) zero lt = (x, refl)
entry_here (x ∷ es) (suc i) lt = entry_here es i (omega arith)

objects-more : (p : Cells) (es : Entries) (id : List ℕ) (e : Entry)
    → objects p (es ++ (id, e) ∷ [])
    ≡ objects p es ++ record { id = id; content = content p e.slot } ∷ []
unfolding objects
objects-more p es id e =
    map-append (λ (x : List ℕ × Entry). record { id = x.0; content = content p x.1.slot }) es ((id, e) ∷ [])

no_objects : (p : Cells) (own : List Object) → objects p [] ++ own ≡ own
unfolding objects
no_objects p own = refl

module _ (digest : List ℕ → List ℕ) (p0 p1 : Cells) (slots numbers : List ℕ) (es : Entries)
    (may : MayLoad digest p0 slots numbers) (stands : IsBackedBy digest p1 es) (others : PreservesOthers p0 [] p1 es)
    (distinct : IsDistinct bytes_eq (names es)) (alike : BeginAlike es slots numbers (length es)) where
  abbrev own : List Object
  own = own_objects digest (objects_at p0 slots) numbers

  step : (i : ℕ) → i < length es → Begun p1 es own i → Begun p1 es own (i + 1)
  step i lt b =
      let here = entry_here es i lt in
      let id = here.0.0 in
      let e = here.0.1 in
      let at : slice_get es i ≡ Some (id, e) = here.1 in
      let slot = e.slot in
      let n = get_or numbers i 0 in
      let few = alike.few in
      let l : i < length numbers = omega (arith, few, lt) in
      let within : n < length slots = may.within i 0 l in
      let is : n ≡ get_or numbers i n = any_default numbers i 0 n l in
      let placed : slot ≡ get_or slots n slot =
      alike.alike i here.0 lt here.1 ∙ any_default slots n 0 slot within in
      let left = own_left digest p0 slots numbers i n slot l is within placed in
      let live : IsLive p0 slot = subst (IsLive p0) (sym placed) (may.live n slot within) in
      let none = held-nil slot in
      let same : content p1 slot ≡ content p0 slot = others.kept slot (omega (arith, live, none)) in
      let named : id ≡ name_by digest (content p1 slot) =
      subst (IsNamed digest p1) (get_or_from_slice_get es i here.0 here.0 here.1)
      (stands.named i here.0 lt) in
      let name : id ≡ name_by digest (content p0 slot) = named ∙ ap (name_by digest) same in
      let o : Object = object_of digest (content p0 slot) in
      let mine : Object = record { id = id; content = content p1 slot } in
      let mine_is : mine ≡ o = λ k. record { id = name k; content = same k } in
      let more = sums_with (content p1 slot).kind id (content p1 slot).bytes b.sums in
      let told : more ≡ sums_with o.content.kind o.id o.content.bytes b.sums =
      λ k. sums_with (same k).kind (name k) (same k).bytes b.sums in
      let fit : TreesFit b.sums (o ∷ drop (i + 1) own) =
      subst (λ (os : List Object). TreesFit b.sums os) left b.fit in
      record {
        sums = more;
        like = like_on p1 b.sums i es b.like id e distinct at
            (subst (λ (c : Content). Fits c.kind c.bytes b.sums) (sym same) fit.0) more (λ q. refl);
        fit = subst (λ (s : Sums). TreesFit s (drop (i + 1) own)) (sym told) fit.1;
        are =
            ap (λ (os : List Object). os ++ drop (i + 1) own)
            (ap (λ (xs : Entries). objects p1 xs) (take-one i es (id, e) at) ∙ objects-more p1 (take i es) id e)
            ∙ append_assoc (objects p1 (take i es)) (mine ∷ []) (drop (i + 1) own)
            ∙ ap (λ (z : Object). objects p1 (take i es) ++ z ∷ drop (i + 1) own) mine_is
            ∙ ap (λ (os : List Object). objects p1 (take i es) ++ os) (sym left) ∙ b.are;
      }

  steps : (k : ℕ) → k ≤ length es → Begun p1 es own k
  steps zero le = record {
    sums = [];
    like = like_none p1 es stands.summed;
    fit = may.trees;
    are = no_objects p1 own;
  }
  steps (suc k) le =
      let next : k + 1 ≡ suc k = omega arith in
      subst (λ (n : ℕ). Begun p1 es own n) next (step k (omega arith) (steps k (omega arith)))

  begun_at : Begun p1 es own (length es)
  begun_at = steps (length es) (omega arith)

  all_here : take (length es) es ≡ es
  all_here = take_all (length es) es (omega arith)

  -- what is left of the objects can be loaded
  pub begun : (sums : Sums) × AreLoaded digest p0 p1 es sums (drop (length es) own) own
  begun =
      let b = begun_at in (
        b.sums,
        record {
          stands = stands;
          others = others;
          objects =
              ap (λ (xs : Entries). objects p1 xs ++ drop (length es) own) (sym all_here) ∙ b.are;
          trees = b.fit;
          noted = λ q. b.like.noted q ∙ ap (λ (xs : Entries). summary_of q xs) all_here;
        },
      )
