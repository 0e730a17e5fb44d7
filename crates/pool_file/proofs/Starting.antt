-- The table to which the objects of a tenant are added.
use Rattle.std.proofs.Common.{◌≡◌, ℕ, ◌+◌, ◌<◌, inl, inr, List, [], length, take, get_or, Option, None, Some, Result, Ok, Err, refl, sym, ap, ◌∙◌, arith}
use Rattle.std.specs.Prelude.{IfOk, slice_get}
use Rattle.std.specs.Option.{option_map, unwrap_or}
use Rattle.std.proofs.lemmas.Bool.{cases_eq}
use Rattle.std.proofs.lemmas.List.{length-take-le}
use Rattle.std.proofs.lemmas.Option.{slice_get_within}
use Rattle.content_pool.specs.Pool.{Cells}
use Rattle.tenant_tables.specs.declared.entry.Entry.{Entry}
use Rattle.tenant_tables.specs.View.{View, Entries}
use Rattle.tenant_tables.specs.Sharing.{Shares}
use Rattle.tenant_tables.proofs.Joined.{get-take}
use Rattle.tenant_tables.proofs.TableLemmas.{IsBackedBy-nil, PreservesOthers-refl}
use Rattle.pool_file.specs.Tables.{BeginAlike, Starts}
use Rattle.pool_file.proofs.LoadedTables.{any_default}

-- ---- how far a table is alike

pub alike_none : (es : Entries) (slots numbers : List ℕ) → BeginAlike es slots numbers 0
alike_none es slots numbers =
    record { has = omega arith; few = omega arith; alike = λ i x lt at. absurd (omega (arith, lt)) }

-- the slot of a number
pub slot_of_number : (slots numbers : List ℕ) (k n slot : ℕ) → k < length numbers
    → n ≡ get_or numbers k n → n < length slots → slot ≡ get_or slots n slot
    → slot ≡ get_or slots (get_or numbers k 0) 0
slot_of_number slots numbers k n slot l is within at =
    at ∙ any_default slots n slot 0 within
    ∙ ap (λ (m : ℕ). get_or slots m 0) (is ∙ any_default numbers k n 0 l)

slot_told : (o : Option (List ℕ × Entry)) (slot : ℕ) (x : List ℕ × Entry)
    → option_map (λ e. e.1.slot) o ≡ Some slot → o ≡ Some x → x.1.slot ≡ slot
slot_told o slot x told is =
    let both : Some x.1.slot ≡ Some slot = ap (option_map (λ (e : List ℕ × Entry). e.1.slot)) (sym is) ∙ told in
    ap (λ (v : Option ℕ). unwrap_or v slot) both

there : (es : Entries) (k slot : ℕ) (o : Option (List ℕ × Entry)) → slice_get es k ≡ o
    → option_map (λ e. e.1.slot) o ≡ Some slot → k < length es
there es k slot None is told = cc told
there es k slot (Some x) is told = slice_get_within es k x is

pub alike_more : (es : Entries) (slots numbers : List ℕ) (k slot : ℕ)
    → BeginAlike es slots numbers k → k < length numbers
    → option_map (λ e. e.1.slot) (slice_get es k) ≡ Some slot
    → slot ≡ get_or slots (get_or numbers k 0) 0
    → BeginAlike es slots numbers (k + 1)
alike_more es slots numbers k slot h l told at =
    let within = there es k slot (slice_get es k) refl told in record {
      has = omega (arith, within);
      few = omega (arith, l);
      alike = alike;
    }
  where
    alike : (i : ℕ) (x : List ℕ × Entry) → i < k + 1 → slice_get es i ≡ Some x
        → x.1.slot ≡ get_or slots (get_or numbers i 0) 0
    alike i x lt is =
        elim (cases_eq i k) [
          | inl here ↦
              let same : slice_get es k ≡ Some x = ap (λ (j : ℕ). slice_get es j) (sym here) ∙ is in
              slot_told (slice_get es k) slot x told same ∙ at
              ∙ ap (λ (j : ℕ). get_or slots (get_or numbers j 0) 0) (sym here)
          | inr other ↦ h.alike i x (omega (arith, lt, other)) is
        ]

-- ---- what it starts with

none_started : (digest : List ℕ → List ℕ) (slots numbers : List ℕ) (p : Cells) (t : View)
    → t.entries ≡ [] → t.committed ≡ 0 → Starts digest slots numbers p p t
none_started digest slots numbers p t empty none = record {
  stands = rw empty (IsBackedBy-nil digest p);
  others = rw empty (PreservesOthers-refl p []);
  committed = rw empty none;
  alike = rw empty (alike_none [] slots numbers);
}

pub none_made : {E : Type 0} (digest : List ℕ → List ℕ) (slots numbers : List ℕ) (p : Cells) (r : Result View E)
    → IfOk r (λ t. t.entries ≡ []) → IfOk r (λ t. t.committed ≡ 0)
    → IfOk r (λ t. Starts digest slots numbers p p t)
none_made digest slots numbers p (Err e) empty none = tt
none_made digest slots numbers p (Ok t) empty none = none_started digest slots numbers p t empty none

pub shared_started : {E : Type 0} (digest : List ℕ → List ℕ) (slots numbers : List ℕ) (p q : Cells)
    (es : Entries) (n : ℕ) → BeginAlike es slots numbers n
    → (r : Result View E) → IfOk r (λ t. Shares digest n es p q t)
    → IfOk r (λ t. Starts digest slots numbers p q t)
shared_started digest slots numbers p q es n alike (Err e) h = tt
shared_started digest slots numbers p q es n alike (Ok t) h =
    let are : t.entries ≡ take n es = ap (λ (v : View). v.entries) h.table in
    let few = alike.few in
    let size : length t.entries ≡ n =
    ap (λ (xs : Entries). length xs) are ∙ length-take-le n es alike.has in record {
      stands = h.stands;
      others = h.others;
      committed = ap (λ (v : View). v.committed) h.table ∙ sym size;
      alike = record {
        has = omega arith;
        few = omega (arith, size, few);
        alike = λ i x lt at.
            let below : i < n = omega (arith, lt, size) in
            alike.alike i x below
            (sym (get-take n i es below) ∙ ap (λ (xs : Entries). slice_get xs i) (sym are) ∙ at);
      };
    }
