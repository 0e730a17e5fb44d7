-- A table that begins with the first entries of another one, and what it holds.
use Rattle.std.proofs.Common.{◌≡◌, ℕ, zero, suc, ◌+◌, ◌-◌, ◌≤◌, inl, inr, List, [], ◌∷◌, ◌++◌, length, take, drop, filter, slice_get, Some, refl, sym, ap, subst, ◌∙◌, arith}
use Rattle.std.specs.List.{IsDistinct}
use Rattle.std.specs.Str.{bytes_eq}
use Rattle.std.proofs.Math.Seq.{take-length}
use Rattle.std.proofs.lemmas.Bool.{cases_eq}
use Rattle.std.proofs.lemmas.Bool.Decides.{nat_tests}
use Rattle.std.proofs.lemmas.List.{length-append, length-take, length-take-le, take_all, take-append-drop}
use Rattle.std.proofs.lemmas.List.Elements.{All-take, filter-append}
use Rattle.content_pool.specs.Pool.{Cells, holds, content, CanHold, IsLive, Puts}
use Rattle.tenant_tables.specs.declared.entry.Entry.{Entry}
use Rattle.tenant_tables.specs.declared.sight.Sight.{Sight}
use Rattle.tenant_tables.specs.declared.sight.Sight.TheVariants as sight
use Rattle.tenant_tables.specs.Abbreviation.{begins, found_among, only_of}
use Rattle.tenant_tables.specs.Index.{IsTable}
use Rattle.tenant_tables.specs.IsBackedBy.{IsBackedBy}
use Rattle.tenant_tables.specs.Room.{HasHoldsLeftBeside}
use Rattle.tenant_tables.specs.Sharing.{HoldsMore, Shares}
use Rattle.tenant_tables.specs.Summed.{IsSummed}
use Rattle.tenant_tables.specs.View.{View, Entries, names, held, in_sight}
use Rattle.tenant_tables.proofs.FoundLemmas.{distinct-take}
use Rattle.tenant_tables.proofs.HoldLemmas.{Keeps, IsNamed, IsShort, held-at, held-cons, held-nil, held-push, objects-kept}
use Rattle.tenant_tables.proofs.Joined.{names-append, take-joined, take-one}
use Rattle.tenant_tables.proofs.SummaryLemmas.{IsSummed-prefix}
use Rattle.tenant_tables.proofs.TableLemmas.{IsBackedBy-kept, objects-take}

-- ---- names that some digits begin, in the shared entries and in the others

pub begun : (ds : List ℕ) (n : ℕ) (front own : Entries) → length front ≤ n
    → only_of (filter (begins ds) (names front) ++ filter (begins ds) (names (take (n - length front) own)))
    ≡ found_among ds (names (take n (front ++ own)))
begun ds n front own le =
    let own_seen = take (n - length front) own in
    ap only_of
    (sym (filter-append (begins ds) (names front) (names own_seen))
    ∙ ap (filter (begins ds)) (sym (names-append front own_seen))
    ∙ ap (λ (es : Entries). filter (begins ds) (names es))
    (ap (λ (es : Entries). es ++ own_seen) (sym (take_all n front le)) ∙ sym (take-joined n front own)))

-- so many entries, from the first, are in sight: the shared ones and perhaps others
pub record Seen (front own : Entries) (n : ℕ) (es : Entries) : Type 0 where
  pub shared : length front ≤ n
  pub are : take n (front ++ own) ≡ es

pub seen : (t : View) (s : Sight) (front own : Entries) (committed n : ℕ) → IsTable front own committed
    → ◌≡◌ {A = View} (record { entries = front ++ own; committed = committed }) t
    → n ≡ length (in_sight s t) → Seen front own n (in_sight s t)
seen t sight.All front own committed n h is size =
    let all = ap (λ (v : View). length v.entries) is in
    let begun_by = h.shared in let within = h.within in record {
      shared = omega (arith, all, begun_by, within, size);
      are = ap (λ (v : View). take n v.entries) is ∙ take_all n t.entries (omega (arith, size));
    }
seen t sight.Committed front own committed n h is size =
    let all = ap (λ (v : View). length v.entries) is in
    let first = ap (λ (v : View). v.committed) is in
    let few = length-take-le t.committed t.entries (let w = h.within in omega (arith, w, all, first)) in
    let begun_by = h.shared in record {
      shared = omega (arith, begun_by, few, first, size);
      are = ap (λ (v : View). take n v.entries) is ∙ ap (λ (k : ℕ). take k t.entries) (size ∙ few);
    }

-- ---- the first entries

pub first_are : (n : ℕ) (front own f : Entries) → f ≡ take n front
    → f ++ take (n - length f) own ≡ take n (front ++ own)
first_are n front own f is =
    let len = length-take n front in
    let left : n - length (take n front) ≡ n - length front = omega (arith, len) in
    rw is (ap (λ (m : ℕ). take n front ++ take m own) left ∙ sym (take-joined n front own))

pub IsTable-first : (n : ℕ) (front own f o : Entries) (committed : ℕ)
    → IsTable front own committed → n ≤ length (front ++ own)
    → f ≡ take n front → o ≡ take (n - length f) own → IsTable f o n
IsTable-first n front own f o committed h within is rest =
    let joined : f ++ o ≡ take n (front ++ own) =
    ap (λ (es : Entries). f ++ es) rest ∙ first_are n front own f is in
    let len = length-take n front in
    let size = length-take-le n (front ++ own) within in record {
      shared = rw is (omega (arith, len));
      within = rw (joined, size) (omega arith);
      limited = rw (joined, size) (let w = h.limited in omega arith);
      distinct =
          subst (λ (es : Entries). IsDistinct bytes_eq (names es)) (sym joined)
          (distinct-take n (front ++ own) h.distinct);
    }

pub as_view : (n : ℕ) (es fs : Entries) → es ≡ fs
    → ◌≡◌ {A = View} (record { entries = es; committed = n }) (record { entries = fs; committed = n })
as_view n es fs is = λ i. record { entries = is i; committed = n }

pub same_view : (m n : ℕ) (es fs : Entries) → es ≡ fs → m ≡ n
    → ◌≡◌ {A = View} (record { entries = es; committed = m }) (record { entries = fs; committed = n })
same_view m n es fs is size = λ i. record { entries = is i; committed = size i }

-- Some of the shared entries and some of the others are the first of a table.
pub record AreFirst (n : ℕ) (front own f : Entries) (o : View) (t : View) : Type 0 where
  pub table : IsTable f o.entries (length f + o.committed)
  pub view : ◌≡◌ {A = View} (record { entries = f ++ o.entries; committed = length f + o.committed })
      (record { entries = take n t.entries; committed = n })

pub are_first : (n m committed : ℕ) (front own f : Entries) (o t : View)
    → ◌≡◌ {A = View} (record { entries = front ++ own; committed = committed }) t
    → IsTable front own committed → n ≤ length t.entries → f ≡ take n front → m ≡ length f
    → o ≡ record { entries = take (n - m) own; committed = length (take (n - m) own) }
    → AreFirst n front own f o t
are_first n m committed front own f o t is h few fronts len rest =
    let seen = ap (λ (v : View). v.entries) is in
    let within : n ≤ length (front ++ own) = rw seen few in
    let own_are : o.entries ≡ take (n - length f) own =
    ap (λ (v : View). v.entries) rest ∙ ap (λ (k : ℕ). take (n - k) own) len in
    let joined = ap (λ (es : Entries). f ++ es) own_are ∙ first_are n front own f fronts in
    let size : length f + o.committed ≡ n =
    ap (λ (k : ℕ). length f + k) (ap (λ (v : View). v.committed) rest ∙ sym (ap (λ (v : View). length v.entries) rest))
    ∙ sym (length-append f o.entries) ∙ ap (λ (es : Entries). length es) joined
    ∙ length-take-le n (front ++ own) within in record {
      table =
          subst (IsTable f o.entries) (sym size)
          (IsTable-first n front own f o.entries committed h within fronts own_are);
      view = same_view _ _ _ _ (joined ∙ ap (λ (es : Entries). take n es) seen) size;
    }

-- ---- holds

pub HoldsMore-none : (p : Cells) → HoldsMore p [] p
HoldsMore-none p =
    record { counts = λ s. let n = held-nil s in omega (arith, n); contents = λ s. refl }

pub HoldsMore-one : (p q r : Cells) (es : Entries) (i : ℕ) (id : List ℕ) (e : Entry)
    → HoldsMore p (take i es) q → slice_get es i ≡ Some (id, e)
    → Puts q r e.slot (content q e.slot) → HoldsMore p (take (i + 1) es) r
HoldsMore-one p q r es i id e h at puts = rw (take-one i es (id, e) at) (record {
  counts = counts;
  contents = contents;
})
  where
    counts : (s : ℕ) → holds r s ≡ holds p s + held (take i es ++ (id, e) ∷ []) s
    counts s =
        let n = h.counts s in
        elim (cases_eq s e.slot) [
          | inl here ↦
              let m = puts.held in rw (held-push (take i es) id e s) (grind (arith, nat_tests, n, m))
          | inr other ↦
              let m = puts.others s other in
              rw (held-push (take i es) id e s) (grind (arith, nat_tests, n, m))
        ]

    contents : (s : ℕ) → content r s ≡ content p s
    contents s =
        elim (cases_eq s e.slot) [
          | inl here ↦ rw here (puts.has ∙ h.contents e.slot)
          | inr other ↦ puts.other_contents s other ∙ h.contents s
        ]

held-take : (n : ℕ) (es : Entries) (s : ℕ) → held (take n es) s ≤ held es s
held-take zero es s = let none = held-nil s in omega (arith, none)
held-take (suc n) [] s = omega arith
held-take (suc n) (x ∷ es) s =
    let rest = held-take n es s in
    let few = held-cons x (take n es) s in
    let all = held-cons x es s in omega (arith, rest, few, all)

-- one more hold of an entry's slot can be counted, and the slot is live
pub record MayHold (q : Cells) (slot : ℕ) : Type 0 where
  pub live : IsLive q slot
  pub room : CanHold q slot

pub may_hold : (digest : List ℕ → List ℕ) (p q : Cells) (es : Entries) (i : ℕ) (id : List ℕ)
    (e : Entry)
    → IsBackedBy digest p es → HasHoldsLeftBeside p [] → HoldsMore p (take i es) q
    → slice_get es i ≡ Some (id, e) → MayHold q e.slot
may_hold digest p q es i id e stands room h at =
    let counted = stands.counted e.slot in
    let there = held-at es i id e at in
    let more = h.counts e.slot in
    let once = stands.once e.slot in
    let few = held-take i es e.slot in
    let left = room e.slot in
    let none = held-nil e.slot in
    record { live = omega arith; room = omega (arith, few, left, none, more, once) }

-- ---- a new table

pub IsBackedBy-take : (digest : List ℕ → List ℕ) (p : Cells) (n : ℕ) (es : Entries)
    → IsBackedBy digest p es → IsBackedBy digest p (take n es)
IsBackedBy-take digest p n es h = record {
  named = All-take (IsNamed digest p) n es h.named;
  short = All-take (IsShort p) n es h.short;
  once = λ s. let few = held-take n es s in let a = h.once s in omega arith;
  counted = λ s. let few = held-take n es s in let a = h.counted s in omega arith;
  summed =
      IsSummed-prefix p (take n es) (drop n es)
      (subst (IsSummed p) (sym (take-append-drop n es)) h.summed);
}

pub shares : (digest : List ℕ → List ℕ) (p q : Cells) (es : Entries) (n : ℕ) (new : View)
    → IsBackedBy digest p es → new ≡ record { entries = take n es; committed = n }
    → HoldsMore p new.entries q → Shares digest n es p q new
shares digest p q es n new h is more =
    let held_more : HoldsMore p (take n es) q =
    subst (λ (fs : Entries). HoldsMore p fs q) (ap (λ (v : View). v.entries) is) more in
    let kept : Keeps p q (take n es) = record { contents = λ s some. held_more.contents s } in
    rw is (record {
      table = refl;
      stands =
          IsBackedBy-kept digest p q (take n es) (IsBackedBy-take digest p n es h) kept
          (λ s. let c = held_more.counts s in omega arith);
      others = record {
        rest = λ s. let c = held_more.counts s in let none = held-nil s in omega arith;
        kept = λ s beyond. held_more.contents s;
      };
      objects = objects-kept p q (take n es) kept ∙ objects-take p n es;
    })
