-- Marks by the places of objects.
use Rattle.std.proofs.Common.{◌≡◌, ℕ, suc, ◌<◌, ◌≤◌, ◌||◌, true, false, nat_eq, nat_lt, List, [], ◌∷◌, length, Option, Some, Ok, refl, sym, ap, ◌∙◌, inl, inr, arith}
use Rattle.std.specs.Prelude.{is_some, unwrap_or}
use Rattle.std.specs.Cmp.{unsigned_Decides}
use Rattle.std.specs.Map.{lookup}
use Rattle.std.proofs.lemmas.Bool.{cases_Bool, lt-ltb}
use Rattle.indexmap.specs.IndexMap.{insert_entry}
use Rattle.git_model.specs.declared.kind.Kind.{Kind}
use Rattle.git_model.specs.Content.{Content, no_content}
use Rattle.git_model.specs.References.{place_of, object_at}
use Rattle.git_model.specs.Repository.{Object, object_named}
use Rattle.git_model.proofs.Places.{stands_at}
use Rattle.stream_grammar.specs.declared.marked_object.MarkedObject.{MarkedObject}
use Rattle.stream_parts.specs.Marks.{as_marked, found_mark, has_room, mark_limit, marked_name, room_for, with_mark, Marks}
use Rattle.export_text.specs.ExportActs.{number_of}
use Rattle.export_laws.specs.Told.{StandsFor}

looked-up : (marks : Marks) (m : ℕ) (id : MarkedObject)
    → lookup (nat_eq m) (insert_entry nat_eq marks m id) ≡ Some id
looked-up [] m id = rw ((unsigned_Decides m m).1 refl) refl
looked-up (e ∷ marks) m id = elim (cases_Bool (nat_eq m e.0)) [
  | inl yea ↦ rw (yea, yea) refl
  | inr nay ↦ rw (nay, nay) (looked-up marks m id)
]

other-kept : (marks : Marks) (m k : ℕ) (id : MarkedObject) → nat_eq k m ≡ false
    → lookup (nat_eq k) (insert_entry nat_eq marks m id) ≡ lookup (nat_eq k) marks
other-kept [] m k id other = rw other refl
other-kept (e ∷ marks) m k id other = elim (cases_Bool (nat_eq m e.0)) [
  | inl yea ↦
      let no : nat_eq k e.0 ≡ false = ap (nat_eq k) (sym ((unsigned_Decides m e.0).0 yea)) ∙ other in
      rw (yea, no) refl
  | inr nay ↦ rw nay (elim (cases_Bool (nat_eq k e.0)) [
    | inl here ↦ rw here refl
    | inr past ↦ rw past (other-kept marks m k id other)
  ])
]

one-longer : (marks : Marks) (m : ℕ) (id : MarkedObject)
    → length (insert_entry nat_eq marks m id) ≤ suc (length marks)
one-longer [] m id = omega arith
one-longer (e ∷ marks) m id = elim (cases_Bool (nat_eq m e.0)) [
  | inl yea ↦ rw yea (omega arith)
  | inr nay ↦ let rest = one-longer marks m id in rw nay (omega (arith, rest))
]

pub marks-longer : (marks : Marks) (m : ℕ) (k : Kind) (id : List ℕ)
    → length (with_mark marks (Some m) k id) ≤ suc (length marks)
marks-longer marks m k id = one-longer marks m (as_marked k id)

-- the mark that is set stands for its object
pub mark-set : (marks : Marks) (m : ℕ) (k : Kind) (id : List ℕ)
    → StandsFor (with_mark marks (Some m) k id) m k id
mark-set marks m k id = looked-up marks m (as_marked k id)

-- the name that a mark stands for
pub named-by-mark : (marks : Marks) (m : ℕ) (k : Kind) (id : List ℕ) → StandsFor marks m k id
    → marked_name marks m ≡ Ok id
named-by-mark marks m k id stands = ap found_mark stands

-- there is room for one more, and for one that is set again
pub mark-room : (marks : Marks) (m : ℕ) → length marks < mark_limit → room_for marks (Some m) ≡ Ok tt
unfolding has_room
mark-room marks m few = rw some-room refl
  where
    some-room : (is_some (lookup (nat_eq m) marks) || nat_lt (length marks) mark_limit) ≡ true
    some-room = elim (cases_Bool (is_some (lookup (nat_eq m) marks))) [
      | inl yea ↦ rw yea refl
      | inr nay ↦ rw nay (lt-ltb (length marks) mark_limit few)
    ]

-- objects at one place have one name
one-place : (os : List Object) (a b : List ℕ) (c d : Content) → object_named a os ≡ Some c
    → object_named b os ≡ Some d → place_of a os ≡ place_of b os → a ≡ b
one-place os a b c d is also same =
    ap (λ (o : Object). o.id)
    (sym (stands_at a os c is).object ∙ ap (λ (n : ℕ). object_at n os) same ∙ (stands_at b os d also).object)

-- a mark that stands for its object stays while that of another one is set
pub mark-kept : (os : List Object) (marks : Marks) (a b : List ℕ) (c d : Content)
    → object_named a os ≡ Some c → object_named b os ≡ Some d
    → StandsFor marks (number_of os a) c.kind a
    → StandsFor (with_mark marks (Some (number_of os b)) d.kind b) (number_of os a) c.kind a
mark-kept os marks a b c d is also stands = elim (cases_Bool (nat_eq (number_of os a) (number_of os b))) [
  | inl yea ↦
      let places = (unsigned_Decides (number_of os a) (number_of os b)).0 yea in
      let same : a ≡ b = one-place os a b c d is also (omega (arith, places)) in
      let kinds : d.kind ≡ c.kind =
      ap (λ (found : Option Content). (unwrap_or found no_content).kind)
      (sym also ∙ ap (λ (id : List ℕ). object_named id os) (sym same) ∙ is) in
      ap (λ (n : ℕ). lookup (nat_eq n) (with_mark marks (Some (number_of os b)) d.kind b)) places
      ∙ mark-set marks (number_of os b) d.kind b
      ∙ ap (λ (k : Kind). Some (as_marked k b)) kinds
      ∙ ap (λ (id : List ℕ). Some (as_marked c.kind id)) (sym same)
  | inr nay ↦
      other-kept marks (number_of os b) (number_of os a) (as_marked d.kind b) nay ∙ stands
]
