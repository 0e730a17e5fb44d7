-- One more object is told.
use Rattle.std.proofs.Common.{◌≡◌, ℕ, true, false, List, [], ◌∷◌, ◌++◌, map, Some, refl, sym, ap, ◌∙◌, arith}
use Rattle.std.specs.List.{filter}
use Rattle.std.proofs.lemmas.List.{length-append, map-append, append-nil}
use Rattle.std.proofs.lemmas.List.Elements.{filter-append}
use Rattle.git_model.specs.Content.{Content}
use Rattle.git_model.specs.Reach.{is_referred_to}
use Rattle.git_model.specs.Repository.{Object, Repository, object_named}
use Rattle.stream_parts.specs.Marks.{with_mark}
use Rattle.stream_parts.specs.Tags.{PendingTags}
use Rattle.export_text.specs.ExportActs.{number_of}
use Rattle.export_text.specs.Reached.{is_tag, ref_of_tag}
use Rattle.export_laws.specs.Order.{names_with, stored_with, with_named}
use Rattle.export_laws.specs.Told.{AreOf, AreTold, IsScratchAlone, Told, reached_among, tags_of}
use Rattle.export_laws.proofs.MarksSet.{mark-kept, mark-set, marks-longer}
use Rattle.export_laws.proofs.OrderNames.{stored-last}
use Rattle.export_laws.proofs.Storing.{found-last, named-longer}

-- ---- the tags that wait

pub reached-last : (repository : Repository) (first : List Object) (o : Object)
    → is_referred_to repository o.id ≡ true
    → reached_among repository (first ++ o ∷ []) ≡ reached_among repository first ++ o ∷ []
reached-last repository first o reached =
    filter-append (λ (x : Object). is_referred_to repository x.id) first (o ∷ [])
    ∙ ap (λ (l : List Object). reached_among repository first ++ l) one
  where
    one : reached_among repository (o ∷ []) ≡ o ∷ []
    one = rw reached refl

tags-both : (xs ys : List Object) → tags_of (xs ++ ys) ≡ tags_of xs ++ tags_of ys
tags-both xs ys =
    ap (map (λ (o : Object). (ref_of_tag o, o.id))) (filter-append is_tag xs ys)
    ∙ map-append (λ (o : Object). (ref_of_tag o, o.id)) (filter is_tag xs) (filter is_tag ys)

pub tags-of-other : (xs : List Object) (o : Object) → is_tag o ≡ false
    → tags_of (xs ++ o ∷ []) ≡ tags_of xs
tags-of-other xs o other =
    tags-both xs (o ∷ []) ∙ ap (λ (l : PendingTags). tags_of xs ++ l) none ∙ append-nil (tags_of xs)
  where
    none : tags_of (o ∷ []) ≡ []
    none = rw other refl

pub tags-of-tag : (xs : List Object) (o : Object) → is_tag o ≡ true
    → tags_of (xs ++ o ∷ []) ≡ tags_of xs ++ (ref_of_tag o, o.id) ∷ []
tags-of-tag xs o is =
    tags-both xs (o ∷ []) ∙ ap (λ (l : PendingTags). tags_of xs ++ l) one
  where
    one : tags_of (o ∷ []) ≡ (ref_of_tag o, o.id) ∷ []
    one = rw is refl

-- ---- what is known once an object and its mark are there

pub told-next : (repository : Repository) (first rest : List Object) (o : Object) (old next : Told)
    → repository.objects ≡ first ++ o ∷ rest
    → object_named o.id repository.objects ≡ Some o.content
    → AreTold repository first old
    → AreOf repository next.objects
    → ((x : List ℕ) (d : Content) → object_named x old.objects ≡ Some d → object_named x next.objects ≡ Some d)
    → object_named o.id next.objects ≡ Some o.content
    → next.marks ≡ with_mark old.marks (Some (number_of repository.objects o.id)) o.content.kind o.id
    → IsScratchAlone next.branches
    → next.tags ≡ tags_of (reached_among repository (first ++ o ∷ []))
    → is_referred_to repository o.id ≡ true
    → next.objects ≡ with_named repository.objects (names_with repository.objects o) old.objects
    → AreTold repository (first ++ o ∷ []) next
told-next repository first rest o old next is here told of kept named marks branches tags reached order = record {
  objects = of;
  each = λ x d found reached other. found-last first o x d found
      (λ before.
      let stands = told.each x d before reached other in
      record {
        object = kept x d stands.object;
        mark = rw marks (mark-kept repository.objects old.marks x o.id d o.content (in-all x d before) here stands.mark);
      })
      (λ same content. record {
        object = ap (λ (y : List ℕ). object_named y next.objects) same ∙ named ∙ ap Some (sym content);
        mark = rw (marks, same, content) (mark-set old.marks (number_of repository.objects o.id) o.content.kind o.id);
      });
  order =
      order
      ∙ ap (with_named repository.objects (names_with repository.objects o)) told.order
      ∙ sym (stored-last repository.objects (reached_among repository first) o)
      ∙ ap (stored_with repository.objects) (sym (reached-last repository first o reached));
  few =
      let longer = marks-longer old.marks (number_of repository.objects o.id) o.content.kind o.id in
      let len = length-append first (o ∷ []) in
      let few = told.few in
      rw marks (omega (arith, longer, len, few));
  branches = branches;
  tags = tags;
}
  where
    in-all : (x : List ℕ) (d : Content) → object_named x first ≡ Some d
        → object_named x repository.objects ≡ Some d
    in-all x d before = ap (object_named x) is ∙ named-longer first (o ∷ rest) x d before
