-- All objects of a repository are told, one after another.
use Rattle.std.proofs.Common.{◌≡◌, ◌≢◌, ℕ, ◌≤◌, Bool, true, false, not, List, [], ◌∷◌, ◌++◌, length, Option, refl, sym, ap, ◌∙◌, subst, inl, inr, append_assoc, arith}
use Rattle.std.specs.List.{flat_map}
use Rattle.std.proofs.lemmas.Bool.{cases_Bool, false≢true}
use Rattle.std.proofs.lemmas.List.{append-nil, length-append}
use Rattle.std.proofs.lemmas.List.Elements.{filter-append}
use Rattle.git_model.specs.declared.kind.Kind.{Kind}
use Rattle.git_model.specs.declared.kind.Kind.TheVariants as kind
use Rattle.git_model.specs.Content.{Content, content_from}
use Rattle.git_model.specs.GoodRepository.{AreObjects}
use Rattle.git_model.specs.Peeling.{is_no_tag}
use Rattle.git_model.specs.Reach.{is_referred_to}
use Rattle.git_model.specs.Repository.{Object, Repository}
use Rattle.git_names.specs.Naming.{AnswersNames}
use Rattle.tenant_tables.specs.Sums.{TreesFit}
use Rattle.stream_grammar.specs.Commands.{Done}
use Rattle.import_session.specs.Sound.{IsSound}
use Rattle.stream_parts.specs.Tags.{tag_limit}
use Rattle.export_text.specs.ExportActs.{acts_of_object}
use Rattle.export_text.specs.Reached.{reached_tags}
use Rattle.export_laws.specs.Leaving.{Leaves, nothing}
use Rattle.export_laws.specs.Order.{names_by, stored_with, with_named}
use Rattle.export_laws.specs.Told.{AreTold, IsToldNext, Told, reached_among, tags_of, workspace_of}
use Rattle.export_laws.proofs.Acts.{both}
use Rattle.export_laws.proofs.Blobs.{blob-told}
use Rattle.export_laws.proofs.CloseTold.{commit-told}
use Rattle.export_laws.proofs.Next.{reached-last, tags-of-other}
use Rattle.export_laws.proofs.OrderNames.{stored-last}
use Rattle.export_laws.proofs.StaySound.{leaves-sound}
use Rattle.export_laws.proofs.StayWell.{object-well}
use Rattle.export_laws.proofs.Storing.{found-last}
use Rattle.export_laws.proofs.TagsTold.{tag-told}

-- ---- objects that ask for nothing

module _ (repository : Repository) (first : List Object) (o : Object) (told : Told)
    (all : AreTold repository first told) where
  passed-over : ((content : Content) → content ≡ o.content → is_referred_to repository o.id ≡ true
      → content.kind ≢ kind.Tree → ⊥)
      → tags_of (reached_among repository (first ++ o ∷ [])) ≡ tags_of (reached_among repository first)
      → stored_with repository.objects (reached_among repository (first ++ o ∷ []))
      ≡ stored_with repository.objects (reached_among repository first)
      → AreTold repository (first ++ o ∷ []) told
  passed-over never tags order = record {
    objects = all.objects;
    each = λ x d found reached other. found-last first o x d found
        (λ before. all.each x d before reached other)
        (λ same content.
        absurd (never d content (ap (is_referred_to repository) (sym same) ∙ reached) other));
    order = all.order ∙ sym order;
    few =
        let few = all.few in let len = length-append first (o ∷ []) in omega (arith, few, len);
    branches = all.branches;
    tags = all.tags ∙ sym tags;
  }

  -- what no ref reaches
  pub unreached : is_referred_to repository o.id ≡ false → AreTold repository (first ++ o ∷ []) told
  unreached nay =
      passed-over (λ d content reached other. false≢true (sym nay ∙ reached))
      (ap tags_of same) (ap (stored_with repository.objects) same)
    where
      none : reached_among repository (o ∷ []) ≡ []
      none = rw nay refl

      same : reached_among repository (first ++ o ∷ []) ≡ reached_among repository first
      same =
          filter-append (λ (x : Object). is_referred_to repository x.id) first (o ∷ [])
          ∙ ap (λ (l : List Object). reached_among repository first ++ l) none
          ∙ append-nil (reached_among repository first)

  -- a tree, which is told with the commits that have it
  pub passed-tree : is_referred_to repository o.id ≡ true → o.content.kind ≡ kind.Tree
      → AreTold repository (first ++ o ∷ []) told
  passed-tree reached tree =
      passed-over (λ d content again other. other (ap (λ (c : Content). c.kind) content ∙ tree))
      (ap tags_of (reached-last repository first o reached)
      ∙ tags-of-other (reached_among repository first) o (ap (λ (k : Kind). no_tag k) tree))
      (ap (stored_with repository.objects) (reached-last repository first o reached)
      ∙ stored-last repository.objects (reached_among repository first) o
      ∙ ap (λ (k : Kind). with_named repository.objects (names_by repository.objects o.id k o.content.bytes)
      (stored_with repository.objects (reached_among repository first))) tree)
    where
      no_tag : Kind → Bool
      no_tag k = not (is_no_tag k)

-- ---- one object, and then all

-- Where all objects are told, the acts that are left lead there.
pub record AllTold (digest : List ℕ → List ℕ) (repository : Repository) (acts : List Done)
    (head : Option (List ℕ)) (told : Told) : Type 0 where
  pub last : Told
  pub leaves : Leaves digest acts (workspace_of head told) (workspace_of head last)
  pub tells : AreTold repository repository.objects last
  pub sound : IsSound digest (workspace_of head last)

module _ (digest : List ℕ → List ℕ) (names : AnswersNames digest) (repository : Repository)
    (good : AreObjects digest repository.objects) (fit : TreesFit [] repository.objects)
    (few_tags : length (reached_tags repository) ≤ tag_limit) (head : Option (List ℕ)) where
  abbrev acts_of_all : List Object → List Done
  acts_of_all os = flat_map (acts_of_object repository.objects) os

  abbrev acts_left : List Object → List Done
  acts_left rest = acts_of_all (reached_among repository rest)

  one-told : (first rest : List Object) (k : Kind) (id bytes : List ℕ)
      → repository.objects ≡ first ++ record { id = id; content = content_from k bytes } ∷ rest
      → is_referred_to repository id ≡ true → (told : Told) → AreTold repository first told
      → IsSound digest (workspace_of head told)
      → IsToldNext digest repository first (record { id = id; content = content_from k bytes }) told
  one-told first rest kind.Blob id bytes is reached told all sound =
      blob-told digest repository good first rest id bytes is reached told all
  one-told first rest kind.Tag id bytes is reached told all sound =
      tag-told digest repository good few_tags first rest id bytes is reached told all
  one-told first rest kind.Commit id bytes is reached told all sound =
      commit-told digest repository good fit first rest id bytes is reached told all head sound
  one-told first rest kind.Tree id bytes is reached told all sound = record {
    next = told;
    leaves = λ other. nothing (workspace_of other told);
    tells =
        passed-tree repository first (record { id = id; content = content_from kind.Tree bytes }) told
        all reached refl;
  }

  -- the acts of one more object, and then those of the others
  with-one : (o : Object) (rest first : List Object) (told : Told)
      → repository.objects ≡ first ++ o ∷ rest → IsToldNext digest repository first o told
      → IsSound digest (workspace_of head told)
      → ((next : Told) → AreTold repository (first ++ o ∷ []) next
      → IsSound digest (workspace_of head next) → AllTold digest repository (acts_left rest) head next)
      → AllTold digest repository (acts_of_all (o ∷ reached_among repository rest)) head told
  with-one o rest first told is next sound later =
      let leads = next.leaves head in
      let well = object-well digest repository.objects good fit first rest o is in
      let left = later next.next next.tells (leaves-sound digest names well sound leads) in
      record {
        last = left.last;
        leaves = both digest leads left.leaves;
        tells = left.tells;
        sound = left.sound;
      }

  pub all-told : (rest first : List Object) → repository.objects ≡ first ++ rest → (told : Told)
      → AreTold repository first told → IsSound digest (workspace_of head told)
      → AllTold digest repository (acts_left rest) head told
  all-told [] first is told all sound = record {
    last = told;
    leaves = nothing (workspace_of head told);
    tells = subst (λ (l : List Object). AreTold repository l told) (sym (is ∙ append-nil first)) all;
    sound = sound;
  }
  all-told (o ∷ rest) first is told all sound =
      let further = is ∙ sym (append_assoc first (o ∷ []) rest) in
      elim (cases_Bool (is_referred_to repository o.id)) [
        | inl yea ↦
            let here : reached_among repository (o ∷ rest) ≡ o ∷ reached_among repository rest = rw yea refl in
            subst (λ (l : List Object). AllTold digest repository (acts_of_all l) head told) (sym here)
            (with-one o rest first told is
            (one-told first rest o.content.kind o.id o.content.bytes is yea told all sound) sound
            (λ next tells kept. all-told rest (first ++ o ∷ []) further next tells kept))
        | inr nay ↦
            let past : reached_among repository (o ∷ rest) ≡ reached_among repository rest = rw nay refl in
            subst (λ (l : List Object). AllTold digest repository (acts_of_all l) head told) (sym past)
            (all-told rest (first ++ o ∷ []) further told (unreached repository first o told all nay) sound)
      ]
