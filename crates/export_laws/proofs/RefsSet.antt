-- Refs that are set, in turn: to a commit by a reset, and to a tag by the tag once more.
use Rattle.std.proofs.Common.{◌≡◌, ◌≢◌, ℕ, ◌+◌, ◌*◌, ◌<◌, ◌≤◌, true, length, List, [], ◌∷◌, ◌++◌, Option, None, Some, refl, sym, ap, ◌∙◌, subst, inl, inr, arith}
use Rattle.std.specs.Prelude.{nat_eq, unwrap_or}
use Rattle.std.specs.Map.{lookup}
use Rattle.std.specs.List.{AllByRecursion, flat_map, list_any}
use Rattle.std.specs.Option.{option_map}
use Rattle.std.specs.Str.{bytes_eq}
use Rattle.std.proofs.lemmas.Bool.{cases_Bool, false≢true}
use Rattle.std.proofs.lemmas.List.{length-append}
use Rattle.git_model.specs.declared.kind.Kind.{Kind}
use Rattle.git_model.specs.declared.kind.Kind.TheVariants as kind
use Rattle.git_model.specs.Content.{Content, content_from, name_by, no_content}
use Rattle.git_model.specs.GoodRepository.{AreObjects, AreRefs, IsTagNamed}
use Rattle.git_model.specs.References.{kind_named, reference}
use Rattle.git_model.specs.RefStore.{RefStore, target_of}
use Rattle.git_model.specs.Repository.{Object, Repository, object_named, with_object}
use Rattle.git_model.specs.Tag.{Tag, tag_contents}
use Rattle.git_model.specs.TagReading.{tag_read}
use Rattle.tenant_tables.specs.Adding.{store_fault}
use Rattle.stream_grammar.specs.Names.{Marked}
use Rattle.stream_parts.specs.declared.branches.Tip.TheVariants.{Unborn, Deleted, At}
use Rattle.open_commits.specs.OpenCommit.{OpenCommit}
use Rattle.stream_parts.specs.Branches.{branch_limit, tip_of, with_branch, Branches}
use Rattle.stream_parts.specs.Marks.{as_marked, marked_name, Marks}
use Rattle.stream_parts.specs.Tags.{tag_limit, PendingTags}
use Rattle.stream_parts.specs.OpenCommand as open_command
use Rattle.stream_parts.specs.OpenCommand.{OpenCommand}
use Rattle.stream_commands.specs.Workspace.{Workspace}
use Rattle.export_text.specs.ExportActs.{acts_of_ref, number_of, ref_acts, tag_acts}
use Rattle.export_text.specs.Reached.{tag_ref}
use Rattle.export_laws.specs.Leaving.{Leaves, nothing}
use Rattle.export_laws.specs.Told.{AreTold, IsThere, StandsFor, Told}
use Rattle.export_laws.proofs.Acts.{both}
use Rattle.export_laws.proofs.MarksSet.{named-by-mark}
use Rattle.export_laws.proofs.Known.{IsEarlier, IsKnown, known, reached-on}
use Rattle.export_laws.proofs.RefsAgree.{Agree, IsSet, agree-placed, agree-tagged, deleted-kept, placed-here, set-kept, tagged-here, tagged-kept}
use Rattle.export_laws.proofs.RefsHeld.{bytes-are}
use Rattle.export_laws.proofs.RefsKnown.{HasKind, IsRef, Stands, named-apart, of-kind, stands}
use Rattle.export_laws.proofs.RefsReset.{placed, placed-few, reset-leaves, state, to-marked}
use Rattle.export_laws.proofs.Storing.{IsStored, stored}
use Rattle.export_laws.proofs.Tags.{MayTag, tag-leaves, tagged_in}
use Rattle.export_laws.proofs.TagsTold.{IsWritten, tag-written}

module _ (digest : List ℕ → List ℕ) (repository : Repository) (good : AreObjects digest repository.objects)
    (refs : AreRefs repository.objects repository.refs) (told : Told)
    (all : AreTold repository repository.objects told) (saved : Workspace)
    (objects : saved.objects ≡ told.objects) (marks : saved.stream.marks ≡ told.marks) where
  abbrev os : List Object
  os = repository.objects

  abbrev goal : RefStore
  goal = repository.refs

  -- What the acts of some refs leave.
  pub record AreSet (es : List (List ℕ × List ℕ)) (branches : Branches) (tags : PendingTags)
      (command : OpenCommand OpenCommit) : Type 0 where
    pub left : Branches
    pub waiting : PendingTags
    pub last : OpenCommand OpenCommit
    pub leaves : Leaves digest (flat_map (acts_of_ref os) es) (state saved branches tags command)
        (state saved left waiting last)
    pub agree : Agree goal left waiting
    pub each : (q : List ℕ) → list_any (λ (e : List ℕ × List ℕ). bytes_eq q e.0) es ≡ true
        → IsSet left waiting q
    pub kept : (q : List ℕ) → IsSet branches tags q → IsSet left waiting q
    pub gone : (q : List ℕ) → target_of goal q ≡ None → tip_of branches q ≡ Some Deleted
        → tip_of left q ≡ Some Deleted

  -- What those of one leave.
  record OneSet (e : List ℕ × List ℕ) (branches : Branches) (tags : PendingTags)
      (command : OpenCommand OpenCommit) : Type 0 where
    left : Branches
    waiting : PendingTags
    leaves : Leaves digest (acts_of_ref os e) (state saved branches tags command)
        (state saved left waiting open_command.Nothing)
    agree : Agree goal left waiting
    here : IsSet left waiting e.0
    kept : (q : List ℕ) → IsSet branches tags q → IsSet left waiting q
    gone : (q : List ℕ) → target_of goal q ≡ None → tip_of branches q ≡ Some Deleted
        → tip_of left q ≡ Some Deleted
    few : length left ≤ length branches + 2
    few_tags : length waiting ≤ length tags + 1

  -- the acts of a ref, by the content that it holds
  acts-by : (ref id : List ℕ) (c : Content) (k : Kind) → object_named id os ≡ Some c → c.kind ≡ k
      → acts_of_ref os (ref, id) ≡ ref_acts os ref id k c.bytes
  acts-by ref id c k named is =
      ap (λ (found : Option Content). ref_acts os ref id (unwrap_or found no_content).kind (unwrap_or found no_content).bytes) named
      ∙ ap (λ (x : Kind). ref_acts os ref id x c.bytes) is

  module _ (e : List ℕ × List ℕ) (is : IsRef repository e) (branches : Branches) (tags : PendingTags)
      (command : OpenCommand OpenCommit) (agree : Agree goal branches tags) where
    -- ---- a commit

    module _ (commit : kind_named e.1 os ≡ Some kind.Commit) (few : length branches < branch_limit) where
      of : HasKind os e.1 kind.Commit
      of = of-kind os e.1 kind.Commit commit

      no-tree : of.content.kind ≢ kind.Tree
      no-tree tree = (let other = sym of.kind ∙ tree in cc)

      there : IsThere os told e.1 of.content
      there = all.each e.1 of.content of.named is.reached no-tree

      commit-there : kind_named e.1 saved.objects ≡ Some kind.Commit
      commit-there =
          ap (kind_named e.1) objects
          ∙ ap (option_map (λ (c : Content). c.kind)) there.object ∙ ap Some of.kind

      there-marked : StandsFor saved.stream.marks (number_of os e.1) kind.Commit e.1
      there-marked =
          ap (λ (m : Marks). lookup (nat_eq (number_of os e.1)) m) marks
          ∙ there.mark ∙ ap (λ (k : Kind). Some (as_marked k e.1)) of.kind

      commit-leaves : Leaves digest (acts_of_ref os e) (state saved branches tags command)
          (state saved (placed branches e.0 (At e.1)) tags open_command.Nothing)
      commit-leaves =
          subst (λ (acts : List _). Leaves digest acts (state saved branches tags command) (state saved (placed branches e.0 (At e.1)) tags open_command.Nothing))
          (sym (acts-by e.0 e.1 of.content kind.Commit of.named of.kind))
          (reset-leaves digest saved branches tags command e.0 (Marked (number_of os e.1)) (At e.1)
          (named-apart e.0 (refs.names e.0 e.1 is.holds)) few
          (to-marked os (state saved (with_branch branches e.0 Unborn) tags (open_command.Reset e.0)) e.0 e.1
          (record { is = commit-there; mark = there-marked })))

      commit-set : OneSet e branches tags command
      commit-set = record {
        left = placed branches e.0 (At e.1);
        waiting = tags;
        leaves = commit-leaves;
        agree = agree-placed goal branches tags e.0 (At e.1) is.holds agree;
        here = inl (e.1, placed-here goal branches tags e.0 (At e.1));
        kept = λ q. set-kept goal branches tags e.0 e.1 q;
        gone = λ q. deleted-kept goal branches e.0 (At e.1) q is.holds (inr (e.1, refl));
        few = placed-few branches e.0 (At e.1);
        few_tags = omega arith;
      }

    -- ---- a tag

    module _ (name : List ℕ) (called : e.0 ≡ tag_ref name) (tag : IsTagNamed os e.1 name)
        (few : length tags < tag_limit) where
      tag-of : HasKind os e.1 kind.Tag
      tag-of = of-kind os e.1 kind.Tag tag.0

      abbrev bytes : List ℕ
      bytes = tag-of.content.bytes

      abbrev t : Tag
      t = tag_read bytes

      abbrev content : Content
      content = content_from kind.Tag bytes

      same : tag-of.content ≡ content
      same = ap (λ (k : Kind). content_from k bytes) tag-of.kind

      named : object_named e.1 os ≡ Some content
      named = tag-of.named ∙ ap Some same

      at : Stands os e.1 content
      at = stands os e.1 content named

      what : IsKnown digest os at.first (record { id = e.1; content = content })
      what = known digest os at.first at.rest (record { id = e.1; content = content }) good at.is

      written : IsWritten bytes
      written = tag-written os bytes what.is.valid

      target : IsEarlier os at.first (reference t.kind t.target)
      target = what.refers.0

      target-there : IsThere os told t.target target.content
      target-there =
          all.each t.target target.content target.here
          (reached-on digest repository good e.1 content named is.reached).0
          (λ tree. written.can.kind (sym target.kind ∙ tree))

      tag-there : IsThere os told e.1 content
      tag-there = all.each e.1 content named is.reached (λ tree. (let other : kind.Tag ≡ kind.Tree = tree in cc))

      now : IsStored repository told.objects e.1 content
      now = stored repository told.objects all.objects good.few e.1 content named is.reached what.is.short

      may : MayTag digest (state saved branches tags command) None t (number_of os t.target)
      may = record {
        target =
            ap (λ (m : Marks). marked_name m (number_of os t.target)) marks
            ∙ named-by-mark told.marks (number_of os t.target) target.content.kind t.target
            target-there.mark;
        kind_is =
            ap (kind_named t.target) objects
            ∙ ap (option_map (λ (c : Content). c.kind)) target-there.object ∙ ap Some target.kind;
        no_tree = written.can.kind;
        marks = refl;
        tags = few;
        unrefused =
            ap (store_fault (name_by digest (content_from kind.Tag (tag_contents t))) (content_from kind.Tag (tag_contents t))) objects
            ∙ subst (λ (b : List ℕ). store_fault (name_by digest (content_from kind.Tag b)) (content_from kind.Tag b) told.objects ≡ None)
            written.text
            (subst (λ (i : List ℕ). store_fault i content told.objects ≡ None) what.is.named now.unrefused);
      }

      -- the object is there already
      stays : with_object e.1 content saved.objects ≡ saved.objects
      stays = let has = ap (object_named e.1) objects ∙ tag-there.object in rw has refl

      ref-is : tag_ref t.name ≡ e.0
      ref-is =
          ap (λ (found : Option Content). tag_ref (tag_read (unwrap_or found no_content).bytes).name) (sym tag-of.named)
          ∙ ap tag_ref tag.1 ∙ sym called

      abbrev left-with : List ℕ → List ℕ → List Object → List ℕ → Workspace
      left-with contents id held ref = record saved {
        objects = held;
        stream = record saved.stream {
          branches = branches;
          tags = tags ++ (ref, id) ∷ [];
          command = open_command.Nothing;
        };
      }

      leaves-so : tagged_in digest (state saved branches tags command) None t
          ≡ state saved branches (tags ++ e ∷ []) open_command.Nothing
      leaves-so =
          ap (λ (b : List ℕ). left-with b (name_by digest (content_from kind.Tag b))
          (with_object (name_by digest (content_from kind.Tag b)) (content_from kind.Tag b) saved.objects) (tag_ref t.name)) (sym written.text)
          ∙ ap (λ (i : List ℕ). left-with bytes i (with_object i content saved.objects) (tag_ref t.name)) (sym what.is.named)
          ∙ ap (λ (held : List Object). left-with bytes e.1 held (tag_ref t.name)) stays
          ∙ ap (λ (ref : List ℕ). left-with bytes e.1 saved.objects ref) ref-is

      tag-leaves-so : Leaves digest (acts_of_ref os e) (state saved branches tags command)
          (state saved branches (tags ++ e ∷ []) open_command.Nothing)
      tag-leaves-so =
          subst (λ (acts : List _). Leaves digest acts (state saved branches tags command) (state saved branches (tags ++ e ∷ []) open_command.Nothing))
          (sym (acts-by e.0 e.1 tag-of.content kind.Tag tag-of.named tag-of.kind))
          (subst (Leaves digest (tag_acts os None t) (state saved branches tags command)) leaves-so
          (tag-leaves digest (state saved branches tags command) (number_of os t.target) None t may))

      tag-set : OneSet e branches tags command
      tag-set = record {
        left = branches;
        waiting = tags ++ e ∷ [];
        leaves = tag-leaves-so;
        agree = agree-tagged goal branches tags e.0 e.1 is.holds agree;
        here = tagged-here branches tags e.0 e.1;
        kept = λ q. tagged-kept branches tags e.0 e.1 q;
        gone = λ q none gone. gone;
        few = omega arith;
        few_tags = let len = length-append tags (e ∷ []) in omega (arith, len);
      }

    one-set : length branches < branch_limit → length tags < tag_limit → OneSet e branches tags command
    one-set few few_tags = elim (refs.targets e.0 e.1 is.holds) [
      | inl commit ↦ commit-set commit few
      | inr tag ↦ tag-set tag.0 tag.1 tag.2 few_tags
    ]

  -- ---- all of them

  pub are-set : (es : List (List ℕ × List ℕ)) (branches : Branches) (tags : PendingTags)
      (command : OpenCommand OpenCommit) → AllByRecursion (IsRef repository) es
      → length branches + 2 * length es < branch_limit → length tags + length es ≤ tag_limit
      → Agree goal branches tags → AreSet es branches tags command
  are-set [] branches tags command h few few_tags agree = record {
    left = branches;
    waiting = tags;
    last = command;
    leaves = nothing (state saved branches tags command);
    agree = agree;
    each = λ q any. absurd (false≢true any);
    kept = λ q is. is;
    gone = λ q none is. is;
  }
  are-set (e ∷ es) branches tags command h few few_tags agree =
      let one = one-set e h.0 branches tags command agree (omega (arith, few)) (omega (arith, few_tags)) in
      let longer = one.few in
      let more = one.few_tags in
      let rest = are-set es one.left one.waiting open_command.Nothing h.1 (omega (arith, few, longer)) (omega (arith, few_tags, more)) one.agree in
      record {
        left = rest.left;
        waiting = rest.waiting;
        last = rest.last;
        leaves = both digest {c = state saved rest.left rest.waiting rest.last} one.leaves rest.leaves;
        agree = rest.agree;
        each = λ q any. elim (cases_Bool (bytes_eq q e.0)) [
          | inl here ↦
              subst (IsSet rest.left rest.waiting) (sym (bytes-are q e.0 here)) (rest.kept e.0 one.here)
          | inr other ↦
              let later : list_any (λ (x : List ℕ × List ℕ). bytes_eq q x.0) es ≡ true = rw other at any in
              rest.each q later
        ];
        kept = λ q is. rest.kept q (one.kept q is);
        gone = λ q none is. rest.gone q none (one.gone q none is);
      }
