-- The acts of a commit before its end leave it open as it is told.
use Rattle.std.proofs.Common.{◌≡◌, ◌≢◌, ℕ, ◌≤◌, true, List, [], ◌∷◌, ◌++◌, length, map, Option, None, Some, refl, sym, ap, ◌∙◌, subst, append_assoc, inr}
use Rattle.std.specs.FinMap as finmap
use Rattle.std.specs.List.{AllByRecursion}
use Rattle.std.specs.Option.{option_map}
use Rattle.git_model.specs.declared.kind.Kind.{Kind}
use Rattle.git_model.specs.declared.kind.Kind.TheVariants as kind
use Rattle.git_model.specs.Commit.{Commit}
use Rattle.git_model.specs.CommitReading.{commit_read}
use Rattle.git_model.specs.Content.{Content, content_from}
use Rattle.git_model.specs.GoodRepository.{AreObjects, IsValid, parents_limit}
use Rattle.git_model.specs.Reach.{is_referred_to}
use Rattle.git_model.specs.References.{Reference, kind_named, reference}
use Rattle.git_model.specs.Repository.{Object, Repository, object_named}
use Rattle.git_model.proofs.CommitReadings.{commit_back}
use Rattle.tenant_tables.specs.Sums.{TreesFit}
use Rattle.file_maps.specs.FileMap.{FileMap, Listed, listed}
use Rattle.file_maps.specs.StoredFiles.{commit_map, stored_files, stored_map}
use Rattle.file_maps.proofs.Apart.{all-weaker}
use Rattle.stream_grammar.specs.Acts.{Wait, Commit as CommitAct}
use Rattle.stream_grammar.specs.Acts.{Begin, Author, Committer, Message}
use Rattle.stream_grammar.specs.Commands.{Done}
use Rattle.open_commits.specs.OpenCommit.{Header, OpenCommit as Open}
use Rattle.stream_parts.specs.Marks.{as_marked}
use Rattle.stream_parts.specs.declared.branches.Tip.{Tip}
use Rattle.stream_parts.specs.declared.branches.Tip.TheVariants.{Unborn}
use Rattle.stream_parts.specs.Branches.{tip_commit, tip_for}
use Rattle.import_session.specs.Sound.{IsSound}
use Rattle.stream_parts.specs.OpenCommand as open_command
use Rattle.stream_commands.specs.Workspace.{Workspace}
use Rattle.export_text.specs.ExportActs.{asks, asks_if, encoding_act, file_acts, fresh_acts, head_acts_of, number_of, parent_acts}
use Rattle.export_text.specs.ExportItems.{scratch}
use Rattle.export_laws.specs.Commits.{commit_told, header_told, workspace_with}
use Rattle.export_laws.specs.Leaving.{Leaves, nothing}
use Rattle.export_laws.specs.Told.{AreTold, Told, stream_told, workspace_of}
use Rattle.export_laws.proofs.Acts.{asked, both}
use Rattle.export_laws.proofs.FilesPut.{files-put}
use Rattle.export_laws.proofs.Known.{IsEarlier, IsKnown, known, reached-on}
use Rattle.export_laws.proofs.OpenChanges.{MayTell, changes-told}
use Rattle.export_laws.proofs.OpenLines.{begins-with, opened, resets}
use Rattle.export_laws.proofs.OpenParents.{IsToldAs, parents-told, with_open}
use Rattle.export_laws.proofs.OpenReached.{IsTellable, files-tellable}
use Rattle.export_laws.proofs.OpenTrees.{files-good, files-listed, started}

-- The acts of a commit before its end.
abbrev pub acts_before_end : List Object → List ℕ → Commit → List Done
acts_before_end os id c = head_acts_of c ++ asks (CommitAct (Message (Some (number_of os id)) c.message)) ∷ []
    ++ parent_acts os c.parents ++ file_acts os c.tree

-- What was told, with the branch of commits at this tip.
abbrev pub at_tip : Told → Tip → Told
at_tip told tip = record told { branches = (scratch, tip) ∷ [] }

-- These acts leave the commit open as it is told, whatever HEAD is to name.
pub record IsOpened (digest : List ℕ → List ℕ) (os : List Object) (id : List ℕ) (c : Commit)
    (told : Told) : Type 0 where
  pub tip : Tip
  pub leaves : (head : Option (List ℕ)) → Leaves digest (acts_before_end os id c)
      (workspace_of head told) (workspace_with head (at_tip told tip) (commit_told os id c))

-- ---- what was told before

module _ (repository : Repository) (first : List Object) (told : Told)
    (all : AreTold repository first told) where
  there-as : (head : Option (List ℕ)) (tip : Tip) (k : Kind) → k ≢ kind.Tree → (id : List ℕ)
      (content : Content) → object_named id first ≡ Some content → content.kind ≡ k
      → is_referred_to repository id ≡ true
      → IsToldAs repository.objects (workspace_of head (at_tip told tip)) id k
  there-as head tip k other id content is of reached =
      let there = all.each id content is reached (λ tree. other (sym of ∙ tree)) in
      record {
        is = ap (option_map (λ (c : Content). c.kind)) there.object ∙ ap Some of;
        mark = there.mark ∙ ap (λ (k : Kind). Some (as_marked k id)) of;
      }

  there-by : (head : Option (List ℕ)) (tip : Tip) (k : Kind) → k ≢ kind.Tree → (id : List ℕ)
      (found : Option Content) → object_named id first ≡ found
      → option_map (λ (c : Content). c.kind) found ≡ Some k → is_referred_to repository id ≡ true
      → IsToldAs repository.objects (workspace_of head (at_tip told tip)) id k
  there-by head tip k other id None is of reached = cc
  there-by head tip k other id (Some content) is of reached =
      let kinds : content.kind ≡ k = cc in there-as head tip k other id content is kinds reached

  parents-there : (head : Option (List ℕ)) (tip : Tip) (ps : List (List ℕ))
      → AllByRecursion (IsEarlier repository.objects first) (map (reference kind.Commit) ps)
      → AllByRecursion (λ (r : Reference). is_referred_to repository r.id ≡ true) (map (reference kind.Commit) ps)
      → AllByRecursion (λ p. IsToldAs repository.objects (workspace_of head (at_tip told tip)) p kind.Commit) ps
  parents-there head tip [] earlier reached = tt
  parents-there head tip (p ∷ ps) earlier reached = (
    there-as head tip kind.Commit (λ e. cc) p earlier.0.content earlier.0.before earlier.0.kind reached.0,
    parents-there head tip ps earlier.1 reached.1,
  )

  files-there : (head : Option (List ℕ)) (tip : Tip) (files : Listed)
      → AllByRecursion (IsTellable repository first) files
      → AllByRecursion (MayTell repository.objects (workspace_of head (at_tip told tip))) files
  files-there head tip files may =
      all-weaker (IsTellable repository first)
      (MayTell repository.objects (workspace_of head (at_tip told tip)))
      (λ f h. record {
        no_tree = h.no_tree;
        blob = λ other.
            there-by head tip kind.Blob (λ e. cc) f.1.name (object_named f.1.name first) refl
            (h.held other) (h.reached other);
      }) files may

-- ---- the commit

-- The acts up to its message open it on files of its branch, with no parents where it has none.
record IsOpening (digest : List ℕ → List ℕ) (told : Told) (header : Header) (message : List ℕ)
    (own : List (List ℕ)) (acts : List Done) : Type 0 where
  tip : Tip
  parents : List (List ℕ)
  files : FileMap
  none : own ≡ [] → parents ≡ []
  leaves : (head : Option (List ℕ)) → Leaves digest acts (workspace_of head told)
      (workspace_with head (at_tip told tip)
      (record { header = header; message = message; parents = parents; files = files }))

few-parents : (os : List Object) (bytes : List ℕ) → IsValid os kind.Commit bytes
    → length (commit_read bytes).parents ≤ parents_limit
few-parents os bytes (c, is) =
    subst (λ (x : Commit). length x.parents ≤ parents_limit)
    (sym (ap commit_read is.contents ∙ commit_back c is.writable)) is.few_parents

module _ (digest : List ℕ → List ℕ) (repository : Repository) (good : AreObjects digest repository.objects)
    (fit : TreesFit [] repository.objects)
    (first rest : List Object) (id bytes : List ℕ)
    (is : repository.objects ≡ first ++ record { id = id; content = content_from kind.Commit bytes } ∷ rest)
    (reached : is_referred_to repository id ≡ true) (told : Told) (all : AreTold repository first told)
    (named : Option (List ℕ)) (sound : IsSound digest (workspace_of named told)) where
  abbrev o : Object
  o = record { id = id; content = content_from kind.Commit bytes }

  abbrev os : List Object
  os = repository.objects

  abbrev c : Commit
  c = commit_read bytes

  abbrev mark : ℕ
  mark = number_of os id

  what : IsKnown digest os first o
  what = known digest os first rest o good is

  refers-reached : AllByRecursion (λ (r : Reference). is_referred_to repository r.id ≡ true)
      (reference kind.Tree c.tree ∷ map (reference kind.Commit) c.parents)
  refers-reached = reached-on digest repository good id (content_from kind.Commit bytes) what.named reached

  tree : IsEarlier os first (reference kind.Tree c.tree)
  tree = what.refers.0

  kind-of : (l : List Object) → object_named c.tree l ≡ Some tree.content
      → kind_named c.tree l ≡ Some kind.Tree
  kind-of l h = ap (option_map (λ (x : Content). x.kind)) h ∙ ap Some tree.kind

  -- ---- what opens

  abbrev open_with : List (List ℕ) → FileMap → Open
  open_with parents files =
      record { header = header_told mark c; message = c.message; parents = parents; files = files }

  abbrev workspace_at : Option (List ℕ) → Tip → Workspace
  workspace_at head tip = workspace_of head (at_tip told tip)

  abbrev lines : List Done
  lines = asks (CommitAct (Begin scratch)) ∷ asks Wait
      ∷ asks (CommitAct (Author c.author)) ∷ asks (CommitAct (Committer c.committer))
      ∷ asks_if encoding_act c.encoding

  abbrev open_act : List Done
  open_act = asks (CommitAct (Message (Some mark) c.message)) ∷ []

  abbrev reset_at : Option (List ℕ) → Workspace
  reset_at head = record (workspace_of head told) {
    stream = record (stream_told head told) {
      branches = (scratch, Unborn) ∷ [];
      command = open_command.Reset scratch;
    };
  }

  begun-by : (ps : List (List ℕ))
      → IsOpening digest told (header_told mark c) c.message ps (fresh_acts ps ++ (lines ++ open_act))
  begun-by [] = record {
    tip = Unborn;
    parents = [];
    files = finmap.empty;
    none = λ e. refl;
    leaves = λ head.
        asked digest _ _ _ _ _ (resets digest (workspace_of head told) all.branches)
        (opened digest (reset_at head) (inr (Unborn, refl)) (Some mark) c.message c.author c.committer c.encoding
        (open_with [] finmap.empty) refl);
  }
  begun-by (p ∷ ps) =
      let b = begins-with digest told.objects sound.objects sound.trees (header_told mark c) c.message told.branches
      all.branches sound.branches in
      record {
        tip = tip_for (tip_commit told.branches scratch);
        parents = b.parents;
        files = b.files;
        none = λ e. cc e;
        leaves = λ head.
            opened digest (workspace_of head told) all.branches (Some mark) c.message c.author c.committer c.encoding
            (open_with b.parents b.files) b.are;
      }

  -- ---- its files

  files-leave : (head : Option (List ℕ)) (tip : Tip) (files : FileMap)
      → Leaves digest (file_acts os c.tree) (with_open (workspace_at head tip) (open_with c.parents files))
      (with_open (workspace_at head tip) (commit_told os id c))
  files-leave head tip files =
      changes-told digest os (workspace_at head tip) (open_with c.parents files)
      (listed (stored_map os c.tree)) (stored_map os c.tree)
      (files-put (stored_map os c.tree) (files-good digest os good fit c.tree (kind-of os tree.here)))
      (subst (AllByRecursion (MayTell os (workspace_at head tip)))
      (sym (files-listed digest os good c.tree (kind-of os tree.here)))
      (files-there repository first told all head tip (stored_files os c.tree)
      (files-tellable digest repository good first (o ∷ rest) is c.tree (kind-of first tree.before) (kind-of os tree.here)
      refers-reached.0)))

  -- ---- its parents

  parents-leave : (head : Option (List ℕ)) (tip : Tip) (parents : List (List ℕ)) (files : FileMap)
      (ps : List (List ℕ)) → c.parents ≡ ps → (ps ≡ [] → parents ≡ [])
      → (after : FileMap) × Leaves digest (parent_acts os ps) (with_open (workspace_at head tip) (open_with parents files))
      (with_open (workspace_at head tip) (open_with ps after))
  parents-leave head tip parents files [] same none = (
    files,
    subst (λ (l : List (List ℕ)). Leaves digest [] (with_open (workspace_at head tip) (open_with parents files))
        (with_open (workspace_at head tip) (open_with l files))) (none refl) (nothing _),
  )
  parents-leave head tip parents files (p ∷ ps) same none =
      let there = rw same at (parents-there repository first told all head tip c.parents what.refers.1 refers-reached.1) in (
        commit_map told.objects p,
        parents-told digest os (workspace_at head tip) (open_with parents files) p ps there
            (rw same at (few-parents os bytes what.is.valid))
            (started digest told.objects sound.objects sound.trees p there.0.is (open_with parents files)),
      )

  rest-leaves : (head : Option (List ℕ)) (tip : Tip) (parents : List (List ℕ)) (files : FileMap)
      → (c.parents ≡ [] → parents ≡ [])
      → Leaves digest (parent_acts os c.parents ++ file_acts os c.tree)
      (with_open (workspace_at head tip) (open_with parents files))
      (with_open (workspace_at head tip) (commit_told os id c))
  rest-leaves head tip parents files none =
      let first_ones = parents-leave head tip parents files c.parents refl none in
      both digest first_ones.1 (files-leave head tip first_ones.0)

  -- ---- all of them

  parted : (fresh_acts c.parents ++ (lines ++ open_act)) ++ (parent_acts os c.parents ++ file_acts os c.tree)
      ≡ acts_before_end os id c
  parted =
      let later : List Done = parent_acts os c.parents ++ file_acts os c.tree in
      ap (λ (l : List Done). l ++ later) (sym (append_assoc (fresh_acts c.parents) lines open_act))
      ∙ sym (append_assoc (head_acts_of c ++ open_act) (parent_acts os c.parents) (file_acts os c.tree))

  -- Where the first objects of a good repository were told, and a reached commit stands next, its
  -- acts before its end leave it open as it is told.
  pub commit-opened : IsOpened digest os id c told
  commit-opened =
      let b = begun-by c.parents in
      record {
        tip = b.tip;
        leaves = λ head.
            subst (λ (l : List Done). Leaves digest l (workspace_of head told)
            (workspace_with head (at_tip told b.tip) (commit_told os id c))) parted
            (both digest (b.leaves head) (rest-leaves head b.tip b.parents b.files b.none));
      }
