-- The acts of an exported object are well formed.
use Rattle.std.proofs.Common.{◌≡◌, ℕ, ◌≤◌, List, [], ◌∷◌, ◌++◌, length, map, Option, None, Some, refl, ap, ◌∙◌, inl, arith}
use Rattle.std.specs.Prelude.{IfSome}
use Rattle.std.specs.List.{AllByRecursion}
use Rattle.std.specs.Option.{option_map}
use Rattle.git_model.specs.declared.file_mode.FileMode.{FileMode}
use Rattle.git_model.specs.declared.file_mode.FileMode.TheVariants as mode
use Rattle.git_model.specs.declared.kind.Kind.{Kind}
use Rattle.git_model.specs.declared.kind.Kind.TheVariants as kind
use Rattle.git_model.specs.Commit.{Commit, CanWriteCommit}
use Rattle.git_model.specs.CommitReading.{commit_read}
use Rattle.git_model.specs.Content.{Content}
use Rattle.git_model.specs.GoodRepository.{AreObjects, IsValid}
use Rattle.git_model.specs.ObjectName.{IsObjectName}
use Rattle.git_model.specs.RefName.{is_ref_name}
use Rattle.git_model.specs.References.{reference, references_of}
use Rattle.git_model.specs.Repository.{Object}
use Rattle.git_model.specs.Tag.{Tag, CanWriteTag}
use Rattle.git_model.specs.TagReading.{tag_read}
use Rattle.git_model.proofs.RefNames.{is_ref_name-Decides}
use Rattle.tenant_tables.specs.Sums.{TreesFit}
use Rattle.file_maps.specs.FileMap.{IsFile, Listed, listed}
use Rattle.file_maps.specs.StoredFiles.{stored_map}
use Rattle.file_maps.proofs.Listing.{all-append}
use Rattle.stream_grammar.specs.Acts.{Act, Object as ObjectAct, Commit as CommitAct}
use Rattle.stream_grammar.specs.Acts.{TagTarget, Tag as TagCommand}
use Rattle.stream_grammar.specs.Acts.{Message}
use Rattle.stream_grammar.specs.Commands.{Done}
use Rattle.stream_grammar.specs.Names.{Marked}
use Rattle.stream_grammar.specs.WellFormed.{IsReferred, IsWellFormed, NamesShortRef}
use Rattle.export_text.specs.ExportActs.{act_of_file, acts_of, acts_of_object, asks, asks_if, commit_acts, dataref, encoding_act, file_acts, fresh_acts, head_acts_of, merges, number_of, parent_acts, tag_acts, tagger_act, wait_if}
use Rattle.export_text.specs.ExportItems.{scratch}
use Rattle.export_text.specs.Reached.{tag_ref}
use Rattle.export_text.proofs.ExportAsked.{commit-writable, tag-writable}
use Rattle.export_laws.proofs.Known.{IsEarlier, IsKnown, known}
use Rattle.export_laws.proofs.OpenTrees.{files-good}

abbrev pub IsWell : Done → Type 0
IsWell done = IsWellFormed done.act

abbrev pub AreWell : List Done → Type 0
AreWell acts = AllByRecursion IsWell acts

both-well : (xs ys : List Done) → AreWell xs → AreWell ys → AreWell (xs ++ ys)
both-well xs ys h k = all-append IsWell xs ys h k

-- the scratch branch has the name of a ref
pub scratch-well : NamesShortRef scratch
unfolding is_ref_name
scratch-well = record { name = inl ((is_ref_name-Decides scratch).0 refl); short = omega arith }

if-well : (act : List ℕ → Act) (text : Option (List ℕ)) → IfSome text (λ t. IsWellFormed (act t))
    → AreWell (asks_if act text)
if-well act None well = tt
if-well act (Some text) well = (well, tt)

-- ---- a commit

fresh-well : (parents : List (List ℕ)) → AreWell (fresh_acts parents)
fresh-well [] = (scratch-well, tt)
fresh-well (first ∷ others) = tt

module _ (os : List Object) where
  merges-well : (others : List (List ℕ)) → AreWell (map (merges os) others)
  merges-well [] = tt
  merges-well (id ∷ others) = (tt, merges-well others)

  parents-well : (parents : List (List ℕ)) → AreWell (parent_acts os parents)
  parents-well [] = tt
  parents-well (first ∷ others) = (tt, merges-well others)

  referred : (m : FileMode) (id : List ℕ) → IsObjectName id → IsReferred (dataref os m id)
  referred mode.Gitlink id name = name
  referred mode.Regular id name = tt
  referred mode.Executable id name = tt
  referred mode.Symlink id name = tt
  referred mode.Directory id name = tt

  files-well : (files : Listed) → AllByRecursion IsFile files → AreWell (map (act_of_file os) files)
  files-well [] are = tt
  files-well (f ∷ files) are = (
    (referred f.1.mode f.1.name are.0.name, record { components = are.0.path; limits = are.0.limits }),
    files-well files are.1,
  )

  head-well : (c : Commit) → CanWriteCommit c → AreWell (head_acts_of c)
  head-well c can =
      both-well (fresh_acts c.parents) _ (fresh-well c.parents)
      (scratch-well, (tt, (can.author, (can.committer, if-well encoding_act c.encoding can.encoding))))

  commit-well : (id : List ℕ) (c : Commit) → CanWriteCommit c
      → AllByRecursion IsFile (listed (stored_map os c.tree)) → AreWell (commit_acts os id c)
  commit-well id c can are =
      both-well _ _
      (both-well _ (file_acts os c.tree)
      (both-well _ (parent_acts os c.parents)
      (both-well (head_acts_of c) (asks (CommitAct (Message (Some (number_of os id)) c.message)) ∷ [])
      (head-well c can) (tt, tt)) (parents-well c.parents))
      (tt, files-well (listed (stored_map os c.tree)) are)) (tt, tt)

-- ---- a tag

wait-well : (mark : Option ℕ) → AreWell (wait_if mark)
wait-well None = tt
wait-well (Some mark) = (tt, tt)

pub tag-well : (os : List Object) (mark : Option ℕ) (t : Tag) → CanWriteTag t
    → length (tag_ref t.name) ≤ 1024 → AreWell (tag_acts os mark t)
tag-well os mark t can short = (
  record { name = record { name = can.name; short = short }; tag = (t.name, refl) },
  both-well _ (asks (ObjectAct (TagCommand mark t.message)) ∷ [])
      (both-well _ (asks_if tagger_act t.tagger)
      (both-well (wait_if mark) (asks (ObjectAct (TagTarget (Marked (number_of os t.target)))) ∷ [])
      (wait-well mark) (tt, tt)) (if-well tagger_act t.tagger can.tagger)) (tt, tt),
)

-- ---- an object that stands next

module _ (digest : List ℕ → List ℕ) (os : List Object) (good : AreObjects digest os)
    (fit : TreesFit [] os) (first : List Object) where
  kind-well : (k : Kind) (id bytes : List ℕ) → IsValid os k bytes
      → AllByRecursion (IsEarlier os first) (references_of k bytes) → AreWell (acts_of os id k bytes)
  kind-well kind.Blob id bytes valid refers = (tt, (tt, (tt, tt)))
  kind-well kind.Tree id bytes valid refers = tt
  kind-well kind.Commit id bytes valid refers =
      let c : Commit = commit_read bytes in
      let tree : IsEarlier os first (reference kind.Tree c.tree) = refers.0 in
      commit-well os id c (commit-writable os bytes valid)
      (files-good digest os good fit c.tree
      (ap (option_map (λ (x : Content). x.kind)) tree.here ∙ ap Some tree.kind)).each
  kind-well kind.Tag id bytes valid refers =
      let can = tag-writable os bytes valid in
      tag-well os (Some (number_of os id)) (tag_read bytes) can.0 can.1

  pub object-well : (rest : List Object) (o : Object) → os ≡ first ++ o ∷ rest
      → AreWell (acts_of_object os o)
  object-well rest o is =
      let what : IsKnown digest os first o = known digest os first rest o good is in
      kind-well o.content.kind o.id o.content.bytes what.is.valid what.refers
