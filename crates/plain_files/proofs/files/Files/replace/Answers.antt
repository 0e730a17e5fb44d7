use Rattle.std.proofs.Common.{◌≡◌, refl, sym, ap, ◌∙◌, subst, Option, None}
use Rattle.std.specs.FinMap as map
use Rattle.std.specs.FinMap.{from_sorted}
use Rattle.std.specs.Option.{option_copied}
use Rattle.git_paths.specs.Order.{path_cmp}
use Rattle.file_maps.specs.FileMap.{Path, Listed, FileMap, AreFiles}
use Rattle.file_maps.specs.Edits.{with_files, put_fault}
use Rattle.file_maps.specs.Kept.{stays, refusal_beside, put_all}
use Rattle.file_maps.proofs.Edited.{edited-is, refusal-is, AreFiles-edited, kept}
use Rattle.plain_files.proofs.Edited.{few_stay}
use Rattle.plain_files.proofs.files.Files.replace.Goals as goal

pub refusal_beside-requires : goal.refusal_beside-requires
refusal_beside-requires c =
    few_stay
    (option_copied c.args.from) c.args.to.now c.self.inside.files.entries _ c.self.invariant c.count_staying-staying.ensures

pub returns-in-Some : goal.returns-in-Some
returns-in-Some c = λ _. (
  ap
      (λ (m : FileMap). put_fault c.args.files.items (with_files (map.retain_keys m (stays (option_copied c.args.from) c.args.to.now)) c.args.files.items))
      (sym c.self.view_is)
      ∙ sym
      (refusal-is (option_copied c.args.from) c.args.to.now c.self.inside.files.entries c.args.files.items c.count_staying-staying.result c.self.invariant c.requires.below c.requires.apart c.count_staying-staying.ensures)
      ∙ ap (refusal_beside c.count_staying-staying.result) (sym c.deref.ensures.value)
      ∙ sym c.refusal_beside.ensures ∙ c.in-Some.is,
  refl,
)

module _ (c : goal.After-drop-self-inside) where
  abbrev from : Option Path
  from = option_copied c.args.from

  abbrev to : Path
  to = c.args.to.now

  abbrev files : Listed
  files = c.args.files.items

  abbrev held : Listed
  held = c.self.inside.files.entries

  not_refused : refusal_beside c.count_staying-staying.result files ≡ None
  not_refused =
      ap (refusal_beside c.count_staying-staying.result) (sym c.deref.ensures.value)
      ∙ sym c.refusal_beside.ensures ∙ c.in-None.is

  left : c.insert_all.new.map.entries ≡ put_all (kept from to held) files
  left =
      c.in_ok-insert_all.ensures
      ∙ ap (λ (l : Listed). put_all l files)
      (c.retain_staying.ensures ∙ ap (λ m. kept from to m.entries) c.replace-map.ensures.value)

pub invariant_of-self-2 : goal.invariant_of-self-2
invariant_of-self-2 c =
    subst AreFiles (sym (left c))
    (AreFiles-edited (from c) (to c) (held c) (files c) _ c.self.invariant c.requires.below c.requires.apart c.count_staying-staying.ensures (not_refused c))

pub returns : goal.returns
returns c = (
  ap
      (λ (m : FileMap). put_fault (files c) (with_files (map.retain_keys m (stays (from c) (to c))) (files c)))
      (sym c.self.view_is)
      ∙ sym
      (refusal-is (from c) (to c) (held c) (files c) c.count_staying-staying.result c.self.invariant c.requires.below c.requires.apart c.count_staying-staying.ensures)
      ∙ not_refused c,
  ap (λ (l : Listed). from_sorted {R = path_cmp} l) (left c)
      ∙ sym (edited-is (from c) (to c) (held c) (files c) c.self.invariant)
      ∙ ap
      (λ (m : FileMap). with_files (map.retain_keys m (stays (from c) (to c))) (files c)) c.self.view_is,
)
