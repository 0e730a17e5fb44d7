use Rattle.std.proofs.Common.{◌≡◌, ℕ, ◌&&◌, not, Bool, true, false, cond, List, Option, None, Some, sym, ap, ◌∙◌}
use Rattle.git_model.specs.declared.file_mode.FileMode.TheVariants as mode
use Rattle.file_maps.specs.declared.entry.Entry.{Entry}
use Rattle.file_maps.specs.FileMap.{Path, Listed}
use Rattle.file_maps.specs.Edits.{is_root, is_empty}
use Rattle.file_maps.specs.Trees.{file_of, entry_or, directory, tree_id, tree_name, entries_within}
use Rattle.plain_files.specs.Below.{files_below}
use Rattle.plain_files.proofs.naming.entry_of.Goals as goal

module _ (digest : List ℕ → List ℕ) (path : Path) (fs : Listed) where
  abbrev stands : Option Entry → Option Entry
  stands o = entry_or digest (is_root path) fs o

  a_file : (o : Option Entry) (e : Entry) → o ≡ file_of fs → o ≡ Some e
      → Some e ≡ stands (file_of fs)
  a_file o e found is = ap stands (sym is ∙ found)

  by_test : (o : Option Entry) (b : Bool) → o ≡ file_of fs → o ≡ None
      → b ≡ (is_empty fs && not (is_root path))
      → cond b None (Some (directory digest fs)) ≡ stands (file_of fs)
  by_test o b found is test =
      ap (λ (t : Bool). cond t None (Some (directory digest fs))) test ∙ ap stands (sym is ∙ found)

  nothing : (o : Option Entry) (b : Bool) → o ≡ file_of fs → o ≡ None
      → b ≡ (is_empty fs && not (is_root path)) → b ≡ true
      → ◌≡◌ {A = Option Entry} None (stands (file_of fs))
  nothing o b found is test yea =
      ap (λ (t : Bool). cond t None (Some (directory digest fs))) (sym yea)
      ∙ by_test o b found is test

  a_directory : (o : Option Entry) (b : Bool) (id : List ℕ) → o ≡ file_of fs → o ≡ None
      → b ≡ (is_empty fs && not (is_root path)) → b ≡ false → id ≡ tree_id digest fs
      → Some (record { mode = mode.Directory; name = id }) ≡ stands (file_of fs)
  a_directory o b id found is test nay named =
      ap (λ (n : List ℕ). Some (record { mode = mode.Directory; name = n })) named
      ∙ ap (λ (t : Bool). cond t None (Some (directory digest fs))) (sym nay)
      ∙ by_test o b found is test

pub returns-in-Some : goal.returns-in-Some
returns-in-Some g c =
    a_file g.N.Naming.digest_of c.args.path.now (files_below c.args.files.now) c.file_of.result c.in-Some.file
    c.file_of.ensures c.in-Some.is

pub returns-then-is_nowhere : goal.returns-then-is_nowhere
returns-then-is_nowhere g c =
    nothing g.N.Naming.digest_of c.args.path.now (files_below c.args.files.now) c.file_of.result c.is_nowhere.result
    c.file_of.ensures c.in-None.is c.is_nowhere.ensures c.if-is_nowhere.true

pub returns-in_ok-name-in-None : goal.returns-in_ok-name-in-None
returns-in_ok-name-in-None g c =
    a_directory g.N.Naming.digest_of c.args.path.now (files_below c.args.files.now) c.file_of.result c.is_nowhere.result c.in_ok-name-in-None.name
    c.file_of.ensures c.in-None.is c.is_nowhere.ensures c.if-is_nowhere.false
    (c.in_ok-name-in-None.ensures
    ∙ ap
    (λ (n : ℕ). tree_name g.N.Naming.digest_of (entries_within g.N.Naming.digest_of n (files_below c.args.files.now)))
    c.depth_of.ensures)
