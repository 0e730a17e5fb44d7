-- The parts of an object as values, whatever place their texts have in memory.
use Rattle.std.specs.Prelude.{List, map}
use Rattle.std.specs.Option.{option_copied}
use Rattle.git_objects.specs.declared.tree_entry.TreeEntry as entry
use Rattle.git_objects.specs.declared.commit.CommitParts as commit
use Rattle.git_objects.specs.declared.tag.TagParts as tag
use Rattle.git_model.specs.Tree.{TreeEntry}
use Rattle.git_model.specs.Commit.{Commit}
use Rattle.git_model.specs.Tag.{Tag}

abbrev pub entry_of : entry.TreeEntry → TreeEntry
entry_of e = record { mode = e.mode; name = e.name.now; id = e.id }

abbrev pub entries_of : List entry.TreeEntry → List TreeEntry
entries_of es = map entry_of es

abbrev pub commit_of : commit.CommitParts → Commit
commit_of p = record {
  tree = p.tree;
  parents = p.ancestors.items;
  author = p.author.now;
  committer = p.committer.now;
  encoding = option_copied p.encoding;
  message = p.message.now;
}

abbrev pub tag_of : tag.TagParts → Tag
tag_of p = record {
  target = p.target;
  kind = p.kind;
  name = p.name.now;
  tagger = option_copied p.tagger;
  message = p.message.now;
}
