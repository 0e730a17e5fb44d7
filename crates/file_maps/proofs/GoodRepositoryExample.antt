-- A repository with one file and its tree is good, under a digest that tells kinds apart.
use Rattle.std.proofs.Common.{◌≡◌, ◌≢◌, ℕ, ◌<◌, List, [], ◌∷◌, replicate, All, refl, sym, subst, arith, codes, get_or}
use Rattle.std.proofs.lemmas.List.Elements.{All-nil, All-cons, All-replicate, All-from_recursion}
use Rattle.git_model.specs.declared.file_mode.FileMode.TheVariants as mode
use Rattle.git_model.specs.declared.kind.Kind.TheVariants as kind
use Rattle.git_model.specs.ObjectName.{IsObjectName, object_name}
use Rattle.git_model.specs.Tree.{TreeEntry, IsEntryName, CanWriteEntry, CanWriteTree, tree_contents}
use Rattle.git_model.specs.Content.{content_from}
use Rattle.git_model.specs.Repository.{Object, object_named}
use Rattle.git_model.specs.RefStore.{no_refs}
use Rattle.git_model.specs.References.{reference, tree_references, content_named, place_of}
use Rattle.git_model.specs.GoodRepository.{StandsBefore, MayAdd}
use Rattle.git_model.proofs.TreeReadings.{tree_back}
use Rattle.git_paths.specs.Paths.{IsComponent}
use Rattle.file_maps.specs.FileMap.{Listed, AreFiles}
use Rattle.file_maps.specs.StoredTree.{nothing, first_file}
use Rattle.file_maps.specs.GoodTrees.{IsTreeOfFiles, IsRepository}
use Rattle.file_maps.proofs.GoodTrees.{repository-grows, empty-is}

-- twenty times the first byte, which differs for blobs and trees
abbrev digest : List ℕ → List ℕ
digest bytes = replicate 20 (get_or bytes 0 0)

abbrev id_of : ℕ → List ℕ
id_of byte = replicate 20 byte

is_name : (byte : ℕ) → byte < 256 → IsObjectName (id_of byte)
is_name byte lt = record { size = refl; bytes = All-replicate (λ b. b < 256) 20 byte lt }

-- ---- the objects

abbrev blob : Object
blob = record { id = id_of 98; content = content_from kind.Blob (codes "hello\n") }

abbrev entry : TreeEntry
entry = record { mode = mode.Regular; name = codes "hello"; id = id_of 98 }

abbrev tree : Object
tree = record { id = id_of 116; content = content_from kind.Tree (tree_contents (entry ∷ [])) }

-- ---- what is written

is_entry_name : IsEntryName (codes "hello")
is_entry_name = record {
  not_empty = λ e. cc e;
  no_nul = All-from_recursion (λ b. b ≢ 0) (codes "hello") (
    λ e. omega arith,
    (λ e. omega arith, (λ e. omega arith, (λ e. omega arith, (λ e. omega arith, tt)))),
  );
  no_slash = All-from_recursion (λ b. b ≢ 47) (codes "hello") (
    λ e. omega arith,
    (λ e. omega arith, (λ e. omega arith, (λ e. omega arith, (λ e. omega arith, tt)))),
  );
  not_dot = λ e. cc e;
  not_dot_dot = λ e. cc e;
}

can_write : CanWriteTree (entry ∷ [])
can_write = record {
  entries = All-cons CanWriteEntry entry []
      (record { name = is_entry_name; id = is_name 98 (omega arith) }) (All-nil CanWriteEntry);
  names_are_distinct = λ i j d lt within. absurd (omega arith);
  in_order = λ k d low high. absurd (omega arith);
}

-- ---- each may be added

blob_may : MayAdd digest [] blob
unfolding object_named object_name
blob_may = record {
  new = refl;
  object = record {
    name = is_name 98
        (omega arith);
    named = refl;
    valid = tt;
    short = omega arith;
  };
  connected = All-nil (StandsBefore [] 0);
  room = omega arith;
}

before_tree : StandsBefore (blob ∷ []) 1 (reference kind.Blob (id_of 98))
unfolding object_named place_of
before_tree = record { before = omega arith; kind = refl }

tree_may : MayAdd digest (blob ∷ []) tree
unfolding object_named object_name
tree_may = record {
  new = refl;
  object = record {
    name = is_name 116 (omega arith);
    named = refl;
    valid = (
      entry ∷ [],
      record {
        writable = can_write;
        contents = refl;
        none_empty = All-from_recursion
            (λ (e : TreeEntry). e.mode ≡ mode.Directory → (content_named e.id (blob ∷ [])).bytes ≢ [])
            (entry ∷ []) (λ is. absurd (cc is), tt);
      },
    );
    short = omega arith;
  };
  connected =
      subst (λ (es : List TreeEntry). All (StandsBefore (blob ∷ []) 1) (tree_references es))
      (sym (tree_back (entry ∷ []) can_write))
      (All-cons (StandsBefore (blob ∷ []) 1) (reference kind.Blob (id_of 98)) [] before_tree
      (All-nil (StandsBefore (blob ∷ []) 1)));
  room = omega arith;
}

-- ---- the tree has a file map

abbrev files : Listed
files = (codes "hello" ∷ [], record { mode = mode.Regular; name = id_of 98 }) ∷ []

is_component : IsComponent (codes "hello")
is_component = is_entry_name

are_files : AreFiles files
are_files = record {
  in_order = refl;
  each = (
    record {
      below_the_root = λ e. cc e;
      path = All-cons IsComponent (codes "hello") [] is_component (All-nil IsComponent);
      limits = record { bytes = omega arith; components = omega arith };
      mode = λ e. cc e;
      name = is_name 98 (omega arith);
    },
    tt,
  );
  apart = (tt, tt);
  few = omega arith;
}

has_files : IsTreeOfFiles (blob ∷ tree ∷ []) (id_of 116)
unfolding object_named
has_files = record {
  files = files;
  lists = record {
    direct = entry ∷ [];
    tree = record { content = refl; entries = can_write };
    lists = first_file entry [] [] (λ e. cc e) nothing;
  };
  good = are_files;
}

-- ---- the repository

pub one_file_is_good : IsRepository digest (record { objects = blob ∷ tree ∷ []; refs = no_refs })
one_file_is_good =
    let first = repository-grows digest _ blob (empty-is digest) blob_may (λ is. absurd (cc is)) in
    repository-grows digest _ tree first tree_may (λ is. has_files)
