-- The repository of one commit is sound, and fits into a stream.
use Rattle.std.proofs.Common.{◌≡◌, ◌≢◌, ℕ, suc, ◌+◌, ◌<◌, ◌≤◌, Bool, true, false, cond, filter, List, [], ◌∷◌, ◌++◌, length, All, Option, None, Some, refl, sym, ap, ◌∙◌, subst, inl, inr, arith, codes, le-leb, length-append}
use Rattle.std.specs.Prelude.{is_some, map}
use Rattle.std.specs.FinMap as finmap
use Rattle.std.specs.Fmt.{digits}
use Rattle.std.specs.FinMap.{get-empty, len-empty, len-entries, len-insert}
use Rattle.std.specs.List.{AllByRecursion}
use Rattle.std.specs.Ordering.{nat_cmp}
use Rattle.std.specs.Cmp.Lexicographic.{slice_cmp}
use Rattle.std.specs.Option.{option_map}
use Rattle.std.specs.Str.{bytes_eq}
use Rattle.std.proofs.lemmas.Bool.{cases_Bool}
use Rattle.std.proofs.lemmas.Cmp.{nat_list_cmp_total}
use Rattle.std.proofs.lemmas.List.{length-map}
use Rattle.std.proofs.lemmas.List.Elements.{All-nil, All-cons, All-from_recursion}
use Rattle.std.proofs.lemmas.Slice.Eq.{bytes_eq-Decides}
use Rattle.hex.specs.Hex.{encode_with}
use Rattle.hex.proofs.HexLemmas.{length-encode_with}
use Rattle.git_model.specs.declared.file_mode.FileMode.TheVariants as mode
use Rattle.git_model.specs.declared.kind.Kind.TheVariants as kind
use Rattle.git_model.specs.Commit.{Commit, CanWriteCommit, commit_contents}
use Rattle.git_model.specs.CommitReading.{commit_read}
use Rattle.git_model.specs.Content.{Content, name_by}
use Rattle.git_model.specs.GoodRepository.{AreObjects, AreRefs, MayAdd, StandsBefore}
use Rattle.git_model.specs.Ident.{IsWrittenIdent}
use Rattle.git_model.specs.IdentReading.{after_email, after_name, is_date, read_ident}
use Rattle.git_model.specs.ObjectName.{IsObjectName, header, object_name}
use Rattle.git_model.specs.Reach.{is_referred_to}
use Rattle.git_model.specs.RefStore.{ChangesRef, first_head, listed_refs, no_refs, target_of, with_ref}
use Rattle.git_model.specs.References.{commit_references, content_named, kind_named, place_of, reference, tree_references}
use Rattle.git_model.specs.Repository.{Object, object_named}
use Rattle.git_model.specs.Tree.{CanWriteEntry, CanWriteTree, IsEntryName, TreeEntry, tree_contents}
use Rattle.git_model.specs.TreeReading.{tree_read}
use Rattle.git_model.proofs.CommitReadings.{commit_back}
use Rattle.git_model.proofs.GoodRefs.{no_refs_are, ref_changes}
use Rattle.git_model.proofs.Growing.{none_are, one_more}
use Rattle.git_model.proofs.IdentLaws.{read_ident-Ok, written_ident-IsWritten}
use Rattle.git_model.proofs.Places.{first_named, first_place, later_named, later_place, nothing_named}
use Rattle.git_model.proofs.TreeReadings.{tree_back}
use Rattle.git_names.specs.Naming.{AnswersNames, tail_digest}
use Rattle.tenant_tables.specs.Sums.{FitsAfter, HasFiles, IsTreeText}
use Rattle.export_text.specs.Reached.{each_once, is_tag, reached_tags, ref_of_tag, tag_refs}
use Rattle.import_session.specs.Sound.{IsSoundRepository}
use Rattle.export_laws.specs.Copies.{CanBeCopied, CommitFits, FitsStream}
use Rattle.export_laws.proofs.RefsHeld.{target-set}
use Rattle.export_laws.specs.OneCommit.{AreNamedApart, author, blob, commit, entry, first_commit, one_commit, tree}

-- ---- names

itself : (id : List ℕ) → bytes_eq id id ≡ true
itself id = (bytes_eq-Decides id id).1 refl

differs : (x y : List ℕ) → x ≢ y → bytes_eq x y ≡ false
differs x y ne = elim (cases_Bool (bytes_eq x y)) [
  | inl yea ↦ absurd (ne ((bytes_eq-Decides x y).0 yea))
  | inr nay ↦ nay
]

unlike : (x y : List ℕ) → bytes_eq x y ≡ false → x ≢ y
unlike x y nay e = let yea = (bytes_eq-Decides x y).1 e in cc

-- ---- the first, the second and the third of several objects

module _ (o : Object) (os : List Object) where
  first-named : object_named o.id (o ∷ os) ≡ Some o.content
  first-named = first_named o.id o os (itself o.id)

  first-place : place_of o.id (o ∷ os) ≡ 0
  first-place = first_place o.id o os (itself o.id)

module _ (o p : Object) (os : List Object) (ne : p.id ≢ o.id) where
  second-named : object_named p.id (o ∷ p ∷ os) ≡ Some p.content
  second-named = later_named p.id o (p ∷ os) (differs p.id o.id ne) ∙ first-named p os

  second-place : place_of p.id (o ∷ p ∷ os) ≡ 1
  second-place =
      later_place p.id o (p ∷ os) (differs p.id o.id ne)
      ∙ ap (λ (n : ℕ). suc n) (first-place p os)

third-named : (o p q : Object) (os : List Object) → q.id ≢ o.id → q.id ≢ p.id
    → object_named q.id (o ∷ p ∷ q ∷ os) ≡ Some q.content
third-named o p q os ne me =
    later_named q.id o (p ∷ q ∷ os) (differs q.id o.id ne) ∙ second-named p q os me

kind-named : (id : List ℕ) (c : Content) (os : List Object) → object_named id os ≡ Some c
    → kind_named id os ≡ Some c.kind
kind-named id c os e = ap (option_map (λ (content : Content). content.kind)) e

-- ---- what is written

-- the letters come after the marks
letters : (x : ℕ) → x < 97 → All (λ b. b ≢ x) (codes "hello")
letters x low = All-from_recursion (λ b. b ≢ x) (codes "hello")
    (λ e. omega arith, (λ e. omega arith, (λ e. omega arith, (λ e. omega arith, (λ e. omega arith, tt)))))

hello_is : IsEntryName (codes "hello")
hello_is = record {
  not_empty = λ e. cc e;
  no_nul = letters 0 (omega arith);
  no_slash = letters 47 (omega arith);
  not_dot = λ e. cc e;
  not_dot_dot = λ e. cc e;
}

author_is : IsWrittenIdent author
unfolding read_ident after_name after_email is_date
author_is = written_ident-IsWritten author ((read_ident-Ok author).0 refl)

tree_length : (id : List ℕ) → length id ≡ 20
    → length (tree_contents (record { mode = mode.Regular; name = codes "hello"; id = id } ∷ [])) ≤ 134217728
tree_length id size = omega (arith, length-append id [], size)

commit_length : (id : List ℕ) → length id ≡ 20
    → length (commit_contents (record {
      tree = id;
      parents = [];
      author = author;
      committer = author;
      encoding = None;
      message = codes "Say hello\n";
    })) ≤ 134217728
commit_length id size = simp (length-append, length-encode_with) (omega (arith, size))

-- ---- tags

no_tags : (reached : Object → Bool) (os : List Object) → AllByRecursion (λ o. is_tag o ≡ false) os
    → filter is_tag (filter reached os) ≡ []
no_tags reached [] h = refl
no_tags reached (o ∷ os) h = elim (cases_Bool (reached o)) [
  | inl yea ↦ rw (yea, h.0) (no_tags reached os h.1)
  | inr nay ↦ rw nay (no_tags reached os h.1)
]

none_once : length (each_once []) ≡ 0
none_once =
    length-map (finmap.entries (finmap.empty {R = slice_cmp nat_cmp})) (λ e. e.0)
    ∙ sym (len-entries (finmap.empty {R = slice_cmp nat_cmp}))
    ∙ len-empty (slice_cmp nat_cmp) Unit

-- ---- the branch

one_ref : (id : List ℕ) → finmap.len (with_ref no_refs first_head id).refs ≡ 1
one_ref id =
    len-insert nat_list_cmp_total finmap.empty first_head id
    ∙ ap (λ (o : Option (List ℕ)). cond (is_some o) (finmap.len no_refs.refs) (finmap.len no_refs.refs + 1))
    (get-empty (slice_cmp nat_cmp) first_head)
    ∙ ap (λ (n : ℕ). n + 1) (len-empty (slice_cmp nat_cmp) (List ℕ))

sets-branch : (id : List ℕ) → ChangesRef no_refs (with_ref no_refs first_head id) first_head (Some id)
sets-branch id = record {
  this_ref =
      target-set no_refs first_head id first_head
      ∙ ap (λ (b : Bool). cond b (Some id) (target_of no_refs first_head)) (itself first_head);
  other_refs = λ other apart. target-set no_refs first_head id other
      ∙ ap (λ (b : Bool). cond b (Some id) (target_of no_refs other)) (differs other first_head apart);
  head = refl;
}

-- ---- the objects

module _ (digest : List ℕ → List ℕ) (names : AnswersNames digest)
    (apart : AreNamedApart digest) where
  abbrev b : Object
  b = blob digest

  abbrev t : Object
  t = tree digest

  abbrev c : Object
  c = commit digest

  abbrev os : List Object
  os = b ∷ t ∷ c ∷ []

  named : (content : Content) → IsObjectName (name_by digest content)
  unfolding object_name
  named content = names (header content.kind content.bytes ++ content.bytes)

  can_tree : CanWriteTree (entry digest ∷ [])
  can_tree = record {
    entries = All-cons CanWriteEntry (entry digest) []
        (record { name = hello_is; id = named b.content }) (All-nil CanWriteEntry);
    names_are_distinct = λ i j d lt within. absurd (omega arith);
    in_order = λ k d low high. absurd (omega arith);
  }

  can_commit : CanWriteCommit (first_commit digest)
  can_commit = record {
    tree = named t.content;
    parents = All-nil IsObjectName;
    author = author_is;
    committer = author_is;
    encoding = tt;
  }

  tree_says : tree_read t.content.bytes ≡ entry digest ∷ []
  tree_says = tree_back (entry digest ∷ []) can_tree

  commit_says : commit_read c.content.bytes ≡ first_commit digest
  commit_says = commit_back (first_commit digest) can_commit

  blob_may : MayAdd digest [] b
  blob_may = record {
    new = nothing_named b.id;
    object = record { name = named b.content; named = refl; valid = tt; short = omega arith };
    connected = All-nil (StandsBefore [] 0);
    room = omega arith;
  }

  before_tree : StandsBefore (b ∷ []) 1 (reference kind.Blob b.id)
  before_tree = record {
    before = let at = first-place b [] in omega (arith, at);
    kind = kind-named b.id b.content (b ∷ []) (first-named b []);
  }

  tree_may : MayAdd digest (b ∷ []) t
  tree_may = record {
    new = later_named t.id b [] (differs t.id b.id apart.tree_and_blob) ∙ nothing_named t.id;
    object = record {
      name = named t.content;
      named = refl;
      valid = (
        entry digest ∷ [],
        record {
          writable = can_tree;
          contents = refl;
          none_empty = All-from_recursion
              (λ (e : TreeEntry). e.mode ≡ mode.Directory → (content_named e.id (b ∷ [])).bytes ≢ [])
              (entry digest ∷ []) (λ is. absurd (cc is), tt);
        },
      );
      short = tree_length b.id (named b.content).size;
    };
    connected =
        subst (λ (es : List TreeEntry). All (StandsBefore (b ∷ []) 1) (tree_references es))
        (sym tree_says)
        (All-cons (StandsBefore (b ∷ []) 1) (reference kind.Blob b.id) [] before_tree
        (All-nil (StandsBefore (b ∷ []) 1)));
    room = omega arith;
  }

  before_commit : StandsBefore (b ∷ t ∷ []) 2 (reference kind.Tree t.id)
  before_commit = record {
    before = let at = second-place b t [] apart.tree_and_blob in omega (arith, at);
    kind = kind-named t.id t.content (b ∷ t ∷ []) (second-named b t [] apart.tree_and_blob);
  }

  commit_may : MayAdd digest (b ∷ t ∷ []) c
  commit_may = record {
    new =
        later_named c.id b (t ∷ []) (differs c.id b.id apart.commit_and_blob)
        ∙ later_named c.id t [] (differs c.id t.id apart.commit_and_tree) ∙ nothing_named c.id;
    object = record {
      name = named c.content;
      named = refl;
      valid = (
        first_commit digest,
        record { writable = can_commit; contents = refl; few_parents = omega arith },
      );
      short = commit_length t.id (named t.content).size;
    };
    connected =
        subst (λ (said : Commit). All (StandsBefore (b ∷ t ∷ []) 2) (commit_references said))
        (sym commit_says)
        (All-cons (StandsBefore (b ∷ t ∷ []) 2) (reference kind.Tree t.id) [] before_commit
        (All-nil (StandsBefore (b ∷ t ∷ []) 2)));
    room = omega arith;
  }

  good : AreObjects digest os
  good =
      one_more digest (b ∷ t ∷ []) c
      (one_more digest (b ∷ []) t (one_more digest [] b (none_are digest) blob_may) tree_may)
      commit_may

  -- ---- the tree

  tree_fits : IsTreeText t.content.bytes (tree_read t.content.bytes)
      × FitsAfter [] (tree_read t.content.bytes)
  tree_fits =
      subst (λ (es : List TreeEntry). IsTreeText t.content.bytes es × FitsAfter [] es)
      (sym tree_says) (
        record { writable = can_tree; contents = refl },
        record {
          directories = All-from_recursion (HasFiles []) (entry digest ∷ [])
              (λ is. absurd (cc is), tt);
          within = record { files = omega arith; depth = omega arith; longest = omega arith };
        },
      )

  commit_fits : CommitFits (commit_read c.content.bytes)
  commit_fits =
      subst CommitFits (sym commit_says) (record {
        author = omega arith;
        committer = omega arith;
        encoding = tt;
        message = omega arith;
      })

  -- ---- the refs

  is_commit : kind_named c.id os ≡ Some kind.Commit
  is_commit =
      kind-named c.id c.content os (third-named b t c [] apart.commit_and_blob apart.commit_and_tree)

  good_refs : AreRefs os (one_commit digest).refs
  good_refs =
      ref_changes os no_refs (one_commit digest).refs first_head (Some c.id) (no_refs_are os)
      (sets-branch c.id)
      (λ id e.
      let same : c.id ≡ id = cc in
      ((no_refs_are os).head, inl (subst (λ (x : List ℕ). kind_named x os ≡ Some kind.Commit) same is_commit)))
      (let one = one_ref c.id in omega (arith, one))

  pub is-sound : IsSoundRepository digest (one_commit digest)
  is-sound = record { objects = good; trees = (tt, (tree_fits, (tt, tt))); refs = good_refs }

  -- ---- a copy

  tags : reached_tags (one_commit digest) ≡ []
  tags = no_tags (λ o. is_referred_to (one_commit digest) o.id) os (refl, (refl, (refl, tt)))

  refs_listed : length (listed_refs (one_commit digest).refs) ≡ 1
  refs_listed = sym (len-entries (one_commit digest).refs.refs) ∙ one_ref c.id

  tag_refs_none : length (tag_refs (one_commit digest)) ≡ 0
  tag_refs_none = ap (λ (os : List Object). length (each_once (map ref_of_tag os))) tags ∙ none_once

  pub can-be-copied : CanBeCopied (one_commit digest)
  can-be-copied = record {
    fits = All-from_recursion
        (λ (o : Object). FitsStream o.content.kind o.content.bytes) os
        (omega arith, (tt, (commit_fits, tt)));
    few_refs = le-leb _ 65535 (omega (arith, refs_listed, tag_refs_none));
    few_tags = let none = ap (λ (os : List Object). length os) tags in omega (arith, none);
  }

-- ---- a digest that names them apart

pub tails-apart : AreNamedApart tail_digest
unfolding object_name encode_with digits
tails-apart = record {
  tree_and_blob = unlike (tree tail_digest).id (blob tail_digest).id refl;
  commit_and_blob = unlike (commit tail_digest).id (blob tail_digest).id refl;
  commit_and_tree = unlike (commit tail_digest).id (tree tail_digest).id refl;
}
