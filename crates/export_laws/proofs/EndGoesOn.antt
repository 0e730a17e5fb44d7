-- No act of an export is `done`, which ends a stream.
use Rattle.std.proofs.Common.{◌≡◌, ℕ, false, List, [], ◌∷◌, ◌++◌, map, Option, None, Some, refl, inl, inr}
use Rattle.std.specs.List.{flat_map}
use Rattle.std.specs.Str.{bytes_eq}
use Rattle.std.proofs.lemmas.Bool.{cases_Bool}
use Rattle.git_model.specs.declared.kind.Kind.{Kind}
use Rattle.git_model.specs.declared.kind.Kind.TheVariants as kind
use Rattle.git_model.specs.Commit.{Commit}
use Rattle.git_model.specs.CommitReading.{commit_read}
use Rattle.git_model.specs.References.{content_named}
use Rattle.git_model.specs.RefStore.{RefStore, first_head, listed_refs}
use Rattle.git_model.specs.Repository.{Object, Repository}
use Rattle.git_model.specs.Tag.{Tag}
use Rattle.git_model.specs.TagReading.{tag_read}
use Rattle.file_maps.specs.FileMap.{listed}
use Rattle.file_maps.specs.StoredFiles.{stored_map}
use Rattle.file_maps.proofs.Listing.{all-append}
use Rattle.stream_grammar.specs.Acts.{Act, Wait, Object as ObjectAct, Commit as CommitAct}
use Rattle.stream_grammar.specs.Acts.{BeginTag, TagTarget, Tag as TagCommand}
use Rattle.stream_grammar.specs.Acts.{Begin, Author, Committer, Message}
use Rattle.stream_grammar.specs.Commands.{Done}
use Rattle.stream_grammar.specs.Names.{Marked}
use Rattle.import_session.specs.Stream.{is_finish}
use Rattle.export_text.specs.ExportActs.{act_of_file, acts_of, acts_of_object, acts_of_ref, all_ref_acts, asks, asks_if, commit_acts, encoding_act, ends, export_acts, file_acts, fresh_acts, head_acts, head_acts_of, merges, number_of, object_acts, opening_acts, parent_acts, ref_acts, removal_acts, saving_acts, tag_acts, tagger_act, wait_if}
use Rattle.export_text.specs.ExportItems.{scratch}
use Rattle.export_text.specs.Reached.{extra_tag_refs, reached_objects, tag_ref}
use Rattle.export_laws.proofs.EndCarried.{GoOn}

both-go : (xs ys : List Done) → GoOn xs → GoOn ys → GoOn (xs ++ ys)
both-go xs ys h k = all-append (λ (done : Done). is_finish done.act ≡ false) xs ys h k

all-go : {A : Type 0} (f : A → List Done) → ((x : A) → GoOn (f x)) → (xs : List A)
    → GoOn (flat_map f xs)
all-go f each [] = tt
all-go f each (x ∷ xs) = both-go (f x) (flat_map f xs) (each x) (all-go f each xs)

each-goes : {A : Type 0} (f : A → Done) → ((x : A) → is_finish (f x).act ≡ false) → (xs : List A)
    → GoOn (map f xs)
each-goes f each [] = tt
each-goes f each (x ∷ xs) = (each x, each-goes f each xs)

if-goes : (act : List ℕ → Act) → ((text : List ℕ) → is_finish (act text) ≡ false)
    → (text : Option (List ℕ)) → GoOn (asks_if act text)
if-goes act each None = tt
if-goes act each (Some text) = (each text, tt)

wait-goes : (mark : Option ℕ) → GoOn (wait_if mark)
wait-goes None = tt
wait-goes (Some mark) = (refl, tt)

-- ---- objects

fresh-goes : (parents : List (List ℕ)) → GoOn (fresh_acts parents)
fresh-goes [] = (refl, tt)
fresh-goes (first ∷ others) = tt

parents-go : (os : List Object) (parents : List (List ℕ)) → GoOn (parent_acts os parents)
parents-go os [] = tt
parents-go os (first ∷ others) = (refl, each-goes (merges os) (λ id. refl) others)

files-go : (os : List Object) (tree : List ℕ) → GoOn (file_acts os tree)
files-go os tree = (refl, each-goes (act_of_file os) (λ f. refl) (listed (stored_map os tree)))

head-goes : (c : Commit) → GoOn (head_acts_of c)
head-goes c =
    both-go (fresh_acts c.parents)
    (asks (CommitAct (Begin scratch)) ∷ asks Wait ∷ asks (CommitAct (Author c.author)) ∷ asks (CommitAct (Committer c.committer)) ∷ asks_if encoding_act c.encoding)
    (fresh-goes c.parents)
    (refl, (refl, (refl, (refl, if-goes encoding_act (λ text. refl) c.encoding))))

commit-goes : (os : List Object) (id : List ℕ) (c : Commit) → GoOn (commit_acts os id c)
commit-goes os id c =
    let head = head_acts_of c in
    let opens = asks (CommitAct (Message (Some (number_of os id)) c.message)) ∷ [] in
    let parents = parent_acts os c.parents in
    let files = file_acts os c.tree in
    both-go (head ++ opens ++ parents ++ files) (ends ∷ [])
    (both-go (head ++ opens ++ parents) files
    (both-go (head ++ opens) parents (both-go head opens (head-goes c) (refl, tt)) (parents-go os c.parents))
    (files-go os c.tree)) (refl, tt)

tag-goes : (os : List Object) (mark : Option ℕ) (t : Tag) → GoOn (tag_acts os mark t)
tag-goes os mark t =
    let begins = asks (ObjectAct (BeginTag (tag_ref t.name))) ∷ wait_if mark in
    let target = asks (ObjectAct (TagTarget (Marked (number_of os t.target)))) ∷ [] in
    let tagger = asks_if tagger_act t.tagger in
    let last = asks (ObjectAct (TagCommand mark t.message)) ∷ [] in
    both-go (begins ++ target ++ tagger) last
    (both-go (begins ++ target) tagger
    (both-go begins target (refl, wait-goes mark) (refl, tt)) (if-goes tagger_act (λ text. refl) t.tagger))
    (refl, tt)

kind-goes : (os : List Object) (id : List ℕ) (k : Kind) (bytes : List ℕ) → GoOn (acts_of os id k bytes)
kind-goes os id kind.Blob bytes = (refl, (refl, (refl, tt)))
kind-goes os id kind.Tree bytes = tt
kind-goes os id kind.Commit bytes = commit-goes os id (commit_read bytes)
kind-goes os id kind.Tag bytes = tag-goes os (Some (number_of os id)) (tag_read bytes)

-- ---- refs

ref-goes : (os : List Object) (ref id : List ℕ) (k : Kind) (bytes : List ℕ)
    → GoOn (ref_acts os ref id k bytes)
ref-goes os ref id kind.Tag bytes = tag-goes os None (tag_read bytes)
ref-goes os ref id kind.Blob bytes = (refl, (refl, (refl, tt)))
ref-goes os ref id kind.Tree bytes = (refl, (refl, (refl, tt)))
ref-goes os ref id kind.Commit bytes = (refl, (refl, (refl, tt)))

-- ---- all of them

opening-goes : (store : RefStore) → GoOn (opening_acts store)
unfolding head_acts
opening-goes store = elim (cases_Bool (bytes_eq store.head first_head)) [
  | inl yea ↦ rw yea (refl, tt)
  | inr nay ↦ rw nay (refl, (refl, tt))
]

pub export-goes : (repository : Repository) → GoOn (export_acts repository)
export-goes repository =
    let os = repository.objects in
    let opening = opening_acts repository.refs in
    let objects = object_acts repository in
    let removals = flat_map removal_acts (extra_tag_refs repository) in
    both-go (opening ++ objects ++ saving_acts ++ removals) (all_ref_acts repository)
    (both-go (opening ++ objects ++ saving_acts) removals
    (both-go (opening ++ objects) saving_acts
    (both-go opening objects (opening-goes repository.refs)
    (all-go (acts_of_object os) (λ o. kind-goes os o.id o.content.kind o.content.bytes) (reached_objects repository)))
    (refl, (refl, tt)))
    (all-go removal_acts (λ ref. (refl, (refl, (refl, tt)))) (extra_tag_refs repository)))
    (all-go (acts_of_ref os)
    (λ e. ref-goes os e.0 e.1 (content_named e.1 os).kind (content_named e.1 os).bytes)
    (listed_refs repository.refs))
