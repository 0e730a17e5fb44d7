use Rattle.std.proofs.Common.{◌≡◌, ◌≤◌, ℕ, ◌+◌, length, refl, sym, ap, ◌∙◌, subst, arith}
use Rattle.std.specs.Prelude.{Option}
use Rattle.std.proofs.lemmas.Result.{on_ok_weaker}
use Rattle.git_paths.specs.Paths.{IsPath, strip_prefix}
use Rattle.file_maps.specs.Calls.{Edits}
use Rattle.file_maps.specs.Edits.{files_at, moved, renamed, move_fault, without}
use Rattle.file_maps.specs.FileMap.{Path, Listed, FileMap}
use Rattle.file_maps.specs.StoredFiles.{stored_files}
use Rattle.tree_build.specs.Shape.{Held, held_files}
use Rattle.tree_build.specs.Branch.{Branch, root_files, files_in, closed_from}
use Rattle.tree_build.specs.Nodes.{held}
use Rattle.tree_build.specs.Moving.{files_of_held}
use Rattle.tree_build.proofs.Moved.{IsThere, of_some, of_none, gone, stood, directory-there, full-there}
use Rattle.tree_build.proofs.Moves.{few-moved, good-put, good-rest, put-good, put-edits, edits-renamed, branch-renamed, path-some}
use Rattle.tree_build.proofs.Taken.{IsLeft, rest_is}
use Rattle.tree_build.proofs.Searched.{ordered_held}
use Rattle.tree_build.proofs.files.Files.move_source.Goals as goal
use Rattle.tree_build.proofs.files.Files.move_source.Goals.{After-take_source, In-Some, In_default, After-put_here}
use Rattle.tree_build.proofs.files.Files.move_source.Given.{Over}

pub take_source-requires : goal.take_source-requires
take_source-requires g c =
    ordered_held c.args.objects.now _ c.in_ok-open_to.ensures.branch.held

-- the directories on the way to the source stay open
way : (b : Branch) {path from : Path} → path ≡ from → {was : ℕ} → was ≡ 0 → closed_from b.root from ≤ was
    → closed_from b.root path ≡ 0
way b is closed closer = ap (closed_from b.root) is ∙ omega arith

-- what is left without the source
left : (g : Over) (c : After-take_source g)
    → IsLeft c.args.objects.now c.components.result c.open_to.new.self c.take_source.new.self
left g c =
    let os = c.args.objects.now in
    let opened = c.open_to.new.self in
    let shut = way opened c.components.ensures c.requires.shut (c.in_ok-open_to.ensures.«open» c.args.from.now) in
    subst (IsLeft os c.components.result opened) (sym c.take_source.ensures.rest)
    (rest_is os c.components.result opened c.in_ok-open_to.ensures.branch shut opened.files opened.reads)

files_left : (g : Over) (c : After-take_source g)
    → files_in c.args.objects.now c.take_source.new.self
    ≡ without (files_in c.args.objects.now c.args.self.now) c.args.from.now
files_left g c =
    let old = files_in c.args.objects.now c.args.self.now in
    (left g c).files
    ∙ ap (λ (m : FileMap). without m c.components.result) c.in_ok-open_to.ensures.files
    ∙ ap (without old) c.components.ensures

-- the source
source : (g : Over) (c : In-Some g)
    → IsThere c.args.objects.now
    (files_at (files_in c.args.objects.now c.args.self.now) c.args.from.now)
    (held c.in-Some.node)
source g c =
    let shut = way c.open_to.new.self c.components.ensures c.requires.shut (c.in_ok-open_to.ensures.«open» c.args.from.now) in
    stood c.in_ok-open_to.ensures.branch c.components.result shut c.in_ok-open_to.ensures.files c.components.ensures
    (held c.in-Some.node) (of_some _ _ _ _ c.take_source.ensures.node c.in-Some.is)

pub put_here-requires-clause-directory : goal.put_here-requires-clause-directory
put_here-requires-clause-directory g c = λ root.
    directory-there (source g (goal.at.put_here-requires-clause-directory g c).In-Some) c.args.to.now c.requires.clean
    (sym c.components-to.ensures ∙ root)

pub put_here-requires-clause-few : goal.put_here-requires-clause-few
put_here-requires-clause-few g c =
    few-moved (files_in c.args.objects.now c.args.self.now) c.args.from.now c.requires.branch.files _
    (ap (λ (l : Listed). length l) (source g (goal.at.put_here-requires-clause-few g c).In-Some).files)

pub put_here-requires-clause-may : goal.put_here-requires-clause-may
put_here-requires-clause-may g c =
    let os = c.args.objects.now in
    let old = files_in os c.args.self.now in
    let at = goal.at.put_here-requires-clause-may g c in
    let rest = left g at.After-take_source in
    let there = source g at.In-Some in record {
      branch = rest.branch;
      shut =
          let less = rest.stays c.components-to.result in
          let opened = c.in_ok-open_to.ensures.shut in omega arith;
      held = there.held;
      full = full-there there c.args.to.now c.requires.clean;
      counted =
          c.file_count-total.ensures ∙ c.in_ok-open_to.ensures.branch.counted ∙ rest.count
          ∙ ap (λ (o : Option Held). length (root_files os c.take_source.new.self) + length (files_of_held (stored_files os) o))
          (of_some _ _ _ _ c.take_source.ensures.node c.in-Some.is);
      good =
          put-good (held_files (stored_files os) (held c.in-Some.node)) {m = files_in os c.take_source.new.self} refl c.components-to.ensures
          (good-put old (without old c.args.from.now) (files_in os c.take_source.new.self) (files_left g at.After-take_source)
          c.args.from.now c.args.to.now c.requires.branch.files
          (good-rest old c.args.from.now c.requires.branch.files)
          (subst IsPath c.components-to.ensures c.has_components.ensures)
          _ there.files c.requires.clean);
    }

-- the edit
edits : (g : Over) (c : After-put_here g)
    → (let os = c.args.objects.now in let old = files_in os c.args.self.now in
    files_in os c.take_source.new.self ≡ without old c.args.from.now
    → IsThere os (files_at old c.args.from.now) (held c.in-Some.node)
    → Edits c.put_here.result old (files_in os c.put_here.new.self)
    (move_fault (moved c.args.to.now (files_at old c.args.from.now)) (renamed old c.args.from.now c.args.to.now))
    (renamed old c.args.from.now c.args.to.now))
edits g c rest there =
    let os = c.args.objects.now in
    let old = files_in os c.args.self.now in
    edits-renamed c.put_here.result (files_in os c.take_source.new.self) old (files_in os c.put_here.new.self)
    c.requires.branch.files c.args.from.now c.args.to.now
    (subst IsPath c.components-to.ensures c.has_components.ensures) rest _ there.files c.requires.clean
    (put-edits c.put_here.result (files_in os c.put_here.new.self) (held_files (stored_files os) (held c.in-Some.node))
    {m = files_in os c.take_source.new.self} refl c.components-to.ensures c.put_here.ensures.edits)

pub returns-clause-edits : goal.returns-clause-edits
returns-clause-edits g c =
    let at = goal.at.returns-clause-edits g c in
    edits g at.After-put_here (files_left g at.After-take_source) (source g at.In-Some)

pub returns-clause-branch : goal.returns-clause-branch
returns-clause-branch g c =
    let os = c.args.objects.now in
    let old = files_in os c.args.self.now in
    let at = goal.at.returns-clause-branch g c in
    branch-renamed c.put_here.result old old (files_in os c.put_here.new.self)
    c.requires.branch.files c.args.from.now c.args.to.now
    (subst IsPath c.components-to.ensures c.has_components.ensures) c.requires.clean
    (edits g at.After-put_here (files_left g at.After-take_source) (source g at.In-Some)) c.put_here.ensures.branch

pub returns-clause-reads : goal.returns-clause-reads
returns-clause-reads g c =
    let taken = ap (λ (y : Branch). y.reads) c.take_source.ensures.rest in
    let put = c.put_here.ensures.reads in
    let more = c.open_to.ensures.reads.counted in
    let most = c.open_to.ensures.reads.bounded in
    let same = ap (closed_from c.args.self.now.root) c.components-to.ensures in
    record { counted = omega arith; bounded = omega arith }

pub returns-clause-open : goal.returns-clause-open
returns-clause-open g c =
    let rest = left g (goal.at.returns-clause-open g c).After-take_source in
    on_ok_weaker c.put_here.result
    (λ put q apart. let there = put q (ap (λ (p : Path). strip_prefix p q) c.components-to.ensures ∙ apart) in
    let less = rest.stays q in
    let opened = c.in_ok-open_to.ensures.«open» q in
    omega arith)
    c.put_here.ensures.stays

-- the source is there
missing : (g : Over) (c : In_default g) → ⊥
missing g c =
    let old = files_in c.args.objects.now c.args.self.now in
    let shut = way c.open_to.new.self c.components.ensures c.requires.shut (c.in_ok-open_to.ensures.«open» c.args.from.now) in
    path-some (moved c.args.to.now (files_at old c.args.from.now)) c.requires.clean
    (ap (moved c.args.to.now)
    (gone c.in_ok-open_to.ensures.branch c.components.result shut c.in_ok-open_to.ensures.files c.components.ensures
    (of_none _ _ _ c.take_source.ensures.node c.in_default.is)))

pub returns-in_default-clause-edits : goal.returns-in_default-clause-edits
returns-in_default-clause-edits g c = absurd (missing g (goal.at.returns-in_default-clause-edits g c).In_default)

pub returns-in_default-clause-branch : goal.returns-in_default-clause-branch
returns-in_default-clause-branch g c = absurd (missing g (goal.at.returns-in_default-clause-branch g c).In_default)

pub returns-in_default-clause-open : goal.returns-in_default-clause-open
returns-in_default-clause-open g c = absurd (missing g (goal.at.returns-in_default-clause-open g c).In_default)

pub returns-in_default-clause-reads : goal.returns-in_default-clause-reads
returns-in_default-clause-reads g c = absurd (missing g (goal.at.returns-in_default-clause-reads g c).In_default)
