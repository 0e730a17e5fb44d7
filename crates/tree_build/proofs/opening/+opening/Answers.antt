use Rattle.std.proofs.Common.{ℕ, ◌∷◌, length, refl, sym, ap, ◌∙◌, subst, arith, rules}
use Rattle.std.specs.Prelude.{Option}
use Rattle.std.proofs.lemmas.Result.{on_ok_weaker}
use Rattle.file_maps.specs.FileMap.{Path}
use Rattle.tree_build.specs.declared.dir.Node.{Node}
use Rattle.tree_build.specs.Shape.{opened, Held, Directory}
use Rattle.tree_build.specs.Branch.{IsShape, IsHeld, closed_along, closed_from}
use Rattle.tree_build.specs.Nodes.{held, shape_of}
use Rattle.tree_build.specs.Opened.{OpensHeld, ReadsMore}
use Rattle.tree_build.proofs.Entries.{closed_child, closed_at, entry_at}
use Rattle.tree_build.proofs.Named.{node_found, name_lacks}
use Rattle.tree_build.proofs.Along.{opens_entry, opens_none, opens_here, opens_unopened, closed_root, one_more, one_read}
use Rattle.tree_build.proofs.opening.+opening.Goals as goal
use Rattle.tree_build.proofs.opening.+opening.Goals.{open_below-After-open_along-in-Unopened}
use Rattle.tree_build.proofs.opening.+opening.Given.{Over}

pub open_along-returns-in_default-clause-opens : goal.open_along-returns-in_default-clause-opens
open_along-returns-in_default-clause-opens g t c =
    opens_none c.args.objects.now c.args.dir.now c.requires.sound c.args.path.now
    (ap (closed_along c.args.dir.now.entries) c.in_default.ensures ∙ closed_root c.args.dir.now.entries)

pub open_along-open_below-requires : goal.open_along-open_below-requires
open_along-open_below-requires g t c κs within =
    let d = c.decreases in
    let n = ap (λ (p : Path). length p) c.in-Some.ensures in
    let os = c.args.objects.now in
    let found = node_found c.in-Some.name.now c.dir.inside.entries.items c.in-Some-place_of.at
    (sym c.place_of.ensures ∙ c.in-Some-place_of.is) c.node_mut.result.now c.node_mut.ensures.value in
    let sound = subst (IsShape os) (ap (λ (x : Directory). x.entries) (sym c.dir.view_is)) c.requires.sound in
    let e = entry_at os (shape_of c.dir.inside.entries.items) sound c.in-Some.name.now (held c.node_mut.result.now) found.stands in
    (omega arith, (search (rules, within), (e.0.sound, e.1)))

pub open_along-returns-in-Some-place_of-clause-opens :
    goal.open_along-returns-in-Some-place_of-clause-opens
open_along-returns-in-Some-place_of-clause-opens g t c =
    let os = c.args.objects.now in
    let found = node_found c.in-Some.name.now c.dir.inside.entries.items c.in-Some-place_of.at
    (sym c.place_of.ensures ∙ c.in-Some-place_of.is) c.node_mut.result.now c.node_mut.ensures.value in
    let sound = subst (IsShape os) (ap (λ (x : Directory). x.entries) (sym c.dir.view_is)) c.requires.sound in
    on_ok_weaker c.open_below.result
    (λ opens. opens_entry os (shape_of c.dir.inside.entries.items) sound c.in-Some.name.now c.in-Some.rest
    (held c.node_mut.result.now) (held c.open_below.new.node) found.stands opens _ c.dir.inside.tree refl
    (found.set c.open_below.new.node) c.args.dir.now (ap (λ (x : Directory). x.tree) (sym c.dir.view_is))
    (ap (λ (x : Directory). x.entries) (sym c.dir.view_is)) c.args.path.now c.in-Some.ensures)
    c.open_below.ensures.opens

pub open_along-returns-in-Some-place_of-clause-reads :
    goal.open_along-returns-in-Some-place_of-clause-reads
open_along-returns-in-Some-place_of-clause-reads g t c =
    let found = node_found c.in-Some.name.now c.dir.inside.entries.items c.in-Some-place_of.at
    (sym c.place_of.ensures ∙ c.in-Some-place_of.is) c.node_mut.result.now c.node_mut.ensures.value in
    subst (ReadsMore c.args.reads.now c.open_below.new.reads)
    (sym (ap (closed_along c.args.dir.now.entries) c.in-Some.ensures
    ∙ ap (λ (x : Directory). closed_along x.entries (c.in-Some.name.now ∷ c.in-Some.rest)) (sym c.dir.view_is)
    ∙ closed_at (shape_of c.dir.inside.entries.items) c.in-Some.name.now c.in-Some.rest
    ∙ ap (λ (o : Option Held). closed_child o c.in-Some.rest) found.stands))
    c.open_below.ensures.reads

pub open_along-returns-in-None-clause-opens : goal.open_along-returns-in-None-clause-opens
open_along-returns-in-None-clause-opens g t c =
    let lacks = name_lacks c.in-Some.name.now c.dir.inside.entries.items (sym c.place_of.ensures ∙ c.in-None.is) in
    opens_none c.args.objects.now c.args.dir.now c.requires.sound c.args.path.now
    (ap (closed_along c.args.dir.now.entries) c.in-Some.ensures
    ∙ ap (λ (x : Directory). closed_along x.entries (c.in-Some.name.now ∷ c.in-Some.rest)) (sym c.dir.view_is)
    ∙ closed_at (shape_of c.dir.inside.entries.items) c.in-Some.name.now c.in-Some.rest
    ∙ ap (λ (o : Option Held). closed_child o c.in-Some.rest) lacks.0)

pub open_below-returns-then-len-eq0-clause-opens :
    goal.open_below-returns-then-len-eq0-clause-opens
open_below-returns-then-len-eq0-clause-opens g t c =
    opens_here c.args.objects.now (held c.args.node.now) c.requires.sound
    c.args.rest.now (sym c.len.ensures ∙ c.if-len-eq0.true)

pub open_below-returns-in_err-dir-in-Unopened-clause-reads :
    goal.open_below-returns-in_err-dir-in-Unopened-clause-reads
open_below-returns-in_err-dir-in-Unopened-clause-reads g t c =
    let a = c.saturating_add.ensures in
    let f = c.if-len-eq0.false in
    subst (λ (n : Node). ReadsMore c.args.reads.now c.saturating_add.result (closed_from (held n) c.args.rest.now))
    (sym c.in-Unopened.is)
    (one_read c.args.reads.now c.saturating_add.result c.args.rest.now
    (λ e. f (c.len.ensures ∙ ap (λ (p : Path). length p) e)) (omega arith) (omega arith))

-- a directory that had to be opened counts as one
reads_more : (g : Over) (t : ℕ) (c : open_below-After-open_along-in-Unopened g t)
    → ReadsMore c.args.reads.now c.open_along-in-Unopened.new.reads (closed_from (held c.args.node.now) c.args.rest.now)
reads_more g t c =
    let a = c.saturating_add.ensures in
    let f = c.if-len-eq0.false in
    subst (λ (n : Node). ReadsMore c.args.reads.now c.open_along-in-Unopened.new.reads (closed_from (held n) c.args.rest.now))
    (sym c.in-Unopened.is)
    (one_more c.args.reads.now c.saturating_add.result c.open_along-in-Unopened.new.reads c.in_ok-dir-in-Unopened.dir.entries c.args.rest.now
    (λ e. f (c.len.ensures ∙ ap (λ (p : Path). length p) e)) (omega arith) (omega arith) c.open_along-in-Unopened.ensures.reads)

pub open_below-returns-in_err-open_along-in-Unopened-clause-reads :
    goal.open_below-returns-in_err-open_along-in-Unopened-clause-reads
open_below-returns-in_err-open_along-in-Unopened-clause-reads g t c =
    reads_more g t (goal.at.open_below-returns-in_err-open_along-in-Unopened-clause-reads g t c).After-open_along-in-Unopened

pub open_below-returns-in_ok-open_along-in-Unopened-clause-reads :
    goal.open_below-returns-in_ok-open_along-in-Unopened-clause-reads
open_below-returns-in_ok-open_along-in-Unopened-clause-reads g t c =
    reads_more g t (goal.at.open_below-returns-in_ok-open_along-in-Unopened-clause-reads g t c).After-open_along-in-Unopened

pub open_below-returns-in_ok-open_along-in-Unopened-clause-opens :
    goal.open_below-returns-in_ok-open_along-in-Unopened-clause-opens
open_below-returns-in_ok-open_along-in-Unopened-clause-opens g t c =
    let d = c.open_along-in-Unopened.new.dir in
    subst (λ (n : Node). OpensHeld c.args.objects.now c.args.rest.now (held n) (record { what = opened d.tree; inside = d.entries }))
    (sym c.in-Unopened.is)
    (opens_unopened c.args.objects.now c.args.rest.now c.in-Unopened.id
    c.in_ok-dir-in-Unopened.dir d c.in_ok-dir-in-Unopened.ensures c.in_ok-open_along-in-Unopened.ensures.opens
    (subst (λ (n : Node). IsHeld c.args.objects.now (held n)) c.in-Unopened.is c.requires.sound).0)
