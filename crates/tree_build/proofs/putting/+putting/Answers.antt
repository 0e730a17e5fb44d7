use Rattle.std.proofs.Common.{◌≡◌, ◌≤◌, ℕ, List, ◌∷◌, length, refl, sym, ap, ◌∙◌, subst, arith, rules, Ok, Err, IfOk, OnOk, Result}
use Rattle.std.specs.Prelude.{Option, None}
use Rattle.std.proofs.lemmas.List.{get_or_default}
use Rattle.std.proofs.lemmas.Result.{IfOk-weaker}
use Rattle.file_maps.specs.FileMap.{Path, Listed}
use Rattle.file_maps.specs.StoredFiles.{stored_files}
use Rattle.tree_build.specs.declared.dir.Node.{Node}
use Rattle.tree_build.specs.declared.names.Found.{Found}
use Rattle.tree_build.specs.declared.names.Found.TheVariants.{At, PastAll, Absent}
use Rattle.tree_build.specs.Shape.{opened, Shape, Held, Directory, shape_files, held_files}
use Rattle.tree_build.specs.Branch.{IsShape, IsHeld, closed_along, closed_from}
use Rattle.tree_build.specs.Nodes.{held, shape_of}
use Rattle.tree_build.specs.Editing.{child, removed, inserted, changed}
use Rattle.tree_build.specs.Opened.{ReadsMore}
use Rattle.tree_build.specs.Putting.{file_held, new_node, leads_into, PutsHeld}
use Rattle.tree_build.specs.Searches.{place_found}
use Rattle.tree_build.proofs.Entries.{closed_child, closed_at, entry_at, count_there}
use Rattle.tree_build.proofs.Named.{entry_here, node_found, entry_found, name_lacks}
use Rattle.tree_build.proofs.Along.{one_more}
use Rattle.tree_build.proofs.OneWalk.{leads_directory, leads_more, puts_new, puts_instead, puts_inside, puts_unopened}
use Rattle.tree_build.proofs.putting.+putting.Goals as goal
use Rattle.tree_build.proofs.putting.+putting.Goals.{put_unopened-After-put_along}
use Rattle.tree_build.proofs.putting.+putting.Given.{Over}

pub put_along-put_inside-requires : goal.put_along-put_inside-requires
put_along-put_inside-requires g t c κs within =
    let d = c.decreases in
    let n = ap (λ (p : Path). length p) c.in-Some.ensures in
    let os = c.args.objects.now in
    let es = c.dir.inside.entries.items in
    let found = node_found c.in-Some.name.now es c.in-At.at (sym c.find-found.ensures.place ∙ ap place_found c.in-At.is)
    c.node_mut.result.now c.node_mut.ensures.value in
    let sound = subst (IsShape os) (ap (λ (x : Directory). x.entries) (sym c.dir.view_is)) c.requires.sound in
    let few = subst (λ (x : Directory). length (shape_files (stored_files os) x.entries) ≤ 1048576) (sym c.dir.view_is) c.requires.few in
    let e = entry_at os (shape_of es) sound c.in-Some.name.now (held c.node_mut.result.now) found.stands in
    let m = count_there (stored_files os) (shape_of es) c.in-Some.name.now (held c.node_mut.result.now) found.stands in
    let same = c.at.ensures ∙ get_or_default es c.in-At.at c.at.result.now (entry_here es c.in-At.at c.node_mut.result.now) found.within ∙ sym found.is in
    let leads = ap (λ (x : List ℕ × Node). leads_into (held x.1).what c.in-Some.rest) (sym same) ∙ sym c.leads_into.ensures ∙ c.if-leads_into.true in (
      omega arith,
      (
        search (rules, within),
        (
          leads_directory (held c.node_mut.result.now).what c.in-Some.rest leads,
          ((e.0.sound, e.1), (omega arith, leads_more (held c.node_mut.result.now).what c.in-Some.rest leads)),
        ),
      ),
    )

pub put_along-returns-then-leads_into-clause-puts :
    goal.put_along-returns-then-leads_into-clause-puts
put_along-returns-then-leads_into-clause-puts g t c =
    let os = c.args.objects.now in
    let es = c.dir.inside.entries.items in
    let found = node_found c.in-Some.name.now es c.in-At.at (sym c.find-found.ensures.place ∙ ap place_found c.in-At.is)
    c.node_mut.result.now c.node_mut.ensures.value in
    let same = c.at.ensures ∙ get_or_default es c.in-At.at c.at.result.now (entry_here es c.in-At.at c.node_mut.result.now) found.within ∙ sym found.is in
    let leads = ap (λ (x : List ℕ × Node). leads_into (held x.1).what c.in-Some.rest) (sym same) ∙ sym c.leads_into.ensures ∙ c.if-leads_into.true in
    let had : c.args.dir.now.entries ≡ shape_of es = ap (λ (x : Directory). x.entries) (sym c.dir.view_is) in
    IfOk-weaker c.put_inside.result _ _
    (λ gone puts. puts_inside os (file_held c.args.entry.now) c.args.dir.now _ c.in-Some.name.now c.in-Some.rest c.args.path.now c.in-Some.ensures
    c.requires.sound refl gone (held c.node_mut.result.now) (held c.put_inside.new.node)
    (ap (λ (s : Shape). child s c.in-Some.name.now) had ∙ found.stands)
    (leads_more (held c.node_mut.result.now).what c.in-Some.rest leads) puts
    (found.set c.put_inside.new.node ∙ ap (λ (s : Shape). changed s c.in-Some.name.now (held c.put_inside.new.node)) (sym had)))
    c.put_inside.ensures.puts

pub put_along-returns-then-leads_into-clause-reads :
    goal.put_along-returns-then-leads_into-clause-reads
put_along-returns-then-leads_into-clause-reads g t c =
    let es = c.dir.inside.entries.items in
    let found = node_found c.in-Some.name.now es c.in-At.at (sym c.find-found.ensures.place ∙ ap place_found c.in-At.is)
    c.node_mut.result.now c.node_mut.ensures.value in
    subst (ReadsMore c.args.reads.now c.put_inside.new.reads)
    (sym (ap (closed_along c.args.dir.now.entries) c.in-Some.ensures
    ∙ ap (λ (x : Directory). closed_along x.entries (c.in-Some.name.now ∷ c.in-Some.rest)) (sym c.dir.view_is)
    ∙ closed_at (shape_of es) c.in-Some.name.now c.in-Some.rest
    ∙ ap (λ (o : Option Held). closed_child o c.in-Some.rest) found.stands))
    c.put_inside.ensures.reads

pub put_along-put_new-requires-clause-past : goal.put_along-put_new-requires-clause-past
put_along-put_new-requires-clause-past g t c = c.find-found.ensures.past

no_place : (f : Found) → ((at : ℕ) → f ≡ At at → ⊥) → place_found f ≡ None
no_place (At at) h = absurd (h at refl)
no_place PastAll h = refl
no_place Absent h = refl

pub put_along-returns-in_default-found-clause-puts :
    goal.put_along-returns-in_default-found-clause-puts
put_along-returns-in_default-found-clause-puts g t c =
    let os = c.args.objects.now in
    let es = c.dir.inside.entries.items in
    let lacks = name_lacks c.in-Some.name.now es (sym c.find-found.ensures.place ∙ no_place c.find-found.result c.in_default-found.not-At) in
    let had : c.args.dir.now.entries ≡ shape_of es = ap (λ (x : Directory). x.entries) (sym c.dir.view_is) in
    puts_new os (file_held c.args.entry.now) c.args.dir.now _ c.in-Some.name.now c.in-Some.rest c.args.path.now c.in-Some.ensures
    c.requires.sound refl 0
    (ap (λ (s : Shape). child s c.in-Some.name.now) had ∙ lacks.0)
    (ap (λ (s : Shape). removed s c.in-Some.name.now) had ∙ lacks.1 ∙ sym had)
    (c.in_ok-put_new.ensures ∙ ap (inserted c.in-Some.name.now (new_node c.in-Some.rest (file_held c.args.entry.now))) (sym had))
    refl

pub put_along-put_over-requires-clause-sound : goal.put_along-put_over-requires-clause-sound
put_along-put_over-requires-clause-sound g t c =
    subst (IsShape c.args.objects.now) (ap (λ (x : Directory). x.entries) (sym c.dir.view_is)) c.requires.sound

pub put_along-put_over-requires-clause-few : goal.put_along-put_over-requires-clause-few
put_along-put_over-requires-clause-few g t c =
    subst (λ (x : Directory). length (shape_files (stored_files c.args.objects.now) x.entries) ≤ 1048576) (sym c.dir.view_is) c.requires.few

pub put_along-put_over-requires-clause-there : goal.put_along-put_over-requires-clause-there
put_along-put_over-requires-clause-there g t c = sym c.find-found.ensures.place ∙ ap place_found c.in-At.is

both : {A E : Type 0} (r : Result A E) (P : A → Type 0) (Q : Type 0) (R : A → Type 0)
    → IfOk r P → OnOk r Q → ((a : A) → P a → Q → R a) → IfOk r R
both (Ok a) P Q R p q f = f a p q
both (Err e) P Q R p q f = tt

pub put_along-returns-clause-puts : goal.put_along-returns-clause-puts
put_along-returns-clause-puts g t c =
    let os = c.args.objects.now in
    let es = c.dir.inside.entries.items in
    let found = entry_found c.in-Some.name.now es c.in-At.at (sym c.find-found.ensures.place ∙ ap place_found c.in-At.is)
    c.at.result.now c.at.ensures in
    let leads = sym c.leads_into.ensures ∙ c.if-leads_into.false in
    let had : c.args.dir.now.entries ≡ shape_of es = ap (λ (x : Directory). x.entries) (sym c.dir.view_is) in
    both c.put_over.result _ _ _ c.put_over.ensures.gone c.put_over.ensures.entries
    (λ gone files is. puts_instead os (file_held c.args.entry.now) c.args.dir.now _ c.in-Some.name.now c.in-Some.rest c.args.path.now c.in-Some.ensures
    c.requires.sound refl gone (held c.at.result.now.1)
    (ap (λ (s : Shape). child s c.in-Some.name.now) had ∙ found.stands) leads
    (is ∙ ap (λ (s : Shape). inserted c.in-Some.name.now (new_node c.in-Some.rest (file_held c.args.entry.now)) (removed s c.in-Some.name.now)) (sym had))
    (files (held c.at.result.now.1) found.stands))

pub put_unopened-put_along-requires : goal.put_unopened-put_along-requires
put_unopened-put_along-requires g t c κs within =
    let os = c.args.objects.now in
    let d = c.decreases in
    let o = c.in_ok-dir-in-Unopened.ensures in
    let few = subst (λ (n : Node). length (held_files (stored_files os) (held n)) ≤ 1048576) c.in-Unopened.is c.requires.few in
    let n = ap (λ (fs : Listed). length fs) o.files in
    (omega arith, (search (rules, within), (o.sound, (omega arith, c.requires.some))))

-- a directory that had to be opened counts as one
reads_more : (g : Over) (t : ℕ) (c : put_unopened-After-put_along g t)
    → ReadsMore c.args.reads.now c.put_along.new.reads (closed_from (held c.args.node.now) c.args.rest.now)
reads_more g t c =
    let a = c.saturating_add.ensures in
    subst (λ (n : Node). ReadsMore c.args.reads.now c.put_along.new.reads (closed_from (held n) c.args.rest.now))
    (sym c.in-Unopened.is)
    (one_more c.args.reads.now c.saturating_add.result c.put_along.new.reads c.in_ok-dir-in-Unopened.dir.entries c.args.rest.now
    c.requires.some (omega arith) (omega arith) c.put_along.ensures.reads)

pub put_unopened-returns-in_err-gone-in-Unopened-clause-reads :
    goal.put_unopened-returns-in_err-gone-in-Unopened-clause-reads
put_unopened-returns-in_err-gone-in-Unopened-clause-reads g t c =
    reads_more g t (goal.at.put_unopened-returns-in_err-gone-in-Unopened-clause-reads g t c).After-put_along

pub put_unopened-returns-in_ok-gone-in-Unopened-clause-reads :
    goal.put_unopened-returns-in_ok-gone-in-Unopened-clause-reads
put_unopened-returns-in_ok-gone-in-Unopened-clause-reads g t c =
    reads_more g t (goal.at.put_unopened-returns-in_ok-gone-in-Unopened-clause-reads g t c).After-put_along

pub put_unopened-returns-in_ok-gone-in-Unopened-clause-puts :
    goal.put_unopened-returns-in_ok-gone-in-Unopened-clause-puts
put_unopened-returns-in_ok-gone-in-Unopened-clause-puts g t c =
    let os = c.args.objects.now in
    let d = c.put_along.new.dir in
    subst (λ (n : Node). PutsHeld os c.args.rest.now (file_held c.args.entry.now) (held n) (record { what = opened d.tree; inside = d.entries }) c.in_ok-gone-in-Unopened.gone)
    (sym c.in-Unopened.is)
    (puts_unopened os (file_held c.args.entry.now) c.in-Unopened.id c.in_ok-dir-in-Unopened.dir d c.args.rest.now c.in_ok-gone-in-Unopened.gone
    (subst (λ (n : Node). IsHeld os (held n)) c.in-Unopened.is c.requires.sound).0
    c.in_ok-dir-in-Unopened.ensures c.in_ok-gone-in-Unopened.ensures.puts)
