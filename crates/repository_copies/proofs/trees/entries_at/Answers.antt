use Rattle.std.proofs.Common.{◌≡◌, List, sym, subst}
use Rattle.std.specs.Prelude.{IfOk}
use Rattle.git_model.specs.Tree.{TreeEntry}
use Rattle.git_objects.specs.Parts.{entries_of}
use Rattle.commit_walk.proofs.CommitsAt.{nothing_told}
use Rattle.repository_copies.proofs.TreeSteps.{contents-told, place-within, tree-at}
use Rattle.repository_copies.proofs.trees.entries_at.Goals as goal

pub returns-in-Some : goal.returns-in-Some
returns-in-Some g c good tree is place =
    let at = tree-at g.N.Naming.digest_of c.args.objects.now good tree is in
    subst (λ (es : List TreeEntry). IfOk c.entries_in.result (λ found. entries_of found.items ≡ es)) (sym at.entries)
    (c.entries_in.ensures at.es at.writable
    (contents-told c.args.objects.now tree at c.args.place place c.in-Some.field-0-0 c.in-Some.field-0-1 c.in-Some.contents.now
    c.in-Some.ensures))

pub returns-in-None : goal.returns-in-None
returns-in-None g c good tree is place =
    absurd (nothing_told c.args.objects.now c.args.place c.in-None.ensures
    (place-within g.N.Naming.digest_of c.args.objects.now good tree is c.args.place place))
