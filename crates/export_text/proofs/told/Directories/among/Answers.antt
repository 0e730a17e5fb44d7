use Rattle.std.proofs.Common.{List, [], ◌∷◌, sym, subst}
use Rattle.std.specs.Prelude.{All}
use Rattle.std.proofs.lemmas.List.Elements.{All-append, All-cons, All-nil}
use Rattle.export_text.specs.declared.told.Directory.{Directory}
use Rattle.export_text.specs.Lines.{IsTold}
use Rattle.export_text.proofs.told.Directories.among.Goals as goal

pub loop-preserved : goal.loop-preserved
loop-preserved c = λ os out.
    subst (λ (ds : List Directory). All (IsTold os out) ds) (sym c.in_ok-push.ensures.items)
    (All-append (IsTold os out) c.loop.directories.items (c.empty.result ∷ []) (c.loop.invariant os out)
    (All-cons (IsTold os out) c.empty.result [] (c.empty.ensures os out) (All-nil (IsTold os out))))
