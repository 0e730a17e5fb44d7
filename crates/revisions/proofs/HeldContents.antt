-- Among held objects the contents of each name can be read as its kind.
use Rattle.std.proofs.Common.{◌≡◌, ℕ, List, Some, sym, subst}
use Rattle.git_model.specs.Content.{Content}
use Rattle.git_model.specs.Repository.{Object, object_named}
use Rattle.git_model.specs.References.{place_of}
use Rattle.git_model.specs.HeldObjects.{AreHeld, IsHeldObject}
use Rattle.git_model.specs.Readable.{IsReadable}
use Rattle.git_model.proofs.Places.{stands_at, at_place}

pub readable_named : (digest : List ℕ → List ℕ) (os : List Object) (id : List ℕ) (c : Content)
    → AreHeld digest os → Some c ≡ object_named id os → IsReadable c.kind c.bytes
readable_named digest os id c held is =
    let at = stands_at id os c (sym is) in
    let each = at_place (IsHeldObject digest) os (place_of id os) held.each at.within in
    (subst (IsHeldObject digest) at.object each).readable
