use Rattle.open_commits.proofs.Additions.{adds-stored}
use Rattle.open_commits.proofs.Leavings.{leaves-none, leaves-stored}
use Rattle.open_commits.proofs.open_commit.OpenCommit.store_directory.Goals as goal

pub returns-in_err-store-in-Directory-clause-adds :
    goal.returns-in_err-store-in-Directory-clause-adds
returns-in_err-store-in-Directory-clause-adds g c =
    adds-stored c.store.result _ _ _ _ _ _ _ c.store.ensures.stores

pub returns-in_ok-store-in-Directory-clause-adds :
    goal.returns-in_ok-store-in-Directory-clause-adds
returns-in_ok-store-in-Directory-clause-adds g c =
    adds-stored c.store.result _ _ _ _ _ _ _ c.store.ensures.stores

pub returns-in_err-store-in-Directory-clause-trees :
    goal.returns-in_err-store-in-Directory-clause-trees
returns-in_err-store-in-Directory-clause-trees g c =
    rw c.in-Directory.is (leaves-stored c.store.result _ _ _ _ _ _ _ c.store.ensures.stores)

pub returns-in_ok-store-in-Directory-clause-trees :
    goal.returns-in_ok-store-in-Directory-clause-trees
returns-in_ok-store-in-Directory-clause-trees g c =
    rw c.in-Directory.is (leaves-stored c.store.result _ _ _ _ _ _ _ c.store.ensures.stores)

pub returns-in_default-clause-trees : goal.returns-in_default-clause-trees
returns-in_default-clause-trees g c = leaves-none _ _ _
