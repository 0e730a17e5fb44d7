use Rattle.file_maps.proofs.ByComponent.{by-component}
use Rattle.file_maps.proofs.laws.files_by_component.Goals as goal

pub returns : goal.returns
returns c = by-component
