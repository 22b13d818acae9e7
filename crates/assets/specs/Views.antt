-- What is found of the assets, as lists.
use Rattle.std.specs.Prelude.{map, ℤ}
use Rattle.assets.specs.Assets.{Found}
use Rattle.assets.specs.declared.assets.Assets.{Assets}
use Rattle.assets.specs.declared.estimate.Estimate.{Estimate}

abbrev pub flow_of : Estimate → ℤ
flow_of e = e.flow

abbrev pub loss_of : Estimate → ℤ
loss_of e = e.loss

abbrev pub residue_of : Estimate → ℤ
residue_of e = e.residue

abbrev pub of_assets : Assets → Found
of_assets a = record { flows = map flow_of a.found; losses = map loss_of a.found; residues = map residue_of a.found }
