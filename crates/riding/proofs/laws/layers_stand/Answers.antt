use Rattle.riding.specs.Layers.{layered_path, layered_follows, layered_levels, layered_limit, layered_scale}
use Rattle.riding.specs.Lawful.{layered_lawful}
use Rattle.riding.proofs.laws.layers_stand.Goals as goal

pub returns : goal.returns
returns c = record {
  add = λ s b. record { paths = layered_path s b; followers = layered_follows s b; levels = layered_levels s b; limit = layered_limit s b; scale = layered_scale s b };
  lawful = layered_lawful;
}
