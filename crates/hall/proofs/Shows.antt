-- The small show, computed.
use Rattle.std.proofs.Common.{refl}
use Rattle.model.specs.Halls.{all_craft}
use Rattle.model.specs.Show.{SmallShow}

pub small_show : SmallShow
unfolding all_craft
small_show = (refl, refl)
