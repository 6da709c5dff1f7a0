use Rattle.books.specs.Plains.{owns_none}
use Rattle.books.proofs.routes.Routes.new.Goals as goal

pub returns : goal.returns
returns c = owns_none 64
