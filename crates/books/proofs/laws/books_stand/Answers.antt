use Rattle.books.specs.Owns.{own_lawful, frames_stay}
use Rattle.books.proofs.Followers.{lines_hold, others_stay, followers_stay}
use Rattle.books.proofs.laws.books_stand.Goals as goal

pub returns : goal.returns
returns c = record { own = own_lawful; lines = lines_hold; others = others_stay; followers = followers_stay; frames = frames_stay }
