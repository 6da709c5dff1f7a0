use Rattle.pages.proofs.Reading.{back, written_back, only, no_page, in_turn}
use Rattle.pages.proofs.laws.pages_read_back.Goals as goal

pub returns : goal.returns
returns c = record { back = back; written = written_back; only = only; other = no_page; turn = in_turn }
