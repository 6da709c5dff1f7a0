use Rattle.model.proofs.Laws.{refusals_alter_nothing, questions_alter_nothing}
use Rattle.model.proofs.calls_stand.Goals as goal

pub returns : goal.returns
returns c = record { refusals = refusals_alter_nothing; questions = questions_alter_nothing }
