use Rattle.certified.proofs.Rest.{certificates_rest}
use Rattle.certified.proofs.Histories.{certificates_from_rest}
use Rattle.certified.proofs.certificates_stand.Goals as goal

pub returns : goal.returns
returns c = record { rest = certificates_rest; told = certificates_from_rest }
