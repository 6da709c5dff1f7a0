use Rattle.geometry_laws.proofs.Certificates.{certificates_right, certificates_usual, certificates_one}
use Rattle.geometry_laws.proofs.certificates_stand.Goals as goal

pub returns : goal.returns
returns c = record { right = certificates_right; usual = certificates_usual; one = certificates_one }
