-- The whole promise, over every lawful book and every list of calls.
use Rattle.std.proofs.Common.{◌≤◌, List}
use Rattle.rules.specs.Books.{Book, file, ride, Lawful}
use Rattle.model.specs.Halls.{opened}
use Rattle.model.specs.Calls.{Call}
use Rattle.model.specs.Histories.{after}
use Rattle.model.specs.Statement.{Touching, Reports, Promise}
use Rattle.accounts.proofs.Accounts.{accounts_hold}
use Rattle.events.proofs.Reports.{reports_hold, bits_tell}
use Rattle.events.proofs.Changes.{changes_rest}
use Rattle.books.proofs.Followers.{others_stay}
use Rattle.certified.specs.Histories.{Rests}
use Rattle.certified.proofs.Histories.{certificates_from_rest}
use Rattle.telling.proofs.Skies.{usual_inside}
use Rattle.telling.proofs.Resting.{PathsStay}
use Rattle.telling.proofs.History.{inv_rests}
use Rattle.telling.proofs.Touches.{inv, touching_holds}
use Rattle.telling.proofs.Reporting.{reporting_holds}

paths_stay : PathsStay
paths_stay (file c p) b d h = others_stay (file c p) b d h
paths_stay (ride c j k) b d h = others_stay (ride c j k) b d h

module _ (b : Book) (lawful : Lawful b) (small : b.scale ≤ 8) (calls : List Call) where
  -- with a quiet clock the hall is at rest
  pub rests : Rests b calls
  rests = record {
    time = λ t e. let r = inv_rests b.scale small reports_hold (after calls (opened b)) (inv reports_hold bits_tell changes_rest paths_stay b lawful small calls) t e in (r.0.proper, usual_inside t r.0);
    rested = λ t e. (inv_rests b.scale small reports_hold (after calls (opened b)) (inv reports_hold bits_tell changes_rest paths_stay b lawful small calls) t e).1.rested;
  }

  pub touching_told : Touching b calls
  touching_told = touching_holds reports_hold bits_tell changes_rest paths_stay b lawful small calls

  pub reports_told : Reports b calls
  reports_told = reporting_holds reports_hold bits_tell changes_rest paths_stay b lawful small calls

pub promise : Promise
promise b lawful small calls = (accounts_hold b calls, certificates_from_rest b lawful calls (rests b lawful small calls), touching_told b lawful small calls, reports_told b lawful small calls)
