use Rattle.std.proofs.Common.{ap, ◌∙◌}
use Rattle.rules.specs.Books.{Book}
use Rattle.times.specs.Of.{moment_of}
use Rattle.books.specs.Told.{seating}
use Rattle.tables.specs.Of.{table}
use Rattle.floor.specs.Of.{joined}
use Rattle.floor.proofs.Saving.{saved_leave, saved_enter, saved_change}
use Rattle.floor.proofs.floor.Floor.ride.Goals as goal

pub leave_all-requires : goal.leave_all-requires
leave_all-requires g c = saved_leave (seating c.args.c.number c.args.level c.args.carrier) (moment_of c.args.k) c.args.slip.now.used _ _ _ c.followers-saved.ensures c.requires

pub enter_all-requires : goal.enter_all-requires
enter_all-requires g c = saved_enter (seating c.args.c.number c.args.level c.args.carrier) (moment_of c.args.k) c.args.slip.now.used _ _ _ c.followers-saved.ensures c.requires _ _ _ _ c.leave_all.ensures.wrote (ap (λ (b : Book). joined b (g.Q.EventQueue.holds c.leave_all.new.self.queue) (table c.leave_all.new.self.tables)) c.ride.ensures.after)

pub returns : goal.returns
returns g c = record { wrote = saved_change (seating c.args.c.number c.args.level c.args.carrier) (moment_of c.args.k) c.args.slip.now.used _ _ _ c.followers-saved.ensures c.requires _ _ _ _ c.leave_all.ensures.wrote (ap (λ (b : Book). joined b (g.Q.EventQueue.holds c.leave_all.new.self.queue) (table c.leave_all.new.self.tables)) c.ride.ensures.after) _ _ _ c.enter_all.ensures.wrote; same = c.enter_all.ensures.same ∙ c.leave_all.ensures.same }
