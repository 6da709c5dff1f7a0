use Rattle.std.proofs.Common.{◌≡◌, ℕ, ◌+◌, ◌<◌, List, length, sym, refl, ap, ◌∙◌, subst, arith}
use Rattle.times.specs.Of.{time_of, moment_of}
use Rattle.model.specs.Halls.{Hall, left}
use Rattle.model.specs.Runs.{step, records}
use Rattle.floor_laws.specs.Writing.{written}
use Rattle.floor.specs.Of.{hall_of}
use Rattle.runs.specs.Encounters.{encounter_told}
use Rattle.runs.specs.Running.{ended_number}
use Rattle.runs.proofs.Going.{going_new, going_slip, going_page, going_more, going_all, fire_fits, fewer, next_at, stop_at}
use Rattle.runs.proofs.running.go_on.Goals as goal

pub steps-init : goal.steps-init
steps-init g c = record { going = going_new _ _ _ _ _ _ c.requires.slip c.requires.page; slip = refl; page = refl }

pub overflow_sub-slip : goal.overflow_sub-slip
overflow_sub-slip g c =
    let i = c.steps.invariant.going in
    let e = going_slip (time_of c.args.goal) _ _ _ _ _ _ _ _ _ i in
    omega (arith, e, i.room)

pub returns-clause-went : goal.returns-clause-went
returns-clause-went g c =
    let i = c.steps.invariant.going in
    let t = time_of c.args.goal in
    going_all t _ _ _ _ _ _ c.steps.steps c.steps.slip.used c.steps.page.used i (ended_number c.in-Err.ended) c.used.result c.used.ensures
    (stop_at t _ _ _ _ c.steps.slip.used c.steps.page.used c.left.result _ (going_slip t _ _ _ _ _ _ _ _ _ i) (going_page t _ _ _ _ _ _ _ _ _ i) c.left.ensures (ended_number c.in-Err.ended) c.in-Err.ensures)

pub step-done-requires : goal.step-done-requires
step-done-requires g c =
    let i = c.steps.invariant.going in
    let e = going_slip (time_of c.args.goal) _ _ _ _ _ _ _ _ _ i in
    fire_fits (time_of c.args.goal) _ _ _ (c.in-Ok.due.slot.number, moment_of c.in-Ok.due.moment) c.in-Ok.ensures c.steps.slip.used c.steps.slip.lines.now (omega (arith, e, i.room))

pub steps-smaller : goal.steps-smaller
steps-smaller g c =
    let m : Hall = hall_of g.B.FlightBook.meaning g.Q.EventQueue.holds c.steps.floor in
    subst (λ (h : Hall). left h < left m) (sym c.step-done.ensures.moved.wrote.hall)
    (fewer (time_of c.args.goal) _ _ m (c.in-Ok.due.slot.number, moment_of c.in-Ok.due.moment) c.in-Ok.ensures)

pub steps-preserved : goal.steps-preserved
steps-preserved g c =
    let m : Hall = hall_of g.B.FlightBook.meaning g.Q.EventQueue.holds c.steps.floor in
    let i = c.steps.invariant.going in
    let f = c.in-Ok.due.slot.number in
    let k = moment_of c.in-Ok.due.moment in
    let t = time_of c.args.goal in
    let told : List ℕ = records (time_of c.step-done.result.time) (encounter_told c.step-done.result.news) in
    let same : told ≡ records (step f k m).time (step f k m).news = λ j. records (c.step-done.ensures.time j) (c.step-done.ensures.news j) in
    record {
      going =
          going_more t _ m _ c.steps.slip.lines.now _ c.steps.page.page.now c.steps.steps c.steps.slip.used c.steps.page.used i (f, k)
          (next_at t _ _ _ _ c.steps.slip.used c.steps.page.used c.left.result m (going_slip t _ m _ _ _ _ _ _ _ i) (going_page t _ m _ _ _ _ _ _ _ i) c.left.ensures (f, k) c.in-Ok.ensures)
          _ _ _ _ _ c.step-done.ensures.moved.wrote
          (c.write_news.ensures.used ∙ ap (λ (r : List ℕ). c.steps.page.used + length r) same)
          (c.write_news.ensures.page ∙ ap (λ (r : List ℕ). written c.steps.page.used r c.steps.page.page.now) same);
      slip = c.step-done.ensures.moved.same ∙ c.steps.invariant.slip;
      page = c.write_news.ensures.same ∙ c.steps.invariant.page;
    }
