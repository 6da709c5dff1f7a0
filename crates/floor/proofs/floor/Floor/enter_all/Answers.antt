use Rattle.std.proofs.Common.{refl, arith, ◌∙◌}
use Rattle.times.specs.Of.{moment_of}
use Rattle.model.specs.Moves.{enter}
use Rattle.floor_laws.proofs.Loops.{loop_none, so_room, so_step}
use Rattle.floor_laws.proofs.Moving.{enter_grows}
use Rattle.floor.specs.Saved.{is_saved, saved_box}
use Rattle.floor.proofs.Saving.{loop_over, place_fits, place_wrote}
use Rattle.floor.proofs.floor.Floor.enter_all.Goals as goal

pub loop-d-init : goal.loop-d-init
loop-d-init g c = record { wrote = loop_none (λ d. enter d (saved_box c.args.saved.now d) (moment_of c.args.k)) (is_saved c.args.saved.now) c.args.slip.now.used _ _; same = refl }

pub enter_if-requires : goal.enter_if-requires
enter_if-requires g c = place_fits c.args.saved.now c.loop-d.d _ (omega arith) _ (moment_of c.args.k) _ _ (so_room (λ d. enter d (saved_box c.args.saved.now d) (moment_of c.args.k)) (λ d. enter_grows d (saved_box c.args.saved.now d) (moment_of c.args.k)) (is_saved c.args.saved.now) c.args.slip.now.used _ _ c.requires c.loop-d.d c.loop-d-test.true _ _ _ c.loop-d.invariant.wrote (is_saved c.args.saved.now c.loop-d.d) refl)

pub loop-d-preserved : goal.loop-d-preserved
loop-d-preserved g c = record { wrote = so_step (λ d. enter d (saved_box c.args.saved.now d) (moment_of c.args.k)) (λ d. enter_grows d (saved_box c.args.saved.now d) (moment_of c.args.k)) (is_saved c.args.saved.now) c.args.slip.now.used _ _ c.requires c.loop-d.d c.loop-d-test.true _ _ _ c.loop-d.invariant.wrote (is_saved c.args.saved.now c.loop-d.d) refl _ _ _ (place_wrote c.args.saved.now c.loop-d.d _ (omega arith) _ (moment_of c.args.k) _ _ _ _ _ c.enter_if.ensures.wrote); same = c.enter_if.ensures.same ∙ c.loop-d.invariant.same }

pub returns : goal.returns
returns g c = record { wrote = loop_over (λ d. enter d (saved_box c.args.saved.now d) (moment_of c.args.k)) (is_saved c.args.saved.now) c.loop-d.d c.args.slip.now.used _ _ _ _ _ (omega arith) (omega arith) c.loop-d.invariant.wrote; same = c.loop-d.invariant.same }
