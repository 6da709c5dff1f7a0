use Rattle.std.proofs.Common.{is_some, sym, ap, ◌∙◌, arith, refl}
use Rattle.model.specs.Moves.{leave}
use Rattle.floor_laws.proofs.Loops.{loop_none, so_room, so_step}
use Rattle.floor_laws.proofs.Moving.{leave_grows}
use Rattle.floor.specs.Saved.{is_saved}
use Rattle.floor.proofs.Saving.{loop_over, place_is}
use Rattle.floor.proofs.floor.Floor.leave_all.Goals as goal

pub loop-d-init : goal.loop-d-init
loop-d-init g c = record { wrote = loop_none leave (is_saved c.args.saved.now) c.args.slip.now.used _ _; same = refl }

pub leave_if-requires : goal.leave_if-requires
leave_if-requires g c = so_room leave leave_grows (is_saved c.args.saved.now) c.args.slip.now.used _ _ c.requires c.loop-d.d c.loop-d-test.true _ _ _ c.loop-d.invariant.wrote c.is_some.result (sym (c.is_some.ensures ∙ ap is_some (place_is c.args.saved.now c.loop-d.d _ (omega arith))))

pub loop-d-preserved : goal.loop-d-preserved
loop-d-preserved g c = record { wrote = so_step leave leave_grows (is_saved c.args.saved.now) c.args.slip.now.used _ _ c.requires c.loop-d.d c.loop-d-test.true _ _ _ c.loop-d.invariant.wrote c.is_some.result (sym (c.is_some.ensures ∙ ap is_some (place_is c.args.saved.now c.loop-d.d _ (omega arith)))) _ _ _ c.leave_if.ensures.wrote; same = c.leave_if.ensures.same ∙ c.loop-d.invariant.same }

pub returns : goal.returns
returns g c = record { wrote = loop_over leave (is_saved c.args.saved.now) c.loop-d.d c.args.slip.now.used _ _ _ _ _ (omega arith) (omega arith) c.loop-d.invariant.wrote; same = c.loop-d.invariant.same }
