-- At a quiet clock the invariant stands again after entries, leavings and filings.
use Rattle.std.proofs.Common.{◌≡◌, ℕ, true, ◌⊎◌, is_some, Some, sym, ap, ◌∙◌, subst, inl, inr}
use Rattle.rules.specs.Basics.{the}
use Rattle.rules.specs.Fractions.{Fraction, Proper}
use Rattle.rules.specs.Stamps.{Stamp, at, is_earlier}
use Rattle.rules.specs.Paths.{Axis, Path}
use Rattle.rules.proofs.Stamped.{false_true}
use Rattle.geometry_laws.proofs.Lists.{earlier_is}
use Rattle.geometry_laws.specs.Points.{on}
use Rattle.events.specs.Machine.{Sky, flies, box_of, Pair, In, Core, ends_in, Certified, Reads, Flying, Rested}
use Rattle.events.specs.Changes.{Stays, Remains, Anew, ChangesRest, EmptyRests}
use Rattle.events.proofs.Legs.{flying_same, flying_now, reads_later}
use Rattle.events.proofs.Machine.{carried, right_later}

module _ (y y' : Sky) (t : Fraction) (pt : Proper t) (s s' : Core) (rest : Rested y t s) where
  -- a craft that stays flew, with its box
  flew : (d : ℕ) → Stays y y' s s' d → flies y' d ≡ true → flies y d ≡ true
  flew d w f = sym (ap is_some w.box) ∙ f

  same_box : (d : ℕ) → Stays y y' s s' d → box_of y' d ≡ box_of y d
  same_box d w = ap (the (record { half = λ _. 0 })) w.box

  was_in : (i : Pair) (a : Axis) → Remains y y' s s' i a → In y' i → In y i
  was_in i a w q = record { first = flew i.lower w.first q.first; second = flew i.higher w.second q.second; order = q.order }

  legs : (d : ℕ) → flies y' d ≡ true → (Stays y y' s s' d) ⊎ (Reads (y'.path d) t (s'.leg d) (s'.turn d)) → Flying (y'.path d) (s'.leg d) (at t) (s'.turn d)
  legs d f (inl w) =
      subst (λ (p : Path). Flying p (s'.leg d) (at t) (s'.turn d)) (sym w.path)
      (flying_same (y.path d) (s.leg d) (s'.leg d) (at t) (s.turn d) (s'.turn d) w.leg w.turn (rest.sound.legs d (flew d w f)))
  legs d f (inr r) = flying_now (y'.path d) (s'.leg d) (on t pt) (s'.turn d) r

  bits : (i : Pair) → In y' i → (a : Axis) → (Remains y y' s s' i a) ⊎ (Anew y' t s' i a) → Certified y' s' (at t) i a
  bits i q a (inr w) = w.granted
  bits i q a (inl w) =
      carried (s.bit i a) (s'.bit i a) (box_of y i.lower) (box_of y' i.lower) (box_of y i.higher) (box_of y' i.higher) a (s.leg i.lower a) (s'.leg i.lower a) (s.leg i.higher a) (s'.leg i.higher a) (at t) (s.fails i a) (s'.fails i a)
      w.bit (same_box i.lower w.first) (same_box i.higher w.second) (w.first.leg a) (w.second.leg a) w.fails (rest.sound.bits i (was_in i a w q) a)

  quiet_leg : (d : ℕ) → flies y' d ≡ true → (Stays y y' s s' d) ⊎ (Reads (y'.path d) t (s'.leg d) (s'.turn d)) → (k : Stamp) → s'.turn d ≡ Some k → is_earlier (at t) k ≡ true
  quiet_leg d f (inl w) k e = rest.quiet.legs d (flew d w f) k (sym w.turn ∙ e)
  quiet_leg d f (inr r) k e = earlier_is (at t) k (inl (reads_later (y'.path d) t (s'.leg d) (s'.turn d) r k e))

  quiet_bit : (i : Pair) → In y' i → (a : Axis) → (Remains y y' s s' i a) ⊎ (Anew y' t s' i a) → (k : Stamp) → s'.fails i a ≡ Some k → is_earlier (at t) k ≡ true
  quiet_bit i q a (inl w) k e = rest.quiet.bits i (was_in i a w q) a k (sym w.fails ∙ e)
  quiet_bit i q a (inr w) k e =
      earlier_is (at t) k (right_later (s'.bit i a) (ends_in y' s' a i.lower) (ends_in y' s' a i.higher) (on t pt) (s'.fails i a) w.granted w.right k e)

pub changes_rest : ChangesRest
changes_rest y y' t pt s s' rest ch = record {
  sound = record { legs = λ d f. legs y y' t pt s s' rest d f (ch.craft d f); bits = λ i q a. bits y y' t pt s s' rest i q a (ch.pairs i q a) };
  quiet = record { legs = λ d f k e. quiet_leg y y' t pt s s' rest d f (ch.craft d f) k e; bits = λ i q a k e. quiet_bit y y' t pt s s' rest i q a (ch.pairs i q a) k e };
}

pub empty_rests : EmptyRests
empty_rests y n t s = record {
  sound = record { legs = λ c f. absurd (nobody c f); bits = λ i p a. absurd (nobody i.lower p.first) };
  quiet = record { bits = λ i p a k e. absurd (nobody i.lower p.first); legs = λ c f k e. absurd (nobody c f) };
}
  where
    nobody : (c : ℕ) → flies y c ≡ true → ⊥
    nobody c f = false_true (sym (ap is_some (n c)) ∙ f)
