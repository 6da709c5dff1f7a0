-- The invariant of the machine is kept, its bits are right on the paths, and a run tells a tale.
use Rattle.std.proofs.Common.{◌≡◌, ℕ, Bool, true, false, not, List, ◌++◌, Some, None, Option, sym, refl, ◌∙◌, subst, inl, inr}
use native.Mathlib.Decide.{ℕ_discrete}
use Rattle.rules.specs.Fractions.{Fraction, Proper, NotAfter, tick}
use Rattle.rules.specs.Stamps.{Stamp, Earlier, NotEarlier, at}
use Rattle.rules.specs.Paths.{Axis, Line, leg}
use Rattle.rules.specs.Boxes.{Box, Ends, ends, overlap, wrong, FirstWrong, Fails}
use Rattle.rules.specs.Pages.{Report}
use Rattle.rules.proofs.Order.{not_after_trans}
use Rattle.rules.proofs.Stamped.{asym}
use Rattle.geometry_laws.proofs.Lists.{is_earlier_so, not_earlier_is, not_is_earlier}
use Rattle.geometry_laws.proofs.Flips.{fails_later}
use Rattle.geometry_laws.proofs.Track.{is_wrong, tells_until, tells_always, first_advance, never_advance}
use Rattle.geometry_laws.proofs.Near.{overlap_alike}
use Rattle.geometry_laws.specs.Points.{Point, Upto, During, on}
use Rattle.geometry_laws.proofs.Points.{sooner_upto, upto_trans, upto_sooner, sooner_upto_trans}
use Rattle.events.specs.Machine.{Sky, flies, box_of, Pair, In, Core, ends_in, Certified, Flying, Sound, NoneBefore, Quiet, Flips, Rereads, Fires, bit_fires, leg_fires, Runs, stop, step}
use Rattle.events.specs.Reports.{Lawful}
use Rattle.events.proofs.Tales.{every, pair_dec, axis_dec, Right, Halfway, Tale, tale_end, tale_goes, half_goes, tale_flip, half_flip, tale_like}
use Rattle.events.proofs.Pairs.{so, Turns, sky_kinetic}
use Rattle.events.proofs.Legs.{flying_alike, flying_on, flying_same, flying_now, reads_proper, upto_time}

-- ---- certificates
module _ (bit : Bool) (p q : Ends) where
  -- the bit is right until its certificate fails, wrong then, and the certificate stands as the present moves up to it
  fails_right : (m k : Point) (r : Option Stamp) → Fails bit p q m.stamp r → Upto m k → NotAfter k.stamp.time (tick 50000) → ((f : Stamp) → r ≡ Some f → Earlier k.stamp f) → bit ≡ overlap p q k.stamp
  fails_right m k None c u i e = sym (tells_always bit p q m.stamp k.stamp c k.proper i u)
  fails_right m k (Some f) c u i e = sym (tells_until bit p q m.stamp f k.stamp c k.proper u (e f refl))

  fails_first : (m n : Stamp) (r : Option Stamp) → r ≡ Some n → Fails bit p q m r → FirstWrong bit p q m n
  fails_first m n r e c = subst (λ (r : Option Stamp). Fails bit p q m r) e c

  fails_wrong : (m n : Stamp) (r : Option Stamp) → r ≡ Some n → Fails bit p q m r → overlap p q n ≡ not bit
  fails_wrong m n r e c = is_wrong bit (overlap p q n) (fails_first m n r e c).wrong_then

  fails_on : (m n : Point) (r : Option Stamp) → Fails bit p q m.stamp r → Upto m n → ((f : Stamp) → r ≡ Some f → NotEarlier f n.stamp) → Fails bit p q n.stamp r
  fails_on m n None c u h = never_advance bit p q m.stamp n.stamp m.proper n.proper u c
  fails_on m n (Some f) c u h = first_advance bit p q m.stamp n.stamp m.proper n.proper u f (h f refl) c

  -- a bit that is right now has its certificate later
  pub right_later : (m : Point) (r : Option Stamp) → Fails bit p q m.stamp r → bit ≡ overlap p q m.stamp → (f : Stamp) → r ≡ Some f → Earlier m.stamp f
  right_later m r c t f e = fails_later bit p q m.stamp f m.proper (subst (λ (x : Bool). wrong bit x ≡ false) t (itself bit)) (fails_first m.stamp f r e c)
    where
      itself : (b : Bool) → wrong b b ≡ false
      itself true = refl
      itself false = refl

-- a certificate whose parts are the same
pub carried : (b b' : Bool) (x x' z z' : Box) (a : Axis) (l l' k k' : Line) (m : Stamp) (r r' : Option Stamp) → b' ≡ b → x' ≡ x → z' ≡ z → l' ≡ l → k' ≡ k → r' ≡ r →
    Fails b (ends x a l) (ends z a k) m r → Fails b' (ends x' a l') (ends z' a k') m r'
carried b b' x x' z z' a l l' k k' m r r' e f g h i j c = rw (e, f, g, h, i, j) c

module _ (w : ℕ) (y : Sky) (law : Lawful w y) where
  module _ (m : Point) (s : Core) (z : Sound y m.stamp s) where
    bit_proper : (i : Pair) → In y i → (a : Axis) (f : Stamp) → s.fails i a ≡ Some f → Proper f.time
    bit_proper i p a f e = (fails_first (s.bit i a) (ends_in y s a i.lower) (ends_in y s a i.higher) m.stamp f (s.fails i a) e (z.bits i p a)).proper

    turn_proper : (c : ℕ) → flies y c ≡ true → (f : Stamp) → s.turn c ≡ Some f → Proper f.time
    turn_proper c p f e = reads_proper (y.path c) (z.legs c p).read (s.leg c) (s.turn c) (z.legs c p).reads f e

    -- before every certificate the bits are right on the paths
    alike_at : (k : Point) → Upto m k → ((c : ℕ) → flies y c ≡ true → (f : Stamp) → s.turn c ≡ Some f → NotEarlier f k.stamp) → (i : Pair) → In y i → (a : Axis) →
        overlap (ends_in y s a i.lower) (ends_in y s a i.higher) k.stamp ≡ so y i a k
    alike_at k u g i p a =
        overlap_alike (box_of y i.lower) (box_of y i.higher) a (s.leg i.lower a) (s.leg i.higher a) (leg (y.path i.lower) k.stamp.time a) (leg (y.path i.higher) k.stamp.time a) k.stamp
        (flying_alike w (y.path i.lower) (law i.lower) (s.leg i.lower) m k (s.turn i.lower) (z.legs i.lower p.first) u (g i.lower p.first) a)
        (flying_alike w (y.path i.higher) (law i.higher) (s.leg i.higher) m k (s.turn i.higher) (z.legs i.higher p.second) u (g i.higher p.second) a)

    right_at : (k : Point) → Upto m k → NotAfter k.stamp.time (tick 50000) → ((i : Pair) → In y i → (a : Axis) (f : Stamp) → s.fails i a ≡ Some f → Earlier k.stamp f) →
        ((c : ℕ) → flies y c ≡ true → (f : Stamp) → s.turn c ≡ Some f → NotEarlier f k.stamp) → Right (In y) (so y) (Turns y) s.bit k
    right_at k u n f g i p a =
        fails_right (s.bit i a) (ends_in y s a i.lower) (ends_in y s a i.higher) m k (s.fails i a) (z.bits i p a) u n (f i p a) ∙ alike_at k u g i p a

    -- at a quiet clock every bit is right on the paths
    pub right_quiet : (t : Fraction) (pt : Proper t) → NotAfter t (tick 50000) → Quiet y s t → (k : Point) → Upto m k → Upto k (on t pt) → Right (In y) (so y) (Turns y) s.bit k
    right_quiet t pt i q k u v =
        right_at k u (not_after_trans k.stamp.time t (tick 50000) pt (upto_time k (on t pt) v) i)
        (λ i p a f e. upto_sooner k (on t pt) (record { stamp = f; proper = bit_proper i p a f e }) v (is_earlier_so (at t) f (q.bits i p a f e)))
        (λ c p f e. sooner_upto k (record { stamp = f; proper = turn_proper c p f e }) (upto_sooner k (on t pt) (record { stamp = f; proper = turn_proper c p f e }) v (is_earlier_so (at t) f (q.legs c p f e))))

    -- the invariant stands as the present moves on to where no certificate has failed before
    pub sound_on : (n : Point) → Upto m n → NoneBefore y s n.stamp → Sound y n.stamp s
    sound_on n u l = record {
      legs = λ c p. flying_on (y.path c) (s.leg c) m n (s.turn c) (z.legs c p) u (λ f e. not_is_earlier f n.stamp (l.legs c p f e));
      bits = λ i p a. fails_on (s.bit i a) (ends_in y s a i.lower) (ends_in y s a i.higher) m n (s.fails i a) (z.bits i p a) u (λ f e. not_is_earlier f n.stamp (l.bits i p a f e));
    }

    module _ (n : Point) (l : NoneBefore y s n.stamp) where
      right_before : (t : Fraction) (pt : Proper t) → NotAfter t (tick 50000) → Upto n (on t pt) → During (Right (In y) (so y) (Turns y) s.bit) m n
      right_before t pt i v k u h =
          right_at k u (not_after_trans k.stamp.time t (tick 50000) pt (upto_time k (on t pt) (upto_trans k n (on t pt) (sooner_upto k n h) v)) i)
          (λ i p a f e. sooner_upto_trans k n (record { stamp = f; proper = bit_proper i p a f e }) h (not_is_earlier f n.stamp (l.bits i p a f e)))
          (λ c p f e. upto_trans k n (record { stamp = f; proper = turn_proper c p f e }) (sooner_upto k n h) (not_is_earlier f n.stamp (l.legs c p f e)))

      -- ---- a bit's certificate fires
      module _ (s' : Core) (i : Pair) (a : Axis) (f : Flips y i a n.stamp s s') where
        flips_after : Upto m n
        flips_after = not_is_earlier n.stamp m.stamp (fails_first (s.bit i a) (ends_in y s a i.lower) (ends_in y s a i.higher) m.stamp n.stamp (s.fails i a) f.due (z.bits i f.inside a)).since

        -- the bit is wrong on the paths
        flips_wrong : so y i a n ≡ not (s.bit i a)
        flips_wrong =
            sym (alike_at n flips_after (λ c p g e. not_is_earlier g n.stamp (l.legs c p g e)) i f.inside a)
            ∙ fails_wrong (s.bit i a) (ends_in y s a i.lower) (ends_in y s a i.higher) m.stamp n.stamp (s.fails i a) f.due (z.bits i f.inside a)

        sound_flips : Sound y n.stamp s'
        sound_flips = record { legs = legs'; bits = λ j p b. bits' j p b (pair_dec j i) (axis_dec b a) }
          where
            now : Sound y n.stamp s
            now = sound_on n flips_after l

            legs' : (c : ℕ) → flies y c ≡ true → Flying (y.path c) (s'.leg c) n.stamp (s'.turn c)
            legs' c p = flying_same (y.path c) (s.leg c) (s'.leg c) n.stamp (s.turn c) (s'.turn c) (f.legs c p) (f.turns c p) (now.legs c p)

            other : (j : Pair) → In y j → (b : Axis) → (j ≡ i → b ≡ a → ⊥) → Certified y s' n.stamp j b
            other j p b d =
                carried (s.bit j b) (s'.bit j b) (box_of y j.lower) (box_of y j.lower) (box_of y j.higher) (box_of y j.higher) b (s.leg j.lower b) (s'.leg j.lower b) (s.leg j.higher b) (s'.leg j.higher b) n.stamp (s.fails j b) (s'.fails j b)
                (f.bits j p b d) refl refl (f.legs j.lower p.first b) (f.legs j.higher p.second b) (f.fails j p b d) (now.bits j p b)

            bits' : (j : Pair) → In y j → (b : Axis) → Dec (j ≡ i) → Dec (b ≡ a) → Certified y s' n.stamp j b
            bits' j p b (yes d) (yes e) = subst (λ (j : Pair). Certified y s' n.stamp j b) (sym d) (subst (λ (b : Axis). Certified y s' n.stamp i b) (sym e) f.next)
            bits' j p b (no d) e = other j p b (λ v _. d v)
            bits' j p b (yes d) (no e) = other j p b (λ _ v. e v)

      -- ---- a leg certificate fires
      module _ (s' : Core) (c : ℕ) (f : Rereads y c n.stamp s s') where
        rereads_after : Upto m n
        rereads_after = not_is_earlier n.stamp m.stamp ((z.legs c f.inside).ahead n.stamp f.due)

        sound_rereads : Sound y n.stamp s'
        sound_rereads = record { legs = λ d p. legs' d p (ℕ_discrete d c); bits = λ j p b. bits' j p b (ℕ_discrete j.lower c) (ℕ_discrete j.higher c) }
          where
            now : Sound y n.stamp s
            now = sound_on n rereads_after l

            legs' : (d : ℕ) → flies y d ≡ true → Dec (d ≡ c) → Flying (y.path d) (s'.leg d) n.stamp (s'.turn d)
            legs' d p (yes e) = subst (λ (d : ℕ). Flying (y.path d) (s'.leg d) n.stamp (s'.turn d)) (sym e) (flying_now (y.path c) (s'.leg c) n (s'.turn c) f.read)
            legs' d p (no e) = flying_same (y.path d) (s.leg d) (s'.leg d) n.stamp (s.turn d) (s'.turn d) (f.legs d p e) (f.turns d p e) (now.legs d p)

            bits' : (j : Pair) → In y j → (b : Axis) → Dec (j.lower ≡ c) → Dec (j.higher ≡ c) → Certified y s' n.stamp j b
            bits' j p b (yes d) e = f.next j p (inl d) b
            bits' j p b (no d) (yes e) = f.next j p (inr e) b
            bits' j p b (no d) (no e) =
                carried (s.bit j b) (s'.bit j b) (box_of y j.lower) (box_of y j.lower) (box_of y j.higher) (box_of y j.higher) b (s.leg j.lower b) (s'.leg j.lower b) (s.leg j.higher b) (s'.leg j.higher b) n.stamp (s.fails j b) (s'.fails j b)
                (f.bits j p b) refl refl (f.legs j.lower p.first d b) (f.legs j.higher p.second e b) (f.fails j p d e b) (now.bits j p b)

      -- ---- one firing
      fires_after : (s' : Core) (rs : List Report) → Fires y n.stamp s s' rs → Upto m n
      fires_after s' rs (bit_fires i a f) = flips_after s' i a f
      fires_after s' rs (leg_fires c f) = rereads_after s' c f

      sound_fires : (s' : Core) (rs : List Report) → Fires y n.stamp s s' rs → Sound y n.stamp s'
      sound_fires s' rs (bit_fires i a f) = sound_flips s' i a f
      sound_fires s' rs (leg_fires c f) = sound_rereads s' c f

    -- what fires has a time that is one
    fires_proper : (n : Stamp) (s' : Core) (rs : List Report) → Fires y n s s' rs → Proper n.time
    fires_proper n s' rs (bit_fires i a f) = bit_proper i f.inside a n f.due
    fires_proper n s' rs (leg_fires c f) = turn_proper c f.inside n f.due

  -- nothing fails before a quiet clock
  pub quiet_before : (m : Point) (s : Core) → Sound y m.stamp s → (t : Fraction) → Quiet y s t → NoneBefore y s (at t)
  quiet_before m s z t q = record {
    bits = λ i p a k e. not_earlier_is k (at t) (λ x. asym (at t) k (is_earlier_so (at t) k (q.bits i p a k e)) x);
    legs = λ c p k e. not_earlier_is k (at t) (λ x. asym (at t) k (is_earlier_so (at t) k (q.legs c p k e)) x);
  }

  -- A RUN TELLS A TALE, and the invariant stands after it
  module _ (t : Fraction) (pt : Proper t) (it : NotAfter t (tick 50000)) (e : Core) (q : Quiet y e t) where
    pub tale_runs : (m : Point) (s : Core) (rs : List Report) → Sound y m.stamp s → Upto m (on t pt) → Halfway (In y) (so y) (Turns y) s.bit m → Runs y t e s rs →
        Tale (In y) (so y) (Turns y) (on t pt) m s.bit rs
    tale_runs m s rs z u h stop = tale_end (In y) (so y) (Turns y) (sky_kinetic y) (on t pt) m s.bit (λ k v w. right_quiet m s z t pt it q k v w)
    tale_runs m s rs z u h (step {qs = qs} n r l v f run) = by f (λ g. tale_runs there r qs (sound_fires m s z there l r _ f) upto g run)
      where
        there : Point
        there = record { stamp = n; proper = fires_proper m s z n r _ f }

        upto : Upto there (on t pt)
        upto = not_is_earlier (at t) n v

        first : Upto m there
        first = fires_after m s z there l r _ f

        right : During (Right (In y) (so y) (Turns y) s.bit) m there
        right = right_before m s z there l t pt it upto

        half : Halfway (In y) (so y) (Turns y) s.bit there
        half = half_goes (In y) (so y) (Turns y) (sky_kinetic y) s.bit m there right first h

        by : {os : List Report} → Fires y n s r os → (Halfway (In y) (so y) (Turns y) r.bit there → Tale (In y) (so y) (Turns y) (on t pt) there r.bit qs) → Tale (In y) (so y) (Turns y) (on t pt) m s.bit (os ++ qs)
        by (bit_fires i a x) rest =
            let w = flips_wrong m s z there l r i a x in
            tale_goes (In y) (so y) (Turns y) (sky_kinetic y) s.bit m there right (on t pt) _ first
            (tale_flip (In y) (so y) (Turns y) (sky_kinetic y) there s.bit r.bit i a x.inside w x.turned x.bits half (on t pt) qs upto
            (rest (half_flip (In y) (so y) (Turns y) (sky_kinetic y) there s.bit r.bit i a x.inside w x.turned x.bits half)))
        by (leg_fires c x) rest =
            tale_goes (In y) (so y) (Turns y) (sky_kinetic y) s.bit m there right (on t pt) _ first
            (tale_like (In y) (so y) (Turns y) (on t pt) there s.bit r.bit qs (λ i p. every (s.bit i) (r.bit i) (λ a. sym (x.bits i p a)))
            (rest (λ i p a g. half i p a (sym (x.bits i p a) ∙ g))))

    pub sound_runs : (m : Point) (s : Core) (rs : List Report) → Sound y m.stamp s → Upto m (on t pt) → Runs y t e s rs → Sound y (at t) e
    sound_runs m s rs z u stop = sound_on m s z (on t pt) u (quiet_before m s z t q)
    sound_runs m s rs z u (step n r l v f run) =
        let there : Point = record { stamp = n; proper = fires_proper m s z n r _ f } in
        sound_runs there r _ (sound_fires m s z there l r _ f) (not_is_earlier (at t) n v) run
