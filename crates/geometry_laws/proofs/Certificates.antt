-- The first wrong moment of a bit is computed right, and there is only one.
use Rattle.std.proofs.Common.{◌≡◌, ℕ, ◌*◌, ◌<◌, ◌≤◌, Bool, true, false, not, ◌&&◌, ◌⊎◌, List, [], ◌∷◌, ◌++◌, ◌-ℤ◌, nat_abs, IfSome, Some, None, Option, sym, refl, ap, ◌∙◌, subst, inl, inr, arith}
use mathlib.Core.List.Memᴰ
use Rattle.std.proofs.lemmas.Bool.{and_from, and_parts, not-true}
use Rattle.rules.specs.Basics.{◌∈◌, those}
use Rattle.rules.specs.Fractions.{Fraction, Proper, Before, NotAfter, SameTime, Coprime, Least, least, tick, Usual}
use Rattle.rules.specs.Stamps.{Stamp, Earlier, NotEarlier, side, at, just_after, is_earlier, earliest}
use Rattle.rules.specs.Paths.{Line}
use Rattle.rules.specs.Boxes.{Ends, quotient, both_sides, crossing, overlap, wrong, fails, Fails}
use Rattle.rules.proofs.Stamped.{asym, earlier_dec, not_earlier_trans, not_earlier_out, false_true}
use Rattle.rules.proofs.Order.{not_after_trans}
use Rattle.rules.proofs.Made.{least_right, least_inside, least_terms}
use Rattle.rules.proofs.Unique.{least_unique}
use Rattle.geometry_laws.specs.Certificates.{Slow, CertificatesRight, CertificatesUsual, InLeast, CertificatesOne}
use Rattle.geometry_laws.proofs.Behind.{overlap_like, not_so}
use Rattle.geometry_laws.proofs.Lists.{not_earlier_self, not_earlier_is, not_is_earlier, is_earlier_so, those_in, those_out, Best, earliest_best}
use Rattle.geometry_laws.proofs.Settled.{Root, quotient_out, Settled, settled}

-- what each crossing is: a time from 0 to 50,000 in least terms
pub record Candidate (u v : Line) (k : Stamp) : Type 0 where
  pub slope : 0 < nat_abs (u.slope -ℤ v.slope)
  pub small : nat_abs (u.slope -ℤ v.slope) ≤ 16000
  pub inside : nat_abs (v.base -ℤ u.base) ≤ 50000 * nat_abs (u.slope -ℤ v.slope)
  pub time : k.time ≡ least (nat_abs (v.base -ℤ u.base)) (nat_abs (u.slope -ℤ v.slope))

crossing_out : (u v : Line) (k : Stamp) → k ∈ crossing u v → Candidate u v k
crossing_out u v k h = go (quotient (v.base -ℤ u.base) (u.slope -ℤ v.slope)) refl h
  where
    go : (o : Option Fraction) → quotient (v.base -ℤ u.base) (u.slope -ℤ v.slope) ≡ o → k ∈ both_sides o → Candidate u v k
    go None e h = absurd (Memᴰ.not-nil h)
    go (Some t) e h = pick (Memᴰ.cases_cons h)
      where
        r : Root (v.base -ℤ u.base) (u.slope -ℤ v.slope) t
        r = quotient_out (v.base -ℤ u.base) (u.slope -ℤ v.slope) t e

        make : k.time ≡ t → Candidate u v k
        make f = record { slope = r.slope; small = r.small; inside = r.inside; time = f ∙ r.is }

        last : (k ≡ just_after t) ⊎ (k ∈ []) → Candidate u v k
        last (inl f) = make (ap (λ (k : Stamp). k.time) f)
        last (inr f) = absurd (Memᴰ.not-nil f)

        pick : (k ≡ at t) ⊎ (k ∈ (just_after t ∷ [])) → Candidate u v k
        pick (inl f) = make (ap (λ (k : Stamp). k.time) f)
        pick (inr f) = last (Memᴰ.cases_cons f)

module _ (u v : Line) (k : Stamp) (c : Candidate u v k) where
  candidate_least : Least (nat_abs (v.base -ℤ u.base)) (nat_abs (u.slope -ℤ v.slope)) k.time
  candidate_least =
      subst (λ (t : Fraction). Least (nat_abs (v.base -ℤ u.base)) (nat_abs (u.slope -ℤ v.slope)) t) (sym c.time)
      (least_right (nat_abs (v.base -ℤ u.base)) (nat_abs (u.slope -ℤ v.slope)) c.slope)

  candidate_inside : k.time.num ≤ 50000 * k.time.den
  candidate_inside = least_inside (nat_abs (v.base -ℤ u.base)) (nat_abs (u.slope -ℤ v.slope)) 50000 k.time c.slope candidate_least c.inside

  candidate_small : k.time.den ≤ 16000
  candidate_small =
      let e : k.time.den ≤ nat_abs (u.slope -ℤ v.slope) = subst (λ (t : Fraction). t.den ≤ nat_abs (u.slope -ℤ v.slope)) (sym c.time) (least_terms (nat_abs (v.base -ℤ u.base)) (nat_abs (u.slope -ℤ v.slope)) c.slope).small in
      omega (arith, e, c.small)

-- all that may be the first wrong moment
abbrev pub candidates : Ends → Ends → Stamp → List Stamp
candidates p q m = m ∷ crossing p.low q.high ++ crossing q.low p.high

module _ (p q : Ends) (m : Stamp) where
  each : (P : Stamp → Type 0) → P m → ((k : Stamp) → Candidate p.low q.high k → P k) → ((k : Stamp) → Candidate q.low p.high k → P k) → (k : Stamp) → k ∈ candidates p q m → P k
  each P a f g k h = go (Memᴰ.cases_cons h)
    where
      two : (k ∈ crossing p.low q.high) ⊎ (k ∈ crossing q.low p.high) → P k
      two (inl x) = f k (crossing_out p.low q.high k x)
      two (inr x) = g k (crossing_out q.low p.high k x)

      go : (k ≡ m) ⊎ (k ∈ (crossing p.low q.high ++ crossing q.low p.high)) → P k
      go (inl e) = subst P (sym e) a
      go (inr x) = two (Memᴰ.append_cases (crossing p.low q.high) x)

-- those at which the bit is wrong, from m on
abbrev pub passing : Bool → Ends → Ends → Stamp → List Stamp
passing bit p q m = those (λ k. not (is_earlier k m) && wrong bit (overlap p q k)) (candidates p q m)

pub passing_out : (bit : Bool) (p q : Ends) (m k : Stamp) → k ∈ passing bit p q m → (k ∈ candidates p q m) × (not (is_earlier k m) && wrong bit (overlap p q k) ≡ true)
passing_out bit p q m k h = those_out (λ k. not (is_earlier k m) && wrong bit (overlap p q k)) (candidates p q m) k h

module _ (bit : Bool) (p q : Ends) (m : Stamp) (pm : Proper m.time) (im : NotAfter m.time (tick 50000)) where
  proper_each : (k : Stamp) → k ∈ candidates p q m → Proper k.time
  proper_each = each p q m (λ k. Proper k.time) pm (λ k c. (candidate_least p.low q.high k c).proper) (λ k c. (candidate_least q.low p.high k c).proper)

  inside_each : (k : Stamp) → k ∈ candidates p q m → NotAfter k.time (tick 50000)
  inside_each = each p q m (λ k. NotAfter k.time (tick 50000)) im
      (λ k c. omega (arith, candidate_inside p.low q.high k c)) (λ k c. omega (arith, candidate_inside q.low p.high k c))

module _ (bit : Bool) (p q : Ends) (m : Stamp) (pm : Proper m.time) (im : NotAfter m.time (tick 50000)) (slow : Slow p q) where
  -- a candidate not after j at which the overlap is as it is at j
  record Told (j : Stamp) : Type 0 where
    from : Stamp
    member : from ∈ candidates p q m
    since : NotEarlier from m
    until : NotEarlier j from
    same : overlap p q from ≡ overlap p q j

  abbrev told : (j : Stamp) → Proper j.time → NotAfter j.time (tick 50000) → NotEarlier j m → Told j
  told j pj ij h = go (settled p.low q.high m j pm pj h ij slow.one) (settled q.low p.high m j pm pj h ij slow.two)
    where
      go : Settled p.low q.high m j → Settled q.low p.high m j → Told j
      go a b = pick (earlier_dec a.from b.from)
        where
          in_a : (a.from ≡ m) ⊎ (a.from ∈ crossing p.low q.high) → a.from ∈ candidates p q m
          in_a (inl e) = Memᴰ.head e
          in_a (inr x) = Memᴰ.tail (Memᴰ.append_left (crossing q.low p.high) x)

          in_b : (b.from ≡ m) ⊎ (b.from ∈ crossing q.low p.high) → b.from ∈ candidates p q m
          in_b (inl e) = Memᴰ.head e
          in_b (inr x) = Memᴰ.tail (Memᴰ.append_right (crossing p.low q.high) x)

          pick : Dec (Earlier a.from b.from) → Told j
          pick (yes x) =
              let n : NotEarlier b.from a.from = λ y. asym a.from b.from x y in
              let s : NotEarlier b.from b.from = not_earlier_self b.from in
              record {
                from = b.from;
                member = in_b b.one;
                since = b.since;
                until = b.until;
                same = overlap_like p q b.from j
                    (a.on b.from b.proper n b.until) (a.off b.from b.proper n b.until)
                    (b.on b.from b.proper s b.until) (b.off b.from b.proper s b.until);
              }
          pick (no x) =
              let s : NotEarlier a.from a.from = not_earlier_self a.from in
              record {
                from = a.from;
                member = in_a a.one;
                since = a.since;
                until = a.until;
                same = overlap_like p q a.from j
                    (a.on a.from a.proper s a.until) (a.off a.from a.proper s a.until)
                    (b.on a.from a.proper x a.until) (b.off a.from a.proper x a.until);
              }

  -- where the bit is wrong at j, it is wrong at a candidate not after j
  wrong_there : (j : Stamp) → Proper j.time → NotAfter j.time (tick 50000) → NotEarlier j m → wrong bit (overlap p q j) ≡ true → (k : Stamp) × (k ∈ passing bit p q m) × NotEarlier j k
  wrong_there j pj ij h e =
      let t = told j pj ij h in (
        t.from,
        those_in (λ k. not (is_earlier k m) && wrong bit (overlap p q k)) (candidates p q m) t.from t.member
            (and_from (not (is_earlier t.from m)) (wrong bit (overlap p q t.from)) (ap not (not_earlier_is t.from m t.since)) (ap (wrong bit) t.same ∙ e)),
        t.until,
      )

  pub certified : Fails bit p q m (fails bit p q m)
  certified = go (earliest (passing bit p q m)) (earliest_best (passing bit p q m) (λ x h. proper_each bit p q m pm im x (passing_out bit p q m x h).0))
    where
      right : (j : Stamp) → Proper j.time → NotAfter j.time (tick 50000) → is_earlier j m ≡ false → ((k : Stamp) → k ∈ passing bit p q m → NotEarlier j k → ⊥) → wrong bit (overlap p q j) ≡ false
      right j pj ij s n = not_so (wrong bit (overlap p q j)) (λ e. let w = wrong_there j pj ij (not_is_earlier j m s) e in n w.0 w.1 w.2)

      go : (o : Option Stamp) → Best (passing bit p q m) o → Fails bit p q m o
      go None b = λ j pj ij s. right j pj ij s (λ k h x. b k h)
      go (Some k) b =
          let o = passing_out bit p q m k b.0 in
          let a = and_parts (not (is_earlier k m)) (wrong bit (overlap p q k)) o.1 in
          record {
            proper = proper_each bit p q m pm im k o.0;
            inside = inside_each bit p q m pm im k o.0;
            since = not-true (is_earlier k m) a.0;
            wrong_then = a.1;
            right_before = λ j pj s e. right j pj (earlier_inside j k (proper_each bit p q m pm im k o.0) (inside_each bit p q m pm im k o.0) (is_earlier_so j k e)) s (λ i h n. asked j pj (is_earlier_so j k e) i h n);
          }
        where
          earlier_inside : (j k : Stamp) → Proper k.time → NotAfter k.time (tick 50000) → Earlier j k → NotAfter j.time (tick 50000)
          earlier_inside j k pk ik (inl x) = not_after_trans j.time k.time (tick 50000) pk (omega (arith, x)) ik
          earlier_inside j k pk ik (inr x) = not_after_trans j.time k.time (tick 50000) pk (omega (arith, x.0)) ik

          asked : (j : Stamp) → Proper j.time → Earlier j k → (i : Stamp) → i ∈ passing bit p q m → NotEarlier j i → ⊥
          asked j pj e i h n = not_earlier_trans k i j (proper_each bit p q m pm im k (passing_out bit p q m k b.0).0) (proper_each bit p q m pm im i (passing_out bit p q m i h).0) pj (b.1 i h) n e

pub certificates_right : CertificatesRight
certificates_right bit p q m pm im slow = certified bit p q m pm im slow

-- ---- in least terms
pub fails_member : (bit : Bool) (p q : Ends) (m k : Stamp) → Proper m.time → NotAfter m.time (tick 50000) → fails bit p q m ≡ Some k → k ∈ candidates p q m
fails_member bit p q m k pm im e =
    go (fails bit p q m) e (earliest_best (passing bit p q m) (λ x h. proper_each bit p q m pm im x (passing_out bit p q m x h).0))
  where
    go : (o : Option Stamp) → o ≡ Some k → Best (passing bit p q m) o → k ∈ candidates p q m
    go None f b = absurd (let z : ◌≡◌ {A = ℕ} 0 1 = cc in omega arith)
    go (Some j) f b = let g : k ≡ j = cc in Memᴰ.cast g (passing_out bit p q m j b.0).0

pub certificates_usual : CertificatesUsual
certificates_usual bit p q m u = go (fails bit p q m) refl
  where
    go : (o : Option Stamp) → fails bit p q m ≡ o → IfSome o (λ k. Usual k.time)
    go None e = tt
    go (Some k) e = each p q m (λ k. Usual k.time) u
        (λ k c. record { proper = (candidate_least p.low q.high k c).proper; small = candidate_small p.low q.high k c; inside = candidate_inside p.low q.high k c; coprime = (candidate_least p.low q.high k c).coprime })
        (λ k c. record { proper = (candidate_least q.low p.high k c).proper; small = candidate_small q.low p.high k c; inside = candidate_inside q.low p.high k c; coprime = (candidate_least q.low p.high k c).coprime })
        k (fails_member bit p q m k u.proper (omega (arith, u.inside)) e)

pub fails_least : (bit : Bool) (p q : Ends) (m : Stamp) → Proper m.time → NotAfter m.time (tick 50000) → Coprime m.time.num m.time.den → InLeast (fails bit p q m)
fails_least bit p q m pm im cm = go (fails bit p q m) refl
  where
    go : (o : Option Stamp) → fails bit p q m ≡ o → InLeast o
    go None e = tt
    go (Some k) e = each p q m (λ k. Coprime k.time.num k.time.den) cm
        (λ k c. (candidate_least p.low q.high k c).coprime) (λ k c. (candidate_least q.low p.high k c).coprime) k (fails_member bit p q m k pm im e)

-- ---- only one
pub same_stamp : (j k : Stamp) → Proper j.time → Proper k.time → Coprime j.time.num j.time.den → Coprime k.time.num k.time.den → NotEarlier j k → NotEarlier k j → j ≡ k
same_stamp j k pj pk cj ck a b = go (not_earlier_out k j a) (not_earlier_out j k b)
  where
    sides : (x y : Bool) → side x ≤ side y → side y ≤ side x → x ≡ y
    sides true true h g = refl
    sides false false h g = refl
    sides true false h g = absurd (omega arith)
    sides false true h g = absurd (omega arith)

    go : (Before k.time j.time) ⊎ (SameTime k.time j.time × (side k.after ≤ side j.after)) →
        (Before j.time k.time) ⊎ (SameTime j.time k.time × (side j.after ≤ side k.after)) → j ≡ k
    go (inl x) (inl y) = absurd (omega arith)
    go (inl x) (inr y) = absurd (omega (arith, y.0))
    go (inr x) (inl y) = absurd (omega (arith, x.0))
    go (inr x) (inr y) =
        let t = least_unique j.time k.time pj pk y.0 cj ck in
        let s = sides j.after k.after y.1 x.1 in
        λ i. record { time = t i; after = s i }

pub fails_one : (bit : Bool) (p q : Ends) (m : Stamp) (r o : Option Stamp) → Fails bit p q m r → Fails bit p q m o → InLeast r → InLeast o → r ≡ o
fails_one bit p q m None None x y a b = refl
fails_one bit p q m None (Some k) x y a b = absurd (false_true (sym (x k y.proper y.inside y.since) ∙ y.wrong_then))
fails_one bit p q m (Some j) None x y a b = absurd (false_true (sym (y j x.proper x.inside x.since) ∙ x.wrong_then))
fails_one bit p q m (Some j) (Some k) x y a b =
    ap Some (same_stamp j k x.proper y.proper a b
    (not_is_earlier j k (not_so (is_earlier j k) (λ e. false_true (sym (y.right_before j x.proper x.since e) ∙ x.wrong_then))))
    (not_is_earlier k j (not_so (is_earlier k j) (λ e. false_true (sym (x.right_before k y.proper y.since e) ∙ y.wrong_then)))))

pub certificates_one : CertificatesOne
certificates_one bit p q m r pm im slow cm x a = fails_one bit p q m r (fails bit p q m) x (certificates_right bit p q m pm im slow) a (fails_least bit p q m pm im cm)
