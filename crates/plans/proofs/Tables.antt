-- The legs of a plan in its table.
use Rattle.std.proofs.Common.{◌≡◌, ℕ, suc, ◌+◌, ◌<◌, ◌≤◌, min, Bool, true, false, cond, ◌&&◌, ltb, List, [], ◌∷◌, ◌++◌, map, length, take, set, Some, None, Option, sym, refl, ap, ◌∙◌, ap₂, arith}
use Rattle.std.specs.List.{find}
use Rattle.std.specs.Bool.{then_some}
use Rattle.std.specs.Option.{option_or}
use Rattle.std.proofs.lemmas.List.{take_more_set, map_push, take_all}
use Rattle.std.proofs.lemmas.Bool.{lt-ltb, le-ltb}
use Rattle.rules.specs.Plans.{Leg as FlightLeg, Plan as FlightPlan, until, within, legs_right}
use Rattle.rules.specs.Paths.{on_every_axis}
use Rattle.plans.specs.declared.plan.Leg.{Leg}
use Rattle.plans.specs.declared.plan.Plan.{Plan}
use Rattle.plans.specs.Lines.{first_past}
use Rattle.plans.specs.Of.{speed_of, leg_of, legs_of, plan_of, pushed}

pub plan_≡ : (p q : FlightPlan) → p.start ≡ q.start → p.count ≡ q.count → p.legs ≡ q.legs → p.end ≡ q.end → p ≡ q
plan_≡ p q e f g h = λ i. record { start = e i; count = f i; legs = g i; end = h i }

-- a table with one leg more
pub kept_more : (n : ℕ) (ls : List Leg) (l : Leg) → length ls ≡ 8 → n < 8 → legs_of (take (n + 1) (set ls n l)) ≡ cond (ltb n 8) (legs_of (take n ls) ++ leg_of l ∷ []) (legs_of (take n ls))
kept_more n ls l e h = rw (lt-ltb n 8 h) (ap legs_of (take_more_set ls n l (omega arith)) ∙ map_push leg_of (take n ls) l)

pub kept_full : (n m : ℕ) (ls : List Leg) (l : Leg) → length ls ≡ 8 → 8 ≤ n → 8 ≤ m → legs_of (take m ls) ≡ cond (ltb n 8) (legs_of (take n ls) ++ leg_of l ∷ []) (legs_of (take n ls))
kept_full n m ls l e h k = rw (le-ltb n 8 h) (ap legs_of (take_all m ls (omega arith) ∙ sym (take_all n ls (omega arith))))

pub push_kept : (p : Plan) (l : Leg) (e : length (set p.legs p.count l) ≡ 8) → p.count < 8 →
    plan_of (record { start = p.start; legs = set p.legs p.count l; count = p.count + 1; end = p.end; table = e }) ≡ pushed (leg_of l) (plan_of p)
push_kept p l e h = plan_≡ _ _ refl (omega arith) (kept_more p.count p.legs l p.table h) refl

pub push_counted : (p : Plan) (l : Leg) (m : ℕ) (e : length p.legs ≡ 8) → 8 ≤ p.count → m ≡ min (suc p.count) 255 →
    plan_of (record { start = p.start; legs = p.legs; count = m; end = p.end; table = e }) ≡ pushed (leg_of l) (plan_of p)
push_counted p l m e h k = plan_≡ _ _ refl k (kept_full p.count m p.legs l p.table h (omega arith)) refl

-- THE LAST LEG

pub until_last : (ls : List FlightLeg) (l : FlightLeg) (end : ℕ) → until (ls ++ l ∷ []) end ≡ until ls l.from
until_last [] l end = refl
until_last (k ∷ ls) l end = refl

-- whether a leg starts before the tick at which it ends, with speeds in range
abbrev pub leg_right : FlightLeg → ℕ → Bool
leg_right l end = ltb l.from end && on_every_axis (λ a. within 1000 (l.speed a))

and_none : (a b : Bool) → (a && (b && true)) ≡ (a && b)
and_none a b = grind arith

and_more : (a b c d : Bool) → (a && (b && (c && d))) ≡ ((a && (b && c)) && d)
and_more a b c d = grind arith

-- legs are right if those before the last are, up to where the last starts, and the last is
pub right_last : (ls : List FlightLeg) (l : FlightLeg) (end : ℕ) → legs_right (ls ++ l ∷ []) end ≡ (legs_right ls l.from && leg_right l end)
right_last [] l end = and_none (ltb l.from end) (on_every_axis (λ a. within 1000 (l.speed a)))
right_last (k ∷ ls) l end =
    ap₂ (λ (u : ℕ) (r : Bool). ltb k.from u && (on_every_axis (λ a. within 1000 (k.speed a)) && r)) (until_last ls l end) (right_last ls l end)
    ∙ and_more (ltb k.from (until ls l.from)) (on_every_axis (λ a. within 1000 (k.speed a))) (legs_right ls l.from) (leg_right l end)

-- the same, of the code's legs
pub rights_last : (ls rest : List Leg) (l : Leg) (end : ℕ) → ls ≡ rest ++ l ∷ [] → legs_right (legs_of ls) end ≡ (legs_right (legs_of rest) l.start && leg_right (leg_of l) end)
rights_last ls rest l end e = ap (λ (xs : List Leg). legs_right (legs_of xs) end) e ∙ ap (λ (xs : List FlightLeg). legs_right xs end) (map_push leg_of rest l) ∙ right_last (legs_of rest) (leg_of l) end

and_late : (a b c : Bool) → b ≡ false → (a && (b && c)) ≡ false
and_late a b c e = grind arith

and_fast : (a b c : Bool) → c ≡ false → (a && (b && c)) ≡ false
and_fast a b c e = grind arith

and_right : (a b c : Bool) → b ≡ true → c ≡ true → (a && (b && c)) ≡ a
and_right a b c e f = grind arith

module _ (ls rest : List Leg) (l : Leg) (end : ℕ) (e : ls ≡ rest ++ l ∷ []) where
  abbrev slow : Bool
  slow = on_every_axis (λ a. within 1000 (speed_of l.speed a))

  pub last_late : end ≤ l.start → legs_right (legs_of ls) end ≡ false
  last_late h = rights_last ls rest l end e ∙ and_late (legs_right (legs_of rest) l.start) (ltb l.start end) slow (le-ltb l.start end h)

  pub last_fast : slow ≡ false → legs_right (legs_of ls) end ≡ false
  last_fast h = rights_last ls rest l end e ∙ and_fast (legs_right (legs_of rest) l.start) (ltb l.start end) slow h

  pub last_right : l.start < end → slow ≡ true → legs_right (legs_of ls) end ≡ legs_right (legs_of rest) l.start
  last_right h q = rights_last ls rest l end e ∙ and_right (legs_right (legs_of rest) l.start) (ltb l.start end) slow (lt-ltb l.start end h) q

-- THE FIRST BREAK

pub break_or_end : (w : ℕ) (ls : List Leg) (end : ℕ) → option_or (find (λ k. ltb w k) (map (λ (l : Leg). l.start) ls)) (then_some (ltb w end) end) ≡ first_past w (map (λ (l : FlightLeg). l.from) (legs_of ls) ++ (end ∷ []))
break_or_end w [] end = by (ltb w end)
  where
    by : (b : Bool) → option_or None (then_some b end) ≡ cond b (Some end) None
    by true = refl
    by false = refl
break_or_end w (l ∷ ls) end = by (ltb w l.start) _ _ _ (break_or_end w ls end)
  where
    by : (b : Bool) (o p q : Option ℕ) → option_or o p ≡ q → option_or (cond b (Some l.start) o) p ≡ cond b (Some l.start) q
    by true o p q e = refl
    by false o p q e = e

-- the first start above a tick, of legs and a tick that are equal
pub starts_same : (i j : ℕ) (ls ks : List Leg) (o : Option ℕ) → o ≡ find (λ k. ltb j k) (map (λ (l : Leg). l.start) ks) → j ≡ i → ks ≡ ls → o ≡ find (λ k. ltb i k) (map (λ (l : Leg). l.start) ls)
starts_same i j ls ks o e f g = rw (f, g) at e
