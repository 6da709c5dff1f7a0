-- Slots that may be empty, in their order, and their buckets.
use Rattle.std.specs.Prelude.{◌≡◌, ℕ, ◌<◌, true, false, Some, None, Option, ◌≢◌, refl}
use Rattle.std.proofs.Common.{sym, ◌∙◌, ⊎_elim, arith}
use Rattle.std.proofs.lemmas.Bool.{both_ways, cases_Bool, eqb-true}
use Rattle.std.proofs.lemmas.Bool.Decides.{nat_tests}
use Rattle.times.specs.declared.moment.Moment.{Moment}
use Rattle.queues.specs.Entries.{ahead}
use Rattle.queues.specs.EntryOrder.{ahead_chain, ahead_never, ahead_total}
use Rattle.calendar_queue.specs.Entries.{bucket, leads, lies}

pub leads_chain : (i j k : ℕ) (x y z : Option Moment) → leads i x j y ≡ true → leads j y k z ≡ true → leads i x k z ≡ true
unfolding leads
leads_chain i j k None y z h g = h
leads_chain i j k (Some x) None z h g = absurd (both_ways false refl h)
leads_chain i j k (Some x) (Some y) None h g = g
leads_chain i j k (Some x) (Some y) (Some z) h g = ahead_chain (i, x) (j, y) (k, z) h g

pub leads_never : (i : ℕ) (x : Option Moment) → leads i x i x ≡ false
unfolding leads
leads_never i None = refl
leads_never i (Some x) = ahead_never (i, x)

pub lies_none : (b : ℕ) → lies None b ≡ false
unfolding lies
lies_none b = refl

pub lies_bucket : (m : Moment) → lies (Some m) (bucket m) ≡ true
unfolding lies
lies_bucket m = grind (arith, nat_tests)

pub lies_one : (o : Option Moment) (a b : ℕ) → lies o a ≡ true → lies o b ≡ true → a ≡ b
unfolding lies
lies_one None a b h g = absurd (both_ways false refl h)
lies_one (Some m) a b h g = sym (eqb-true (bucket m) a h) ∙ eqb-true (bucket m) b g

pub lies_below : (o : Option Moment) (b : ℕ) → lies o b ≡ true → b < 128
unfolding lies bucket
lies_below None b h = absurd (both_ways false refl h)
lies_below (Some m) b h = let e = eqb-true _ b h in omega arith

-- of two slots of buckets, one comes first
pub leads_total : (i j a b : ℕ) (x y : Option Moment) → lies x a ≡ true → lies y b ≡ true → (i ≢ j) → leads i x j y ≡ false → leads j y i x ≡ true
unfolding leads lies
leads_total i j a b None y h g ne f = absurd (both_ways false refl h)
leads_total i j a b (Some x) None h g ne f = absurd (both_ways false refl g)
leads_total i j a b (Some x) (Some y) h g ne f =
    ⊎_elim (λ t. t) (λ e. absurd (ne (ahead_total (i, x) (j, y) f e))) (cases_Bool (ahead (j, y) (i, x)))

pub leads_empty : (i j : ℕ) (y : Option Moment) → leads i None j y ≡ false
unfolding leads
leads_empty i j y = refl

pub leads_both : (i j : ℕ) (x y : Option Moment) (m k : Moment) → x ≡ Some m → y ≡ Some k → leads i x j y ≡ ahead (i, m) (j, k)
unfolding leads
leads_both i j x y m k e f = rw (e, f)

pub bucket_below : (m : Moment) → bucket m < 128
bucket_below m = lies_below (Some m) (bucket m) (lies_bucket m)
