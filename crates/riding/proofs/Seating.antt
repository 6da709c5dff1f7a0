-- Tables of seats.
use Rattle.std.proofs.Common.{◌≡◌, ℕ, zero, suc, get_or, replicate, None, Option, refl}

pub none_here : {A : Type 0} (n c : ℕ) → ◌≡◌ {A = Option A} (get_or (replicate n None) c None) None
none_here zero c = refl
none_here (suc n) zero = refl
none_here (suc n) (suc c) = none_here n c
