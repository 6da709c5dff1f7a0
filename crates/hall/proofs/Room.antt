-- After the refusals passed there is room for the lines and there are numbers enough.
use Rattle.std.proofs.Common.{◌≡◌, ℕ, ◌≤◌, Bool, true, false, cond, ltb, List, [], ◌∷◌, length, None, Ok, Err, Result, sym, ap, subst, arith}
use Rattle.std.proofs.lemmas.Bool.{ltb-false, leb-false}
use Rattle.rules.specs.Fractions.{Fraction}
use Rattle.rules.specs.Stamps.{Stamp, at}
use Rattle.rules.specs.Books.{BookChange, book_rows}
use Rattle.rules.specs.Boxes.{Box, box_right}
use Rattle.model.specs.Halls.{quiet, Hall, State, left}
use Rattle.model.specs.Moves.{enter, leave, change}
use Rattle.model.specs.Calls.{changing, entering, leaving, booking}
use Rattle.model.specs.Refusals.{not_mine, change_rows, rows, refusal}
use Rattle.accounts.proofs.Counts.{enter_within, leave_within, change_within}
use Rattle.accounts.proofs.Sound.{fit_none, unfit, fit_rest}
use Rattle.geometry.specs.Of.{sizes, box_made}
use Rattle.floor_laws.specs.Writing.{Fits, Wrote}
use Rattle.floor_laws.proofs.Writes.{fits_as, wrote_as}

abbrev got : Box → Result Box ℕ → Box
got d (Ok b) = b
got d (Err e) = d

abbrev IsOk : Result Box ℕ → Type 0
IsOk (Ok b) = Unit {0}
IsOk (Err e) = ⊥

pub entering_fits : (t : Fraction) (c : ℕ) (b : Box) (z : State) (s : List ℕ) → refusal (changing t (entering c b) (length s)) z ≡ None → Fits (enter c b (at t)) 0 z.hall s
entering_fits t c b z s e =
    let u = unfit (rows (changing t (entering c b) (length s)) z) e in
    let low = leb-false 64 c u.1.0 in
    let room = ltb-false (length s) 190 u.1.1.1.1.0 in
    let numbers = ltb-false (left z.hall) 190 u.1.1.1.1.1.0 in
    let w = enter_within c b (at t) z.hall low in
    record { room = omega (arith, room, w.lines); numbers = omega (arith, numbers, w.most) }

pub leaving_fits : (t : Fraction) (c : ℕ) (z : State) (s : List ℕ) → z.hall.last ≤ 20000000 → refusal (changing t (leaving c) (length s)) z ≡ None → Fits (leave c) 0 z.hall s
leaving_fits t c z s few e =
    let u = unfit (rows (changing t (leaving c) (length s)) z) e in
    let low = leb-false 64 c u.1.0 in
    let room = ltb-false (length s) 190 u.1.1.1.0 in
    let w = leave_within c z.hall low in
    record { room = omega (arith, room, w.lines); numbers = omega (arith, few, w.most) }

pub booking_fits : (t : Fraction) (x : BookChange) (z : State) (s : List ℕ) → refusal (changing t (booking x) (length s)) z ≡ None → Fits (change x (at t)) 0 z.hall s
booking_fits t x z s e =
    let last : List (ℕ × Bool) = (15, ltb (length s) 12224) ∷ (16, ltb (left z.hall) 6112) ∷ [] in
    let u = unfit last (fit_rest (book_rows x z.hall.book) last (fit_none 1 (not_mine z (quiet t)) (change_rows (booking x) (length s) z.hall) e).1) in
    let room = ltb-false (length s) 12224 u.0 in
    let numbers = ltb-false (left z.hall) 6112 u.1.0 in
    let w = change_within x (at t) z.hall in
    record { room = omega (arith, room, w.lines); numbers = omega (arith, numbers, w.most) }

-- half sizes that were made are those given, where the box is right
pub sizes_made : (x y z : ℕ) (b : Box) → Ok b ≡ box_made x y z → b ≡ sizes x y z
sizes_made x y z b e = by (box_right (sizes x y z)) e where
  by : (t : Bool) → ◌≡◌ {A = Result Box ℕ} (Ok b) (cond t (Ok (sizes x y z)) (Err 6)) → b ≡ sizes x y z
  by true q = ap (got b) q
  by false q = absurd (subst IsOk q tt)

-- an entering by a craft, a box and a moment that are the same
pub fits_alike : (c c' : ℕ) (b b' : Box) (k k' : Stamp) (m : Hall) (s : List ℕ) → c' ≡ c → b' ≡ b → k' ≡ k → Fits (enter c b k) 0 m s → Fits (enter c' b' k') 0 m s
fits_alike c c' b b' k k' m s o p q = fits_as (enter c b k) (enter c' b' k') 0 m m s (λ i. enter (sym o i) (sym p i) (sym q i) m)

pub wrote_alike : (c c' : ℕ) (b b' : Box) (k k' : Stamp) (m m' : Hall) (s s' : List ℕ) (r : ℕ) → c' ≡ c → b' ≡ b → k' ≡ k → Wrote (enter c' b' k') 0 m m' s s' r → Wrote (enter c b k) 0 m m' s s' r
wrote_alike c c' b b' k k' m m' s s' r o p q = wrote_as (enter c b k) (enter c' b' k') 0 m m m' s s' r (λ i. enter (sym o i) (sym p i) (sym q i) m)

-- the same of a change of the book
pub change_fits_alike : (x x' : BookChange) (k k' : Stamp) (m : Hall) (s : List ℕ) → x' ≡ x → k' ≡ k → Fits (change x k) 0 m s → Fits (change x' k') 0 m s
change_fits_alike x x' k k' m s p q = fits_as (change x k) (change x' k') 0 m m s (λ i. change (sym p i) (sym q i) m)

pub change_wrote_alike : (x x' : BookChange) (k k' : Stamp) (m m' : Hall) (s s' : List ℕ) (r : ℕ) → x' ≡ x → k' ≡ k → Wrote (change x' k') 0 m m' s s' r → Wrote (change x k) 0 m m' s s' r
change_wrote_alike x x' k k' m m' s s' r p q = wrote_as (change x k) (change x' k') 0 m m m' s s' r (λ i. change (sym p i) (sym q i) m)
