-- What the hall promises, over every lawful book and every list of calls.
-- It speaks of the calls and what they are told, of paths, and of all fractions; not of how the hall works.
use Rattle.std.specs.Prelude.{◌≡◌, ℕ, suc, ◌+◌, ◌*◌, ◌/◌, ◌%◌, ◌<◌, ◌≤◌, Bool, true, ◌⊎◌, ◌↔◌, List, [], ◌++◌, map, Some, None, Option, nat_eq}
use Rattle.rules.specs.Basics.{◌∈◌, those, below, InTurn}
use Rattle.rules.specs.Fractions.{Fraction, Proper, Before, NotAfter, SameTime, Usual}
use Rattle.rules.specs.Stamps.{Stamp, at}
use Rattle.rules.specs.Paths.{Axis, leg}
use Rattle.rules.specs.Books.{Book, path, break_after, Lawful}
use Rattle.rules.specs.Boxes.{Box, ends, overlap, Fails, Touch, Meets, Parts}
use Rattle.rules.specs.Slots.{Queue, slot, leg_slot}
use Rattle.rules.specs.Pages.{News, met, parted, Report, page_of, page_read}
use Rattle.model.specs.Halls.{quiet, Certificate, opened}
use Rattle.model.specs.Moves.{granted, fired, withdrawn, at_break}
use Rattle.model.specs.Calls.{Call, touching, listing, asking, done, touches, certificate, accepted, Answer}
use Rattle.model.specs.Performing.{perform}
use Rattle.model.specs.Histories.{Event, events, after, lines_told, changes, book_now, boxes_now, clock_now, reports}

-- A hall opens over a book b, and these calls are made: what they were told, what more calls are told
-- after them, what one more call is told, and what the queue holds.
abbrev pub story : Book → List Call → List Event
story b calls = events calls (opened b)

abbrev pub further : Book → List Call → List Call → List Event
further b calls more = events more (after calls (opened b))

abbrev pub next_answer : Book → List Call → Call → Answer
next_answer b calls call = (perform call (after calls (opened b))).answer

abbrev pub queue_after : Book → List Call → Queue
queue_after b calls = (after calls (opened b)).hall.queue

-- ACCOUNTS

-- the certificate question tells this of a slot
abbrev pub Tells : Book → List Call → ℕ → Option Certificate → Type 0
Tells b calls s o = (next_answer b calls (asking s)).result ≡ accepted (certificate o)

-- a number stands when some slot tells it, with a moment or never
abbrev pub TellsNumber : Book → List Call → ℕ → ℕ → Type 0
TellsNumber b calls s n = (f : Option Stamp) × Tells b calls s (Some (record { number = n; fails = f }))

abbrev pub Stands : Book → List Call → ℕ → Type 0
Stands b calls n = (s : ℕ) × TellsNumber b calls s n

-- a craft is entered now
abbrev pub IsIn : Book → List Call → ℕ → Type 0
IsIn b calls c = (k : Box) × (boxes_now (changes (story b calls)) c ≡ Some k)

-- a slot is that of an entered craft's leg, or of two entered craft on an axis
abbrev pub OfEntered : Book → List Call → ℕ → Type 0
OfEntered b calls s =
    ((c : ℕ) × IsIn b calls c × (s ≡ leg_slot c)) ⊎
    ((a : Axis) × (c : ℕ) × (d : ℕ) × (c < d) × IsIn b calls c × IsIn b calls d × (s ≡ slot a c d))

abbrev pub ExactlyOne : Type 0 → Type 0 → Type 0 → Type 0
ExactlyOne P Q R = (P × ¬ Q × ¬ R) ⊎ ((¬ P × Q × ¬ R) ⊎ (¬ P × ¬ Q × R))

pub record Accounts (b : Book) (calls : List Call) : Type 0 where
  -- the granted lines are those of 1, 2, 3 and on to the last, in this order
  pub last : ℕ
  pub limit : last ≤ 20000000
  pub grants : those (λ l. nat_eq (l % 4) 1) (lines_told (story b calls)) ≡ map (λ n. granted (suc n)) (below last)
  -- of two lines of one number the earlier is its grant, the later is not
  pub turns : InTurn (λ x y. x / 4 ≡ y / 4 → (x % 4 ≡ 1) × ¬ (y % 4 ≡ 1)) (lines_told (story b calls))
  -- every number granted stands, or was fired, or was withdrawn; no other has a line or stands
  pub fates : (n : ℕ) → 1 ≤ n → n ≤ last → ExactlyOne (Stands b calls n) (fired n ∈ lines_told (story b calls)) (withdrawn n ∈ lines_told (story b calls))
  pub no_others : (l : ℕ) → l ∈ lines_told (story b calls) → (1 ≤ l % 4) × (1 ≤ l / 4) × (l / 4 ≤ last)
  pub known : (n : ℕ) → Stands b calls n → (1 ≤ n) × (n ≤ last)
  -- no two slots tell one number
  pub apart : (s t n : ℕ) → TellsNumber b calls s n → TellsNumber b calls t n → s ≡ t
  -- exactly the slots of the entered craft and pairs tell one
  pub slots : (s : ℕ) → ((n : ℕ) × TellsNumber b calls s n) ↔ OfEntered b calls s
  -- the queue holds a moment in a slot exactly where that slot tells a number with this moment, and nothing above the last slot
  pub queued : (s : ℕ) (k : Stamp) → (queue_after b calls s ≡ Some k) ↔ ((n : ℕ) × Tells b calls s (Some (record { number = n; fails = Some k })))
  pub no_more : (s : ℕ) → 12352 ≤ s → queue_after b calls s ≡ None

-- When a certificate fails, told with a quiet clock at t.
pub record Certificates (b : Book) (calls : List Call) : Type 0 where
  -- that of a pair on an axis: at the first moment, over all fractions, at which the two do not overlap there as they do at t,
  -- on the legs that their paths are on at t; or never
  pub pairs : (t : Fraction) → clock_now (story b calls) ≡ quiet t → (a : Axis) (c d n : ℕ) (f : Option Stamp) → c < d →
      Tells b calls (slot a c d) (Some (record { number = n; fails = f })) →
      let xs = changes (story b calls) in (k l : Box) → boxes_now xs c ≡ Some k → boxes_now xs d ≡ Some l →
      let p = ends k a (leg (path (book_now b xs) c) t a) in let q = ends l a (leg (path (book_now b xs) d) t a) in
      Fails (overlap p q (at t)) p q (at t) f
  -- that of a craft's leg: at side 0 of the first break of its path after t, or never
  pub legs : (t : Fraction) → clock_now (story b calls) ≡ quiet t → (c n : ℕ) (f : Option Stamp) →
      Tells b calls (leg_slot c) (Some (record { number = n; fails = f })) →
      f ≡ at_break (break_after (book_now b (changes (story b calls))) c t)

-- TOUCHING

-- P is so of the boxes of c and d, which are entered, on the paths of the book now
abbrev pub OfPair : Book → List Call → ℕ → ℕ → ((Fraction → Type 0) → Type 0) → Type 0
OfPair b calls c d P = let xs = changes (story b calls) in
    (k : Box) × (l : Box) × (boxes_now xs c ≡ Some k) × (boxes_now xs d ≡ Some l) × P (Touch (path (book_now b xs) c) k (path (book_now b xs) d) l)

abbrev pub TouchAt : Book → List Call → Fraction → ℕ → ℕ → Type 0
TouchAt b calls t c d = OfPair b calls c d (λ touch. touch t)

pub record Touching (b : Book) (calls : List Call) : Type 0 where
  -- with a quiet clock at t the touching question, unless refused, tells whether the two touch at t
  pub asked : (t : Fraction) → clock_now (story b calls) ≡ quiet t → (c d : ℕ) (yes : Bool) →
      (next_answer b calls (touching t c d)).result ≡ accepted (touches yes) → (yes ≡ true) ↔ TouchAt b calls t c d
  -- and the list, unless refused, has exactly the pairs that touch at t, each lower number first, ascending
  pub listed : (t : Fraction) → clock_now (story b calls) ≡ quiet t → (room : ℕ) →
      (next_answer b calls (listing t room)).result ≡ accepted done →
      let list = (next_answer b calls (listing t room)).list in
      InTurn (λ x y. x < y) list × ((x : ℕ) → (x ∈ list) ↔ ((c : ℕ) × (d : ℕ) × (c < d) × (x ≡ c * 64 + d) × TouchAt b calls t c d))

-- REPORTS

-- what there is to report from a quiet clock at s to one at t: meetings in (s, t] and partings in [s, t)
abbrev pub Happens : Book → List Call → Fraction → Fraction → News → Fraction → Type 0
Happens b calls s t (met c d) u = Before s u × NotAfter u t × (c < d) × OfPair b calls c d (λ touch. Meets touch u)
Happens b calls s t (parted c d) u = NotAfter s u × Before u t × (c < d) × OfPair b calls c d (λ touch. Parts touch u)

-- more calls lead from a quiet clock at s to one at t, with no change accepted between
pub record Onward (b : Book) (calls more : List Call) (s t : Fraction) : Type 0 where
  pub starts : clock_now (story b calls) ≡ quiet s
  pub stops : clock_now (story b (calls ++ more)) ≡ quiet t
  pub unchanged : changes (further b calls more) ≡ []

abbrev pub IsParting : News → Type 0
IsParting (met c d) = ⊥
IsParting (parted c d) = Unit

-- times never fall, at equal times meetings come first, and nothing is told twice
pub record InOrder (r q : Report) : Type 0 where
  pub times : NotAfter r.time q.time
  pub meetings : SameTime r.time q.time → IsParting r.news → IsParting q.news
  pub once : ¬ (r ≡ q)

pub record Reports (b : Book) (calls : List Call) : Type 0 where
  -- what is told happens, at that time in least terms
  pub true_told : (more : List Call) (s t : Fraction) → Onward b calls more s t → (r : Report) → r ∈ reports (further b calls more) →
      Usual r.time × Happens b calls s t r.news r.time
  -- what happens, at whatever fraction, is told
  pub all_told : (more : List Call) (s t : Fraction) → Onward b calls more s t → (w : News) (u : Fraction) → Proper u → Happens b calls s t w u →
      (r : Report) × (r ∈ reports (further b calls more)) × (r.news ≡ w) × SameTime r.time u
  pub ordered : (more : List Call) (s t : Fraction) → Onward b calls more s t → InTurn InOrder (reports (further b calls more))
  -- two ways on to one time tell the same, wherever they rest, step or run
  pub same : (more other : List Call) (s t : Fraction) → Onward b calls more s t → Onward b calls other s t →
      reports (further b calls more) ≡ reports (further b calls other)
  -- a page reads back as reports, and holds their records, whole, and nothing else
  pub pages : (e : Event) → e ∈ story b calls → (rs : List Report) × (page_read e.answer.page ≡ Some rs) × (e.answer.page ≡ page_of rs)

-- THE WHOLE

abbrev pub Promise : Type 0
Promise = (b : Book) → Lawful b → b.scale ≤ 8 → (calls : List Call) → Accounts b calls × Certificates b calls × Touching b calls × Reports b calls
