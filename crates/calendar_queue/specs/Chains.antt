-- Linking a slot into its bucket and unlinking it keep every place right.
use Rattle.std.specs.Prelude.{◌≡◌, ℕ, ◌+◌, ◌<◌, true, false, Some, None, Option, ◌≢◌, refl}
use Rattle.std.proofs.Common.{sym, ap, ◌∙◌, subst, ⊎_elim, arith}
use Rattle.std.proofs.lemmas.Bool.{both_ways, cases_Bool, cases_eq}
use Rattle.times.specs.declared.moment.Moment.{Moment}
use Rattle.calendar_queue.specs.Entries.{bucket, leads, lies}
use Rattle.calendar_queue.specs.Links.{Table, stands, opens, Follows}
use Rattle.calendar_queue.specs.Order.{leads_chain, leads_never, leads_total, lies_none, lies_one, lies_bucket, bucket_below}
use Rattle.calendar_queue.specs.Places.{Bounded, Comes, lies_slot, stands_slot, opens_slot, stands_at, opens_at, stands_one, opens_chain, places_total, follows_at, begins, apart_empty, apart_opens}

-- every place names what follows
abbrev pub Right : Table → (ℕ → ℕ) → Type 0
Right t f = (p b : ℕ) → b < 128 → stands t p b ≡ true → Follows t b p (f p)

-- the tables t and u are the same but for slot x
abbrev pub But : Table → Table → ℕ → Type 0
But t u x = (k : ℕ) → (k ≢ x) → u k ≡ t k

module _ (t u : Table) (x : ℕ) (but : But t u x) where
  pub lies_on : (k b : ℕ) → (k ≢ x) → lies (t k) b ≡ true → lies (u k) b ≡ true
  lies_on k b ne h = ap (λ o. lies o b) (but k ne) ∙ h

  pub lies_back : (k b : ℕ) → (k ≢ x) → lies (u k) b ≡ true → lies (t k) b ≡ true
  lies_back k b ne h = sym (ap (λ o. lies o b) (but k ne)) ∙ h

  pub opens_same : (p j : ℕ) → (p ≢ x) → (j ≢ x) → opens u p j (u j) ≡ opens t p j (t j)
  opens_same p j np nj = opens_at u t p j (u j) (but p np) ∙ ap (opens t p j) (but j nj)

  pub leads_same : (i j : ℕ) → (i ≢ x) → (j ≢ x) → leads i (u i) j (u j) ≡ leads i (t i) j (t j)
  leads_same i j ni nj = ap (λ o. leads i o j (u j)) (but i ni) ∙ ap (leads i (t i) j) (but j nj)

  pub stands_back : (p b : ℕ) → (p ≢ x) → stands u p b ≡ true → stands t p b ≡ true
  stands_back p b ne h = sym (stands_at u t p b (but p ne)) ∙ h

-- the slot x, which was empty, gets the moment m after place p
module _ (t u : Table) (f g : ℕ → ℕ) (x p : ℕ) (m : Moment) (bd : Bounded t) (right : Right t f)
    (inside : x < 12352) (empty : t x ≡ None) (put : u x ≡ Some m) (but : But t u x)
    (gx : g x ≡ f p) (gp : g p ≡ x) (gk : (k : ℕ) → (k ≢ x) → (k ≢ p) → g k ≡ f k)
    (sp : stands t p (bucket m) ≡ true) (op : opens t p x (Some m) ≡ true) (last : leads (f p) (t (f p)) x (Some m) ≡ false) where
  -- a slot of a bucket is another than x
  apart : (k a : ℕ) → lies (t k) a ≡ true → k ≢ x
  apart k a h e = both_ways (lies (t k) a) (ap (λ i. lies (t i) a) e ∙ ap (λ o. lies o a) empty ∙ lies_none a) h

  place_apart : p ≡ x → ⊥
  place_apart = apart_empty t p x (bucket m) inside empty sp

  was : Follows t (bucket m) p (f p)
  was = right p (bucket m) (bucket_below m) sp

  -- x comes before what followed p
  x_leads : f p < 12352 → leads x (Some m) (f p) (t (f p)) ≡ true
  x_leads l =
      leads_total (f p) x (bucket m) (bucket m) (t (f p)) (Some m) (was.inside l) (lies_bucket m) (apart (f p) (bucket m) (was.inside l)) last

  put_lies : (a : ℕ) → lies (u x) a ≡ true → a ≡ bucket m
  put_lies a h = lies_one (Some m) a (bucket m) (sym (ap (λ o. lies o a) put) ∙ h) (lies_bucket m)

  x_opens : (j : ℕ) → opens u x j (u j) ≡ leads x (Some m) j (u j)
  x_opens j = opens_slot u x j (u j) inside ∙ ap (λ o. leads x o j (u j)) put

  x_itself : opens u x x (u x) ≡ true → ⊥
  x_itself h = apart_opens u x x inside h refl

  at_x : Follows u (bucket m) x (f p)
  at_x = record {
    inside = λ l. lies_on t u x but (f p) (bucket m) (apart (f p) (bucket m) (was.inside l)) (was.inside l);
    after = λ l. x_opens (f p) ∙ ap (leads x (Some m) (f p)) (but (f p) (apart (f p) (bucket m) (was.inside l))) ∙ x_leads l;
    some = λ j lj oj. was.some j (back j lj oj) (past j lj oj);
    least = λ j lj oj.
        let ne = other j oj in
        let nf = apart (f p) (bucket m) (was.inside (was.some j (back j lj oj) (past j lj oj))) in
        leads_same t u x but j (f p) ne nf ∙ was.least j (back j lj oj) (past j lj oj);
  }
    where
      other : (j : ℕ) → opens u x j (u j) ≡ true → j ≢ x
      other j oj e = x_itself (subst (λ (k : ℕ). opens u x k (u k) ≡ true) e oj)

      back : (j : ℕ) → lies (u j) (bucket m) ≡ true → opens u x j (u j) ≡ true → lies (t j) (bucket m) ≡ true
      back j lj oj = lies_back t u x but j (bucket m) (other j oj) lj

      past : (j : ℕ) → lies (u j) (bucket m) ≡ true → opens u x j (u j) ≡ true → opens t p j (t j) ≡ true
      past j lj oj =
          opens_chain t p x j (Some m) (t j) op (sym (x_opens j ∙ ap (leads x (Some m) j) (but j (other j oj))) ∙ oj)

  at_p : Follows u (bucket m) p x
  at_p = record {
    inside = λ _. ap (λ o. lies o (bucket m)) put ∙ lies_bucket m;
    after = λ _. opens_at u t p x (u x) (but p place_apart) ∙ ap (opens t p x) put ∙ op;
    some = λ j lj oj. inside;
    least = λ j lj oj. ⊎_elim (self j) (other j lj oj) (cases_eq j x);
  }
    where
      self : (j : ℕ) → j ≡ x → leads j (u j) x (u x) ≡ false
      self j e = subst (λ (k : ℕ). leads k (u k) x (u x) ≡ false) (sym e) (leads_never x (u x))

      other : (j : ℕ) → lies (u j) (bucket m) ≡ true → opens u p j (u j) ≡ true → (j ≢ x) → leads j (u j) x (u x) ≡ false
      other j lj oj ne =
          let lt : lies (t j) (bucket m) ≡ true = lies_back t u x but j (bucket m) ne lj in
          let ot : opens t p j (t j) ≡ true = sym (opens_same t u x but p j place_apart ne) ∙ oj in
          let n : f p < 12352 = was.some j lt ot in
          let nl : leads j (t j) (f p) (t (f p)) ≡ false = was.least j lt ot in
          ⊎_elim
          (λ h.
          let h' : leads j (t j) x (Some m) ≡ true = sym (ap (λ o. leads j o x (u x)) (but j ne) ∙ ap (leads j (t j) x) put) ∙ h in
          absurd (both_ways _ nl (leads_chain j x (f p) (t j) (Some m) (t (f p)) h' (x_leads n))))
          (λ h. h)
          (cases_Bool (leads j (u j) x (u x)))

  module _ (q a : ℕ) (la : a < 128) (nx : q ≡ x → ⊥) (np : q ≡ p → ⊥) (sq : stands t q a ≡ true) where
    had : Follows t a q (f q)
    had = right q a la sq

    -- q comes before x: then what follows q does so too
    passes : a ≡ bucket m → opens t q x (Some m) ≡ true → (f q < 12352) × (leads x (Some m) (f q) (t (f q)) ≡ false)
    passes e o = ⊎_elim ahead behind (places_total t p q (bucket m) sp sq' (λ i. np (sym i)))
      where
        sq' : stands t q (bucket m) ≡ true
        sq' = subst (λ (k : ℕ). stands t q k ≡ true) e sq

        ahead : Comes t (bucket m) p q → (f q < 12352) × (leads x (Some m) (f q) (t (f q)) ≡ false)
        ahead c =
            let n : f p < 12352 = was.some q c.0 c.1 in
            let ql : q < 12352 = lies_slot t q (bucket m) bd c.0 in
            let qx : leads q (t q) x (Some m) ≡ true = sym (opens_slot t q x (Some m) ql) ∙ o in
            absurd (both_ways _ (was.least q c.0 c.1) (leads_chain q x (f p) (t q) (Some m) (t (f p)) qx (x_leads n)))

        behind : Comes t (bucket m) q p → (f q < 12352) × (leads x (Some m) (f q) (t (f q)) ≡ false)
        behind c =
            let h = had in
            let pa : lies (t p) a ≡ true = subst (λ (k : ℕ). lies (t p) k ≡ true) (sym e) c.0 in
            let n : f q < 12352 = had.some p pa c.1 in
            let nl : leads p (t p) (f q) (t (f q)) ≡ false = had.least p pa c.1 in
            let pl : p < 12352 = lies_slot t p (bucket m) bd c.0 in
            let px : leads p (t p) x (Some m) ≡ true = sym (opens_slot t p x (Some m) pl) ∙ op in (
              n,
              ⊎_elim
                  (λ v. absurd (both_ways _ nl (leads_chain p x (f q) (t p) (Some m) (t (f q)) px v)))
                  (λ v. v)
                  (cases_Bool (leads x (Some m) (f q) (t (f q)))),
            )

    at_q : Follows u a q (f q)
    at_q = record {
      inside = λ l. lies_on t u x but (f q) a (apart (f q) a (had.inside l)) (had.inside l);
      after = λ l. opens_same t u x but q (f q) nx (apart (f q) a (had.inside l)) ∙ had.after l;
      some = λ j lj oj. ⊎_elim (λ e. (here j e lj oj).0) (λ ne. had.some j (lies_back t u x but j a ne lj) (sym (opens_same t u x but q j nx ne) ∙ oj)) (cases_eq j x);
      least = λ j lj oj.
          ⊎_elim
          (λ e. (here j e lj oj).1)
          (λ ne.
          let lt = lies_back t u x but j a ne lj in
          let ot : opens t q j (t j) ≡ true = sym (opens_same t u x but q j nx ne) ∙ oj in
          leads_same t u x but j (f q) ne (apart (f q) a (had.inside (had.some j lt ot))) ∙ had.least j lt ot)
          (cases_eq j x);
    }
      where
        here : (j : ℕ) → j ≡ x → lies (u j) a ≡ true → opens u q j (u j) ≡ true → (f q < 12352) × (leads j (u j) (f q) (u (f q)) ≡ false)
        here j e lj oj =
            let ux : u j ≡ Some m = ap u e ∙ put in
            let same : a ≡ bucket m = put_lies a (subst (λ (k : ℕ). lies (u k) a ≡ true) e lj) in
            let ox : opens t q x (Some m) ≡ true = sym (opens_at u t q x (Some m) (but q nx)) ∙ sym (ap (opens u q x) put) ∙ subst (λ (k : ℕ). opens u q k (u k) ≡ true) e oj in
            let r = passes same ox in
            let nf = apart (f q) a (had.inside r.0) in (
              r.0,
              ap (λ (k : ℕ). leads k (u k) (f q) (u (f q))) e ∙ ap (λ o. leads x o (f q) (u (f q))) put ∙ ap (leads x (Some m) (f q)) (but (f q) nf) ∙ r.1,
            )

  pub linked_in : Right u g
  linked_in q a la s = ⊎_elim is_x (λ nx. ⊎_elim (is_p nx) (is_other nx) (cases_eq q p)) (cases_eq q x)
    where
      is_x : q ≡ x → Follows u a q (g q)
      is_x e =
          let same : a ≡ bucket m = put_lies a (sym (stands_slot u x a inside) ∙ subst (λ (k : ℕ). stands u k a ≡ true) e s) in
          follows_at u (bucket m) a x q (f p) (g q) (sym same) (sym e) (sym (ap g e ∙ gx)) at_x

      is_p : (q ≢ x) → q ≡ p → Follows u a q (g q)
      is_p nx e =
          let sa : stands t p a ≡ true = subst (λ (k : ℕ). stands t k a ≡ true) e (stands_back t u x but q a nx s) in
          follows_at u (bucket m) a p q x (g q) (stands_one t p (bucket m) a sp sa) (sym e) (sym (ap g e ∙ gp)) at_p

      is_other : (q ≢ x) → (q ≢ p) → Follows u a q (g q)
      is_other nx np =
          follows_at u a a q q (f q) (g q) refl refl (sym (gk q nx np)) (at_q q a la nx np (stands_back t u x but q a nx s))

-- the slot x, which held m, is emptied; it followed place p
module _ (t u : Table) (f g : ℕ → ℕ) (x p : ℕ) (m : Moment) (bd : Bounded t) (right : Right t f)
    (inside : x < 12352) (full : t x ≡ Some m) (gone : u x ≡ None) (but : But t u x)
    (gp : g p ≡ f x) (gk : (k : ℕ) → (k ≢ x) → (k ≢ p) → g k ≡ f k)
    (sp : stands t p (bucket m) ≡ true) (op : opens t p x (Some m) ≡ true) (last : leads (f p) (t (f p)) x (Some m) ≡ false) where
  x_lies : lies (t x) (bucket m) ≡ true
  x_lies = ap (λ o. lies o (bucket m)) full ∙ lies_bucket m

  x_stands : stands t x (bucket m) ≡ true
  x_stands = stands_slot t x (bucket m) inside ∙ x_lies

  op' : opens t p x (t x) ≡ true
  op' = ap (opens t p x) full ∙ op

  before : Follows t (bucket m) p (f p)
  before = right p (bucket m) (bucket_below m) sp

  after_x : Follows t (bucket m) x (f x)
  after_x = right x (bucket m) (bucket_below m) x_stands

  -- x is what followed p
  pub named : f p ≡ x
  named =
      let n : f p < 12352 = before.some x x_lies op' in
      ⊎_elim
      (λ e. e)
      (λ ne.
      let h : leads x (t x) (f p) (t (f p)) ≡ true =
      leads_total (f p) x (bucket m) (bucket m) (t (f p)) (t x) (before.inside n) x_lies ne (ap (leads (f p) (t (f p)) x) full ∙ last) in
      absurd (both_ways _ (before.least x x_lies op') h))
      (cases_eq (f p) x)

  -- no place comes before itself
  x_opens' : (j : ℕ) (o : Option Moment) → opens t x j o ≡ leads x (t x) j o
  x_opens' j o = opens_slot t x j o inside

  p_apart : p ≡ x → ⊥
  p_apart = apart_opens t p x inside op'

  gone_lies : (j a : ℕ) → lies (u j) a ≡ true → j ≢ x
  gone_lies j a h e = both_ways _ (ap (λ (k : ℕ). lies (u k) a) e ∙ ap (λ o. lies o a) gone ∙ lies_none a) h

  p_now : Follows u (bucket m) p (f x)
  p_now = record {
    inside = λ l. lies_on t u x but (f x) (bucket m) (next_apart l) (after_x.inside l);
    after = λ l.
        opens_same t u x but p (f x) p_apart (next_apart l)
        ∙ opens_chain t p x (f x) (t x) (t (f x)) op' (sym (x_opens' (f x) (t (f x))) ∙ after_x.after l);
    some = λ j lj oj. after_x.some j (in_t j lj) (past j lj oj);
    least = λ j lj oj.
        leads_same t u x but j (f x) (gone_lies j (bucket m) lj) (next_apart (after_x.some j (in_t j lj) (past j lj oj)))
        ∙ after_x.least j (in_t j lj) (past j lj oj);
  }
    where
      next_apart : f x < 12352 → f x ≢ x
      next_apart l e = apart_opens t x (f x) l (after_x.after l) (sym e)

      in_t : (j : ℕ) → lies (u j) (bucket m) ≡ true → lies (t j) (bucket m) ≡ true
      in_t j lj = lies_back t u x but j (bucket m) (gone_lies j (bucket m) lj) lj

      past : (j : ℕ) → lies (u j) (bucket m) ≡ true → opens u p j (u j) ≡ true → opens t x j (t j) ≡ true
      past j lj oj =
          let ne = gone_lies j (bucket m) lj in
          let ot : opens t p j (t j) ≡ true = sym (opens_same t u x but p j p_apart ne) ∙ oj in
          let nl : leads j (t j) x (t x) ≡ false = subst (λ (k : ℕ). leads j (t j) k (t k) ≡ false) named (before.least j (in_t j lj) ot) in
          x_opens' j (t j) ∙ leads_total j x (bucket m) (bucket m) (t j) (t x) (in_t j lj) x_lies ne nl

  module _ (q a : ℕ) (la : a < 128) (nx : q ≡ x → ⊥) (np : q ≡ p → ⊥) (sq : stands t q a ≡ true) where
    kept : Follows t a q (f q)
    kept = right q a la sq

    -- no other place names x
    names_other : f q ≡ x → ⊥
    names_other e = ⊎_elim ahead behind (places_total t p q (bucket m) sp sq' (λ i. np (sym i)))
      where
        xl : f q < 12352
        xl = omega arith

        same : a ≡ bucket m
        same = lies_one (t x) a (bucket m) (subst (λ (k : ℕ). lies (t k) a ≡ true) e (kept.inside xl)) x_lies

        sq' : stands t q (bucket m) ≡ true
        sq' = subst (λ (k : ℕ). stands t q k ≡ true) same sq

        qx : opens t q x (t x) ≡ true
        qx = subst (λ (k : ℕ). opens t q k (t k) ≡ true) e (kept.after xl)

        ahead : Comes t (bucket m) p q → ⊥
        ahead c =
            let ql : q < 12352 = lies_slot t q (bucket m) bd c.0 in
            let h : leads q (t q) x (t x) ≡ true = sym (opens_slot t q x (t x) ql) ∙ qx in
            both_ways _ (subst (λ (k : ℕ). leads q (t q) k (t k) ≡ false) named (before.least q c.0 c.1)) h

        behind : Comes t (bucket m) q p → ⊥
        behind c =
            let pl : p < 12352 = lies_slot t p (bucket m) bd c.0 in
            let pa : lies (t p) a ≡ true = subst (λ (k : ℕ). lies (t p) k ≡ true) (sym same) c.0 in
            let h : leads p (t p) x (t x) ≡ true = sym (opens_slot t p x (t x) pl) ∙ op' in
            both_ways _ (subst (λ (k : ℕ). leads p (t p) k (t k) ≡ false) e (kept.least p pa c.1)) h

    q_now : Follows u a q (f q)
    q_now = record {
      inside = λ l. lies_on t u x but (f q) a names_other (kept.inside l);
      after = λ l. opens_same t u x but q (f q) nx names_other ∙ kept.after l;
      some = λ j lj oj.
          let ne = gone_lies j a lj in
          kept.some j (lies_back t u x but j a ne lj) (sym (opens_same t u x but q j nx ne) ∙ oj);
      least = λ j lj oj.
          let ne = gone_lies j a lj in
          leads_same t u x but j (f q) ne names_other ∙ kept.least j (lies_back t u x but j a ne lj) (sym (opens_same t u x but q j nx ne) ∙ oj);
    }

  pub linked_out : Right u g
  linked_out q a la s = ⊎_elim is_p is_other (cases_eq q p)
    where
      nx : q ≡ x → ⊥
      nx e =
          let l : q < 12352 = omega arith in
          gone_lies q a (sym (stands_slot u q a l) ∙ s) e

      st : stands t q a ≡ true
      st = stands_back t u x but q a nx s

      is_p : q ≡ p → Follows u a q (g q)
      is_p e =
          let sa : stands t p a ≡ true = subst (λ (k : ℕ). stands t k a ≡ true) e st in
          follows_at u (bucket m) a p q (f x) (g q) (stands_one t p (bucket m) a sp sa) (sym e) (sym (ap g e ∙ gp)) p_now

      is_other : (q ≢ p) → Follows u a q (g q)
      is_other np = follows_at u a a q q (f q) (g q) refl refl (sym (gk q nx np)) (q_now q a la nx np st)

-- the other buckets keep their first entries
pub heads_stay : (t u : Table) (f : ℕ → ℕ) (x p : ℕ) (m : Moment) → Right t f → x < 12352 → But t u x → stands t p (bucket m) ≡ true → ((a : ℕ) → lies (t x) a ≡ true → a ≡ bucket m) →
    (b : ℕ) → b < 128 → (b ≢ bucket m) → (12352 + b ≢ p) × (u (f (12352 + b)) ≡ t (f (12352 + b)))
heads_stay t u f x p m right inside but sp held b lb ne = (
  λ e. ne (stands_one t p b (bucket m) (subst (λ (k : ℕ). stands t k b ≡ true) e (begins t b)) sp),
  but (f (12352 + b)) (λ e.
      let l : f (12352 + b) < 12352 = omega arith in
      ne (held b (subst (λ (k : ℕ). lies (t k) b ≡ true) e ((right (12352 + b) b lb (begins t b)).inside l)))),
)
